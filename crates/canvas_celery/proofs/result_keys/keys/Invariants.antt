use Rattle.std.proofs.Common.{◌≡◌}
use Rattle.canvas_celery.specs.Keys.{result_keys}
use Rattle.canvas_celery.proofs.result_keys.keys.Given as goal

abbrev pub invariant-loop-index : goal.invariant-loop-index
invariant-loop-index l = l.out.items ≡ result_keys l.run.digits l.prefix l.index
