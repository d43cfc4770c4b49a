use Rattle.std.proofs.Common.{◌≡◌, ◌++◌, map, drop}
use Rattle.canvas_celery.specs.Resp.{words_bytes}
use Rattle.canvas_celery.specs.Keys.{size_key}
use Rattle.canvas_celery.specs.steps.Sizes.{size_view}
use Rattle.canvas_celery.proofs.commands.by_script.push_size_keys.Given as goal

abbrev pub invariant-loop-size : goal.invariant-loop-size
invariant-loop-size l =
    l.out.items ++ words_bytes (map (λ s. size_key l.run.digits l.prefix (size_view s).0) (drop l.size-index l.sizes))
    ≡ l.fn.out.items ++ words_bytes (map (λ s. size_key l.run.digits l.prefix (size_view s).0) l.sizes)
