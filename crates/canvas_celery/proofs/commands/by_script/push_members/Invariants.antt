use Rattle.std.proofs.Common.{◌≡◌, ◌++◌, map, drop}
use Rattle.std.specs.Prelude.{decimal}
use Rattle.canvas_celery.specs.Resp.{words_bytes}
use Rattle.canvas_celery.specs.steps.Sizes.{size_view}
use Rattle.canvas_celery.proofs.commands.by_script.push_members.Given as goal

abbrev pub invariant-loop-size : goal.invariant-loop-size
invariant-loop-size l =
    l.out.items ++ words_bytes (map (λ s. decimal (size_view s).1) (drop l.size-index l.sizes))
    ≡ l.fn.out.items ++ words_bytes (map (λ s. decimal (size_view s).1) l.sizes)
