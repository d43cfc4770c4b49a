use Rattle.std.proofs.Common.{◌≡◌, ◌++◌, map, drop}
use Rattle.canvas_celery.specs.Resp.{words_bytes}
use Rattle.canvas_celery.proofs.commands.resp.push_texts.Given as goal

abbrev pub invariant-loop-text : goal.invariant-loop-text
invariant-loop-text l =
    l.out.items ++ words_bytes (map (λ t. t.items) (drop l.text-index l.texts)) ≡ l.fn.out.items ++ words_bytes (map (λ t. t.items) l.texts)
