use Rattle.std.proofs.Common.{◌≡◌, true, false}
use Rattle.canvas_celery.proofs.Collected.Json.{json_is, json_is_none}
use Rattle.canvas_celery.proofs.results.stored.parsed.Goals as goal
use Rattle.canvas_celery.proofs.results.stored.parsed.Goals.{then-is_memory, else-is_memory}

pub returns-in-Ok : goal.returns-in-Ok
returns-in-Ok c = json_is c.args.text.now _ c.in-Ok.ensures.ok.0 c.in-Ok.ensures.ok.1

pub returns-after-is_memory : goal.returns-after-is_memory
returns-after-is_memory c =
    elim c.if-is_memory.branch [
      | then-is_memory w ↦ rw w.result-is tt
      | else-is_memory w ↦ rw w.result-is
          (json_is_none c.args.text.now (c.in-Err.ensures.err (λ m. let no : false ≡ true = w.if-is_memory.ensures.1 m in absurd cc)))
    ]
