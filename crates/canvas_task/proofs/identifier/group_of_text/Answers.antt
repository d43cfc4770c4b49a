use Rattle.std.proofs.Common.{true≢false, sym}
use Rattle.canvas_task.proofs.IdentifierLemmas.{unnamed}
use Rattle.canvas_task.proofs.identifier.group_of_text.Goals as goal

pub returns-in-Err : goal.returns-in-Err
returns-in-Err c = unnamed _ _ (λ u e. absurd (true≢false (sym (c.in-Err.ensures.ok.1 (u, e)))))
