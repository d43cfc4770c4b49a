use Rattle.std.proofs.Common.{◌≡◌, ℕ, map}
use Rattle.canvas_semantics.specs.States.{numbers_from}
use Rattle.canvas_answer.specs.Raised.{own_class}
use Rattle.canvas_answer.proofs.Classes.{AreSoFar}
use Rattle.canvas_answer.proofs.named_rows.classes_of.Given as goal

-- the classes of the tasks so far
abbrev pub invariant-loop-told : goal.invariant-loop-told
invariant-loop-told l =
    (n : ℕ) → map (λ f. f.0) l.fates ≡ numbers_from 1 n
    → AreSoFar l.fates (own_class l.setting.stubs.now l.setting.errors.now l.plan) l.classes.items l.told-index
