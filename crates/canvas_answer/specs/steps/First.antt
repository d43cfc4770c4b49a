-- The answers of tasks, with a stub put before all others, and without it again.
use Rattle.std.specs.Prelude.{◌≡◌, ℕ, ◌∷◌}
use Rattle.canvas_adapt.specs.Renamed.{renamed}
use Rattle.canvas_adapt.specs.declared.renames.Rename.{Rename}
use Rattle.canvas_semantics.specs.Line.{Line}
use Rattle.canvas_semantics.specs.Tree.{Tree}
use Rattle.canvas_adapt.specs.Stubs.{stubs_behaviour}
use Rattle.canvas_adapt.specs.declared.stubs.stub.Stub.{Stub}
use Rattle.canvas_task.specs.Apply.{Behaviour}
use Rattle.canvas_task.specs.Text.{Text}
use Rattle.canvas_answer.specs.Asking.{Asking}
use Rattle.canvas_answer.specs.Cases.{IsEvaluated, IsFailing, first_of}
use Rattle.canvas_answer.specs.Plans.{IsPlanOf, run_line}
use Rattle.canvas_answer.specs.declared.errors.OtherError.{OtherError}
use Rattle.canvas_answer.specs.declared.evaluated.Evaluated.{Evaluated}
use Rattle.canvas_answer.specs.declared.failures.Ready.{Ready}
use Rattle.canvas_answer.specs.declared.stubs.Answers.{Answers}

pub record IsPutFirst (s : Stub) (r : Rename) (x : OtherError) (before after : Answers)
    : Type 0 where
  pub stubs : after.stubs.items ≡ s ∷ before.stubs.items
  pub renames : after.renames.items ≡ r ∷ before.renames.items
  pub errors : after.errors.items ≡ x ∷ before.errors.items
  pub said : after.said ≡ before.said

pub record AreAlike (before after : Answers) : Type 0 where
  pub stubs : after.stubs.items ≡ before.stubs.items
  pub renames : after.renames.items ≡ before.renames.items
  pub errors : after.errors.items ≡ before.errors.items
  pub said : after.said ≡ before.said

-- the results if task k fails with this word, and the plans and answers for that
pub record IsFailed (its : Asking) (behaviour : Behaviour) (word : Text) (c : Tree)
    (shown : Line) (k : ℕ) (before : Answers) (e : Evaluated) (ready : Ready) : Type 0 where
  pub stub : Stub
  pub rename : Rename
  pub error : OtherError
  pub fails : IsFailing word k stub rename error
  pub put : IsPutFirst stub rename error before ready.answers
  pub same : ready.plans.shown ≡ shown
  pub runs : IsPlanOf c shown
      → IsPlanOf (renamed (rename ∷ its.renames) c) (run_line ready.plans)
  pub told : IsEvaluated (first_of stub rename error its)
      (stubs_behaviour (stub ∷ its.stubs) behaviour) (run_line ready.plans) shown e
