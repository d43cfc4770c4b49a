-- What tasks answer in each case, and the lines of cases.
use Rattle.std.proofs.Common.{◌≡◌, ◌∙◌, ◌+◌, ◌++◌, ◌∷◌, [], ℕ, suc, Bool, List, refl, sym, subst, arith}
use Rattle.canvas_semantics.specs.Line.{Line}
use Rattle.canvas_semantics.specs.Tree.{Tree}
use Rattle.canvas_task.specs.Apply.{Behaviour}
use Rattle.canvas_task.specs.Text.{Text}
use Rattle.canvas_answer.specs.Asking.{asked_of}
use Rattle.canvas_answer.specs.Cases.{IsCaseLine}
use Rattle.canvas_answer.specs.declared.evaluated.Evaluated.{Evaluated}
use Rattle.canvas_answer.specs.declared.stubs.Answers.{Answers}
use Rattle.canvas_answer.specs.steps.First.{AreAlike}
use Rattle.canvas_command.specs.Failing.{AreCaseLines}

pub alike_itself : (a : Answers) → AreAlike a a
alike_itself a = record { stubs = refl; renames = refl; errors = refl; said = refl }

pub alike_after : (a b c : Answers) → AreAlike a b → AreAlike b c → AreAlike a c
alike_after a b c x y =
    record {
      stubs = y.stubs ∙ x.stubs;
      renames = y.renames ∙ x.renames;
      errors = y.errors ∙ x.errors;
      said = y.said ∙ x.said;
    }

same_asked : (adapts : Bool) (a b : Answers) → AreAlike a b → asked_of adapts b ≡ asked_of adapts a
same_asked adapts a b x = λ i. record { adapts = adapts; stubs = x.stubs i; errors = x.errors i; renames = x.renames i }

-- the line of the next task, where the answers and the plan are as they were
pub next_case : (adapts : Bool) (a b : Answers) (behaviour : Behaviour) (word : Text) (c : Tree) (shown l : Line) (before : Evaluated) (place task : ℕ)
    (lines : List Text) (line : Text) → AreAlike a b → l ≡ shown → task ≡ place + 1 → AreCaseLines (asked_of adapts a) behaviour word c shown before place lines
    → IsCaseLine (asked_of adapts b) behaviour word c l before task line
    → AreCaseLines (asked_of adapts a) behaviour word c shown before (place + 1) (lines ++ line ∷ [])
next_case adapts a b behaviour word c shown l before place task lines line alike same number are h =
    let up : place + 1 ≡ suc place = omega arith in
    let asked = subst (λ its. IsCaseLine its behaviour word c l before task line) (same_asked adapts a b alike) h in
    let drawn = subst (λ m. IsCaseLine (asked_of adapts a) behaviour word c m before task line) same asked in
    let numbered = subst (λ k. IsCaseLine (asked_of adapts a) behaviour word c shown before k line) (number ∙ up) drawn in
    subst (λ n. AreCaseLines (asked_of adapts a) behaviour word c shown before n (lines ++ line ∷ [])) (sym up) (lines, line, refl, are, numbered)
