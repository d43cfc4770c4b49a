-- Rows that stay.
use Rattle.std.proofs.Common.{◌≡◌, ◌∙◌, ◌⊎◌, ◌<◌, ℕ, Bool, true, false, not, List, length, get_or, set, Option, Some, None}
use Rattle.std.proofs.Common.{refl, sym, ap, subst, inr, ⊎_elim, rules}
use Rattle.std.specs.Option.{is_some}
use Rattle.std.proofs.lemmas.Bool.{cases_eq}
use Rattle.std.proofs.lemmas.List.{length-set, get_or-set_other, get_or_default}
use Rattle.std.proofs.lemmas.Grind.{get_or-set_at}
use Rattle.canvas_task.specs.declared.outcome.Fault.{Fault}
use Rattle.canvas_task.specs.declared.outcome.Outcome.{Outcome}
use Rattle.canvas_task.specs.declared.outcome.Outcome.TheVariants.{Failure}
use Rattle.canvas_semantics.specs.Evaluation.{State}
use Rattle.canvas_celery.specs.Completed.{IsFailure, Keeps}
use Rattle.canvas_celery.proofs.Collected.Flows.{Within}

none_is_some : (row : Option Outcome) (o : Outcome) → row ≡ None → row ≡ Some o → IsFailure o
none_is_some row o empty there = let bad : None ≡ Some o = sym empty ∙ there in absurd cc

failure_found : (f : Fault) (o : Outcome) → Some (Failure f) ≡ Some o → IsFailure o
failure_found f o same = let found : o ≡ Failure f = cc in (f, found)

pub kept_refl : (rows : List (Option Outcome)) → Keeps rows rows
kept_refl rows =
    record {
      count = refl;
      stays = λ k o h. h;
      fills = λ k o empty there. none_is_some (get_or rows k None) o empty there;
    }

filled_between : (a b c : List (Option Outcome)) → Keeps a b → Keeps b c → (k : ℕ) (o : Outcome)
    → get_or a k None ≡ None → get_or c k None ≡ Some o
    → (row : Option Outcome) → get_or b k None ≡ row → IsFailure o
filled_between a b c first second k o empty there None between = second.fills k o between there
filled_between a b c first second k o empty there (Some p) between =
    let same : Some p ≡ Some o = sym (second.stays k p between) ∙ there in
    let one : p ≡ o = cc in
    subst IsFailure one (first.fills k p empty between)

pub kept_trans : (a b c : List (Option Outcome)) → Keeps a b → Keeps b c → Keeps a c
kept_trans a b c first second =
    record {
      count = second.count ∙ first.count;
      stays = λ k o h. second.stays k o (first.stays k o h);
      fills = λ k o empty there. filled_between a b c first second k o empty there (get_or b k None) refl;
    }

other_row : (rows : List (Option Outcome)) (i k : ℕ) (f : Fault) (o : Outcome)
    → get_or rows i None ≡ None → get_or rows k None ≡ Some o
    → get_or (set rows i (Some (Failure f))) k None ≡ Some o
other_row rows i k f o empty there =
    get_or-set_other rows i k (Some (Failure f)) None
    (λ e.
    let bad : None ≡ Some o = sym empty ∙ (ap (λ j. get_or rows j None) (sym e) ∙ there) in
    absurd cc)
    ∙ there

set_row : (rows : List (Option Outcome)) (i k : ℕ) (f : Fault) (o : Outcome) → i < length rows
    → get_or rows k None ≡ None → get_or (set rows i (Some (Failure f))) k None ≡ Some o → IsFailure o
set_row rows i k f o within none there =
    let row : Option Outcome = Some (Failure f) in
    ⊎_elim (λ e. failure_found f o (sym (get_or-set_at rows i k row None e within) ∙ there))
    (λ n. none_is_some (get_or rows k None) o none (sym (get_or-set_other rows i k row None n) ∙ there))
    (cases_eq k i)

pub set_kept : (rows : List (Option Outcome)) (i : ℕ) (f : Fault) → i < length rows
    → get_or rows i None ≡ None → Keeps rows (set rows i (Some (Failure f)))
set_kept rows i f within empty =
    record {
      count = search (rules, length-set);
      stays = λ k o there. other_row rows i k f o empty there;
      fills = λ k o none there. set_row rows i k f o within none there;
    }

-- ---- what a test of a row says

is_empty : (row : Option Outcome) (empty : Bool) → is_some row ≡ not empty → empty ≡ true → row ≡ None
is_empty None empty e is = refl
is_empty (Some o) true e is = absurd cc
is_empty (Some o) false e is = absurd cc

not_empty : (row : Option Outcome) (empty : Bool) → is_some row ≡ not empty → empty ≡ false → row ≡ None → ⊥
not_empty None true e isnt none = absurd cc
not_empty None false e isnt none = absurd cc
not_empty (Some o) empty e isnt none = absurd cc

pub empty_at : (rows : List (Option Outcome)) (i : ℕ) (row : Option Outcome) (empty : Bool) → i < length rows
    → is_some (get_or rows i row) ≡ not empty → empty ≡ true → get_or rows i None ≡ None
empty_at rows i row empty within e is = get_or_default rows i None row within ∙ is_empty (get_or rows i row) empty e is

pub full_at : (rows : List (Option Outcome)) (i : ℕ) (row : Option Outcome) (empty : Bool) → i < length rows
    → is_some (get_or rows i row) ≡ not empty → empty ≡ false → get_or rows i None ≡ None → ⊥
full_at rows i row empty within e isnt none = not_empty (get_or rows i row) empty e isnt (get_or_default rows i row None within ∙ none)

pub set_within : (rows s : List State) (i : ℕ) (f : Fault) → i < length rows → get_or s i None ≡ Some (Failure f)
    → Within rows s → Within (set rows i (Some (Failure f))) s
set_within rows s i f long e w k =
    let row : Option Outcome = Some (Failure f) in
    let P : State → Type 0 = λ r. (r ≡ None) ⊎ (r ≡ get_or s k None) in
    ⊎_elim (λ same. inr (get_or-set_at rows i k row None same long ∙ (sym e ∙ ap (λ j. get_or s j None) (sym same))))
    (λ other. subst P (sym (get_or-set_other rows i k row None other)) (w k))
    (cases_eq k i)

pub ruleset kept = (kept_trans, kept_refl, set_kept)
