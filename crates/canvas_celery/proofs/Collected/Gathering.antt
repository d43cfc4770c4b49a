-- What a header's members give, from the first on.
use Rattle.std.proofs.Common.{◌≡◌, ◌≢◌, ◌∙◌, ℕ, ℤ, ◌⊎◌, List, [], ◌∷◌, ◌++◌, Some, None, refl, sym, ap, subst, inl, inr, ◌==◌, true, false, arith, length}
use Rattle.std.proofs.Common.{eqb-true}
use Rattle.canvas_task.specs.declared.outcome.Fault.{Fault}
use Rattle.canvas_task.specs.declared.outcome.Fault.TheVariants as fault
use Rattle.canvas_task.specs.declared.outcome.Outcome.{Outcome}
use Rattle.canvas_task.specs.declared.outcome.Outcome.TheVariants.{Success, Failure}
use Rattle.canvas_semantics.specs.Evaluation.{Flow, nothing, num, list, id, skip, raised, State, Rows, gathered, in_front, why_of, group_value}
use Rattle.canvas_celery.proofs.Collected.Flows.{IsValue, listed}
use Rattle.canvas_celery.specs.Completed.{state_at}

front_value : (n : ℤ) (x : Flow) → IsValue x → IsValue (in_front n x)
front_value n nothing h = tt
front_value n (num m) h = tt
front_value n (list ns) h = tt
front_value n (id k) h = tt
front_value n (skip f) h = absurd h
front_value n (raised f) h = absurd h

back_value : (n : ℤ) (x : Flow) → IsValue (in_front n x) → IsValue x
back_value n nothing h = tt
back_value n (num m) h = tt
back_value n (list ns) h = tt
back_value n (id k) h = tt
back_value n (skip f) h = absurd h
back_value n (raised f) h = absurd h

-- a failure stays, with anything after it
stays : (es more : Rows) → ¬ IsValue (gathered es) → gathered (es ++ more) ≡ gathered es
stays [] more h = absurd (h tt)
stays ((k, Some (Success n)) ∷ es) more h = ap (in_front n) (stays es more (λ v. h (front_value n (gathered es) v)))
stays ((k, Some (Failure f)) ∷ es) more h = refl
stays ((k, None) ∷ es) more h = stays es more h

pub success_behind : (es : Rows) (k : ℕ) (n : ℤ) → IsValue (gathered es) → IsValue (gathered (es ++ (k, Some (Success n)) ∷ []))
success_behind [] k n h = tt
success_behind ((j, Some (Success m)) ∷ es) k n h = front_value m _ (success_behind es k n (back_value m (gathered es) h))
success_behind ((j, Some (Failure f)) ∷ es) k n h = absurd h
success_behind ((j, None) ∷ es) k n h = success_behind es k n h

pub failure_behind : (es : Rows) (k : ℕ) (f : Fault) → IsValue (gathered es) → gathered (es ++ (k, Some (Failure f)) ∷ []) ≡ raised (fault.Chord k (why_of f))
failure_behind [] k f h = refl
failure_behind ((j, Some (Success m)) ∷ es) k f h = ap (in_front m) (failure_behind es k f (back_value m (gathered es) h))
failure_behind ((j, Some (Failure g)) ∷ es) k f h = absurd h
failure_behind ((j, None) ∷ es) k f h = failure_behind es k f h

pub skip_stays : (es more : Rows) (f : Fault) → gathered es ≡ skip f → gathered (es ++ more) ≡ skip f
skip_stays es more f e = stays es more (λ v. let P : Flow → Type 0 = λ x. IsValue x in subst P e v) ∙ e

pub raise_stays : (es more : Rows) (f : Fault) → gathered es ≡ raised f → gathered (es ++ more) ≡ raised f
raise_stays es more f e = stays es more (λ v. let P : Flow → Type 0 = λ x. IsValue x in subst P e v) ∙ e

-- a row that isn't missing is the table's
pub of_row : (row e : State) (o : Outcome) → (row ≡ None) ⊎ (row ≡ e) → row ≡ Some o → e ≡ Some o
of_row row e o (inl none) is = absurd (let bad : Some o ≡ None = sym is ∙ none in cc)
of_row row e o (inr same) is = sym same ∙ is

-- ---- what goes out of a header

pub of_value : (x : Flow) (es : Rows) → IsValue x → group_value x es ≡ gathered es
of_value nothing es h = refl
of_value (num n) es h = refl
of_value (list ns) es h = refl
of_value (id k) es h = refl
of_value (skip f) es h = absurd h
of_value (raised f) es h = absurd h

pub of_raise : (x : Flow) (f : Fault) (e : ℕ × State) (es : Rows) → x ≡ raised f → group_value x (e ∷ es) ≡ gathered (e ∷ es)
of_raise x f e es h = ap (λ y. group_value y (e ∷ es)) h

-- ---- by the numbers of the members' ends

pub over_some : (x : Flow) (f : Fault) (s : List State) (ks : List ℕ) → false ≡ (length ks == 0) → x ≡ raised f
    → group_value x (listed s ks) ≡ gathered (listed s ks)
over_some x f s [] h e = absurd cc
over_some x f s (k ∷ ks) h e = of_raise x f (k, state_at s k) (listed s ks) e

pub is_nil : (ks : List ℕ) → true ≡ (length ks == 0) → ks ≡ []
is_nil [] h = refl
is_nil (k ∷ ks) h = absurd (let none : length (k ∷ ks) ≡ 0 = eqb-true (length (k ∷ ks)) 0 (sym h) in omega (arith, none))

pub not_nil : (ks : List ℕ) → false ≡ (length ks == 0) → ks ≢ []
not_nil [] h e = absurd cc
not_nil (k ∷ ks) h e = absurd cc
