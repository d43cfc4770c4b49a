-- What flows out of a header, one member after the other.
use Rattle.std.proofs.Common.{◌≡◌, ◌∙◌, ◌<◌, ◌≤◌, ◌+◌, ℕ, List, [], ◌∷◌, ◌++◌, drop, length, get_or, Some, None, refl, sym, ap, append-nil}
use Rattle.std.specs.Prelude.{ℤ}
use Rattle.std.proofs.lemmas.List.{at_drop_all}
use Rattle.canvas_task.proofs.Turns.{item_first}
use Rattle.canvas_task.specs.declared.outcome.Fault.{Fault}
use Rattle.canvas_task.specs.declared.outcome.Outcome.TheVariants.{Success, Failure}
use Rattle.canvas_semantics.specs.Evaluation.{Flow, list, raised, State, Rows, in_front, gathered}
use Rattle.canvas_ran.specs.steps.Flows.{in_front_of}

front_list : (ns ms : List ℤ) → in_front_of ns (list ms) ≡ list (ns ++ ms)
front_list [] ms = refl
front_list (n ∷ ns) ms = ap (in_front n) (front_list ns ms)

pub front_raised : (ns : List ℤ) (f : Fault) → in_front_of ns (raised f) ≡ raised f
front_raised [] f = refl
front_raised (n ∷ ns) f = ap (in_front n) (front_raised ns f)

front_more : (ns : List ℤ) (n : ℤ) (x : Flow) → in_front_of (ns ++ n ∷ []) x ≡ in_front_of ns (in_front n x)
front_more [] n x = refl
front_more (m ∷ ns) n x = ap (in_front m) (front_more ns n x)

module _ (es : Rows) (i : ℕ) (ns : List ℤ) (all : Flow) (so_far : in_front_of ns (gathered (drop i es)) ≡ all) where
  pub over : length es ≤ i → list ns ≡ all
  over past =
      sym (front_list ns [] ∙ ap list (append-nil ns)) ∙ sym (at_drop_all (λ ds. in_front_of ns (gathered ds)) es i past) ∙ so_far

  module _ (e : ℕ × State) (inside : i < length es) (is : e ≡ get_or es i e) where
    first : drop i es ≡ e ∷ drop (i + 1) es
    first = item_first es i e inside is

    pub after_success : (n : ℤ) → e.1 ≡ Some (Success n) → in_front_of (ns ++ n ∷ []) (gathered (drop (i + 1) es)) ≡ all
    after_success n h =
        front_more ns n (gathered (drop (i + 1) es))
        ∙ ap (λ s. in_front_of ns (gathered ((e.0, s) ∷ drop (i + 1) es))) (sym h)
        ∙ ap (λ ds. in_front_of ns (gathered ds)) (sym first) ∙ so_far

    pub after_none : e.1 ≡ None → in_front_of ns (gathered (drop (i + 1) es)) ≡ all
    after_none h =
        ap (λ s. in_front_of ns (gathered ((e.0, s) ∷ drop (i + 1) es))) (sym h)
        ∙ ap (λ ds. in_front_of ns (gathered ds)) (sym first) ∙ so_far

    pub at_failure : (f : Fault) (x : Flow) → e.1 ≡ Some (Failure f) → gathered ((e.0, Some (Failure f)) ∷ drop (i + 1) es) ≡ x
        → in_front_of ns x ≡ x → x ≡ all
    at_failure f x h raises stays =
        sym stays ∙ ap (in_front_of ns) (sym raises)
        ∙ ap (λ s. in_front_of ns (gathered ((e.0, s) ∷ drop (i + 1) es))) (sym h)
        ∙ ap (λ ds. in_front_of ns (gathered ds)) (sym first) ∙ so_far
