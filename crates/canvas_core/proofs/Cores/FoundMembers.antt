-- The outcomes of a header's members that a core has read.
use Rattle.std.proofs.Common.{◌≡◌, ℕ, List, [], ◌∷◌, ◌++◌, All, get_or, sym, subst, arith}
use Rattle.std.proofs.lemmas.List.Elements.{All-append}
use Rattle.canvas_task.specs.Apply.{IsInRange}
use Rattle.canvas_task.specs.declared.outcome.Outcome.{Outcome}

abbrev pub AreInRange : List (ℕ × Outcome) → Type 0
AreInRange es = All (λ e. IsInRange e.1) es

pub one_more : (es all : List (ℕ × Outcome)) (e : ℕ × Outcome) → all ≡ es ++ e ∷ [] → AreInRange es → IsInRange e.1 → AreInRange all
one_more es all e is before last =
    let alone : AreInRange (e ∷ []) = λ k d lt. let first : k ≡ 0 = omega (arith, lt) in
    subst (λ j. IsInRange (get_or (e ∷ []) j d).1) (sym first) last in
    subst AreInRange (sym is) (All-append (λ x. IsInRange x.1) es (e ∷ []) before alone)
