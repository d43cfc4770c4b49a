-- As deep as a value is, a listing leaves no signature out: more levels change nothing.
use Rattle.std.proofs.Common.{◌≡◌, ℕ, zero, suc, ◌≤◌, Bool, true, false, List, [], ◌∷◌, ◌++◌, map, Option, Some, None, refl, sym, ap, ap₂, subst, arith}
use Rattle.std.specs.Prelude.{codes}
use Rattle.serde_json.specs.Data.{Data, null, boolean, number, string, array, object, no_items, item, Items, depth, items_depth}
use Rattle.canvas_values.specs.Fields.{subtype, tasks, header, body, link, link_error, items, listed, as_list}
use Rattle.canvas_values.specs.Grammar.{primitive_of}
use Rattle.canvas_values.specs.declared.primitive.Primitive.{Primitive}
use Rattle.canvas_values.specs.declared.primitive.Primitive.TheVariants as kind
use Rattle.canvas_values.proofs.Depth.{AllLow, inner_low, listed_low, link_low}
use Rattle.canvas_check.specs.FileOrder.{Sighted, behind, itself, in_each, in_kwargs, one_in, some_in, sighted_within, signatures}
use Rattle.canvas_check.specs.declared.step.Field.{Field}
use Rattle.canvas_check.specs.declared.step.Field.TheVariants as field
use Rattle.canvas_check.specs.declared.step.Step.{Step}
use Rattle.canvas_check.proofs.FirstFault.{data_of, of_items, of_some, of_both}

both_low : (n : ℕ) (ds es : List Data) → AllLow n ds → AllLow n es → AllLow n (ds ++ es)
both_low n [] es p q = q
both_low n (d ∷ ds) es p q = (p.0, both_low n ds es p.1 q)

items_low : (ds : Items) (n : ℕ) → items_depth ds ≤ n → AllLow n (items ds)
items_low no_items n h = tt
items_low (item d ds) n h = (omega arith, items_low ds n (omega arith))

as_list_low : (d : Data) (n : ℕ) → depth d ≤ n → AllLow n (as_list d)
as_list_low (array ds) n h = items_low ds n (omega arith)
as_list_low null n h = tt
as_list_low (boolean b) n h = (h, tt)
as_list_low (number x) n h = (h, tt)
as_list_low (string s) n h = (h, tt)
as_list_low (object ms) n h = (h, tt)

one_low : (k : Field) (d : Data) (n : ℕ) → depth d ≤ n → AllLow n (data_of (one_in k d))
one_low k null n h = tt
one_low k (array ds) n h = (h, tt)
one_low k (boolean b) n h = (h, tt)
one_low k (number x) n h = (h, tt)
one_low k (string s) n h = (h, tt)
one_low k (object ms) n h = (h, tt)

some_low : (k : Field) (d : Data) (n : ℕ) → AllLow n (as_list d) → AllLow n (data_of (some_in k d))
some_low k d n h = subst (AllLow n) (sym (of_some k d)) h

kwargs_low : (p : Option Primitive) (d : Data) (n : ℕ) → depth d ≤ suc n → AllLow n (data_of (in_kwargs p d))
kwargs_low None d n h = tt
kwargs_low (Some kind.Task) d n h = tt
kwargs_low (Some kind.Chain) d n h =
    subst (AllLow n) (sym (of_items field.Elements 0 (listed (tasks d)))) (listed_low (tasks d) n (inner_low (codes "tasks") (codes "kwargs") d n h))
kwargs_low (Some kind.Group) d n h =
    subst (AllLow n) (sym (of_items field.Members 0 (listed (tasks d)))) (listed_low (tasks d) n (inner_low (codes "tasks") (codes "kwargs") d n h))
kwargs_low (Some kind.Chord) d n h =
    subst (AllLow n) (sym (of_both (some_in field.Header (header d)) (one_in field.Body (body d))))
    (both_low n _ _ (some_low field.Header (header d) n (as_list_low (header d) n (inner_low (codes "header") (codes "kwargs") d n h)))
    (one_low field.Body (body d) n (inner_low (codes "body") (codes "kwargs") d n h)))

same_each : (n : ℕ) (f g : Data → List Sighted) → ((d : Data) → depth d ≤ n → f d ≡ g d) → (es : List (Step × Data)) → AllLow n (data_of es)
    → in_each f es ≡ in_each g es
same_each n f g same [] low = refl
same_each n f g same (e ∷ es) low =
    ap₂ (λ xs ys. map (behind (e.0 ∷ [])) xs ++ ys) (same e.1 low.0) (same_each n f g same es low.1)

enough : (m n : ℕ) (linked : Bool) (d : Data) → depth d ≤ n → n ≤ m → sighted_within m linked d ≡ sighted_within n linked d
enough zero zero linked d low h = refl
enough zero (suc n) linked d low h = absurd (omega arith)
enough (suc m) zero linked null low h = refl
enough (suc m) zero linked (boolean b) low h = refl
enough (suc m) zero linked (number x) low h = refl
enough (suc m) zero linked (string s) low h = refl
enough (suc m) zero linked (array ds) low h = absurd (omega arith)
enough (suc m) zero linked (object ms) low h = absurd (omega arith)
enough (suc m) (suc n) linked d low h =
    let kwargs = same_each n (sighted_within m false) (sighted_within n false) (λ x l. enough m n false x l (omega arith))
    (in_kwargs (primitive_of (subtype d)) d) (kwargs_low (primitive_of (subtype d)) d n low) in
    let links = same_each n (sighted_within m true) (sighted_within n true) (λ x l. enough m n true x l (omega arith)) (some_in field.Links (link d)) (some_low field.Links (link d) n (link_low (codes "link") d n low)) in
    let errbacks = same_each n (sighted_within m true) (sighted_within n true) (λ x l. enough m n true x l (omega arith)) (some_in field.Errbacks (link_error d)) (some_low field.Errbacks (link_error d) n (link_low (codes "link_error") d n low)) in
    ap (λ xs. itself linked d ∷ xs) (ap₂ (λ xs ys. xs ++ ys) kwargs (ap₂ (λ xs ys. xs ++ ys) links errbacks))

pub deep_enough : (m : ℕ) (d : Data) → depth d ≤ m → sighted_within m false d ≡ signatures d
unfolding signatures
deep_enough m d h = enough m (depth d) false d (omega arith) h
