-- The refusal of the first signature that is refused is the refusal of the text.
use Rattle.std.proofs.Common.{◌≡◌, ℕ, zero, suc, Bool, true, false, List, [], ◌∷◌, ◌++◌, map, Option, Some, None, option_and_then, find, refl, sym, ap, ap₂, ◌∙◌}
use Rattle.std.specs.Prelude.{not, ◌||◌}
use Rattle.serde_json.specs.Data.{Data, null, boolean, number, string, array, object, depth}
use Rattle.canvas_values.specs.Answers.{◌or_else◌}
use Rattle.canvas_values.specs.Fields.{subtype, tasks, header, body, link, link_error, items, listed, as_list, is_null, is_list}
use Rattle.canvas_values.specs.Grammar.{own_fault, fault_as, primitive_of, not_signature, is_group}
use Rattle.canvas_values.specs.Refusals.{first_fault, fault_within, signature_fault, in_kwargs as data_in_kwargs}
use Rattle.canvas_values.specs.declared.fault.SigFault.{SigFault}
use Rattle.canvas_values.specs.declared.fault.SigFault.TheVariants.{NotSignature}
use Rattle.canvas_values.specs.declared.primitive.Primitive.{Primitive}
use Rattle.canvas_values.specs.declared.primitive.Primitive.TheVariants as kind
use Rattle.canvas_values.proofs.Law.{quiet, neither, fine}
use Rattle.canvas_check.specs.FileOrder.{Sighted, behind, inside, in_each, in_kwargs, from_index, one_in, some_in, sighted_within, signatures}
use Rattle.canvas_check.specs.Refused.{refusal_of, is_refused, first_refused}
use Rattle.canvas_check.specs.declared.step.Field.{Field}
use Rattle.canvas_check.specs.declared.step.Field.TheVariants as field
use Rattle.canvas_check.specs.declared.step.Step.{Step}

-- ---- the data of the signatures nested in a signature

abbrev pub data_of : List (Step × Data) → List Data
data_of es = map (λ e. e.1) es

pub of_items : (k : Field) (i : ℕ) (ds : List Data) → data_of (from_index k i ds) ≡ ds
of_items k i [] = refl
of_items k i (d ∷ ds) = ap (λ xs. d ∷ xs) (of_items k (suc i) ds)

pub of_some : (k : Field) (d : Data) → data_of (some_in k d) ≡ as_list d
of_some k (array ds) = of_items k 0 (items ds)
of_some k null = refl
of_some k (boolean b) = refl
of_some k (number n) = refl
of_some k (string s) = refl
of_some k (object ms) = refl

of_one : (k : Field) (d : Data) → is_null d ≡ false → data_of (one_in k d) ≡ d ∷ []
of_one k null h = absurd cc
of_one k (array ds) h = refl
of_one k (boolean b) h = refl
of_one k (number n) h = refl
of_one k (string s) h = refl
of_one k (object ms) h = refl

pub of_both : (es gs : List (Step × Data)) → data_of (es ++ gs) ≡ data_of es ++ data_of gs
of_both [] gs = refl
of_both (e ∷ es) gs = ap (λ xs. e.1 ∷ xs) (of_both es gs)

of_kwargs : (linked : Bool) (p : Option Primitive) (d : Data) → fault_as linked d p ≡ None → data_of (in_kwargs p d) ≡ data_in_kwargs p d
of_kwargs linked None d h = absurd cc
of_kwargs linked (Some kind.Task) d h = refl
of_kwargs linked (Some kind.Chain) d h = of_items field.Elements 0 (listed (tasks d))
of_kwargs linked (Some kind.Group) d h = of_items field.Members 0 (listed (tasks d))
of_kwargs linked (Some kind.Chord) d h =
    let there = (neither (not (is_list (header d) || is_group (header d))) (is_null (body d)) (fine linked kind.Chord d h).its_members).1 in
    of_both (some_in field.Header (header d)) (one_in field.Body (body d))
    ∙ ap₂ (λ xs ys. xs ++ ys) (of_some field.Header (header d)) (of_one field.Body (body d) there)

-- ---- the first refusal in a list of signatures

abbrev first_of : List Sighted → Option SigFault
first_of [] = None
first_of (s ∷ ss) = refusal_of s or_else first_of ss

of_found : (s : Sighted) (ss : List Sighted) (o : Option SigFault) → refusal_of s ≡ o → option_and_then refusal_of (find is_refused ss) ≡ first_of ss
    → option_and_then refusal_of (find is_refused (s ∷ ss)) ≡ first_of (s ∷ ss)
of_found s ss (Some e) is h = rw is (is)
of_found s ss None is h = rw is h

found_is_first : (ss : List Sighted) → option_and_then refusal_of (find is_refused ss) ≡ first_of ss
found_is_first [] = refl
found_is_first (s ∷ ss) = of_found s ss (refusal_of s) refl (found_is_first ss)

regroup : (p q r : Option SigFault) → ((p or_else q) or_else r) ≡ (p or_else (q or_else r))
regroup (Some e) q r = refl
regroup None q r = refl

first_of_both : (xs ys : List Sighted) → first_of (xs ++ ys) ≡ (first_of xs or_else first_of ys)
first_of_both [] ys = refl
first_of_both (x ∷ xs) ys = ap (λ o. refusal_of x or_else o) (first_of_both xs ys) ∙ sym (regroup (refusal_of x) (first_of xs) (first_of ys))

first_behind : (steps : List Step) (xs : List Sighted) → first_of (map (behind steps) xs) ≡ first_of xs
first_behind steps [] = refl
first_behind steps (x ∷ xs) = ap (λ o. refusal_of x or_else o) (first_behind steps xs)

first_in_each : (f : Data → List Sighted) (g : Data → Option SigFault) → ((d : Data) → first_of (f d) ≡ g d)
    → (es : List (Step × Data)) → first_of (in_each f es) ≡ first_fault g (data_of es)
first_in_each f g same [] = refl
first_in_each f g same (e ∷ es) =
    first_of_both (map (behind (e.0 ∷ [])) (f e.1)) (in_each f es)
    ∙ ap₂ (λ a b. a or_else b) (first_behind (e.0 ∷ []) (f e.1) ∙ same e.1) (first_in_each f g same es)

first_inside : (f : Bool → Data → List Sighted) (g : Bool → Data → Option SigFault) → ((b : Bool) (d : Data) → first_of (f b d) ≡ g b d)
    → (linked : Bool) (d : Data) → fault_as linked d (primitive_of (subtype d)) ≡ None
    → first_of (inside f d)
    ≡ (first_fault (g false) (data_in_kwargs (primitive_of (subtype d)) d) or_else
    (first_fault (g true) (as_list (link d)) or_else first_fault (g true) (as_list (link_error d))))
first_inside f g same linked d h =
    let kwargs = in_each (f false) (in_kwargs (primitive_of (subtype d)) d) in
    let links = in_each (f true) (some_in field.Links (link d)) in
    let errbacks = in_each (f true) (some_in field.Errbacks (link_error d)) in
    first_of_both kwargs (links ++ errbacks)
    ∙ ap₂ (λ a b. a or_else b)
    (first_in_each (f false) (g false) (same false) (in_kwargs (primitive_of (subtype d)) d)
    ∙ ap (first_fault (g false)) (of_kwargs linked (primitive_of (subtype d)) d h))
    (first_of_both links errbacks ∙ ap₂ (λ a b. a or_else b)
    (first_in_each (f true) (g true) (same true) (some_in field.Links (link d)) ∙ ap (first_fault (g true)) (of_some field.Links (link d)))
    (first_in_each (f true) (g true) (same true) (some_in field.Errbacks (link_error d)) ∙ ap (first_fault (g true)) (of_some field.Errbacks (link_error d))))

or_nothing : (p : Option SigFault) → (p or_else None) ≡ p
or_nothing (Some e) = refl
or_nothing None = refl

-- a signature with a refusal of its own, or else those in it
either : (o rest more : Option SigFault) → (o ≡ None → rest ≡ more) → (o or_else rest) ≡ (o or_else more)
either (Some e) rest more h = refl
either None rest more h = h refl

first_within : (n : ℕ) (linked : Bool) (d : Data) → first_of (sighted_within n linked d) ≡ fault_within n linked d
first_within zero linked d = or_nothing (own_fault linked d)
first_within (suc n) linked d =
    either (own_fault linked d) (first_of (inside (sighted_within n) d)) _
    (λ none. first_inside (sighted_within n) (fault_within n) (first_within n) linked d
    (quiet (not_signature d) NotSignature (fault_as linked d (primitive_of (subtype d))) none).1)

-- the refusal of the first signature that is refused
pub first_refusal : (d : Data) → option_and_then refusal_of (first_refused d) ≡ signature_fault d
unfolding signature_fault signatures
first_refusal d = found_is_first (sighted_within (depth d) false d) ∙ first_within (depth d) false d
