-- How many signatures of a listing pass a test.
use Rattle.std.proofs.Common.{◌≡◌, ℕ, zero, suc, ◌+◌, ◌-◌, ◌<◌, ◌≤◌, Bool, true, false, List, [], ◌∷◌, ◌++◌, map, length, find, Option, Some, None, IsSome, refl, sym, ap, ap₂, ◌∙◌, arith}
use Rattle.std.specs.Prelude.{slice_get, ◌&&◌, ◌==◌, if◌then◌else◌}
use Rattle.std.proofs.lemmas.List.{map-append}
use Rattle.serde_json.specs.Data.{Data}
use Rattle.canvas_values.specs.Fields.{subtype, link, link_error}
use Rattle.canvas_values.specs.Grammar.{primitive_of}
use Rattle.canvas_values.specs.declared.primitive.Primitive.{Primitive}
use Rattle.canvas_values.specs.declared.primitive.Primitive.TheVariants as kind
use Rattle.canvas_check.specs.FileOrder.{Sighted, behind, itself, inside, in_each, in_kwargs, some_in, sighted_within}
use Rattle.canvas_check.specs.Limits.{kind_of, last_of, is_task_kind, is_group_kind, is_task, is_counted_group, past}
use Rattle.canvas_check.specs.declared.step.Field.TheVariants as field
use Rattle.canvas_check.specs.declared.step.Step.{Step}

abbrev pub one_if : Bool → ℕ
one_if true = 1
one_if false = 0

abbrev pub number : (Sighted → Bool) → List Sighted → ℕ
number p [] = 0
number p (s ∷ ss) = one_if (p s) + number p ss

pub number_both : (p : Sighted → Bool) (xs ys : List Sighted) → number p (xs ++ ys) ≡ number p xs + number p ys
number_both p [] ys = omega arith
number_both p (x ∷ xs) ys =
    let both : number p (xs ++ ys) ≡ number p xs + number p ys = number_both p xs ys in
    omega arith

-- ---- with a step in front

pub last_behind : {A : Type 0} (x y : A) (ys : List A) → last_of (x ∷ y ∷ ys) ≡ last_of (y ∷ ys)
last_behind x y ys =
    let longer : suc (suc (length ys)) - 1 ≡ suc (length ys) = omega arith in
    let shorter : suc (length ys) - 1 ≡ length ys = omega arith in
    ap (slice_get (x ∷ y ∷ ys)) longer ∙ ap (slice_get (y ∷ ys)) (sym shorter)

-- the test looks only at the last of the steps
abbrev pub LooksAtLast : (Sighted → Bool) → Type 0
LooksAtLast p = (s e : Step) (x : Sighted) → p (behind (s ∷ []) (behind (e ∷ []) x)) ≡ p (behind (e ∷ []) x)

module _ (p : Sighted → Bool) (looks : LooksAtLast p) (s : Step) where
  behind_again : (e : Step) (xs : List Sighted) → number p (map (behind (s ∷ [])) (map (behind (e ∷ [])) xs)) ≡ number p (map (behind (e ∷ [])) xs)
  behind_again e [] = refl
  behind_again e (x ∷ xs) = ap₂ (λ b n. one_if b + n) (looks s e x) (behind_again e xs)

  behind_both : (xs ys : List Sighted) → number p (map (behind (s ∷ [])) xs) ≡ number p xs → number p (map (behind (s ∷ [])) ys) ≡ number p ys
      → number p (map (behind (s ∷ [])) (xs ++ ys)) ≡ number p (xs ++ ys)
  behind_both xs ys h k =
      ap (number p) (map-append (behind (s ∷ [])) xs ys) ∙ number_both p (map (behind (s ∷ [])) xs) (map (behind (s ∷ [])) ys)
      ∙ ap₂ (λ m n. m + n) h k ∙ sym (number_both p xs ys)

  behind_each : (f : Data → List Sighted) (es : List (Step × Data)) → number p (map (behind (s ∷ [])) (in_each f es)) ≡ number p (in_each f es)
  behind_each f [] = refl
  behind_each f (e ∷ es) =
      behind_both (map (behind (e.0 ∷ [])) (f e.1)) (in_each f es) (behind_again e.0 (f e.1)) (behind_each f es)

  behind_inside : (f : Bool → Data → List Sighted) (d : Data) → number p (map (behind (s ∷ [])) (inside f d)) ≡ number p (inside f d)
  behind_inside f d =
      behind_both (in_each (f false) (in_kwargs (primitive_of (subtype d)) d)) _ (behind_each (f false) (in_kwargs (primitive_of (subtype d)) d))
      (behind_both (in_each (f true) (some_in field.Links (link d))) (in_each (f true) (some_in field.Errbacks (link_error d)))
      (behind_each (f true) (some_in field.Links (link d))) (behind_each (f true) (some_in field.Errbacks (link_error d))))

  -- a signature, and those in it
  pub behind_level : (n : ℕ) (linked : Bool) (d : Data) → number p (map (behind (s ∷ [])) (sighted_within (suc n) linked d))
      ≡ one_if (p (behind (s ∷ []) (itself linked d))) + number p (inside (sighted_within n) d)
  behind_level n linked d = ap (λ m. one_if (p (behind (s ∷ []) (itself linked d))) + m) (behind_inside (sighted_within n) d)

-- ---- the first of them

found_here : (b : Bool) (p : Sighted → Bool) (x : Sighted) (xs : List Sighted) → p x ≡ b → (b ≡ false → IsSome (find p xs)) → IsSome (find p (x ∷ xs))
found_here true p x xs is later = rw is (refl)
found_here false p x xs is later = rw is (later refl)

pub is_found : (p : Sighted → Bool) (xs : List Sighted) → 0 < number p xs → IsSome (find p xs)
is_found p [] h = absurd (omega arith)
is_found p (x ∷ xs) h =
    found_here (p x) p x xs refl (λ not_it. is_found p xs (let none : one_if (p x) ≡ 0 = ap one_if not_it in omega arith))

-- ---- the first that is one too many

only_one : (o : Option Primitive) (b : Bool) → is_task_kind o ≡ true → (is_group_kind o && b) ≡ false
only_one None b h = refl
only_one (Some kind.Task) b h = refl
only_one (Some kind.Chain) b h = absurd cc
only_one (Some kind.Group) b h = absurd cc
only_one (Some kind.Chord) b h = absurd cc

abbrev Within : ℕ → ℕ → List Sighted → Type 0
Within t g xs = (number is_task xs ≤ t) × (number is_counted_group xs ≤ g)

unless_none_left : (b : Bool) (t : ℕ) (x : Sighted) (rest : Option Sighted) → (t == 0) ≡ b → (if b then Some x else rest) ≡ None → (0 < t) × (rest ≡ None)
unless_none_left true t x rest is h = absurd cc
unless_none_left false zero x rest is h = absurd cc
unless_none_left false (suc t) x rest is h = (omega arith, h)

one_less : (b c : Bool) (t g : ℕ) (x : Sighted) (xs : List Sighted) → (b ≡ true → c ≡ false)
    → ((t g : ℕ) → past t g xs ≡ None → Within t g xs)
    → (if b then (if t == 0 then Some x else past (t - 1) g xs) else (if c then (if g == 0 then Some x else past t (g - 1) xs) else past t g xs)) ≡ None
    → (one_if b + number is_task xs ≤ t) × (one_if c + number is_counted_group xs ≤ g)
one_less true true t g x xs either more h = absurd (let clash : true ≡ false = either refl in cc)
one_less true false t g x xs either more h =
    let some = unless_none_left (t == 0) t x (past (t - 1) g xs) refl h in
    let w = more (t - 1) g some.1 in
    (omega (arith, some.0, w.0), omega (arith, w.1))
one_less false true t g x xs either more h =
    let some = unless_none_left (g == 0) g x (past t (g - 1) xs) refl h in
    let w = more t (g - 1) some.1 in
    (omega (arith, w.0), omega (arith, some.0, w.1))
one_less false false t g x xs either more h = let w = more t g h in (omega (arith, w.0), omega (arith, w.1))

pub none_past : (t g : ℕ) (xs : List Sighted) → past t g xs ≡ None → Within t g xs
none_past t g [] h = (omega arith, omega arith)
none_past t g (x ∷ xs) h =
    one_less (is_task x) (is_counted_group x) t g x xs (only_one (kind_of x.signature) _) (λ u v. none_past u v xs) h
