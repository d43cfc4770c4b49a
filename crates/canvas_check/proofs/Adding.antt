-- What several steps of a listing add.
use Rattle.std.proofs.Common.{◌≡◌, ◌≢◌, ℕ, zero, suc, ◌-◌, Bool, List, [], ◌∷◌, ◌++◌, map, refl, sym, ap, ap₂, ◌∙◌, append_assoc, append-nil, arith, subst, Option, Some, None, IsSome, Result, Ok, Err, OnOk}
use Rattle.std.specs.Option.{option_to_list}
use Rattle.std.proofs.lemmas.List.{map-append}
use Rattle.serde_json.specs.Data.{Data}
use Rattle.canvas_sig.specs.Datum.{view}
use Rattle.std.specs.Borrow.{Bor}
use Rattle.canvas_sig.specs.declared.datum.Datum.{Datum}
use Rattle.canvas_sig.specs.declared.datum.Datum as datum
use Rattle.canvas_sig.proofs.Parsed.{view-List}
use Rattle.canvas_values.specs.declared.primitive.Primitive.TheVariants as kind
use Rattle.canvas_values.specs.Fields.{header, body}
use Rattle.canvas_sig.proofs.Json.{items-items_of}
use Rattle.canvas_check.specs.FileOrder.{Sighted, behind, itself, inside, in_each, in_kwargs, from_index, one_in, some_in, sighted_within}
use Rattle.canvas_check.specs.Places.{shown, Lists}
use Rattle.canvas_check.specs.declared.listing.Listing.{Listing}
use Rattle.canvas_check.specs.declared.step.Field.{Field}
use Rattle.canvas_check.specs.declared.step.Field.TheVariants as field
use Rattle.canvas_check.specs.declared.step.Step.{Step}

-- one step after the other
pub two_steps : (xs ys : List Sighted) (a b c : Listing) → Lists xs a b → Lists ys b c → Lists (xs ++ ys) a c
two_steps xs ys a b c p q = record {
  places =
      q.places ∙ ap₂ (λ us ss. us ++ map (behind ss) ys) p.places p.steps
      ∙ append_assoc (map shown a.places.items) (map (behind a.steps.items) xs) (map (behind a.steps.items) ys)
      ∙ ap (λ us. map shown a.places.items ++ us) (sym (map-append (behind a.steps.items) xs ys));
  steps = q.steps ∙ p.steps;
}

pub no_step : (a : Listing) → Lists [] a a
no_step a = record { places = sym (append-nil (map shown a.places.items)); steps = refl }

behind_both : (ss ts : List Step) (xs : List Sighted) → map (behind (ss ++ ts)) xs ≡ map (behind ss) (map (behind ts) xs)
behind_both ss ts [] = refl
behind_both ss ts (x ∷ xs) =
    ap₂ (λ y ys. y ∷ ys) (ap (λ l. record x { steps = l }) (append_assoc ss ts x.steps)) (behind_both ss ts xs)

-- steps that go in and come back
pub in_and_back : (xs : List Sighted) (s : Step) (a b c d : Listing)
    → b.places.items ≡ a.places.items → b.steps.items ≡ a.steps.items ++ s ∷ [] → Lists xs b c
    → d.places.items ≡ c.places.items → d.steps.items ≡ a.steps.items → Lists (map (behind (s ∷ [])) xs) a d
in_and_back xs s a b c d p q l r t = record {
  places =
      ap (map shown) r ∙ l.places ∙ ap₂ (λ us ss. map shown us ++ map (behind ss) xs) p q
      ∙ ap (λ us. map shown a.places.items ++ us) (behind_both a.steps.items (s ∷ []) xs);
  steps = t;
}

pub level_below : (n : ℕ) (linked : Bool) (d : Data) → n ≢ 0 → sighted_within n linked d ≡ (itself linked d ∷ []) ++ inside (sighted_within (n - 1)) d
level_below zero linked d h = absurd (h refl)
level_below (suc n) linked d h =
    let e : suc n - 1 ≡ n = omega arith in ap (λ m. itself linked d ∷ inside (sighted_within m) d) (sym e)

-- ---- a loop over the items of a list

-- what was added of a list, and what is still to be
pub record Halfway (f : Data → List Sighted) (k : Field) (i : ℕ) (all rest : List Data) (a b : Listing) : Type 0 where
  pub added : List Sighted
  pub lists : Lists added a b
  pub both : added ++ in_each f (from_index k i rest) ≡ in_each f (from_index k 0 all)

pub at_start : (f : Data → List Sighted) (k : Field) (all : List Data) (a : Listing) → Halfway f k 0 all all a a
at_start f k all a = record { added = []; lists = no_step a; both = refl }

pub one_more : (f : Data → List Sighted) (k : Field) (i j : ℕ) (all rest less : List Data) (d : Data) (a b c : Listing)
    → Halfway f k i all rest a b → rest ≡ d ∷ less → j ≡ suc i
    → Lists (map (behind (record { field = k; index = Some i } ∷ [])) (f d)) b c → Halfway f k j all less a c
one_more f k i j all rest less d a b c h e up l = record {
  added = h.added ++ map (behind (record { field = k; index = Some i } ∷ [])) (f d);
  lists = two_steps _ _ a b c h.lists l;
  both =
      append_assoc h.added (map (behind (record { field = k; index = Some i } ∷ [])) (f d)) (in_each f (from_index k j less))
      ∙ ap (λ m. h.added ++ (map (behind (record { field = k; index = Some i } ∷ [])) (f d) ++ in_each f (from_index k m less))) up
      ∙ ap (λ ds. h.added ++ in_each f (from_index k i ds)) (sym e) ∙ h.both;
}

pub at_end : (f : Data → List Sighted) (k : Field) (i : ℕ) (all rest : List Data) (a b : Listing)
    → Halfway f k i all rest a b → rest ≡ [] → Lists (in_each f (from_index k 0 all)) a b
at_end f k i all rest a b h none =
    subst (λ xs. Lists xs a b) (sym (append-nil h.added) ∙ ap (λ ds. h.added ++ in_each f (from_index k i ds)) (sym none) ∙ h.both) h.lists

-- ---- what follows of an answer that is Ok

pub on_ok : {A E : Type 0} (r : Result A E) (P Q : Type 0) → (P → Q) → OnOk r P → OnOk r Q
on_ok (Ok x) P Q f h = f h
on_ok (Err e) P Q f h = tt

-- the signature itself, and then those in it
pub and_inside : {A E : Type 0} (r : Result A E) (n : ℕ) (linked : Bool) (d : Data) (a b c : Listing) → n ≢ 0
    → Lists (itself linked d ∷ []) a b → OnOk r (Lists (inside (sighted_within (n - 1)) d) b c) → OnOk r (Lists (sighted_within n linked d) a c)
and_inside r n linked d a b c some p h =
    on_ok r _ _ (λ q. subst (λ xs. Lists xs a c) (sym (level_below n linked d some)) (two_steps _ _ a b c p q)) h

in_each_both : (f : Data → List Sighted) (es gs : List (Step × Data)) → in_each f (es ++ gs) ≡ in_each f es ++ in_each f gs
in_each_both f [] gs = refl
in_each_both f (e ∷ es) gs =
    ap (λ xs. map (behind (e.0 ∷ [])) (f e.1) ++ xs) (in_each_both f es gs) ∙ sym (append_assoc (map (behind (e.0 ∷ [])) (f e.1)) (in_each f es) (in_each f gs))

-- the contents of one member, and then those of another
pub and_then_in : {A E : Type 0} (r : Result A E) (f : Data → List Sighted) (es gs : List (Step × Data)) (a b c : Listing)
    → Lists (in_each f es) a b → OnOk r (Lists (in_each f gs) b c) → OnOk r (Lists (in_each f (es ++ gs)) a c)
and_then_in r f es gs a b c p h =
    on_ok r _ _ (λ q. subst (λ xs. Lists xs a c) (sym (in_each_both f es gs)) (two_steps _ _ a b c p q)) h

-- ---- the items of a JSON list

pub list_some_in : (k : Field) (v : Datum) (vs : Bor (List Datum)) → v ≡ datum.List vs → some_in k (view v) ≡ from_index k 0 (map view vs.now)
list_some_in k v vs is = ap (λ x. some_in k (view x)) is ∙ ap (some_in k) (view-List vs) ∙ ap (from_index k 0) (items-items_of (map view vs.now))

behind_none : (xs : List Sighted) → map (behind []) xs ≡ xs
behind_none [] = refl
behind_none (x ∷ xs) = ap (λ ys. x ∷ ys) (behind_none xs)

-- all that a new listing holds
pub all_listed : (xs : List Sighted) (a b : Listing) → a.places.items ≡ [] → a.steps.items ≡ [] → Lists xs a b → map shown b.places.items ≡ xs
all_listed xs a b p s l = l.places ∙ ap₂ (λ us ss. map shown us ++ map (behind ss) xs) p s ∙ behind_none xs

-- the header, and then the body
pub chord_listed : {A E : Type 0} (r : Result A E) (f : Data → List Sighted) (h o d : Data) (a b c : Listing)
    → h ≡ header d → o ≡ body d
    → Lists (in_each f (some_in field.Header h)) a b → OnOk r (Lists (in_each f (one_in field.Body o)) b c)
    → OnOk r (Lists (in_each f (in_kwargs (Some kind.Chord) d)) a c)
chord_listed r f h o d a b c hd bd l m =
    and_then_in r f (some_in field.Header (header d)) (one_in field.Body (body d)) a b c
    (subst (λ x. Lists (in_each f (some_in field.Header x)) a b) hd l)
    (subst (λ x. OnOk r (Lists (in_each f (one_in field.Body x)) b c)) bd m)

-- ---- a list that loses its last again

same_fronts : {A : Type 0} (xs ys : List A) (x y : A) → xs ++ x ∷ [] ≡ ys ++ y ∷ [] → xs ≡ ys
same_fronts [] [] x y h = refl
same_fronts [] (b ∷ []) x y h = absurd cc
same_fronts [] (b ∷ c ∷ ys) x y h = absurd cc
same_fronts (a ∷ []) [] x y h = absurd cc
same_fronts (a ∷ c ∷ xs) [] x y h = absurd cc
same_fronts (a ∷ xs) (b ∷ ys) x y h =
    let heads : a ≡ b = cc in let tails : xs ++ x ∷ [] ≡ ys ++ y ∷ [] = cc in
    ap₂ (λ z zs. z ∷ zs) heads (same_fronts xs ys x y tails)

pub popped : {A : Type 0} (zs ys xs : List A) (r : Option A) (s : A) → zs ≡ ys ++ option_to_list r → IsSome r → zs ≡ xs ++ s ∷ [] → ys ≡ xs
popped zs ys xs None s h some e = absurd cc
popped zs ys xs (Some y) s h some e = same_fronts ys xs y s (sym h ∙ e)
