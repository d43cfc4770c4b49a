-- Members that are put one after the other are the same in any order, if no name occurs twice.
use Rattle.std.proofs.Common.{◌≡◌, ℕ, List, [], ◌∷◌, Bool, true, false, true≢false, ◌||◌, ◌⊎◌, inl, inr, cond, Option, Some, None, is_eq, refl, sym, ap, subst, ◌∙◌, ⊎_elim}
use Rattle.std.specs.List.{AllByRecursion, list_any}
use Rattle.std.specs.List.Sorted.{IsPermutation}
use Rattle.std.proofs.lemmas.Bool.{cases_Bool, or_cases, both_ways}
use Rattle.std.proofs.lemmas.List.Elements.{All-from_recursion, recursion_from_All}
use Rattle.std.proofs.lemmas.List.Sorted.{All-permutation, IsPermutation-sym, list_any-IsPermutation}
use Rattle.std.proofs.lemmas.Map.Lookups.{exact_bytes}
use Rattle.serde_json.specs.Data.{Data, Members, no_members, member, put}
use Rattle.serde_json.specs.Find.{get_member}
use Rattle.canvas_sig.specs.Datum.{view, members_view}
use Rattle.canvas_sig.specs.steps.Names.{put_all}
use Rattle.canvas_sig.proofs.InOrder.{IsBefore}
use Rattle.canvas_sig.proofs.MadeAtOnce.{is_same, Rises, at_put, passed, is_first, rises_all, same_members, is_equal}
use Rattle.canvas_sig.proofs.Parsed.{Named}

-- the members have this one
abbrev Has : Members → Named → Type 0
Has ms e = get_member e.0.now ms ≡ Some (view e.1)

has_more : (k : List ℕ) (d : Data) (ms : Members) (es : List Named) → IsBefore k (members_view es) → AllByRecursion (Has ms) es
    → AllByRecursion (Has (member k d ms)) es
has_more k d ms [] before h = tt
has_more k d ms (e ∷ es) before h = (passed e.0.now k d ms (ap is_eq before.0) ∙ h.0, has_more k d ms es before.1 h.1)

has_all : (es : List Named) → Rises (members_view es) → AllByRecursion (Has (members_view es)) es
has_all [] h = tt
has_all (e ∷ es) h = (is_first e.0.now (view e.1) (members_view es), has_more e.0.now (view e.1) (members_view es) es h.0 (has_all es h.1))

abbrev occurs : List ℕ → List Named → Bool
occurs k es = list_any (λ e. is_same e.0.now k) es

neither : (a b : Bool) → (a || b) ≡ false → (a ≡ false) × (b ≡ false)
neither true b h = absurd (true≢false h)
neither false b h = (refl, h)

-- a name that occurs in none of them
nowhere : (k : List ℕ) (es : List Named) → occurs k es ≡ false → get_member k (members_view es) ≡ None
nowhere k [] h = refl
nowhere k (e ∷ es) h =
    let parts = neither (is_same e.0.now k) (occurs k es) h in
    passed k e.0.now (view e.1) (members_view es) parts.0 ∙ nowhere k es parts.1

unchanged : (k : List ℕ) (es : List Named) (ms : Members) → occurs k es ≡ false → get_member k (put_all es ms) ≡ get_member k ms
unchanged k [] ms h = refl
unchanged k (e ∷ es) ms h =
    let parts = neither (is_same e.0.now k) (occurs k es) h in
    unchanged k es (put e.0.now (view e.1) ms) parts.1 ∙ at_put k e.0.now (view e.1) ms
    ∙ ap (λ b. cond b (Some (view e.1)) (get_member k ms)) parts.0

-- a name that occurs in some of them, if all have the members of it
there : (k : List ℕ) (all : Members) (es : List Named) (ms : Members) → AllByRecursion (Has all) es
    → (occurs k es ≡ true) ⊎ (get_member k ms ≡ get_member k all) → get_member k (put_all es ms) ≡ get_member k all
there k all [] ms has h = ⊎_elim (λ o. absurd (true≢false (sym o))) (λ same. same) h
there k all (e ∷ es) ms has h =
    let here = is_same e.0.now k in
    let put_here = at_put k e.0.now (view e.1) ms in
    let either : Bool → Option Data = λ b. cond b (Some (view e.1)) (get_member k ms) in
    there k all es (put e.0.now (view e.1) ms) has.1
    (⊎_elim
    (λ is. inr (put_here ∙ ap either is ∙ sym has.0 ∙ ap (λ j. get_member j all) (exact_bytes e.0.now k (is_equal _ is))))
    (λ isnt. ⊎_elim
    (λ o. ⊎_elim (λ is. absurd (both_ways here isnt is)) (λ more. inl more) (or_cases here (occurs k es) o))
    (λ same. inr (put_here ∙ ap either isnt ∙ same))
    h)
    (cases_Bool here))

pub permuted : (xs ys : List Named) → IsPermutation xs ys → put_all ys no_members ≡ members_view ys → members_view ys ≡ put_all xs no_members
permuted xs ys perm all_put =
    let all = members_view ys in
    let rises : Rises all = subst Rises all_put (rises_all ys no_members tt) in
    let has = All-permutation (Has all) ys xs (IsPermutation-sym xs ys perm) (All-from_recursion (Has all) ys (has_all ys rises)) in
    sym (same_members (put_all xs no_members) all (rises_all xs no_members tt) rises
    (λ k. ⊎_elim
    (λ o. there k all xs no_members (recursion_from_All (Has all) xs has) (inl o))
    (λ o. unchanged k xs no_members o ∙ sym (nowhere k ys (sym (list_any-IsPermutation (λ e. is_same e.0.now k) xs ys perm) ∙ o)))
    (cases_Bool (occurs k xs))))
