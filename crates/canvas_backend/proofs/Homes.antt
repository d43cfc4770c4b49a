-- The group or chord of each task that is the last of a member.
use Rattle.std.proofs.Common.{◌≡◌, ◌≢◌, ◌∙◌, ◌==◌, ◌||◌, ◌+◌, ◌-◌, ◌<◌, ◌≤◌, ℕ, zero, suc, Bool, true, false, true≢false, IsTrue, cond, List, [], ◌∷◌, length, length-set, set, drop, slice_get, Option, Some, None, refl, sym, ap, subst, ⊎_elim, eq-eqb, ne_eqb, get_or, arith}
use Rattle.std.proofs.lemmas.List.{at_drop_more, at_drop_all}
use Rattle.std.proofs.lemmas.Option.{slice_get_cases, slice_get_read}
use Rattle.std.specs.List.{list_any}
use mathlib.Core.Logic.{dite}
use native.Mathlib.Decide.{ℕ_discrete}
use Rattle.canvas_semantics.specs.Line.{Line, count_line, line_groups, GroupEntry, entry_members}
use Rattle.canvas_rewrite.specs.Planned.{IsPlan}
use Rattle.canvas_rewrite.proofs.InOrder.{entries_length}
use Rattle.canvas_rewrite.proofs.Members.{plan_apart, member_known}
use Rattle.canvas_history.specs.Roster.{Roster, members, is_member, Apart, roster_of}
use Rattle.canvas_backend.specs.steps.Homes.{home_or, home_at, is_home, AreHomes, moved_in}
use Rattle.canvas_history.proofs.TableLaws.{stands}
use Rattle.canvas_backend.proofs.Places.{placed_inside, placed_else}

pub length_moved : (homes : List (Option ℕ)) (g : ℕ) (ts : List ℕ) → length (moved_in homes g ts) ≡ length homes
length_moved homes g [] = refl
length_moved homes g (t ∷ ts) = length_moved (set homes (t - 1) (Some g)) g ts ∙ length-set homes (t - 1) (Some g)

-- one more turn of the loop that writes them, and the loop's end
pub moved_on : (ts : List ℕ) (i t n g : ℕ) (homes all : List (Option ℕ)) → i < length ts → t ≡ get_or ts i t → n ≡ t
    → moved_in homes g (drop i ts) ≡ all → moved_in (set homes (n - 1) (Some g)) g (drop (i + 1) ts) ≡ all
moved_on ts i t n g homes all inside is same so_far =
    ap (λ m. moved_in (set homes (m - 1) (Some g)) g (drop (i + 1) ts)) (same ∙ is)
    ∙ sym (at_drop_more (moved_in homes g) ts i t inside) ∙ so_far

pub moved_all : (ts : List ℕ) (i g : ℕ) (homes all : List (Option ℕ)) → length ts ≤ i → moved_in homes g (drop i ts) ≡ all → homes ≡ all
moved_all ts i g homes all past so_far = sym (at_drop_all (moved_in homes g) ts i past) ∙ so_far

-- a task that is written at has the group, and another what it had
set_home : (homes : List (Option ℕ)) (g i t : ℕ) → i < length homes → home_at (set homes i (Some g)) t ≡ cond (suc i == t) (Some g) (home_at homes t)
set_home homes g i zero within = sym (ap (λ b. cond b (Some g) None) (ne_eqb (suc i) 0 (λ e. absurd (cc))))
set_home homes g i (suc k) within =
    dite (ℕ_discrete k i)
    (λ e. ap (λ z. home_or (slice_get (set homes i (Some g)) z)) e
    ∙ (ap home_or (placed_inside homes i (Some g) within)
    ∙ sym (ap (λ b. cond b (Some g) (home_or (slice_get homes k))) (eq-eqb (suc i) (suc k) (ap suc (sym e))))))
    (λ ne. ap home_or (placed_else homes i k (Some g) ne)
    ∙ sym (ap (λ b. cond b (Some g) (home_or (slice_get homes k))) (ne_eqb (suc i) (suc k) (λ e. ne (omega (arith, e))))))

-- tasks that the list knows
abbrev Known : ℕ → List ℕ → Type 0
Known n ts = (t : ℕ) → IsTrue (list_any (λ x. x == t) ts) → (1 ≤ t) × (t ≤ n)

pub moved_home : (homes : List (Option ℕ)) (g : ℕ) (ts : List ℕ) (t : ℕ) → Known (length homes) ts
    → home_at (moved_in homes g ts) t ≡ cond (list_any (λ x. x == t) ts) (Some g) (home_at homes t)
moved_home homes g [] t known = refl
moved_home homes g (u ∷ us) t known =
    let here = known u (ap (λ (b : Bool). b || list_any (λ x. x == u) us) (eq-eqb u u refl)) in
    let some = here.0 in let most = here.1 in
    let at : suc (u - 1) ≡ u = omega arith in
    let within : u - 1 < length homes = omega arith in
    let rest : Known (length (set homes (u - 1) (Some g))) us =
    λ w m. subst (λ (n : ℕ). (1 ≤ w) × (w ≤ n)) (sym (length-set homes (u - 1) (Some g))) (known w (later w (u == w) m)) in
    moved_home (set homes (u - 1) (Some g)) g us t rest
    ∙ (ap (cond (list_any (λ x. x == t) us) (Some g)) (set_home homes g (u - 1) t within ∙ ap (λ (z : ℕ). cond (z == t) (Some g) (home_at homes t)) at)
    ∙ either (u == t) (list_any (λ x. x == t) us) (home_at homes t))
  where
    later : (w : ℕ) (b : Bool) → IsTrue (list_any (λ x. x == w) us) → IsTrue (b || list_any (λ x. x == w) us)
    later w true m = refl
    later w false m = m

    either : (a b : Bool) (h : Option ℕ) → cond b (Some g) (cond a (Some g) h) ≡ cond (a || b) (Some g) h
    either true true h = refl
    either true false h = refl
    either false true h = refl
    either false false h = refl

-- the groups and chords up to this number have been written
pub record HomesTo (plan : Roster) (n : ℕ) (homes : List (Option ℕ)) : Type 0 where
  pub many : length homes ≡ plan.tasks
  pub sound : (g t : ℕ) → home_at homes t ≡ Some g → IsTrue (is_member plan g t)
  pub full : (g t : ℕ) → IsTrue (is_member plan g t) → g ≤ n → home_at homes t ≡ Some g

pub homes_more : (plan : Roster) (n : ℕ) (homes : List (Option ℕ)) → Apart plan → Known plan.tasks (members plan (suc n)) → HomesTo plan n homes
    → HomesTo plan (suc n) (moved_in homes (suc n) (members plan (suc n)))
homes_more plan n homes apart known h = record {
  many = length_moved homes (suc n) ms ∙ h.many;
  sound = λ g t there. sound g t (is_member plan (suc n) t) refl (sym (moved t) ∙ there);
  full = λ g t member few. moved t ∙ full g t member few (is_member plan (suc n) t) refl;
}
  where
    ms : List ℕ
    ms = members plan (suc n)

    moved : (t : ℕ) → home_at (moved_in homes (suc n) ms) t ≡ cond (is_member plan (suc n) t) (Some (suc n)) (home_at homes t)
    moved t = moved_home homes (suc n) ms t (λ u m. subst (λ (k : ℕ). (1 ≤ u) × (u ≤ k)) (sym h.many) (known u m))

    sound : (g t : ℕ) (b : Bool) → is_member plan (suc n) t ≡ b → cond b (Some (suc n)) (home_at homes t) ≡ Some g → IsTrue (is_member plan g t)
    sound g t true is there = let e : suc n ≡ g = cc in subst (λ (z : ℕ). IsTrue (is_member plan z t)) e is
    sound g t false is there = h.sound g t there

    full : (g t : ℕ) → IsTrue (is_member plan g t) → g ≤ suc n → (b : Bool) → is_member plan (suc n) t ≡ b → cond b (Some (suc n)) (home_at homes t) ≡ Some g
    full g t member few true is =
        let here = stands plan t (suc n) is in
        let there = stands plan t g member in
        ap Some (sym ((apart (suc n) t (omega arith)).1 g (omega arith)))
    full g t member few false is =
        let other : g ≢ suc n = λ e. true≢false (sym member ∙ (ap (λ (z : ℕ). is_member plan z t) e ∙ is)) in
        h.full g t member (omega arith)

-- a group or chord that has a member is one of the plan's
few_groups : (plan : Roster) (g t : ℕ) → IsTrue (is_member plan g t) → g ≤ length plan.groups
few_groups plan zero t member = omega arith
few_groups plan (suc g) t member =
    ⊎_elim
    (λ (l : (x : GroupEntry) × (g < length plan.groups) × (slice_get plan.groups g ≡ Some x) × (get_or plan.groups g x ≡ x)). l.1)
    (λ (r : (length plan.groups ≤ g) × (slice_get plan.groups g ≡ None)). absurd
    (true≢false (sym member ∙ ap (λ (o : Option GroupEntry). list_any (λ x. x == t) (entry_members o)) r.1)))
    (slice_get_cases plan.groups g).1

pub homes_all : (plan : Roster) (n : ℕ) (homes : List (Option ℕ)) → length plan.groups ≤ n → HomesTo plan n homes → AreHomes plan homes
homes_all plan n homes all h g t = by (is_member plan g t) refl (home_at homes t) refl
  where
    by : (b : Bool) → is_member plan g t ≡ b → (o : Option ℕ) → home_at homes t ≡ o → b ≡ is_home o g
    by true is o at = let most = few_groups plan g t is in let e : o ≡ Some g = sym at ∙ h.full g t is (omega arith) in
        sym (ap (λ (z : Option ℕ). is_home z g) e ∙ eq-eqb g g refl)
    by false is None at = refl
    by false is (Some k) at = sym (ne_eqb k g (λ e. true≢false (sym (h.sound g t (at ∙ ap Some e)) ∙ is)))

-- the same for a plan's line
pub known_members : (l : Line) → IsPlan l → (g : ℕ) → Known (count_line l) (members (roster_of l) g)
known_members l plan g t member = let s = stands (roster_of l) t g member in member_known l plan g t (omega arith)

pub line_more : (l : Line) (n g : ℕ) (homes : List (Option ℕ)) → IsPlan l → g ≡ n + 1 → HomesTo (roster_of l) n homes
    → HomesTo (roster_of l) (n + 1) (moved_in homes g (members (roster_of l) g))
line_more l n g homes plan is h =
    let at : n + 1 ≡ suc n = omega arith in
    subst (λ (z : ℕ × ℕ). HomesTo (roster_of l) z.0 (moved_in homes z.1 (members (roster_of l) z.1))) (λ j. (sym at j, sym (is ∙ at) j))
    (homes_more (roster_of l) n homes (plan_apart l plan) (known_members l plan (suc n)) h)

pub line_all : (l : Line) (n : ℕ) (homes : List (Option ℕ)) → n ≡ line_groups l → HomesTo (roster_of l) n homes → AreHomes (roster_of l) homes
line_all l n homes all h = homes_all (roster_of l) n homes (omega (arith, entries_length l)) h

-- what a look-up in the homes tells
home_there : (homes : List (Option ℕ)) (i : ℕ) (h : Option ℕ) → i < length homes → h ≡ get_or homes i h → home_at homes (suc i) ≡ h
home_there homes i h inside is = ap home_or (slice_get_read homes _ i h refl inside is)

home_past : (homes : List (Option ℕ)) (i : ℕ) → length homes ≤ i → home_at homes (suc i) ≡ None
home_past homes i past =
    ⊎_elim (λ (l : (x : Option ℕ) × (i < length homes) × (slice_get homes i ≡ Some x) × (get_or homes i x ≡ x)). absurd (omega (arith, past, l.1)))
    (λ (r : (length homes ≤ i) × (slice_get homes i ≡ None)). ap home_or r.1) (slice_get_cases homes i).1

module _ (plan told : Roster) (homes xs : List (Option ℕ)) (g t n : ℕ) (are : AreHomes plan homes) (is : plan ≡ told) (same : xs ≡ homes)
    (at : n ≡ t) (least : 1 ≤ n) where
  looked : is_member told g t ≡ is_home (home_at xs (suc (n - 1))) g
  looked =
      let step : suc (n - 1) ≡ t = omega (arith, at, least) in
      subst (λ (z : Roster × List (Option ℕ) × ℕ). is_member z.0 g t ≡ is_home (home_at z.1 z.2) g) (λ j. (is j, sym same j, sym step j)) (are g t)

  pub has_home : (h : Option ℕ) → n - 1 < length xs → h ≡ get_or xs (n - 1) h → is_home h g ≡ is_member told g t
  has_home h inside there = sym (looked ∙ ap (λ o. is_home o g) (home_there xs (n - 1) h inside there))

  pub no_home : length xs ≤ n - 1 → false ≡ is_member told g t
  no_home past = sym (looked ∙ ap (λ o. is_home o g) (home_past xs (n - 1) past))
