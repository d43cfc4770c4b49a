-- A map that is made of members at once has those that are left if they are put one after the other.
use Rattle.std.proofs.Common.{◌≡◌, ℕ, List, [], ◌∷◌, Bool, true, false, true≢false, cond, Option, Some, None, Ordering, Less, Equal, Greater, is_eq, nat_cmp, Bor, BTreeMap, refl, sym, ap, subst, ◌∙◌, ⊎_elim}
use Rattle.std.specs.BTreeMap.{IsFromIterResult, is_at}
use Rattle.std.specs.Cmp.{IsEquivalence}
use Rattle.std.specs.Cmp.Lexicographic.{slice_cmp}
use Rattle.std.specs.List.{AllByRecursion}
use Rattle.std.specs.List.Sorted.{IsStrictlySortedBy}
use Rattle.std.specs.Map.{keys_of, lookup, update, update_all}
use Rattle.std.specs.Ordering.{eq_by_cmp, match_ordering}
use Rattle.std.specs.Prelude.{option_map, unwrap_or}
use Rattle.std.proofs.lemmas.Bool.{cases_Bool}
use Rattle.std.proofs.lemmas.Cmp.{eq_by_cmp_equiv, nat_list_cmp_total, tied_itself}
use Rattle.std.proofs.lemmas.Map.Lookups.{exact_bytes}
use Rattle.serde_json.specs.Data.{Data, Members, no_members, member, put}
use Rattle.serde_json.specs.Find.{get_member}
use Rattle.canvas_sig.specs.Datum.{view, members_view}
use Rattle.canvas_sig.specs.steps.Names.{put_all}
use Rattle.canvas_sig.specs.declared.datum.Datum.{Datum}
use Rattle.canvas_sig.proofs.InOrder.{IsBefore, before_all, before_put, after_flip}
use Rattle.canvas_sig.proofs.Parsed.{Named}

abbrev pub is_same : List ℕ → List ℕ → Bool
is_same = eq_by_cmp (slice_cmp nat_cmp)

laws : IsEquivalence is_same
laws = eq_by_cmp_equiv nat_list_cmp_total

-- ---- a look-up among members of which one was put

at_equal : (o : Ordering) (found rest : Option Data) → match_ordering o rest found rest ≡ cond (is_eq o) found rest
at_equal Less found rest = refl
at_equal Equal found rest = refl
at_equal Greater found rest = refl

at_first : (k l : List ℕ) (e : Data) (ms : Members) → get_member k (member l e ms) ≡ cond (is_same l k) (Some e) (get_member k ms)
at_first k l e ms = at_equal (slice_cmp nat_cmp k l) (Some e) (get_member k ms) ∙ ap (λ b. cond b (Some e) (get_member k ms)) (laws.symm k l)

twice : (b : Bool) (x y z : Option Data) → cond b x z ≡ cond b x (cond b y z)
twice true x y z = refl
twice false x y z = refl

either_first : (b c : Bool) (x y z : Option Data) → (b ≡ true → c ≡ true → ⊥) → cond b x (cond c y z) ≡ cond c y (cond b x z)
either_first true true x y z h = absurd (h refl refl)
either_first true false x y z h = refl
either_first false true x y z h = refl
either_first false false x y z h = refl

not_both : (k j l : List ℕ) → slice_cmp nat_cmp j l ≡ Greater → is_same l k ≡ true → is_same j k ≡ true → ⊥
not_both k j l is this that = true≢false (sym (laws.congr j k l that ∙ laws.symm k l ∙ this) ∙ ap is_eq is)

at_placed : (o : Ordering) (k j l : List ℕ) (d e : Data) (ms : Members) → slice_cmp nat_cmp j l ≡ o
    → get_member k (put j d ms) ≡ cond (is_same j k) (Some d) (get_member k ms)
    → get_member k (match_ordering o (member j d (member l e ms)) (member l d ms) (member l e (put j d ms)))
    ≡ cond (is_same j k) (Some d) (get_member k (member l e ms))
at_placed Less k j l d e ms is more = at_first k j d (member l e ms)
at_placed Equal k j l d e ms is more =
    let rest = get_member k ms in
    at_first k l d ms ∙ twice (is_same l k) (Some d) (Some e) rest ∙ ap (λ r. cond (is_same l k) (Some d) r) (sym (at_first k l e ms))
    ∙ ap (λ b. cond b (Some d) (get_member k (member l e ms))) (sym (laws.congr j l k (ap is_eq is)))
at_placed Greater k j l d e ms is more =
    at_first k l e (put j d ms) ∙ ap (λ r. cond (is_same l k) (Some e) r) more
    ∙ either_first (is_same l k) (is_same j k) (Some e) (Some d) (get_member k ms) (not_both k j l is)
    ∙ ap (λ r. cond (is_same j k) (Some d) r) (sym (at_first k l e ms))

pub at_put : (k j : List ℕ) (d : Data) (ms : Members) → get_member k (put j d ms) ≡ cond (is_same j k) (Some d) (get_member k ms)
at_put k j d no_members = at_first k j d no_members
at_put k j d (member l e ms) = at_placed (slice_cmp nat_cmp j l) k j l d e ms refl (at_put k j d ms)

-- ---- members in the order of their names

abbrev pub Rises : Members → Type 0
Rises no_members = Unit {0}
Rises (member k d ms) = IsBefore k ms × Rises ms

rises_placed : (o : Ordering) (k l : List ℕ) (d e : Data) (ms : Members) → slice_cmp nat_cmp k l ≡ o → Rises (member l e ms) → Rises (put k d ms)
    → Rises (match_ordering o (member k d (member l e ms)) (member l d ms) (member l e (put k d ms)))
rises_placed Less k l d e ms is h more = ((is, before_all k l ms is h.0), h)
rises_placed Equal k l d e ms is h more = h
rises_placed Greater k l d e ms is h more = (before_put l k d ms (after_flip k l is) h.0, more)

rises_put : (k : List ℕ) (d : Data) (ms : Members) → Rises ms → Rises (put k d ms)
rises_put k d no_members h = (tt, tt)
rises_put k d (member l e ms) h = rises_placed (slice_cmp nat_cmp k l) k l d e ms refl h (rises_put k d ms h.1)

pub rises_all : (es : List Named) (ms : Members) → Rises ms → Rises (put_all es ms)
rises_all [] ms h = h
rises_all (e ∷ es) ms h = rises_all es (put e.0.now (view e.1) ms) (rises_put e.0.now (view e.1) ms h)

-- such members are the same if each look-up is

none_before : (k : List ℕ) (ms : Members) → IsBefore k ms → get_member k ms ≡ None
none_before k no_members h = refl
none_before k (member l e ms) h = rw h.0 (none_before k ms h.1)

pub is_first : (k : List ℕ) (d : Data) (ms : Members) → get_member k (member k d ms) ≡ Some d
is_first k d ms = let tied = tied_itself nat_list_cmp_total k in rw tied refl

not_less : (k l : List ℕ) (d e : Data) (ms ns : Members) → IsBefore l ns → get_member k (member k d ms) ≡ get_member k (member l e ns)
    → slice_cmp nat_cmp k l ≡ Less → ⊥
not_less k l d e ms ns h same less =
    let both : Some d ≡ None = sym (is_first k d ms) ∙ same ∙ none_before k (member l e ns) (less, before_all k l ns less h) in absurd cc

tied_first : (o : Ordering) (k l : List ℕ) (d e : Data) (ms ns : Members) → Rises (member k d ms) → Rises (member l e ns)
    → ((j : List ℕ) → get_member j (member k d ms) ≡ get_member j (member l e ns)) → slice_cmp nat_cmp k l ≡ o → slice_cmp nat_cmp k l ≡ Equal
tied_first Less k l d e ms ns r s same is = absurd (not_less k l d e ms ns s.0 (same k) is)
tied_first Equal k l d e ms ns r s same is = is
tied_first Greater k l d e ms ns r s same is = absurd (not_less l k e d ns ms r.0 (sym (same l)) (after_flip k l is))

pub is_equal : (o : Ordering) → is_eq o ≡ true → o ≡ Equal
is_equal Less h = absurd (true≢false (sym h))
is_equal Equal h = refl
is_equal Greater h = absurd (true≢false (sym h))

gone : (j k : List ℕ) (ms : Members) → IsBefore k ms → is_same k j ≡ true → get_member j ms ≡ None
gone j k ms h is =
    let before : List ℕ → Type 0 = λ x. IsBefore x ms in
    none_before j ms (subst before (exact_bytes k j (is_equal (slice_cmp nat_cmp k j) is)) h)

pub passed : (j k : List ℕ) (d : Data) (ms : Members) → is_same k j ≡ false → get_member j (member k d ms) ≡ get_member j ms
passed j k d ms isnt = at_first j k d ms ∙ ap (λ b. cond b (Some d) (get_member j ms)) isnt

later : (k l : List ℕ) (d e : Data) (ms ns : Members) → Rises (member k d ms) → Rises (member l e ns) → k ≡ l
    → ((j : List ℕ) → get_member j (member k d ms) ≡ get_member j (member l e ns)) → (j : List ℕ) → get_member j ms ≡ get_member j ns
later k l d e ms ns r s name same j =
    let alike : is_same l j ≡ is_same k j = ap (λ x. is_same x j) (sym name) in
    ⊎_elim
    (λ is. gone j k ms r.0 is ∙ sym (gone j l ns s.0 (alike ∙ is)))
    (λ isnt. sym (passed j k d ms isnt) ∙ same j ∙ passed j l e ns (alike ∙ isnt))
    (cases_Bool (is_same k j))

pub same_members : (ms ns : Members) → Rises ms → Rises ns → ((j : List ℕ) → get_member j ms ≡ get_member j ns) → ms ≡ ns
same_members no_members no_members r s same = refl
same_members no_members (member l e ns) r s same = let none : None ≡ Some e = same l ∙ is_first l e ns in absurd cc
same_members (member k d ms) no_members r s same = let none : Some d ≡ None = sym (is_first k d ms) ∙ same k in absurd cc
same_members (member k d ms) (member l e ns) r s same =
    let name = exact_bytes k l (tied_first (slice_cmp nat_cmp k l) k l d e ms ns r s same refl) in
    let value : d ≡ e = ap (λ u. unwrap_or u d)
    (sym (is_first k d ms) ∙ same k ∙ ap (λ j. get_member j (member l e ns)) name ∙ is_first l e ns) in
    let others = same_members ms ns r.1 s.1 (later k l d e ms ns r s name same) in
    λ i. member (name i) (value i) (others i)

-- ---- a map's entries, as members

abbrev by_name : Bor (List ℕ) → Bor (List ℕ) → Ordering
by_name x y = slice_cmp nat_cmp x.now y.now

before_all_names : (k : Bor (List ℕ)) (es : List Named) → AllByRecursion (λ l. by_name k l ≡ Less) (keys_of es) → IsBefore k.now (members_view es)
before_all_names k [] h = tt
before_all_names k (e ∷ es) h = (h.0, before_all_names k es h.1)

entries_rise : (es : List Named) → IsStrictlySortedBy by_name (keys_of es) → Rises (members_view es)
unfolding IsStrictlySortedBy
entries_rise [] h = tt
entries_rise (e ∷ es) h = (before_all_names e.0 es h.0, entries_rise es h.1)

viewed : (b : Bool) (v : Datum) (o : Option Datum) → option_map view (cond b (Some v) o) ≡ cond b (Some (view v)) (option_map view o)
viewed true v o = refl
viewed false v o = refl

looked_up : (q : Bor (List ℕ)) (es : List Named) → get_member q.now (members_view es) ≡ option_map view (lookup (is_at (by_name q)) es)
looked_up q [] = refl
looked_up q (e ∷ es) =
    let here = is_eq (by_name q e.0) in
    at_equal (by_name q e.0) (Some (view e.1)) (get_member q.now (members_view es))
    ∙ ap (λ r. cond here (Some (view e.1)) r) (looked_up q es) ∙ sym (viewed here e.1 (lookup (is_at (by_name q)) es))

inserted_all : (q : Bor (List ℕ)) (xs : List Named) (f : Bor (List ℕ) → Option Datum) (ms : Members)
    → option_map view (f q) ≡ get_member q.now ms
    → option_map view (update_all (eq_by_cmp by_name) f xs q) ≡ get_member q.now (put_all xs ms)
inserted_all q [] f ms h = h
inserted_all q (x ∷ xs) f ms h =
    let here = eq_by_cmp by_name x.0 q in
    inserted_all q xs (update (eq_by_cmp by_name) f x.0 (Some x.1)) (put x.0.now (view x.1) ms)
    (viewed here x.1 (f q) ∙ ap (λ r. cond here (Some (view x.1)) r) h ∙ sym (at_put q.now x.0.now (view x.1) ms))

pub made_at_once : (xs : List Named) (m : BTreeMap (Bor (List ℕ)) Datum) → IsFromIterResult by_name xs m
    → members_view m.entries ≡ put_all xs no_members
made_at_once xs m made =
    same_members (members_view m.entries) (put_all xs no_members) (entries_rise m.entries made.1) (rises_all xs no_members tt)
    (λ k. let q : Bor (List ℕ) = record { ref_ptr = (0, 0); now = k } in
    looked_up q m.entries ∙ ap (option_map view) (made.0 q) ∙ inserted_all q xs (λ _. None) no_members refl)
