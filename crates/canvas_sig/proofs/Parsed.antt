-- Borrowed values, as they are read: a list that grows at its end, and members that go into a map.
use Rattle.std.proofs.Common.{◌≡◌, ℕ, List, [], ◌∷◌, ◌++◌, Option, Some, None, Ordering, Less, Equal, Greater, nat_cmp, is_eq, Bool, true, false, bytes_eq, true≢false, Bor, refl, ap, sym, ◌∙◌, rules, zero, suc, ◌+◌, ◌-◌, ◌<◌, length, get_or, set, drop, take, arith}
use Rattle.std.proofs.Math.Seq.{drop-cons, drop-append_seam}
use Rattle.std.proofs.lemmas.Cmp.{nat_list_cmp_total, tied_itself}
use Rattle.std.proofs.lemmas.Map.Text.{is_eq-slice_cmp}
use Rattle.std.proofs.lemmas.Slice.Eq.{bytes_eq-Decides}
use Rattle.std.specs.Cmp.Lexicographic.{slice_cmp}
use Rattle.std.specs.Ordering.{match_ordering, ordering_reverse}
use Rattle.std.proofs.lemmas.List.{take_all, take_more, take-append-drop, length-append}
use Rattle.std.specs.BTreeMap.{insert_entry}
use Rattle.json.specs.Token.{Token}
use Rattle.json.specs.Json.{parse_map}
use Rattle.serde_json.specs.Data.{Data, array, object, Items, item, no_items, Members, member, put}
use Rattle.serde_json.specs.Find.{get_member}
use Rattle.canvas_sig.specs.Datum.{view, items_view, members_view}
use Rattle.canvas_sig.specs.steps.Names.{put_all, AllBelow, BeginsWith, BeginsBehind, BelongsAt}
use Rattle.canvas_sig.specs.declared.datum.Datum.{Datum, the_lemmas}
use Rattle.canvas_sig.specs.declared.datum.Datum as datum

abbrev pub Named : Type 0
Named = Bor (List ℕ) × Datum

pub view-List : (ds : Bor (List Datum)) → view (datum.List ds) ≡ array (items_view ds.now)
view-List ds = search (rules, the_lemmas)

pub view-Object : (ms : Bor (List Named)) → view (datum.Object ms) ≡ object (members_view ms.now)
view-Object ms = search (rules, the_lemmas)

-- the items that were read, in front of others
abbrev pub items_before : List Datum → Items → Items
items_before [] rest = rest
items_before (v ∷ vs) rest = item (view v) (items_before vs rest)

pub all_before : (vs : List Datum) → items_before vs no_items ≡ items_view vs
all_before [] = refl
all_before (v ∷ vs) = ap (item (view v)) (all_before vs)

pushed : (vs : List Datum) (v : Datum) (rest : Items) → items_before vs (item (view v) rest) ≡ items_before (vs ++ v ∷ []) rest
pushed [] v rest = refl
pushed (w ∷ vs) v rest = ap (item (view w)) (pushed vs v rest)

pub one_more_item : (vs : List Datum) (v : Datum) (r : Option (Items × List Token))
    → parse_map (items_before vs) (parse_map (item (view v)) r) ≡ parse_map (items_before (vs ++ v ∷ [])) r
one_more_item vs v None = refl
one_more_item vs v (Some p) = ap (λ ds. Some (ds, p.1)) (pushed vs v p.0)

-- ---- members in a map

at_ordering : (o : Ordering) (a b c : List Named) → members_view (match_ordering o a b c) ≡ match_ordering o (members_view a) (members_view b) (members_view c)
at_ordering Less a b c = refl
at_ordering Equal a b c = refl
at_ordering Greater a b c = refl

pub inserted : (es : List Named) (k : Bor (List ℕ)) (v : Datum)
    → members_view (insert_entry (λ x y. slice_cmp nat_cmp x.now y.now) es k v) ≡ put k.now (view v) (members_view es)
inserted [] k v = refl
inserted (e ∷ es) k v = at_ordering (slice_cmp nat_cmp k.now e.0.now) _ _ _ ∙ rw (inserted es k v)

-- ---- a look-up

pub found_here : (name : List ℕ) (e : Named) (es : List Named) → name ≡ e.0.now → get_member name (members_view (e ∷ es)) ≡ Some (view e.1)
found_here name e es is = let same : slice_cmp nat_cmp e.0.now e.0.now ≡ Equal = tied_itself nat_list_cmp_total e.0.now in rw (is, same)

either : (o : Ordering) (a b : Option Data) → is_eq o ≡ false → match_ordering o a b a ≡ a
either Less a b e = refl
either Equal a b e = absurd (true≢false e)
either Greater a b e = refl

differ : (xs ys : List ℕ) (b : Bool) → bytes_eq xs ys ≡ b → (xs ≡ ys → ⊥) → b ≡ false
differ xs ys true e other = absurd (other ((bytes_eq-Decides xs ys).0 e))
differ xs ys false e other = refl

pub found_later : (name : List ℕ) (e : Named) (es : List Named) → (name ≡ e.0.now → ⊥)
    → get_member name (members_view (e ∷ es)) ≡ get_member name (members_view es)
found_later name e es other = either (slice_cmp nat_cmp name e.0.now) _ _ (is_eq-slice_cmp name e.0.now ∙ differ name e.0.now _ refl other)

-- the member of a loop's turn, and those after it
pub next_member : (xs : List Named) (i : ℕ) (x d : Named) → i < length xs → get_or xs i d ≡ x → drop i xs ≡ x ∷ drop (i + 1) xs
next_member xs i x d lt is =
    let up : suc i ≡ i + 1 = omega arith in
    drop-cons xs i d lt ∙ ap (λ y. y ∷ drop (suc i) xs) is ∙ ap (λ k. x ∷ drop k xs) up

pub found_at : (name : List ℕ) (xs : List Named) (i : ℕ) (x d : Named) → i < length xs → get_or xs i d ≡ x → name ≡ x.0.now
    → get_member name (members_view (drop i xs)) ≡ Some (view x.1)
found_at name xs i x d lt is same = ap (λ ys. get_member name (members_view ys)) (next_member xs i x d lt is) ∙ found_here name x (drop (i + 1) xs) same

pub later_at : (name : List ℕ) (xs : List Named) (i : ℕ) (x d : Named) → i < length xs → get_or xs i d ≡ x → (name ≡ x.0.now → ⊥)
    → get_member name (members_view (drop i xs)) ≡ get_member name (members_view (drop (i + 1) xs))
later_at name xs i x d lt is other = ap (λ ys. get_member name (members_view ys)) (next_member xs i x d lt is) ∙ found_later name x (drop (i + 1) xs) other

-- ---- members that are put one after the other

pub put_pushed : (es : List Named) (e : Named) (ms : Members) → put_all (es ++ e ∷ []) ms ≡ put e.0.now (view e.1) (put_all es ms)
put_pushed [] e ms = refl
put_pushed (x ∷ es) e ms = put_pushed es e (put x.0.now (view x.1) ms)

-- the members before the next one, and it
pub one_more : (xs : List Named) (i : ℕ) (x d : Named) → i < length xs → get_or xs i d ≡ x → take (i + 1) xs ≡ take i xs ++ x ∷ []
one_more xs i x d lt is = take_more xs i d lt ∙ ap (λ y. take i xs ++ y ∷ []) is

-- a name that is greater than all others goes last
pub put_last : (es : List Named) (e : Named) → AllBelow es e.0.now → put e.0.now (view e.1) (members_view es) ≡ members_view (es ++ e ∷ [])
put_last [] e h = refl
put_last (x ∷ es) e h =
    let above : slice_cmp nat_cmp e.0.now x.0.now ≡ Greater = nat_list_cmp_total.antisymm e.0.now x.0.now ∙ ap ordering_reverse h.0 in
    rw above (ap (member x.0.now (view x.1)) (put_last es e h.1))

pub below_next : (es : List Named) (e : Named) (k : List ℕ) → AllBelow es e.0.now → slice_cmp nat_cmp e.0.now k ≡ Less → AllBelow (es ++ e ∷ []) k
below_next [] e k h low = (low, tt)
below_next (x ∷ es) e k h low = (nat_list_cmp_total.trans x.0.now e.0.now k h.0 low, below_next es e k h.1 low)

-- ---- one that is put among others

behind : (es : List Named) (fs gs : List Named) (k : List ℕ) (d : Data) → AllBelow es k → put k d (members_view fs) ≡ members_view gs
    → put k d (members_view (es ++ fs)) ≡ members_view (es ++ gs)
behind [] fs gs k d h is = is
behind (e ∷ es) fs gs k d h is =
    let above : slice_cmp nat_cmp k e.0.now ≡ Greater = nat_list_cmp_total.antisymm k e.0.now ∙ ap ordering_reverse h.0 in
    rw above (ap (member e.0.now (view e.1)) (behind es fs gs k d h.1 is))

put_in_front : (fs : List Named) (k : Bor (List ℕ)) (v : Datum) → BeginsBehind fs k.now → put k.now (view v) (members_view fs) ≡ members_view ((k, v) ∷ fs)
put_in_front [] k v h = refl
put_in_front (e ∷ fs) k v h =
    let below : slice_cmp nat_cmp k.now e.0.now ≡ Less = nat_list_cmp_total.antisymm k.now e.0.now ∙ ap ordering_reverse h in
    rw below refl

pub put_before : (es : List Named) (i : ℕ) (k : Bor (List ℕ)) (v : Datum) → BelongsAt es k.now i
    → put k.now (view v) (members_view es) ≡ members_view (take i es ++ (k, v) ∷ drop i es)
put_before es i k v h =
    ap (λ xs. put k.now (view v) (members_view xs)) (sym (take-append-drop i es))
    ∙ behind (take i es) (drop i es) ((k, v) ∷ drop i es) k.now (view v) h.1 (put_in_front (drop i es) k v h.2)

-- the value of one of them is replaced
pub put_at : (es : List Named) (i : ℕ) (k : List ℕ) (d : Datum) (x : Named) → i < length es → AllBelow (take i es) k → BeginsWith (drop i es) k
    → x ≡ get_or es i x → put k (view d) (members_view es) ≡ members_view (set es i (x.0, d))
put_at [] zero k d x lt h same is = absurd same
put_at [] (suc i) k d x lt h same is = absurd same
put_at (e ∷ es) zero k d x lt h same is =
    let here : slice_cmp nat_cmp k e.0.now ≡ Equal = nat_list_cmp_total.antisymm k e.0.now ∙ ap ordering_reverse same in
    let name : e.0.now ≡ x.0.now = ap (λ y. y.0.now) (sym is) in
    rw here (ap (λ n. member n (view d) (members_view es)) name)
put_at (e ∷ es) (suc i) k d x lt h same is =
    let above : slice_cmp nat_cmp k e.0.now ≡ Greater = nat_list_cmp_total.antisymm k e.0.now ∙ ap ordering_reverse h.0 in
    rw above (ap (member e.0.now (view e.1)) (put_at es i k d x (omega (arith, lt)) h.1 same is))

-- one more that is less than the name
pub still_below : (es : List Named) (e : Named) (k : List ℕ) → AllBelow es k → slice_cmp nat_cmp e.0.now k ≡ Less → AllBelow (es ++ e ∷ []) k
still_below [] e k h low = (low, tt)
still_below (x ∷ es) e k h low = (h.0, still_below es e k h.1 low)

-- ---- a stack

-- the part of the stack above its length at the start
pub since_start : (now old found : List Named) (n : ℕ) → n ≡ length old → now ≡ old ++ found → take (length now - n) (drop n now) ≡ found
since_start now old found n is stack =
    let above : drop n now ≡ found = ap (λ k. drop k now) is ∙ ap (drop (length old)) stack ∙ drop-append_seam old found in
    let all = ap length stack ∙ length-append old found in
    ap (take (length now - n)) above ∙ take_all (length now - n) found (omega (arith, all, is))
