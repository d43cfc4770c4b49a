-- Names that go into a map in their order go last, each after those before.
use Rattle.std.proofs.Common.{◌≡◌, List, [], ◌∷◌, ◌++◌, map, String, Global, string_bytes, string_cmp, nat_cmp, Less, Greater, refl, sym, ap, ◌∙◌, subst}
use Rattle.std.proofs.lemmas.Cmp.{nat_list_cmp_total}
use Rattle.std.specs.Cmp.Lexicographic.{slice_cmp}
use Rattle.std.specs.Ordering.{ordering_reverse}
use Rattle.std.specs.BTreeMap.{insert_entry}
use Rattle.std.proofs.lemmas.List.{map_push}
use Rattle.canvas_task.specs.Entries.{named, IsBelow, Ascends}
use Rattle.canvas_task.specs.declared.arg.Arg.{Arg}
use Rattle.canvas_task.specs.Text.{Text}

abbrev pub names : {B : Type 0} → List (Text × B) → List Text
names es = map (λ e. e.0) es

-- each name is less than this one
abbrev pub AllBelow : List Text → Text → Type 0
AllBelow [] k = Unit {0}
AllBelow (n ∷ ns) k = (slice_cmp nat_cmp n k ≡ Less) × AllBelow ns k

pub goes_last : (es : List (String Global × Arg)) (k : String Global) (v : Arg) → AllBelow (names (named es)) (string_bytes k)
    → named (insert_entry string_cmp es k v) ≡ named es ++ (string_bytes k, v) ∷ []
goes_last [] k v h = refl
goes_last (x ∷ es) k v h =
    let above : slice_cmp nat_cmp (string_bytes k) (string_bytes x.0) ≡ Greater =
    nat_list_cmp_total.antisymm (string_bytes k) (string_bytes x.0) ∙ ap ordering_reverse h.0 in
    rw above (ap (λ r. (string_bytes x.0, x.1) ∷ r) (goes_last es k v h.1))

below_next : (ns : List Text) (n k : Text) → AllBelow ns n → slice_cmp nat_cmp n k ≡ Less → AllBelow (ns ++ n ∷ []) k
below_next [] n k h low = (low, tt)
below_next (m ∷ ns) n k h low = (nat_list_cmp_total.trans m n k h.0 low, below_next ns n k h.1 low)

-- with one more name, all are less than a name that is greater than the last
pub still_below : (es new : List (String Global × Arg)) (n : Text) (v : Arg) (k : Text)
    → named new ≡ named es ++ (n, v) ∷ [] → AllBelow (names (named es)) n → slice_cmp nat_cmp n k ≡ Less → AllBelow (names (named new)) k
still_below es new n v k is h low =
    let pushed : names (named es ++ (n, v) ∷ []) ≡ names (named es) ++ n ∷ [] = map_push (λ (x : Text × Arg). x.0) (named es) (n, v) in
    let P : List Text → Type 0 = λ ns. AllBelow ns k in
    subst P (sym (ap names is ∙ pushed)) (below_next (names (named es)) n k h low)

below_push : (k : Text) (es : List (Text × Arg)) (n : Text) (v : Arg) → IsBelow k es → slice_cmp nat_cmp k n ≡ Less → IsBelow k (es ++ (n, v) ∷ [])
below_push k [] n v h low = (low, tt)
below_push k (e ∷ es) n v h low = (h.0, below_push k es n v h.1 low)

-- entries whose names ascend, and one more whose name is greater than theirs
pub ascends_push : (es : List (Text × Arg)) (n : Text) (v : Arg) → Ascends es → AllBelow (names es) n → Ascends (es ++ (n, v) ∷ [])
ascends_push [] n v h low = (tt, tt)
ascends_push (e ∷ es) n v h low = (below_push e.0 es n v h.0 low.0, ascends_push es n v h.1 low.1)
