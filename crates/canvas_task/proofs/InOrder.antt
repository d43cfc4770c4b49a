-- A map that is made of entries in the order of their names has just these entries.
use Rattle.std.proofs.Common.{◌≡◌, List, Option, Ordering, [], ◌∷◌, ◌∙◌, Some, None, Less, Equal, Greater, true, refl, sym, ap, ⊎_elim, BTreeMap, String, Global, string_bytes, string_cmp}
use Rattle.std.specs.BTreeMap.{IsFromIterResult, is_at}
use Rattle.std.specs.List.{AllByRecursion}
use Rattle.std.specs.List.Sorted.{IsStrictlySortedBy}
use Rattle.std.specs.Map.{keys_of, lookup}
use Rattle.std.specs.Option.{unwrap_or}
use Rattle.std.specs.Ordering.{eq_by_cmp, is_eq, ordering_reverse}
use Rattle.std.specs.String.{string_cmp_total}
use Rattle.std.proofs.lemmas.Bool.{cases_Bool}
use Rattle.std.proofs.lemmas.Cmp.{eq_by_cmp_equiv, tied_itself}
use Rattle.std.proofs.lemmas.Map.{lookup-none}
use Rattle.std.proofs.lemmas.Map.Entries.{lookup_head, lookup_tail, none_below_head, none_past_head}
use Rattle.std.proofs.lemmas.Map.Keys.{IsDistinct-from_sorted, sorted_tail}
use Rattle.std.proofs.lemmas.Map.Lookups.{exact_bytes}
use Rattle.std.proofs.lemmas.Map.Made.{update_all_none}
use Rattle.canvas_task.specs.Entries.{named, IsBelow, Ascends}
use Rattle.canvas_task.specs.declared.arg.Arg.{Arg}
use Rattle.canvas_task.proofs.Copies.{Entry}

abbrev Entries : Type 0
Entries = List Entry

abbrev Rises : Entries → Type 0
Rises es = IsStrictlySortedBy string_cmp (keys_of es)

abbrev at_name : Entries → String Global → Option Arg
at_name es k = lookup (is_at (string_cmp k)) es

below_all : (k : String Global) (es : Entries) → IsBelow (string_bytes k) (named es)
    → AllByRecursion (λ l. string_cmp k l ≡ Less) (keys_of es)
below_all k [] h = tt
below_all k (e ∷ es) h = (h.0, below_all k es h.1)

rises : (es : Entries) → Ascends (named es) → Rises es
unfolding IsStrictlySortedBy
rises [] h = tt
rises (e ∷ es) h = (below_all e.0 es h.0, rises es h.1)

at_first : (e : Entry) (es : Entries) → at_name (e ∷ es) e.0 ≡ Some e.1
at_first e es = lookup_head (is_at (string_cmp e.0)) e es (ap is_eq (tied_itself string_cmp_total e.0))

-- a name less than the first is nowhere, so the first name of one list isn't less than that of the other
not_less : (e f : Entry) (es fs : Entries) → Rises (f ∷ fs) → at_name (e ∷ es) e.0 ≡ at_name (f ∷ fs) e.0
    → string_cmp e.0 f.0 ≡ Less → ⊥
not_less e f es fs r same less =
    let none = lookup-none (is_at (string_cmp e.0)) (f ∷ fs) (none_below_head string_cmp_total e.0 f fs r less) in
    let both : Some e.1 ≡ None = sym (at_first e es) ∙ same ∙ none in absurd cc

both_first : (e f : Entry) (es fs : Entries) → Rises (e ∷ es) → Rises (f ∷ fs)
    → ((k : String Global) → at_name (e ∷ es) k ≡ at_name (f ∷ fs) k)
    → (o : Ordering) → string_cmp e.0 f.0 ≡ o → string_cmp e.0 f.0 ≡ Equal
both_first e f es fs r s same Less is = absurd (not_less e f es fs s (same e.0) is)
both_first e f es fs r s same Equal is = is
both_first e f es fs r s same Greater is =
    absurd (not_less f e fs es r (sym (same f.0)) (string_cmp_total.antisymm f.0 e.0 ∙ ap ordering_reverse is))

-- after the first entries, whose names are equal, a name is where it was, or is the first, and then in neither rest
later : (e f : Entry) (es fs : Entries) → Rises (e ∷ es) → Rises (f ∷ fs) → string_cmp e.0 f.0 ≡ Equal
    → ((k : String Global) → at_name (e ∷ es) k ≡ at_name (f ∷ fs) k) → (k : String Global) → at_name es k ≡ at_name fs k
later e f es fs r s tied same k =
    let laws = eq_by_cmp_equiv string_cmp_total in
    let alike : eq_by_cmp string_cmp k f.0 ≡ eq_by_cmp string_cmp k e.0 =
    laws.symm k f.0 ∙ sym (laws.congr e.0 f.0 k (ap is_eq tied)) ∙ laws.symm e.0 k in
    let gone : (g : Entry) (gs : Entries) → Rises (g ∷ gs) → eq_by_cmp string_cmp k g.0 ≡ true → at_name gs k ≡ None =
    λ g gs t is. lookup-none _ gs (none_past_head laws k g gs (IsDistinct-from_sorted string_cmp _ t) is) in
    ⊎_elim
    (λ is. gone e es r is ∙ sym (gone f fs s (alike ∙ is)))
    (λ isnt. sym (lookup_tail (is_at (string_cmp k)) e es isnt) ∙ same k ∙ lookup_tail (is_at (string_cmp k)) f fs (alike ∙ isnt))
    (cases_Bool (eq_by_cmp string_cmp k e.0))

same_named : (es fs : Entries) → Rises es → Rises fs → ((k : String Global) → at_name es k ≡ at_name fs k) → named es ≡ named fs
same_named [] [] r s same = refl
same_named [] (f ∷ fs) r s same = let none : None ≡ Some f.1 = same f.0 ∙ at_first f fs in absurd cc
same_named (e ∷ es) [] r s same = let none : Some e.1 ≡ None = sym (at_first e es) ∙ same e.0 in absurd cc
same_named (e ∷ es) (f ∷ fs) r s same =
    let tied = both_first e f es fs r s same (string_cmp e.0 f.0) refl in
    let value : e.1 ≡ f.1 = ap (λ u. unwrap_or u e.1)
    (sym (at_first e es) ∙ same e.0 ∙ lookup_head (is_at (string_cmp e.0)) f fs (ap is_eq tied)) in
    let others = same_named es fs (sorted_tail string_cmp e.0 (keys_of es) r) (sorted_tail string_cmp f.0 (keys_of fs) s)
    (later e f es fs r s tied same) in
    λ i. (exact_bytes (string_bytes e.0) (string_bytes f.0) tied i, value i) ∷ others i

pub made_in_order : (es : Entries) → Ascends (named es) → (m : BTreeMap (String Global) Arg)
    → IsFromIterResult string_cmp es m → named m.entries ≡ named es
made_in_order es ascends m made =
    let distinct = IsDistinct-from_sorted string_cmp (keys_of es) (rises es ascends) in
    same_named m.entries es made.1 (rises es ascends)
    (λ k. made.0 k ∙ update_all_none (eq_by_cmp_equiv string_cmp_total) (eq_by_cmp string_cmp) (λ x y. refl) es k distinct)
