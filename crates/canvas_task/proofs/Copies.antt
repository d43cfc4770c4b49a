-- Entries that go into a map in the order of their names go last, each after those before.
use Rattle.std.proofs.Common.{◌≡◌, ℕ, List, [], ◌∷◌, ◌++◌, String, Global, string_bytes, string_cmp, nat_cmp, Less, Greater, refl, sym, ap, ◌∙◌}
use Rattle.std.proofs.lemmas.Cmp.{nat_list_cmp_total}
use Rattle.std.specs.Cmp.Lexicographic.{slice_cmp}
use Rattle.std.specs.List.{AllByRecursion}
use Rattle.std.specs.List.Sorted.{IsStrictlySortedBy}
use Rattle.std.specs.Map.{keys_of}
use Rattle.std.specs.Ordering.{ordering_reverse}
use Rattle.std.specs.BTreeMap.{insert_entry}
use Rattle.std.proofs.lemmas.List.{map_push}
use Rattle.canvas_task.specs.declared.arg.Arg.{Arg}
use Rattle.canvas_task.specs.Entries.{named}

abbrev pub Entry : Type 0
Entry = String Global × Arg

above_first : (first : Entry) (es : List Entry) (e : Entry) (more : List Entry)
    → AllByRecursion (λ y. string_cmp first.0 y ≡ Less) (keys_of (es ++ e ∷ more)) → string_cmp first.0 e.0 ≡ Less
above_first first [] e more h = h.0
above_first first (x ∷ es) e more h = above_first first es e more h.1

heads : (x y : List ℕ × Arg) (xs ys : List (List ℕ × Arg)) → x ∷ xs ≡ y ∷ ys → x ≡ y
heads x y xs ys e = cc

tails : (x y : List ℕ × Arg) (xs ys : List (List ℕ × Arg)) → x ∷ xs ≡ y ∷ ys → xs ≡ ys
tails x y xs ys e = cc

goes_last : (es done : List Entry) (e : Entry) (more : List Entry) (k : String Global) (v : Arg)
    → named es ≡ named done → string_bytes k ≡ string_bytes e.0 → IsStrictlySortedBy string_cmp (keys_of (done ++ e ∷ more))
    → named (insert_entry string_cmp es k v) ≡ named es ++ (string_bytes k, v) ∷ []
unfolding IsStrictlySortedBy
goes_last [] [] e more k v same key h = refl
goes_last [] (first ∷ done) e more k v same key h = absurd cc
goes_last (x ∷ es) [] e more k v same key h = absurd cc
goes_last (x ∷ es) (first ∷ done) e more k v same key h =
    let name = ap (λ p. p.0) (heads _ _ _ _ same) in
    let above : slice_cmp nat_cmp (string_bytes k) (string_bytes x.0) ≡ Greater =
    ap (λ b. slice_cmp nat_cmp b (string_bytes x.0)) key ∙ ap (slice_cmp nat_cmp (string_bytes e.0)) name ∙
    nat_list_cmp_total.antisymm (string_bytes e.0) (string_bytes first.0) ∙ ap ordering_reverse (above_first first done e more h.0) in
    rw above (ap (λ r. (string_bytes x.0, x.1) ∷ r) (goes_last es done e more k v (tails _ _ _ _ same) key h.1))

-- the copy of one more entry
pub one_more : (es done : List Entry) (e : Entry) (more : List Entry) (k : String Global) (v : Arg)
    → named es ≡ named done → string_bytes k ≡ string_bytes e.0 → v ≡ e.1 → IsStrictlySortedBy string_cmp (keys_of (done ++ e ∷ more))
    → named (insert_entry string_cmp es k v) ≡ named (done ++ e ∷ [])
one_more es done e more k v same key value h =
    goes_last es done e more k v same key h ∙ ap (λ xs. xs ++ (string_bytes k, v) ∷ []) same
    ∙ (λ i. named done ++ (key i, value i) ∷ []) ∙ sym (map_push (λ (x : Entry). (string_bytes x.0, x.1)) done e)

-- the copies of some entries and of one more, in a list
pub copied_push : (es done : List Entry) (e : Entry) (k : String Global) (v : Arg)
    → named es ≡ named done → string_bytes k ≡ string_bytes e.0 → v ≡ e.1 → named (es ++ (k, v) ∷ []) ≡ named (done ++ e ∷ [])
copied_push es done e k v same key value =
    map_push (λ (x : Entry). (string_bytes x.0, x.1)) es (k, v) ∙ ap (λ xs. xs ++ (string_bytes k, v) ∷ []) same
    ∙ (λ i. named done ++ (key i, value i) ∷ []) ∙ sym (map_push (λ (x : Entry). (string_bytes x.0, x.1)) done e)
