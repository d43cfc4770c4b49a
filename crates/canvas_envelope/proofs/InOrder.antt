-- Entries that go into a map in the order of their names.
use Rattle.std.proofs.Common.{◌≡◌, List, [], ◌∷◌, ◌++◌, String, Global, string_bytes, string_cmp, nat_cmp, Less, sym, ap, ◌∙◌, subst}
use Rattle.std.specs.Cmp.Lexicographic.{slice_cmp}
use Rattle.std.specs.BTreeMap.{insert_entry}
use Rattle.std.proofs.lemmas.List.{map_push}
use Rattle.canvas_task.specs.Entries.{named, IsBelow, Ascends}
use Rattle.canvas_task.specs.Text.{Text}
use Rattle.canvas_task.specs.declared.arg.Arg.{Arg}
use Rattle.canvas_values.proofs.Written.Named.{names, AllBelow, goes_last}

abbrev pub Entry : Type 0
Entry = String Global × Arg

below_later : (k : Text) (before : List Entry) (e : Entry) (more : List Entry) → IsBelow k (named (before ++ e ∷ more))
    → slice_cmp nat_cmp k (string_bytes e.0) ≡ Less
below_later k [] e more h = h.0
below_later k (x ∷ before) e more h = below_later k before e more h.1

all_below : (before : List Entry) (e : Entry) (more : List Entry) → Ascends (named (before ++ e ∷ more))
    → AllBelow (names (named before)) (string_bytes e.0)
all_below [] e more h = tt
all_below (x ∷ before) e more h = (below_later (string_bytes x.0) before e more h.0, all_below before e more h.1)

-- the next one of those in a list goes last in the map that has those before it
pub next_goes_last : (all before es : List Entry) (e : Entry) (more : List Entry) → all ≡ before ++ e ∷ more → Ascends (named all)
    → named es ≡ named before → named (insert_entry string_cmp es e.0 e.1) ≡ named (before ++ e ∷ [])
next_goes_last all before es e more is rises same =
    let P : List Entry → Type 0 = λ xs. Ascends (named xs) in
    let Q : List (Text × Arg) → Type 0 = λ xs. AllBelow (names xs) (string_bytes e.0) in
    goes_last es e.0 e.1 (subst Q (sym same) (all_below before e more (subst P is rises)))
    ∙ ap (λ xs. xs ++ (string_bytes e.0, e.1) ∷ []) same ∙ sym (map_push (λ (x : Entry). (string_bytes x.0, x.1)) before e)
