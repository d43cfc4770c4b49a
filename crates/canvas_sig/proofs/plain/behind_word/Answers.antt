use Rattle.std.proofs.Common.{◌≡◌, ◌++◌, length, take, true, sym, ap, ap₂, ◌∙◌, subst, arith}
use Rattle.std.specs.Prelude.{nat_eq}
use Rattle.std.specs.List.{starts_with}
use Rattle.std.specs.Str.{IsUtf8}
use Rattle.std.proofs.lemmas.List.{take-append-drop}
use Rattle.std.proofs.lemmas.Slice.Eq.{bytes_eq-Decides}
use Rattle.std.proofs.lemmas.Str.{IsCharBoundary-from_take}
use Rattle.canvas_sig.proofs.Lexed.{taken_fits}
use Rattle.canvas_sig.proofs.plain.behind_word.Goals as goal

pub range_from-behind-requires : goal.range_from-behind-requires
range_from-behind-requires c some =
    let t = c.args.text.now in
    let name = c.args.name.now in
    let begins : starts_with nat_eq t name ≡ true =
    ap₂ (λ a b. starts_with nat_eq a b) (sym c.as_bytes.ensures.value) (sym c.as_bytes-2.ensures.value) ∙ sym c.begins_with.ensures ∙ grind arith in
    let same : name ≡ take (length name) t = (bytes_eq-Decides name (take (length name) t)).0 begins in
    IsCharBoundary-from_take t (length name) c.utf8.text (taken_fits (length name) t (ap length (sym same))) (subst IsUtf8 same c.utf8.name)

pub returns-then-ends_word : goal.returns-then-ends_word
returns-then-ends_word c =
    let t = c.args.text.now in
    let name = c.args.name.now in
    let begins : starts_with nat_eq t name ≡ true =
    ap₂ (λ a b. starts_with nat_eq a b) (sym c.as_bytes.ensures.value) (sym c.as_bytes-2.ensures.value) ∙ sym c.begins_with.ensures ∙ grind arith in
    let same : name ≡ take (length name) t = (bytes_eq-Decides name (take (length name) t)).0 begins in
    (sym (take-append-drop (length name) t) ∙ ap₂ (λ a b. a ++ b) (sym same) (sym c.range_from-behind.ensures.value), c.ends_word.ensures (grind arith))
