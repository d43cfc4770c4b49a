use Rattle.std.proofs.Common.{◌≡◌, take, drop, ◌∷◌, sym, ap, ap₂, ◌∙◌, arith}
use Rattle.std.proofs.lemmas.List.{drop-drop}
use Rattle.std.proofs.lemmas.Str.{IsCharBoundary-after_ascii}
use Rattle.std.specs.List.{prefix_len}
use Rattle.json.specs.Token.{string}
use Rattle.json.specs.Word.{head}
use Rattle.json.specs.Lex.{token, between, lex}
use Rattle.json.specs.Run.{is_plain}
use Rattle.canvas_sig.proofs.Lexed.{behind_first, is_some, head_at, front, at_text}
use Rattle.canvas_sig.proofs.plain.plain_text.Goals as goal

pub range_from-inner-requires : goal.range_from-inner-requires
range_from-inner-requires c some =
    let t = c.args.text.now in
    behind_first t c.utf8.text (is_some t 34 c.requires (λ z. omega (arith, z))) (omega (arith, c.requires))

pub range_from-requires : goal.range_from-requires
range_from-requires c some =
    let inner = c.range_from-inner.result.now in
    IsCharBoundary-after_ascii inner c.plain_len-count.result c.range_from-inner.utf8 (grind arith) (grind arith)

pub returns-then-bytes-count-eq34 : goal.returns-then-bytes-count-eq34
returns-then-bytes-count-eq34 c =
    let t = c.args.text.now in
    let inner = c.range_from-inner.result.now in
    let n = c.plain_len-count.result in
    let is_inner = c.range_from-inner.ensures.value in
    let same = c.as_bytes-bytes.ensures.value in
    let is : n ≡ prefix_len is_plain (drop 1 t) = c.plain_len-count.ensures ∙ ap (prefix_len is_plain) (same ∙ is_inner) in
    let closing : head (drop n inner) ≡ 34 = head_at inner n 34 (grind (arith, same)) (grind (arith, same)) in
    at_text t n c.requires is (ap (λ u. head (drop n u)) (sym is_inner) ∙ closing)
    ∙ ap₂ (λ s r. token (string s) ∷ lex between r) (sym (c.range.ensures.value ∙ front inner n ∙ ap (take n) is_inner))
    (sym (c.range_from.ensures.value ∙ sym (drop-drop 1 n inner) ∙ ap (λ u. drop 1 (drop n u)) is_inner))
