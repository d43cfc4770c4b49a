use Rattle.std.proofs.Common.{◌≡◌, ◌<◌, ◌≤◌, ◌∷◌, drop, true, sym, ap, ap₂, ◌∙◌, arith}
use Rattle.std.specs.Char.{is_ascii_digit}
use Rattle.std.specs.List.{prefix_len}
use Rattle.json.specs.Token.{number}
use Rattle.json.specs.Lex.{token, between, lex}
use Rattle.json.specs.Word.{head, ends_word}
use Rattle.canvas_sig.proofs.Lexed.{front, at_number, behind_digits}
use Rattle.canvas_sig.proofs.plain.digits_alone.Goals as goal

pub range_from-behind-requires : goal.range_from-behind-requires
range_from-behind-requires c some =
    let is = c.digits_len-count.ensures ∙ ap (prefix_len is_ascii_digit) c.as_bytes.ensures.value in
    behind_digits c.args.text.now c.digits_len-count.result c.utf8.text is some

pub returns-then-ends_word : goal.returns-then-ends_word
returns-then-ends_word c =
    let t = c.args.text.now in
    let n = c.digits_len-count.result in
    let is : n ≡ prefix_len is_ascii_digit t = c.digits_len-count.ensures ∙ ap (prefix_len is_ascii_digit) c.as_bytes.ensures.value in
    let some : 0 < n = grind arith in
    let one : head t ≡ 48 → n ≤ 1 = λ e. grind arith in
    let ended : ends_word (drop n t) ≡ true = ap ends_word (sym c.range_from-behind.ensures.value) ∙ c.ends_word.ensures (grind arith) in
    at_number t n is some one ended
    ∙ ap₂ (λ s r. token (number s) ∷ lex between r) (sym (c.range.ensures.value ∙ front t n)) (sym c.range_from-behind.ensures.value)
