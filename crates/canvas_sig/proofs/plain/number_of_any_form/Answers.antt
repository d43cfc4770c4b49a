use Rattle.std.proofs.Common.{◌≡◌, ◌∷◌, drop, take, true, sym, ap, ap₂, ◌∙◌, arith, subst}
use Rattle.json.specs.Print.{IsNumber}
use Rattle.json.specs.Token.{number}
use Rattle.json.specs.Lex.{token, between, lex}
use Rattle.json.specs.Word.{ends_word}
use Rattle.canvas_sig.proofs.Lexed.{at_numeral}
use Rattle.canvas_sig.proofs.plain.number_of_any_form.Goals as goal

pub returns-then-ends_word : goal.returns-then-ends_word
returns-then-ends_word c =
    let t = c.args.text.now in
    let n = c.numeral_len.result in
    let formed : IsNumber (take n t) = subst IsNumber c.split_at.ensures.front (c.is_number.ensures.0 (grind arith)) in
    let ended : ends_word (drop n t) ≡ true = ap ends_word (sym c.split_at.ensures.back) ∙ c.ends_word.ensures (grind arith) in
    at_numeral t n formed ended
    ∙ ap₂ (λ s r. token (number s) ∷ lex between r) (sym c.split_at.ensures.front) (sym c.split_at.ensures.back)
