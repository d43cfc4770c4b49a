use Rattle.std.proofs.Common.{◌∷◌, sym, ap, ◌∙◌}
use Rattle.json.specs.Token.{number}
use Rattle.canvas_sig.proofs.Lexed.{word_begins}
use Rattle.canvas_sig.proofs.plain.number_token.Goals as goal

pub returns-clause-begins : goal.returns-clause-begins
returns-clause-begins c p may =
    let s = c.in_ok-number.number.now in
    word_begins (number s) c.args.text.now c.in_ok-number.behind.now tt c.in_ok-number.ensures p may
    ∙ ap (λ ts. number s ∷ ts) (sym c.in_ok-rest.ensures.same)
