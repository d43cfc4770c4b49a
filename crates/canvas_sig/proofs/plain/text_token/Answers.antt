use Rattle.std.proofs.Common.{◌∷◌, sym, ap, ◌∙◌}
use Rattle.json.specs.Token.{string}
use Rattle.canvas_sig.proofs.Lexed.{text_begins}
use Rattle.canvas_sig.proofs.plain.text_token.Goals as goal

pub returns-clause-begins : goal.returns-clause-begins
returns-clause-begins c p may =
    let s = c.in_ok-found.found.now in
    text_begins s c.args.text.now c.in_ok-found.behind.now c.in_ok-found.ensures c.in_ok-rest.ensures.no_colon p may
    ∙ ap (λ ts. string s ∷ ts) (sym c.in_ok-rest.ensures.same)
