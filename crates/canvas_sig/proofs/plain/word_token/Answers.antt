use Rattle.std.proofs.Common.{◌∷◌, sym, ap, ◌∙◌}
use Rattle.json.specs.Lex.{between, lex}
use Rattle.json.specs.Reads.{token_of}
use Rattle.canvas_sig.proofs.Lexed.{word_begins}
use Rattle.canvas_sig.proofs.plain.word_token.Goals as goal

pub returns-clause-begins : goal.returns-clause-begins
returns-clause-begins c p may =
    let k = token_of c.args.word in
    let r = c.in_ok-behind.behind.now in
    let spelled = ap (lex between) c.in_ok-behind.ensures.0 ∙ c.requires.1 r c.in_ok-behind.ensures.1 in
    word_begins k c.args.text.now r c.requires.0 spelled p may ∙ ap (λ ts. k ∷ ts) (sym c.in_ok-rest.ensures.same)
