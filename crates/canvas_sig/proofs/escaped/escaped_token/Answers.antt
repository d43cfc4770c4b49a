use Rattle.std.proofs.Common.{◌≡◌, ◌∷◌, List, IfSome, sym, ap, ◌∙◌, subst}
use Rattle.json.specs.Token.{Token, string}
use Rattle.json.specs.Lex.{tokens}
use Rattle.canvas_sig.proofs.Lexed.{text_begins}
use Rattle.canvas_sig.proofs.Escapes.{at_quoted}
use Rattle.canvas_sig.proofs.escaped.escaped_token.Goals as goal

pub returns-in-Some-2-clause-begins : goal.returns-in-Some-2-clause-begins
returns-in-Some-2-clause-begins c p may =
    let t = c.args.text.now in
    let q = c.in-Some.quoted.now in
    let behind = c.in-Some.behind.now in
    let s = c.in-Some-2.found.now in
    let to = c.in-Some-after_value in
    let alone : (ts : List Token) × (tokens q ≡ string s ∷ ts) =
    subst (λ o. IfSome o (λ s. (ts : List Token) × (tokens q ≡ string s.now ∷ ts))) c.in-Some-2.is c.in_ok-found.ensures in
    text_begins s t behind (at_quoted t q behind s alone.0 c.in-Some.ensures alone.1) to.ensures.no_colon p may
    ∙ ap (λ ts. string s ∷ ts) (sym to.ensures.same)
