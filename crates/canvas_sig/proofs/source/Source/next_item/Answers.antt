use Rattle.std.proofs.Common.{◌≡◌, ◌∷◌, true, Some, sym, ap, ◌∙◌, drop, arith}
use Rattle.json.specs.Token.{end_array}
use Rattle.json.specs.Word.{head}
use Rattle.json.specs.Lex.{between, lex, after_value, punctuate}
use Rattle.json.specs.Json.{after_end_array}
use Rattle.json.specs.Reader.{tokens_at, closes_at}
use Rattle.canvas_sig.specs.steps.Place.{as_kit}
use Rattle.canvas_sig.proofs.Punctuated.{own, array_closes}
use Rattle.canvas_sig.proofs.source.Source.next_item.Goals as goal

pub returns-in-Some-behind_bracket : goal.returns-in-Some-behind_bracket
returns-in-Some-behind_bracket c =
    let a = c.self.inside in
    let t = a.rest.now in
    let to = c.in-Some-behind_bracket in
    let closes : closes_at (as_kit a.place) ≡ true = grind arith in
    let mark : head t ≡ 93 = grind arith in
    let old : c.args.self.now ≡ end_array ∷ punctuate after_value (lex between (drop 1 t)) =
    sym c.self.view_is ∙ own a.reader a.place _ c.self.invariant.handed closes ∙ array_closes a.place t closes mark in
    let new = own a.reader a.place (tokens_at (as_kit to.place) to.rest.now) c.self.invariant.handed closes ∙ to.ensures.same in
    ap after_end_array old ∙ ap Some (sym new)
