use Rattle.std.proofs.Common.{◌≡◌, refl, sym, ap, ◌∙◌, arith}
use Rattle.json.specs.Word.{head}
use Rattle.json.specs.Lex.{between, lex, begins_colon, after_value, after_comma, punctuate}
use Rattle.canvas_sig.proofs.Lexed.{behind_first, is_some, at_mark, past_comma, no_colon}
use Rattle.canvas_sig.proofs.plain.after_value.Goals as goal

pub range_from-requires : goal.range_from-requires
range_from-requires c some =
    let t = c.trimmed-rest.result.now in
    let comma : head t ≡ 44 = grind arith in
    behind_first t c.trimmed-rest.utf8 (is_some t 44 comma (λ z. omega (arith, z))) (omega (arith, comma))

pub returns-then-first-eq44-clause-same : goal.returns-then-first-eq44-clause-same
returns-then-first-eq44-clause-same c =
    let t = c.trimmed-rest.result.now in
    let comma : head t ≡ 44 = grind arith in
    ap (punctuate after_comma) (c.trimmed.ensures.same ∙ ap (lex between) c.range_from.ensures.value) ∙ sym (past_comma t comma)
    ∙ ap (punctuate after_value) c.trimmed-rest.ensures.same

pub returns-then-first-eq44-clause-no_colon : goal.returns-then-first-eq44-clause-no_colon
returns-then-first-eq44-clause-no_colon c =
    let t = c.trimmed-rest.result.now in
    let comma : head t ≡ 44 = grind arith in
    ap begins_colon (sym c.trimmed-rest.ensures.same ∙ at_mark 44 t refl comma)

pub returns-then-closes_or_ends-clause-no_colon : goal.returns-then-closes_or_ends-clause-no_colon
returns-then-closes_or_ends-clause-no_colon c =
    ap begins_colon (sym c.trimmed-rest.ensures.same) ∙ no_colon c.trimmed-rest.result.now (c.closes_or_ends.ensures.yes (grind arith))
