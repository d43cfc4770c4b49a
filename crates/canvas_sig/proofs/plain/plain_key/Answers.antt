use Rattle.std.proofs.Common.{◌≡◌, ◌∷◌, sym, ap, refl, ◌∙◌, arith}
use Rattle.json.specs.Word.{head}
use Rattle.json.specs.Lex.{between, lex, colon}
use Rattle.canvas_sig.proofs.Lexed.{behind_first, is_some, at_mark, key_begins}
use Rattle.canvas_sig.proofs.plain.plain_key.Goals as goal

pub range_from-requires : goal.range_from-requires
range_from-requires c some =
    let t = c.trimmed-colon.result.now in
    let mark : head t ≡ 58 = grind arith in
    behind_first t c.trimmed-colon.utf8 (is_some t 58 mark (λ z. omega (arith, z))) (omega (arith, mark))

pub returns-then-first-eq58-clause-begins : goal.returns-then-first-eq58-clause-begins
returns-then-first-eq58-clause-begins c =
    let t = c.trimmed-colon.result.now in
    let mark : head t ≡ 58 = grind arith in
    key_begins c.in_ok-key.key.now c.args.text.now c.in_ok-key.behind.now c.trimmed.result.now c.in_ok-key.ensures
    (sym c.trimmed-colon.ensures.same ∙ at_mark 58 t refl mark
    ∙ ap (λ l. colon ∷ l) (ap (lex between) (sym c.range_from.ensures.value) ∙ sym c.trimmed.ensures.same))
