use Rattle.std.proofs.Common.{◌≡◌, ◌∷◌, sym, ap, ◌∙◌, arith}
use Rattle.json.specs.Token.{begin_object, begin_array}
use Rattle.json.specs.Word.{head}
use Rattle.json.specs.Lex.{between, lex, fresh, punctuate}
use Rattle.canvas_sig.proofs.Lexed.{behind_first, is_some, spells_null, spells_true, spells_false, object_begins, array_begins}
use Rattle.canvas_sig.proofs.plain.plain_token.Goals as goal

pub range_from-requires : goal.range_from-requires
range_from-requires c some =
    let t = c.args.text.now in
    let mark : head t ≡ 123 = grind arith in
    behind_first t c.utf8.text (is_some t 123 mark (λ z. omega (arith, z))) (omega (arith, mark))

pub range_from-requires-in-91 : goal.range_from-requires-in-91
range_from-requires-in-91 c some =
    let t = c.args.text.now in
    let mark : head t ≡ 91 = grind arith in
    behind_first t c.utf8.text (is_some t 91 mark (λ z. omega (arith, z))) (omega (arith, mark))

pub word_token-requires : goal.word_token-requires
word_token-requires c = (tt, spells_null)

pub word_token-requires-in-116 : goal.word_token-requires-in-116
word_token-requires-in-116 c = (tt, spells_true)

pub word_token-requires-in-102 : goal.word_token-requires-in-102
word_token-requires-in-102 c = (tt, spells_false)

pub returns-in-123-clause-begins : goal.returns-in-123-clause-begins
returns-in-123-clause-begins c p may =
    let t = c.args.text.now in
    let mark : head t ≡ 123 = grind arith in
    object_begins t mark p may
    ∙ ap (λ l. begin_object ∷ punctuate fresh l) (ap (lex between) (sym c.range_from.ensures.value) ∙ sym c.trimmed.ensures.same)

pub returns-in-91-clause-begins : goal.returns-in-91-clause-begins
returns-in-91-clause-begins c p may =
    let t = c.args.text.now in
    let mark : head t ≡ 91 = grind arith in
    array_begins t mark p may
    ∙ ap (λ l. begin_array ∷ punctuate fresh l) (ap (lex between) (sym c.range_from-in-91.ensures.value) ∙ sym c.trimmed-in-91.ensures.same)
