use Rattle.std.proofs.Common.{◌≡◌, ◌<◌, length, true, sym, ap, ◌∙◌, arith}
use Rattle.json.specs.Word.{head}
use Rattle.json.specs.Lex.{class, between, lex}
use Rattle.json.specs.Align.{is_blank}
use Rattle.canvas_sig.proofs.Lexed.{past_space, behind_first}
use Rattle.canvas_sig.proofs.runs.past_spaces.Goals as goal

pub range_from-rest-requires : goal.range_from-rest-requires
range_from-rest-requires c some =
    let ascii = c.is_space.ensures.ascii (grind arith) in
    behind_first c.spaces.rest.now c.spaces.invariant.1 (grind arith) (omega (arith, c.first.ensures, ascii))

pub spaces-preserved : goal.spaces-preserved
spaces-preserved c =
    let d = c.spaces.rest.now in
    let some : 0 < length d = grind arith in
    let blank : is_blank (class (head d)) ≡ true = ap (λ x. is_blank (class x)) (sym c.first.ensures) ∙ sym c.is_space.ensures.space ∙ grind arith in
    (ap (lex between) c.range_from-rest.ensures.value ∙ past_space d some blank ∙ c.spaces.invariant.0, c.range_from-rest.utf8)
