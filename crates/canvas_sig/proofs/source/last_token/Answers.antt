use Rattle.std.proofs.Common.{◌≡◌, length, refl, ap, ◌∙◌, subst, arith}
use Rattle.json.specs.Reader.{tokens_at}
use Rattle.canvas_sig.specs.declared.place.Place.TheVariants.{AfterValue}
use Rattle.canvas_sig.specs.steps.Place.{as_kit}
use Rattle.canvas_sig.specs.steps.Plain.{Ends}
use Rattle.canvas_sig.proofs.Punctuated.{over, comma_last, value_as_fresh, comma_as_fresh}
use Rattle.canvas_sig.proofs.source.last_token.Goals as goal

pub returns-then-is_empty : goal.returns-then-is_empty
returns-then-is_empty c =
    let t = c.args.text.now in
    let none : length t ≡ 0 = grind arith in
    (ap (λ p. tokens_at (as_kit p) t) c.in-AfterValue.is ∙ over t none, refl)

pub returns-else-is_empty : goal.returns-else-is_empty
returns-else-is_empty c =
    let t = c.args.text.now in
    let ends : Ends AfterValue t = subst (λ p. Ends p t) c.in-AfterValue.is c.requires.0 in
    ap (λ p. tokens_at (as_kit p) t) c.in-AfterValue.is ∙ value_as_fresh t ends

pub returns-then-closes_or_ends : goal.returns-then-closes_or_ends
returns-then-closes_or_ends c =
    let t = c.args.text.now in
    ap (λ p. tokens_at (as_kit p) t) c.in-AfterComma.is ∙ comma_last t (c.closes_or_ends.ensures.yes (grind arith))

pub returns-else-closes_or_ends : goal.returns-else-closes_or_ends
returns-else-closes_or_ends c =
    let t = c.args.text.now in
    let not = c.closes_or_ends.ensures.no (grind arith) in
    ap (λ p. tokens_at (as_kit p) t) c.in-AfterComma.is ∙ comma_as_fresh t not.0 c.requires.1 not.1 not.2
