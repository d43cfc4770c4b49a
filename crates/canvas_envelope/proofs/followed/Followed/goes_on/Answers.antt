use Rattle.std.proofs.Common.{◌∙◌, sym, ap}
use Rattle.std.specs.Prelude.{not}
use Rattle.canvas_envelope.specs.steps.Parts.{is_stop}
use Rattle.canvas_envelope.proofs.Apart.{first_there, end_there}
use Rattle.canvas_envelope.proofs.followed.Followed.goes_on.Goals as goal

pub returns-then-not-is_empty : goal.returns-then-not-is_empty
returns-then-not-is_empty c =
    let q = c.self.inside.tasks in
    let many = sym c.is_empty.ensures ∙ c.if-not-is_empty.true in
    ap not (c.if-not-is_empty.true ∙ sym (first_there q.len q.items c.self.inside.tail q.ok.0 many)) ∙ ap (λ z. not (is_stop z.rest)) c.self.view_is

pub returns-else-not-is_empty : goal.returns-else-not-is_empty
returns-else-not-is_empty c =
    let q = c.self.inside.tasks in
    let none = sym c.is_empty.ensures ∙ c.if-not-is_empty.false in
    c.is_some.ensures ∙ sym (end_there q.len q.items c.self.inside.tail q.ok.0 none) ∙ ap (λ z. not (is_stop z.rest)) c.self.view_is
