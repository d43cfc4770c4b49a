use Rattle.std.proofs.Common.{◌∙◌, sym}
use Rattle.canvas_rewrite.proofs.NameLines.{no_group, a_group, a_body}
use Rattle.canvas_rewrite.proofs.groups.+is_in_group.Goals as goal

pub returns-in-Some-body : goal.returns-in-Some-body
returns-in-Some-body t c =
    c.is_in_group.ensures ∙ sym (a_body c.args.line.now c.in-Some.end c.deref.result.now c.in-Some.is c.deref.ensures c.in-Some-body.body c.in-Some-body.is)

pub returns-in-None-body : goal.returns-in-None-body
returns-in-None-body t c = sym (a_group c.args.line.now c.in-Some.end c.deref.result.now c.in-Some.is c.deref.ensures c.in-None-body.is)

pub returns-in-None : goal.returns-in-None
returns-in-None t c = sym (no_group c.args.line.now c.in-None.is)
