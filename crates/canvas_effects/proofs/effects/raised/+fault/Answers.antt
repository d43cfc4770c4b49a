use Rattle.std.proofs.Common.{◌≡◌, ◌∙◌, ◌∷◌}
use Rattle.canvas_effects.proofs.Raised.{fault_chord, behind_first, behind_never}
use Rattle.canvas_effects.proofs.effects.raised.+fault.Goals as goal

pub fault_at_tail-returns-in-Some : goal.fault_at_tail-returns-in-Some
fault_at_tail-returns-in-Some t c =
    c.fault_at_end.ensures ∙ fault_chord c.args.fault.now _ c.args.end.now c.in-Some.body _ c.in-Some.is
    (c.deref.ensures.value ∙ c.get.ensures) c.fault_behind-behind.ensures

pub fault_behind-returns-in-Some-last_task : goal.fault_behind-returns-in-Some-last_task
fault_behind-returns-in-Some-last_task t c =
    let split : c.args.members.now ≡ c.in-Some.member.now ∷ c.in-Some._others.now = c.in-Some.ensures.cases.0 in
    behind_first c.args.fault.now _ c.args.members.now _ c.in-Some.member.now c.in-Some-last_task.last.now _ split c.in-Some-last_task.ensures c.fault_at_end.ensures c.why_of.ensures

pub fault_behind-returns-in-None-last_task : goal.fault_behind-returns-in-None-last_task
fault_behind-returns-in-None-last_task t c =
    let split : c.args.members.now ≡ c.in-Some.member.now ∷ c.in-Some._others.now = c.in-Some.ensures.cases.0 in
    absurd (behind_never c.args.members.now _ c.in-Some.member.now split c.requires c.in-None-last_task.ensures)
