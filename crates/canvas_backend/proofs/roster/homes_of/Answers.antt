use Rattle.std.proofs.Common.{◌≡◌, ◌∙◌, ap, arith, sym, subst}
use Rattle.canvas_semantics.specs.Line.{line_groups}
use Rattle.canvas_history.specs.Roster.{members, roster_of}
use Rattle.canvas_backend.specs.steps.Homes.{AreHomes, moved_in}
use Rattle.canvas_backend.proofs.Homes.{HomesTo, line_more, line_all}
use Rattle.canvas_backend.proofs.roster.homes_of.Goals as goal

pub loop-index-preserved : goal.loop-index-preserved
loop-index-preserved c =
    let moved : c.move_in.new.homes.items
    ≡ moved_in c.loop-index.homes.items c.group_at-group.result (members (roster_of c.args.plan.now) c.group_at-group.result) =
    c.move_in.ensures ∙ ap (moved_in c.loop-index.homes.items c.group_at-group.result) c.members.ensures.value in
    subst (HomesTo (roster_of c.args.plan.now) _) (sym moved)
    (line_more c.args.plan.now c.loop-index.index c.group_at-group.result c.loop-index.homes.items
    c.tasks.ensures.planned c.group_at-group.ensures c.loop-index.invariant)

pub returns : goal.returns
returns c =
    let done : c.loop-index.index ≡ line_groups c.args.plan.now =
    omega (arith, c.loop-index.auto.index-end, c.loop-index-test.false, c.groups-index-end.ensures) in
    subst (AreHomes (roster_of c.args.plan.now)) (sym c.of.ensures)
    (line_all c.args.plan.now c.loop-index.index c.loop-index.homes.items done c.loop-index.invariant)

pub move_in-requires : goal.move_in-requires
move_in-requires c k d inside = omega (arith, c.members.ensures.known k d inside, c.loop-index.invariant.many)

pub group_at-group-requires : goal.group_at-group-requires
group_at-group-requires c = omega (arith, c.loop-index-test.true, c.groups-index-end.ensures)
