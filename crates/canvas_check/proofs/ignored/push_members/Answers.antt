use Rattle.std.proofs.Common.{arith, sym}
use Rattle.canvas_sig.specs.Datum.{view}
use Rattle.canvas_check.specs.Ignored.{if_ignored}
use Rattle.canvas_check.proofs.Named.{one_more, all_added}
use Rattle.canvas_check.proofs.ignored.push_members.Goals as goal

pub loop-member-preserved : goal.loop-member-preserved
loop-member-preserved c =
    one_more (λ e. (e.0.now, view e.1)) (λ e. if_ignored e.0 e.1) c.args.members.now c.loop-member.member-index c.member-item.result _
    c.args.names.now.items c.loop-member.names.items c.push_name.new.names.items (omega (arith, c.loop-member-test.true))
    (sym c.member-item.is) c.in_ok-push_name.ensures c.loop-member.invariant

pub returns : goal.returns
returns c =
    all_added (λ e. (e.0.now, view e.1)) (λ e. if_ignored e.0 e.1) c.args.members.now c.loop-member.member-index
    c.args.names.now.items c.loop-member.names.items (omega (arith, c.loop-member-test.false)) c.loop-member.invariant
