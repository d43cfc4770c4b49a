use Rattle.std.proofs.Common.{take, sym, ap, ◌∙◌, arith}
use Rattle.serde_json.specs.Data.{no_members, put}
use Rattle.canvas_sig.specs.Datum.{view}
use Rattle.canvas_sig.specs.steps.Names.{put_all}
use Rattle.canvas_sig.proofs.Parsed.{Named, one_more, put_pushed}
use Rattle.canvas_sig.proofs.ordered.put_in_order.Goals as goal

pub loop-member-preserved : goal.loop-member-preserved
loop-member-preserved c =
    let l = c.loop-member in
    let xs = c.args.found.now in
    let e : Named = c.member-item.result in
    let next = one_more xs l.member-index e _ (omega (arith, c.loop-member-test.true)) (sym c.member-item.is) in
    c.in_ok-put.ensures ∙ ap (put e.0.now (view e.1)) l.invariant ∙ sym (put_pushed (take l.member-index xs) e no_members)
    ∙ ap (λ es. put_all es no_members) (sym next)
