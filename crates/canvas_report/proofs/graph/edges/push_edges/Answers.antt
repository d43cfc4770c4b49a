use Rattle.std.proofs.Common.{List, map, refl}
use Rattle.std.proofs.lemmas.List.{get_or_default}
use Rattle.canvas_task.proofs.Turns.{put_on, put_all}
use Rattle.canvas_report.specs.Picture.{edge}
use Rattle.canvas_report.specs.declared.graph.edges.Node.{Node}
use Rattle.canvas_report.specs.declared.graph.edges.Leads.TheVariants.{Next}
use Rattle.canvas_report.proofs.graph.edges.push_edges.Goals as goal

pub loop-node-init : goal.loop-node-init
loop-node-init c = refl

pub loop-node-preserved : goal.loop-node-preserved
loop-node-preserved c =
    put_on (λ (ns : List Node). map (λ n. edge Next c.args.from n) ns) c.args.to.now c.loop-node.node-index _ _ c.loop-node.edges.items _ _
    c.loop-node-test.true (get_or_default c.args.to.now c.loop-node.node-index _ _ c.loop-node-test.true) refl c.loop-node.invariant
    c.in_ok-push_edge.ensures

pub returns : goal.returns
returns c =
    put_all (λ (ns : List Node). map (λ n. edge Next c.args.from n) ns) c.args.to.now c.loop-node.node-index c.loop-node.edges.items _
    c.loop-node-test.false refl c.loop-node.invariant
