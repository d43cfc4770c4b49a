use Rattle.std.proofs.Common.{◌≢◌, length, arith}
use Rattle.canvas_rewrite.proofs.NodeLines.{chain_whole}
use Rattle.canvas_rewrite.proofs.as_node.whole.Goals as goal

pub returns : goal.returns
returns c =
    let v = c.args.nodes in
    let more : length v.items ≢ 1 = omega (arith, v.ok.0, c.len.ensures, c.if-len-eq1.false) in
    chain_whole v.items c.of.result c.of.ensures more
