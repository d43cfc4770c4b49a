use Rattle.std.proofs.Common.{◌∙◌, ap}
use Rattle.canvas_rewrite.specs.steps.Growing.{grown, tail_trees}
use Rattle.canvas_rewrite.proofs.GrowingLines.{grown_push}
use Rattle.canvas_rewrite.proofs.growing.Growing.push_front.Goals as goal

pub returns : goal.returns
returns c =
    let line = c.args.self.now in
    ap (λ ts. grown ts (tail_trees line.tail)) c.in_ok-push.ensures.items ∙ grown_push line.tasks.items c.args.sig (tail_trees line.tail)
