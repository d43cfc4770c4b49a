use Rattle.std.proofs.Common.{rules}
use Rattle.canvas_envelope.specs.MessageView.{content}
use Rattle.canvas_envelope.proofs.Apart.{alone_fits}
use Rattle.canvas_envelope.proofs.followed.Followed.of.Goals as goal

pub invariant_of-message : goal.invariant_of-message
invariant_of-message c =
    let m = c.message.inside in
    (alone_fits (content m.parent m.task m.name m.args m.kwargs m.links m.errbacks m.place m.rest) c.message.invariant.0, search rules)
