use Rattle.std.proofs.Common.{sym, subst}
use Rattle.canvas_values.specs.Answers.{Gives}
use Rattle.canvas_envelope.specs.MessageView.{rest_seen}
use Rattle.canvas_codec.proofs.Made.{chain_starts}
use Rattle.canvas_codec.proofs.read.embed.read_rest.Goals as goal

pub returns-in-len1-up : goal.returns-in-len1-up
returns-in-len1-up c =
    subst (Gives rest_seen c.read_reversed.result)
    (sym (chain_starts c.args.values.now c.last-item.result c.in-len1-up.len_at_least c.last-item.is)) c.read_reversed.ensures
