use Rattle.std.proofs.Common.{rules}
use Rattle.canvas_answer.specs.Items.{most_item}
use Rattle.canvas_answer.proofs.Pieces.{kept_all}
use Rattle.canvas_answer.proofs.items.add_bytes.Goals as goal

pub returns : goal.returns
returns c = let all = kept_all most_item c.args.item.now.items c.args.bytes.now c.requires in search rules
