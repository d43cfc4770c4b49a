use Rattle.canvas_envelope.proofs.Written.IdentifierTexts.{group_ascii}
use Rattle.canvas_envelope.proofs.writing.identifiers.write_group_id.Goals as goal

pub write_id-requires : goal.write_id-requires
write_id-requires c = rw c.group_text.ensures.value (group_ascii c.args.group)
