use Rattle.std.proofs.Common.{◌∙◌, sym, ap}
use Rattle.serde_json.specs.Read.{read}
use Rattle.canvas_sig.proofs.JsonTexts.{text_reads, reads_nothing}
use Rattle.canvas_sig.proofs.parsing.parse.Goals as goal

pub returns-in_default : goal.returns-in_default
returns-in_default c = reads_nothing c.args.bytes.now (λ utf8. absurd (c.in_default.ensures utf8))

pub returns-in-Ok-read_whole : goal.returns-in-Ok-read_whole
returns-in-Ok-read_whole c =
    text_reads c.args.bytes.now _ c.in-Ok.ensures.1 (ap read (sym c.in-Ok.ensures.0) ∙ c.in-Ok-read_whole.ensures.ok)
