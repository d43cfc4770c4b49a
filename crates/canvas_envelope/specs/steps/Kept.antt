-- The message that a letter keeps, in any form.
use Rattle.std.specs.Prelude.{Option, Some, None}
use Rattle.canvas_envelope.specs.Content.{Content}
use Rattle.canvas_envelope.specs.declared.kept.Kept.{Kept}
use Rattle.canvas_envelope.specs.declared.kept.Kept.TheVariants as holds

abbrev pub kept : Kept → Option Content
kept holds.Nothing = None
kept (holds.Whole m) = Some m
kept (holds.Followed m) = Some m.value
kept (holds.Compact m) = Some m.value
