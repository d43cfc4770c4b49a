use Rattle.std.proofs.Common.{◌++◌, ap, ◌∙◌}
use Rattle.canvas_engine.proofs.by_turns.turn_run.copied.Goals as goal

pub returns-clause-copy : goal.returns-clause-copy
returns-clause-copy c = c.in_ok-extend_from_slice.ensures.items ∙ ap (λ l. l ++ c.args.entries.now) c.new-copy.ensures.items
