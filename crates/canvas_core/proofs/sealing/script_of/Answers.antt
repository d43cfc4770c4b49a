use Rattle.std.proofs.Common.{◌∙◌, map, ap}
use Rattle.std.specs.Prelude.{option_map}
use Rattle.canvas_effects.specs.Effects.{part_jobs}
use Rattle.canvas_effects.specs.Todos.{part_view}
use Rattle.canvas_core.specs.EnvelopeWorker.{envelope_of}
use Rattle.canvas_core.proofs.Cores.ScriptsMade.{jobs_made}
use Rattle.canvas_core.proofs.sealing.script_of.Goals as goal

pub returns-clause-jobs : goal.returns-clause-jobs
returns-clause-jobs c =
    jobs_made c.from.result.items c.args.todo.stores c.in_ok-seal_all.field-0.items c.args.todo.messages (part_jobs (option_map part_view c.args.todo.part))
    (c.from.ensures.0 ∙ c.into_plain.ensures) (c.in_ok-seal_all.ensures ∙ ap (map envelope_of) c.into_plain-2.ensures)
