use Rattle.std.proofs.Common.{ap, ◌∙◌}
use Rattle.canvas_semantics.specs.Evaluation.{state_of, eval, nothing}
use Rattle.canvas_semantics.proofs.NumberLemmas.{law}
use Rattle.canvas_runs.proofs.Laws.EventStates.{event_states}
use Rattle.canvas_runs.proofs.law_of_events.Goals as goal

pub returns-clause-states : goal.returns-clause-states
returns-clause-states c = λ behaviour l plan. event_states behaviour l plan

pub returns-clause-of_canvas : goal.returns-clause-of_canvas
returns-clause-of_canvas c = λ behaviour d full l same t. ap (λ u. state_of t (eval behaviour u nothing).rows) same
    ∙ ap (λ m. state_of t m.rows) (law behaviour d nothing full)
