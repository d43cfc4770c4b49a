use Rattle.std.proofs.Common.{◌≡◌, List, flat_map, map, string_bytes}
use Rattle.std.specs.Io.KnownBytes.{Appends}
use Rattle.canvas_task.specs.Text.{Text}
use Rattle.canvas_answer.specs.Asking.{asked_of}
use Rattle.canvas_answer.specs.Cases.{AreAllRows}
use Rattle.canvas_answer.specs.Plans.{IsPlanOf}
use Rattle.canvas_answer.specs.Printing.{printed}
use Rattle.canvas_answer.specs.steps.First.{AreAlike}
use Rattle.canvas_command.specs.Failing.{AreCaseLines}
use Rattle.canvas_command.proofs.failures.print_cases.Given as goal

-- the plan and the answers are as they were, and the lines so far are printed
abbrev pub invariant-loop-place : goal.invariant-loop-place
invariant-loop-place g l =
    AreAlike l.fn.ready.answers l.ready.answers × (l.ready.plans.shown ≡ l.fn.ready.plans.shown)
    × (IsPlanOf l.cases.canvas l.fn.ready.plans.shown
    → AreAllRows l.base.told l.fn.ready.plans.shown (map string_bytes l.base.rows.items)
    → (lines : List Text)
    × AreCaseLines (asked_of l.cases.adapts l.fn.ready.answers) (g.T.Tasks.behaviour l.cases.tasks.now) l.cases.word.now l.cases.canvas
    l.fn.ready.plans.shown l.base.told l.place lines
    × Appends (g.W.Write.contents l.fn.out) (g.W.Write.contents l.out) (flat_map printed lines))
