use Rattle.std.proofs.Common.{◌≡◌}
use Rattle.std.specs.List.{list_all}
use Rattle.canvas_task.specs.Entries.{named}
use Rattle.canvas_values.specs.ComposedRefusals.{arg_ok}
use Rattle.canvas_values.proofs.composed.kwargs_fit.Given as goal

abbrev pub invariant-loop-name : goal.invariant-loop-name
invariant-loop-name l = list_all (λ e. arg_ok e.1) (named l.kwargs.entries) ≡ list_all (λ e. arg_ok e.1) (named l._name-iterator)
