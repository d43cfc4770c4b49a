-- What is kept of a plan.
use Rattle.std.proofs.Common.{arith}
use Rattle.canvas_semantics.specs.Line.{Line}
use Rattle.canvas_rewrite.specs.Planned.{IsPlan}
use Rattle.canvas_rewrite.proofs.Members.{plan_apart, member_known, few_members}
use Rattle.canvas_semantics.proofs.Numbered.{count_elements}
use Rattle.canvas_history.specs.Roster.{IsRoster, roster_of}

pub roster_sound : (l : Line) → IsPlan l → IsRoster (roster_of l)
roster_sound l plan = record {
  apart = plan_apart l plan;
  known = λ g t some. (member_known l plan g t some).1;
  few_tasks = omega (arith, plan.runnable.few_tasks, count_elements l);
  few_members = few_members l;
}
