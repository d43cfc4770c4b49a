-- The chord of two sums is a plan whose texts are UTF-8. So its messages read back from their envelopes.
use Rattle.std.proofs.Common.{refl, lit≤}
use Rattle.std.specs.Prelude.{codes}
use Rattle.json.proofs.Printed.Utf8.{IsUtf8-are_ascii}
use Rattle.canvas_task.specs.Builtin.{builtin_tasks}
use Rattle.canvas_task.specs.BehaviourInRange.{builtin_in_range}
use Rattle.canvas_rewrite.specs.Planned.{IsPlan}
use Rattle.canvas_rewrite.specs.Utf8.{IsUtf8Line}
use Rattle.canvas_runs.specs.Progress.{AllReadBack}
use Rattle.canvas_runs.specs.Witness.{small}
use Rattle.canvas_runs.proofs.Envelopes.ReadBack.{all_read_back}

pub small_plan : IsPlan small
small_plan = record {
  numbered = refl;
  runnable = record {
    sound = (((((refl, tt, tt, tt), tt), (((refl, tt, tt, tt), tt), tt)), ((refl, tt, tt, tt), tt)), tt);
    full = ((((tt, tt), ((tt, tt), tt)), (tt, tt)), tt);
    members_end = refl;
    few_tasks = lit≤ tt;
    few_groups = lit≤ tt;
    near = lit≤ tt;
  };
}

pub small_utf8 : IsUtf8Line small
small_utf8 =
    let add = IsUtf8-are_ascii (codes "tasks.add") refl in
    let sum = IsUtf8-are_ascii (codes "tasks.xsum") refl in (
      (
        ((record { name = add; args = (tt, (tt, tt)); kwargs = tt }, tt, tt), tt),
        (((record { name = add; args = (tt, (tt, tt)); kwargs = tt }, tt, tt), tt), tt),
      ),
      ((record { name = sum; args = tt; kwargs = tt }, tt, tt), tt),
    )

pub chord_back : AllReadBack builtin_tasks small
chord_back = all_read_back builtin_tasks builtin_in_range small small_plan small_utf8
