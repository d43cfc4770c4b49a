use Rattle.std.proofs.Common.{rules, ◌≡◌, subst}
use Rattle.serde_json.specs.View.{view}
use Rattle.canvas_semantics.specs.Line.{count_line}
use Rattle.canvas_task.specs.Text.{Text}
use Rattle.canvas_celery.specs.Stored.{message_of, Blames}
use Rattle.canvas_celery.proofs.results.stored.chord_failure.Goals as goal

pub returns-in-None : goal.returns-in-None
returns-in-None c =
    let said : c.as_bytes.result.now ≡ message_of (view c.args.exception.now) = search rules in (
      c.requires,
      λ dep why. let P : Text → Type 0 = λ m. ¬ Blames c.args.run.now.digits (count_line c.args.plan.now) m dep why in subst P said
          (c.in-None.ensures dep why),
    )
