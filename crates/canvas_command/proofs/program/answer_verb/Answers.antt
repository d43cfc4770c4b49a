use Rattle.std.proofs.Common.{IfOk, subst, sym}
use Rattle.canvas_task.specs.Text.{Text}
use Rattle.canvas_adapt.specs.Stubs.{stubs_behaviour}
use Rattle.canvas_answer.specs.Asking.{asked_of}
use Rattle.canvas_answer.specs.Inputs.{IsCanvasRead}
use Rattle.canvas_answer.specs.declared.answer.Answer.{Answer}
use Rattle.canvas_command.specs.Asked.{IsAnswerTo}
use Rattle.canvas_command.proofs.Wording.{of_text}
use Rattle.canvas_command.proofs.program.answer_verb.Given.{Over}
use Rattle.canvas_command.proofs.program.answer_verb.Goals as goal
use Rattle.canvas_command.proofs.program.answer_verb.Goals.{in_default-2, in_default}

module _ (g : Over) (c : goal.After-drop-text-2 g) where
  abbrev Read : Text → Type 0
  Read x = IsCanvasRead c.args.request.now.file.now (g.R.Read.remaining c.args.input.now) x

  abbrev Says : Text → Answer → Type 0
  Says x a = IsAnswerTo (stubs_behaviour c.args.answers.stubs.items (g.T.Tasks.behaviour c.args.tasks.now))
      (asked_of c.args.request.now.adapts c.args.answers) x c.args.verb.now a

  abbrev Told : Answer → Type 0
  Told a = (x : Text) × Read x × Says x a

pub returns : goal.returns
returns g c =
    elim c.match-answer_with.branch [
      | in_default-2 w ↦ subst (λ r. IfOk r (Told g c)) (sym w.result-is) tt
      | in_default w ↦ subst (λ r. IfOk r (Told g c)) (sym w.result-is)
          (of_text (Read g c) (Says g c) c.in_ok-text.text.items c.answer_with.result c.in_ok-text.ensures.read
          (subst (λ x. IfOk c.answer_with.result (Says g c x)) c.deref.ensures.value c.answer_with.ensures))
    ]
