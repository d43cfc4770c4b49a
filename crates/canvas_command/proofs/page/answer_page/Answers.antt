use Rattle.std.proofs.Common.{◌≡◌, ◌∙◌, ap, rules, subst}
use Rattle.canvas_answer.specs.Asking.{asked_of}
use Rattle.canvas_answer.specs.Plans.{IsCanvasOf}
use Rattle.canvas_report.specs.Page.{page_of}
use Rattle.canvas_command.specs.Paged.{IsBlock}
use Rattle.canvas_command.proofs.page.answer_page.Goals as goal

pub returns : goal.returns
returns g c = λ read.
    let kept : c.deref.result.now ≡ c.args.cases = search rules in
    let lines = c.in_ok-lines.lines.items in
    let block = subst (λ s. IsCanvasOf s.adapts s.text.now s.canvas
    → IsBlock (g.T.Tasks.behaviour s.tasks.now) (asked_of s.adapts c.args.answers) s.word.now s.text.now lines)
    kept c.in_ok-lines.ensures read in (
      lines,
      block,
      record {
        out = c.raw.ensures.out ∙ c.in_ok-page_text.ensures ∙ ap page_of c.deref-2.ensures.value;
        unrefused = c.raw.ensures.unrefused;
        ends = c.raw.ensures.ends;
      },
    )
