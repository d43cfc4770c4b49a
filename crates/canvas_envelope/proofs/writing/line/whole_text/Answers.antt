use Rattle.std.proofs.Common.{◌∙◌, [], ◌++◌, subst}
use Rattle.std.proofs.lemmas.Result.{IfOk-weaker}
use Rattle.canvas_rewrite.specs.FrozenView.{p_line_view}
use Rattle.canvas_envelope.specs.SharedTexts.{IsLineText, IsListed, backwards, elements_head, elements_own}
use Rattle.canvas_envelope.specs.steps.Listing.{tail_line}
use Rattle.canvas_envelope.proofs.Written.Listing.{all_tasks}
use Rattle.canvas_envelope.proofs.writing.line.whole_text.Goals as goal

pub returns : goal.returns
returns c =
    let whole = all_tasks c.args.line.now c.deref.result.now (c.deref.ensures.value ∙ c.get.ensures) in
    IfOk-weaker c.share.result _ _
    (λ t h. subst (λ l. IsLineText t l × IsListed (elements_head t ++ elements_own t) (backwards l)) whole
    (h _ (c.in_ok-listed-2.ensures [] (tail_line (p_line_view c.args.line.now)) c.in_ok-listed.ensures)))
    c.share.ensures
