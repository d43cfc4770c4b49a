use Rattle.std.proofs.Common.{◌∙◌, ap, map}
use Rattle.canvas_rewrite.specs.FrozenView.{line_of}
use Rattle.canvas_rewrite.proofs.CopiedLines.{copied_none, copied_some, copied_group, copied_chord}
use Rattle.canvas_rewrite.proofs.copying.+copy.Goals as goal

pub copy_line-returns-in-None : goal.copy_line-returns-in-None
copy_line-returns-in-None t c =
    copied_none c.args.line.now _ _ c.in_ok-tasks.ensures (c.deref.ensures.value ∙ c.get.ensures) c.in-None.is

pub copy_line-returns-in_ok-tail-in-Some : goal.copy_line-returns-in_ok-tail-in-Some
copy_line-returns-in_ok-tail-in-Some t c =
    copied_some c.args.line.now _ _ c.in_ok-tasks.ensures (c.deref.ensures.value ∙ c.get.ensures) c.in-Some.end c.in-Some.is
    _ _ _ c.deref-in-Some.ensures c.in_ok-end-in-Some.ensures c.in_ok-tail-in-Some.ensures.ok

pub copy_end-returns-in-None : goal.copy_end-returns-in-None
copy_end-returns-in-None t c =
    copied_group c.args.end.now _ _ (ap (map line_of) c.of-members.ensures ∙ c.in_ok-copy_lines.ensures)
    (c.deref.ensures.value ∙ c.get.ensures) c.in-None.is

pub copy_end-returns-in_ok-body-in-Some : goal.copy_end-returns-in_ok-body-in-Some
copy_end-returns-in_ok-body-in-Some t c =
    copied_chord c.args.end.now _ _ (ap (map line_of) c.of-members.ensures ∙ c.in_ok-copy_lines.ensures)
    (c.deref.ensures.value ∙ c.get.ensures) _ _ c.in-Some.is c.in_ok-body-in-Some.ensures
