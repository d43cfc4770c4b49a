use Rattle.std.proofs.Common.{◌∙◌, sym}
use Rattle.canvas_celery.proofs.Exported.More.{more_tasks, more_before, more_end, more_chord, more_group}
use Rattle.canvas_celery.proofs.commands.write.pieces.+more.Goals as goal

pub end_has_more-returns-in-Some : goal.end_has_more-returns-in-Some
end_has_more-returns-in-Some t c = c.has_more.ensures ∙ more_chord c.args.end.now c.in-Some.body c.in-Some.is

pub end_has_more-returns-in-None : goal.end_has_more-returns-in-None
end_has_more-returns-in-None t c = more_group c.args.end.now c.in-None.is

pub has_more-returns-then-is_empty : goal.has_more-returns-then-is_empty
has_more-returns-then-is_empty t c =
    c.end_has_more.ensures
    ∙ more_end c.args.line.now c.as_slice-tasks.result.now (c.as_slice-tasks.ensures.value ∙ c.get.ensures) c.in-Some.end c.in-Some.is c.deref.result.now
    c.deref.ensures (sym c.is_empty.ensures ∙ c.if-is_empty.true)

pub has_more-returns-else-is_empty : goal.has_more-returns-else-is_empty
has_more-returns-else-is_empty t c =
    more_before c.args.line.now c.as_slice-tasks.result.now (c.as_slice-tasks.ensures.value ∙ c.get.ensures) c.in-Some.end c.in-Some.is
    (sym c.is_empty.ensures ∙ c.if-is_empty.false)

pub has_more-returns-in-None : goal.has_more-returns-in-None
has_more-returns-in-None t c = more_tasks c.args.line.now c.as_slice-tasks.result.now (c.as_slice-tasks.ensures.value ∙ c.get.ensures) c.in-None.is
