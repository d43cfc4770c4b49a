use Rattle.std.proofs.Common.{◌++◌, map, codes, sym, ap₂, ◌∙◌}
use Rattle.canvas_values.specs.steps.Tokens.{link_tokens}
use Rattle.canvas_values.specs.SignatureView.{task_view, tasks_of}
use Rattle.canvas_values.specs.Writing.{tasks_wire}
use Rattle.canvas_values.proofs.Written.Writers.{after_ok, some_link, links_are}
use Rattle.canvas_values.proofs.writing.task.+write_task.Goals as goal

pub write_links-returns : goal.write_links-returns
write_links-returns t c =
    after_ok c.write_link-2.result c.args.out.now c.write_link.new.out c.write_link-2.new.out _ _ _ c.in_ok-write_link.ensures c.write_link-2.ensures
    (ap₂ (λ xs ys. link_tokens (codes "link") (tasks_wire (tasks_of (map task_view xs))) ++ link_tokens (codes "link_error") (tasks_wire (tasks_of (map task_view ys))))
    (c.deref.ensures.value ∙ c.get.ensures) (c.deref-2.ensures.value ∙ c.get-2.ensures) ∙ sym (links_are c.args.sig.now))

pub write_link-returns : goal.write_link-returns
write_link-returns t c =
    rw (some_link c.args.name.now c.args.sigs.now (sym c.is_empty.ensures ∙ c.if-is_empty.false)) c.write_member.ensures
