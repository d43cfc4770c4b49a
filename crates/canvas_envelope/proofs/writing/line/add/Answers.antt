use Rattle.std.proofs.Common.{◌≡◌, ◌∙◌, ◌==◌, arith, length, vec_len, None, ap, subst}
use Rattle.std.specs.Prelude.{not}
use Rattle.std.specs.Str.{IsUtf8}
use Rattle.canvas_rewrite.specs.FrozenView.{p_task_view}
use Rattle.canvas_envelope.specs.Wire.{task_wire}
use Rattle.canvas_envelope.proofs.Written.Listing.{grown, put_behind, printed}
use Rattle.canvas_envelope.proofs.writing.line.add.Goals as goal

pub returns : goal.returns
returns c head line h =
    let d = task_wire None (p_task_view c.args.task.now) in
    let ends = c.args.listed.ends in
    let many : vec_len ends ≡ length ends.items = omega (arith, ends.ok.0) in
    grown head c.args.listed.text.items ends.items (p_task_view c.args.task.now) line _ c.put_comma.new.text.items c.into_inner-text.result.items
    c.push.new.self.items c.len.result h
    (ap not (c.is_empty.ensures ∙ ap (λ n. n == 0) many)) c.in_ok-put_comma.ensures
    (put_behind d c.new-out.result c.write_task.new.out c.into_inner-text.result.items c.put_comma.new.text.items c.new-out.ensures.before
    c.new-out.ensures.tokens c.in_ok-write_task.ensures c.into_inner-text.ensures.items)
    (subst IsUtf8 (printed d c.new-out.result c.write_task.new.out c.new-out.ensures.tokens c.in_ok-write_task.ensures) c.into_inner-text.ensures.utf8)
    (omega (arith, c.len.ensures, c.into_inner-text.result.ok.0)) c.in_ok-push.ensures.items
