use Rattle.std.proofs.Common.{◌∙◌, ◌++◌, ap, sym, append-nil}
use Rattle.canvas_ran.specs.Calls.{call_line}
use Rattle.canvas_ran.proofs.calls.lines.push_line.Goals as goal

pub returns : goal.returns
returns c =
    c.in_ok-extend_from_slice.ensures.items
    ∙ ap (λ xs. c.args.text.now.items ++ xs) (c.deref.ensures.value ∙ c.in_ok-line.ensures
    ∙ ap (λ m. call_line c.args.fronts.now c.args.shown.now m) (sym c.in_ok-message.ensures)
    ∙ sym (append-nil _))
