use Rattle.std.proofs.Common.{arith}
use Rattle.canvas_runs.specs.EntryList.{when_text}
use Rattle.canvas_runs.proofs.ListTexts.EntryTexts.{no_number, number_before, rest_behind}
use Rattle.canvas_runs.proofs.entry_list.read_entry.Goals as goal

pub returns-in_err-number : goal.returns-in_err-number
returns-in_err-number c =
    let none = c.in_err-number.ensures.byte (omega arith) (λ w o f. f) in
    rw c.from_residual.ensures (λ e w is. no_number c.args.text.now none e.0 (when_text e.1) (w, is))

pub returns-in_err-read_number : goal.returns-in_err-read_number
returns-in_err-read_number c =
    let split = c.in_ok-number.ensures.byte (omega arith) (λ w o f. f) in
    rw c.from_residual-in_err-read_number.ensures
    (λ e w is. c.in_err-read_number.ensures e.0 w (number_before c.args.text.now _ e.0 (when_text e.1) split.0 (w, is)))

pub returns-in_err-when : goal.returns-in_err-when
returns-in_err-when c =
    let split = c.in_ok-number.ensures.byte (omega arith) (λ w o f. f) in
    rw c.from_residual-in_err-when.ensures
    (λ e w is. c.in_err-when.ensures e.1 (rest_behind c.args.text.now _ e.0 (when_text e.1) split.1 (w, is)))
