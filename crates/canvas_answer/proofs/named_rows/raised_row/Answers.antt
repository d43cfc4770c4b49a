use Rattle.canvas_answer.proofs.ShownRows.{raised_some}
use Rattle.canvas_answer.proofs.named_rows.raised_row.Goals as goal

pub returns-in_ok-from_str-in-Some : goal.returns-in_ok-from_str-in-Some
returns-in_ok-from_str-in-Some c =
    raised_some c.args.class c.in-Some.class c.args.state c.in_ok-from_str-in-Some.field-0 c.in-Some.is c.in_ok-from_str-in-Some.ensures.ok
