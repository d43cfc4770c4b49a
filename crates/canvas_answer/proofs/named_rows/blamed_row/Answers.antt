use Rattle.canvas_answer.proofs.ShownRows.{blamed_some}
use Rattle.canvas_answer.proofs.named_rows.blamed_row.Goals as goal

pub returns-in_ok-name-in-Some : goal.returns-in_ok-name-in-Some
returns-in_ok-name-in-Some c =
    blamed_some c.args.dep c.args.class c.in-Some.class c.args.state c.in_ok-name-in-Some.name c.in-Some.is c.in_ok-name-in-Some.ensures.ok
