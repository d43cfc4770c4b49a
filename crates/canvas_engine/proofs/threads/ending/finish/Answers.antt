use Rattle.std.proofs.Common.{rules, ◌≡◌, ◌∙◌, ◌++◌, drop, length, take, sym, subst}
use Rattle.std.proofs.lemmas.List.{take_at}
use Rattle.canvas_semantics.specs.Line.{count_line}
use Rattle.canvas_history.specs.Roster.{roster_of}
use Rattle.canvas_runs.specs.Following.{Serves}
use Rattle.canvas_runs.specs.CallerRows.{reads_from}
use Rattle.canvas_engine.specs.steps.Gathering.{AreRead}
use Rattle.canvas_engine.proofs.threads.ending.finish.Goals as goal

pub returns-in-Some-clause-err : goal.returns-in-Some-clause-err
returns-in-Some-clause-err c =
    let rows = c.read_rows.new.rows in
    let many : length rows ≡ count_line c.args.plan.now = search rules in
    let reads : Serves (roster_of c.args.plan.now) c.args.left.seat (reads_from 1 rows) c.read_rows.new.seat =
    subst (λ plan. Serves plan c.args.left.seat (reads_from 1 rows) c.read_rows.new.seat) c.requires.plan c.read_rows.ensures.read in
    let whole : take c.args.rows.len (rows ++ drop (length rows) c.args.rows.items) ≡ rows = take_at rows _ c.args.rows.len (search rules) in (
      c.in-Some.cause,
      _,
      c.read_rows.new.seat,
      c.halted_with.ensures,
      subst (λ xs. AreRead c.args.plan.now c.args.left.seat xs c.read_rows.new.seat)
          (sym whole) (many, reads),
    )

pub returns-in-None-clause-ok : goal.returns-in-None-clause-ok
returns-in-None-clause-ok c =
    let rows = c.read_rows.new.rows in
    let many : length rows ≡ count_line c.args.plan.now = search rules in
    let reads : Serves (roster_of c.args.plan.now) c.args.left.seat (reads_from 1 rows) c.read_rows.new.seat =
    subst (λ plan. Serves plan c.args.left.seat (reads_from 1 rows) c.read_rows.new.seat) c.requires.plan c.read_rows.ensures.read in
    let whole : take c.args.rows.len (rows ++ drop (length rows) c.args.rows.items) ≡ rows = take_at rows _ c.args.rows.len (search rules) in
    let kept : c.of.result ≡ rows = c.of.ensures ∙ whole in
    (search rules, c.read_rows.new.seat, c.read_rows.ensures.own, subst (λ xs. AreRead c.args.plan.now c.args.left.seat xs c.read_rows.new.seat) (sym kept) (many, reads), c.records_of.ensures)
