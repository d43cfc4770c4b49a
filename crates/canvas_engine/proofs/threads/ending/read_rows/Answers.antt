use Rattle.std.proofs.Common.{rules, ◌<◌, ◌≤◌, length, ap, arith}
use Rattle.std.proofs.lemmas.List.{length-take-le}
use Rattle.canvas_history.specs.History.{calls}
use Rattle.canvas_history.specs.Table.{read, found}
use Rattle.canvas_history.specs.Roster.{Roster}
use Rattle.canvas_history.specs.Seats.{Stands}
use Rattle.canvas_engine.proofs.OnThreads.SeatRows.{row_read}
use Rattle.canvas_engine.proofs.threads.ending.read_rows.Goals as goal

pub read-requires-clause-task : goal.read-requires-clause-task
read-requires-clause-task c =
    omega (arith, c.loop-index-test.true, c.task_at.ensures, c.tasks-index-end.ensures.value, ap (λ (p : Roster). p.tasks) c.requires.plan)

pub loop-index-preserved : goal.loop-index-preserved
loop-index-preserved c =
    let inside : c.loop-index.index < length c.loop-index.rows =
    omega (arith, c.loop-index-test.true, c.loop-index.auto.rows, c.requires.rows, c.tasks-index-end.ensures.value) in
    let before : c.loop-index.index ≤ length c.loop-index.rows = omega (arith, inside) in
    let stands : Stands c.args.backend.now.plan c.loop-index.seat
    (calls c.loop-index.seat.name (read c.task_at.result) (found c.read.result)) c.read.new.seat = search rules in (
      search rules,
      row_read c.args.backend.now.plan c.args.seat.now c.loop-index.seat c.read.new.seat c.loop-index.rows c.loop-index.index
          c.task_at.result c.read.result inside c.task_at.ensures
          (length-take-le c.loop-index.index c.loop-index.rows before) c.loop-index.invariant.1 stands,
    )
