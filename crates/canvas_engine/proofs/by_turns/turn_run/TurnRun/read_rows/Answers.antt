use Rattle.std.proofs.Common.{◌≡◌, ◌+◌, ap, rules, arith}
use Rattle.canvas_backend.specs.Plain.{held}
use Rattle.canvas_history.specs.Roster.{Roster}
use Rattle.canvas_engine.proofs.ByTurns.ReadRows.{row_more}
use Rattle.canvas_engine.proofs.by_turns.turn_run.TurnRun.read_rows.Goals as goal

pub read-requires : goal.read-requires
read-requires c =
    omega (arith, c.loop-index-test.true, c.task_at.ensures, c.tasks-index-end.ensures.value, ap (λ (p : Roster). p.tasks) c.requires.plan)

pub loop-index-preserved : goal.loop-index-preserved
loop-index-preserved c =
    let is : c.read.result ≡ (held c.args.self.now.table).outcomes (c.loop-index.index + 1) = search (rules, c.task_at.ensures, c.read.ensures.reply) in
    row_more (held c.args.self.now.table) c.loop-index.rows c.loop-index.index c.read.result
    (omega (arith, c.loop-index-test.true, c.loop-index.auto.rows, c.requires.rows, c.tasks-index-end.ensures.value))
    is c.loop-index.invariant
