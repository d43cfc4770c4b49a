use Rattle.canvas_runs.specs.Core as C
use Rattle.canvas_core.specs.declared.ask.Reply.TheVariants as R
use Rattle.canvas_worker.specs.Polls.{WorkerView}
use Rattle.canvas_worker.proofs.Polls.ToldAnswers.{asked_well, ack_asks}
use Rattle.canvas_worker.proofs.working.Working.acknowledge.Goals as goal

pub returns-clause-acted : goal.returns-clause-acted
returns-clause-acted g c =
    let w : WorkerView = c.args.self.now in
    asked_well (g.T.Tasks.behaviour c.args.tasks.now) w w c.reply.new.self C.ack R.Acked c.reply.result c.reply.ensures.value c.requires.ready
    (ack_asks (g.T.Tasks.behaviour c.args.tasks.now) w c.requires.ready c.requires.asks c.requires.reads_back)
