use Rattle.std.proofs.Common.{◌+◌, ◌≤◌, List, ◌++◌}
use Rattle.arrayvec.specs.ArrayVec.{array_vec_len}
use Rattle.crossbeam_queue.specs.SegTies.{IsSegPassOf}
use Rattle.crossbeam_queue.specs.SegBatches.{Holds}
use Rattle.canvas_broker.specs.declared.item.Item.{Item}
use Rattle.canvas_history.specs.Passes.{Took}
use Rattle.canvas_broker.specs.steps.PassKnowledge.{pass_of, seg_of}
use Rattle.canvas_broker.specs.steps.Rule.{envelopes, IsReady}
use Rattle.canvas_broker.proofs.broker.Broker.take_batch.Given as goal

abbrev pub invariant-loop-self : goal.invariant-loop-self
invariant-loop-self g l =
    IsSegPassOf (seg_of l.self) l.pass-inside.pass × (array_vec_len l.items + l.batch.len ≤ 4)
    × ((rest : List (Item g.row.T.Denot))
    × Holds (seg_of l.self) l.pass-inside.pass l.batch rest
    × Took l.fn.pass (envelopes (l.items.items ++ rest))
    (pass_of l.pass-inside.pass.web l.pass-inside.pass.me.view.client.knows))
    × IsReady l.pass-inside.pass.me.view.client

abbrev pub decreases-loop-self : goal.decreases-loop-self
decreases-loop-self g l = l.batch.len
