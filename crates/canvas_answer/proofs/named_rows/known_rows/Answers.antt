use Rattle.std.proofs.Common.{refl}
use Rattle.canvas_task.proofs.Turns.{put_on, put_all}
use Rattle.canvas_answer.specs.Told.{known_states}
use Rattle.canvas_answer.proofs.named_rows.known_rows.Goals as goal

pub loop-state-preserved : goal.loop-state-preserved
loop-state-preserved c =
    put_on known_states _ c.loop-state.state-index c.state-item.result _ c.loop-state.rows.items _ _ c.loop-state-test.true c.state-item.is refl
    c.loop-state.invariant c.in_ok-push.ensures.items

pub returns : goal.returns
returns c = put_all known_states _ c.loop-state.state-index c.loop-state.rows.items _ c.loop-state-test.false refl c.loop-state.invariant
