-- When a rewritten canvas means what the canvas means (Celery user guide, Canvas: a group that a
-- task follows is upgraded to a chord).
use Rattle.std.specs.Prelude.{◌≡◌}
use Rattle.canvas_task.specs.Apply.{Behaviour}
use Rattle.canvas_semantics.specs.Evaluation.{Flow, eval, ends}
use Rattle.canvas_semantics.specs.Groups.{groups_of}
use Rattle.canvas_semantics.specs.Tree.{ends_in_group, Tree, numbered}

-- For all behaviours of tasks and every flow, the states are the same, number by number, and so is
-- the flow out. The ends are the same, and so is each group and chord.
pub record IsSame (s t : Tree) : Type 0 where
  pub means : (behaviour : Behaviour) (x : Flow)
      → eval behaviour (numbered s) x ≡ eval behaviour (numbered t) x
  pub ends_alike : ends (numbered s) ≡ ends (numbered t)
  pub in_group_alike : ends_in_group (numbered s) ≡ ends_in_group (numbered t)
  pub groups_alike : groups_of (numbered s) ≡ groups_of (numbered t)
