use Rattle.std.proofs.Common.{refl}
use Rattle.canvas_effects.proofs.Copied.{tasks_placed}
use Rattle.canvas_effects.proofs.moving.into_placed_tasks.Goals as goal

pub returns-in_ok-push-in-Some : goal.returns-in_ok-push-in-Some
returns-in_ok-push-in-Some c =
    tasks_placed _ _ c.pop.new.self.items c.pop.new.self.items c.in-Some.last _ c.args.tasks.items c.in-Some.ensures.items refl
    c.into_place.ensures c.in_ok-push-in-Some.ensures.items
