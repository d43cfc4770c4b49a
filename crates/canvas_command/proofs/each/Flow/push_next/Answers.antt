use Rattle.std.proofs.Common.{◌≡◌}
use Rattle.canvas_command.proofs.Batches.{more_of}
use Rattle.canvas_command.proofs.each.Flow.push_next.Goals as goal

pub returns-in_ok-push-in-Ok-Some : goal.returns-in_ok-push-in-Ok-Some
returns-in_ok-push-in-Ok-Some g c =
    let kept = c.of.ensures in
    let is = c.in-Ok-Some.text-is in
    let made : c.of.result.text ≡ c.in-Ok-Some.text = cc in
    more_of c.args.self.now.each.end _ _ _ c.in-Ok-Some.text c.of.result _ _ c.in-Ok-Some.field-0-is made
    c.in_ok-push-in-Ok-Some.ensures.items c.in-Ok-Some.ensures.next
