use Rattle.std.proofs.Common.{◌≡◌, ◌∷◌, rules}
use Rattle.canvas_engine.proofs.ByTurns.Noting.{letters_on}
use Rattle.canvas_engine.proofs.by_turns.notes.letters_of.Goals as goal

pub loop-step-preserved : goal.loop-step-preserved
loop-step-preserved c =
    let l = c.loop-step in
    let left = l.step-iterator.rest.items in
    let others = c.next.new.self.rest.items in
    let split : left ≡ c.in-Some.step ∷ others = search rules in
    letters_on l.letters.items c.push_some.new.letters.items c.in-Some.step left others _ _ l.invariant split c.published_in.ensures c.in_ok-push_some.ensures
