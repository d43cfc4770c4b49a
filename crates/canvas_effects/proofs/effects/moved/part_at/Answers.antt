use Rattle.canvas_effects.proofs.Sharing.{of_carried}
use Rattle.canvas_effects.proofs.effects.moved.part_at.Goals as goal

pub invariant_of-result-clause-says : goal.invariant_of-result-clause-says
invariant_of-result-clause-says c = of_carried c.args.text c.args.place c.in_ok-chord.chord c.in_ok-chord.was c.requires.text
