use Rattle.canvas_envelope.specs.SharedTexts.{elements_head, elements_own}
use Rattle.canvas_effects.proofs.Sharing.{next_end, nothing_left}
use Rattle.canvas_effects.proofs.effects.moved.text_behind.Goals as goal

pub returns : goal.returns
returns c t rest h =
    next_end (elements_head c.args.text) (elements_own c.args.text) c.args.text.ends.items c.pop.new.self.items c.pop.result t rest c.pop.ensures.items
    (λ none. nothing_left c.args.text.ends c.pop.new.self c.pop.result none c.pop.ensures.cases) h
