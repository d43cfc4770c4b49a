use Rattle.canvas_core.proofs.Books.Sendable.{written_texts}
use Rattle.canvas_core.proofs.sealed.seal.Goals as goal

pub invariant_of-result : goal.invariant_of-result
invariant_of-result c = record { back = (written_texts c.args.message c.in_ok-envelope.envelope c.in_ok-envelope.ensures.texts.0 c.in_ok-envelope.ensures.texts.1 c.in_ok-envelope.ensures.texts.2 c.in_ok-envelope.ensures.reads_back).1 }

pub returns : goal.returns
returns c = (written_texts c.args.message c.in_ok-envelope.envelope c.in_ok-envelope.ensures.texts.0 c.in_ok-envelope.ensures.texts.1 c.in_ok-envelope.ensures.texts.2 c.in_ok-envelope.ensures.reads_back).0
