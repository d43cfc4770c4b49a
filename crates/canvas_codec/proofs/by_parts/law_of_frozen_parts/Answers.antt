use Rattle.canvas_codec.proofs.FrozenDepth.{reads_shallow, refused_by_parts, said_by_parts, same_envelope, same_within}
use Rattle.canvas_codec.proofs.by_parts.law_of_frozen_parts.Goals as goal

pub returns-clause-reads : goal.returns-clause-reads
returns-clause-reads c = reads_shallow

pub returns-clause-refused : goal.returns-clause-refused
returns-clause-refused c = refused_by_parts

pub returns-clause-said : goal.returns-clause-said
returns-clause-said c = said_by_parts

pub returns-clause-more : goal.returns-clause-more
returns-clause-more c = same_within

pub returns-clause-envelopes : goal.returns-clause-envelopes
returns-clause-envelopes c = same_envelope
