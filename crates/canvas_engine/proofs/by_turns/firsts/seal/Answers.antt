use Rattle.canvas_engine.proofs.ByTurns.Opening.{sealed_as, all_read_as}
use Rattle.canvas_engine.proofs.by_turns.firsts.seal.Goals as goal

pub returns-clause-value : goal.returns-clause-value
returns-clause-value c = sealed_as c.seal.result c.args.message c.seal.ensures.texts

pub returns-clause-back : goal.returns-clause-back
returns-clause-back c = all_read_as c.seal.result c.args.message c.seal.ensures.texts c.seal.ensures.reads_back
