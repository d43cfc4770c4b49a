use Rattle.canvas_engine.proofs.ByTurns.Noting.{opened_on, opened_all}
use Rattle.canvas_engine.proofs.by_turns.notes.Notes.opened.Goals as goal

pub loop-letter-preserved : goal.loop-letter-preserved
loop-letter-preserved c =
    opened_on c.args.letters.now c.loop-letter.letter-index c.letter-item.result c.loop-letter-test.true c.letter-item.is
    c.args.self.now c.loop-letter.self c.published.new.self c.loop-letter.invariant c.in_ok-published.ensures

pub returns : goal.returns
returns c =
    opened_all c.args.letters.now c.loop-letter.letter-index c.loop-letter-test.false c.args.self.now c.loop-letter.self c.loop-letter.invariant
