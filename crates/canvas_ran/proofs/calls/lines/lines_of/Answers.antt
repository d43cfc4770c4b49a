use Rattle.std.proofs.Common.{◌++◌, List, ◌∷◌, ◌+◌, [], drop, ap, sym, append-nil}
use Rattle.canvas_task.proofs.Turns.{put_on}
use Rattle.canvas_envelope.specs.EnvelopeContent.{content_said}
use Rattle.canvas_envelope.specs.declared.envelope.Envelope.{Envelope}
use Rattle.canvas_ran.specs.Calls.{call_line, call_lines}
use Rattle.canvas_ran.proofs.calls.lines.lines_of.Goals as goal

pub loop-letter-preserved : goal.loop-letter-preserved
loop-letter-preserved c =
    let lines = λ (es : List Envelope). call_lines c.args.fronts.now c.args.shown.now es in
    put_on lines c.args.messages.now c.loop-letter.letter-index c.letter-item.result (lines (c.letter-item.result ∷ []))
    c.loop-letter.text.items c.push_line.new.text.items _ c.loop-letter-test.true c.letter-item.is
    (ap (λ ys. ys ++ lines (drop (c.loop-letter.letter-index + 1) c.args.messages.now))
    (sym (append-nil (call_line c.args.fronts.now c.args.shown.now
    (content_said c.letter-item.result.headers c.letter-item.result.body)))))
    c.loop-letter.invariant c.in_ok-push_line.ensures
