-- The messages of a plan whose texts are UTF-8 read back from their envelopes.
use Rattle.canvas_task.specs.Apply.{Behaviour, AnswersInRange}
use Rattle.canvas_semantics.specs.Line.{Line}
use Rattle.canvas_rewrite.specs.Planned.{IsPlan}
use Rattle.canvas_rewrite.specs.Utf8.{IsUtf8Line}
use Rattle.canvas_envelope.specs.Content.{Content}
use Rattle.canvas_codec.proofs.Utf8Messages.{texts_utf8}
use Rattle.canvas_runs.specs.Progress.{AllReadBack}
use Rattle.canvas_runs.specs.Worker.{IsReadBack}
use Rattle.canvas_runs.proofs.Envelopes.AsciiBack.{utf8_back}
use Rattle.canvas_runs.proofs.Envelopes.RunMessages.{IsGood, run_message_good}

good_back : (c : Content) → IsGood c → IsReadBack c
good_back c good =
    let t = texts_utf8 c good.fit good.utf8 in
    utf8_back c good.fit t.properties t.headers t.body

pub all_read_back : (behaviour : Behaviour) → AnswersInRange behaviour → (l : Line) → IsPlan l → IsUtf8Line l
    → AllReadBack behaviour l
all_read_back behaviour range l plan utf8 c is = good_back c (run_message_good behaviour range l plan utf8 c is)
