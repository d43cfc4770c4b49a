use Rattle.std.proofs.Common.{◌≡◌, ◌≢◌, Err, Ok, Result, refl}
use Rattle.canvas_adapt.specs.Adapting.{IsSettled}
use Rattle.canvas_semantics.specs.Tree.{Tree}
use Rattle.canvas_task.specs.Text.{Text}
use Rattle.canvas_values.specs.CanvasText.{text_reading}
use Rattle.canvas_values.specs.declared.fault.SigFault.{SigFault}
use Rattle.canvas_values.specs.declared.fault.SigFault.TheVariants.{Memory}
use Rattle.canvas_answer.specs.Plans.{IsNoCanvas}
use Rattle.canvas_answer.proofs.prepared.adapted.Goals as goal

no_canvas : (bytes : Text) (r : Result Tree SigFault) (e : SigFault) → text_reading bytes ≡ r → IsSettled r (Err e) → e ≢ Memory → IsNoCanvas bytes
no_canvas bytes (Err fault) e is settled other = (fault, is)
no_canvas bytes (Ok c) e is settled other = absurd (other settled)

pub returns-in-Err : goal.returns-in-Err
returns-in-Err c =
    record {
      ok = tt;
      err = λ fault is _.
          let (same, other) = c.refused.ensures fault is in
          no_canvas c.args.text.now (text_reading c.args.text.now) c.in-Err.fault refl c.in-Err.ensures.settled other;
    }
