-- Messages of a plan are read back from their texts, but for the sizes of chords.
use Rattle.std.proofs.Common.{◌≡◌, ◌∙◌, ◌<◌, ◌^◌, List, map, length, true, Some, sym, ap, subst, arith}
use Rattle.base64.specs.GeneralPurpose.{IsBytes}
use Rattle.serde_json.specs.Written.{compact_text}
use Rattle.canvas_task.specs.Text.{Text}
use Rattle.canvas_semantics.specs.Line.{Line}
use Rattle.canvas_semantics.specs.PlacedLine.{bare}
use Rattle.canvas_semantics.proofs.Numbered.{count_elements}
use Rattle.canvas_rewrite.specs.Planned.{IsPlan}
use Rattle.canvas_rewrite.proofs.Members.{few_members}
use Rattle.canvas_envelope.specs.Content.{Content}
use Rattle.canvas_envelope.specs.Fits.{fits}
use Rattle.canvas_effects.specs.Carrying.{is_whole}
use Rattle.canvas_effects.proofs.Standing.{whole_ok}
use Rattle.canvas_celery.specs.Envelope.{body_wire, message_text}
use Rattle.canvas_celery.specs.MessageReading.{IsSound, read_message}
use Rattle.canvas_celery.specs.ExportReading.{read_export, started}
use Rattle.canvas_celery.specs.Resp.{resp}
use Rattle.canvas_celery.specs.Setting.{Setting}
use Rattle.canvas_celery.specs.Start.{start}
use Rattle.canvas_celery.specs.Starting.{starting}
use Rattle.canvas_celery.specs.Sizeless.{sizeless}
use Rattle.canvas_celery.specs.ExportView.{naming_of}
use Rattle.canvas_celery.proofs.Exported.ExportBack.{starting_named, export_back}
use Rattle.canvas_celery.proofs.Exported.Texts.{at_once}
use Rattle.canvas_celery.proofs.Exported.CleanSignatures.{IsBounded}
use Rattle.canvas_celery.proofs.Exported.MessageBack.{kept_bytes, message_back}

pub plan_bounded : (run : Text) (plan : Line) → IsPlan plan → IsBounded (naming_of run plan)
plan_bounded run plan h g = omega (arith, h.runnable.few_tasks, count_elements plan, few_members plan g)

pub plan_message : (run : Text) → length run ≡ 22 → (plan : Line) → IsPlan plan → (queue : Text) (c : Content) → fits c ≡ true
    → IsBytes (compact_text (body_wire (naming_of run plan) c))
    → read_message (message_text (naming_of run plan) queue c) ≡ Some (sizeless c)
plan_message run whole plan h queue c ok bytes =
    message_back (naming_of run plan) whole (plan_bounded run plan h) queue c (kept_bytes (compact_text (body_wire (naming_of run plan) c)) bytes) ok

pub plan_sound : (run : Text) → length run ≡ 22 → (plan : Line) → IsPlan plan → IsSound (naming_of run plan)
plan_sound run whole plan h = (whole, plan_bounded run plan h)

-- a start of a plan, whose messages read back from their texts
pub start_back : (run : Text) (plan : Line) (setting : Setting) → length run ≡ 22 → IsPlan plan → is_whole (bare plan) ≡ true
    → (messages : List Content)
    → (IsSound (naming_of run plan)
    → map (λ m. read_message (message_text (naming_of run plan) setting.queue m)) messages ≡ map (λ m. Some (sizeless m)) messages)
    → (bytes : Text) → bytes ≡ resp (start run setting (starting (bare plan)) (map (message_text (naming_of run plan) setting.queue) messages))
    → length bytes < 2 ^ 64
    → read_export bytes ≡ Some (started (starting (bare plan)) (map sizeless messages))
start_back run plan setting whole h stands messages back bytes is long =
    let text = message_text (naming_of run plan) setting.queue in
    let each : map read_message (map text messages) ≡ map Some (map sizeless messages) =
    at_once read_message text messages ∙ (back (plan_sound run whole plan h) ∙ sym (at_once Some sizeless messages)) in
    ap read_export is
    ∙ export_back run whole setting (starting (bare plan)) (starting_named true (bare plan) (whole_ok (bare plan) stands)) (map text messages)
    (map sizeless messages) each (subst (λ bs. length bs < 2 ^ 64) is long)
