use Rattle.std.proofs.Common.{[], ◌∷◌, refl}
use Rattle.json.specs.Token.{begin_object, end_object}
use Rattle.canvas_values.proofs.Written.Writers.{after_ok, then_tokens}
use Rattle.canvas_celery.proofs.Exported.Lines.{appended}
use Rattle.canvas_celery.proofs.commands.envelope.write_properties.Goals as goal

pub returns : goal.returns
returns c =
    let out = c.args.out.now in
    let begun = c.in_ok-begin_object.ensures in
    let encoding = then_tokens out c.begin_object.new.self c.write_text.new.out (begin_object ∷ []) _ (begun.ok, begun.room.0) c.in_ok-write_text.ensures in
    let id = then_tokens out c.write_text.new.out c.write_task_member.new.out _ _ encoding c.in_ok-write_task_member.ensures in
    let delivery = then_tokens out c.write_task_member.new.out c.write_delivery.new.out _ _ id c.in_ok-write_delivery.ensures in
    let mode = then_tokens out c.write_delivery.new.out c.write_number.new.out _ _ delivery c.in_ok-write_number.ensures in
    let tag = then_tokens out c.write_number.new.out c.write_task_member-2.new.out _ _ mode c.in_ok-write_task_member-2.ensures in
    let priority = then_tokens out c.write_task_member-2.new.out c.write_number-2.new.out _ _ tag c.in_ok-write_number-2.ensures in
    after_ok c.end_object.result out c.write_number-2.new.out c.end_object.new.self _ (end_object ∷ []) _ priority
    (appended c.end_object.result c.write_number-2.new.out c.end_object.new.self end_object c.end_object.ensures) refl
