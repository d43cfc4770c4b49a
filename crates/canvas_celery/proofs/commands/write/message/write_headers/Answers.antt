use Rattle.std.proofs.Common.{[], ◌∷◌, ◌∙◌, ap}
use Rattle.json.specs.Token.{begin_object, end_object}
use Rattle.canvas_values.specs.steps.Tokens.{data_tokens}
use Rattle.canvas_values.proofs.Written.Writers.{after_ok, then_tokens}
use Rattle.canvas_envelope.specs.Content.{number_of, place_of, call_of}
use Rattle.canvas_envelope.specs.MessageView.{place_seen}
use Rattle.canvas_celery.specs.ExportView.{naming}
use Rattle.canvas_celery.proofs.Exported.Lines.{appended}
use Rattle.canvas_celery.proofs.Exported.Tokens.{headers_tokens, headers_of_parts, headers_written}
use Rattle.canvas_celery.proofs.commands.write.message.write_headers.Goals as goal

pub returns : goal.returns
returns c =
    let out = c.args.out.now in
    let n = naming c.args.names.now in
    let m = c.args.message.now in
    let begun = c.in_ok-begin_object.ensures in
    let place = then_tokens out c.begin_object.new.self c.write_place.new.out (begin_object ∷ []) _ (begun.ok, begun.room.0) c.in_ok-write_place.ensures in
    let id = then_tokens out c.write_place.new.out c.write_task_member.new.out _ _ place c.in_ok-write_task_member.ensures in
    let lang = then_tokens out c.write_task_member.new.out c.write_text.new.out _ _ id c.in_ok-write_text.ensures in
    let parent = then_tokens out c.write_text.new.out c.write_parent.new.out _ _ lang c.in_ok-write_parent.ensures in
    let root = then_tokens out c.write_parent.new.out c.write_task_member-2.new.out _ _ parent c.in_ok-write_task_member-2.ensures in
    let task = then_tokens out c.write_task_member-2.new.out c.write_text-2.new.out _ _ root c.in_ok-write_text-2.ensures in
    after_ok c.end_object.result out c.write_text-2.new.out c.end_object.new.self _ (end_object ∷ []) _ task
    (appended c.end_object.result c.write_text-2.new.out c.end_object.new.self end_object c.end_object.ensures)
    (ap (λ k. headers_tokens n c.message.inside.task k (place_seen c.message.inside.place) c.message.inside.parent c.deref.result.now) c.root.ensures
    ∙ headers_written n c.message.inside.task (place_seen c.message.inside.place) c.message.inside.parent c.deref.result.now
    ∙ ap (λ t. data_tokens (headers_of_parts n c.message.inside.task (place_seen c.message.inside.place) c.message.inside.parent t))
    (c.deref.ensures ∙ c.get.ensures)
    ∙ ap (λ v. data_tokens (headers_of_parts n (number_of v.own) (place_of v.own) v.parent (call_of v.own).name)) c.message.view_is)
