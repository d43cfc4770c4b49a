use Rattle.std.proofs.Common.{◌≡◌, ◌∙◌, ◌++◌, List, ℕ, length, refl, ap, sym, subst, arith}
use Rattle.std.specs.Prelude.{string_bytes}
use Rattle.std.specs.Str.{IsUtf8}
use Rattle.std.proofs.lemmas.Str.{IsUtf8-append, IsUtf8-string_bytes}
use Rattle.serde_json.specs.Data.{string}
use Rattle.serde_json.specs.Written.{compact_text}
use Rattle.canvas_envelope.specs.Content.{call_of, number_of, place_of}
use Rattle.canvas_envelope.specs.Pieces.{embed_text, properties_around}
use Rattle.canvas_envelope.specs.Wire.{task_id, place_id, parent_id}
use Rattle.canvas_codec.proofs.OwnTexts.{IsInParts, front_part, group_part, headers_alike, headers_said, headers_utf8, id_part, last_utf8, name_part, parent_part, properties_said, properties_utf8, text_length}
use Rattle.canvas_codec.proofs.encoding.texts_of.Goals as goal

abbrev front : (c : goal.After-bytes_of) → List ℕ
front c = string_bytes c.args.body.front

abbrev group : (c : goal.After-bytes_of) → List ℕ
group c = compact_text (place_id (place_of c.args.message.now.own))

abbrev id : (c : goal.After-bytes_of) → List ℕ
id c = compact_text (task_id (number_of c.args.message.now.own))

abbrev parent : (c : goal.After-bytes_of) → List ℕ
parent c = compact_text (parent_id c.args.message.now.parent)

abbrev name : (c : goal.After-bytes_of) → List ℕ
name c = compact_text (string (call_of c.args.message.now.own).name)

with_group : (c : goal.After-bytes_of) → string_bytes c.put_place_id.new.out ≡ front c ++ group c
with_group c =
    c.in_ok-put_place_id.ensures ∙ ap (λ z. front c ++ compact_text (place_id (place_of z.own))) c.message.view_is

with_id : (c : goal.After-bytes_of) → string_bytes c.put_task_id.new.out ≡ (front c ++ group c) ++ id c
with_id c =
    c.in_ok-put_task_id.ensures ∙ ap (λ x. x ++ compact_text (task_id c.args.task)) (with_group c)
    ∙ ap (λ k. (front c ++ group c) ++ compact_text (task_id k)) c.requires.task

with_parent : (c : goal.After-bytes_of) → string_bytes c.put_parent_id.new.out ≡ ((front c ++ group c) ++ id c) ++ parent c
with_parent c =
    c.in_ok-put_parent_id.ensures ∙ ap (λ x. x ++ compact_text (parent_id c.message.inside.parent)) (with_id c)
    ∙ ap (λ z. ((front c ++ group c) ++ id c) ++ compact_text (parent_id z.parent)) c.message.view_is

with_name : (c : goal.After-bytes_of) → string_bytes c.put_string.new.out ≡ (((front c ++ group c) ++ id c) ++ parent c) ++ name c
with_name c =
    c.in_ok-put_string.ensures ∙ ap (λ x. x ++ compact_text (string c.deref.result.now)) (with_parent c)
    ∙ ap (λ x. (((front c ++ group c) ++ id c) ++ parent c) ++ compact_text (string x)) (c.deref.ensures ∙ c.get.ensures)
    ∙ ap (λ z. (((front c ++ group c) ++ id c) ++ parent c) ++ compact_text (string (call_of z.own).name)) c.message.view_is

parts : (c : goal.After-bytes_of) → IsInParts c.bytes_of.result (front c) (group c) (id c) (parent c) (name c) c.len-front_end.result c.len-group_end.result
    c.len-id_end.result c.len-parent_end.result
parts c =
    record {
      whole = c.bytes_of.ensures.value ∙ with_name c;
      front = text_length c.args.body.front c.len-front_end.result c.len-front_end.ensures;
      group = text_length c.put_place_id.new.out c.len-group_end.result c.len-group_end.ensures ∙ ap length (with_group c);
      id = text_length c.put_task_id.new.out c.len-id_end.result c.len-id_end.ensures ∙ ap length (with_id c);
      parent = text_length c.put_parent_id.new.out c.len-parent_end.result c.len-parent_end.ensures ∙ ap length (with_parent c);
    }

pub returns-clause-properties : goal.returns-clause-properties
returns-clause-properties c =
    ap properties_around (id_part _ _ _ _ _ _ _ _ _ _ (parts c)) ∙ properties_said c.args.message.now

pub returns-clause-headers : goal.returns-clause-headers
returns-clause-headers c =
    let h = parts c in
    headers_alike _ (group c) _ (id c) _ (parent c) _ (name c) (group_part _ _ _ _ _ _ _ _ _ _ h) (id_part _ _ _ _ _ _ _ _ _ _ h)
    (parent_part _ _ _ _ _ _ _ _ _ _ h) (name_part _ _ _ _ _ _ _ _ _ _ h) ∙ headers_said c.args.message.now

pub returns-clause-body : goal.returns-clause-body
returns-clause-body c = ap (λ f. f ++ embed_text c.args.body.embed) (front_part _ _ _ _ _ _ _ _ _ _ (parts c))

pub returns-clause-utf8 : goal.returns-clause-utf8
returns-clause-utf8 c = (
  subst IsUtf8 (sym (returns-clause-properties c)) (properties_utf8 c.args.message.now),
  subst IsUtf8 (sym (returns-clause-headers c))
      (headers_utf8 c.args.message.now (last_utf8 (((front c ++ group c) ++ id c) ++ parent c) _ 34 (omega arith)
      (subst IsUtf8 (with_name c) (IsUtf8-string_bytes c.put_string.new.out)))),
  subst IsUtf8 (sym (returns-clause-body c)) (IsUtf8-append _ _ (IsUtf8-string_bytes c.args.body.front) c.requires.utf8),
)
