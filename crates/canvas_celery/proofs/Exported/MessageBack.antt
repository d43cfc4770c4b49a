-- A message that fits is read back from its text, but for the sizes of chords.
use Rattle.std.proofs.Common.{◌≡◌, ◌∙◌, ℕ, ◌≤◌, ◌+◌, map, reverse, length, true, Option, Some, None, Ok, refl, sym, ap, ap₂, subst, arith}
use Rattle.std.specs.Prelude.{codes, option_and_then}
use Rattle.base64.specs.GeneralPurpose.{IsBytes, encode_of, decode_of, decoded_of}
use Rattle.base64.specs.Engines.{standard}
use Rattle.base64.proofs.EngineFacts.{decode_of-encode_of}
use Rattle.base64.proofs.Streams.{decoded_of-ok}
use Rattle.serde_json.specs.Data.{Data, null, string, object, Items, no_items, item, member, no_members, depth, items_depth}
use Rattle.serde_json.specs.Read.{read}
use Rattle.serde_json.specs.Written.{compact_text}
use Rattle.canvas_task.specs.Text.{Text}
use Rattle.canvas_values.specs.Fields.{field, items, listed}
use Rattle.canvas_sig.specs.steps.Clean.{IsClean, AreClean}
use Rattle.canvas_sig.proofs.CleanWire.{args_clean, kwargs_clean, all_above, args_depth, kwargs_depth}
use Rattle.canvas_sig.proofs.ReadsAgain.{text_read}
use Rattle.canvas_semantics.specs.Tree.{Call}
use Rattle.canvas_semantics.specs.PlacedLine.{PTask, p_task, PTasks, PPlace, p_nowhere, p_group, p_chord, PLine, p_stop, p_step, p_group_end, p_chord_end}
use Rattle.canvas_envelope.specs.Content.{Content}
use Rattle.canvas_envelope.specs.Fits.{parent_ok, fits}
use Rattle.canvas_envelope.specs.FrozenGrammar.{levels}
use Rattle.canvas_envelope.specs.Wire.{list_or_null}
use Rattle.canvas_codec.proofs.Wholes.{RestFits, Whole, as_content, whole_of}
use Rattle.canvas_celery.specs.Signatures.{Naming, task_id, group_id, index_wire, sig_wire, each_wire, tasks_wire, elements}
use Rattle.canvas_celery.specs.Envelope.{body_wire, parent_id, headers_wire, properties_wire, envelope_wire, message_text}
use Rattle.canvas_celery.specs.MessageReading.{task_of, line_within, own_in, content_in, envelope_content, read_message}
use Rattle.canvas_celery.specs.Sizeless.{sizeless_task, sizeless_line, sizeless}
use Rattle.canvas_celery.proofs.Exported.Named.{task_back, task_number_back, arguments_back, named_back}
use Rattle.canvas_celery.proofs.Exported.SignaturesBack as signatures
use Rattle.canvas_celery.proofs.Exported.Depths.{deep_reversed, carried_low, line_low, callbacks_low}
use Rattle.canvas_celery.proofs.Exported.CleanSignatures as clean

-- ---- what the headers say

record Headed (n : Naming) (c : Content) (k : ℕ) (call : Call) (place : PPlace) : Type 0 where
  id : field (codes "id") (headers_wire n c) ≡ task_id n k
  parent : field (codes "parent_id") (headers_wire n c) ≡ parent_id n c.parent
  name : field (codes "task") (headers_wire n c) ≡ string call.name
  group : field (codes "group") (headers_wire n c) ≡ signatures.place_id n place

headed : (n : Naming) (parent : Option ℕ) (k : ℕ) (call : Call) (links errbacks : PTasks) (place : PPlace) (rest : PLine)
    → Headed n (as_content parent k call links errbacks place rest) k call place
headed n parent k call links errbacks p_nowhere rest = record { id = refl; parent = refl; name = refl; group = refl }
headed n parent k call links errbacks (p_group g) rest = record { id = refl; parent = refl; name = refl; group = refl }
headed n parent k call links errbacks (p_chord g size body) rest = record { id = refl; parent = refl; name = refl; group = refl }

listed_of : (ds : Items) → listed (list_or_null ds) ≡ items ds
listed_of no_items = refl
listed_of (item d ds) = refl

-- ---- the content, from the data

module _ (n : Naming) (whole : length n.run ≡ 22) where
  parent_back : (parent : Option ℕ) → parent_ok parent ≡ true → task_of (parent_id n parent) ≡ parent
  parent_back None h = refl
  parent_back (Some k) h = task_back n.run k whole h

  following_back : (l : PLine) → RestFits l → line_within levels (map (sig_wire no_items) (elements n l)) ≡ sizeless_line l
  following_back p_stop h = refl
  following_back (p_step t l) h = signatures.line_back n whole levels 0 true (p_step t l) no_items h.0 (omega (arith, h.1))
  following_back (p_group_end g ms) h = signatures.line_back n whole levels 0 true (p_group_end g ms) no_items h.0 (omega (arith, h.1))
  following_back (p_chord_end g ms b) h = signatures.line_back n whole levels 0 true (p_chord_end g ms b) no_items h.0 (omega (arith, h.1))

  rest_back : (l : PLine) → RestFits l → line_within levels (reverse (listed (list_or_null (each_wire (reverse (elements n l)))))) ≡ sizeless_line l
  rest_back l h =
      ap (line_within levels) (ap (λ ds. reverse ds) (listed_of (each_wire (reverse (elements n l)))) ∙ signatures.turned (elements n l)) ∙ following_back l h

  own_back : (parent : Option ℕ) (k : ℕ) (call : Call) (links errbacks : PTasks) (place : PPlace) (rest : PLine) → Whole parent k call links errbacks place rest
      → own_in (headers_wire n (as_content parent k call links errbacks place rest)) (body_wire n (as_content parent k call links errbacks place rest))
      ≡ sizeless_task (p_task k call links errbacks place)
  own_back parent k call links errbacks place rest p =
      let h = headed n parent k call links errbacks place rest in
      rw (
        h.id,
        task_number_back n.run k whole p.here,
        h.name,
        arguments_back call.args p.called.args,
        named_back call.kwargs p.called.kwargs,
        listed_of (tasks_wire n links),
        signatures.tasks_back n whole levels links p.linked (omega (arith, p.low)),
        listed_of (tasks_wire n errbacks),
        signatures.tasks_back n whole levels errbacks p.failing (omega (arith, p.low)),
        h.group,
        signatures.place_back n whole levels true place p.there (omega (arith, p.low)),
      ) (ap (λ b. sizeless_task (p_task k (record { name = call.name; args = call.args; kwargs = call.kwargs; immutable = b }) links errbacks place))
      (sym p.mutable))

  content_back : (parent : Option ℕ) (k : ℕ) (call : Call) (links errbacks : PTasks) (place : PPlace) (rest : PLine)
      → Whole parent k call links errbacks place rest
      → content_in (headers_wire n (as_content parent k call links errbacks place rest)) (body_wire n (as_content parent k call links errbacks place rest))
      ≡ sizeless (as_content parent k call links errbacks place rest)
  content_back parent k call links errbacks place rest p =
      let h = headed n parent k call links errbacks place rest in
      let before = ap task_of h.parent ∙ parent_back parent p.known in
      let own = own_back parent k call links errbacks place rest p in
      let after = rest_back rest p.following in
      ap (λ x. record {
        parent = x;
        own = own_in (headers_wire n (as_content parent k call links errbacks place rest))
            (body_wire n (as_content parent k call links errbacks place rest));
        rest =
            line_within levels (reverse (listed (list_or_null (each_wire (reverse (elements n rest))))));
      }) before
      ∙ ap₂ (λ x y. record { parent = parent; own = x; rest = y }) own after

  content_at : (parent : Option ℕ) (own : PTask) (rest : PLine) → fits (record { parent = parent; own = own; rest = rest }) ≡ true
      → content_in (headers_wire n (record { parent = parent; own = own; rest = rest })) (body_wire n (record { parent = parent; own = own; rest = rest }))
      ≡ sizeless (record { parent = parent; own = own; rest = rest })
  content_at parent (p_task k call links errbacks place) rest h =
      content_back parent k call links errbacks place rest (whole_of parent k call links errbacks place rest h)

  pub content_of : (c : Content) → fits c ≡ true → content_in (headers_wire n c) (body_wire n c) ≡ sizeless c
  content_of c h = content_at c.parent c.own c.rest h

-- ---- the two texts of JSON

reversed_deep : (n : Naming) (l : PLine) → RestFits l → items_depth (each_wire (reverse (elements n l))) ≤ 124
reversed_deep n p_stop h = omega arith
reversed_deep n (p_step t l) h = omega (arith, h.1, deep_reversed (elements n (p_step t l)), (line_low n (p_step t l) h.0).some)
reversed_deep n (p_group_end g ms) h = omega (arith, h.1, deep_reversed (elements n (p_group_end g ms)), (line_low n (p_group_end g ms) h.0).some)
reversed_deep n (p_chord_end g ms b) h = omega (arith, h.1, deep_reversed (elements n (p_chord_end g ms b)), (line_low n (p_chord_end g ms b) h.0).some)

list_depth : (ds : Items) → depth (list_or_null ds) ≤ 1 + items_depth ds
list_depth no_items = omega arith
list_depth (item d ds) = omega arith

list_clean : (ds : Items) → AreClean ds → IsClean (list_or_null ds)
list_clean no_items h = tt
list_clean (item d ds) h = h

body_low : (n : Naming) (parent : Option ℕ) (k : ℕ) (call : Call) (links errbacks : PTasks) (place : PPlace) (rest : PLine)
    → Whole parent k call links errbacks place rest
    → depth (body_wire n (as_content parent k call links errbacks place rest)) ≤ 127
body_low n parent k call links errbacks place rest p =
    omega (
      arith,
      p.low,
      args_depth call.args,
      kwargs_depth call.kwargs,
      list_depth (tasks_wire n links),
      list_depth (tasks_wire n errbacks),
      list_depth (each_wire (reverse (elements n rest))),
      callbacks_low n links p.linked,
      callbacks_low n errbacks p.failing,
      carried_low n true place p.there,
      reversed_deep n rest p.following,
    )

rest_clean : (n : Naming) → clean.IsBounded n → (l : PLine) → RestFits l → AreClean (each_wire (reverse (elements n l)))
rest_clean n b p_stop h = tt
rest_clean n b (p_step t l) h =
    clean.each_clean (reverse (elements n (p_step t l))) (clean.reversed_clean (elements n (p_step t l)) (clean.line_clean n b true (p_step t l) h.0))
rest_clean n b (p_group_end g ms) h =
    clean.each_clean (reverse (elements n (p_group_end g ms)))
    (clean.reversed_clean (elements n (p_group_end g ms)) (clean.line_clean n b true (p_group_end g ms) h.0))
rest_clean n b (p_chord_end g ms l) h =
    clean.each_clean (reverse (elements n (p_chord_end g ms l)))
    (clean.reversed_clean (elements n (p_chord_end g ms l)) (clean.line_clean n b true (p_chord_end g ms l) h.0))

body_clean : (n : Naming) → clean.IsBounded n → (parent : Option ℕ) (k : ℕ) (call : Call) (links errbacks : PTasks) (place : PPlace) (rest : PLine)
    → Whole parent k call links errbacks place rest
    → IsClean (body_wire n (as_content parent k call links errbacks place rest))
body_clean n b parent k call links errbacks place rest p = (
  args_clean call.args p.called.args,
  (
    kwargs_clean no_members call.kwargs p.called.kwargs p.called.ordered (all_above call.kwargs),
    (
      (
        tt,
        list_clean (tasks_wire n links) (clean.tasks_clean n b links p.linked),
        (
          (refl, tt),
          list_clean (each_wire (reverse (elements n rest))) (rest_clean n b rest p.following),
          (
            (refl, (refl, tt)),
            clean.place_clean n b true place p.there,
            ((refl, (refl, (refl, tt))), list_clean (tasks_wire n errbacks) (clean.tasks_clean n b errbacks p.failing), tt),
          ),
        ),
      ),
      tt,
    ),
  ),
)

parent_clean : (n : Naming) (parent : Option ℕ) → IsClean (parent_id n parent)
parent_clean n None = tt
parent_clean n (Some k) = tt

-- after the two members that name a group
headers_clean : (n : Naming) (g x : Data) (k : ℕ) (parent : Option ℕ) (name : Text) → IsClean g → IsClean x
    → IsClean (object (member (codes "group") g (member (codes "group_index") x (member (codes "id") (task_id n k) (member (codes "lang") (string (codes "rs"))
    (member (codes "parent_id") (parent_id n parent) (member (codes "root_id") (task_id n 1) (member (codes "task") (string name) no_members))))))))
headers_clean n g x k parent name cg cx = (
  tt,
  cg,
  (
    (refl, tt),
    cx,
    (
      (refl, (refl, tt)),
      tt,
      (
        (refl, (refl, (refl, tt))),
        tt,
        (
          (refl, (refl, (refl, (refl, tt)))),
          parent_clean n parent,
          ((refl, (refl, (refl, (refl, (refl, tt))))), tt, ((refl, (refl, (refl, (refl, (refl, (refl, tt)))))), tt, tt)),
        ),
      ),
    ),
  ),
)

headed_clean : (n : Naming) → clean.IsBounded n → (parent : Option ℕ) (k : ℕ) (call : Call) (links errbacks : PTasks) (place : PPlace) (rest : PLine)
    → IsClean (headers_wire n (as_content parent k call links errbacks place rest))
headed_clean n b parent k call links errbacks p_nowhere rest = headers_clean n null null k parent call.name tt tt
headed_clean n b parent k call links errbacks (p_group g) rest =
    headers_clean n (group_id n g) (index_wire n g k) k parent call.name tt (clean.index_clean n b g k)
headed_clean n b parent k call links errbacks (p_chord g size body) rest =
    headers_clean n (group_id n g) (index_wire n g k) k parent call.name tt (clean.index_clean n b g k)

parent_depth : (n : Naming) (parent : Option ℕ) → depth (parent_id n parent) ≡ 0
parent_depth n None = refl
parent_depth n (Some k) = refl

headed_low : (n : Naming) (parent : Option ℕ) (k : ℕ) (call : Call) (links errbacks : PTasks) (place : PPlace) (rest : PLine)
    → depth (headers_wire n (as_content parent k call links errbacks place rest)) ≤ 1
headed_low n parent k call links errbacks p_nowhere rest = omega (arith, parent_depth n parent)
headed_low n parent k call links errbacks (p_group g) rest = omega (arith, parent_depth n parent)
headed_low n parent k call links errbacks (p_chord g size body) rest = omega (arith, parent_depth n parent)

properties_clean : (n : Naming) (queue : Text) (k : ℕ) → IsClean (properties_wire n queue k)
properties_clean n queue k = (
  tt,
  tt,
  (
    (refl, tt),
    tt,
    (
      (refl, (refl, tt)),
      (tt, tt, ((refl, tt), tt, tt)),
      ((refl, (refl, (refl, tt))), omega arith, ((refl, (refl, (refl, (refl, tt)))), tt, ((refl, (refl, (refl, (refl, (refl, tt))))), omega arith, tt))),
    ),
  ),
)

properties_low : (n : Naming) (queue : Text) (k : ℕ) → depth (properties_wire n queue k) ≤ 2
properties_low n queue k = omega arith

-- ---- the whole

envelope_back : (n : Naming) → clean.IsBounded n
    → (queue body : Text) (parent : Option ℕ) (k : ℕ) (call : Call) (links errbacks : PTasks) (place : PPlace) (rest : PLine)
    → read (compact_text (envelope_wire n queue (string body) (as_content parent k call links errbacks place rest)))
    ≡ Some (envelope_wire n queue (string body) (as_content parent k call links errbacks place rest))
envelope_back n b queue body parent k call links errbacks place rest =
    text_read (envelope_wire n queue (string body) (as_content parent k call links errbacks place rest)) (
      tt,
      tt,
      (
        (refl, tt),
        tt,
        (
          (refl, (refl, tt)),
          tt,
          (
            (refl, (refl, (refl, tt))),
            headed_clean n b parent k call links errbacks place rest,
            ((refl, (refl, (refl, (refl, tt)))), properties_clean n queue k, tt),
          ),
        ),
      ),
    )
    (omega (arith, headed_low n parent k call links errbacks place rest, properties_low n queue k))

-- a text comes back from base64
abbrev pub IsKept : Text → Type 0
IsKept text = decoded_of standard (encode_of standard text) ≡ Some text

pub kept_bytes : (text : Text) → IsBytes text → IsKept text
kept_bytes text bytes = decoded_of-ok standard (encode_of standard text) text (decode_of-encode_of standard text refl bytes)

pub kept_by : (e t text : Text) → e ≡ encode_of standard t → decode_of standard e ≡ Ok t → t ≡ text → IsKept text
kept_by e t text is back same = subst (λ x. IsKept x) same (decoded_of-ok standard (encode_of standard t) t (ap (decode_of standard) (sym is) ∙ back))

message_by : (n : Naming) → length n.run ≡ 22 → clean.IsBounded n
    → (queue : Text) (parent : Option ℕ) (k : ℕ) (call : Call) (links errbacks : PTasks) (place : PPlace) (rest : PLine)
    → IsKept (compact_text (body_wire n (as_content parent k call links errbacks place rest))) → Whole parent k call links errbacks place rest
    → read_message (message_text n queue (as_content parent k call links errbacks place rest))
    ≡ Some (sizeless (as_content parent k call links errbacks place rest))
message_by n whole b queue parent k call links errbacks place rest bytes p =
    let c = as_content parent k call links errbacks place rest in
    let inner = compact_text (body_wire n c) in
    ap (λ o. option_and_then envelope_content o) (envelope_back n b queue (encode_of standard inner) parent k call links errbacks place rest)
    ∙ (ap (λ o. option_and_then (λ d. Some (content_in (headers_wire n c) d)) (option_and_then read o)) bytes
    ∙ (ap (λ o. option_and_then (λ d. Some (content_in (headers_wire n c) d)) o)
    (text_read (body_wire n c) (body_clean n b parent k call links errbacks place rest p) (body_low n parent k call links errbacks place rest p))
    ∙ ap Some (content_back n whole parent k call links errbacks place rest p)))

message_at : (n : Naming) → length n.run ≡ 22 → clean.IsBounded n → (queue : Text) (parent : Option ℕ) (own : PTask) (rest : PLine)
    → IsKept (compact_text (body_wire n (record { parent = parent; own = own; rest = rest })))
    → fits (record { parent = parent; own = own; rest = rest }) ≡ true
    → read_message (message_text n queue (record { parent = parent; own = own; rest = rest }))
    ≡ Some (sizeless (record { parent = parent; own = own; rest = rest }))
message_at n whole b queue parent (p_task k call links errbacks place) rest bytes h =
    message_by n whole b queue parent k call links errbacks place rest bytes (whole_of parent k call links errbacks place rest h)

pub message_back : (n : Naming) → length n.run ≡ 22 → clean.IsBounded n → (queue : Text) (c : Content) → IsKept (compact_text (body_wire n c)) → fits c ≡ true
    → read_message (message_text n queue c) ≡ Some (sizeless c)
message_back n whole b queue c bytes h = message_at n whole b queue c.parent c.own c.rest bytes h
