-- A message's three texts, as data, are read as the message.
use Rattle.std.proofs.Common.{◌≡◌, ℕ, ◌≤◌, List, [], ◌∷◌, ◌++◌, map, reverse, Bool, true, false, Some, None, Option, Ok, refl, sym, ap, ◌∙◌, arith}
use Rattle.std.proofs.lemmas.List.{reverse-append, reverse-reverse, append_assoc, append-nil}
use Rattle.serde_json.specs.Data.{Data, array, object, Items, no_items, item}
use Rattle.canvas_values.specs.Fields.{items, listed, is_list_or_null}
use Rattle.canvas_values.specs.Answers.{in_turn}
use Rattle.canvas_semantics.specs.Tree.{Call}
use Rattle.canvas_values.proofs.FittingCalls.{CallFits}
use Rattle.canvas_values.specs.Writing.{args_wire, kwargs_wire}
use Rattle.canvas_values.proofs.ComposedLemmas.{both}
use Rattle.canvas_sig.proofs.RoundTrip.{args_back, kwargs_back}
use Rattle.canvas_semantics.proofs.RowNumbers.{same_number}
use Rattle.canvas_rewrite.specs.FrozenView.{p_steps}
use Rattle.canvas_semantics.specs.PlacedLine.{PTask, p_task, PTasks, PPlace, PLine, p_stop, p_step, p_group_end, p_chord_end}
use Rattle.canvas_envelope.specs.Content.{Content}
use Rattle.canvas_envelope.specs.Fits.{parent_ok, task_ok, line_ok, greatest_reach, fits}
use Rattle.canvas_envelope.specs.FrozenGrammar.{task_of, levels}
use Rattle.canvas_codec.specs.steps.FrozenReading.{step_reading, last_reading}
use Rattle.canvas_codec.specs.steps.Reading.{must, id_reading, given_reading, chain_reading, embed_reading, if_fits, content_of, message_reading}
use Rattle.canvas_envelope.specs.declared.fault.MessageFault.TheVariants.{BadEmbed}
use Rattle.canvas_envelope.specs.Wire.{parent_id, place_id, task_wire, tasks_wire, group_wire, chord_wire, line_wire, elements_wire, members_wire, onto_reversed, list_or_null, embed_wire, body_wire, headers_wire, properties_wire}
use Rattle.canvas_codec.proofs.RoundTrip.{task_id_back, listed_tasks, tasks_listed, tasks_back, step_back, elements_back}
use Rattle.canvas_codec.proofs.Wholes.{RestFits, Whole, as_content, whole_of}

-- ---- what follows on the line

-- all elements but the last, and the last as a line
abbrev front : PLine → List PTask
front p_stop = []
front (p_step t p_stop) = []
front (p_step t l) = t ∷ front l
front (p_group_end g ms) = []
front (p_chord_end g ms b) = []

abbrev final : PLine → PLine
final p_stop = p_stop
final (p_step t p_stop) = p_step t p_stop
final (p_step t l) = final l
final (p_group_end g ms) = p_group_end g ms
final (p_chord_end g ms b) = p_chord_end g ms b

-- each task is read as a step
abbrev Steps : ℕ → List PTask → Type 0
Steps n [] = Unit {0}
Steps n (t ∷ ts) = (step_reading n (task_wire None t) ≡ Ok t) × Steps n ts

steps_end : (n : ℕ) (ts : List PTask) (t : PTask) → Steps n ts → step_reading n (task_wire None t) ≡ Ok t → Steps n (ts ++ t ∷ [])
steps_end n [] t h k = (k, tt)
steps_end n (u ∷ ts) t h k = (h.0, steps_end n ts t h.1 k)

last_first : {A : Type 0} (x : A) (xs : List A) → reverse (x ∷ xs) ≡ reverse xs ++ x ∷ []
last_first x xs = reverse-append (x ∷ []) xs

steps_reversed : (n : ℕ) (ts : List PTask) → Steps n ts → Steps n (reverse ts)
steps_reversed n [] h = tt
steps_reversed n (t ∷ ts) h = rw (last_first t ts) (steps_end n (reverse ts) t (steps_reversed n ts h.1) h.0)

steps_read : (n : ℕ) (ts : List PTask) → Steps n ts → in_turn (step_reading n) (map (task_wire None) ts) ≡ Ok ts
steps_read n [] h = refl
steps_read n (t ∷ ts) h = rw (h.0, steps_read n ts h.1) refl

map_end : {A B : Type 0} (f : A → B) (xs : List A) (x : A) → map f (xs ++ x ∷ []) ≡ map f xs ++ f x ∷ []
map_end f [] x = refl
map_end f (y ∷ xs) x = ap (λ ys. f y ∷ ys) (map_end f xs x)

map_reversed : {A B : Type 0} (f : A → B) (xs : List A) → reverse (map f xs) ≡ map f (reverse xs)
map_reversed f [] = refl
map_reversed f (x ∷ xs) =
    last_first (f x) (map f xs) ∙ ap (λ ys. ys ++ f x ∷ []) (map_reversed f xs) ∙ sym (map_end f (reverse xs) x) ∙ sym (ap (map f) (last_first x xs))

twice_reversed : {A : Type 0} (xs : List A) → reverse (reverse xs) ≡ xs
twice_reversed xs = reverse-reverse xs

items_reversed : (ds more : Items) → items (onto_reversed ds more) ≡ reverse (items ds) ++ items more
items_reversed no_items more = refl
items_reversed (item d ds) more =
    items_reversed ds (item d more) ∙ sym (append_assoc (reverse (items ds)) (d ∷ []) (items more))
    ∙ ap (λ xs. xs ++ items more) (sym (last_first d (items ds)))

-- a line by its last element and those before
record Split (n : ℕ) (l : PLine) : Type 0 where
  d : Data
  wires : items (elements_wire l) ≡ map (task_wire None) (front l) ++ d ∷ []
  last : last_reading n d ≡ Ok (final l)
  steps : Steps n (front l)
  whole : p_steps (front l) (final l) ≡ l

longer : (n : ℕ) (t : PTask) (l : PLine) (r : PLine) → r ≡ p_step t l → front r ≡ t ∷ front l → final r ≡ final l
    → elements_wire r ≡ item (task_wire None t) (elements_wire l)
    → step_reading n (task_wire None t) ≡ Ok t → Split n l → Split n r
longer n t l r is first then wire read s =
    record {
      d = s.d;
      wires = ap items wire ∙ ap (λ ds. task_wire None t ∷ ds) s.wires ∙ sym (ap (λ ts. map (task_wire None) ts ++ s.d ∷ []) first);
      last = s.last ∙ ap Ok (sym then);
      steps = rw (first) (read, s.steps);
      whole = rw (first, then) (ap (p_step t) s.whole ∙ sym is);
    }

split : (n c : ℕ) (last : Bool) (l : PLine) → line_ok last l ≡ true → greatest_reach c l ≤ n → Split n l
split n c last p_stop ok low = absurd cc
split n c last (p_step t p_stop) ok low =
    record { d = task_wire None t; wires = refl; last = elements_back n c last (p_step t p_stop) ok low; steps = tt; whole = refl }
split n c last (p_step t (p_step u l)) ok low =
    let p = both (task_ok false t) (line_ok last (p_step u l)) ok in
    longer n t (p_step u l) (p_step t (p_step u l)) refl refl refl refl (step_back n t p.0 (omega arith)) (split n c last (p_step u l) p.1 (omega arith))
split n c last (p_step t (p_group_end g ms)) ok low =
    let p = both (task_ok false t) (line_ok last (p_group_end g ms)) ok in
    longer n t (p_group_end g ms) (p_step t (p_group_end g ms)) refl refl refl refl (step_back n t p.0 (omega arith))
    (split n c last (p_group_end g ms) p.1 (omega arith))
split n c last (p_step t (p_chord_end g ms b)) ok low =
    let p = both (task_ok false t) (line_ok last (p_chord_end g ms b)) ok in
    longer n t (p_chord_end g ms b) (p_step t (p_chord_end g ms b)) refl refl refl refl (step_back n t p.0 (omega arith))
    (split n c last (p_chord_end g ms b) p.1 (omega arith))
split n c last (p_group_end g ms) ok low =
    record { d = group_wire None g (members_wire ms); wires = refl; last = elements_back n c last (p_group_end g ms) ok low; steps = tt; whole = refl }
split n c last (p_chord_end g ms b) ok low =
    record {
      d = chord_wire None g (members_wire ms) (line_wire None b);
      wires = refl;
      last = elements_back n c last
          (p_chord_end g ms b) ok low;
      steps = tt;
      whole = refl;
    }

listed_of : (ds : Items) → listed (list_or_null ds) ≡ items ds
listed_of no_items = refl
listed_of (item d ds) = refl

-- the last element first, as it is written
chain_read : (l : PLine) → Split levels l → chain_reading (listed (list_or_null (onto_reversed (elements_wire l) no_items))) ≡ Ok l
chain_read l s =
    let backwards : items (onto_reversed (elements_wire l) no_items) ≡ s.d ∷ map (task_wire None) (reverse (front l)) =
    items_reversed (elements_wire l) no_items ∙ ap (λ ds. reverse ds ++ []) s.wires
    ∙ ap (λ ds. ds ++ []) (reverse-append (map (task_wire None) (front l)) (s.d ∷ []))
    ∙ append-nil (s.d ∷ reverse (map (task_wire None) (front l))) ∙ ap (λ ds. s.d ∷ ds) (map_reversed (task_wire None) (front l)) in
    ap chain_reading (listed_of (onto_reversed (elements_wire l) no_items) ∙ backwards)
    ∙ rw (s.last, steps_read levels (reverse (front l)) (steps_reversed levels (front l) s.steps), twice_reversed (front l), s.whole) refl

-- ---- what goes with the call

rest_back : (l : PLine) → RestFits l → chain_reading (listed (list_or_null (onto_reversed (elements_wire l) no_items))) ≡ Ok l
rest_back p_stop h = refl
rest_back (p_step t l) h = chain_read (p_step t l) (split levels 0 true (p_step t l) h.0 (omega (arith, h.1)))
rest_back (p_group_end g ms) h = chain_read (p_group_end g ms) (split levels 0 true (p_group_end g ms) h.0 (omega (arith, h.1)))
rest_back (p_chord_end g ms b) h = chain_read (p_chord_end g ms b) (split levels 0 true (p_chord_end g ms b) h.0 (omega (arith, h.1)))

list_ok : (ds : Items) → is_list_or_null (list_or_null ds) ≡ true
list_ok no_items = refl
list_ok (item d ds) = refl

-- ---- the message

embed_back : (parent : Option ℕ) (k : ℕ) (call : Call) (links errbacks : PTasks) (place : PPlace) (rest : PLine) → Whole parent k call links errbacks place rest
    → embed_reading (place_id place) (embed_wire (as_content parent k call links errbacks place rest))
    ≡ Ok (record { links = listed_tasks links; errbacks = listed_tasks errbacks; place = place; rest = rest })
embed_back parent k call links errbacks place rest w =
    rw (
      list_ok (tasks_wire links),
      list_ok (tasks_wire errbacks),
      list_ok (onto_reversed (elements_wire rest) no_items),
      listed_of (tasks_wire links),
      listed_of (tasks_wire errbacks),
      tasks_back levels links w.linked (omega (arith, w.low)),
      tasks_back levels errbacks w.failing (omega (arith, w.low)),
      w.placed,
      rest_back rest w.following,
    ) refl

given_back : (call : Call) → CallFits call → given_reading (array (args_wire call.args)) (object (kwargs_wire call.kwargs))
    ≡ Ok (record { args = call.args; kwargs = call.kwargs })
given_back call fits = rw (args_back call.args fits.args, kwargs_back call.kwargs fits.kwargs) refl

ids_back : (parent : Option ℕ) (k : ℕ) (call : Call) (links errbacks : PTasks) (place : PPlace) (rest : PLine) → Whole parent k call links errbacks place rest
    → id_reading (properties_wire (as_content parent k call links errbacks place rest)) (headers_wire (as_content parent k call links errbacks place rest))
    ≡ Some k
ids_back parent k call links errbacks place rest w = rw (task_id_back k w.here, w.named, same_number k) refl

parent_back : (parent : Option ℕ) → parent_ok parent ≡ true → task_of (parent_id parent) ≡ parent
parent_back None h = refl
parent_back (Some k) h = task_id_back k h

content_back : (parent : Option ℕ) (k : ℕ) (call : Call) (links errbacks : PTasks) (place : PPlace) (rest : PLine)
    → Whole parent k call links errbacks place rest
    → content_of (headers_wire (as_content parent k call links errbacks place rest)) k (record { args = call.args; kwargs = call.kwargs })
    (record { links = listed_tasks links; errbacks = listed_tasks errbacks; place = place; rest = rest })
    ≡ as_content parent k call links errbacks place rest
content_back parent k call links errbacks place rest w =
    rw (parent_back parent w.known, tasks_listed links, tasks_listed errbacks)
    (ap (λ b. as_content parent k (record { name = call.name; args = call.args; kwargs = call.kwargs; immutable = b }) links errbacks place rest)
    (sym w.mutable))

kept : (b : Bool) (c : Content) → b ≡ true → must b BadEmbed (Ok c) ≡ Ok c
kept true c h = refl
kept false c h = absurd cc

message_of : (parent : Option ℕ) (k : ℕ) (call : Call) (links errbacks : PTasks) (place : PPlace) (rest : PLine)
    → fits (as_content parent k call links errbacks place rest) ≡ true
    → message_reading (properties_wire (as_content parent k call links errbacks place rest)) (headers_wire (as_content parent k call links errbacks place rest))
    (body_wire (as_content parent k call links errbacks place rest))
    ≡ Ok (as_content parent k call links errbacks place rest)
message_of parent k call links errbacks place rest h =
    let w = whole_of parent k call links errbacks place rest h in
    rw (
      w.called.name,
      ids_back parent k call links errbacks place rest w,
      given_back call w.called,
      embed_back parent k call links errbacks place rest w,
    ) (ap if_fits (content_back parent k call links errbacks place rest w)
    ∙ kept (fits (as_content parent k call links errbacks place rest)) (as_content parent k call links errbacks place rest) h)

message_at : (parent : Option ℕ) (own : PTask) (rest : PLine) → fits (record { parent = parent; own = own; rest = rest }) ≡ true
    → message_reading (properties_wire (record { parent = parent; own = own; rest = rest })) (headers_wire (record { parent = parent; own = own; rest = rest }))
    (body_wire (record { parent = parent; own = own; rest = rest }))
    ≡ Ok (record { parent = parent; own = own; rest = rest })
message_at parent (p_task k call links errbacks place) rest h = message_of parent k call links errbacks place rest h

pub message_back : (c : Content) → fits c ≡ true → message_reading (properties_wire c) (headers_wire c) (body_wire c) ≡ Ok c
message_back c h = message_at c.parent c.own c.rest h
