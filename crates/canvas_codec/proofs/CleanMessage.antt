-- What a message is written as is read again as it was written, and nests no deeper than JSON is read.
use Rattle.std.proofs.Common.{◌≡◌, ℕ, ◌≤◌, ◌+◌, max, [], true, false, Some, None, Option, refl, arith}
use Rattle.serde_json.specs.Data.{Data, Items, no_items, item, no_members, depth, items_depth}
use Rattle.canvas_sig.specs.steps.Clean.{IsClean, AreClean}
use Rattle.canvas_semantics.specs.Tree.{Call}
use Rattle.canvas_sig.proofs.CleanWire.{args_clean, kwargs_clean, all_above, args_depth, kwargs_depth}
use Rattle.canvas_semantics.specs.PlacedLine.{PTask, p_task, PTasks, PPlace, PLine, p_stop, p_step, p_group_end, p_chord_end}
use Rattle.canvas_envelope.specs.Content.{Content}
use Rattle.canvas_envelope.specs.Fits.{tasks_ok, tasks_reach, place_reach, fits}
use Rattle.canvas_envelope.specs.Wire.{parent_id, tasks_wire, carried_wire, elements_wire, onto_reversed, list_or_null, embed_wire, body_wire, headers_wire, properties_wire}
use Rattle.canvas_codec.proofs.CleanLines.{place_id_clean, tasks_clean, elements_clean, place_id_depth, tasks_depth, carried_depth, elements_depth}
use Rattle.canvas_codec.proofs.Wholes.{RestFits, Whole, as_content, whole_of}

-- ---- the three texts

-- the items of a clean list, in reverse order
reversed_clean : (ds more : Items) → AreClean ds → AreClean more → AreClean (onto_reversed ds more)
reversed_clean no_items more h k = k
reversed_clean (item d ds) more h k = reversed_clean ds (item d more) h.1 (h.0, k)

reversed_depth : (ds more : Items) → items_depth (onto_reversed ds more) ≤ max (items_depth ds) (items_depth more)
reversed_depth no_items more = omega arith
reversed_depth (item d ds) more = omega (arith, reversed_depth ds (item d more))

list_or_null_clean : (ds : Items) → AreClean ds → IsClean (list_or_null ds)
list_or_null_clean no_items h = tt
list_or_null_clean (item d ds) h = h

list_or_null_depth : (ds : Items) → depth (list_or_null ds) ≤ 1 + items_depth ds
list_or_null_depth no_items = omega arith
list_or_null_depth (item d ds) = omega arith

parent_clean : (parent : Option ℕ) → IsClean (parent_id parent)
parent_clean None = tt
parent_clean (Some k) = tt

parent_depth : (parent : Option ℕ) → depth (parent_id parent) ≡ 0
parent_depth None = refl
parent_depth (Some k) = refl

abbrev embed_of : PTasks → PTasks → PPlace → PLine → Data
embed_of links errbacks place rest =
    embed_wire (record { parent = None; own = p_task 0 (record { name = []; args = []; kwargs = []; immutable = false }) links errbacks place; rest = rest })

-- a line that fits, or none
rest_clean : (l : PLine) → RestFits l → AreClean (elements_wire l)
rest_clean p_stop h = tt
rest_clean (p_step t l) h = elements_clean true (p_step t l) h.0
rest_clean (p_group_end g ms) h = elements_clean true (p_group_end g ms) h.0
rest_clean (p_chord_end g ms b) h = elements_clean true (p_chord_end g ms b) h.0

rest_depth : (l : PLine) → RestFits l → items_depth (elements_wire l) ≤ 99
rest_depth p_stop h = omega arith
rest_depth (p_step t l) h = omega (arith, h.1, elements_depth 0 (p_step t l))
rest_depth (p_group_end g ms) h = omega (arith, h.1, elements_depth 0 (p_group_end g ms))
rest_depth (p_chord_end g ms b) h = omega (arith, h.1, elements_depth 0 (p_chord_end g ms b))

embed_clean : (links errbacks : PTasks) (place : PPlace) (rest : PLine) → tasks_ok links ≡ true → tasks_ok errbacks ≡ true → IsClean (carried_wire place)
    → RestFits rest
    → IsClean (embed_of links errbacks place rest)
embed_clean links errbacks place rest l e c r = (
  tt,
  list_or_null_clean (tasks_wire links) (tasks_clean links l),
  (
    (refl, tt),
    list_or_null_clean (onto_reversed (elements_wire rest) no_items) (reversed_clean (elements_wire rest) no_items (rest_clean rest r) tt),
    ((refl, (refl, tt)), c, ((refl, (refl, (refl, tt))), list_or_null_clean (tasks_wire errbacks) (tasks_clean errbacks e), tt)),
  ),
)

embed_depth : (links errbacks : PTasks) (place : PPlace) (rest : PLine) → max (max (tasks_reach links) (tasks_reach errbacks)) (place_reach place) ≤ 31
    → RestFits rest
    → depth (embed_of links errbacks place rest) ≤ 101
embed_depth links errbacks place rest low r =
    omega (
      arith,
      low,
      list_or_null_depth (tasks_wire links),
      list_or_null_depth (tasks_wire errbacks),
      list_or_null_depth (onto_reversed (elements_wire rest) no_items),
      reversed_depth (elements_wire rest) no_items,
      rest_depth rest r,
      tasks_depth links,
      tasks_depth errbacks,
      carried_depth place,
    )

-- the texts of a message are clean, and nest no deeper than JSON is read
pub record Texts (c : Content) : Type 0 where
  pub properties : IsClean (properties_wire c)
  pub headers : IsClean (headers_wire c)
  pub body : IsClean (body_wire c)
  pub low_properties : depth (properties_wire c) ≤ 127
  pub low_headers : depth (headers_wire c) ≤ 127
  pub low_body : depth (body_wire c) ≤ 127

texts_by : (parent : Option ℕ) (k : ℕ) (call : Call) (links errbacks : PTasks) (place : PPlace) (rest : PLine) → Whole parent k call links errbacks place rest
    → Texts (as_content parent k call links errbacks place rest)
texts_by parent k call links errbacks place rest w =
    record {
      properties = (tt, tt, ((refl, tt), tt, ((refl, (refl, tt)), tt, tt)));
      headers = (
        tt,
        place_id_clean place,
        (
          (refl, tt),
          tt,
          (
            (refl, (refl, tt)),
            tt,
            ((refl, (refl, (refl, tt))), parent_clean parent, ((refl, (refl, (refl, (refl, tt)))), tt, ((refl, (refl, (refl, (refl, (refl, tt))))), tt, tt))),
          ),
        ),
      );
      body = (
        args_clean call.args w.called.args,
        (
          kwargs_clean no_members call.kwargs w.called.kwargs w.called.ordered (all_above call.kwargs),
          (embed_clean links errbacks place rest w.linked w.failing w.carried w.following, tt),
        ),
      );
      low_properties = omega arith;
      low_headers = omega (arith, place_id_depth place, parent_depth parent);
      low_body = omega (arith, args_depth call.args, kwargs_depth call.kwargs, embed_depth links errbacks place rest w.low w.following);
    }

texts_at : (parent : Option ℕ) (own : PTask) (rest : PLine) → fits (record { parent = parent; own = own; rest = rest }) ≡ true
    → Texts (record { parent = parent; own = own; rest = rest })
texts_at parent (p_task k call links errbacks place) rest h =
    texts_by parent k call links errbacks place rest (whole_of parent k call links errbacks place rest h)

pub texts : (c : Content) → fits c ≡ true → Texts c
texts c h = texts_at c.parent c.own c.rest h
