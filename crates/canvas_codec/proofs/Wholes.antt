-- What a message that fits says of its parts.
use Rattle.std.proofs.Common.{◌≡◌, ℕ, ◌≤◌, max, Bool, true, false, Option, Ok, refl, arith}
use Rattle.std.specs.Prelude.{◌&&◌, not, nat_le}
use Rattle.std.proofs.lemmas.Bool.{leb-true}
use Rattle.canvas_semantics.specs.Tree.{Call}
use Rattle.canvas_values.proofs.FittingCalls.{CallFits}
use Rattle.canvas_values.proofs.ComposedLemmas.{both}
use Rattle.canvas_sig.specs.steps.Clean.{IsClean}
use Rattle.canvas_semantics.specs.PlacedLine.{p_task, PTasks, PPlace, p_nowhere, p_group, p_chord, PLine, p_stop, p_step, p_group_end, p_chord_end}
use Rattle.canvas_envelope.specs.Content.{Content}
use Rattle.canvas_envelope.specs.Fits.{is_task_number, size_ok, parent_ok, task_ok, tasks_ok, place_ok, line_ok, task_reach, tasks_reach, place_reach, line_reach, greatest_reach, fits}
use Rattle.canvas_codec.specs.steps.FrozenReading.{place_with, line_reading}
use Rattle.canvas_envelope.specs.FrozenGrammar.{levels}
use Rattle.canvas_codec.specs.steps.Reading.{is_group_or_null}
use Rattle.canvas_envelope.specs.Wire.{place_id, carried_wire}
use Rattle.canvas_codec.proofs.CleanLines.{carried_clean}
use Rattle.canvas_codec.proofs.RoundTrip.{group_id_back, task_parts, place_back}

-- what follows fits on a line that begins with another task
abbrev pub RestFits : PLine → Type 0
RestFits p_stop = Unit {0}
RestFits l = (line_ok true l ≡ true) × (greatest_reach 0 l ≤ 31)

some_fits : (l : PLine) → line_ok true l ≡ true → greatest_reach 0 l ≤ 31 → RestFits l
some_fits p_stop ok low = tt
some_fits (p_step t l) ok low = (ok, low)
some_fits (p_group_end g ms) ok low = (ok, low)
some_fits (p_chord_end g ms b) ok low = (ok, low)

place_named : (last : Bool) (p : PPlace) → place_ok last p ≡ true → is_group_or_null (place_id p) ≡ true
place_named last p_nowhere ok = refl
place_named last (p_group g) ok = rw (group_id_back g (both last (is_task_number g) ok).1) refl
place_named last (p_chord g size body) ok =
    let p = both (last && is_task_number g && size_ok size) (line_ok true body) ok in
    let q = both (last && is_task_number g) (size_ok size) p.0 in
    rw (group_id_back g (both last (is_task_number g) q.0).1) refl

place_there : (last : Bool) (p : PPlace) → place_ok last p ≡ true → place_ok true p ≡ true
place_there true p ok = ok
place_there false p_nowhere ok = refl
place_there false (p_group g) ok = absurd cc
place_there false (p_chord g size body) ok = absurd cc

-- a message by its parts
pub record Whole (parent : Option ℕ) (k : ℕ) (call : Call) (links errbacks : PTasks) (place : PPlace) (rest : PLine) : Type 0 where
  pub known : parent_ok parent ≡ true
  pub mutable : call.immutable ≡ false
  pub here : is_task_number k ≡ true
  pub called : CallFits call
  pub linked : tasks_ok links ≡ true
  pub failing : tasks_ok errbacks ≡ true
  pub there : place_ok true place ≡ true
  pub named : is_group_or_null (place_id place) ≡ true
  pub placed : place_with (line_reading levels) (place_id place) (carried_wire place) ≡ Ok place
  pub following : RestFits rest
  pub carried : IsClean (carried_wire place)
  pub low : max (max (tasks_reach links) (tasks_reach errbacks)) (place_reach place) ≤ 31

abbrev pub as_content : Option ℕ → ℕ → Call → PTasks → PTasks → PPlace → PLine → Content
as_content parent k call links errbacks place rest = record { parent = parent; own = p_task k call links errbacks place; rest = rest }

whole_by : (last : Bool) (parent : Option ℕ) (k : ℕ) (call : Call) (links errbacks : PTasks) (place : PPlace) (rest : PLine)
    → parent_ok parent ≡ true → call.immutable ≡ false → task_ok last (p_task k call links errbacks place) ≡ true
    → task_reach 0 (p_task k call links errbacks place) ≤ 32 → RestFits rest
    → Whole parent k call links errbacks place rest
whole_by last parent k call links errbacks place rest known mutable ok low following =
    let p = task_parts last k call links errbacks place ok in
    record {
      known = known;
      mutable = mutable;
      here = p.here;
      called = p.called;
      linked = p.linked;
      failing = p.failing;
      there = place_there last place p.placed;
      named = place_named last place p.placed;
      placed = place_back levels last place p.placed (omega (arith, low));
      following = following;
      carried = carried_clean last place p.placed;
      low = omega (arith, low);
    }

not_true : (b : Bool) → not b ≡ true → b ≡ false
not_true true h = absurd cc
not_true false h = refl

-- what the line of a message says of the message's own task and of what follows
by_line : (parent : Option ℕ) (k : ℕ) (call : Call) (links errbacks : PTasks) (place : PPlace) (rest : PLine)
    → parent_ok parent ≡ true → call.immutable ≡ false → line_ok true (p_step (p_task k call links errbacks place) rest) ≡ true
    → line_reach 0 (p_step (p_task k call links errbacks place) rest) ≤ 32 → Whole parent k call links errbacks place rest
by_line parent k call links errbacks place p_stop known mutable ok low = whole_by true parent k call links errbacks place p_stop known mutable ok low tt
by_line parent k call links errbacks place (p_step t l) known mutable ok low =
    let p = both (task_ok false (p_task k call links errbacks place)) (line_ok true (p_step t l)) ok in
    whole_by false parent k call links errbacks place (p_step t l) known mutable p.0 (omega (arith, low)) (some_fits (p_step t l) p.1 (omega (arith, low)))
by_line parent k call links errbacks place (p_group_end g ms) known mutable ok low =
    let p = both (task_ok false (p_task k call links errbacks place)) (line_ok true (p_group_end g ms)) ok in
    whole_by false parent k call links errbacks place (p_group_end g ms) known mutable p.0 (omega (arith, low))
    (some_fits (p_group_end g ms) p.1 (omega (arith, low)))
by_line parent k call links errbacks place (p_chord_end g ms b) known mutable ok low =
    let p = both (task_ok false (p_task k call links errbacks place)) (line_ok true (p_chord_end g ms b)) ok in
    whole_by false parent k call links errbacks place (p_chord_end g ms b) known mutable p.0 (omega (arith, low))
    (some_fits (p_chord_end g ms b) p.1 (omega (arith, low)))

pub whole_of : (parent : Option ℕ) (k : ℕ) (call : Call) (links errbacks : PTasks) (place : PPlace) (rest : PLine)
    → fits (as_content parent k call links errbacks place rest) ≡ true → Whole parent k call links errbacks place rest
whole_of parent k call links errbacks place rest h =
    let l = p_step (p_task k call links errbacks place) rest in
    let p = both (parent_ok parent && not call.immutable && line_ok true l) (nat_le (line_reach 0 l) 32) h in
    let q = both (parent_ok parent && not call.immutable) (line_ok true l) p.0 in
    let r = both (parent_ok parent) (not call.immutable) q.0 in
    by_line parent k call links errbacks place rest r.0 (not_true call.immutable r.1) q.1 (leb-true (line_reach 0 l) 32 p.1)
