-- A task that others follow carries nothing.
use Rattle.std.proofs.Common.{◌≡◌, ℕ, Bool, true, false, Option, refl}
use Rattle.std.specs.Prelude.{◌&&◌, not, nat_le}
use Rattle.serde_json.specs.Data.{null}
use Rattle.canvas_semantics.specs.Tree.{Call}
use Rattle.canvas_semantics.specs.PlacedLine.{PTask, p_task, PTasks, PPlace, p_nowhere, p_group, p_chord, PLine, p_stop, p_step, p_group_end, p_chord_end}
use Rattle.canvas_values.proofs.ComposedLemmas.{both}
use Rattle.canvas_envelope.specs.Fits.{is_task_number, call_ok, parent_ok, task_ok, tasks_ok, place_ok, line_ok, line_reach, fits}
use Rattle.canvas_envelope.specs.Content.{Content, place_of}
use Rattle.canvas_envelope.specs.Wire.{carried_wire}
use Rattle.canvas_envelope.specs.steps.Lines.{followed_by}
use Rattle.canvas_envelope.specs.steps.Parts.{is_stop}

unplaced : (place : PPlace) → place_ok false place ≡ true → carried_wire place ≡ null
unplaced p_nowhere ok = refl
unplaced (p_group g) ok = absurd cc
unplaced (p_chord g size body) ok = absurd cc

own_ok : (t : PTask) (rest : PLine) → is_stop rest ≡ false → line_ok true (p_step t rest) ≡ true → task_ok false t ≡ true
own_ok t p_stop h ok = absurd cc
own_ok t (p_step u l) h ok = (both (task_ok false t) (line_ok true (p_step u l)) ok).0
own_ok t (p_group_end g ms) h ok = (both (task_ok false t) (line_ok true (p_group_end g ms)) ok).0
own_ok t (p_chord_end g ms b) h ok = (both (task_ok false t) (line_ok true (p_chord_end g ms b)) ok).0

nothing_carried : (parent : Option ℕ) (k : ℕ) (call : Call) (links errbacks : PTasks) (place : PPlace) (rest : PLine)
    → fits (record { parent = parent; own = p_task k call links errbacks place; rest = rest }) ≡ true → is_stop rest ≡ false → carried_wire place ≡ null
nothing_carried parent k call links errbacks place rest h more =
    let t = p_task k call links errbacks place in
    let p = both (parent_ok parent && not call.immutable && line_ok true (p_step t rest)) (nat_le (line_reach 0 (p_step t rest)) 32) h in
    let q = both (parent_ok parent && not call.immutable) (line_ok true (p_step t rest)) p.0 in
    unplaced place (both (is_task_number k && call_ok call && tasks_ok links && tasks_ok errbacks) (place_ok false place) (own_ok t rest more q.1)).1

by_own : (parent : Option ℕ) (own : PTask) (rest : PLine) → fits (record { parent = parent; own = own; rest = rest }) ≡ true → is_stop rest ≡ false
    → carried_wire (place_of own) ≡ null
by_own parent (p_task k call links errbacks place) rest = nothing_carried parent k call links errbacks place rest

pub carries_nothing : (c : Content) (rest : PLine) → fits (followed_by c rest) ≡ true → is_stop rest ≡ false → carried_wire (place_of c.own) ≡ null
carries_nothing c rest = by_own c.parent c.own rest

pub goes_on : (stops : Bool) → not stops ≡ true → stops ≡ false
goes_on false h = refl
goes_on true h = absurd cc
