-- Lines that can be walked: their parts can be in a message.
use Rattle.std.proofs.Common.{◌≡◌, ◌∙◌, ℕ, suc, ◌≤◌, ◌+◌, max, arith, Bool, true, false, List, [], ◌∷◌, Option, Some, None, refl, sym, ap}
use Rattle.std.specs.Prelude.{◌&&◌, not, nat_lt, nat_le, if◌then◌else◌}
use Rattle.std.specs.List.{list_all}
use Rattle.std.proofs.lemmas.Bool.{lt-ltb, leb-true, le-leb}
use Rattle.canvas_task.specs.Name.{name_ok}
use Rattle.canvas_task.specs.declared.arg.Arg.{Arg}
use Rattle.canvas_task.specs.declared.arg.Arg.TheVariants as arg
use Rattle.canvas_values.specs.ComposedRefusals.{arg_ok, call_numbers_ok}
use Rattle.canvas_semantics.specs.Tree.{Call}
use Rattle.canvas_values.proofs.ComposedLemmas.{both}
use Rattle.canvas_semantics.specs.Evaluation.{arguments}
use Rattle.canvas_semantics.specs.Line.{in_group}
use Rattle.canvas_semantics.specs.PlacedLine.{PTask, p_task, PTasks, and_p_task, PPlace, p_nowhere, p_group, p_chord, PLine, p_stop, p_step, p_group_end, p_chord_end, PLines, no_p_lines, and_p_line, strip}
use Rattle.canvas_rewrite.specs.FrozenView.{p_lines_of}
use Rattle.canvas_effects.specs.Carrying.{is_whole, can_stand, AllWhole, AllStand, callbacks_ok, place_stands, input_ok}
use Rattle.canvas_envelope.specs.Content.{number_of, call_of, links_of, errbacks_of, place_of}
use Rattle.canvas_effects.specs.Effects.{message}
use Rattle.canvas_envelope.specs.Fits.{is_task_number, size_ok, call_ok, ascends, parent_ok, how_many, most_members, task_ok, tasks_ok, place_ok, line_ok, members_ok, task_reach, tasks_reach, place_reach, line_reach, greatest_reach, members_reach, fits}
use Rattle.canvas_effects.specs.Flowing.{Input, no_input, number_input, list_input, id_input, input_flow, given, parent_for}
use Rattle.canvas_envelope.specs.steps.Parts.{is_stop}
use Rattle.canvas_effects.specs.Placing.{last_at, placed, end_place}
use Rattle.canvas_effects.specs.steps.Walks.{at_place, member_place, last_of}
use Rattle.canvas_effects.proofs.FitsOn.{all_true}

-- ---- parts of tests

pub record TaskParts (last : Bool) (k : ℕ) (call : Call) (links errbacks : PTasks) (place : PPlace) : Type 0 where
  pub numbered : is_task_number k ≡ true
  pub called : call_ok call ≡ true
  pub linked : tasks_ok links ≡ true
  pub caught : tasks_ok errbacks ≡ true
  pub there : place_ok last place ≡ true

pub task_parts : (last : Bool) (k : ℕ) (call : Call) (links errbacks : PTasks) (place : PPlace) → task_ok last (p_task k call links errbacks place) ≡ true
    → TaskParts last k call links errbacks place
task_parts last k call links errbacks place ok =
    let p = both (is_task_number k && call_ok call && tasks_ok links && tasks_ok errbacks) (place_ok last place) ok in
    let q = both (is_task_number k && call_ok call && tasks_ok links) (tasks_ok errbacks) p.0 in
    let r = both (is_task_number k && call_ok call) (tasks_ok links) q.0 in
    let s = both (is_task_number k) (call_ok call) r.0 in
    record { numbered = s.0; called = s.1; linked = r.1; caught = q.1; there = p.1 }

task_whole : (last : Bool) (k : ℕ) (call : Call) (links errbacks : PTasks) (place : PPlace) → TaskParts last k call links errbacks place
    → task_ok last (p_task k call links errbacks place) ≡ true
task_whole last k call links errbacks place h =
    all_true (is_task_number k && call_ok call && tasks_ok links && tasks_ok errbacks) (place_ok last place)
    (all_true (is_task_number k && call_ok call && tasks_ok links) (tasks_ok errbacks)
    (all_true (is_task_number k && call_ok call) (tasks_ok links) (all_true (is_task_number k) (call_ok call) h.numbered h.called) h.linked) h.caught) h.there

-- ---- a task with an input

list_given : (immutable : Bool) (args : List Arg) (a : Arg) → arg_ok a ≡ true → list_all arg_ok args ≡ true
    → list_all arg_ok (if immutable then args else a ∷ args) ≡ true
list_given true args a h ok = ok
list_given false args a h ok = all_true (arg_ok a) (list_all arg_ok args) h ok

args_as_they_are : (immutable : Bool) (args : List Arg) → list_all arg_ok args ≡ true → list_all arg_ok (if immutable then args else args) ≡ true
args_as_they_are true args ok = ok
args_as_they_are false args ok = ok

args_given : (c : Call) (x : Input) → input_ok x ≡ true → list_all arg_ok c.args ≡ true → list_all arg_ok (arguments c (input_flow x)) ≡ true
args_given c no_input h ok = args_as_they_are c.immutable c.args ok
args_given c (number_input n) h ok = list_given c.immutable c.args (arg.Num n) h ok
args_given c (list_input ns) h ok = list_given c.immutable c.args (arg.List ns) h ok
args_given c (id_input k) h ok = list_given c.immutable c.args (arg.Text _) refl ok

given_ok : (c : Call) (x : Input) → input_ok x ≡ true → call_ok c ≡ true → call_ok (given c x) ≡ true
given_ok c x h ok =
    let p = both (name_ok c.name && call_numbers_ok c) (ascends c.kwargs) ok in
    let q = both (name_ok c.name) (call_numbers_ok c) p.0 in
    let r = both (list_all arg_ok c.args) (list_all (λ e. arg_ok e.1) c.kwargs) q.1 in
    all_true (name_ok c.name && call_numbers_ok (given c x)) (ascends c.kwargs)
    (all_true (name_ok c.name) (call_numbers_ok (given c x)) q.0
    (all_true (list_all arg_ok (arguments c (input_flow x))) (list_all (λ e. arg_ok e.1) c.kwargs) (args_given c x h r.0) r.1)) p.1

parent_given : (u : Option ℕ) (x : Input) → parent_ok u ≡ true → input_ok x ≡ true → parent_ok (parent_for u x) ≡ true
parent_given u no_input h i = h
parent_given u (number_input n) h i = h
parent_given u (list_input ns) h i = h
parent_given u (id_input k) h i = i

-- a task as its message has it
abbrev pub begun : PTask → Input → PTask
begun t x = p_task (number_of t) (given (call_of t) x) (links_of t) (errbacks_of t) (place_of t)

begun_ok : (last : Bool) (t : PTask) (x : Input) → input_ok x ≡ true → task_ok last t ≡ true → task_ok last (begun t x) ≡ true
begun_ok last (p_task k call links errbacks place) x h ok =
    let p = task_parts last k call links errbacks place ok in
    task_whole last k (given call x) links errbacks place
    (record { numbered = p.numbered; called = given_ok call x h p.called; linked = p.linked; caught = p.caught; there = p.there })

begun_line : (t : PTask) (l : PLine) (x : Input) → input_ok x ≡ true → line_ok true (p_step t l) ≡ true → line_ok true (p_step (begun t x) l) ≡ true
begun_line t p_stop x h ok = begun_ok true t x h ok
begun_line t (p_step u l) x h ok =
    let p = both (task_ok false t) (line_ok true (p_step u l)) ok in
    all_true (task_ok false (begun t x)) (line_ok true (p_step u l)) (begun_ok false t x h p.0) p.1
begun_line t (p_group_end g ms) x h ok =
    let p = both (task_ok false t) (line_ok true (p_group_end g ms)) ok in
    all_true (task_ok false (begun t x)) (line_ok true (p_group_end g ms)) (begun_ok false t x h p.0) p.1
begun_line t (p_chord_end g ms b) x h ok =
    let p = both (task_ok false t) (line_ok true (p_chord_end g ms b)) ok in
    all_true (task_ok false (begun t x)) (line_ok true (p_chord_end g ms b)) (begun_ok false t x h p.0) p.1

begun_reach : (t : PTask) (x : Input) → task_reach 0 (begun t x) ≡ task_reach 0 t
begun_reach (p_task k call links errbacks place) x = refl

line_begun : (t : PTask) (l : PLine) (x : Input) → line_reach 0 (p_step (begun t x) l) ≡ line_reach 0 (p_step t l)
line_begun t p_stop x = begun_reach t x
line_begun t (p_step u l) x = ap (λ r. 1 + max r (greatest_reach 0 (p_step u l))) (begun_reach t x)
line_begun t (p_group_end g ms) x = ap (λ r. 1 + max r (greatest_reach 0 (p_group_end g ms))) (begun_reach t x)
line_begun t (p_chord_end g ms b) x = ap (λ r. 1 + max r (greatest_reach 0 (p_chord_end g ms b))) (begun_reach t x)

-- a line that can be in a message can be its line
pub message_fits : (u : Option ℕ) (t : PTask) (x : Input) (l : PLine) → parent_ok u ≡ true → input_ok x ≡ true → is_whole (p_step t l) ≡ true
    → fits (message u t x l) ≡ true
message_fits u t x l hu hx ok =
    let p = both (line_ok true (p_step t l)) (nat_le (line_reach 0 (p_step t l)) 32) ok in
    let after : PLine = p_step (begun t x) l in
    all_true (parent_ok (parent_for u x) && true && line_ok true after) (nat_le (line_reach 0 after) 32)
    (all_true (parent_ok (parent_for u x) && true) (line_ok true after) (all_true (parent_ok (parent_for u x)) true (parent_given u x hu hx) refl)
    (begun_line t l x hx p.0))
    (le-leb (line_reach 0 after) 32 (omega (arith, leb-true (line_reach 0 (p_step t l)) 32 p.1, line_begun t l x)))

-- ---- callbacks

pub no_place : (p : PPlace) → place_ok false p ≡ true → p ≡ p_nowhere
no_place p_nowhere h = refl
no_place (p_group g) h = absurd cc
no_place (p_chord g size body) h = absurd cc

place_true : (last : Bool) (p : PPlace) → place_ok last p ≡ true → place_ok true p ≡ true
place_true true p h = h
place_true false p h = ap (place_ok true) (no_place p h)

task_true : (last : Bool) (t : PTask) → task_ok last t ≡ true → task_ok true t ≡ true
task_true last (p_task k call links errbacks place) ok =
    let p = task_parts last k call links errbacks place ok in
    task_whole true k call links errbacks place
    (record { numbered = p.numbered; called = p.called; linked = p.linked; caught = p.caught; there = place_true last place p.there })

-- one of them, and the others
pub record Called (t : PTask) (ts : PTasks) : Type 0 where
  pub first : is_whole (p_step t p_stop) ≡ true
  pub others : callbacks_ok ts ≡ true

pub called_parts : (t : PTask) (ts : PTasks) → callbacks_ok (and_p_task t ts) ≡ true → Called t ts
called_parts t ts ok =
    let p = both (tasks_ok (and_p_task t ts)) (nat_le (suc (tasks_reach (and_p_task t ts))) 32) ok in
    let q = both (task_ok false t) (tasks_ok ts) p.0 in
    let low = leb-true (suc (tasks_reach (and_p_task t ts))) 32 p.1 in
    record {
      first = all_true (task_ok true t) (nat_le (task_reach 0 t) 32) (task_true false t q.0) (le-leb (task_reach 0 t) 32 (omega (arith, low)));
      others = all_true (tasks_ok ts) (nat_le (suc (tasks_reach ts)) 32) q.1 (le-leb (suc (tasks_reach ts)) 32 (omega (arith, low)));
    }

-- ---- lines without a place at their end

mutual
  pub line_true : (l : PLine) → line_ok false l ≡ true → line_ok true l ≡ true
  line_true p_stop ok = ok
  line_true (p_step t p_stop) ok = task_true false t ok
  line_true (p_step t (p_step u l)) ok =
      let p = both (task_ok false t) (line_ok false (p_step u l)) ok in all_true (task_ok false t) (line_ok true (p_step u l)) p.0 (line_true (p_step u l) p.1)
  line_true (p_step t (p_group_end g ms)) ok = ok
  line_true (p_step t (p_chord_end g ms b)) ok =
      let p = both (task_ok false t) (line_ok false (p_chord_end g ms b)) ok in
      all_true (task_ok false t) (line_ok true (p_chord_end g ms b)) p.0 (line_true (p_chord_end g ms b) p.1)
  line_true (p_group_end g ms) ok = ok
  line_true (p_chord_end g ms b) ok =
      let head : Bool = is_task_number g && nat_le (how_many ms) most_members && members_ok ms in
      let p = both head (line_ok false b) ok in all_true head (line_ok true b) p.0 (line_true b p.1)

-- with a place at its end
at_ok : (p : PPlace) (t : PTask) → place_ok true p ≡ true → task_ok true t ≡ true → task_ok true (at_place p t) ≡ true
at_ok p (p_task k call links errbacks place) h ok =
    let q = task_parts true k call links errbacks place ok in
    task_whole true k call links errbacks p (record { numbered = q.numbered; called = q.called; linked = q.linked; caught = q.caught; there = h })

pub same_at : (p : PPlace) (t : PTask) (l : PLine) → is_stop l ≡ false → last_at p t l ≡ t
same_at p t p_stop h = absurd cc
same_at p (p_task k call links errbacks place) (p_step u l) h = refl
same_at p (p_task k call links errbacks place) (p_group_end g ms) h = refl
same_at p (p_task k call links errbacks place) (p_chord_end g ms b) h = refl

pub keeps_on : (p : PPlace) (l : PLine) → is_stop l ≡ false → is_stop (placed p l) ≡ false
keeps_on p p_stop h = h
keeps_on p (p_step t l) h = refl
keeps_on p (p_group_end g ms) h = refl
keeps_on p (p_chord_end g ms b) h = refl

pub step_is : (last : Bool) (t : PTask) (l : PLine) → is_stop l ≡ false → line_ok last (p_step t l) ≡ (task_ok false t && line_ok last l)
step_is last t p_stop h = absurd cc
step_is last t (p_step u l) h = refl
step_is last t (p_group_end g ms) h = refl
step_is last t (p_chord_end g ms b) h = refl

pub step_at : (p : PPlace) (t : PTask) (l : PLine) → is_stop l ≡ false → placed p (p_step t l) ≡ p_step t (placed p l)
step_at p t l h = ap (λ u. p_step u (placed p l)) (same_at p t l h)

step_placed_ok : (p : PPlace) (t : PTask) (l : PLine) → is_stop l ≡ false → line_ok true (p_step t l) ≡ true → line_ok true (placed p l) ≡ true
    → line_ok true (placed p (p_step t l)) ≡ true
step_placed_ok p t l h ok more =
    let q = both (task_ok false t) (line_ok true l) (sym (step_is true t l h) ∙ ok) in
    ap (line_ok true) (step_at p t l h) ∙ step_is true t (placed p l) (keeps_on p l h) ∙ all_true (task_ok false t) (line_ok true (placed p l)) q.0 more

pub placed_ok : (p : PPlace) (l : PLine) → place_ok true p ≡ true → line_ok true l ≡ true → line_ok true (placed p l) ≡ true
placed_ok p p_stop h ok = ok
placed_ok p (p_step t p_stop) h ok = at_ok p t h ok
placed_ok p (p_step t (p_step u l)) h ok =
    step_placed_ok p t (p_step u l) refl ok (placed_ok p (p_step u l) h (both (task_ok false t) (line_ok true (p_step u l)) ok).1)
placed_ok p (p_step t (p_group_end g ms)) h ok =
    step_placed_ok p t (p_group_end g ms) refl ok (placed_ok p (p_group_end g ms) h (both (task_ok false t) (line_ok true (p_group_end g ms)) ok).1)
placed_ok p (p_step t (p_chord_end g ms b)) h ok =
    step_placed_ok p t (p_chord_end g ms b) refl ok (placed_ok p (p_chord_end g ms b) h (both (task_ok false t) (line_ok true (p_chord_end g ms b)) ok).1)
placed_ok p (p_group_end g ms) h ok = ok
placed_ok p (p_chord_end g ms b) h ok =
    let head : Bool = is_task_number g && nat_le (how_many ms) most_members && members_ok ms in
    let q = both head (line_ok true b) ok in all_true head (line_ok true (placed p b)) q.0 (placed_ok p b h q.1)

-- ---- how far they reach

step_reaches : (c : ℕ) (t : PTask) (l : PLine) → is_stop l ≡ false → line_reach c (p_step t l) ≡ 1 + max (task_reach 0 t) (greatest_reach c l)
step_reaches c t p_stop h = absurd cc
step_reaches c t (p_step u l) h = refl
step_reaches c t (p_group_end g ms) h = refl
step_reaches c t (p_chord_end g ms b) h = refl

step_greatest : (c : ℕ) (t : PTask) (l : PLine) → is_stop l ≡ false → greatest_reach c (p_step t l) ≡ max (task_reach 0 t) (greatest_reach c l)
step_greatest c t p_stop h = absurd cc
step_greatest c t (p_step u l) h = refl
step_greatest c t (p_group_end g ms) h = refl
step_greatest c t (p_chord_end g ms b) h = refl

-- with more at the end
task_rises : (c d : ℕ) (t : PTask) → c ≤ d → task_reach c t ≤ task_reach d t
task_rises c d (p_task k call links errbacks place) h = omega (arith, h)

mutual
  pub line_rises : (c d : ℕ) (l : PLine) → c ≤ d → line_reach c l ≤ line_reach d l
  line_rises c d p_stop h = omega arith
  line_rises c d (p_step t p_stop) h = task_rises c d t h
  line_rises c d (p_step t (p_step u l)) h = omega (arith, greatest_rises c d (p_step u l) h)
  line_rises c d (p_step t (p_group_end g ms)) h = omega arith
  line_rises c d (p_step t (p_chord_end g ms b)) h = omega (arith, greatest_rises c d (p_chord_end g ms b) h)
  line_rises c d (p_group_end g ms) h = omega arith
  line_rises c d (p_chord_end g ms b) h =
      let more = line_rises c d b h in omega (arith, more, members_rise (line_reach c b) (line_reach d b) ms more)

  greatest_rises : (c d : ℕ) (l : PLine) → c ≤ d → greatest_reach c l ≤ greatest_reach d l
  greatest_rises c d p_stop h = omega arith
  greatest_rises c d (p_step t p_stop) h = task_rises c d t h
  greatest_rises c d (p_step t (p_step u l)) h = omega (arith, greatest_rises c d (p_step u l) h)
  greatest_rises c d (p_step t (p_group_end g ms)) h = omega arith
  greatest_rises c d (p_step t (p_chord_end g ms b)) h = omega (arith, greatest_rises c d (p_chord_end g ms b) h)
  greatest_rises c d (p_group_end g ms) h = omega arith
  greatest_rises c d (p_chord_end g ms b) h =
      let more = line_rises c d b h in omega (arith, more, members_rise (line_reach c b) (line_reach d b) ms more)

  members_rise : (c d : ℕ) (ms : PLines) → c ≤ d → members_reach c ms ≤ members_reach d ms
  members_rise c d no_p_lines h = omega arith
  members_rise c d (and_p_line m ms) h = omega (arith, line_rises c d m h, members_rise c d ms h)

-- a place at the end is what the last task carries
at_reach : (p : PPlace) (t : PTask) → task_reach 0 (at_place p t) ≤ task_reach (place_reach p) t
at_reach p (p_task k call links errbacks place) = omega arith

step_placed_reach : (p : PPlace) (t : PTask) (l : PLine) → is_stop l ≡ false → greatest_reach 0 (placed p l) ≤ greatest_reach (place_reach p) l
    → line_reach 0 (placed p (p_step t l)) ≤ line_reach (place_reach p) (p_step t l)
step_placed_reach p t l h more =
    omega (arith, more, ap (line_reach 0) (step_at p t l h), step_reaches 0 t (placed p l) (keeps_on p l h), step_reaches (place_reach p) t l h)

step_placed_greatest : (p : PPlace) (t : PTask) (l : PLine) → is_stop l ≡ false → greatest_reach 0 (placed p l) ≤ greatest_reach (place_reach p) l
    → greatest_reach 0 (placed p (p_step t l)) ≤ greatest_reach (place_reach p) (p_step t l)
step_placed_greatest p t l h more =
    omega (arith, more, ap (greatest_reach 0) (step_at p t l h), step_greatest 0 t (placed p l) (keeps_on p l h), step_greatest (place_reach p) t l h)

mutual
  pub placed_reach : (p : PPlace) (l : PLine) → line_reach 0 (placed p l) ≤ line_reach (place_reach p) l
  placed_reach p p_stop = omega arith
  placed_reach p (p_step t p_stop) = at_reach p t
  placed_reach p (p_step t (p_step u l)) = step_placed_reach p t (p_step u l) refl (placed_greatest p (p_step u l))
  placed_reach p (p_step t (p_group_end g ms)) = step_placed_reach p t (p_group_end g ms) refl (placed_greatest p (p_group_end g ms))
  placed_reach p (p_step t (p_chord_end g ms b)) = step_placed_reach p t (p_chord_end g ms b) refl (placed_greatest p (p_chord_end g ms b))
  placed_reach p (p_group_end g ms) = omega arith
  placed_reach p (p_chord_end g ms b) =
      let more = placed_reach p b in omega (arith, more, members_rise (line_reach 0 (placed p b)) (line_reach (place_reach p) b) ms more)

  placed_greatest : (p : PPlace) (l : PLine) → greatest_reach 0 (placed p l) ≤ greatest_reach (place_reach p) l
  placed_greatest p p_stop = omega arith
  placed_greatest p (p_step t p_stop) = at_reach p t
  placed_greatest p (p_step t (p_step u l)) = step_placed_greatest p t (p_step u l) refl (placed_greatest p (p_step u l))
  placed_greatest p (p_step t (p_group_end g ms)) = step_placed_greatest p t (p_group_end g ms) refl (placed_greatest p (p_group_end g ms))
  placed_greatest p (p_step t (p_chord_end g ms b)) = step_placed_greatest p t (p_chord_end g ms b) refl (placed_greatest p (p_chord_end g ms b))
  placed_greatest p (p_group_end g ms) = omega arith
  placed_greatest p (p_chord_end g ms b) =
      let more = placed_reach p b in omega (arith, more, members_rise (line_reach 0 (placed p b)) (line_reach (place_reach p) b) ms more)

-- ---- the parts of a line

whole_by : (l : PLine) → line_ok true l ≡ true → line_reach 0 l ≤ 32 → is_whole l ≡ true
whole_by l ok near = all_true (line_ok true l) (nat_le (line_reach 0 l) 32) ok (le-leb (line_reach 0 l) 32 near)

pub whole_ok : (l : PLine) → is_whole l ≡ true → line_ok true l ≡ true
whole_ok l h = (both (line_ok true l) (nat_le (line_reach 0 l) 32) h).0

whole_near : (l : PLine) → is_whole l ≡ true → line_reach 0 l ≤ 32
whole_near l h = leb-true (line_reach 0 l) 32 (both (line_ok true l) (nat_le (line_reach 0 l) 32) h).1

-- the first task of a line
pub record Stepped (t : PTask) : Type 0 where
  pub numbered : is_task_number (number_of t) ≡ true
  pub called_back : callbacks_ok (errbacks_of t) ≡ true
  pub linked : callbacks_ok (links_of t) ≡ true

callbacks_by : (ts : PTasks) → tasks_ok ts ≡ true → suc (tasks_reach ts) ≤ 32 → callbacks_ok ts ≡ true
callbacks_by ts ok near = all_true (tasks_ok ts) (nat_le (suc (tasks_reach ts)) 32) ok (le-leb (suc (tasks_reach ts)) 32 near)

stepped_by : (last : Bool) (t : PTask) → task_ok last t ≡ true → task_reach 0 t ≤ 32 → Stepped t
stepped_by last (p_task k call links errbacks place) ok near =
    let p = task_parts last k call links errbacks place ok in
    record {
      numbered = p.numbered;
      called_back = callbacks_by errbacks p.caught (omega (arith, near));
      linked = callbacks_by links p.linked (omega (arith, near));
    }

pub first_stepped : (t : PTask) (l : PLine) → is_whole (p_step t l) ≡ true → Stepped t
first_stepped t p_stop h = stepped_by true t (whole_ok (p_step t p_stop) h) (whole_near (p_step t p_stop) h)
first_stepped t (p_step u l) h =
    stepped_by false t (both (task_ok false t) (line_ok true (p_step u l)) (whole_ok (p_step t (p_step u l)) h)).0
    (omega (arith, whole_near (p_step t (p_step u l)) h))
first_stepped t (p_group_end g ms) h =
    stepped_by false t (both (task_ok false t) (line_ok true (p_group_end g ms)) (whole_ok (p_step t (p_group_end g ms)) h)).0
    (omega (arith, whole_near (p_step t (p_group_end g ms)) h))
first_stepped t (p_chord_end g ms b) h =
    stepped_by false t (both (task_ok false t) (line_ok true (p_chord_end g ms b)) (whole_ok (p_step t (p_chord_end g ms b)) h)).0
    (omega (arith, whole_near (p_step t (p_chord_end g ms b)) h))

-- the place of a last task without a rest
place_by : (last : Bool) (t : PTask) → task_ok last t ≡ true → task_reach 0 t ≤ 32 → place_stands (place_of t) ≡ true
place_by last (p_task k call links errbacks place) ok near =
    all_true (place_ok true place) (nat_le (suc (place_reach place)) 32) (place_true last place (task_parts last k call links errbacks place ok).there)
    (le-leb (suc (place_reach place)) 32 (omega (arith, near)))

-- the rest of a line after a task
behind : (t : PTask) (l : PLine) → is_stop l ≡ false → line_reach 0 l ≤ line_reach 0 (p_step t l)
behind t p_stop h = absurd cc
behind t (p_step u p_stop) h = omega arith
behind t (p_step u (p_step v l)) h = omega arith
behind t (p_step u (p_group_end g ms)) h = omega arith
behind t (p_step u (p_chord_end g ms b)) h = omega arith
behind t (p_group_end g ms) h = omega arith
behind t (p_chord_end g ms b) h = omega arith

pub rest_whole : (t : PTask) (l : PLine) → is_stop l ≡ false → is_whole (p_step t l) ≡ true → is_whole l ≡ true
rest_whole t l h ok =
    whole_by l (both (task_ok false t) (line_ok true l) (sym (step_is true t l h) ∙ whole_ok (p_step t l) ok)).1
    (omega (arith, whole_near (p_step t l) ok, behind t l h))

pub record Chord (g : ℕ) (ms : PLines) (b : PLine) : Type 0 where
  pub numbered : is_task_number g ≡ true
  pub few : nat_le (how_many ms) most_members ≡ true
  pub members : members_ok ms ≡ true
  pub body : line_ok true b ≡ true

pub chord_parts : (g : ℕ) (ms : PLines) (b : PLine) → line_ok true (p_chord_end g ms b) ≡ true → Chord g ms b
chord_parts g ms b ok =
    let p = both (is_task_number g && nat_le (how_many ms) most_members && members_ok ms) (line_ok true b) ok in
    let q = both (is_task_number g && nat_le (how_many ms) most_members) (members_ok ms) p.0 in
    let r = both (is_task_number g) (nat_le (how_many ms) most_members) q.0 in
    record { numbered = r.0; few = r.1; members = q.1; body = p.1 }

pub body_whole : (g : ℕ) (ms : PLines) (b : PLine) → is_whole (p_chord_end g ms b) ≡ true → is_whole b ≡ true
body_whole g ms b h = whole_by b (chord_parts g ms b (whole_ok (p_chord_end g ms b) h)).body (omega (arith, whole_near (p_chord_end g ms b) h))

pub place_whole : (l : PLine) → is_whole l ≡ true → place_stands (end_place l) ≡ true
place_whole p_stop h = absurd cc
place_whole (p_step t p_stop) h = place_by true t (whole_ok (p_step t p_stop) h) (whole_near (p_step t p_stop) h)
place_whole (p_step t (p_step u l)) h = place_whole (p_step u l) (rest_whole t (p_step u l) refl h)
place_whole (p_step t (p_group_end g ms)) h = refl
place_whole (p_step t (p_chord_end g ms b)) h = place_whole (p_chord_end g ms b) (rest_whole t (p_chord_end g ms b) refl h)
place_whole (p_group_end g ms) h = refl
place_whole (p_chord_end g ms b) h = place_whole b (body_whole g ms b h)

-- members
pub record Member (m : PLine) : Type 0 where
  pub ok : line_ok false m ≡ true
  pub ends : in_group (strip m) ≡ false

not_false : (b : Bool) → not b ≡ true → b ≡ false
not_false true h = absurd cc
not_false false h = refl

pub member_first : (m : PLine) (ms : PLines) → members_ok (and_p_line m ms) ≡ true → Member m
member_first m ms h =
    let p = both (line_ok false m && not (in_group (strip m))) (members_ok ms) h in
    let q = both (line_ok false m) (not (in_group (strip m))) p.0 in
    record { ok = q.0; ends = not_false (in_group (strip m)) q.1 }

pub member_others : (m : PLine) (ms : PLines) → members_ok (and_p_line m ms) ≡ true → members_ok ms ≡ true
member_others m ms h = (both (line_ok false m && not (in_group (strip m))) (members_ok ms) h).1

-- each can be walked by itself
members_whole : (c : ℕ) (ls : List PLine) → members_ok (p_lines_of ls) ≡ true → members_reach c (p_lines_of ls) ≤ 32 → AllWhole ls
members_whole c [] ok near = tt
members_whole c (m ∷ ms) ok near =
    let first : is_whole m ≡ true = whole_by m (line_true m (member_first m (p_lines_of ms) ok).ok) (omega (arith, near, line_rises 0 c m (omega arith))) in
    (first, members_whole c ms (member_others m (p_lines_of ms) ok) (omega (arith, near)))

pub group_whole : (g : ℕ) (ls : List PLine) → is_whole (p_group_end g (p_lines_of ls)) ≡ true → AllWhole ls
group_whole g ls h =
    members_whole 0 ls (both (is_task_number g) (members_ok (p_lines_of ls)) (whole_ok (p_group_end g (p_lines_of ls)) h)).1
    (omega (arith, whole_near (p_group_end g (p_lines_of ls)) h))

pub header_whole : (g : ℕ) (ls : List PLine) (b : PLine) → is_whole (p_chord_end g (p_lines_of ls) b) ≡ true → AllWhole ls
header_whole g ls b h =
    members_whole (line_reach 0 b) ls (chord_parts g (p_lines_of ls) b (whole_ok (p_chord_end g (p_lines_of ls) b) h)).members
    (omega (arith, whole_near (p_chord_end g (p_lines_of ls) b) h))

-- and where its end goes to the place of the whole
standing : (p : PPlace) (m : PLine) → place_ok true p ≡ true → line_ok false m ≡ true → line_reach (place_reach p) m ≤ 32 → can_stand m p ≡ true
standing p m there ok near = whole_by (placed p m) (placed_ok p m there (line_true m ok)) (omega (arith, near, placed_reach p m))

members_stand_by : (p : PPlace) (ls : List PLine) → place_ok true p ≡ true → members_ok (p_lines_of ls) ≡ true
    → members_reach (place_reach p) (p_lines_of ls) ≤ 32 → AllStand p ls
members_stand_by p [] there ok near = tt
members_stand_by p (m ∷ ms) there ok near = (
  standing p m there (member_first m (p_lines_of ms) ok).ok (omega (arith, near)),
  members_stand_by p ms there (member_others m (p_lines_of ms) ok) (omega (arith, near)),
)

pub group_stands : (g : ℕ) (ls : List PLine) (p : PPlace) → can_stand (p_group_end g (p_lines_of ls)) p ≡ true
    → AllStand (member_place (p_group_end g (p_lines_of ls)) p) ls
group_stands g ls p h =
    let q = both (is_task_number g) (members_ok (p_lines_of ls)) (whole_ok (p_group_end g (p_lines_of ls)) h) in
    members_stand_by (p_group g) ls q.0 q.1 (omega (arith, whole_near (p_group_end g (p_lines_of ls)) h))

pub header_stands : (g : ℕ) (l : PLine) (ls : List PLine) (b : PLine) (p : PPlace) → can_stand (p_chord_end g (p_lines_of (l ∷ ls)) b) p ≡ true
    → AllStand (member_place (p_chord_end g (p_lines_of (l ∷ ls)) b) p) (l ∷ ls)
header_stands g l ls b p h =
    let ms : PLines = p_lines_of (l ∷ ls) in
    let q = chord_parts g ms (placed p b) (whole_ok (p_chord_end g ms (placed p b)) h) in
    let sized : size_ok (how_many ms) ≡ true =
    all_true (nat_lt 0 (how_many ms)) (nat_le (how_many ms) most_members) (lt-ltb 0 (how_many ms) (omega arith)) q.few in
    let there : place_ok true (p_chord g (how_many ms) (placed p b)) ≡ true =
    all_true (is_task_number g && size_ok (how_many ms)) (line_ok true (placed p b))
    (all_true (is_task_number g) (size_ok (how_many ms)) q.numbered sized) q.body in
    members_stand_by (p_chord g (how_many ms) (placed p b)) (l ∷ ls) there q.members (omega (arith, whole_near (p_chord_end g ms (placed p b)) h))

pub body_stands : (g : ℕ) (ms : PLines) (b : PLine) (p : PPlace) → can_stand (p_chord_end g ms b) p ≡ true → can_stand b p ≡ true
body_stands g ms b p h = body_whole g ms (placed p b) h

pub few_members : (g : ℕ) (ms : PLines) (b : PLine) (p : PPlace) → can_stand (p_chord_end g ms b) p ≡ true → how_many ms ≤ most_members
few_members g ms b p h = leb-true (how_many ms) most_members (chord_parts g ms (placed p b) (whole_ok (p_chord_end g ms (placed p b)) h)).few

-- the end of a line goes to the place of its last task
pub as_it_stands : (l : PLine) → placed (end_place l) l ≡ l
as_it_stands p_stop = refl
as_it_stands (p_step (p_task k call links errbacks place) p_stop) = refl
as_it_stands (p_step (p_task k call links errbacks place) (p_step u l)) = ap (p_step (p_task k call links errbacks place)) (as_it_stands (p_step u l))
as_it_stands (p_step (p_task k call links errbacks place) (p_group_end g ms)) = refl
as_it_stands (p_step (p_task k call links errbacks place) (p_chord_end g ms b)) =
    ap (p_step (p_task k call links errbacks place)) (as_it_stands (p_chord_end g ms b))
as_it_stands (p_group_end g ms) = refl
as_it_stands (p_chord_end g ms b) = ap (p_chord_end g ms) (as_it_stands b)

pub stands_there : (l : PLine) → is_whole l ≡ true → can_stand l (end_place l) ≡ true
stands_there l h = ap is_whole (as_it_stands l) ∙ h

-- the place of the last task, by the task
pub place_last : (l : PLine) (t : PTask) → last_of l ≡ Some t → end_place l ≡ place_of t
place_last p_stop t h = absurd cc
place_last (p_step u p_stop) t h = let same : u ≡ t = cc in ap place_of same
place_last (p_step u (p_step v l)) t h = place_last (p_step v l) t h
place_last (p_step u (p_group_end g ms)) t h = absurd cc
place_last (p_step u (p_chord_end g ms b)) t h = place_last (p_chord_end g ms b) t h
place_last (p_group_end g ms) t h = absurd cc
place_last (p_chord_end g ms b) t h = place_last b t h

pub place_never : (l : PLine) → last_of l ≡ None → end_place l ≡ p_nowhere
place_never p_stop h = refl
place_never (p_step u p_stop) h = absurd cc
place_never (p_step u (p_step v l)) h = place_never (p_step v l) h
place_never (p_step u (p_group_end g ms)) h = refl
place_never (p_step u (p_chord_end g ms b)) h = place_never (p_chord_end g ms b) h
place_never (p_group_end g ms) h = refl
place_never (p_chord_end g ms b) h = place_never b h
