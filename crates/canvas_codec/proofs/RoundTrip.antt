-- Frozen signatures that are written are read again, as data.
use Rattle.std.proofs.Common.{◌≡◌, ℕ, zero, suc, ◌≤◌, ◌<◌, ◌^◌, List, [], ◌∷◌, Bool, true, false, Some, None, Option, Result, Ok, nat_cmp, Less, Greater, refl, ap, ◌∙◌, arith, pos}
use Rattle.std.specs.Prelude.{codes, ◌&&◌, not, nat_lt, nat_le}
use Rattle.std.specs.Cmp.Lexicographic.{slice_cmp}
use Rattle.std.specs.declared.cmp.Ordering.{Ordering}
use Rattle.std.proofs.lemmas.Bool.{ltb-true, lt-ltb, leb-true}
use Rattle.serde_json.specs.Data.{Data, null, boolean, number, string, array, object, Items, no_items, item, Members, member, no_members}
use Rattle.canvas_task.specs.Name.{name_ok}
use Rattle.canvas_task.specs.declared.arg.Arg.{Arg}
use Rattle.canvas_task.proofs.IdentifierLemmas as identifiers
use Rattle.canvas_values.specs.Fields.{field, subtype, option, items, is_null}
use Rattle.canvas_values.specs.ComposedRefusals.{call_numbers_ok}
use Rattle.canvas_values.specs.Answers.{◌or_else◌, fault_if, in_turn}
use Rattle.canvas_values.specs.Grammar.{primitive_of, own_fault}
use Rattle.canvas_semantics.specs.Tree.{Call}
use Rattle.canvas_task.specs.Entries.{IsBelow, Ascends}
use Rattle.canvas_values.proofs.FittingCalls.{CallFits}
use Rattle.canvas_values.specs.Writing.{number_wire, member_unless_empty}
use Rattle.canvas_values.specs.declared.fault.SigFault.{SigFault}
use Rattle.canvas_values.specs.declared.fault.SigFault.TheVariants.{Frozen}
use Rattle.canvas_values.proofs.ComposedLemmas.{both, args_fit, kwargs_fit}
use Rattle.canvas_sig.proofs.RoundTrip.{args_back, args_kinds, args_numbers, kwargs_back, kwargs_kinds, kwargs_numbers, list_or_null, link_ok, as_items}
use Rattle.canvas_semantics.specs.Line.{in_group}
use Rattle.canvas_rewrite.specs.FrozenView.{p_tasks_of, p_lines_of}
use Rattle.canvas_semantics.specs.PlacedLine.{PTask, p_task, PTasks, no_p_tasks, and_p_task, PPlace, p_nowhere, p_group, p_chord, PLine, p_stop, p_step, p_group_end, p_chord_end, PLines, no_p_lines, and_p_line, strip}
use Rattle.canvas_envelope.specs.Fits.{is_task_number, size_ok, is_less, is_below, ascends, call_ok, task_ok, tasks_ok, place_ok, line_ok, members_ok, how_many, task_reach, tasks_reach, place_reach, line_reach, greatest_reach, members_reach, most_members}
use Rattle.canvas_codec.specs.steps.FrozenReading.{size_reading, call_reading, place_with, task_with, task_as, step_as, last_as, elements_with, link_reading, step_reading, last_reading, line_reading}
use Rattle.canvas_envelope.specs.FrozenGrammar.{task_of, group_of, but_a_place}
use Rattle.canvas_envelope.specs.Wire.{task_id, group_id, place_id, member_unless_null, task_options, call_wire, chain_wire, group_wire, chord_wire, task_wire, tasks_wire, carried_wire, line_wire, elements_wire, members_wire}

-- ---- what fits

less : (o : Ordering) → is_less o ≡ true → o ≡ Less
less Less h = refl
less o h = absurd cc

below : (k : List ℕ) (es : List (List ℕ × Arg)) → is_below k es ≡ true → IsBelow k es
below k [] h = tt
below k (e ∷ es) h = let p = both _ _ h in (less _ p.0, below k es p.1)

ascend : (es : List (List ℕ × Arg)) → ascends es ≡ true → Ascends es
ascend [] h = tt
ascend (e ∷ es) h = let p = both _ _ h in (below e.0 es p.0, ascend es p.1)

pub call_fits : (c : Call) → call_ok c ≡ true → CallFits c
call_fits c h =
    let p = both (name_ok c.name && call_numbers_ok c) (ascends c.kwargs) h in
    let q = both (name_ok c.name) (call_numbers_ok c) p.0 in
    let r = both _ _ q.1 in
    record { name = q.0; args = args_fit c.args r.0; kwargs = kwargs_fit c.kwargs r.1; ordered = ascend c.kwargs p.1 }

pub numbered : (k : ℕ) → is_task_number k ≡ true → (0 < k) × (k < 2 ^ 32)
numbered k h = let p = both (nat_lt 0 k) (nat_lt k (2 ^ 32)) h in (ltb-true 0 k p.0, ltb-true k (2 ^ 32) p.1)

-- ---- identifiers

pub task_id_back : (k : ℕ) → is_task_number k ≡ true → task_of (task_id k) ≡ Some k
task_id_back k h = let p = numbered k h in identifiers.task_back k p.0 p.1

pub group_id_back : (g : ℕ) → is_task_number g ≡ true → group_of (group_id g) ≡ Some g
group_id_back g h = let p = numbered g h in identifiers.group_back g p.0 p.1

-- ---- the options of a task

-- a look-up passes a member of another name
null_passed : (k j : List ℕ) (d : Data) (more : Members) → slice_cmp nat_cmp k j ≡ Greater
    → field k (object (member_unless_null j d more)) ≡ field k (object more)
null_passed k j null more h = refl
null_passed k j (boolean b) more h = rw h refl
null_passed k j (number n) more h = rw h refl
null_passed k j (string s) more h = rw h refl
null_passed k j (array ds) more h = rw h refl
null_passed k j (object ms) more h = rw h refl

list_passed : (k j : List ℕ) (ds : Items) (more : Members) → slice_cmp nat_cmp k j ≡ Greater
    → field k (object (member_unless_empty j ds more)) ≡ field k (object more)
list_passed k j no_items more h = refl
list_passed k j (item d ds) more h = rw h refl

-- a look-up stops before a member of a greater name
null_before : (k j : List ℕ) (d : Data) (more : Members) → slice_cmp nat_cmp k j ≡ Less → field k (object (member_unless_null j d more)) ≡ field k (object more)
null_before k j null more h = refl
null_before k j (boolean b) more h = rw h refl
null_before k j (number n) more h = rw h refl
null_before k j (string s) more h = rw h refl
null_before k j (array ds) more h = rw h refl
null_before k j (object ms) more h = rw h refl

list_before : (k j : List ℕ) (ds : Items) (more : Members) → slice_cmp nat_cmp k j ≡ Less
    → field k (object (member_unless_empty j ds more)) ≡ field k (object more)
list_before k j no_items more h = refl
list_before k j (item d ds) more h = rw h refl

abbrev id_member : ℕ → Members
id_member k = member (codes "task_id") (task_id k) no_members

abbrev from_errbacks : ℕ → Items → Members
from_errbacks k e = member_unless_empty (codes "link_error") e (id_member k)

abbrev from_links : ℕ → Items → Items → Members
from_links k l e = member_unless_empty (codes "link") l (from_errbacks k e)

abbrev from_group : ℕ → Items → Items → Data → Members
from_group k l e g = member_unless_null (codes "group_id") g (from_links k l e)

chord_found : (k : ℕ) (l e : Items) (g c : Data) → field (codes "chord") (object (task_options k l e g c)) ≡ c
chord_found k l e g null =
    null_before (codes "chord") (codes "group_id") g (from_links k l e) refl ∙ list_before (codes "chord") (codes "link") l (from_errbacks k e) refl
    ∙ list_before (codes "chord") (codes "link_error") e (id_member k) refl
chord_found k l e g (boolean b) = refl
chord_found k l e g (number n) = refl
chord_found k l e g (string s) = refl
chord_found k l e g (array ds) = refl
chord_found k l e g (object ms) = refl

group_after : (k : ℕ) (l e : Items) (g : Data) → field (codes "group_id") (object (from_group k l e g)) ≡ g
group_after k l e null = list_before (codes "group_id") (codes "link") l (from_errbacks k e) refl ∙ list_before (codes "group_id") (codes "link_error") e (id_member k) refl
group_after k l e (boolean b) = refl
group_after k l e (number n) = refl
group_after k l e (string s) = refl
group_after k l e (array ds) = refl
group_after k l e (object ms) = refl

group_found : (k : ℕ) (l e : Items) (g c : Data) → field (codes "group_id") (object (task_options k l e g c)) ≡ g
group_found k l e g c = null_passed (codes "group_id") (codes "chord") c (from_group k l e g) refl ∙ group_after k l e g

link_after : (k : ℕ) (l e : Items) → field (codes "link") (object (from_links k l e)) ≡ list_or_null l
link_after k no_items e = list_before (codes "link") (codes "link_error") e (id_member k) refl
link_after k (item d ds) e = refl

link_found : (k : ℕ) (l e : Items) (g c : Data) → field (codes "link") (object (task_options k l e g c)) ≡ list_or_null l
link_found k l e g c =
    null_passed (codes "link") (codes "chord") c (from_group k l e g) refl ∙ null_passed (codes "link") (codes "group_id") g (from_links k l e) refl ∙ link_after k l e

errbacks_after : (k : ℕ) (e : Items) → field (codes "link_error") (object (from_errbacks k e)) ≡ list_or_null e
errbacks_after k no_items = refl
errbacks_after k (item d ds) = refl

errbacks_found : (k : ℕ) (l e : Items) (g c : Data) → field (codes "link_error") (object (task_options k l e g c)) ≡ list_or_null e
errbacks_found k l e g c =
    null_passed (codes "link_error") (codes "chord") c (from_group k l e g) refl ∙ null_passed (codes "link_error") (codes "group_id") g (from_links k l e) refl
    ∙ list_passed (codes "link_error") (codes "link") l (from_errbacks k e) refl ∙ errbacks_after k e

id_found : (k : ℕ) (l e : Items) (g c : Data) → field (codes "task_id") (object (task_options k l e g c)) ≡ task_id k
id_found k l e g c =
    null_passed (codes "task_id") (codes "chord") c (from_group k l e g) refl ∙ null_passed (codes "task_id") (codes "group_id") g (from_links k l e) refl
    ∙ list_passed (codes "task_id") (codes "link") l (from_errbacks k e) refl ∙ list_passed (codes "task_id") (codes "link_error") e (id_member k) refl

-- ---- tasks

place_allowed : (b : Bool) → but_a_place (fault_if (not b) Frozen or_else None) ≡ None
place_allowed true = refl
place_allowed false = refl

no_fault : (linked : Bool) (size : Option ℕ) (call : Call) (k : ℕ) (l e : Items) (g c : Data) → CallFits call
    → but_a_place (own_fault linked (call_wire size call (task_options k l e g c))) ≡ None
no_fault linked None call k l e g c fits =
    rw (
      fits.name,
      link_found k l e g c,
      errbacks_found k l e g c,
      chord_found k l e g c,
      link_ok l,
      link_ok e,
      args_kinds call.args,
      kwargs_kinds call.kwargs,
      args_numbers call.args fits.args,
      kwargs_numbers call.kwargs fits.kwargs,
    ) (place_allowed (is_null c))
no_fault linked (Some n) call k l e g c fits =
    rw (
      fits.name,
      link_found k l e g c,
      errbacks_found k l e g c,
      chord_found k l e g c,
      link_ok l,
      link_ok e,
      args_kinds call.args,
      kwargs_kinds call.kwargs,
      args_numbers call.args fits.args,
      kwargs_numbers call.kwargs fits.kwargs,
    ) (place_allowed (is_null c))

call_given : (size : Option ℕ) (call : Call) (options : Members) → CallFits call → call_reading (call_wire size call options) ≡ Ok call
call_given None call options fits = rw (args_back call.args fits.args, kwargs_back call.kwargs fits.kwargs) refl
call_given (Some n) call options fits = rw (args_back call.args fits.args, kwargs_back call.kwargs fits.kwargs) refl

abbrev pub listed_tasks : PTasks → List PTask
listed_tasks no_p_tasks = []
listed_tasks (and_p_task t ts) = t ∷ listed_tasks ts

pub tasks_listed : (ts : PTasks) → p_tasks_of (listed_tasks ts) ≡ ts
tasks_listed no_p_tasks = refl
tasks_listed (and_p_task t ts) = ap (and_p_task t) (tasks_listed ts)

abbrev pub listed_lines : PLines → List PLine
listed_lines no_p_lines = []
listed_lines (and_p_line m ms) = m ∷ listed_lines ms

pub lines_listed : (ls : PLines) → p_lines_of (listed_lines ls) ≡ ls
lines_listed no_p_lines = refl
lines_listed (and_p_line m ms) = ap (and_p_line m) (lines_listed ms)

-- what a task's look-ups find
record Found (size : Option ℕ) (call : Call) (k : ℕ) (l e : Items) (g c : Data) : Type 0 where
  id : option (codes "task_id") (call_wire size call (task_options k l e g c)) ≡ task_id k
  group : option (codes "group_id") (call_wire size call (task_options k l e g c)) ≡ g
  body : option (codes "chord") (call_wire size call (task_options k l e g c)) ≡ c
  links : option (codes "link") (call_wire size call (task_options k l e g c)) ≡ list_or_null l
  errbacks : option (codes "link_error") (call_wire size call (task_options k l e g c)) ≡ list_or_null e

found : (size : Option ℕ) (call : Call) (k : ℕ) (l e : Items) (g c : Data) → Found size call k l e g c
found None call k l e g c =
    record {
      id = id_found k l e g c;
      group = group_found k l e g c;
      body = chord_found k l e g c;
      links = link_found k l e g c;
      errbacks = errbacks_found k
          l e g c;
    }
found (Some n) call k l e g c =
    record {
      id = id_found k l e g c;
      group = group_found k l e g c;
      body = chord_found k l e g c;
      links = link_found k l e g c;
      errbacks = errbacks_found k
          l e g c;
    }

read_with : (size : Option ℕ) (call : Call) (k : ℕ) (links errbacks : PTasks) (place : PPlace) (t : Data → Result PTask SigFault) (f : Data
    → Result PLine SigFault)
    → is_task_number k ≡ true → CallFits call
    → in_turn t (items (tasks_wire links)) ≡ Ok (listed_tasks links) → in_turn t (items (tasks_wire errbacks)) ≡ Ok (listed_tasks errbacks)
    → place_with f (place_id place) (carried_wire place) ≡ Ok place
    → task_with t f (task_wire size (p_task k call links errbacks place)) ≡ Ok (p_task k call links errbacks place)
read_with size call k links errbacks place t f here fits ls es at =
    let o = found size call k (tasks_wire links) (tasks_wire errbacks) (place_id place) (carried_wire place) in
    rw (
      o.id,
      task_id_back k here,
      call_given size call (task_options k (tasks_wire links) (tasks_wire errbacks) (place_id place) (carried_wire place)) fits,
      o.links,
      as_items (tasks_wire links),
      ls,
      o.errbacks,
      as_items (tasks_wire errbacks),
      es,
      o.group,
      o.body,
      at,
      tasks_listed links,
      tasks_listed errbacks,
    ) refl

task_read : (linked : Bool) (size : Option ℕ) (call : Call) (k : ℕ) (links errbacks : PTasks) (place : PPlace) (t : Data → Result PTask SigFault) (f : Data
    → Result PLine SigFault)
    → is_task_number k ≡ true → CallFits call
    → in_turn t (items (tasks_wire links)) ≡ Ok (listed_tasks links) → in_turn t (items (tasks_wire errbacks)) ≡ Ok (listed_tasks errbacks)
    → place_with f (place_id place) (carried_wire place) ≡ Ok place
    → task_as linked t f (task_wire size (p_task k call links errbacks place)) ≡ Ok (p_task k call links errbacks place)
task_read linked size call k links errbacks place t f here fits ls es at =
    rw (
      no_fault linked size call k (tasks_wire links) (tasks_wire errbacks) (place_id place) (carried_wire place) fits,
      read_with size call k links errbacks place t f here fits ls es at,
    ) refl

-- ---- places

sized_back : (n : ℕ) → size_ok n ≡ true → size_reading (number_wire (pos n)) ≡ Ok n
sized_back n h =
    let most = leb-true n most_members (both (nat_lt 0 n) (nat_le n most_members) h).1 in
    rw (lt-ltb n (2 ^ 63) (omega (arith, most)), h) refl

line_is_some : (size : Option ℕ) (l : PLine) → is_null (line_wire size l) ≡ false
line_is_some size p_stop = refl
line_is_some size (p_step (p_task k call links errbacks place) p_stop) = refl
line_is_some size (p_step t (p_step u l)) = refl
line_is_some size (p_step t (p_group_end g ms)) = refl
line_is_some size (p_step t (p_chord_end g ms b)) = refl
line_is_some size (p_group_end g ms) = refl
line_is_some size (p_chord_end g ms b) = refl

size_found : (n : ℕ) (l : PLine) → field (codes "chord_size") (line_wire (Some n) l) ≡ number_wire (pos n)
size_found n p_stop = refl
size_found n (p_step (p_task k call links errbacks place) p_stop) = refl
size_found n (p_step t (p_step u l)) = refl
size_found n (p_step t (p_group_end g ms)) = refl
size_found n (p_step t (p_chord_end g ms b)) = refl
size_found n (p_group_end g ms) = refl
size_found n (p_chord_end g ms b) = refl

pub group_place : (f : Data → Result PLine SigFault) (g : ℕ) → is_task_number g ≡ true
    → place_with f (place_id (p_group g)) (carried_wire (p_group g)) ≡ Ok (p_group g)
group_place f g here = rw (group_id_back g here) refl

pub chord_place : (f : Data → Result PLine SigFault) (g n : ℕ) (body : PLine) → is_task_number g ≡ true → size_ok n ≡ true
    → f (line_wire (Some n) body) ≡ Ok body → place_with f (place_id (p_chord g n body)) (carried_wire (p_chord g n body)) ≡ Ok (p_chord g n body)
chord_place f g n body here size read = rw (group_id_back g here, line_is_some (Some n) body, size_found n body, sized_back n size, read) refl

-- ---- lines

kind_found : (size : Option ℕ) (call : Call) (options : Members) → subtype (call_wire size call options) ≡ null
kind_found None call options = refl
kind_found (Some n) call options = refl

-- an element that is a task
step_task : (size : Option ℕ) (t : PTask) (n : ℕ) → task_as false (link_reading n) (line_reading n) (task_wire size t) ≡ Ok t
    → step_as (link_reading n) (line_reading n) (primitive_of (subtype (task_wire size t))) (task_wire size t) ≡ Ok t
step_task size (p_task k call links errbacks place) n read =
    rw (kind_found size call (task_options k (tasks_wire links) (tasks_wire errbacks) (place_id place) (carried_wire place)), read) refl

last_task : (size : Option ℕ) (t : PTask) (n : ℕ) → task_as false (link_reading n) (line_reading n) (task_wire size t) ≡ Ok t
    → last_as (link_reading n) (line_reading n) (primitive_of (subtype (task_wire size t))) (task_wire size t) ≡ Ok (p_step t p_stop)
last_task size (p_task k call links errbacks place) n read =
    rw (kind_found size call (task_options k (tasks_wire links) (tasks_wire errbacks) (place_id place) (carried_wire place)), read) refl

alone : (size : Option ℕ) (t : PTask) (n : ℕ) → task_as false (link_reading n) (line_reading n) (task_wire size t) ≡ Ok t
    → line_reading (suc n) (task_wire size t) ≡ Ok (p_step t p_stop)
alone size (p_task k call links errbacks place) n read =
    rw (kind_found size call (task_options k (tasks_wire links) (tasks_wire errbacks) (place_id place) (carried_wire place)), read) refl

last_group : (size : Option ℕ) (g : ℕ) (ms : PLines) (n : ℕ) → is_task_number g ≡ true
    → in_turn (line_reading n) (items (members_wire ms)) ≡ Ok (listed_lines ms)
    → last_as (link_reading n) (line_reading n) (primitive_of (subtype (group_wire size g (members_wire ms)))) (group_wire size g (members_wire ms))
    ≡ Ok (p_group_end g ms)
last_group None g ms n here read = rw (group_id_back g here, read, lines_listed ms) refl
last_group (Some s) g ms n here read = rw (group_id_back g here, read, lines_listed ms) refl

alone_group : (size : Option ℕ) (g : ℕ) (ms : PLines) (n : ℕ) → is_task_number g ≡ true
    → in_turn (line_reading n) (items (members_wire ms)) ≡ Ok (listed_lines ms)
    → line_reading (suc n) (group_wire size g (members_wire ms)) ≡ Ok (p_group_end g ms)
alone_group None g ms n here read = rw (group_id_back g here, read, lines_listed ms) refl
alone_group (Some s) g ms n here read = rw (group_id_back g here, read, lines_listed ms) refl

last_chord : (size : Option ℕ) (g : ℕ) (ms : PLines) (b : PLine) (n : ℕ) → is_task_number g ≡ true
    → in_turn (line_reading n) (items (members_wire ms)) ≡ Ok (listed_lines ms)
    → line_reading n (line_wire None b) ≡ Ok b
    → last_as (link_reading n) (line_reading n) (primitive_of (subtype (chord_wire size g (members_wire ms) (line_wire None b))))
    (chord_wire size g (members_wire ms) (line_wire None b))
    ≡ Ok (p_chord_end g ms b)
last_chord None g ms b n here read body = rw (line_is_some None b, group_id_back g here, read, body, lines_listed ms) refl
last_chord (Some s) g ms b n here read body = rw (line_is_some None b, group_id_back g here, read, body, lines_listed ms) refl

alone_chord : (size : Option ℕ) (g : ℕ) (ms : PLines) (b : PLine) (n : ℕ) → is_task_number g ≡ true
    → in_turn (line_reading n) (items (members_wire ms)) ≡ Ok (listed_lines ms)
    → line_reading n (line_wire None b) ≡ Ok b
    → line_reading (suc n) (chord_wire size g (members_wire ms) (line_wire None b)) ≡ Ok (p_chord_end g ms b)
alone_chord None g ms b n here read body = rw (line_is_some None b, group_id_back g here, read, body, lines_listed ms) refl
alone_chord (Some s) g ms b n here read body = rw (line_is_some None b, group_id_back g here, read, body, lines_listed ms) refl

chain_read : (size : Option ℕ) (ds : Items) (d : Data) (n : ℕ) (l : PLine) → elements_with (step_reading n) (last_reading n) (d ∷ items ds) ≡ Ok l
    → line_reading (suc n) (chain_wire size (item d ds)) ≡ Ok l
chain_read None ds d n l read = rw (read) refl
chain_read (Some s) ds d n l read = rw (read) refl

-- a task in front of further elements
first_then : (n : ℕ) (t : PTask) (d : Data) (ds : List Data) (l : PLine) → task_as false (link_reading n) (line_reading n) (task_wire None t) ≡ Ok t
    → elements_with (step_reading (suc n)) (last_reading (suc n)) (d ∷ ds) ≡ Ok l
    → elements_with (step_reading (suc n)) (last_reading (suc n)) (task_wire None t ∷ d ∷ ds) ≡ Ok (p_step t l)
first_then n t d ds l first others = rw (step_task None t n first, others) refl

-- what is true of a chord's parts
pub record Chord (last : Bool) (g : ℕ) (ms : PLines) (b : PLine) : Type 0 where
  pub here : is_task_number g ≡ true
  pub members : members_ok ms ≡ true
  pub body : line_ok last b ≡ true

pub chord_parts : (last : Bool) (g : ℕ) (ms : PLines) (b : PLine) → line_ok last (p_chord_end g ms b) ≡ true → Chord last g ms b
chord_parts last g ms b ok =
    let p = both (is_task_number g && nat_le (how_many ms) most_members && members_ok ms) (line_ok last b) ok in
    let q = both (is_task_number g && nat_le (how_many ms) most_members) (members_ok ms) p.0 in
    record { here = (both (is_task_number g) (nat_le (how_many ms) most_members) q.0).0; members = q.1; body = p.1 }

-- what is true of a task's parts
pub record Parts (last : Bool) (k : ℕ) (call : Call) (links errbacks : PTasks) (place : PPlace) : Type 0 where
  pub here : is_task_number k ≡ true
  pub called : CallFits call
  pub linked : tasks_ok links ≡ true
  pub failing : tasks_ok errbacks ≡ true
  pub placed : place_ok last place ≡ true

pub task_parts : (last : Bool) (k : ℕ) (call : Call) (links errbacks : PTasks) (place : PPlace) → task_ok last (p_task k call links errbacks place) ≡ true
    → Parts last k call links errbacks place
task_parts last k call links errbacks place ok =
    let p = both (is_task_number k && call_ok call && tasks_ok links && tasks_ok errbacks) (place_ok last place) ok in
    let q = both (is_task_number k && call_ok call && tasks_ok links) (tasks_ok errbacks) p.0 in
    let r = both (is_task_number k && call_ok call) (tasks_ok links) q.0 in
    let s = both (is_task_number k) (call_ok call) r.0 in
    record { here = s.0; called = call_fits call s.1; linked = r.1; failing = q.1; placed = p.1 }

mutual
  pub task_back : (n c : ℕ) (last linked : Bool) (size : Option ℕ) (t : PTask) → task_ok last t ≡ true → task_reach c t ≤ suc n
      → task_as linked (link_reading n) (line_reading n) (task_wire size t) ≡ Ok t
  task_back n c last linked size (p_task k call links errbacks place) ok low =
      let p = task_parts last k call links errbacks place ok in
      task_read linked size call k links errbacks place (link_reading n) (line_reading n) p.here p.called
      (tasks_back n links p.linked (omega arith)) (tasks_back n errbacks p.failing (omega arith)) (place_back n last place p.placed (omega arith))

  pub tasks_back : (n : ℕ) (ts : PTasks) → tasks_ok ts ≡ true → tasks_reach ts ≤ n → in_turn (link_reading n) (items (tasks_wire ts)) ≡ Ok (listed_tasks ts)
  tasks_back n no_p_tasks ok low = refl
  tasks_back zero (and_p_task (p_task k call links errbacks place) ts) ok low = absurd (omega arith)
  tasks_back (suc n) (and_p_task t ts) ok low =
      let p = both (task_ok false t) (tasks_ok ts) ok in
      rw (task_back n 0 false true None t p.0 (omega arith), tasks_back (suc n) ts p.1 (omega arith)) refl

  pub place_back : (n : ℕ) (last : Bool) (p : PPlace) → place_ok last p ≡ true → place_reach p ≤ n
      → place_with (line_reading n) (place_id p) (carried_wire p) ≡ Ok p
  place_back n last p_nowhere ok low = refl
  place_back n last (p_group g) ok low = group_place (line_reading n) g (both last (is_task_number g) ok).1
  place_back n last (p_chord g size body) ok low =
      let p = both (last && is_task_number g && size_ok size) (line_ok true body) ok in
      let q = both (last && is_task_number g) (size_ok size) p.0 in
      chord_place (line_reading n) g size body (both last (is_task_number g) q.0).1 q.1 (line_back n 0 true (Some size) body p.1 low)

  pub line_back : (n c : ℕ) (last : Bool) (size : Option ℕ) (l : PLine) → line_ok last l ≡ true → line_reach c l ≤ n → line_reading n (line_wire size l) ≡ Ok l
  line_back n c last size p_stop ok low = absurd cc
  line_back zero c last size (p_step (p_task k call links errbacks place) p_stop) ok low = absurd (omega arith)
  line_back (suc n) c last size (p_step t p_stop) ok low = alone size t n (task_back n c last false size t ok low)
  line_back zero c last size (p_step t (p_step u l)) ok low = absurd (omega arith)
  line_back (suc zero) c last size (p_step (p_task k call links errbacks place) (p_step u l)) ok low = absurd (omega arith)
  line_back (suc (suc n)) c last size (p_step t (p_step u l)) ok low =
      let p = both (task_ok false t) (line_ok last (p_step u l)) ok in
      chain_read size (elements_wire (p_step u l)) (task_wire None t) (suc n) (p_step t (p_step u l))
      (first_then n t (task_wire None u) (items (elements_wire l)) (p_step u l) (task_back n 0 false false None t p.0 (omega arith))
      (elements_back (suc n) c last (p_step u l) p.1 (omega arith)))
  line_back zero c last size (p_step t (p_group_end g ms)) ok low = absurd (omega arith)
  line_back (suc zero) c last size (p_step (p_task k call links errbacks place) (p_group_end g ms)) ok low = absurd (omega arith)
  line_back (suc (suc n)) c last size (p_step t (p_group_end g ms)) ok low =
      let p = both (task_ok false t) (line_ok last (p_group_end g ms)) ok in
      chain_read size (elements_wire (p_group_end g ms)) (task_wire None t) (suc n) (p_step t (p_group_end g ms))
      (first_then n t (group_wire None g (members_wire ms)) [] (p_group_end g ms) (task_back n 0 false false None t p.0 (omega arith))
      (elements_back (suc n) c last (p_group_end g ms) p.1 (omega arith)))
  line_back zero c last size (p_step t (p_chord_end g ms b)) ok low = absurd (omega arith)
  line_back (suc zero) c last size (p_step (p_task k call links errbacks place) (p_chord_end g ms b)) ok low = absurd (omega arith)
  line_back (suc (suc n)) c last size (p_step t (p_chord_end g ms b)) ok low =
      let p = both (task_ok false t) (line_ok last (p_chord_end g ms b)) ok in
      chain_read size (elements_wire (p_chord_end g ms b)) (task_wire None t) (suc n) (p_step t (p_chord_end g ms b))
      (first_then n t (chord_wire None g (members_wire ms) (line_wire None b)) [] (p_chord_end g ms b) (task_back n 0 false false None t p.0 (omega arith))
      (elements_back (suc n) c last (p_chord_end g ms b) p.1 (omega arith)))
  line_back zero c last size (p_group_end g ms) ok low = absurd (omega arith)
  line_back (suc n) c last size (p_group_end g ms) ok low =
      let p = both (is_task_number g) (members_ok ms) ok in
      alone_group size g ms n p.0 (members_back n 0 ms p.1 (omega arith))
  line_back zero c last size (p_chord_end g ms b) ok low = absurd (omega arith)
  line_back (suc n) c last size (p_chord_end g ms b) ok low =
      let p = chord_parts last g ms b ok in
      alone_chord size g ms b n p.here (members_back n (line_reach c b) ms p.members (omega arith)) (line_back n c last None b p.body (omega arith))

  pub elements_back : (n c : ℕ) (last : Bool) (l : PLine) → line_ok last l ≡ true → greatest_reach c l ≤ n
      → elements_with (step_reading n) (last_reading n) (items (elements_wire l)) ≡ Ok l
  elements_back n c last p_stop ok low = absurd cc
  elements_back zero c last (p_step (p_task k call links errbacks place) p_stop) ok low = absurd (omega arith)
  elements_back (suc n) c last (p_step t p_stop) ok low = last_task None t n (task_back n c last false None t ok low)
  elements_back zero c last (p_step (p_task k call links errbacks place) (p_step u l)) ok low = absurd (omega arith)
  elements_back (suc n) c last (p_step t (p_step u l)) ok low =
      let p = both (task_ok false t) (line_ok last (p_step u l)) ok in
      first_then n t (task_wire None u) (items (elements_wire l)) (p_step u l) (task_back n 0 false false None t p.0 (omega arith))
      (elements_back (suc n) c last (p_step u l) p.1 (omega arith))
  elements_back zero c last (p_step (p_task k call links errbacks place) (p_group_end g ms)) ok low = absurd (omega arith)
  elements_back (suc n) c last (p_step t (p_group_end g ms)) ok low =
      let p = both (task_ok false t) (line_ok last (p_group_end g ms)) ok in
      first_then n t (group_wire None g (members_wire ms)) [] (p_group_end g ms) (task_back n 0 false false None t p.0 (omega arith))
      (elements_back (suc n) c last (p_group_end g ms) p.1 (omega arith))
  elements_back zero c last (p_step (p_task k call links errbacks place) (p_chord_end g ms b)) ok low = absurd (omega arith)
  elements_back (suc n) c last (p_step t (p_chord_end g ms b)) ok low =
      let p = both (task_ok false t) (line_ok last (p_chord_end g ms b)) ok in
      first_then n t (chord_wire None g (members_wire ms) (line_wire None b)) [] (p_chord_end g ms b) (task_back n 0 false false None t p.0 (omega arith))
      (elements_back (suc n) c last (p_chord_end g ms b) p.1 (omega arith))
  elements_back zero c last (p_group_end g ms) ok low = absurd (omega arith)
  elements_back (suc n) c last (p_group_end g ms) ok low =
      let p = both (is_task_number g) (members_ok ms) ok in
      last_group None g ms n p.0 (members_back n 0 ms p.1 (omega arith))
  elements_back zero c last (p_chord_end g ms b) ok low = absurd (omega arith)
  elements_back (suc n) c last (p_chord_end g ms b) ok low =
      let p = chord_parts last g ms b ok in
      last_chord None g ms b n p.here (members_back n (line_reach c b) ms p.members (omega arith)) (line_back n c last None b p.body (omega arith))

  members_back : (n c : ℕ) (ms : PLines) → members_ok ms ≡ true → members_reach c ms ≤ n
      → in_turn (line_reading n) (items (members_wire ms)) ≡ Ok (listed_lines ms)
  members_back n c no_p_lines ok low = refl
  members_back n c (and_p_line m ms) ok low =
      let p = both (line_ok false m && not (in_group (strip m))) (members_ok ms) ok in
      rw (line_back n c false None m (both (line_ok false m) (not (in_group (strip m))) p.0).0 (omega arith), members_back n c ms p.1 (omega arith)) refl

pub step_back : (n : ℕ) (t : PTask) → task_ok false t ≡ true → task_reach 0 t ≤ n → step_reading n (task_wire None t) ≡ Ok t
step_back zero (p_task k call links errbacks place) ok low = absurd (omega arith)
step_back (suc n) t ok low = step_task None t n (task_back n 0 false false None t ok low)
