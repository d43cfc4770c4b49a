-- Each message that evaluating a plan publishes fits, and its texts are UTF-8.
use Rattle.std.proofs.Common.{◌≡◌, ◌∙◌, ℕ, List, [], ◌∷◌, ◌++◌, Bool, true, false, Option, refl, sym, ap, subst}
use Rattle.std.specs.Prelude.{ℤ, if◌then◌else◌}
use Rattle.std.specs.List.{list_all}
use Rattle.canvas_task.specs.Apply.{Behaviour, IsInRange, AnswersInRange}
use Rattle.canvas_task.specs.Identifiers.{task_text}
use Rattle.canvas_task.specs.Numbers.{in_range}
use Rattle.canvas_task.specs.declared.arg.Arg.{Arg}
use Rattle.canvas_task.specs.declared.arg.Arg.TheVariants as arg
use Rattle.canvas_task.specs.declared.outcome.Outcome.{Outcome}
use Rattle.canvas_task.specs.declared.outcome.Outcome.TheVariants.{Success, Failure}
use Rattle.canvas_semantics.specs.Evaluation.{arguments}
use Rattle.canvas_semantics.specs.Line.{Line, stop, step, group_end, chord_end, Lines, no_lines, and_line, members, no_of}
use Rattle.canvas_semantics.specs.PlacedLine.{PTask, p_task, PPlace, p_nowhere, p_group, p_chord, PLine, p_stop, p_step, p_group_end, p_chord_end, and_p_line, bare, all_bare, bare_task, bare_tasks}
use Rattle.canvas_semantics.specs.Tree.{Call, Task, task, Tasks, no_tasks, and_task}
use Rattle.canvas_rewrite.specs.FrozenView.{PCarried, p_lines_of}
use Rattle.canvas_rewrite.specs.Planned.{IsPlan}
use Rattle.canvas_rewrite.specs.Utf8.{AreUtf8Args, IsUtf8Task, AreUtf8Tasks, IsUtf8Line, AreUtf8Lines}
use Rattle.canvas_rewrite.proofs.InOrder.{plan_in_order}
use Rattle.canvas_envelope.specs.Content.{Content, call_of}
use Rattle.canvas_envelope.specs.Fits.{fits, parent_ok, how_many}
use Rattle.canvas_envelope.specs.steps.Parts.{is_stop}
use Rattle.canvas_effects.specs.Carrying.{is_whole, can_stand, AllWhole, AllStand, callbacks_ok, input_ok}
use Rattle.canvas_effects.specs.Effects.{message, outcome_of, part_of, header_flow}
use Rattle.canvas_effects.specs.Events.{Event, start, end_of_line, EventJobs, parent_of, labelled, flow_outcome, group_flow, header_place, body_event, input_of_success, chosen, message_of, outcome_with, out, outs, ran, ran_all, events_in_file, items_all, evaluated}
use Rattle.canvas_effects.specs.Flowing.{Input, no_input, number_input, list_input, id_input, input_flow, LineFlow, run, skips, raise, after_outcome}
use Rattle.canvas_effects.specs.Job as job
use Rattle.canvas_effects.specs.Job.{Job}
use Rattle.canvas_effects.specs.Placing.{last_at, place_before, placed}
use Rattle.canvas_effects.proofs.FitsOn.{all_true}
use Rattle.canvas_effects.proofs.PlanStands.{plan_stands, bare_place}
use Rattle.canvas_effects.proofs.Standing.{message_fits, Stepped, first_stepped, called_parts, step_at, keeps_on, rest_whole, group_stands, header_stands, header_whole, body_stands, stands_there}
use Rattle.canvas_runs.specs.Law.{IsRunMessage}
use Rattle.canvas_history.specs.Lists.{Each}
use Rattle.canvas_runs.proofs.Plans.Carrying.{header_same}
use Rattle.canvas_runs.proofs.Plans.Messages.{header, after_member, joined_number}
use Rattle.canvas_codec.proofs.Utf8Messages.{IsUtf8PTask, AreUtf8PTasks, IsUtf8Place, IsUtf8PLine, AreUtf8PLines, IsUtf8Content, task_text_utf8}
use Rattle.canvas_runs.proofs.Lists.Words.{each_append, in_each}

-- ---- texts

mutual
  task_bare : (t : Task) → IsUtf8Task t → IsUtf8PTask (bare_task t)
  task_bare (task k call links errbacks) h = (h.0, tasks_bare links h.1, tasks_bare errbacks h.2, tt)

  tasks_bare : (ts : Tasks) → AreUtf8Tasks ts → AreUtf8PTasks (bare_tasks ts)
  tasks_bare no_tasks h = tt
  tasks_bare (and_task t ts) h = (task_bare t h.0, tasks_bare ts h.1)

mutual
  line_bare : (l : Line) → IsUtf8Line l → IsUtf8PLine (bare l)
  line_bare stop h = tt
  line_bare (step t l) h = (task_bare t h.0, line_bare l h.1)
  line_bare (group_end g ms) h = lines_bare ms h
  line_bare (chord_end g ms b) h = (lines_bare ms h.0, line_bare b h.1)

  lines_bare : (ms : Lines) → AreUtf8Lines ms → AreUtf8PLines (all_bare ms)
  lines_bare no_lines h = tt
  lines_bare (and_line m ms) h = (line_bare m h.0, lines_bare ms h.1)

place_before_utf8 : (l : PLine) (own p : PPlace) → IsUtf8Place own → IsUtf8Place p → IsUtf8Place (place_before l own p)
place_before_utf8 p_stop own p h k = k
place_before_utf8 (p_step t l) own p h k = h
place_before_utf8 (p_group_end g ms) own p h k = h
place_before_utf8 (p_chord_end g ms b) own p h k = h

last_utf8 : (p : PPlace) (t : PTask) (l : PLine) → IsUtf8Place p → IsUtf8PTask t → IsUtf8PTask (last_at p t l)
last_utf8 p (p_task k call links errbacks place) l h t = (t.0, t.1, t.2, place_before_utf8 l place p t.3 h)

placed_utf8 : (p : PPlace) (l : PLine) → IsUtf8Place p → IsUtf8PLine l → IsUtf8PLine (placed p l)
placed_utf8 p p_stop h k = tt
placed_utf8 p (p_step t l) h k = (last_utf8 p t l h k.0, placed_utf8 p l h k.1)
placed_utf8 p (p_group_end g ms) h k = k
placed_utf8 p (p_chord_end g ms b) h k = (k.0, placed_utf8 p b h k.1)

-- an input in front of the arguments
as_they_are : (immutable : Bool) (args : List Arg) → AreUtf8Args args → AreUtf8Args (if immutable then args else args)
as_they_are true args h = h
as_they_are false args h = h

in_front : (immutable : Bool) (a : Arg) (args : List Arg) → AreUtf8Args (a ∷ args)
    → AreUtf8Args (if immutable then args else a ∷ args)
in_front true a args h = h.1
in_front false a args h = h

args_given : (c : Call) (x : Input) → AreUtf8Args c.args → AreUtf8Args (arguments c (input_flow x))
args_given c no_input h = as_they_are c.immutable c.args h
args_given c (number_input n) h = in_front c.immutable (arg.Num n) c.args (tt, h)
args_given c (list_input ns) h = in_front c.immutable (arg.List ns) c.args (tt, h)
args_given c (id_input k) h = in_front c.immutable (arg.Text (task_text k)) c.args (task_text_utf8 k, h)

message_utf8 : (u : Option ℕ) (t : PTask) (x : Input) (l : PLine) → IsUtf8PTask t → IsUtf8PLine l
    → IsUtf8Content (message u t x l)
message_utf8 u (p_task k call links errbacks place) x l t h = record {
  own = (record { name = t.0.name; args = args_given call x t.0.args; kwargs = t.0.kwargs }, t.1, t.2, t.3);
  rest = h;
}

-- ---- numbers

abbrev IsFlowInRange : LineFlow → Type 0
IsFlowInRange (run x) = input_ok x ≡ true
IsFlowInRange (skips f) = Unit {0}
IsFlowInRange (raise f) = Unit {0}

abbrev AreInRange : List (ℕ × Outcome) → Type 0
AreInRange es = Each (λ (e : ℕ × Outcome). IsInRange e.1) es

after_in_range : (o : Outcome) → IsInRange o → IsFlowInRange (after_outcome o)
after_in_range (Success n) h = h
after_in_range (Failure f) h = tt

outcome_in_range : (x : LineFlow) → IsFlowInRange x → IsInRange (flow_outcome x)
outcome_in_range (run no_input) h = refl
outcome_in_range (run (number_input n)) h = h
outcome_in_range (run (list_input ns)) h = refl
outcome_in_range (run (id_input k)) h = refl
outcome_in_range (skips f) h = tt
outcome_in_range (raise f) h = tt

joined_in_range : (n : ℤ) (x : LineFlow) → in_range n ≡ true → IsFlowInRange x → IsFlowInRange (joined_number n x)
joined_in_range n (run no_input) i h = h
joined_in_range n (run (number_input m)) i h = h
joined_in_range n (run (list_input ns)) i h = all_true (in_range n) (list_all in_range ns) i h
joined_in_range n (run (id_input k)) i h = h
joined_in_range n (skips f) i h = tt
joined_in_range n (raise f) i h = tt

member_in_range : (t : ℕ) (o : Outcome) (x : LineFlow) → IsInRange o → IsFlowInRange x
    → IsFlowInRange (after_member t o x)
member_in_range t (Success n) x i h = joined_in_range n x i h
member_in_range t (Failure f) x i h = tt

gathered_in_range : (es : List (ℕ × Outcome)) → AreInRange es → IsFlowInRange (header es)
gathered_in_range [] h = refl
gathered_in_range (e ∷ es) h = member_in_range e.0 e.1 (header es) h.0 (gathered_in_range es h.1)

header_in_range : (es : List (ℕ × Outcome)) → AreInRange es → IsFlowInRange (header_flow es)
header_in_range es h = subst IsFlowInRange (sym (header_same es)) (gathered_in_range es h)

group_in_range : (x : LineFlow) (es : List (ℕ × Outcome)) → AreInRange es → IsFlowInRange (group_flow x es)
group_in_range (run x) es h = header_in_range es h
group_in_range (skips f) es h = tt
group_in_range (raise f) [] h = tt
group_in_range (raise f) (e ∷ es) h = header_in_range (e ∷ es) h

-- ---- what a message can contain

abbrev bares : Lines → List PLine
bares no_lines = []
bares (and_line m ms) = bare m ∷ bares ms

bares_are : (ms : Lines) → all_bare ms ≡ p_lines_of (bares ms)
bares_are no_lines = refl
bares_are (and_line m ms) = ap (and_p_line (bare m)) (bares_are ms)

-- a message can contain a line that is not empty, if its end goes to p
abbrev Stands : Line → PPlace → Type 0
Stands l p = is_stop (bare l) ≡ false → can_stand (bare l) p ≡ true

-- a message can contain a line with no place in it whose end goes nowhere
bare_stands : (l : Line) → is_whole (bare l) ≡ true → can_stand (bare l) p_nowhere ≡ true
bare_stands l h = subst (λ p. can_stand (bare l) p ≡ true) (bare_place l) (stands_there (bare l) h)

all_stand : (ms : Lines) → AllWhole (bares ms) → AllStand p_nowhere (bares ms)
all_stand no_lines h = tt
all_stand (and_line m ms) h = (bare_stands m h.0, all_stand ms h.1)

-- the line that follows a task
rest_stands : (t : Task) (l : Line) (p : PPlace) → can_stand (bare (step t l)) p ≡ true → Stands l p
rest_stands t l p h more =
    rest_whole (bare_task t) (placed p (bare l)) (keeps_on p (bare l) more)
    (ap is_whole (sym (step_at p (bare_task t) (bare l) more)) ∙ h)

group_members : (g : ℕ) (ms : Lines) (p : PPlace) → can_stand (bare (group_end g ms)) p ≡ true
    → AllStand (p_group g) (bares ms)
group_members g ms p h =
    group_stands g (bares ms) p (ap (λ ls. can_stand (p_group_end g ls) p) (sym (bares_are ms)) ∙ h)

-- where the end of a header's members goes
header_stand : (g : ℕ) (ms : Lines) (b : Line) (p : PPlace) → can_stand (bare (chord_end g ms b)) p ≡ true
    → AllStand (p_chord g (how_many (all_bare ms)) (placed p (bare b))) (bares ms)
header_stand g no_lines b p h = tt
header_stand g (and_line m ms) b p h =
    let same = bares_are (and_line m ms) in
    subst (λ ls. AllStand (p_chord g (how_many ls) (placed p (bare b))) (bares (and_line m ms))) (sym same)
    (header_stands g (bare m) (bares ms) (bare b) p (ap (λ ls. can_stand (p_chord_end g ls (bare b)) p) (sym same) ∙ h))

skipped_stand : (g : ℕ) (ms : Lines) (b : Line) (p : PPlace) → can_stand (bare (chord_end g ms b)) p ≡ true
    → AllStand p_nowhere (bares ms)
skipped_stand g ms b p h =
    all_stand ms (header_whole g (bares ms) (placed p (bare b))
    (ap (λ ls. can_stand (p_chord_end g ls (bare b)) p) (sym (bares_are ms)) ∙ h))

header_place_stands : (x : LineFlow) (g : ℕ) (ms : Lines) (b : Line) (p : PPlace)
    → can_stand (bare (chord_end g ms b)) p ≡ true
    → AllStand (header_place x g ms b p) (bares ms)
header_place_stands (run x) g ms b p h = header_stand g ms b p h
header_place_stands (skips f) g ms b p h = skipped_stand g ms b p h
header_place_stands (raise f) g ms b p h = skipped_stand g ms b p h

header_place_utf8 : (x : LineFlow) (g : ℕ) (ms : Lines) (b : Line) (p : PPlace) → IsUtf8Line b → IsUtf8Place p
    → IsUtf8Place (header_place x g ms b p)
header_place_utf8 (run x) g ms b p h k = placed_utf8 p (bare b) k (line_bare b h)
header_place_utf8 (skips f) g ms b p h k = tt
header_place_utf8 (raise f) g ms b p h k = tt

-- the task whose end publishes
abbrev HasParent : Event → Type 0
HasParent v = parent_ok (parent_of v) ≡ true

body_parent : (x : LineFlow) (ms : Lines) (g : ℕ) (v : Event) → HasParent v → HasParent (body_event x ms g v)
body_parent (run x) no_lines g v h = h
body_parent (run x) (and_line m ms) g v h = refl
body_parent (skips f) ms g v h = h
body_parent (raise f) ms g v h = h

-- ---- what is published

pub record IsGood (c : Content) : Type 0 where
  pub fit : fits c ≡ true
  pub utf8 : IsUtf8Content c

abbrev GoodJob : Job Content PCarried Outcome → Type 0
GoodJob (job.publish c) = IsGood c
GoodJob (job.store k o) = Unit {0}
GoodJob (job.part g k c) = Unit {0}

abbrev GoodEvent : Event × Job Content PCarried Outcome → Type 0
GoodEvent e = GoodJob e.1

abbrev AllGood : EventJobs → Type 0
AllGood js = Each GoodEvent js

good_append : (js ks : EventJobs) → AllGood js → AllGood ks → AllGood (js ++ ks)
good_append js ks h k = each_append GoodEvent js ks h k

part_good : (v : Event) (p : PPlace) (k : ℕ) → AllGood (labelled v (part_of p k))
part_good v p_nowhere k = tt
part_good v (p_group g) k = tt
part_good v (p_chord g size body) k = (tt, tt)

-- of the links, which run on a number, and the error callbacks
chosen_good : (o : Outcome) (f : Input → EventJobs) (es : EventJobs) → IsInRange o
    → ((x : Input) → input_ok x ≡ true → AllGood (f x)) → AllGood es
    → AllGood (chosen o (f (input_of_success o)) es)
chosen_good (Success n) f es i h k = h (number_input n) i
chosen_good (Failure e) f es i h k = k

at_nowhere : (t : Task) → last_at p_nowhere (bare_task t) p_stop ≡ bare_task t
at_nowhere (task k call links errbacks) = refl

message_good : (t : Task) (x : Input) (v : Event) (l : Line) (p : PPlace) → IsUtf8Task t → IsUtf8Line l → IsUtf8Place p
    → input_ok x ≡ true → HasParent v
    → can_stand (bare (step t l)) p ≡ true → IsGood (message_of t x v l p)
message_good t x v l p ht hl hp hx hv h = record {
  fit = message_fits (parent_of v) (last_at p (bare_task t) (bare l)) x (placed p (bare l)) hv hx h;
  utf8 =
      message_utf8 (parent_of v) (last_at p (bare_task t) (bare l)) x (placed p (bare l))
      (last_utf8 p (bare_task t) (bare l) hp (task_bare t ht))
      (placed_utf8 p (bare l) hp (line_bare l hl));
}

its_own : (k : ℕ) (call : Call) (links errbacks : Tasks) (l : Line) (p : PPlace)
    → can_stand (bare (step (task k call links errbacks) l)) p ≡ true
    → Stepped (last_at p (bare_task (task k call links errbacks)) (bare l))
its_own k call links errbacks l p h =
    first_stepped (last_at p (bare_task (task k call links errbacks)) (bare l)) (placed p (bare l)) h

module _ (behaviour : Behaviour) (range : AnswersInRange behaviour) where
  outcome_ranges : (c : Content) → IsInRange (outcome_of behaviour c)
  outcome_ranges c = range (call_of c.own).name (call_of c.own).args (call_of c.own).kwargs

  with_in_range : (t : Task) (x : Input) → IsInRange (outcome_with behaviour t x)
  with_in_range t x = outcome_ranges (message_of t x start stop p_nowhere)

  mutual
    out_in_range : (l : Line) (x : LineFlow) → IsFlowInRange x → IsFlowInRange (out behaviour l x)
    out_in_range stop x h = h
    out_in_range (step t l) (run x) h =
        out_in_range l (after_outcome (outcome_with behaviour t x))
        (after_in_range (outcome_with behaviour t x) (with_in_range t x))
    out_in_range (step t l) (skips f) h = out_in_range l (skips f) tt
    out_in_range (step t l) (raise f) h = out_in_range l (skips f) tt
    out_in_range (group_end g ms) x h = h
    out_in_range (chord_end g ms b) x h =
        out_in_range b (group_flow x (outs behaviour ms x))
        (group_in_range x (outs behaviour ms x) (outs_in_range ms x h))

    outs_in_range : (ms : Lines) (x : LineFlow) → IsFlowInRange x → AreInRange (outs behaviour ms x)
    outs_in_range no_lines x h = tt
    outs_in_range (and_line m ms) x h =
        (outcome_in_range (out behaviour m x) (out_in_range m x h), outs_in_range ms x h)

  mutual
    ran_good : (t : Task) (x : Input) (v : Event) (l : Line) (p : PPlace) → IsUtf8Task t → IsUtf8Line l → IsUtf8Place p
        → input_ok x ≡ true → HasParent v
        → can_stand (bare (step t l)) p ≡ true → AllGood (ran behaviour t x v l p)
    ran_good (task k call links errbacks) x v l p ht hl hp hx hv h =
        let own = its_own k call links errbacks l p h in
        let m : Content = message_of (task k call links errbacks) x v l p in (
          message_good (task k call links errbacks) x v l p ht hl hp hx hv h,
          (
            tt,
            chosen_good (outcome_of behaviour m) (λ y. ran_all behaviour links y (end_of_line k))
                (ran_all behaviour errbacks (id_input k) (end_of_line k))
                (outcome_ranges m) (λ y i. all_ran_good links y (end_of_line k) ht.1 i own.numbered own.linked)
                (all_ran_good errbacks (id_input k) (end_of_line k) ht.2 own.numbered own.numbered own.called_back),
          ),
        )

    all_ran_good : (ts : Tasks) (x : Input) (v : Event) → AreUtf8Tasks ts → input_ok x ≡ true → HasParent v
        → callbacks_ok (bare_tasks ts) ≡ true
        → AllGood (ran_all behaviour ts x v)
    all_ran_good no_tasks x v hts hx hv h = tt
    all_ran_good (and_task t ts) x v hts hx hv h =
        let parts = called_parts (bare_task t) (bare_tasks ts) h in
        good_append (ran behaviour t x v stop p_nowhere) (ran_all behaviour ts x v)
        (ran_good t x v stop p_nowhere hts.0 tt tt hx hv
        (ap (λ u. is_whole (p_step u p_stop)) (at_nowhere t) ∙ parts.first))
        (all_ran_good ts x v hts.1 hx hv parts.others)

  mutual
    line_good : (l : Line) (x : LineFlow) (p : PPlace) (k : ℕ) (v : Event) → IsUtf8Line l → IsUtf8Place p
        → IsFlowInRange x → HasParent v → Stands l p
        → AllGood (events_in_file behaviour l x p k v)
    line_good stop x p k v hl hp hx hv h = part_good v p k
    line_good (step (task k call links errbacks) l) (run x) p j v hl hp hx hv h =
        let t : Task = task k call links errbacks in
        good_append (ran behaviour t x v l p) _ (ran_good t x v l p hl.0 hl.1 hp hx hv (h refl))
        (line_good l (after_outcome (outcome_with behaviour t x)) p k (end_of_line k) hl.1 hp
        (after_in_range (outcome_with behaviour t x) (with_in_range t x))
        (its_own k call links errbacks l p (h refl)).numbered (rest_stands t l p (h refl)))
    line_good (step t l) (skips f) p k v hl hp hx hv h =
        (tt, line_good l (skips f) p (no_of t) v hl.1 hp tt hv (rest_stands t l p (h refl)))
    line_good (step (task k call links errbacks) l) (raise f) p j v hl hp hx hv h =
        let own = its_own k call links errbacks l p (h refl) in (
          tt,
          good_append (ran_all behaviour errbacks (id_input k) v) _
              (all_ran_good errbacks (id_input k) v hl.0.2 own.numbered hv own.called_back)
              (line_good l (skips f) p k v hl.1 hp tt hv (rest_stands (task k call links errbacks) l p (h refl))),
        )
    line_good (group_end g ms) x p k v hl hp hx hv h =
        members_good ms x (p_group g) v hl tt hx hv (group_members g ms p (h refl))
    line_good (chord_end g ms b) x p k v hl hp hx hv h =
        good_append (items_all behaviour ms x (header_place x g ms b p) v) _
        (members_good ms x (header_place x g ms b p) v hl.0 (header_place_utf8 x g ms b p hl.1 hp) hx hv
        (header_place_stands x g ms b p (h refl)))
        (line_good b (group_flow x (outs behaviour ms x)) p 0 (body_event x ms g v) hl.1 hp
        (group_in_range x (outs behaviour ms x) (outs_in_range ms x hx)) (body_parent x ms g v hv)
        (λ _. body_stands g (all_bare ms) (bare b) p (h refl)))

    members_good : (ms : Lines) (x : LineFlow) (p : PPlace) (v : Event) → AreUtf8Lines ms → IsUtf8Place p
        → IsFlowInRange x → HasParent v
        → AllStand p (bares ms) → AllGood (items_all behaviour ms x p v)
    members_good no_lines x p v hms hp hx hv h = tt
    members_good (and_line m ms) x p v hms hp hx hv h =
        good_append (events_in_file behaviour m x p 0 v) (items_all behaviour ms x p v)
        (line_good m x p 0 v hms.0 hp hx hv (λ _. h.0))
        (members_good ms x p v hms.1 hp hx hv h.1)

  -- ---- a plan

  plan_good : (l : Line) → IsPlan l → IsUtf8Line l → AllGood (evaluated behaviour l)
  plan_good l plan utf8 =
      line_good l (run no_input) p_nowhere 0 start utf8 tt refl refl
      (λ _. bare_stands l (plan_stands (λ g. members l g) l plan (plan_in_order l plan)))

  pub run_message_good : (l : Line) → IsPlan l → IsUtf8Line l → (c : Content) → IsRunMessage behaviour l c → IsGood c
  run_message_good l plan utf8 c (v, i) =
      in_each GoodEvent (evaluated behaviour l) (plan_good l plan utf8) (v, job.publish c) i
