-- Evaluation with events: everything that is done in a run of a line, each job with the event that
-- does it, in file order (Celery user guide, Canvas; the chord rule of Celery's Redis backend: a
-- header's last part starts the body).
use Rattle.std.specs.Prelude.{ℕ, pos, List, [], ◌∷◌, ◌++◌, Option, Some, None}
use Rattle.canvas_task.specs.Apply.{Behaviour}
use Rattle.canvas_task.specs.declared.outcome.Outcome.{Outcome}
use Rattle.canvas_task.specs.declared.outcome.Outcome.TheVariants.{Success, Failure}
use Rattle.canvas_semantics.specs.Tree.{Task, task, Tasks, no_tasks, and_task}
use Rattle.canvas_semantics.specs.Line.{Line, stop, step, group_end, chord_end, Lines, no_lines, and_line, no_of}
use Rattle.canvas_rewrite.specs.FrozenView.{PCarried}
use Rattle.canvas_semantics.specs.PlacedLine.{PPlace, p_nowhere, p_group, p_chord, bare, all_bare, bare_task}
use Rattle.canvas_envelope.specs.Among.{In}
use Rattle.canvas_envelope.specs.Content.{Content}
use Rattle.canvas_effects.specs.Effects.{Jobs, message, outcome_of, part_of, header_flow}
use Rattle.canvas_envelope.specs.Fits.{how_many}
use Rattle.canvas_effects.specs.Flowing.{Input, no_input, number_input, id_input, LineFlow, run, skips, raise, after_outcome}
use Rattle.canvas_effects.specs.Job.{Job, store, publish}
use Rattle.canvas_effects.specs.Placing.{last_at, placed, last_task}

pub data Event : Type 0 where
  start : Event
  -- the message of a task that runs: its own outcome is stored
  running : (task : ℕ) → Event
  end_of_line : (task : ℕ) → Event
  -- the last part of a chord's header is returned
  completion : (chord : ℕ) → Event

abbrev pub EventJobs : Type 0
EventJobs = List (Event × Job Content PCarried Outcome)

-- the task whose end the event is
abbrev pub parent_of : Event → Option ℕ
parent_of start = None
parent_of (running k) = None
parent_of (end_of_line k) = Some k
parent_of (completion g) = None

abbrev pub labelled : Event → Jobs → EventJobs
labelled v [] = []
labelled v (j ∷ js) = (v, j) ∷ labelled v js

-- a line's last outcome, from the flow out of the line
abbrev pub flow_outcome : LineFlow → Outcome
flow_outcome (run (number_input n)) = Success n
flow_outcome (run x) = Success (pos 0)
flow_outcome (skips f) = Failure f
flow_outcome (raise f) = Failure f

-- the flow out of a group or header, from the flow in and its members' outcomes
abbrev pub group_flow : LineFlow → List (ℕ × Outcome) → LineFlow
group_flow (run x) es = header_flow es
group_flow (skips f) es = skips f
group_flow (raise f) [] = raise f
group_flow (raise f) (e ∷ es) = header_flow (e ∷ es)

-- the place of the ends of a header's members: only a header that runs is counted
abbrev pub header_place : LineFlow → ℕ → Lines → Line → PPlace → PPlace
header_place (run x) g ms body p = p_chord g (how_many (all_bare ms)) (placed p (bare body))
header_place (skips f) g ms body p = p_nowhere
header_place (raise f) g ms body p = p_nowhere

-- the event that starts the body; an empty header starts it at once
abbrev pub body_event : LineFlow → Lines → ℕ → Event → Event
body_event (run x) no_lines g v = v
body_event (run x) (and_line m ms) g v = completion g
body_event (skips f) ms g v = v
body_event (raise f) ms g v = v

abbrev pub input_of_success : Outcome → Input
input_of_success (Success n) = number_input n
input_of_success (Failure f) = no_input

abbrev pub chosen : {A : Type 0} → Outcome → A → A → A
chosen (Success n) x y = x
chosen (Failure f) x y = y

-- the message of a task that is run with an input, and that a rest follows whose end goes to p
abbrev pub message_of : Task → Input → Event → Line → PPlace → Content
message_of t x v rest p =
    message (parent_of v) (last_at p (bare_task t) (bare rest)) x (placed p (bare rest))

-- the outcome of a task that is run with an input
abbrev pub outcome_with : Behaviour → Task → Input → Outcome
outcome_with behaviour t x = outcome_of behaviour (message_of t x start stop p_nowhere)

abbrev pub errbacks_in : Task → Tasks
errbacks_in (task k call links errbacks) = errbacks

module _ (behaviour : Behaviour) where
  abbrev mutual
    -- the flow out of a line
    pub out : Line → LineFlow → LineFlow
    out stop x = x
    out (step t rest) (run x) = out rest (after_outcome (outcome_with behaviour t x))
    out (step t rest) (skips f) = out rest (skips f)
    out (step t rest) (raise f) = out rest (skips f)
    out (group_end g ms) x = x
    out (chord_end g ms body) x = out body (group_flow x (outs ms x))

    -- the outcomes of members' last tasks
    pub outs : Lines → LineFlow → List (ℕ × Outcome)
    outs no_lines x = []
    outs (and_line m ms) x = (last_task 0 (bare m), flow_outcome (out m x)) ∷ outs ms x

  -- a task that runs, with its links or its error callbacks
  abbrev mutual
    pub ran : Task → Input → Event → Line → PPlace → EventJobs
    ran (task k call links errbacks) x v rest p =
        let m : Content = message_of (task k call links errbacks) x v rest p in
        let o : Outcome = outcome_of behaviour m in
        (v, publish m) ∷ (running k, store k o) ∷ chosen o
        (ran_all links (input_of_success o) (end_of_line k))
        (ran_all errbacks (id_input k) (end_of_line k))

    pub ran_all : Tasks → Input → Event → EventJobs
    ran_all no_tasks x v = []
    ran_all (and_task t ts) x v = ran t x v stop p_nowhere ++ ran_all ts x v

  -- everything that follows if x flows, by an event, into a line after task k whose end goes to p
  abbrev mutual
    pub events_in_file : Line → LineFlow → PPlace → ℕ → Event → EventJobs
    events_in_file stop x p k v = labelled v (part_of p k)
    events_in_file (step t rest) (run x) p k v =
        ran t x v rest p
        ++ events_in_file rest (after_outcome (outcome_with behaviour t x)) p (no_of t)
        (end_of_line (no_of t))
    events_in_file (step t rest) (skips f) p k v =
        (v, store (no_of t) (Failure f)) ∷ events_in_file rest (skips f) p (no_of t) v
    events_in_file (step t rest) (raise f) p k v =
        (v, store (no_of t) (Failure f))
        ∷ (ran_all (errbacks_in t) (id_input (no_of t)) v
        ++ events_in_file rest (skips f) p (no_of t) v)
    events_in_file (group_end g ms) x p k v = items_all ms x (p_group g) v
    events_in_file (chord_end g ms body) x p k v =
        items_all ms x (header_place x g ms body p) v
        ++ events_in_file body (group_flow x (outs ms x)) p 0 (body_event x ms g v)

    pub items_all : Lines → LineFlow → PPlace → Event → EventJobs
    items_all no_lines x p v = []
    items_all (and_line m ms) x p v = events_in_file m x p 0 v ++ items_all ms x p v

  -- a whole plan
  abbrev pub evaluated : Line → EventJobs
  evaluated l = events_in_file l (run no_input) p_nowhere 0 start

-- in evaluating the plan, the event does the job
abbrev pub DoesIn : Behaviour → Line → Event → Job Content PCarried Outcome → Type 0
DoesIn behaviour l v j = In (v, j) (evaluated behaviour l)
