-- The effects of a task's end, of the completion of a header, and of the start of a plan: the jobs
-- of a worker (Celery user guide, Canvas; the chord rule of Celery's Redis backend: the member that
-- is returned last has the body applied to the results). They are defined once, as jobs in file
-- order (`enter`), and then sorted into stores, messages and a part.
use Rattle.std.specs.Prelude.{ℕ, List, [], ◌∷◌, ◌++◌, map, Option, Some, None}
use Rattle.canvas_task.specs.declared.outcome.Fault.{Fault}
use Rattle.canvas_task.specs.declared.outcome.Fault.TheVariants as fault
use Rattle.canvas_task.specs.declared.outcome.Outcome.{Outcome}
use Rattle.canvas_task.specs.declared.outcome.Outcome.TheVariants.{Success, Failure}
use Rattle.canvas_task.specs.Apply.{Behaviour}
use Rattle.canvas_semantics.specs.Evaluation as eval
use Rattle.canvas_semantics.specs.Line.{Line}
use Rattle.canvas_rewrite.specs.FrozenView.{PCarried}
use Rattle.canvas_semantics.specs.PlacedLine.{PTask, p_task, PTasks, no_p_tasks, and_p_task, PPlace, p_nowhere, p_group, p_chord, PLine, p_stop, p_step, p_group_end, p_chord_end, PLines, no_p_lines, and_p_line, bare}
use Rattle.canvas_envelope.specs.Content.{Content, line, number_of, call_of, links_of, errbacks_of, place_of}
use Rattle.canvas_envelope.specs.Fits.{how_many}
use Rattle.canvas_effects.specs.Flowing.{Input, no_input, number_input, list_input, id_input, LineFlow, run, skips, raise, given, after_outcome, parent_for}
use Rattle.canvas_effects.specs.Job as job
use Rattle.canvas_effects.specs.Job.{Job, store, publish}
use Rattle.canvas_effects.specs.Ordered.{in_order}
use Rattle.canvas_effects.specs.Placing.{last_at, placed, end_place, last_task}

abbrev pub Jobs : Type 0
Jobs = List (Job Content PCarried Outcome)

-- the outcome of the call of a message
abbrev pub outcome_of : Behaviour → Content → Outcome
outcome_of behaviour c = behaviour (call_of c.own).name (call_of c.own).args (call_of c.own).kwargs

-- ---- messages

-- the message of a task that is run with an input, and that a rest follows
abbrev pub message : Option ℕ → PTask → Input → PLine → Content
message u t x rest =
    record {
      parent = parent_for u x;
      own = p_task (number_of t) (given (call_of t) x) (links_of t) (errbacks_of t) (place_of t);
      rest = rest;
    }

-- the messages of links or error callbacks
abbrev pub callbacks : PTasks → Input → Option ℕ → Jobs
callbacks no_p_tasks x u = []
callbacks (and_p_task t ts) x u = publish (message u t x p_stop) ∷ callbacks ts x u

-- ---- the effects of a flow into a line

-- a line's end whose place is in a chord returns a part of it
abbrev pub part_of : PPlace → ℕ → Jobs
part_of p_nowhere k = []
part_of (p_group g) k = []
part_of (p_chord g size body) k = job.part g k (record { size = size; body = body }) ∷ []

-- The exception with which a line's last task fails, if one is raised in the line. In the body
-- after a header it is the ChordError that names the first member's last task.
abbrev mutual
  pub fault_at_end : PLine → Fault → Fault
  fault_at_end p_stop f = f
  fault_at_end (p_step t rest) f = f
  fault_at_end (p_group_end g ms) f = f
  fault_at_end (p_chord_end g ms body) f = fault_at_end body (fault_behind ms f)

  pub fault_behind : PLines → Fault → Fault
  fault_behind no_p_lines f = f
  fault_behind (and_p_line m ms) f = fault.Chord (last_task 0 m) (eval.why_of (fault_at_end m f))

-- an empty header starts its body at once
abbrev pub when_empty : {A : Type 0} → PLines → List A → List A
when_empty no_p_lines xs = xs
when_empty (and_p_line m ms) xs = []

-- The jobs that are done at once if x flows into a line after task k whose end goes to p, in file
-- order. u is the task whose end it is, if any: there is none for the first messages, nor for those
-- of a body that a completed header starts.
--
-- An input publishes the message of the line's first task, with all that follows. A group or header
-- passes the input to each member, whose last task gets the place in it. If the header is empty,
-- the body is entered at once, with the empty list.
--
-- An exception that skips stores each task of the line as failed, in bodies and members too, and
-- publishes no callback.
--
-- An exception that is raised in the line stores its first task as failed, publishes that task's
-- error callbacks, and skips the rest. A group or header passes it to each member, and nothing is
-- counted there. In the body after that header it is raised as a ChordError (`fault_behind`), but
-- after an empty header as it is.
--
-- The end of the line returns its part of a chord, if that chord's header runs: at once if nothing
-- follows the task, or if the line was skipped.
abbrev mutual
  pub enter : PLine → LineFlow → PPlace → ℕ → Option ℕ → Jobs
  enter p_stop x p k u = part_of p k
  enter (p_step t rest) (run x) p k u =
      publish (message u (last_at p t rest) x (placed p rest)) ∷ []
  enter (p_step t rest) (skips f) p k u =
      store (number_of t) (Failure f) ∷ enter rest (skips f) p (number_of t) u
  enter (p_step t rest) (raise f) p k u =
      store (number_of t) (Failure f)
      ∷ (callbacks (errbacks_of t) (id_input (number_of t)) u
      ++ enter rest (skips f) p (number_of t) u)
  enter (p_group_end g ms) x p k u = enter_all ms x (p_group g) u
  enter (p_chord_end g ms body) (run x) p k u =
      enter_all ms (run x) (p_chord g (how_many ms) (placed p body)) u
      ++ when_empty ms (enter body (run (list_input [])) p 0 u)
  enter (p_chord_end g ms body) (skips f) p k u =
      enter_all ms (skips f) p_nowhere u ++ enter body (skips f) p 0 u
  enter (p_chord_end g ms body) (raise f) p k u =
      enter_all ms (raise f) p_nowhere u ++ enter body (raise (fault_behind ms f)) p 0 u

  pub enter_all : PLines → LineFlow → PPlace → Option ℕ → Jobs
  enter_all no_p_lines x p u = []
  enter_all (and_p_line m ms) x p u = enter m x p 0 u ++ enter_all ms x p u

-- ---- effects

pub record Part : Type 0 where
  pub chord : ℕ
  pub task : ℕ
  pub carried : PCarried

-- stores and messages in the order of their tasks' numbers, and at most one part
pub record Effect : Type 0 where
  pub stores : List (ℕ × Outcome)
  pub messages : List Content
  pub part : Option Part

abbrev pub stores_in : Jobs → List (ℕ × Outcome)
stores_in [] = []
stores_in (store k o ∷ js) = (k, o) ∷ stores_in js
stores_in (publish m ∷ js) = stores_in js
stores_in (job.part g k c ∷ js) = stores_in js

abbrev pub messages_in : Jobs → List Content
messages_in [] = []
messages_in (store k o ∷ js) = messages_in js
messages_in (publish m ∷ js) = m ∷ messages_in js
messages_in (job.part g k c ∷ js) = messages_in js

abbrev pub part_in : Jobs → Option Part
part_in [] = None
part_in (store k o ∷ js) = part_in js
part_in (publish m ∷ js) = part_in js
part_in (job.part g k c ∷ js) = Some (record { chord = g; task = k; carried = c })

abbrev pub effect_of : Jobs → Effect
effect_of js =
    record {
      stores = in_order (λ e. e.0) (stores_in js);
      messages = in_order (λ m. number_of m.own) (messages_in js);
      part = part_in js;
    }

-- links after a success, error callbacks after a failure
abbrev pub called : PTasks → PTasks → ℕ → Outcome → Jobs
called links errbacks k (Success n) = callbacks links (number_input n) (Some k)
called links errbacks k (Failure f) = callbacks errbacks (id_input k) (Some k)

-- the end of a message's task; its own outcome is stored before
abbrev pub after : Content → Outcome → Effect
after c o =
    let k : ℕ = number_of c.own in
    effect_of (called (links_of c.own) (errbacks_of c.own) k o
    ++ enter c.rest (after_outcome o) (end_place (line c)) k (Some k))

-- the input of a body, from the outcomes of the header's members: the list of their numbers, or the
-- ChordError of the first that failed. Nothing else is gathered
abbrev pub into_body : eval.Flow → LineFlow
into_body (eval.list ns) = run (list_input ns)
into_body (eval.raised f) = raise f
into_body x = run no_input

abbrev pub header_flow : List (ℕ × Outcome) → LineFlow
header_flow es = into_body (eval.gathered (map (λ e. (e.0, Some e.1)) es))

-- the completion of a header, from the outcomes of its members' last tasks in order, and from what
-- they carry
abbrev pub body_after : PCarried → List (ℕ × Outcome) → Effect
body_after c es = effect_of (enter c.body (header_flow es) (end_place c.body) 0 None)

-- the start of a plan
abbrev pub at_start : Line → Effect
at_start l = effect_of (enter (bare l) (run no_input) p_nowhere 0 None)

abbrev pub first_messages : Line → List Content
first_messages l = (at_start l).messages

-- the jobs of an effect: a worker stores first, then publishes, then returns the part
abbrev pub part_jobs : Option Part → Jobs
part_jobs None = []
part_jobs (Some p) = job.part p.chord p.task p.carried ∷ []

abbrev pub script : Effect → Jobs
script e =
    map (λ s. store s.0 s.1) e.stores ++ (map (λ m. publish m) e.messages ++ part_jobs e.part)
