-- What one event makes a worker do: the tasks stored, the messages of those run, and at most one part.
use Rattle.std.specs.Prelude.{ℕ, suc, List, [], ◌∷◌, ◌++◌, Option, Some, None}
use Rattle.canvas_effects.specs.Job.{Job, store, publish, part}
use Rattle.canvas_task.specs.Apply.{Behaviour}
use Rattle.canvas_effects.specs.Flowing.{Input, number_input, list_input, id_input, LineFlow, run, skips, raise, given, after_outcome, parent_for}
use Rattle.canvas_semantics.specs.Line.{Line, stop, step, group_end, chord_end, Lines, no_lines, and_line, no_of}
use Rattle.canvas_semantics.specs.Tree.{Task, Tasks, no_tasks, and_task}
use Rattle.canvas_task.specs.declared.outcome.Outcome.{Outcome}
use Rattle.canvas_task.specs.declared.outcome.Outcome.TheVariants.{Success, Failure}
use Rattle.canvas_task.specs.declared.outcome.Fault.{Fault}
use Rattle.canvas_task.specs.declared.outcome.Fault.TheVariants as fault
use Rattle.canvas_semantics.specs.Evaluation.{why_of}
use Rattle.canvas_runs.proofs.Plans.Messages.{Place, nowhere, in_group, in_chord, Carried, carried, call_of, links_of, errbacks_of, lines_length, last_of, Message, header}

abbrev pub Jobs : Type 0
Jobs = List (Job Message Carried Outcome)

-- the fault that a line's last task has where f is raised in the line
abbrev mutual
  pub failed : Line → Fault → Fault
  failed stop f = f
  failed (step t rest) f = f
  failed (group_end g ms) f = f
  failed (chord_end g ms body) f = failed body (header_fault ms f)

  pub header_fault : Lines → Fault → Fault
  header_fault no_lines f = f
  header_fault (and_line m ms) f = fault.Chord (last_of m) (why_of (failed m f))

-- stores, then publishes, then parts
abbrev pub only_store : Job Message Carried Outcome → Jobs
only_store (store t o) = store t o ∷ []
only_store (publish m) = []
only_store (part g t c) = []

abbrev pub only_publish : Job Message Carried Outcome → Jobs
only_publish (store t o) = []
only_publish (publish m) = publish m ∷ []
only_publish (part g t c) = []

abbrev pub only_part : Job Message Carried Outcome → Jobs
only_part (store t o) = []
only_part (publish m) = []
only_part (part g t c) = part g t c ∷ []

abbrev pub picked : (Job Message Carried Outcome → Jobs) → Jobs → Jobs
picked pick [] = []
picked pick (j ∷ js) = pick j ++ picked pick js

abbrev pub by_kind : Jobs → Jobs
by_kind js = picked only_store js ++ (picked only_publish js ++ picked only_part js)

-- where the members of a chord's header go
abbrev pub members_place : ℕ → Lines → Line → Place → Place
members_place g no_lines body p = nowhere
members_place g (and_line m ms) body p = in_chord g (carried (suc (lines_length ms)) body p)

-- an empty header starts its body at once
abbrev pub when_empty : {A : Type 0} → Lines → List A → List A
when_empty no_lines xs = xs
when_empty (and_line m ms) xs = []

abbrev pub at_stop : Place → ℕ → Jobs
at_stop nowhere t = []
at_stop (in_group g) t = []
at_stop (in_chord g c) t = part g t c ∷ []

abbrev pub message : Task → Input → Option ℕ → Line → Place → Message
message t x u rest p = record {
  no = no_of t;
  call = given (call_of t) x;
  parent = parent_for u x;
  links = links_of t;
  errbacks = errbacks_of t;
  rest = rest;
  place = p;
}

module _ (behaviour : Behaviour) where
  abbrev pub outcome_of : Message → Outcome
  outcome_of m = behaviour m.call.name m.call.args m.call.kwargs

-- links or error callbacks
abbrev pub callbacks : Tasks → Input → Option ℕ → Jobs
callbacks no_tasks x u = []
callbacks (and_task t ts) x u = publish (message t x u stop nowhere) ∷ callbacks ts x u

-- what happens at once if x flows into a line whose end goes to p, after task t, in file order
abbrev mutual
  pub enter : Line → LineFlow → Place → ℕ → Option ℕ → Jobs
  enter stop x p t u = at_stop p t
  enter (step k rest) (run x) p t u = publish (message k x u rest p) ∷ []
  enter (step k rest) (skips f) p t u = store (no_of k) (Failure f) ∷ enter rest (skips f) p (no_of k) u
  enter (step k rest) (raise f) p t u = store (no_of k) (Failure f) ∷ (callbacks (errbacks_of k) (id_input (no_of k)) u ++ enter rest (skips f) p (no_of k) u)
  enter (group_end g ms) x p t u = enter_all ms x (in_group g) u
  enter (chord_end g ms body) (run x) p t u = enter_all ms (run x) (members_place g ms body p) u ++ when_empty ms (enter body (run (list_input [])) p 0 u)
  enter (chord_end g ms body) (skips f) p t u = enter_all ms (skips f) nowhere u ++ enter body (skips f) p 0 u
  enter (chord_end g ms body) (raise f) p t u = enter_all ms (raise f) nowhere u ++ enter body (raise (header_fault ms f)) p 0 u

  pub enter_all : Lines → LineFlow → Place → Option ℕ → Jobs
  enter_all no_lines x p u = []
  enter_all (and_line m ms) x p u = enter m x p 0 u ++ enter_all ms x p u

abbrev pub called : Tasks → Tasks → ℕ → Outcome → Jobs
called links errbacks k (Success n) = callbacks links (number_input n) (Some k)
called links errbacks k (Failure f) = callbacks errbacks (id_input k) (Some k)

-- the end of a message's task
abbrev pub after : Message → Outcome → Jobs
after m o = by_kind (called m.links m.errbacks m.no o ++ enter m.rest (after_outcome o) m.place m.no (Some m.no))

-- the completion of a header
abbrev pub body_after : Carried → List (ℕ × Outcome) → Jobs
body_after (carried n body p) es = by_kind (enter body (header es) p 0 None)
