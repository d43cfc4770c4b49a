-- The evaluation of a whole plan, each thing with the event that does it, in file order.
use Rattle.std.specs.Prelude.{ℕ, List, [], ◌∷◌, ◌++◌, None}
use Rattle.canvas_task.specs.Apply.{Behaviour}
use Rattle.canvas_history.specs.Lists.{In}
use Rattle.canvas_effects.specs.Job.{Job, store, publish}
use Rattle.canvas_effects.specs.Events.{parent_of, flow_outcome, input_of_success, chosen, Event, start, running, end_of_line, completion}
use Rattle.canvas_effects.specs.Flowing.{Input, no_input, id_input, LineFlow, run, skips, raise, after_outcome}
use Rattle.canvas_semantics.specs.Line.{Line, stop, step, group_end, chord_end, Lines, no_lines, and_line, no_of}
use Rattle.canvas_semantics.specs.Tree.{Task, task, Tasks, no_tasks, and_task}
use Rattle.canvas_task.specs.declared.outcome.Outcome.{Outcome}
use Rattle.canvas_task.specs.declared.outcome.Outcome.TheVariants.{Failure}
use Rattle.canvas_runs.proofs.Plans.Messages.{Place, nowhere, in_group, Carried, errbacks_of, last_of, Message, header}
use Rattle.canvas_runs.proofs.Plans.Effects.{message, outcome_of, at_stop, members_place}

abbrev pub Items : Type 0
Items = List (Event × Job Message Carried Outcome)

abbrev pub labelled : Event → List (Job Message Carried Outcome) → Items
labelled v [] = []
labelled v (j ∷ js) = (v, j) ∷ labelled v js

-- what goes out of a group or header, by what goes in and its members' outcomes
abbrev pub joined : LineFlow → List (ℕ × Outcome) → LineFlow
joined (run x) es = header es
joined (skips f) es = skips f
joined (raise f) [] = raise f
joined (raise f) (e ∷ es) = header (e ∷ es)

-- where a header's members go, and the event of the body: only a header that runs is counted
abbrev pub header_place : LineFlow → ℕ → Lines → Line → Place → Place
header_place (run x) g ms body p = members_place g ms body p
header_place (skips f) g ms body p = nowhere
header_place (raise f) g ms body p = nowhere

abbrev pub members_event : Lines → ℕ → Event → Event
members_event no_lines g v = v
members_event (and_line m ms) g v = completion g

abbrev pub body_event : LineFlow → Lines → ℕ → Event → Event
body_event (run x) ms g v = members_event ms g v
body_event (skips f) ms g v = v
body_event (raise f) ms g v = v

module _ (behaviour : Behaviour) where
  -- the outcome of a task that runs with an input; neither its parent nor what follows matters
  abbrev pub result : Task → Input → Outcome
  result t x = outcome_of behaviour (message t x None stop nowhere)

  abbrev mutual
    pub out : Line → LineFlow → LineFlow
    out stop x = x
    out (step t rest) (run x) = out rest (after_outcome (result t x))
    out (step t rest) (skips f) = out rest (skips f)
    out (step t rest) (raise f) = out rest (skips f)
    out (group_end g ms) x = x
    out (chord_end g ms body) x = out body (joined x (outs ms x))

    pub outs : Lines → LineFlow → List (ℕ × Outcome)
    outs no_lines x = []
    outs (and_line m ms) x = (last_of m, flow_outcome (out m x)) ∷ outs ms x

  -- a task that runs, with its links or its error callbacks
  abbrev mutual
    pub ran : Task → Input → Event → Line → Place → Items
    ran (task k call links errbacks) x v rest p =
        let m : Message = message (task k call links errbacks) x (parent_of v) rest p in
        let o : Outcome = outcome_of behaviour m in
        (v, publish m) ∷ (running k, store k o) ∷ chosen o (ran_all links (input_of_success o) (end_of_line k)) (ran_all errbacks (id_input k) (end_of_line k))

    pub ran_all : Tasks → Input → Event → Items
    ran_all no_tasks x v = []
    ran_all (and_task t ts) x v = ran t x v stop nowhere ++ ran_all ts x v

  -- all that follows if x flows into a line whose end goes to p, after task t, by an event
  abbrev mutual
    pub items : Line → LineFlow → Place → ℕ → Event → Items
    items stop x p t v = labelled v (at_stop p t)
    items (step k rest) (run x) p t v = ran k x v rest p ++ items rest (after_outcome (result k x)) p (no_of k) (end_of_line (no_of k))
    items (step k rest) (skips f) p t v = (v, store (no_of k) (Failure f)) ∷ items rest (skips f) p (no_of k) v
    items (step k rest) (raise f) p t v =
        (v, store (no_of k) (Failure f)) ∷ (ran_all (errbacks_of k) (id_input (no_of k)) v ++ items rest (skips f) p (no_of k) v)
    items (group_end g ms) x p t v = items_all ms x (in_group g) v
    items (chord_end g ms body) x p t v = items_all ms x (header_place x g ms body p) v ++ items body (joined x (outs ms x)) p 0 (body_event x ms g v)

    pub items_all : Lines → LineFlow → Place → Event → Items
    items_all no_lines x p v = []
    items_all (and_line m ms) x p v = items m x p 0 v ++ items_all ms x p v

  -- the whole plan
  abbrev pub evaluated : Line → Items
  evaluated l = items l (run no_input) nowhere 0 start

  abbrev pub DoesIn : Line → Event → Job Message Carried Outcome → Type 0
  DoesIn l v j = In (v, j) (evaluated l)
