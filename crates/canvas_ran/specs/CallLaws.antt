-- The answers that a message depends on, and the ends that it waits for.
use Rattle.std.specs.Prelude.{◌≡◌, ◌⊎◌, ℕ, Option, Some}
use Rattle.canvas_task.specs.Apply.{Behaviour}
use Rattle.canvas_task.specs.declared.outcome.Outcome.{Outcome}
use Rattle.canvas_semantics.specs.Line.{Line}
use Rattle.canvas_semantics.specs.PlacedLine.{PTask, p_task, PTasks, no_p_tasks, and_p_task, PPlace, p_nowhere, p_group, p_chord, PLine, p_stop, p_step, p_group_end, p_chord_end, PLines, no_p_lines, and_p_line}
use Rattle.canvas_envelope.specs.Among.{In}
use Rattle.canvas_envelope.specs.Content.{Content, errbacks_of, links_of, number_of, place_of}
use Rattle.canvas_envelope.specs.declared.envelope.Envelope.{Envelope}
use Rattle.canvas_effects.specs.Effects.{outcome_of}
use Rattle.canvas_effects.specs.Events.{Event, DoesIn}
use Rattle.canvas_effects.specs.Job.{publish}
use Rattle.canvas_history.specs.History.{calls}
use Rattle.canvas_history.specs.Lists as lists
use Rattle.canvas_history.specs.Queue as queue
use Rattle.canvas_history.specs.Table as table
use Rattle.canvas_history.specs.declared.stored.Stored.TheVariants.{First}
use Rattle.canvas_runs.specs.Book.{book_of}
use Rattle.canvas_runs.specs.Run.{Run}
use Rattle.canvas_runs.specs.Worker.{opened}
use Rattle.canvas_ran.specs.Fronts.{front_of, fronts}

-- ---- the contents of a message

-- the task of number n is among these
abbrev mutual
  pub HasTask : ℕ → PTask → Type 0
  HasTask n (p_task k call links errbacks place) =
      (n ≡ k) ⊎ (HasTasks n links ⊎ (HasTasks n errbacks ⊎ HasPlace n place))

  pub HasTasks : ℕ → PTasks → Type 0
  HasTasks n no_p_tasks = ⊥
  HasTasks n (and_p_task t ts) = HasTask n t ⊎ HasTasks n ts

  pub HasPlace : ℕ → PPlace → Type 0
  HasPlace n p_nowhere = ⊥
  HasPlace n (p_group g) = ⊥
  HasPlace n (p_chord g size body) = HasLine n body

  pub HasLine : ℕ → PLine → Type 0
  HasLine n p_stop = ⊥
  HasLine n (p_step t rest) = HasTask n t ⊎ HasLine n rest
  HasLine n (p_group_end g ms) = HasLines n ms
  HasLine n (p_chord_end g ms body) = HasLines n ms ⊎ HasLine n body

  pub HasLines : ℕ → PLines → Type 0
  HasLines n no_p_lines = ⊥
  HasLines n (and_p_line m ms) = HasLine n m ⊎ HasLines n ms

-- a message carries what follows its task: links, error callbacks, the body of its chord, and the
-- rest of its line
abbrev pub Carries : Content → ℕ → Type 0
Carries c n =
    HasTasks n (links_of c.own)
    ⊎ (HasTasks n (errbacks_of c.own) ⊎ (HasPlace n (place_of c.own) ⊎ HasLine n c.rest))

-- ---- the answers that it depends on

-- Two behaviours answer alike for all messages that carry task n and that evaluation with the first
-- publishes.
abbrev pub AgreeBefore : Behaviour → Behaviour → Line → ℕ → Type 0
AgreeBefore one other l n =
    (v : Event) (c : Content) → DoesIn one l v (publish c) → Carries c n
    → outcome_of one c ≡ outcome_of other c

-- Such behaviours give the task the same message, by the same event.
abbrev pub GiveTheSame : Behaviour → Behaviour → Line → Type 0
GiveTheSame one other l =
    (v : Event) (c : Content) → DoesIn one l v (publish c)
    → AgreeBefore one other l (number_of c.own) → DoesIn other l v (publish c)

-- ---- the ends that it waits for

-- In every run, closed or not, and so at each moment of one: if a task's message is published, each
-- task that it comes after has ended, so that its outcome is stored.
abbrev pub AfterEnds : (behaviour : Behaviour) (l : Line) → Run behaviour l → Type 0
AfterEnds behaviour l r =
    (p k : ℕ) (e : Envelope) (a : Option Envelope) (c : Content)
    → lists.In (calls p (queue.publish e) a) r.queue → opened (book_of l) e ≡ Some c
    → In k (front_of (fronts behaviour l) (number_of c.own)).after
    → (q : ℕ) × (o : Outcome) × lists.In (calls q (table.store k o) (table.was First)) r.table
