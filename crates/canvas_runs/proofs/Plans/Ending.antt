-- Each message of an evaluation, and each body that a member carries, ends in a task where its end goes to a group or chord.
use Rattle.std.proofs.Common.{ℕ, Bool, true, false, List, ◌++◌}
use Rattle.canvas_task.specs.Apply.{Behaviour}
use Rattle.canvas_task.specs.declared.outcome.Outcome.{Outcome}
use Rattle.canvas_task.specs.declared.outcome.Outcome.TheVariants.{Success, Failure}
use Rattle.canvas_semantics.specs.Tree.{Task, task, Tasks, no_tasks, and_task}
use Rattle.canvas_semantics.specs.FileOrder.{EndsInTask}
use Rattle.canvas_semantics.specs.Line.{Line, stop, step, group_end, chord_end, Lines, no_lines, and_line, no_of}
use Rattle.canvas_effects.specs.Events.{Event, start, end_of_line, input_of_success, chosen, parent_of}
use Rattle.canvas_effects.specs.Flowing.{Input, no_input, id_input, LineFlow, run, skips, raise, after_outcome}
use Rattle.canvas_effects.specs.Job.{store, publish, part}
use Rattle.canvas_history.specs.Lists.{Each}
use Rattle.canvas_runs.proofs.Plans.Carrying.{EndsAt}
use Rattle.canvas_runs.proofs.Plans.Effects.{message, outcome_of, at_stop}
use Rattle.canvas_runs.proofs.Plans.Evaluation.{Items, labelled, joined, header_place, body_event, result, outs, ran, ran_all, items, items_all, evaluated}
use Rattle.canvas_runs.proofs.Plans.FileOrder.{LineIn, LinesIn}
use Rattle.canvas_runs.proofs.Plans.Messages.{Place, nowhere, in_group, in_chord, Carried, carried, errbacks_of}
use Rattle.canvas_runs.proofs.Plans.Trees.{AJob}
use Rattle.canvas_runs.proofs.Lists.Words.{each_append}

abbrev pub EndsCarried : Carried → Type 0
EndsCarried (carried n body q) = EndsAt false q body

abbrev pub EndsJob : AJob → Type 0
EndsJob (store t o) = Unit {0}
EndsJob (publish m) = EndsAt true m.place m.rest
EndsJob (part g t c) = EndsCarried c

abbrev pub AllEnd : Items → Type 0
AllEnd is = Each (λ i. EndsJob i.1) is

-- what the place of an end carries
abbrev EndsPlace : Place → Type 0
EndsPlace nowhere = Unit {0}
EndsPlace (in_group g) = Unit {0}
EndsPlace (in_chord g c) = EndsCarried c

both : (xs ys : Items) → AllEnd xs → AllEnd ys → AllEnd (xs ++ ys)
both xs ys a b = each_append (λ i. EndsJob i.1) xs ys a b

picked : (o : Outcome) (xs ys : Items) → AllEnd xs → AllEnd ys → AllEnd (chosen o xs ys)
picked (Success n) xs ys a b = a
picked (Failure f) xs ys a b = b

module _ (behaviour : Behaviour) where
  mutual
    ran_ends : (t : Task) (x : Input) (v : Event) (rest : Line) (p : Place) → EndsAt true p rest → AllEnd (ran behaviour t x v rest p)
    ran_ends (task k call links errbacks) x v rest p e =
        let o : Outcome = outcome_of behaviour (message (task k call links errbacks) x (parent_of v) rest p) in (
          e,
          (
            tt,
            picked o (ran_all behaviour links (input_of_success o) (end_of_line k)) (ran_all behaviour errbacks (id_input k) (end_of_line k))
                (ran_all_ends links (input_of_success o) (end_of_line k)) (ran_all_ends errbacks (id_input k) (end_of_line k)),
          ),
        )

    ran_all_ends : (ts : Tasks) (x : Input) (v : Event) → AllEnd (ran_all behaviour ts x v)
    ran_all_ends no_tasks x v = tt
    ran_all_ends (and_task t ts) x v = both (ran behaviour t x v stop nowhere) (ran_all behaviour ts x v) (ran_ends t x v stop nowhere tt) (ran_all_ends ts x v)

stop_ends : (p : Place) (t : ℕ) (v : Event) → EndsPlace p → AllEnd (labelled v (at_stop p t))
stop_ends nowhere t v e = tt
stop_ends (in_group g) t v e = tt
stop_ends (in_chord g c) t v e = (e, tt)

rest_ends : (behind : Bool) (p : Place) (t : Task) (rest : Line) → EndsAt behind p (step t rest) → EndsAt true p rest
rest_ends behind nowhere t rest e = tt
rest_ends behind (in_group g) t rest e = e
rest_ends behind (in_chord g c) t rest e = e

body_ends : (behind : Bool) (p : Place) (g : ℕ) (ms : Lines) (body : Line) → EndsAt behind p (chord_end g ms body) → EndsAt false p body
body_ends behind nowhere g ms body e = tt
body_ends behind (in_group h) g ms body e = e
body_ends behind (in_chord h c) g ms body e = e

member_ends : (p : Place) (m : Line) → EndsInTask false m → EndsAt false p m
member_ends nowhere m e = tt
member_ends (in_group g) m e = e
member_ends (in_chord g c) m e = e

header_ends : (x : LineFlow) (g : ℕ) (ms : Lines) (body : Line) (p : Place) → EndsAt false p body → EndsPlace (header_place x g ms body p)
header_ends (run x) g no_lines body p e = tt
header_ends (run x) g (and_line m ms) body p e = e
header_ends (skips f) g ms body p e = tt
header_ends (raise f) g ms body p e = tt

module _ (behaviour : Behaviour) (table : ℕ → List ℕ) where
  mutual
    items_end : (l : Line) (x : LineFlow) (p : Place) (t : ℕ) (v : Event) (behind : Bool) (low high : ℕ) → EndsAt behind p l → EndsPlace p
        → LineIn table l low high → AllEnd (items behaviour l x p t v)
    items_end stop x p t v behind low high e q n = stop_ends p t v q
    items_end (step k rest) (run x) p t v behind low high e q n =
        both (ran behaviour k x v rest p) (items behaviour rest (after_outcome (result behaviour k x)) p (no_of k) (end_of_line (no_of k)))
        (ran_ends behaviour k x v rest p (rest_ends behind p k rest e))
        (items_end rest (after_outcome (result behaviour k x)) p (no_of k) (end_of_line (no_of k)) true n.0 high (rest_ends behind p k rest e) q n.2)
    items_end (step k rest) (skips f) p t v behind low high e q n =
        (tt, items_end rest (skips f) p (no_of k) v true n.0 high (rest_ends behind p k rest e) q n.2)
    items_end (step k rest) (raise f) p t v behind low high e q n = (
      tt,
      both (ran_all behaviour (errbacks_of k) (id_input (no_of k)) v) (items behaviour rest (skips f) p (no_of k) v)
          (ran_all_ends behaviour (errbacks_of k) (id_input (no_of k)) v)
          (items_end rest (skips f) p (no_of k) v true n.0 high (rest_ends behind p k rest e) q n.2),
    )
    items_end (group_end g ms) x p t v behind low high e q n = all_end ms x (in_group g) v low high tt n.0
    items_end (chord_end g ms body) x p t v behind low high e q n =
        both (items_all behaviour ms x (header_place x g ms body p) v) (items behaviour body (joined x (outs behaviour ms x)) p 0 (body_event x ms g v))
        (all_end ms x (header_place x g ms body p) v low n.0 (header_ends x g ms body p (body_ends behind p g ms body e)) n.1)
        (items_end body (joined x (outs behaviour ms x)) p 0 (body_event x ms g v) false n.0 high (body_ends behind p g ms body e) q n.2)

    all_end : (ms : Lines) (x : LineFlow) (p : Place) (v : Event) (low high : ℕ) → EndsPlace p → LinesIn table ms low high
        → AllEnd (items_all behaviour ms x p v)
    all_end no_lines x p v low high q n = tt
    all_end (and_line m ms) x p v low high q n =
        both (items behaviour m x p 0 v) (items_all behaviour ms x p v) (items_end m x p 0 v false low n.0 (member_ends p m n.2) q n.1)
        (all_end ms x p v n.0 high q n.3)

  pub plan_ends : (l : Line) (low high : ℕ) → LineIn table l low high → AllEnd (evaluated behaviour l)
  plan_ends l low high n = items_end l (run no_input) nowhere 0 start false low high tt tt n
