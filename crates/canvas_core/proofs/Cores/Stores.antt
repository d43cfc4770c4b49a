-- What a worker stores besides a message's own outcome are failures.
use Rattle.std.proofs.Common.{◌≡◌, ◌<◌, ℕ, Bool, true, false, List, [], ◌∷◌, ◌++◌, Option, Some, None, sym, subst, arith}
use Rattle.std.specs.Prelude.{All, if◌then◌else◌, nat_lt}
use Rattle.std.proofs.lemmas.List.Elements.{All-cons}
use Rattle.canvas_task.specs.Apply.{IsInRange}
use Rattle.canvas_task.specs.declared.outcome.Outcome.{Outcome}
use Rattle.canvas_task.specs.declared.outcome.Outcome.TheVariants.{Success, Failure}
use Rattle.canvas_rewrite.specs.FrozenView.{PCarried}
use Rattle.canvas_semantics.specs.PlacedLine.{PTasks, no_p_tasks, and_p_task, PPlace, p_nowhere, p_group, p_chord, PLine, p_stop, p_step, p_group_end, p_chord_end, PLines, no_p_lines, and_p_line}
use Rattle.canvas_envelope.specs.Content.{Content, line, number_of, links_of, errbacks_of}
use Rattle.canvas_effects.specs.Effects.{Jobs, Effect, callbacks, part_of, fault_behind, when_empty, enter, enter_all, stores_in, called, after, header_flow, body_after}
use Rattle.canvas_effects.specs.Flowing.{Input, number_input, list_input, id_input, LineFlow, run, skips, raise, after_outcome}
use Rattle.canvas_envelope.specs.Fits.{how_many}
use Rattle.canvas_effects.specs.Job.{Job, store, publish, part}
use Rattle.canvas_effects.specs.Ordered.{put, in_order}
use Rattle.canvas_effects.specs.Placing.{placed, end_place}

-- a job that stores nothing, or a failure
abbrev StoresFailure : Job Content PCarried Outcome → Type 0
StoresFailure (store t o) = IsInRange o
StoresFailure (publish m) = Unit {0}
StoresFailure (part g t c) = Unit {0}

abbrev Failures : Jobs → Type 0
Failures [] = Unit {0}
Failures (j ∷ js) = StoresFailure j × Failures js

joined : (js ks : Jobs) → Failures js → Failures ks → Failures (js ++ ks)
joined [] ks a b = b
joined (j ∷ js) ks a b = (a.0, joined js ks a.1 b)

calls : (ts : PTasks) (x : Input) (u : Option ℕ) → Failures (callbacks ts x u)
calls no_p_tasks x u = tt
calls (and_p_task t ts) x u = (tt, calls ts x u)

parts : (p : PPlace) (k : ℕ) → Failures (part_of p k)
parts p_nowhere k = tt
parts (p_group g) k = tt
parts (p_chord g n body) k = (tt, tt)

empties : (ms : PLines) (js : Jobs) → Failures js → Failures (when_empty ms js)
empties no_p_lines js h = h
empties (and_p_line m ms) js h = tt

mutual
  enters : (l : PLine) (x : LineFlow) (p : PPlace) (k : ℕ) (u : Option ℕ) → Failures (enter l x p k u)
  enters p_stop x p k u = parts p k
  enters (p_step t rest) (run x) p k u = (tt, tt)
  enters (p_step t rest) (skips f) p k u = (tt, enters rest (skips f) p (number_of t) u)
  enters (p_step t rest) (raise f) p k u = (
    tt,
    joined (callbacks (errbacks_of t) (id_input (number_of t)) u) _ (calls (errbacks_of t) (id_input (number_of t)) u)
        (enters rest (skips f) p (number_of t) u),
  )
  enters (p_group_end g ms) x p k u = enters_all ms x (p_group g) u
  enters (p_chord_end g ms body) (run x) p k u =
      joined (enter_all ms (run x) (p_chord g (how_many ms) (placed p body)) u) _ (enters_all ms (run x) (p_chord g (how_many ms) (placed p body)) u)
      (empties ms (enter body (run (list_input [])) p 0 u) (enters body (run (list_input [])) p 0 u))
  enters (p_chord_end g ms body) (skips f) p k u =
      joined (enter_all ms (skips f) p_nowhere u) _ (enters_all ms (skips f) p_nowhere u) (enters body (skips f) p 0 u)
  enters (p_chord_end g ms body) (raise f) p k u =
      joined (enter_all ms (raise f) p_nowhere u) _ (enters_all ms (raise f) p_nowhere u) (enters body (raise (fault_behind ms f)) p 0 u)

  enters_all : (ms : PLines) (x : LineFlow) (p : PPlace) (u : Option ℕ) → Failures (enter_all ms x p u)
  enters_all no_p_lines x p u = tt
  enters_all (and_p_line m ms) x p u = joined (enter m x p 0 u) (enter_all ms x p u) (enters m x p 0 u) (enters_all ms x p u)

-- ---- in order

abbrev Kept : ℕ × Outcome → Type 0
Kept e = IsInRange e.1

abbrev AllKept : List (ℕ × Outcome) → Type 0
AllKept [] = Unit {0}
AllKept (e ∷ es) = Kept e × AllKept es

all_kept : (es : List (ℕ × Outcome)) → AllKept es → All (λ e. IsInRange e.1) es
all_kept [] a = λ k d low. absurd (let none : k < 0 = low in omega (arith, none))
all_kept (e ∷ es) a = All-cons (λ x. IsInRange x.1) e es a.0 (all_kept es a.1)

stored : (js : Jobs) → Failures js → AllKept (stores_in js)
stored [] h = tt
stored (store t o ∷ js) h = (h.0, stored js h.1)
stored (publish m ∷ js) h = stored js h.1
stored (part g t c ∷ js) h = stored js h.1

one_put : (b : Bool) (xs ys : List (ℕ × Outcome)) → AllKept xs → AllKept ys → AllKept (if b then xs else ys)
one_put true xs ys a c = a
one_put false xs ys a c = c

all_put : (e : ℕ × Outcome) (es : List (ℕ × Outcome)) → Kept e → AllKept es → AllKept (put (λ x. x.0) e es)
all_put e [] h a = (h, tt)
all_put e (d ∷ es) h a = one_put (nat_lt d.0 e.0) (d ∷ put (λ x. x.0) e es) (e ∷ d ∷ es) (a.0, all_put e es h a.1) (h, a)

all_ordered : (es : List (ℕ × Outcome)) → AllKept es → AllKept (in_order (λ x. x.0) es)
all_ordered [] a = tt
all_ordered (e ∷ es) a = all_put e (in_order (λ x. x.0) es) a.0 (all_ordered es a.1)

ordered : (js : Jobs) → Failures js → All (λ e. IsInRange e.1) (in_order (λ x. x.0) (stores_in js))
ordered js h = all_kept (in_order (λ x. x.0) (stores_in js)) (all_ordered (stores_in js) (stored js h))

-- ---- effects

calls_back : (links errbacks : PTasks) (k : ℕ) (o : Outcome) → Failures (called links errbacks k o)
calls_back links errbacks k (Success n) = calls links (number_input n) (Some k)
calls_back links errbacks k (Failure f) = calls errbacks (id_input k) (Some k)

pub after_stores : (c : Content) (o : Outcome) → All (λ e. IsInRange e.1) (after c o).stores
after_stores c o =
    ordered (called (links_of c.own) (errbacks_of c.own) (number_of c.own) o ++ enter c.rest (after_outcome o) (end_place (line c)) (number_of c.own)
    (Some (number_of c.own)))
    (joined (called (links_of c.own) (errbacks_of c.own) (number_of c.own) o) _ (calls_back (links_of c.own) (errbacks_of c.own) (number_of c.own) o)
    (enters c.rest (after_outcome o) (end_place (line c)) (number_of c.own) (Some (number_of c.own))))

pub body_stores : (c : PCarried) (es : List (ℕ × Outcome)) → All (λ e. IsInRange e.1) (body_after c es).stores
body_stores c es = ordered (enter c.body (header_flow es) (end_place c.body) 0 None) (enters c.body (header_flow es) (end_place c.body) 0 None)

-- of what follows a task, or the members of a header
pub todo_stores : (c : Content) (o : Outcome) (e : Effect) → e ≡ after c o → All (λ s. IsInRange s.1) e.stores
todo_stores c o e is = subst (λ x. All (λ s. IsInRange s.1) x.stores) (sym is) (after_stores c o)

pub body_todo_stores : (c : PCarried) (es : List (ℕ × Outcome)) (e : Effect) → e ≡ body_after c es → All (λ s. IsInRange s.1) e.stores
body_todo_stores c es e is = subst (λ x. All (λ s. IsInRange s.1) x.stores) (sym is) (body_stores c es)
