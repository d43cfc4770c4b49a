-- Runs by turns in which envelopes are redelivered as a list of entries says. An entry names a task
-- and one of the two points of a script of the task's message: early, before its first store, or
-- late, before its envelope is acknowledged. A worker that comes to such a point spends the first
-- unspent entry for it, if there is one: within the same turn, before its ask is answered, it
-- redelivers the envelope. So at most one entry is spent at each point. Below, the behaviour and
-- the plan are left out:
--     TurnedAgain n before es us xs rest    after the steps before, with the entries es unspent,
--                                           the turns us are taken, xs are the steps that they
--                                           make, and the entries rest stay unspent
--     RunEntries es m     m of the entries are of tasks that evaluation runs
use Rattle.std.specs.Prelude.{ℕ, suc, ◌≡◌, ◌≤◌, eqb, cond, Bool, true, false, ◌||◌, ◌+◌, List, [], ◌∷◌, ◌++◌, length, Option, Some, None}
use Rattle.canvas_task.specs.Apply.{Behaviour}
use Rattle.canvas_semantics.specs.Line.{Line}
use Rattle.canvas_rewrite.specs.FrozenView.{PCarried}
use Rattle.canvas_rewrite.specs.Planned.{IsPlan}
use Rattle.canvas_envelope.specs.Content.{Content, number_of}
use Rattle.canvas_envelope.specs.declared.envelope.Envelope.{Envelope}
use Rattle.canvas_history.specs.declared.stored.Stored.TheVariants.{Again}
use Rattle.canvas_history.specs.Table.{store, was}
use Rattle.canvas_runs.specs.declared.when.When.{When}
use Rattle.canvas_runs.specs.declared.when.When.TheVariants.{Early, Late}
use Rattle.canvas_runs.specs.Book.{book_of}
use Rattle.canvas_runs.specs.Core.{Ask, Reply, to_table, from_table, CoreState, owning, acking, ask, ReadsBack}
use Rattle.canvas_runs.specs.Law.{IsRunMessage}
use Rattle.canvas_history.specs.Lists.{Each, total}
use Rattle.canvas_runs.specs.Worker.{worker, opened}
use Rattle.canvas_runs.specs.Termination.{most_steps}
use Rattle.canvas_runs.specs.TurnLaws.{ByTurns}
use Rattle.canvas_runs.specs.Turns.{Step, IsWorker, FirstsRead, left, holds, redelivery, Answers, HasEnded, AllEnded, Begins, redeliveries_in, rounds}

-- a task and a point
abbrev pub Entry : Type 0
Entry = ℕ × When

abbrev pub same_when : When → When → Bool
same_when Early Early = true
same_when Late Late = true
same_when v w = false

-- whether an entry is for this task and point
abbrev pub is_for : ℕ → When → Entry → Bool
is_for k w e = cond (same_when e.1 w) (eqb e.0 k) false

-- whether some entry is for this task and point
abbrev pub has : ℕ → When → List Entry → Bool
has k w [] = false
has k w (e ∷ es) = is_for k w e || has k w es

-- the entries without the first for this task and point
abbrev pub without : ℕ → When → List Entry → List Entry
without k w [] = []
without k w (e ∷ es) = cond (is_for k w e) es (e ∷ without k w es)

-- at a point, or at none: whether an entry is wanted there, and the rest of the entries
abbrev pub wanted : Option Entry → List Entry → Bool
wanted None es = false
wanted (Some x) es = has x.0 x.1 es

abbrev pub spent : Option Entry → List Entry → List Entry
spent None es = es
spent (Some x) es = without x.0 x.1 es

module _ (l : Line) where
  -- the message that the envelope of the open script reads as
  abbrev pub message_in : Option Envelope → Option Content
  message_in None = None
  message_in (Some e) = opened (book_of l) e

  abbrev pub point_of : When → Option Content → Option Entry
  point_of w None = None
  point_of w (Some c) = Some (number_of c.own, w)

  -- The point that a script has reached: the state is what is left to do of it. A dropped envelope
  -- reads as no message, so its script has none.
  abbrev pub point : CoreState Content PCarried → Option Envelope → Option Entry
  point (owning m) h = point_of Early (message_in h)
  point acking h = point_of Late (message_in h)
  point s h = None

module _ (behaviour : Behaviour) (l : Line) where
  -- the point that a worker has reached
  abbrev pub comes_to : List Step → ℕ → Option Entry
  comes_to before p = point l (left behaviour l before p) (holds before p)

  -- steps before, entries, turns, the steps that the turns make, the entries that stay unspent
  pub data TurnedAgain (n : ℕ) : List Step → List Entry → List ℕ → List Step → List Entry →
      Type 0 where
    no_turn : {before : List Step} {es : List Entry} → TurnedAgain n before es [] [] es
    skips : {before : List Step} {es rest : List Entry} {p : ℕ} {us : List ℕ} {xs : List Step}
        → HasEnded behaviour l before p → TurnedAgain n before es us xs rest
        → TurnedAgain n before es (p ∷ us) xs rest
    takes : {before : List Step} {es rest : List Entry} {p : ℕ} {a : Ask Envelope}
        {r : Reply Envelope} {us : List ℕ} {xs : List Step}
        → wanted (comes_to before p) es ≡ false
        → ReadsBack (worker behaviour l) (left behaviour l before p)
        → a ≡ ask (worker behaviour l) (left behaviour l before p)
        → Answers behaviour l n before a r
        → TurnedAgain n (before ++ (p, (a, r)) ∷ []) es us xs rest
        → TurnedAgain n before es (p ∷ us) ((p, (a, r)) ∷ xs) rest
    spends : {before : List Step} {es rest : List Entry} {p : ℕ} {e : Envelope}
        {a : Ask Envelope} {r : Reply Envelope} {us : List ℕ} {xs : List Step}
        → wanted (comes_to before p) es ≡ true → IsWorker n p → holds before p ≡ Some e
        → ReadsBack (worker behaviour l) (left behaviour l (before ++ redelivery p e ∷ []) p)
        → a ≡ ask (worker behaviour l) (left behaviour l (before ++ redelivery p e ∷ []) p)
        → Answers behaviour l n (before ++ redelivery p e ∷ []) a r
        → TurnedAgain n ((before ++ redelivery p e ∷ []) ++ (p, (a, r)) ∷ [])
        (spent (comes_to before p) es) us xs rest
        → TurnedAgain n before es (p ∷ us) (redelivery p e ∷ (p, (a, r)) ∷ xs) rest

-- a plan's run by these turns of workers 1 to n, with these entries, steps, and entries that stay
-- unspent
pub record ByEntries (behaviour : Behaviour) (l : Line) (n : ℕ) (es : List Entry) (us : List ℕ)
    (xs : List Step) (rest : List Entry) : Type 0 where
  pub plan : IsPlan l
  pub opens_back : FirstsRead l
  pub workers : Each (IsWorker n) us
  pub turned : TurnedAgain behaviour l n [] es us xs rest

-- the turns of the list, and then as many rounds as it takes until all have ended
pub record RanAgain (behaviour : Behaviour) (l : Line) (n : ℕ) (ts : List ℕ) (es : List Entry) :
    Type 0 where
  pub opens_back : FirstsRead l
  pub turns : List ℕ
  pub further : ℕ
  pub follow : turns ≡ ts ++ rounds n further
  pub steps : List Step
  pub rest : List Entry
  pub turned : TurnedAgain behaviour l n [] es turns steps rest
  pub ended : AllEnded behaviour l n steps

-- ---- how many stores answer Again

abbrev pub answers_again : Ask Envelope → Reply Envelope → ℕ
answers_again (to_table (store t o)) (from_table (was Again)) = 1
answers_again a r = 0

abbrev pub agains_in : List Step → ℕ
agains_in xs = total (λ x. answers_again x.1.0 x.1.1) xs

module _ (behaviour : Behaviour) (l : Line) where
  -- evaluation runs the task
  abbrev pub IsRunTask : ℕ → Type 0
  IsRunTask k = (c : Content) × (number_of c.own ≡ k) × IsRunMessage behaviour l c

  -- m of the entries are of tasks that evaluation runs
  pub data RunEntries : List Entry → ℕ → Type 0 where
    no_entry : RunEntries [] 0
    one_run : {e : Entry} {es : List Entry} {m : ℕ} → IsRunTask e.0 → RunEntries es m
        → RunEntries (e ∷ es) (suc m)
    one_idle : {e : Entry} {es : List Entry} {m : ℕ} → (IsRunTask e.0 → ⊥) → RunEntries es m
        → RunEntries (e ∷ es) m

-- ---- the laws

-- it is a run by turns, so the laws of these hold of it; its redeliveries are the entries spent
abbrev pub EntriesAreTurns : Type 0
EntriesAreTurns =
    (behaviour : Behaviour) (l : Line) (n : ℕ) (es : List Entry) (us : List ℕ) (xs : List Step)
    (rest : List Entry) → ByEntries behaviour l n es us xs rest
    → ByTurns behaviour l n us xs × (redeliveries_in xs + length rest ≡ length es)

-- it ends
abbrev pub EntriesFew : Type 0
EntriesFew =
    (behaviour : Behaviour) (l : Line) (n : ℕ) (es : List Entry) (ts us : List ℕ) (xs : List Step)
    (rest : List Entry) → 1 ≤ n → ByEntries behaviour l n es us xs rest → Begins us ts n
    → length xs ≤ most_steps l n (length ts) (length es)

-- If all have ended, as many stores answered Again as there are entries whose task evaluation runs,
-- and these are the entries that were spent.
abbrev pub AgainsAreEntries : Type 0
AgainsAreEntries =
    (behaviour : Behaviour) (l : Line) (n : ℕ) (es : List Entry) (us : List ℕ) (xs : List Step)
    (rest : List Entry) → ByEntries behaviour l n es us xs rest → 1 ≤ n
    → AllEnded behaviour l n xs
    → RunEntries behaviour l es (agains_in xs) × Each (λ e. IsRunTask behaviour l e.0 → ⊥) rest

-- before a message's own store its worker has come to the early point of its task
abbrev pub OwnPoints : Type 0
OwnPoints =
    (behaviour : Behaviour) (l : Line) (n : ℕ) (us : List ℕ) (xs : List Step)
    → ByTurns behaviour l n us xs → (p : ℕ) (m : Content) → left behaviour l xs p ≡ owning m
    → comes_to behaviour l xs p ≡ Some (number_of m.own, Early)

-- At any time at most as many stores have answered Again as there were entries.
abbrev pub AgainsFew : Type 0
AgainsFew =
    (behaviour : Behaviour) (l : Line) (n : ℕ) (es : List Entry) (us : List ℕ) (xs : List Step)
    (rest : List Entry) → ByEntries behaviour l n es us xs rest → agains_in xs ≤ length es

-- a run by turns without redeliveries is one without entries
abbrev pub NoEntries : Type 0
NoEntries =
    (behaviour : Behaviour) (l : Line) (n : ℕ) (us : List ℕ) (xs : List Step)
    → ByTurns behaviour l n us xs → redeliveries_in xs ≡ 0 → ByEntries behaviour l n [] us xs []

-- the turns of a list with the rotation after them are such turns
abbrev pub AgainTurns : Type 0
AgainTurns =
    (behaviour : Behaviour) (l : Line) → IsPlan l → (n : ℕ) (ts : List ℕ) (es : List Entry)
    → Each (IsWorker n) ts → (r : RanAgain behaviour l n ts es)
    → ByEntries behaviour l n es r.turns r.steps r.rest
