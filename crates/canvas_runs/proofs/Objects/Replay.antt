-- The queue and the table of results as the proofs replay them: over an environment of what is queued, stored and handed in so far.
use Rattle.std.specs.Prelude.{ℕ, suc, eqb, cond, ◌≡◌, List, [], ◌∷◌, ◌++◌, Option, Some, None}
use Rattle.canvas_history.specs.Lists.{In}
use Rattle.canvas_task.specs.declared.outcome.Outcome.{Outcome}
use Rattle.canvas_history.specs.declared.stored.Stored.{Stored}
use Rattle.canvas_history.specs.declared.stored.Stored.TheVariants.{First, Again}
use Rattle.canvas_history.specs.Table as table
use Rattle.canvas_history.specs.Queue as queue
use Rattle.canvas_runs.specs.Calls.{QueueAnswered, TableAnswered}

-- each take answers the front of the queue, and what is delivered again was taken. Over what was taken so far
abbrev pub IsQueue : {E : Type 0} → List E → List E → List (QueueAnswered E) → Type 0
IsQueue ts q [] = Unit
IsQueue ts q ((queue.publish e, r) ∷ cs) = IsQueue ts (q ++ e ∷ []) cs
IsQueue {E} ts q ((queue.take, Some e) ∷ cs) = (rest : List E) × (q ≡ e ∷ rest) × IsQueue (e ∷ ts) rest cs
IsQueue ts q ((queue.redeliver e, r) ∷ cs) = In e ts × IsQueue ts (q ++ e ∷ []) cs
IsQueue ts q (c ∷ cs) = ⊥

-- each take answers the front of the queue, and none is left
abbrev pub IsDrained : {E : Type 0} → List E → List (QueueAnswered E) → Type 0
IsDrained q [] = q ≡ []
IsDrained q ((queue.publish e, r) ∷ cs) = IsDrained (q ++ e ∷ []) cs
IsDrained {E} q ((queue.take, Some e) ∷ cs) = (rest : List E) × (q ≡ e ∷ rest) × IsDrained rest cs
IsDrained q ((queue.redeliver e, r) ∷ cs) = IsDrained (q ++ e ∷ []) cs
IsDrained q (c ∷ cs) = ⊥

-- the first entry of key k
abbrev pub look_up : {X : Type 0} → ℕ → List (ℕ × X) → Option X
look_up k [] = None
look_up k (e ∷ es) = cond (eqb e.0 k) (Some e.1) (look_up k es)

-- how many of the members handed in are the group's
abbrev pub handed : ℕ → List (ℕ × ℕ) → ℕ
handed g [] = 0
handed g (e ∷ es) = cond (eqb e.0 g) (suc (handed g es)) (handed g es)

-- what a store answers, and the outcomes after it
abbrev pub FirstWins : {O : Type 0} → Option O → Stored → Type 0
FirstWins None b = b ≡ First
FirstWins (Some o) b = b ≡ Again

abbrev pub kept_first : {O : Type 0} → Stored → ℕ → O → List (ℕ × O) → List (ℕ × O)
kept_first First t o os = (t, o) ∷ os
kept_first Again t o os = os

-- over the outcomes and the members handed in so far
abbrev pub IsTable : List (ℕ × Outcome) → List (ℕ × ℕ) → List TableAnswered → Type 0
IsTable os ps [] = Unit
IsTable os ps ((table.store t o, table.was b) ∷ cs) = FirstWins (look_up t os) b × IsTable (kept_first b t o os) ps cs
IsTable os ps ((table.part g m, table.count n) ∷ cs) = (n ≡ handed g ps) × (In (g, m) ps → ⊥) × IsTable os ((g, m) ∷ ps) cs
IsTable os ps ((table.read t, table.found o) ∷ cs) = (o ≡ look_up t os) × IsTable os ps cs
IsTable os ps (c ∷ cs) = ⊥
