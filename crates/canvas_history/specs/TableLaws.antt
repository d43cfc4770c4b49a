-- What all legal histories of a backend have in common (the chord rule of Celery's Redis backend:
-- the parts of a header are counted). A part is completing if it answers one less than the chord
-- has members.
use Rattle.std.specs.Prelude.{◌≡◌, ◌≢◌, ℕ, suc, IsTrue, ◌∷◌, ◌++◌, Some, length}
use Rattle.canvas_task.specs.declared.outcome.Outcome.{Outcome}
use Rattle.canvas_history.specs.History.{calls}
use Rattle.canvas_history.specs.declared.stored.Stored.TheVariants.{First}
use Rattle.canvas_history.specs.Roster.{Roster, members, is_member}
use Rattle.canvas_history.specs.Table.{TableCall, store, part, read, TableReply, was, count, found, Log, IsLegal, IsCall, WasFirst, MayReturn}

abbrev pub IsCompleting : Roster → ℕ → ℕ → Type 0
IsCompleting plan g n = suc n ≡ length (members plan g)

-- before it each member of the chord was stored first
abbrev pub AllFirst : Type 0
AllFirst =
    (plan : Roster) (before rest : Log) (p g m n : ℕ)
    → IsLegal plan (before ++ calls p (part g m) (count n) ∷ rest) → IsCompleting plan g n
    → (t : ℕ) → IsTrue (is_member plan g t) → (o : Outcome) × WasFirst before t o

-- after it no part of that chord is returned
abbrev pub NoMore : Type 0
NoMore =
    (plan : Roster) (before between rest : Log) (p g m n q u : ℕ) (r : TableReply)
    → IsLegal plan
    (before ++ calls p (part g m) (count n) ∷ (between ++ calls q (part g u) r ∷ rest))
    → IsCompleting plan g n → ⊥

-- after it each read of a member answers what was stored first
abbrev pub ReadsFirst : Type 0
ReadsFirst =
    (plan : Roster) (before between rest : Log) (p g m n q t : ℕ) (r : TableReply)
    → IsLegal plan
    (before ++ calls p (part g m) (count n) ∷ (between ++ calls q (read t) r ∷ rest))
    → IsCompleting plan g n → IsTrue (is_member plan g t)
    → (o : Outcome) × WasFirst before t o × (r ≡ found (Some o))

-- after a store that answered First its caller may return the task's part
abbrev pub FirstMay : Type 0
FirstMay =
    (plan : Roster) (p t : ℕ) (o : Outcome) (seen after : Log)
    → IsCall plan p seen after (calls p (store t o) (was First)) → MayReturn plan after p t

-- and still after another call of its own
abbrev pub StillMay : Type 0
StillMay =
    (plan : Roster) (p t : ℕ) (c : TableCall) (r : TableReply) (seen after : Log)
    → ((g : ℕ) → c ≢ part g t) → MayReturn plan seen p t → IsCall plan p seen after (calls p c r)
    → MayReturn plan after p t
