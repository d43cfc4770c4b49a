-- The result backend for one thread: what its calls answer and leave, and who may make them. A
-- chord's returned members are counted, as Celery's Redis backend counts them
-- (https://docs.celeryq.dev/en/stable/userguide/canvas.html, the notes on chords).
--     TableCall, TableReply     store the outcome of a task, return a member's part of its chord,
--                               read the outcome of a task; and the answers
--     Results                   what it holds: outcomes, and whose part was returned
--     reply_of, next_of, May    what a call answers, what it leaves, and who may make it
--     Log                       a history of it. `results` is what it replays to, and `IsLegal`
--                               whether it is one
--     IsCall                    the clause of a call, for a caller that owes no joins
--     HasFirst, WasFirst        whose store of a task was the first, and what it stored
--     MayReturn                 who may return a task's part
use Rattle.std.specs.Prelude.{◌≡◌, ◌==◌, ℕ, Bool, true, false, IsTrue, if◌then◌else◌, List, [], ◌∷◌, ◌++◌, Option, Some, None, count_by}
use Rattle.canvas_task.specs.declared.outcome.Outcome.{Outcome}
use Rattle.canvas_history.specs.Callers.{the_object, owing_none, Follows}
use Rattle.canvas_history.specs.History.{Entry, among, calls, live, heir, Legal, replay}
use Rattle.canvas_history.specs.declared.stored.Stored.{Stored}
use Rattle.canvas_history.specs.declared.stored.Stored.TheVariants.{First, Again}
use Rattle.canvas_history.specs.Roster.{Roster, members, is_chord, is_member}

-- store the outcome of a task, return the part of a chord by a member's last task, read the outcome
-- of a task
pub data TableCall : Type 0 where
  store : ℕ → Outcome → TableCall
  part : ℕ → ℕ → TableCall
  read : ℕ → TableCall

pub data TableReply : Type 0 where
  was : Stored → TableReply
  count : ℕ → TableReply
  found : Option Outcome → TableReply

abbrev pub Log : Type 0
Log = List (Entry TableCall TableReply)

-- the outcomes that are stored, and the tasks whose part was returned
pub record Results : Type 0 where
  pub outcomes : ℕ → Option Outcome
  pub returned : ℕ → Bool

abbrev pub no_results : Results
no_results = record { outcomes = λ _. None; returned = λ _. false }

-- what a store answers, and what it leaves, given what the task had
abbrev pub first_or : Option Outcome → Stored
first_or None = First
first_or (Some o) = Again

abbrev pub kept_or : Option Outcome → Outcome → Option Outcome
kept_or None o = Some o
kept_or (Some p) o = Some p

abbrev pub next_of : Results → TableCall → Results
next_of s (store t o) =
    record {
      outcomes =
          λ x. if x == t then kept_or (s.outcomes x) o else s.outcomes x;
      returned = s.returned;
    }
next_of s (part g t) =
    record { outcomes = s.outcomes; returned = λ x. if x == t then true else s.returned x }
next_of s (read t) = s

-- a store of the task among p's own calls answered First
pub record HasFirst (log : Log) (p t : ℕ) : Type 0 where
  pub before : Log
  pub rest : Log
  pub caller : ℕ
  pub outcome : Outcome
  pub is : log ≡ before ++ calls caller (store t outcome) (was First) ∷ rest
  pub own : heir log caller ≡ p

-- this outcome of the task was stored first
pub record WasFirst (log : Log) (t : ℕ) (o : Outcome) : Type 0 where
  pub before : Log
  pub rest : Log
  pub caller : ℕ
  pub is : log ≡ before ++ calls caller (store t o) (was First) ∷ rest

module _ (plan : Roster) where
  -- how many members of the group or chord were returned
  abbrev pub count_of : Results → ℕ → ℕ
  count_of s g = count_by s.returned (members plan g)

  abbrev pub reply_of : Results → TableCall → TableReply
  reply_of s (store t o) = was (first_or (s.outcomes t))
  reply_of s (part g t) = count (count_of s g)
  reply_of s (read t) = found (s.outcomes t)

  -- a part is returned once, by the caller whose own store of the task was the first
  abbrev pub May : Log → Results → ℕ → TableCall → Type 0
  May log s p (store t o) = Unit {0}
  May log s p (read t) = Unit {0}
  May log s p (part g t) =
      IsTrue (is_chord plan g) × IsTrue (is_member plan g t) × HasFirst log p t
      × (s.returned t ≡ false)

  -- what a history replays to
  abbrev pub results : Log → Results
  results log = replay no_results reply_of next_of May log

  abbrev pub IsLegal : Log → Type 0
  IsLegal log = Legal no_results reply_of next_of May log

  -- the entry comes after what the caller p had seen and entries by others, if p answers only for
  -- itself and owes nothing
  abbrev pub IsCall : ℕ → Log → Log → Entry TableCall TableReply → Type 0
  IsCall p seen seen' e =
      Follows no_results reply_of next_of May (owing_none the_object p seen) (e ∷ []) seen'

  -- p may return the task's part: its own store was the first, it knows of no return, and it is
  -- live
  pub record MayReturn (seen : Log) (p t : ℕ) : Type 0 where
    pub own : HasFirst seen p t
    pub free : (results seen).returned t ≡ false
    pub alive : among p (live seen) ≡ true
