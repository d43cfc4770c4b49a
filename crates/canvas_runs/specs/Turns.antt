-- Runs by turns, on one thread: workers numbered 1 to n share the one-thread queue and the
-- one-thread table of results, and each turn lets one worker have one ask answered. The Canvas user
-- guide names no order between workers, so a list of turns names one; after it the workers take
-- turns in rotation, from 1 to n and again, until all have ended. A worker that has ended skips its
-- turn. Below, the behaviour and the plan are left out:
--     Step                  a worker's ask with its answer
--     left, holds, queue_after, results_after    what a worker has left to do, the envelope of its
--                                                open script, what is queued and what is stored
--                                                after these steps
--     Answers n before a r    the reply r to the ask a is what the queue and the table say at that
--                             time; the rest of a worker is answered with more while something is
--                             queued or some worker is inside the script of a message, and else
--                             with no more
--     Turned n before us xs    after the steps before, the turns us are taken, and the steps xs are
--                              those that they make
--     AllEnded n before   after these steps no worker asks for anything more
--     RanWhole n ts       the turns of the list and then as many rounds as it takes until all have
--                         ended
--     RanUntil n ts steps    the turns of the list, and then turns in rotation, up to this number
--                            of steps, with some worker that has not ended
use Rattle.std.specs.Prelude.{ℕ, zero, suc, ◌≡◌, ◌≤◌, ◌||◌, Bool, true, false, List, [], ◌∷◌, ◌++◌, map, length, Option, Some, None}
use Rattle.canvas_task.specs.Apply.{Behaviour}
use Rattle.canvas_semantics.specs.Line.{Line}
use Rattle.canvas_rewrite.specs.FrozenView.{PCarried}
use Rattle.canvas_envelope.specs.Content.{Content}
use Rattle.canvas_effects.specs.Effects.{first_messages}
use Rattle.canvas_envelope.specs.declared.envelope.Envelope.{Envelope}
use Rattle.canvas_history.specs.Table.{Results, no_results, reply_of, next_of}
use Rattle.canvas_history.specs.Roster.{roster_of}
use Rattle.canvas_history.specs.Queue as queue
use Rattle.canvas_runs.specs.Core.{Ask, Reply, to_queue, to_table, rest, end, ack, from_queue, from_table, rested, acked, CoreState, taking, ask, left_after, ReadsBack, is_inside}
use Rattle.canvas_runs.specs.Calls.{scripts_of, held_after}
use Rattle.canvas_history.specs.Lists.{Each, by, total}
use Rattle.canvas_runs.specs.Worker.{IsReadBack, worker, sealed}

-- an answered ask of a worker
abbrev pub Step : Type 0
Step = ℕ × (Ask Envelope × Reply Envelope)

-- what an ask leaves of the queue, and of the results
abbrev pub queue_next : List Envelope → Ask Envelope → List Envelope
queue_next q (to_queue c) = queue.next q c
queue_next q a = q

abbrev pub results_next : Results → Ask Envelope → Results
results_next s (to_table c) = next_of s c
results_next s a = s

abbrev pub queue_from : List Envelope → List Step → List Envelope
queue_from q [] = q
queue_from q (x ∷ xs) = queue_from (queue_next q x.1.0) xs

abbrev pub results_from : Results → List Step → Results
results_from s [] = s
results_from s (x ∷ xs) = results_from (results_next s x.1.0) xs

-- the table is empty at first
abbrev pub results_after : List Step → Results
results_after before = results_from no_results before

abbrev pub is_queued : List Envelope → Bool
is_queued [] = false
is_queued (e ∷ es) = true

-- the envelope of the worker's open script
abbrev pub holds : List Step → ℕ → Option Envelope
holds before p = held_after None (by p before)

-- the worker's envelope is redelivered
abbrev pub redelivery : ℕ → Envelope → Step
redelivery p e = (p, (to_queue (queue.redeliver e), from_queue None))

-- how many of the steps are redeliveries
abbrev pub redelivers_one : Ask Envelope → ℕ
redelivers_one (to_queue (queue.redeliver e)) = 1
redelivers_one a = 0

abbrev pub redeliveries_in : List Step → ℕ
redeliveries_in xs = total (λ x. redelivers_one x.1.0) xs

-- the most workers that a run may have
abbrev pub most_workers : ℕ
most_workers = 16

-- one of the workers 1 to n
abbrev pub IsWorker : ℕ → ℕ → Type 0
IsWorker n p = (1 ≤ p) × (p ≤ n)

module _ (l : Line) where
  -- the first messages are queued at first
  abbrev pub queue_after : List Step → List Envelope
  queue_after before = queue_from (map sealed (first_messages l)) before

  -- the envelopes of the first messages read back as these
  abbrev pub FirstsRead : Type 0
  FirstsRead = Each IsReadBack (first_messages l)

module _ (behaviour : Behaviour) (l : Line) where
  abbrev pub left : List Step → ℕ → CoreState Content PCarried
  left before p = left_after (worker behaviour l) taking (scripts_of (by p before))

  -- one of the workers 1 to n is inside the script of a message
  abbrev pub some_inside : ℕ → List Step → Bool
  some_inside zero before = false
  some_inside (suc n) before = is_inside (left before (suc n)) || some_inside n before

  abbrev pub holds_more : ℕ → List Step → Bool
  holds_more n before = is_queued (queue_after l before) || some_inside n before

  abbrev pub Answers : ℕ → List Step → Ask Envelope → Reply Envelope → Type 0
  Answers n before (to_queue c) (from_queue x) = x ≡ queue.answer_of (queue_after l before) c
  Answers n before (to_table c) (from_table r) =
      r ≡ reply_of (roster_of l) (results_after before) c
  Answers n before rest (rested m) = m ≡ holds_more n before
  Answers n before ack acked = Unit {0}
  Answers n before a r = ⊥

  -- the worker asks for nothing more
  abbrev pub HasEnded : List Step → ℕ → Type 0
  HasEnded before p = ask (worker behaviour l) (left before p) ≡ end

  -- The arguments are the steps before, the turns, and the steps that the turns make. An envelope
  -- that is sent reads back as its message. Before a step of its turn a worker may redeliver the
  -- envelope of its open script.
  pub data Turned (n : ℕ) : List Step → List ℕ → List Step → Type 0 where
    all_taken : {before : List Step} → Turned n before [] []
    skips_turn : {before : List Step} {p : ℕ} {us : List ℕ} {xs : List Step} → HasEnded before p
        → Turned n before us xs → Turned n before (p ∷ us) xs
    takes_turn : {before : List Step} {p : ℕ} {a : Ask Envelope}
        {r : Reply Envelope} {us : List ℕ} {xs : List Step}
        → ReadsBack (worker behaviour l) (left before p)
        → a ≡ ask (worker behaviour l) (left before p) → Answers n before a r
        → Turned n (before ++ (p, (a, r)) ∷ []) us xs → Turned n before (p ∷ us) ((p, (a, r)) ∷ xs)
    delivers_again : {before : List Step} {p : ℕ} {e : Envelope} {us : List ℕ} {xs : List Step}
        → IsWorker n p → holds before p ≡ Some e
        → Turned n (before ++ redelivery p e ∷ []) us xs
        → Turned n before us (redelivery p e ∷ xs)

  abbrev pub AllEnded : ℕ → List Step → Type 0
  AllEnded n before = (p : ℕ) → IsWorker n p → HasEnded before p

-- the numbers 1 to n, and these several times
abbrev pub round : ℕ → List ℕ
round zero = []
round (suc n) = round n ++ suc n ∷ []

abbrev pub rounds : ℕ → ℕ → List ℕ
rounds n zero = []
rounds n (suc k) = round n ++ rounds n k

-- the turns so far are the first of the list's, and then those in rotation
abbrev pub Begins : List ℕ → List ℕ → ℕ → Type 0
Begins us ts n = (k : ℕ) × (rest : List ℕ) × (us ++ rest ≡ ts ++ rounds n k)

pub record RanWhole (behaviour : Behaviour) (l : Line) (n : ℕ) (ts : List ℕ) : Type 0 where
  pub opens_back : FirstsRead l
  pub turns : List ℕ
  pub further : ℕ
  pub follow : turns ≡ ts ++ rounds n further
  pub steps : List Step
  pub turned : Turned behaviour l n [] turns steps
  pub ended : AllEnded behaviour l n steps

pub record RanUntil (behaviour : Behaviour) (l : Line) (n : ℕ) (ts : List ℕ) (most : ℕ) :
    Type 0 where
  pub opens_back : FirstsRead l
  pub turns : List ℕ
  pub begin : Begins turns ts n
  pub steps : List Step
  pub turned : Turned behaviour l n [] turns steps
  pub many : length steps ≡ most
  -- nothing was redelivered
  pub plain : redeliveries_in steps ≡ 0
  -- a worker that has not ended
  pub going : ℕ
  pub is_worker : IsWorker n going
  pub has_more : HasEnded behaviour l steps going → ⊥
