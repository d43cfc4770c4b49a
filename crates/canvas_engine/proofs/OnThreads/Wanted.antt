-- What was delivered again in a run was wanted of whoever did it.
use Rattle.std.proofs.Common.{◌≡◌, ◌∙◌, ℕ, suc, Bool, true, false, List, [], ◌∷◌, ◌++◌, Option, Some, None, inl, inr, refl, sym, ap, subst, ⊎_elim}
use Rattle.std.specs.Prelude.{◌==◌, ◌||◌}
use Rattle.std.proofs.lemmas.Bool.{eqb-true, cases_Bool, false≢true}
use Rattle.canvas_task.specs.Apply.{Behaviour}
use Rattle.canvas_history.specs.Passes.{QueueId}
use Rattle.canvas_history.specs.Seats.{TableId}
use Rattle.canvas_history.specs.Answers.{entries_by, splits_of, joins_of}
use Rattle.canvas_history.specs.Callers.{told}
use Rattle.canvas_history.specs.History.{split, join, calls, by_of, among, split_off, made_by}
use Rattle.canvas_history.proofs.Histories.{made_here, made_off, fresh_from}
use Rattle.canvas_semantics.specs.Evaluation.{State}
use Rattle.canvas_semantics.specs.Line.{Line}
use Rattle.canvas_history.specs.Lists.{In, Each}
use Rattle.canvas_envelope.specs.Content.{Content}
use Rattle.canvas_envelope.specs.declared.envelope.Envelope.{Envelope}
use Rattle.canvas_history.specs.Roster.{Roster, roster_of}
use Rattle.canvas_history.specs.Queue.{QueueEntry, QueueCall, redeliver, answer_of, next, May}
use Rattle.canvas_runs.specs.Book.{book_of}
use Rattle.canvas_runs.specs.Calls.{QueueAnswered}
use Rattle.canvas_runs.specs.Following.{Pass, Seat, Serves}
use Rattle.canvas_runs.specs.Run.{published_all}
use Rattle.canvas_runs.specs.Worker.{opened}
use Rattle.canvas_runs.proofs.Lists.Words.{in_each, in_append_cases}
use Rattle.canvas_runs.specs.PerCaller.{HasQueueCalls, QueuePerCaller}
use Rattle.canvas_runs.specs.CallerRuns.{CallerRun, Ran, numbers_along}
use Rattle.canvas_runs.specs.CallerRows.{reads_from}
use Rattle.canvas_runs.proofs.ByCallers.FromCallerRuns.{passes, sent}
use Rattle.canvas_core.specs.CoreState.{task_of}
use Rattle.canvas_worker.specs.Finished.{Finished}
use Rattle.canvas_worker.specs.Polls.{IsWanted}
use Rattle.canvas_worker.specs.declared.record.Record.{Record}
use Rattle.canvas_engine.specs.Headline.{task_in, OnlyWanted}
use Rattle.canvas_engine.specs.steps.Gathering.{JoinedWorkers, AreWanted}
use Rattle.canvas_engine.proofs.OnThreads.EnvelopeTasks.{opened_names}
use Rattle.canvas_engine.proofs.OnThreads.ThreadRuns.{ran_with}

-- ---- the entries of one caller

abbrev Log : Type 0
Log = List (QueueEntry Envelope)

abbrev caller : QueueEntry Envelope → ℕ
caller x = by_of x

in_made : (p : ℕ) (c : QueueCall Envelope) (a : Option Envelope) (log : Log) → In (calls p c a) log → In (calls p c a) (made_by p log)
in_made p c a [] i = elim i [ ]
in_made p c a (y ∷ log) (inl e) = subst (In (calls p c a)) (sym (made_here p y log (ap caller (sym e)))) (inl e)
in_made p c a (y ∷ log) (inr i) =
    let rest : In (calls p c a) (made_by p log) = in_made p c a log i in
    ⊎_elim (λ (h : (by_of y == p) ≡ true). subst (In (calls p c a)) (sym (made_here p y log (eqb-true (by_of y) p h))) (inr rest))
    (λ (h : (by_of y == p) ≡ false). subst (In (calls p c a)) (sym (made_off p y log h)) rest)
    (cases_Bool (by_of y == p))

-- a call with its answer, of an entry that is one
abbrev answered : QueueAnswered Envelope → QueueEntry Envelope → QueueAnswered Envelope
answered x (calls p c a) = (c, a)
answered x (split p q) = x
answered x (join p q) = x

abbrev is_call : QueueEntry Envelope → Bool
is_call (calls p c a) = true
is_call (split p q) = false
is_call (join p q) = false

in_entries : (p q : ℕ) (c : QueueCall Envelope) (a : Option Envelope) (xs : List (QueueAnswered Envelope)) → In (calls p c a) (entries_by q xs) → In (c, a) xs
in_entries p q c a [] i = elim i [ ]
in_entries p q c a (x ∷ xs) (inl e) = inl (ap (answered x) e)
in_entries p q c a (x ∷ xs) (inr i) = inr (in_entries p q c a xs i)

no_split : (p : ℕ) (c : QueueCall Envelope) (a : Option Envelope) (qs : List ℕ) → In (calls p c a) (splits_of qs) → ⊥
no_split p c a [] i = elim i [ ]
no_split p c a (q ∷ qs) (inl e) = false≢true (sym (ap is_call e))
no_split p c a (q ∷ qs) (inr i) = no_split p c a qs i

no_join : (p : ℕ) (c : QueueCall Envelope) (a : Option Envelope) (qs : List ℕ) → In (calls p c a) (joins_of qs) → ⊥
no_join p c a [] i = elim i [ ]
no_join p c a (q ∷ qs) (inl e) = false≢true (sym (ap is_call e))
no_join p c a (q ∷ qs) (inr i) = no_join p c a qs i

abbrev redelivers : QueueAnswered Envelope → Bool
redelivers (redeliver e, a) = true
redelivers c = false

none_published : (e : Envelope) (a : Option Envelope) (es : List Envelope) → In {X = QueueAnswered Envelope} (redeliver e, a) (published_all es) → ⊥
none_published e a [] i = elim i [ ]
none_published e a (x ∷ es) (inl s) = false≢true (sym (ap redelivers s))
none_published e a (x ∷ es) (inr i) = none_published e a es i

-- ---- of one run

module _ (behaviour : Behaviour) (l : Line) (may_want : ℕ → ℕ → Type 0) where
  abbrev P : Roster
  P = roster_of l

  -- the task that a worker knows is the one that the envelope names
  named : (e : Envelope) (k : ℕ) (x : Option Content) → opened (book_of l) e ≡ x → task_of x ≡ Some k → task_in e ≡ Some k
  named e k None is h = absurd (cc)
  named e k (Some c) is h = opened_names (book_of l) e c is ∙ h

  by_caller : (k : ℕ) (ms : List (CallerRun behaviour P)) (log : Log) → HasQueueCalls behaviour P k ms log → AreWanted behaviour P may_want k ms
      → (p : ℕ) → among p (numbers_along k ms) ≡ true → (e : Envelope) (a : Option Envelope) → In (calls p (redeliver e) a) log
      → IsWanted (may_want p) P (redeliver e, a)
  by_caller k [] log h w p there e a i = absurd (false≢true there)
  by_caller k (m ∷ ms) log h w p there e a i =
      ⊎_elim (λ (s : (k == p) ≡ true).
      let same : k ≡ p = eqb-true k p s in
      let mine : made_by p log ≡ entries_by p m.followed.made = subst (λ n. made_by n log ≡ entries_by n m.followed.made) same h.0 in
      let wants : Each (IsWanted (may_want p) P) m.followed.made = subst (λ n. Each (IsWanted (may_want n) P) m.followed.made) same w.0 in
      in_each (IsWanted (may_want p) P) m.followed.made wants (redeliver e, a)
      (in_entries p p (redeliver e) a m.followed.made (subst (In (calls p (redeliver e) a)) mine (in_made p (redeliver e) a log i))))
      (λ (d : (k == p) ≡ false).
      by_caller (suc k) ms log h.1 w.1 p (subst (λ b. (b || among p (numbers_along (suc k) ms)) ≡ true) d there) e a i)
      (cases_Bool (k == p))

  -- worker 0 wanted nothing
  by_none : (qs : List ℕ) (es : List Envelope) (last : List (QueueAnswered Envelope)) (log : Log)
      → made_by 0 log ≡ (splits_of qs ++ entries_by 0 (published_all es)) ++ (joins_of qs ++ entries_by 0 last)
      → Each (IsWanted (λ _. ⊥) P) last → (e : Envelope) (a : Option Envelope) → In (calls 0 (redeliver e) a) log → ⊥
  by_none qs es last log own z e a i =
      let there : In (calls 0 (redeliver e) a) ((splits_of qs ++ entries_by 0 (published_all es)) ++ (joins_of qs ++ entries_by 0 last)) =
      subst (In (calls 0 (redeliver e) a)) own (in_made 0 (redeliver e) a log i) in
      ⊎_elim (λ u. ⊎_elim (λ v. no_split 0 (redeliver e) a qs v)
      (λ v. none_published e a es (in_entries 0 0 (redeliver e) a (published_all es) v))
      (in_append_cases (splits_of qs) (entries_by 0 (published_all es)) (calls 0 (redeliver e) a) u))
      (λ u. ⊎_elim (λ v. no_join 0 (redeliver e) a qs v)
      (λ v. (in_each (IsWanted (λ _. ⊥) P) last z (redeliver e, a) (in_entries 0 0 (redeliver e) a last v)).2)
      (in_append_cases (joins_of qs) (entries_by 0 last) (calls 0 (redeliver e) a) u))
      (in_append_cases (splits_of qs ++ entries_by 0 (published_all es)) (joins_of qs ++ entries_by 0 last) (calls 0 (redeliver e) a) there)

  module _ (pass : Pass) (seat : Seat) (r : Ran behaviour l pass seat) (w : AreWanted behaviour P may_want 1 r.callers)
      (z : Each (IsWanted (λ _. ⊥) P) r.works.made) where
    accounts : QueuePerCaller behaviour P r.callers (sent behaviour l pass seat r) r.works.made (told pass)
    accounts = (passes behaviour l pass seat r).1

    by_other : (p : ℕ) → (p == 0) ≡ false → (e : Envelope) (a : Option Envelope) → In (calls p (redeliver e) a) (told pass)
        → IsWanted (may_want p) P (redeliver e, a)
    by_other p d e a i =
        ⊎_elim (λ (there : among p (split_off (told pass)) ≡ true).
        by_caller 1 r.callers (told pass) accounts.each w p (ap (among p) (sym accounts.names) ∙ there) e a i)
        (λ (off : among p (split_off (told pass)) ≡ false).
        let none : made_by p (told pass) ≡ [] = fresh_from [] answer_of next May p [] (told pass) accounts.legal d off in
        elim (subst (In (calls p (redeliver e) a)) none (in_made p (redeliver e) a (told pass) i)) [ ])
        (cases_Bool (among p (split_off (told pass))))

    wanted : OnlyWanted may_want (told pass)
    wanted p e a i =
        let it : IsWanted (may_want p) P (redeliver e, a) =
        ⊎_elim (λ (s : (p == 0) ≡ true).
        absurd (by_none (numbers_along 1 r.callers) _ r.works.made (told pass) accounts.own z e a
        (subst (λ n. In (calls n (redeliver e) a) (told pass)) (eqb-true p 0 s) i)))
        (λ (d : (p == 0) ≡ false). by_other p d e a i) (cases_Bool (p == 0)) in
        (it.0, named e it.0 (opened (book_of l) e) refl it.1, it.2)

pub only_wanted : (behaviour : Behaviour) (l : Line) (n : ℕ) (queue : QueueId) (table : TableId) (pass : Pass) (seat : Seat)
    (c : JoinedWorkers behaviour l n queue table pass seat) (may_want : ℕ → ℕ → Type 0) → AreWanted behaviour (roster_of l) may_want 1 c.callers
    → (r : Record) → Finished behaviour (λ _ _. ⊥) (roster_of l) 0 pass seat r → (after : Seat) (rows : List State)
    → Serves (roster_of l) r.seat (reads_from 1 rows) after → OnlyWanted may_want (told r.pass)
only_wanted behaviour l n queue table pass seat c may_want w r f after rows reads =
    wanted behaviour l may_want r.pass after (ran_with behaviour l n queue table pass seat c f.ended f.followed r.pass f.pass_is r.seat (sym f.seat_is) after rows reads) w f.wanted
