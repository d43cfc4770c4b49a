-- What ends a core, and that it stays at its end.
use Rattle.std.proofs.Common.{◌≡◌, ◌∙◌, ◌⊎◌, ◌<◌, ℕ, suc, Bool, true, false, cond, List, [], ◌∷◌, ◌++◌, Option, Some, None, inl, inr, refl, sym, ap, subst, true≢false}
use Rattle.std.specs.Prelude.{if◌then◌else◌, eqb, length, is_some}
use Rattle.std.proofs.lemmas.Bool.{eqb-true}
use Rattle.canvas_task.specs.Apply.{Behaviour}
use Rattle.canvas_task.specs.declared.outcome.Outcome.{Outcome}
use Rattle.canvas_rewrite.specs.FrozenView.{PCarried}
use Rattle.canvas_effects.specs.Job.{store, publish, part}
use Rattle.canvas_envelope.specs.declared.envelope.Envelope.{Envelope}
use Rattle.canvas_history.specs.declared.stored.Stored.{Stored}
use Rattle.canvas_history.specs.declared.stored.Stored.TheVariants.{First, Again}
use Rattle.canvas_history.specs.Table as table
use Rattle.canvas_history.specs.Queue as queue
use Rattle.canvas_runs.specs.Book.{Book}
use Rattle.canvas_runs.specs.Protocol.{Protocol}
use Rattle.canvas_runs.specs.Worker.{opened}
use Rattle.canvas_runs.proofs.Runs.MoreAsks.{reads_cases}
use Rattle.canvas_runs.specs.Core as C
use Rattle.canvas_runs.specs.Core.{taking, resting, over, failed, owning, doing, reading, from_queue, refused, from_table, rested, answered, left_after, settled, opens, Suits, IsCoreRun, acking, acked}
use Rattle.canvas_core.specs.Asks.{Asked, Answer, suits}
use Rattle.canvas_core.specs.Asks as asks
use Rattle.canvas_core.specs.AtEnd.{EndStays, FailingEnds, EndsACore, EndsBehind, FailsBehind}
use Rattle.canvas_core.specs.Books.{HasMembers, IsFromOne, no_book}
use Rattle.canvas_core.specs.EnvelopeWorker as enveloping
use Rattle.canvas_core.specs.EnvelopeWorker.{Applied, enveloped_by}
use Rattle.canvas_core.specs.CorePast.{left_by}
use Rattle.canvas_core.specs.CoreState.{Left, placed, asked, next_in, unsent}
use Rattle.canvas_core.specs.SeatRights.{Carries}
use Rattle.canvas_core.specs.declared.ask.Reply.{Reply}
use Rattle.canvas_core.specs.declared.ask.Ask.TheVariants.{End}
use Rattle.canvas_core.specs.declared.ask.Reply.TheVariants as R
use Rattle.canvas_core.proofs.Cores.CorePasts.{left_one_more}
use Rattle.canvas_core.proofs.Cores.Sound.{Sound, first_low, more_low, step_sound}
use Rattle.canvas_core.proofs.Cores.Located.{located_same, has_next}

abbrev is_end : Asked → Bool
is_end C.end = true
is_end a = false

-- ---- the end stays

none_suits : (r : Reply) → suits End r ≡ false
none_suits (R.Taken x) = refl
none_suits R.Published = refl
none_suits (R.NotPublished e) = refl
none_suits (R.Stored s) = refl
none_suits (R.Counted n) = refl
none_suits (R.Found t x) = refl
none_suits (R.Rested more) = refl
none_suits R.Acked = refl

none_held : (out : Bool) → (if out then None else asks.to_send C.end) ≡ None
none_held true = refl
none_held false = refl

-- what is handed out is no end
still_end : (s : Left) → asked s ≡ C.end → asked (unsent s) ≡ C.end
still_end (doing (publish e ∷ js) b) h = absurd (true≢false (sym (ap is_end h)))
still_end s h = h

at_end : (s : Left) (x : Option ℕ) → asked s ≡ C.end → next_in s x ≡ End
at_end over x h = refl
at_end failed x h = refl
at_end (doing [] b) x h = refl
at_end (doing (store t o ∷ js) b) x h = absurd (true≢false (sym (ap is_end h)))
at_end (doing (publish e ∷ js) b) x h = absurd (true≢false (sym (ap is_end h)))
at_end (doing (part g t c ∷ js) b) x h = absurd (true≢false (sym (ap is_end h)))
at_end s x h = absurd (true≢false (sym (ap is_end h)))

pub end_stays : EndStays
end_stays s h = (
  (λ r. ap (λ a. suits a r) (at_end s.left s.task h) ∙ none_suits r),
  ap (λ a. if s.is_out then None else asks.to_send a) h ∙ none_held s.is_out,
  still_end s.left h,
)

pub failing_ends : FailingEnds
failing_ends s = refl

-- ---- what goes on

-- the state isn't at its end
abbrev GoesOn : Left → Type 0
GoesOn s = is_end (asked s) ≡ false

no_end : {A : Type 0} (s : Left) → GoesOn s → is_end (asked s) ≡ true → A
no_end s on h = absurd (true≢false (sym h ∙ on))

abbrev Behind : List (Asked × Answer) → Type 0
Behind xs = (ys : List (Asked × Answer)) × (x : Asked × Answer) × (xs ≡ ys ++ x ∷ []) × EndsACore x.0 x.1

module _ (behaviour : Behaviour) (book : Book) where
  abbrev X : Protocol Envelope
  X = enveloped_by behaviour book

  settled_on : (js : C.Jobs X) (b : Stored) → GoesOn (settled X js b)
  settled_on [] b = refl
  settled_on (store t o ∷ js) First = refl
  settled_on (store t o ∷ js) Again = refl
  settled_on (publish e ∷ js) First = refl
  settled_on (publish e ∷ js) Again = refl
  settled_on (part g t c ∷ js) First = refl
  settled_on (part g t c ∷ js) Again = refl

  opens_on : (x : Option Applied) → GoesOn (opens X x)
  opens_on None = refl
  opens_on (Some e) = refl

  -- what ends a core leaves it at its end
  ended_by : (s : Left) (r : Answer) → EndsACore (asked s) r → is_end (asked (answered X s r)) ≡ true
  ended_by resting (rested false) h = refl
  ended_by (doing (publish e ∷ js) b) refused h = refl
  ended_by s r h = absurd h

  module _ (members : HasMembers book) (from_one : IsFromOne book) where
    -- a chord that has the size which its message says has the next member
    next_on : (g : ℕ) (c : PCarried) (fs : List (ℕ × Outcome)) → Carries book g c → length fs < c.size → GoesOn (C.reads_next X g c fs)
    next_on g c fs h low =
        reads_cases X GoesOn g c fs (λ e. absurd (true≢false (sym (has_next behaviour book members g c fs h low) ∙ ap is_some e))) (λ t e. refl)

    -- the state is sound, and not at its end
    abbrev Well : Left → Type 0
    Well s = Sound book s × GoesOn s

    counted_on : (g : ℕ) (c : PCarried) (n : ℕ) (z : Bool) → Carries book g c → eqb (suc n) c.size ≡ z → GoesOn (cond z (C.reads_next X g c []) acking)
    counted_on g c n true h e = next_on g c [] h (first_low n c.size (eqb-true (suc n) c.size e))
    counted_on g c n false h e = refl

    read_on : (g : ℕ) (c : PCarried) (fs : List (ℕ × Outcome)) (e : ℕ × Outcome) (z : Bool) → Carries book g c → length fs < c.size
        → eqb (length (fs ++ e ∷ [])) c.size ≡ z
        → GoesOn (cond z (settled X (X.completed c (fs ++ e ∷ [])) Again) (C.reads_next X g c (fs ++ e ∷ [])))
    read_on g c fs e true h low is = settled_on (X.completed c (fs ++ e ∷ [])) Again
    read_on g c fs e false h low is = next_on g c (fs ++ e ∷ []) h (more_low fs e c.size low is)

    -- an ask and an answer that end a core, or they leave one that goes on
    abbrev EndsOr : Left → Answer → Type 0
    EndsOr s r = EndsACore (asked s) r ⊎ Well (answered X s r)

    goes : (s : Left) (r : Answer) → Well s → GoesOn (answered X s r) → EndsOr s r
    goes s r w on = inr (step_sound behaviour book from_one s r w.0, on)

    step : (s : Left) (r : Answer) → Well s → Suits (asked s) r → EndsOr s r
    step taking (from_queue None) w suit = inr (tt, refl)
    step taking (from_queue (Some e)) w suit = goes taking (from_queue (Some e)) w (opens_on (enveloping.applied_if behaviour (opened book e) e))
    step resting (rested true) w suit = inr (tt, refl)
    step resting (rested false) w suit = inl tt
    step over r w suit = absurd (true≢false w.1)
    step failed r w suit = absurd (true≢false w.1)
    step (owning m) (from_table (table.was First)) w suit =
        goes (owning m) (from_table (table.was First)) w (settled_on (X.ended m (X.outcome m)) First)
    step (owning m) (from_table (table.was Again)) w suit = inr (tt, refl)
    step (doing [] b) r w suit = absurd (true≢false w.1)
    step (doing (store t o ∷ js) b) (from_table (table.was a)) w suit =
        goes (doing (store t o ∷ js) b) (from_table (table.was a)) w (settled_on js (cond (C.is_due t js) a b))
    step (doing (publish e ∷ js) b) (from_queue None) w suit = goes (doing (publish e ∷ js) b) (from_queue None) w (settled_on js b)
    step (doing (publish e ∷ js) b) refused w suit = inl tt
    step (doing (part g t c ∷ js) b) (from_table (table.count n)) w suit =
        goes (doing (part g t c ∷ js) b) (from_table (table.count n)) w (counted_on g c n (eqb (suc n) c.size) w.0.1 refl)
    step (reading g c t fs) (from_table (table.found (Some o))) w suit =
        goes (reading g c t fs) (from_table (table.found (Some o))) w
        (read_on g c fs (t, o) (eqb (length (fs ++ (t, o) ∷ [])) c.size) w.0.0 w.0.1 refl)
    step (reading g c t fs) (from_table (table.found None)) w suit = inr (tt, refl)
    step acking acked w suit = inr (tt, refl)
    step s r w suit = absurd suit

    -- nothing is answered at the end
    none_after : (s : Left) (xs : List (Asked × Answer)) → is_end (asked s) ≡ true → IsCoreRun X s xs → xs ≡ []
    none_after s [] h run = refl
    none_after s (x ∷ xs) h run = absurd (unsuited x.0 x.1 (ap is_end run.0 ∙ h) run.1.0)
      where
        unsuited : (a : Asked) (r : Answer) → is_end a ≡ true → Suits a r → ⊥
        unsuited C.end r is suit = suit
        unsuited a r is suit = true≢false (sym is)

    -- after this step, or after one of those that follow it
    next : (s : Left) (x : Asked × Answer) (xs : List (Asked × Answer)) (b : Bool) → is_end (asked (answered X s x.1)) ≡ b → EndsOr s x.1
        → IsCoreRun X s (x ∷ xs) → (Well (answered X s x.1) → Behind xs) → Behind (x ∷ xs)
    next s x xs b is (inr w) run later = let rest = later w in (x ∷ rest.0, rest.1, ap (λ zs. x ∷ zs) rest.2, rest.3)
    next s x xs true is (inl ends) run later =
        ([], x, ap (λ zs. x ∷ zs) (none_after (answered X s x.1) xs is run.2), subst (λ a. EndsACore a x.1) (sym run.0) ends)
    next s x xs false is (inl ends) run later = absurd (true≢false (sym (ended_by s x.1 ends) ∙ is))

    ends_behind_from : (s : Left) (xs : List (Asked × Answer)) → Well s → IsCoreRun X s xs → is_end (asked (left_after X s xs)) ≡ true → Behind xs
    ends_behind_from s [] w run h = no_end s w.1 h
    ends_behind_from s (x ∷ xs) w run h =
        next s x xs (is_end (asked (answered X s x.1))) refl (step s x.1 w (subst (λ a. Suits a x.1) run.0 run.1.0)) run
        (λ goes. ends_behind_from (answered X s x.1) xs goes run.2 h)

-- what a core has left ends where what the asks and answers leave does
unsent_end : (s : Left) → is_end (asked (unsent s)) ≡ is_end (asked s)
unsent_end (doing (publish e ∷ js) b) = refl
unsent_end s = refl

end_so : (s : Left) (out : Bool) → is_end (asked (if out then unsent s else s)) ≡ is_end (asked s)
end_so s true = unsent_end s
end_so s false = refl

pub ends_behind : EndsBehind
ends_behind behaviour book members from_one xs s leads h =
    ends_behind_from behaviour book members from_one taking xs (tt, refl) leads.run
    (sym (located_same (λ u. is_end (asked u)) (λ g c t v fs. refl) no_book (left_by behaviour book xs))
    ∙ sym (end_so (placed (left_by behaviour book xs)) s.is_out) ∙ ap (λ u. is_end (asked u)) (sym leads.left) ∙ ap is_end h)

-- ---- what fails

abbrev is_pause : Asked → Bool
is_pause C.rest = true
is_pause a = false

abbrev is_failed : Left → Bool
is_failed failed = true
is_failed s = false

-- a core that asks for a rest is resting
pausing : (s : Left) → asked s ≡ C.rest → s ≡ resting
pausing taking h = absurd (true≢false (sym (ap is_pause h)))
pausing resting h = refl
pausing over h = absurd (true≢false (sym (ap is_pause h)))
pausing failed h = absurd (true≢false (sym (ap is_pause h)))
pausing (owning e) h = absurd (true≢false (sym (ap is_pause h)))
pausing (doing [] b) h = absurd (true≢false (sym (ap is_pause h)))
pausing (doing (store t o ∷ js) b) h = absurd (true≢false (sym (ap is_pause h)))
pausing (doing (publish e ∷ js) b) h = absurd (true≢false (sym (ap is_pause h)))
pausing (doing (part g t c ∷ js) b) h = absurd (true≢false (sym (ap is_pause h)))
pausing (reading g c t fs) h = absurd (true≢false (sym (ap is_pause h)))
pausing acking h = absurd (true≢false (sym (ap is_pause h)))

-- the last ask of a core run is what was asked then
last_asked : (behaviour : Behaviour) (book : Book) (s : Left) (ys : List (Asked × Answer)) (x : Asked × Answer)
    → IsCoreRun (enveloped_by behaviour book) s (ys ++ x ∷ []) → x.0 ≡ asked (left_after (enveloped_by behaviour book) s ys)
last_asked behaviour book s [] x run = run.0
last_asked behaviour book s (y ∷ ys) x run = last_asked behaviour book (answered (enveloped_by behaviour book) s y.1) ys x run.2

unsent_failed : (s : Left) → is_failed (unsent s) ≡ is_failed s
unsent_failed (doing (publish e ∷ js) b) = refl
unsent_failed s = refl

failed_so : (s : Left) (out : Bool) → is_failed (if out then unsent s else s) ≡ is_failed s
failed_so s true = unsent_failed s
failed_so s false = refl

-- after a rest that was answered with no more it hasn't failed
over_then : (behaviour : Behaviour) (book : Book) (ys : List (Asked × Answer))
    → IsCoreRun (enveloped_by behaviour book) taking (ys ++ (C.rest, rested false) ∷ [])
    → is_failed (left_by behaviour book (ys ++ (C.rest, rested false) ∷ [])) ≡ false
over_then behaviour book ys run =
    ap is_failed (left_one_more behaviour book taking ys (C.rest, rested false)
    ∙ ap (λ u. answered (enveloped_by behaviour book) u (rested false))
    (pausing (left_by behaviour book ys) (sym (last_asked behaviour book taking ys (C.rest, rested false) run))))

which : (behaviour : Behaviour) (book : Book) (xs ys : List (Asked × Answer)) (a : Asked) (r : Answer) → IsCoreRun (enveloped_by behaviour book) taking xs
    → is_failed (left_by behaviour book xs) ≡ true → xs ≡ ys ++ (a, r) ∷ [] → EndsACore a r
    → (zs : List (Asked × Answer)) × (e : Envelope) × (xs ≡ zs ++ (C.to_queue (queue.publish e), refused) ∷ [])
which behaviour book xs ys C.rest (rested false) run fails same by =
    absurd (true≢false (sym fails ∙ ap (λ zs. is_failed (left_by behaviour book zs)) same
    ∙ over_then behaviour book ys (subst (λ zs. IsCoreRun (enveloped_by behaviour book) taking zs) same run)))
which behaviour book xs ys (C.to_queue (queue.publish e)) refused run fails same by = (ys, e, same)
which behaviour book xs ys a r run fails same by = absurd by

pub fails_behind : FailsBehind
fails_behind behaviour book members from_one xs s leads h =
    let last = ends_behind behaviour book members from_one xs s leads (ap asked h) in
    which behaviour book xs last.0 last.1.0 last.1.1 leads.run
    (sym (located_same is_failed (λ g c t v fs. refl) no_book (left_by behaviour book xs))
    ∙ sym (failed_so (placed (left_by behaviour book xs)) s.is_out) ∙ ap is_failed (sym leads.left)
    ∙ ap is_failed h) last.2 last.3
