-- Workers' places, from what loops and threads tell of each to the list of the run's workers.
use Rattle.std.proofs.Common.{◌≡◌, ◌∙◌, ℕ, suc, ◌+◌, List, [], ◌∷◌, ◌++◌, length, map, All, refl, sym, ap, subst, arith}
use Rattle.std.proofs.lemmas.List.Elements.{All-head, All-tail}
use Rattle.std.specs.Prelude.{None}
use Rattle.canvas_task.specs.Apply.{Behaviour}
use Rattle.canvas_history.specs.Passes.{QueueId}
use Rattle.canvas_history.specs.Seats.{TableId}
use Rattle.canvas_envelope.specs.declared.envelope.Envelope.{Envelope}
use Rattle.canvas_history.specs.Seats as seats
use Rattle.canvas_history.specs.Roster.{Roster}
use Rattle.canvas_history.specs.Callers.{Owes}
use Rattle.canvas_runs.specs.Calls.{QueueAnswered, TableAnswered}
use Rattle.canvas_runs.specs.Following.{Pass, Seat, Makes, Serves, IsOver as IsEnded}
use Rattle.canvas_history.specs.Lists.{Each}
use Rattle.canvas_runs.specs.CallerRuns.{CallerRun, SplitPasses, JoinPasses, SplitSeats, JoinSeats}
use Rattle.canvas_worker.specs.Finished.{Finished}
use Rattle.canvas_worker.specs.declared.record.Record.{Record}
use Rattle.canvas_engine.specs.steps.Gathering.{numbered_counts, tallies_from, AreWanted}
use Rattle.canvas_engine.specs.steps.WorkerSlots.{HasHandles, IsReadySlot, IsSplitOff, SplitsOff, LeavesState, RanSlot, AllRan, LeftARecord, IsWell, IsPostOf, AreOf, TakesIn, tally_in}
use Rattle.canvas_engine.specs.declared.threads.slot.SlotState.{SlotState}
use Rattle.canvas_engine.specs.declared.threads.slot.SlotState.TheVariants.{Ready, Done, Lost}
use Rattle.canvas_engine.specs.declared.threads.slot.WorkerSlot.{WorkerSlot}

-- ---- one more place

pub part_more : (plan : Roster) (k n : ℕ) (p p' p'' : Pass) (s s' s'' : Seat) (slots : List WorkerSlot) (slot : WorkerSlot) → SplitsOff plan k p s slots p' s'
    → n ≡ k + length slots → IsSplitOff plan n p' s' slot p'' s''
    → SplitsOff plan k p s (slots ++ slot ∷ []) p'' s''
part_more plan k n p p' p'' s s' s'' [] slot m e i =
    let same : n ≡ k = omega (arith, e) in (
      p'',
      s'',
      subst (λ x. IsSplitOff plan k x s slot p'' s'') m.0
          (subst (λ x. IsSplitOff plan k p' x slot p'' s'') m.1 (subst (λ x. IsSplitOff plan x p' s' slot p'' s'') same i)),
      (refl, refl),
    )
part_more plan k n p p' p'' s s' s'' (x ∷ slots) slot m e i =
    (m.0, m.1, m.2, part_more plan (suc k) n m.0 p' p'' m.1 s' s'' slots slot m.3 (omega (arith, e)) i)

pub one_longer : {X : Type 0} (xs : List X) (x : X) → length (xs ++ x ∷ []) ≡ length xs + 1
one_longer [] x = omega arith
one_longer (y ∷ ys) x = let k = one_longer ys x in omega (arith, k)

-- ---- of one broker and one backend

pub makes_of : (p q : Pass) (cs : List (QueueAnswered Envelope)) → Makes p cs q → q.of ≡ p.of
makes_of p q [] m = ap (λ (x : Pass). x.of) m
makes_of p q (c ∷ cs) m = makes_of m.0 q cs m.2 ∙ m.1.0

pub serves_of : (plan : Roster) (s t : Seat) (cs : List TableAnswered) → Serves plan s cs t → t.of ≡ s.of
serves_of plan s t [] m = ap (λ (x : Seat). x.of) m
serves_of plan s t (c ∷ cs) m = serves_of plan m.0 t cs m.2 ∙ m.1.0

-- ---- by index, one after the other

abbrev pub EachRan : (behaviour : Behaviour) → (ℕ → ℕ → Type 0) → Roster → List WorkerSlot → List WorkerSlot → Type 0
EachRan behaviour may_want plan [] [] = Unit {0}
EachRan behaviour may_want plan (x ∷ xs) (y ∷ ys) = RanSlot behaviour may_want plan x y × EachRan behaviour may_want plan xs ys
EachRan behaviour may_want plan xs ys = ⊥

pub each_ran : (behaviour : Behaviour) (may_want : ℕ → ℕ → Type 0) (plan : Roster) (xs ys : List WorkerSlot) → length ys ≡ length xs
    → AllRan behaviour may_want plan xs ys → EachRan behaviour may_want plan xs ys
each_ran behaviour may_want plan [] [] n f = tt
each_ran behaviour may_want plan [] (y ∷ ys) n f = absurd (omega (arith, n))
each_ran behaviour may_want plan (x ∷ xs) [] n f = absurd (omega (arith, n))
each_ran behaviour may_want plan (x ∷ xs) (y ∷ ys) n f =
    (f 0 x (omega arith), each_ran behaviour may_want plan xs ys (omega (arith, n)) (λ i d b. f (suc i) d (omega (arith, b))))

-- ---- the workers of a run

-- what a worker left is of the broker and of the backend of which its pass and its seat were
pub finished_of : (behaviour : Behaviour) (may_want : ℕ → ℕ → Type 0) (plan : Roster) (k : ℕ) (q : Pass) (t : Seat) (r : Record)
    → Finished behaviour may_want plan k q t r → (r.pass.of ≡ q.of) × (r.seat.of ≡ t.of)
finished_of behaviour may_want plan k q t r f = (
  ap (λ (x : Pass). x.of) f.pass_is ∙ makes_of q f.ended.pass f.followed.made f.followed.makes,
  ap (λ (x : Seat). x.of) f.seat_is
      ∙ serves_of plan t f.ended.seat _ f.followed.serves,
)

-- a worker that was ready and is done has finished
finished : (behaviour : Behaviour) (may_want : ℕ → ℕ → Type 0) (plan : Roster) (k : ℕ) (x y : SlotState) (q : Pass) (t : Seat) (r : Record) → x ≡ Ready q t
    → y ≡ Done r → LeavesState behaviour may_want plan k x y → Finished behaviour may_want plan k q t r
finished behaviour may_want plan k x y q t r e f l =
    subst (λ p. LeavesState behaviour may_want plan k (Ready q t) p) f (subst (λ p. LeavesState behaviour may_want plan k p y) e l)

left_of : (x : SlotState) → LeftARecord x → (r : Record) × (x ≡ Done r)
left_of (Done r) d = (r, refl)
left_of (Ready q t) d = absurd d
left_of Lost d = absurd d

ready_of : (b : QueueId) (d : TableId) (x : SlotState) → HasHandles b d x → (q : Pass) × (t : Seat) × (x ≡ Ready q t) × (q.of ≡ b) × (t.of ≡ d)
ready_of b d (Ready q t) h = (q, t, refl, h.0, h.1)
ready_of b d (Done r) h = absurd h
ready_of b d Lost h = absurd h

is_of : (behaviour : Behaviour) (may_want : ℕ → ℕ → Type 0) (b : QueueId) (d : TableId) (plan : Roster) (before after : WorkerSlot) → IsReadySlot b d before
    → RanSlot behaviour may_want plan before after → LeftARecord after.state → IsPostOf b d after.state
is_of behaviour may_want b d plan before after handles ran is =
    let ready = ready_of b d before.state handles in
    let done = left_of after.state is in
    let f : Finished behaviour may_want plan before.number ready.0 ready.1 done.0 =
    finished behaviour may_want plan before.number before.state after.state ready.0 ready.1 done.0 ready.2 done.1 ran.1 in
    let of = finished_of behaviour may_want plan before.number ready.0 ready.1 done.0 f in
    subst (λ p. IsPostOf b d p) (sym done.1) (of.0 ∙ ready.3, of.1 ∙ ready.4)

pub are_of : (behaviour : Behaviour) (may_want : ℕ → ℕ → Type 0) (b : QueueId) (d : TableId) (plan : Roster) (before after : List WorkerSlot)
    → All (IsReadySlot b d) before → EachRan behaviour may_want plan before after → All (λ s. LeftARecord s.state) after → AreOf b d after
are_of behaviour may_want b d plan [] [] a r f = tt
are_of behaviour may_want b d plan [] (y ∷ ys) a r f = absurd r
are_of behaviour may_want b d plan (x ∷ xs) [] a r f = absurd r
are_of behaviour may_want b d plan (x ∷ xs) (y ∷ ys) a r f = (
  is_of behaviour may_want b d plan x y (All-head (IsReadySlot b d) x xs a) r.0 (All-head (λ s. LeftARecord s.state) y ys f),
  are_of behaviour may_want b d plan xs ys (All-tail (IsReadySlot b d) x xs a) r.1 (All-tail (λ s. LeftARecord s.state) y ys f),
)

tally_of_done : (behaviour : Behaviour) (may_want : ℕ → ℕ → Type 0) (k : ℕ) (plan : Roster) (q : Pass) (t : Seat) (slot : WorkerSlot) (r : Record)
    → slot.number ≡ k
    → slot.state ≡ Done r
    → (f : Finished behaviour may_want plan k q t r) → tally_in slot ≡ numbered_counts k f.ended.tally
tally_of_done behaviour may_want k plan q t slot r n e f = ap (λ p. tally_in (record { number = slot.number; state = p })) e
    ∙ (ap (λ m. tally_in (record { number = m; state = Done r })) n ∙ ap (λ c. numbered_counts k c) f.counts)

pub record IsCrewOf (behaviour : Behaviour) (may_want : ℕ → ℕ → Type 0) (plan : Roster) (k : ℕ) (p : Pass) (s : Seat) (p' : Pass) (s' : Seat) (q : Pass)
    (t : Seat) (q' : Pass) (t' : Seat) (after : List WorkerSlot) (ms : List (CallerRun behaviour plan)) : Type 0 where
  pub count : length ms ≡ length after
  pub splits : SplitPasses p (map (λ (m : CallerRun behaviour plan). m.pass) ms) p'
  pub joins : JoinPasses q (map (λ (m : CallerRun behaviour plan). m.ended.pass) ms) q'
  pub seat_splits : SplitSeats plan s (map (λ (m : CallerRun behaviour plan). m.seat) ms) s'
  pub seat_joins : JoinSeats plan t (map (λ (m : CallerRun behaviour plan). m.ended.seat) ms) t'
  pub tallies : map tally_in after ≡ tallies_from behaviour k ms
  pub wanted : AreWanted behaviour plan may_want k ms
  pub done : All (λ x. IsWell x.state) after → Each (λ (m : CallerRun behaviour plan). IsEnded m.ended) ms

well_done : (x : SlotState) (r : Record) → x ≡ Done r → IsWell x → r.fault ≡ None
well_done x r e w = subst IsWell e w

pub joined_of : (behaviour : Behaviour) (may_want : ℕ → ℕ → Type 0) (plan : Roster) (k : ℕ) (before after : List WorkerSlot) (p p' : Pass) (s s' : Seat)
    (q q' : Pass) (t t' : Seat)
    → SplitsOff plan k p s before p' s' → EachRan behaviour may_want plan before after → TakesIn plan q t after q' t'
    → (ms : List (CallerRun behaviour plan)) × IsCrewOf behaviour may_want plan k p s p' s' q t q' t' after ms
joined_of behaviour may_want plan k [] [] p p' s s' q q' t t' m r j =
    ([], record { count = refl; splits = m.0; joins = j.0; seat_splits = m.1; seat_joins = j.1; tallies = refl; wanted = tt; done = λ w. tt })
joined_of behaviour may_want plan k [] (y ∷ ys) p p' s s' q q' t t' m r j = absurd r
joined_of behaviour may_want plan k (x ∷ xs) [] p p' s s' q q' t t' m r j = absurd r
joined_of behaviour may_want plan k (x ∷ xs) (y ∷ ys) p p' s s' q q' t t' m r j =
    let part = m.2 in
    let own : Pass = part.1.0 in
    let own_seat : Seat = part.1.1 in
    let left : Record = j.0 in
    let f : Finished behaviour may_want plan k own own_seat left =
    subst (λ n. Finished behaviour may_want plan n own own_seat left) part.0
    (finished behaviour may_want plan x.number x.state y.state own own_seat left part.1.2 j.1 r.0.1) in
    let caller_run : CallerRun behaviour plan = record { pass = own; seat = own_seat; ended = f.ended; followed = f.followed } in
    let rest = joined_of behaviour may_want plan (suc k) xs ys m.0 p' m.1 s' j.2 q' j.3 t' m.3 r.1 j.7 in
    let c = rest.1 in (
      caller_run ∷ rest.0,
      record {
        count = ap suc c.count;
        splits = (m.0, part.1.3, c.splits);
        joins = (j.2, subst (λ (o : Pass). Owes q o j.2) f.pass_is j.4, j.5, c.joins);
        seat_splits = (m.1, part.1.4, c.seat_splits);
        seat_joins = (j.3, subst (λ (o : Seat). seats.Joined plan t o j.3) f.seat_is j.6, c.seat_joins);
        tallies = ap (λ a. a ∷ map tally_in ys) (tally_of_done behaviour may_want k plan own own_seat y left (r.0.0 ∙ part.0) j.1 f)
            ∙ ap (λ l. numbered_counts k f.ended.tally ∷ l) c.tallies;
        wanted = (f.wanted, c.wanted);
        done = λ w. (f.done (well_done y.state left j.1 (All-head (λ x. IsWell x.state) y ys w)), c.done (All-tail (λ x. IsWell x.state) y ys w));
      },
    )
