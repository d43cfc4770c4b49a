-- What a run on threads promises, from what worker 0 has taken in, its own work and its reads.
use Rattle.std.proofs.Common.{◌≡◌, ◌∙◌, ℕ, zero, suc, ◌+◌, List, [], ◌∷◌, ◌++◌, All, length, map, min, Option, Some, None, inl, refl, sym, ap, subst, append-nil, arith}
use Rattle.std.proofs.lemmas.List.Elements.{All-head, All-tail}
use Rattle.std.specs.Prelude.{IfNone}
use Rattle.canvas_task.specs.Apply.{Behaviour}
use Rattle.canvas_history.specs.Passes.{QueueId}
use Rattle.canvas_history.specs.Seats.{TableId, BackendView}
use Rattle.canvas_semantics.specs.Tree.{count}
use Rattle.canvas_semantics.specs.Evaluation.{State, state_of, eval, nothing}
use Rattle.canvas_semantics.specs.Line.{Line, count_line, tree_of}
use Rattle.canvas_rewrite.specs.Planned.{IsPlan}
use Rattle.canvas_semantics.specs.States.{states, numbers_from}
use Rattle.canvas_semantics.proofs.Numbered.{count_elements}
use Rattle.canvas_envelope.specs.Content.{Content}
use Rattle.canvas_effects.specs.Effects.{first_messages}
use Rattle.canvas_envelope.specs.declared.envelope.Envelope.{Envelope}
use Rattle.canvas_history.specs.Table.{Log}
use Rattle.canvas_history.specs.Roster.{roster_of}
use Rattle.canvas_history.specs.Queue.{QueueEntry as Entries}
use Rattle.canvas_runs.specs.Following.{Pass, Seat, Makes, Serves, starting, IsDone, IsOver}
use Rattle.canvas_history.specs.Lists.{Each}
use Rattle.canvas_runs.specs.CallerLaws.{broker_calls_seen}
use Rattle.canvas_runs.specs.CallerRuns.{PlanWorker, HasFollowed, CallerRun, Ran, EndedWell, OwnTally, first_pass, first_seat}
use Rattle.canvas_runs.specs.CallerRows.{reads_from, RanTo, RanWell}
use Rattle.canvas_semantics.specs.States.{EachMay}
use Rattle.canvas_runs.specs.Run.{IsRead, published_all}
use Rattle.canvas_runs.specs.Tally.{Tally as Counts, EachCounts, greatest_count}
use Rattle.canvas_runs.specs.Worker.{worker_of, sealed}
use Rattle.canvas_runs.proofs.Laws.Causes.{by_cause, completed_once, by_its_cause}
use Rattle.canvas_runs.proofs.Laws.FirstLaw.{first_part}
use Rattle.canvas_runs.proofs.Lists.Words.{each_weaker}
use Rattle.canvas_runs.specs.Core.{Between}
use Rattle.canvas_runs.proofs.ByCallers.FromCallerRuns.{passes, seats, the_run, the_closed}
use Rattle.canvas_runs.proofs.ByCallers.Rows.{rows_of_well, rows_of_any}
use Rattle.canvas_runs.proofs.ByCallers.Tallies.{tallies_count}
use Rattle.canvas_worker.specs.Finished.{Finished}
use Rattle.canvas_worker.proofs.Polls.Stepping.{nothing_done}
use Rattle.canvas_worker.specs.declared.record.Record.{Record}
use Rattle.canvas_core.specs.declared.cause.Cause.{Cause}
use Rattle.canvas_core.specs.declared.cause.Cause.TheVariants.{Memory, Stopped}
use Rattle.canvas_engine.specs.Correct.{AreWorkers}
use Rattle.canvas_engine.specs.Evidence.{IsRun, AreTallies, IsThreadFault}
use Rattle.canvas_engine.specs.steps.Gathering.{AreGathered, AreRead, JoinedWorkers, IsStart, IsWellGathered, AreWanted, leaves, tallies_from}
use Rattle.canvas_engine.specs.steps.WorkerSlots.{AllRan, IsWell, IsWhy, TakesIn, nothing_counted, tally_in}
use Rattle.canvas_engine.specs.declared.threads.ending.Run.{Run}
use Rattle.canvas_engine.specs.declared.threads.running.Start.{Start}
use Rattle.canvas_engine.specs.declared.threads.slot.WorkerSlot.{WorkerSlot}
use Rattle.canvas_engine.proofs.OnThreads.WorkerSlots.{each_ran, joined_of}
use Rattle.canvas_engine.specs.declared.by_turns.fault.RunFault.TheVariants.{Halted}
use Rattle.canvas_engine.specs.declared.threads.records.Records.{Records}
use Rattle.canvas_engine.specs.declared.threads.records.Tally.{Tally}

pub reads_are_reads : (k : ℕ) (rows : List State) → Each IsRead (reads_from k rows)
reads_are_reads k [] = tt
reads_are_reads k (s ∷ ss) = (tt, reads_are_reads (suc k) ss)

-- what is over isn't inside a script
over_done : (w : PlanWorker) → IsOver w → IsDone w
over_done w h = (subst (λ s. Between s) (sym h.0) tt, h.1)

module _ (behaviour : Behaviour) (l : Line) (n : ℕ) (queue : QueueId) (table : TableId) (pass : Pass) (seat : Seat)
    (c : JoinedWorkers behaviour l n queue table pass seat) where
  -- worker 0 works on, and reads
  abbrev pub ran_with : (own : PlanWorker) → HasFollowed behaviour (roster_of l) (starting pass seat) own → (last : Pass) → last ≡ own.pass → (at : Seat)
      → own.seat ≡ at → (after : Seat) (rows : List State)
      → Serves (roster_of l) at (reads_from 1 rows) after → Ran behaviour l last after
  ran_with own follows last e at f after rows reads = record {
    callers = c.callers;
    opening = first_messages l;
    unsent = [];
    opens = sym (append-nil (first_messages l));
    opens_back = c.back;
    queue = queue;
    pass_parted = c.pass_parted;
    pass_sent = c.pass_sent;
    pass_joined = pass;
    splits = c.splits;
    sends = c.sends;
    joins = c.joins;
    table = table;
    seat_parted = c.seat_parted;
    seat_joined = seat;
    seat_splits = c.seat_splits;
    seat_joins = c.seat_joins;
    own = own;
    works = follows;
    last = e;
    closing = reads_from 1 rows;
    closes = reads_are_reads 1 rows;
    ends = subst (λ (x : Seat). Serves (roster_of l) x (reads_from 1 rows) after) (sym f) reads;
  }

  abbrev pub ran_to : (own : PlanWorker) → HasFollowed behaviour (roster_of l) (starting pass seat) own → (last : Pass) → last ≡ own.pass → (at : Seat)
      → own.seat ≡ at → (after : Seat) (rows : List State)
      → Serves (roster_of l) at (reads_from 1 rows) after → length rows ≡ count_line l → RanTo behaviour l last after rows
  ran_to own follows last e at f after rows reads many = record { ran = ran_with own follows last e at f after rows reads; read = refl; each = many }

  -- a run that ended early: each row is pending or its task's state
  pub rows_may : IsPlan l → (own : PlanWorker) → HasFollowed behaviour (roster_of l) (starting pass seat) own → (at : Seat) → own.seat ≡ at
      → (after : Seat) (rows : List State)
      → Serves (roster_of l) at (reads_from 1 rows) after → length rows ≡ count_line l → EachMay rows (states behaviour (tree_of l))
  rows_may planned own follows at f after rows reads many =
      rows_of_any behaviour l planned own.pass after rows (ran_to own follows own.pass refl at f after rows reads many)

  -- a run that ended well
  module _ (r : Record) (may_want : ℕ → ℕ → Type 0) (f : Finished behaviour may_want (roster_of l) 0 pass seat r) (fine : r.fault ≡ None)
      (done : Each (λ (m : CallerRun behaviour (roster_of l)). IsOver m.ended) c.callers) where
    pub ended_well : (after : Seat) (rows : List State) (reads : Serves (roster_of l) r.seat (reads_from 1 rows) after)
        → EndedWell behaviour l r.pass after (ran_with f.ended f.followed r.pass f.pass_is r.seat (sym f.seat_is) after rows reads)
    ended_well after rows reads =
        record {
          all_sent = refl;
          empty = f.empty fine;
          own = over_done f.ended (f.done fine);
          each = each_weaker
              (λ (m : CallerRun behaviour (roster_of l)). over_done m.ended) c.callers done;
        }

    abbrev pub ran_well : (after : Seat) (rows : List State) → Serves (roster_of l) r.seat (reads_from 1 rows) after → length rows ≡ count_line l
        → RanWell behaviour l r.pass after rows
    ran_well after rows reads many =
        record { to = ran_to f.ended f.followed r.pass f.pass_is r.seat (sym f.seat_is) after rows reads many; well = ended_well after rows reads }

-- ---- counts

tallies_are : (behaviour : Behaviour) → {plan : _} (queue : List (Entries Envelope)) (table : Log) (k : ℕ) (ms : List (CallerRun behaviour plan))
    → EachCounts queue table k (map (λ (m : CallerRun behaviour plan). m.ended.tally) ms) → AreTallies queue table k (tallies_from behaviour k ms)
tallies_are behaviour queue table k [] c = tt
tallies_are behaviour queue table k (m ∷ ms) c = (refl, c.0, tallies_are behaviour queue table (suc k) ms c.1)

long_tallies : (behaviour : Behaviour) → {plan : _} (k : ℕ) (ms : List (CallerRun behaviour plan)) → length (tallies_from behaviour k ms) ≡ length ms
long_tallies behaviour k [] = refl
long_tallies behaviour k (m ∷ ms) = ap suc (long_tallies behaviour (suc k) ms)

-- the halves of a sum in the other order
swapped : (a b : ℕ) → min greatest_count (a + b) ≡ min greatest_count (b + a)
swapped a b = let same : a + b ≡ b + a = omega arith in ap (λ n. min greatest_count n) same

module _ (behaviour : Behaviour) (l : Line) (n : ℕ) (b : QueueId) (d : BackendView) (pass : Pass) (seat : Seat)
    (c : JoinedWorkers behaviour l n b d.id pass seat)
    (planned : IsPlan l) where
  module _ (r : Record) (may_want : ℕ → ℕ → Type 0) (f : Finished behaviour may_want (roster_of l) 0 pass seat r) (fine : r.fault ≡ None)
      (done : Each (λ (m : CallerRun behaviour (roster_of l)). IsOver m.ended) c.callers) (after : Seat) (rows : List State)
      (reads : Serves (roster_of l) r.seat (reads_from 1 rows) after) (many : length rows ≡ count_line l) where
    abbrev whole : RanWell behaviour l r.pass after rows
    whole = ran_well behaviour l n b d.id pass seat c r may_want f fine done after rows reads many

    abbrev this : Ran behaviour l r.pass after
    this = whole.to.ran

    -- worker 0's counts, the first messages among them
    abbrev own_counts : Counts
    own_counts = record {
      taken = r.taken;
      published = min greatest_count
          (r.published + length (first_messages l));
      first = r.first;
      parts = r.parts;
      dropped = r.dropped;
    }

    own_tally : OwnTally behaviour l r.pass after this own_counts
    own_tally = (
      ap (λ (t : Counts). t.taken) f.counts,
      swapped r.published (length (first_messages l)) ∙ ap (λ (t : Counts). min greatest_count (length (first_messages l) + t.published)) f.counts,
      ap (λ (t : Counts). t.first) f.counts,
      ap (λ (t : Counts). t.parts) f.counts,
      ap (λ (t : Counts). t.dropped) f.counts,
    )

    abbrev records_of : List Tally → Records
    records_of ts = record { broker = b; pass = r.pass; backend = d; seat = after; workers = ts }

    abbrev all_tallies : List Tally
    all_tallies = record {
      number = 0;
      taken = r.taken;
      published = min greatest_count
          (r.published + length (first_messages l));
      first = r.first;
      parts = r.parts;
      dropped = r.dropped;
    } ∷ tallies_from behaviour 1 c.callers

    pub is_run : r.pass.of ≡ b → after.of ≡ d.id → d.plan ≡ roster_of l → IsRun behaviour l n rows (records_of all_tallies)
    is_run of seat_of plan =
        let counted = tallies_count behaviour l planned r.pass after this whole.well own_counts own_tally in
        let run = the_run behaviour l r.pass after this in
        record {
          objects = (of, seat_of, plan);
          ran = whole;
          workers = c.count;
          of_broker = (passes behaviour l r.pass after this).1;
          of_backend = seats behaviour l r.pass after this;
          run = run;
          queue = refl;
          table = refl;
          closed = the_closed behaviour l r.pass after this whole.well;
          tallies = (refl, counted.0, tallies_are behaviour (broker_calls_seen r.pass) after.seen 1 c.callers counted.1);
          each_tally = ap suc (long_tallies behaviour 1 c.callers ∙ c.count);
          once = λ k. (first_part behaviour l planned run).published_once k;
          by_cause = by_cause behaviour l planned run;
          by_its_cause = by_its_cause behaviour l planned run;
          completed_once = λ g. completed_once behaviour l planned run g;
          are = rows_of_well behaviour l planned r.pass after rows whole;
        }

-- ---- runs that ended early

pub halted_may : (n : ℕ) (ss : List State) (cause : Cause) (rows : List State) → AreWorkers n → EachMay rows ss
    → IsThreadFault n ss (Halted cause (Some (record { rows = rows })))
halted_may n ss Memory rows w may = (w, may)
halted_may n ss Stopped rows w may = (w, may)

long_numbers : (k n : ℕ) → length (numbers_from k n) ≡ n
long_numbers k zero = refl
long_numbers k (suc n) = ap suc (long_numbers (suc k) n)

long_map : {X Y : Type 0} (f : X → Y) (xs : List X) → length (map f xs) ≡ length xs
long_map f [] = refl
long_map f (x ∷ xs) = ap suc (long_map f xs)

-- there is a state for each task
pub long_states : (behaviour : Behaviour) → (l : Line) → length (states behaviour (tree_of l)) ≡ count_line l
long_states behaviour l = long_map (λ k. state_of k (eval behaviour (tree_of l) nothing).rows) (numbers_from 1 (count (tree_of l)))
    ∙ (long_numbers 1 (count (tree_of l)) ∙ count_elements l)

-- and an envelope for each message
pub long_envelopes : (es : List Envelope) (ms : List Content) → es ≡ map sealed ms → length es ≡ length ms
long_envelopes es ms e = ap (λ (xs : List Envelope). length xs) e ∙ long_map sealed ms

-- rows that hold nothing
pub pending_may : (rows ss : List State) → length rows ≡ length ss → All (λ s. s ≡ None) rows → EachMay rows ss
pending_may [] [] e p = tt
pending_may [] (s ∷ ss) e p = absurd (omega (arith, e))
pending_may (r ∷ rs) [] e p = absurd (omega (arith, e))
pending_may (r ∷ rs) (s ∷ ss) e p = (inl (All-head (λ s. s ≡ None) r rs p), pending_may rs ss (omega (arith, e)) (All-tail (λ s. s ≡ None) r rs p))

-- the rows that worker 0 reads where it has done nothing else
pub unworked_may : (behaviour : Behaviour) → (l : Line) (n : ℕ) (queue : QueueId) (table : TableId) (pass : Pass) (seat : Seat)
    → JoinedWorkers behaviour l n queue table pass seat → IsPlan l → (after : Seat) (rows : List State)
    → Serves (roster_of l) seat (reads_from 1 rows) after → length rows ≡ count_line l → EachMay rows (states behaviour (tree_of l))
unworked_may behaviour l n queue table pass seat c planned after rows reads many =
    rows_may behaviour l n queue table pass seat c planned (starting pass seat)
    (nothing_done (worker_of behaviour (roster_of l)) (roster_of l) (starting pass seat)
    (omega arith, omega arith, omega arith, omega arith, omega arith)) seat refl after rows reads many

-- and those that it reads where it has worked, however that ended
pub worked_may : (behaviour : Behaviour) → (l : Line) (n : ℕ) (queue : QueueId) (table : TableId) (pass : Pass) (seat : Seat)
    → JoinedWorkers behaviour l n queue table pass seat → IsPlan l → (r : Record) (may_want : ℕ → ℕ → Type 0)
    → Finished behaviour may_want (roster_of l) 0 pass seat r
    → (after : Seat) (rows : List State)
    → Serves (roster_of l) r.seat (reads_from 1 rows) after → length rows ≡ count_line l → EachMay rows (states behaviour (tree_of l))
worked_may behaviour l n queue table pass seat c planned r may_want f after rows reads many =
    rows_may behaviour l n queue table pass seat c planned f.ended f.followed r.seat (sym f.seat_is) after rows reads many

-- ---- what worker 0 has taken in

pub gathered : (behaviour : Behaviour) (may_want : ℕ → ℕ → Type 0) (l : Line) (n : ℕ) (s : Start) (start : IsStart l n s) (sent : Pass)
    (after : List WorkerSlot)
    (p : Pass) (t : Seat)
    → Makes s.run.handles.pass (published_all s.envelopes.items) sent → AllRan behaviour may_want s.run.objects.backend.plan s.slots.items after
    → length after ≡ length s.slots.items → TakesIn s.run.objects.backend.plan sent s.run.handles.seat after p t
    → (c : JoinedWorkers behaviour l n s.run.objects.broker s.run.objects.backend.id p t) × AreWanted behaviour (roster_of l) may_want 1 c.callers
    × (map tally_in after ≡ tallies_from behaviour 1 c.callers)
    × (All (λ x. IsWell x.state) after → Each (λ (m : CallerRun behaviour (roster_of l)). IsOver m.ended) c.callers)
gathered behaviour may_want l n s start sent after p t made ran many taken =
    let each = each_ran behaviour may_want (roster_of l) s.slots.items after many
    (subst (λ plan. AllRan behaviour may_want plan s.slots.items after) start.plan ran) in
    let all = joined_of behaviour may_want (roster_of l) 1 s.slots.items after (first_pass s.run.objects.broker) s.run.handles.pass
    (first_seat s.run.objects.backend.id) s.run.handles.seat sent p s.run.handles.seat t start.parts each (subst (λ plan. TakesIn plan sent s.run.handles.seat after p t) start.plan taken) in
    let c = all.1 in (
      record {
        callers = all.0;
        count = c.count ∙ (many ∙ start.count);
        pass_parted = s.run.handles.pass;
        pass_sent = sent;
        splits = c.splits;
        sends = subst (λ es. Makes s.run.handles.pass (published_all es) sent) start.envelopes made;
        back = start.back;
        joins = c.joins;
        seat_parted = s.run.handles.seat;
        seat_splits = c.seat_splits;
        seat_joins = c.seat_joins;
      },
      c.wanted,
      c.tallies,
      c.done,
    )

--- where nobody ended early all ended well
pub why_well : (slots : List WorkerSlot) (x : Option Cause) → IsWhy slots x → IfNone x (All (λ s. IsWell s.state) slots)
why_well slots None w = w
why_well slots (Some Memory) w = tt
why_well slots (Some Stopped) w = tt

pub if_none : {X : Type 0} {P Q : Type 0} (x : Option X) → (P → Q) → IfNone x P → IfNone x Q
if_none None f p = f p
if_none (Some a) f p = tt

-- where none of them ended with a fault
pub well_gathered : (behaviour : Behaviour) → (l : Line) (ms : List (CallerRun behaviour (roster_of l))) (xs after : List WorkerSlot)
    (before counted : List Tally)
    → xs ≡ after → before ≡ nothing_counted 0 ∷ [] → map tally_in after ≡ tallies_from behaviour 1 ms
    → (All (λ x. IsWell x.state) after → Each (λ (m : CallerRun behaviour (roster_of l)). IsOver m.ended) ms)
    → All (λ x. IsWell x.state) xs × (counted ≡ before ++ map tally_in xs) → IsWellGathered behaviour l ms counted
well_gathered behaviour l ms xs after before counted same b t d w = record {
  done = d (subst (All (λ x. IsWell x.state)) same w.0);
  tallies = w.1 ∙ (ap (λ ts. ts ++ map tally_in xs) b ∙ ap (λ ts. nothing_counted 0 ∷ ts) (ap (λ ys. map tally_in ys) same ∙ t));
}

-- a run that worker 0 has concluded
pub concluded : (behaviour : Behaviour) (l : Line) (n : ℕ) (g : Run) (h : AreGathered behaviour l n None g) (r : Record)
    → Finished behaviour (λ _ _. ⊥) (roster_of l) 0 g.handles.pass g.handles.seat r → r.fault ≡ None → r.pass.of ≡ g.objects.broker
    → (t : Seat) → t.of ≡ g.objects.backend.id → (rows : List State) → AreRead l r.seat rows t
    → IsRun behaviour l n rows (leaves g.objects r t g.first g.tallies.items)
concluded behaviour l n g h r f fine of t own rows read =
    subst (λ m. IsRun behaviour l n rows (leaves g.objects r t m g.tallies.items)) (sym h.first)
    (subst (λ ts. IsRun behaviour l n rows (leaves g.objects r t (length (first_messages l)) ts)) (sym h.well.tallies)
    (is_run behaviour l n g.objects.broker g.objects.backend g.handles.pass g.handles.seat h.joined h.planned r
    (λ _ _. ⊥) f fine h.well.done t rows read.1 read.0 of own h.plan))
