-- An ask of a core that its broker or its backend answered.
use Rattle.std.proofs.Common.{◌≡◌, ◌∙◌, ℕ, zero, suc, ◌+◌, ◌≤◌, min, Bool, false, [], ◌∷◌, Some, None, Result, Ok, Err, refl, sym, ap, subst, arith}
use Rattle.std.specs.Prelude.{MatchResult, true, IsSome}
use Rattle.canvas_task.specs.Apply.{Behaviour}
use Rattle.canvas_history.specs.Seats.{BackendView}
use Rattle.canvas_history.specs.Roster.{Roster}
use Rattle.canvas_history.specs.Passes.{Empties}
use Rattle.canvas_runs.specs.Book.{Book, book_on}
use Rattle.canvas_runs.specs.Calls.{broker_call, backend_call, held_by, takes_one}
use Rattle.canvas_runs.specs.Core as C
use Rattle.canvas_runs.specs.Core.{answered, is_inside, Suits, ReadsBack}
use Rattle.canvas_runs.specs.Following.{Makes, Serves}
use Rattle.canvas_history.specs.Lists.{Each}
use Rattle.canvas_runs.specs.Tally.{Counted, CountsMore, publishing, storing, returning, dropping, greatest_count}
use Rattle.canvas_core.specs.Asks.{Asked, Answer, FoundOf, replied}
use Rattle.canvas_core.specs.Books.{no_book}
use Rattle.canvas_core.specs.EnvelopeWorker.{enveloped, enveloped_by, no_tasks}
use Rattle.canvas_core.specs.CorePast.{task_in}
use Rattle.canvas_core.specs.SeatRights.{Can}
use Rattle.canvas_core.specs.CoreState.{CoreView, Progress, located, asked, next, left_told, drops, after_reply, open_of, held as held_envelope, kept_next, task_next}
use Rattle.canvas_core.specs.declared.ask.Ask.TheVariants.{Rest, Ack}
use Rattle.canvas_core.specs.declared.ask.Reply.{Reply}
use Rattle.canvas_core.specs.declared.ask.Reply.TheVariants as R
use Rattle.canvas_core.specs.steps.Members.{members_in}
use Rattle.canvas_worker.specs.WorkerSteps.{OnlyBare, AnsweredByCall}
use Rattle.canvas_worker.specs.Polls.{WorkerView, left_at, progress, with_core, with_answer, lost, CanDeliver, in_hand, Ready, makes_call, answers, acts_last, Acted, Leaves, Ends, EndsWith}
use Rattle.canvas_core.specs.declared.cause.Cause.TheVariants.{Memory}
use Rattle.canvas_worker.specs.declared.record.Record.{Record}
use Rattle.canvas_worker.specs.declared.working.End.{End}
use Rattle.canvas_core.proofs.Rights.Asking.{may_go_on, can_sound}
use Rattle.canvas_core.proofs.Cores.Sound.{Sound}
use Rattle.canvas_core.proofs.Cores.Located.{told_located, reads_located}
use Rattle.canvas_worker.proofs.InHand.{call_can}
use Rattle.canvas_core.proofs.Cores.Opened.{has_told}
use Rattle.canvas_core.proofs.Cores.Resting.{busy_never}
use Rattle.canvas_core.proofs.Cores.CorePasts.{book_told, task_told}
use Rattle.canvas_core.proofs.Cores.ShownAsks.{is_ack, is_rest, drops_so, rests_over}
use Rattle.canvas_worker.proofs.Turns.{tallied, some_none}
use Rattle.canvas_core.proofs.Cores.Counts.{of_queue, of_table}

-- ---- one ask answered by the broker or the backend

-- what an ask leaves of a worker as it was
abbrev pub Beside : WorkerView → WorkerView → Type 0
Beside w u =
    (u.broker ≡ w.broker) × (u.backend ≡ w.backend) × (u.number ≡ w.number) × (u.pass.of ≡ w.broker) × (u.seat.of ≡ w.backend.id) × (u.held ≡ w.held)
    × (u.core.dropped ≡ w.core.dropped)

-- a count that stays, or rises up to what it can hold
abbrev pub risen : ℕ → ℕ → ℕ
risen n zero = n
risen n (suc k) = min greatest_count (n + suc k)

abbrev pub Counts : WorkerView → WorkerView → Asked → Answer → Type 0
Counts w u a r =
    (u.taken ≡ risen w.taken (of_queue takes_one a r)) × (u.published ≡ risen w.published (of_queue publishing a r))
    × (u.first ≡ risen w.first (of_table storing a r)) × (u.parts ≡ risen w.parts (of_table returning a r))

-- From w on, a was asked of its broker or its backend, and the core is answered r; u is the worker before that.
pub record Asks (behaviour : Behaviour) (w u : WorkerView) (a : Asked) (r : Reply) : Type 0 where
  pub asked_is : asked (left_at w) ≡ a
  pub suits : Suits a (replied r)
  pub found : FoundOf (book_on w.backend.plan) r (next w.core)
  pub back : ReadsBack (enveloped_by no_tasks no_book) w.core.left
  pub beside : Beside w u
  pub bare : OnlyBare a (replied r) w.held
  pub makes : Makes w.pass (broker_call a (replied r)) u.pass
  pub serves : Serves w.backend.plan w.seat (backend_call a (replied r)) u.seat
  pub counts : Counts w u a (replied r)
  pub still : answered (enveloped behaviour w.backend.plan) (left_at w) (replied r) ≡ C.resting → (u.held ≡ []) × Empties u.pass
  pub none_dropped : of_queue (dropping w.backend.plan) a (replied r) ≡ 0
  pub core : after_reply behaviour (book_on w.backend.plan) u.core r ≡ after_reply behaviour (book_on w.backend.plan) w.core r

counts_more : (n k m : ℕ) → n ≤ greatest_count → m ≡ risen n k → CountsMore n k m
counts_more n zero m h e = omega (arith, h, e)
counts_more n (suc k) m h e = omega (arith, e)

-- a core whose script is done is answered without a call
pub ack_asks : (behaviour : Behaviour) (w : WorkerView) → Ready w → next w.core ≡ Ack w.core.task → ReadsBack (enveloped_by no_tasks no_book) w.core.left
    → Asks behaviour w w C.ack R.Acked
ack_asks behaviour w ready asks back =
    let is : asked (left_at w) ≡ C.ack = is_ack (book_on w.backend.plan) w.core.task w.core asks in
    record {
      asked_is = is;
      suits = tt;
      found = tt;
      back = back;
      beside = (refl, refl, refl, ready.of, ready.home, refl, refl);
      bare = tt;
      makes = refl;
      serves = refl;
      counts = (refl, refl, refl, refl);
      still = λ rests. absurd (busy_never behaviour w.backend.plan (left_at w) C.acked C.ack is tt rests);
      none_dropped = refl;
      core = refl;
    }

-- a core that rests is answered without a call
pub rest_asks : (behaviour : Behaviour) (w : WorkerView) (more : Bool) → Ready w → next w.core ≡ Rest → ReadsBack (enveloped_by no_tasks no_book) w.core.left
    → Asks behaviour w w C.rest (R.Rested more)
rest_asks behaviour w more ready asks back =
    let is : asked (left_at w) ≡ C.rest = is_rest (book_on w.backend.plan) w.core asks in
    record {
      asked_is = is;
      suits = tt;
      found = tt;
      back = back;
      beside = (refl, refl, refl, ready.of, ready.home, refl, refl);
      bare = tt;
      makes = refl;
      serves = refl;
      counts = (refl, refl, refl, refl);
      still = λ rests. absurd (busy_never behaviour w.backend.plan (left_at w) (C.rested more) C.rest is tt rests);
      none_dropped = refl;
      core = refl;
    }

module _ (behaviour : Behaviour) (w u : WorkerView) (a : Asked) (r : Reply) (ready : Ready w) (x : Asks behaviour w u a r) where
  abbrev plan : Roster
  plan = w.backend.plan

  abbrev book : Book
  book = book_on plan

  abbrev answer : Answer
  answer = replied r

  broker : u.broker ≡ w.broker
  broker = x.beside.0

  backend : u.backend ≡ w.backend
  backend = x.beside.1

  number : u.number ≡ w.number
  number = x.beside.2

  held : u.held ≡ w.held
  held = x.beside.5

  same_drops : u.core.dropped ≡ w.core.dropped
  same_drops = x.beside.6

  suits_left : Suits (asked (left_at w)) answer
  suits_left = subst (λ b. Suits b answer) (sym x.asked_is) x.suits

  sound : Sound book (left_at w)
  sound = can_sound plan w.seat (left_at w) ready.can

  told : located book (left_told behaviour book w.core.left r) ≡ answered (enveloped behaviour plan) (left_at w) answer
  told = told_located behaviour book (members_in plan) w.core.left w.core.task r sound x.found

  -- the worker's progress once its core is answered
  abbrev after : Progress
  after = record {
    pass = u.pass;
    seat = u.seat;
    left = located (book_on u.backend.plan) (left_told behaviour book w.core.left r);
    current = open_of (left_told behaviour book w.core.left r) (kept_next book w.core.left w.core.kept answer);
    held = u.held;
    tally = record { taken = u.taken; published = u.published; first = u.first; parts = u.parts; dropped = u.core.dropped };
  }

  no_more : (n m k : ℕ) → n ≤ greatest_count → m ≡ n → k ≡ 0 → min greatest_count (n + k) ≡ m
  no_more n m k h e z = omega (arith, h, e, z)

  none_lost : (n m k : ℕ) → n ≤ greatest_count → m ≡ n → k ≡ 0 → CountsMore n k m
  none_lost n m k h e z = omega (arith, h, e, z)

  counted : Counted plan ((a, answer) ∷ []) (progress w).tally after.tally
  counted = record {
    taken = counts_more w.taken (of_queue takes_one a answer) u.taken ready.counts.0 x.counts.0;
    published = counts_more w.published (of_queue publishing a answer) u.published ready.counts.1 x.counts.1;
    first = counts_more w.first (of_table storing a answer) u.first ready.counts.2 x.counts.2;
    parts = counts_more w.parts (of_table returning a answer) u.parts ready.counts.3 x.counts.3;
    dropped = none_lost w.core.dropped u.core.dropped (of_queue (dropping plan) a answer) ready.counts.4 same_drops x.none_dropped;
  }

  holds : after.current ≡ held_by (held_envelope w.core) (asked (left_at w)) answer
  holds = book_told behaviour book (members_in plan) w.core.left w.core.kept w.core.task r sound suits_left x.found

  current : after.current ≡ held_by (held_envelope w.core) a answer
  current = holds ∙ ap (λ b. held_by (held_envelope w.core) b answer) x.asked_is

  left_is : after.left ≡ answered (enveloped behaviour plan) (left_at w) answer
  left_is = ap (λ (d : BackendView). located (book_on d.plan) (left_told behaviour book w.core.left r)) backend ∙ told

  pub called : AnsweredByCall behaviour plan (progress w) after a answer
  called = (
    record {
      asked = sym x.asked_is;
      suits = x.suits;
      back = reads_located behaviour book book w.core.left x.back;
      counts = counted;
      left = left_is;
      current = current;
    },
    held,
    x.bare,
    x.makes,
    x.serves,
  )

  -- the envelopes in hand
  again : Each (CanDeliver u.pass) (in_hand after.current u.held)
  again =
      let all : Each (CanDeliver u.pass) (in_hand (held_by (held_envelope w.core) a answer) w.held) =
      call_can a answer (held_envelope w.core) w.held w.pass u.pass x.suits x.makes ready.again in
      subst (λ h. Each (CanDeliver u.pass) (in_hand h u.held)) (sym current)
      (subst (λ es. Each (CanDeliver u.pass) (in_hand (held_by (held_envelope w.core) a answer) es)) (sym held) all)

  has_current : is_inside (left_told behaviour book w.core.left r) ≡ true → IsSome after.current
  has_current i =
      subst (λ h. IsSome h) (sym holds) (has_told behaviour plan w.core.left w.core.kept w.core.task r sound suits_left x.found ready.current i)

  names_task : is_inside (left_told behaviour book w.core.left r) ≡ true → task_next book w.core.left w.core.task answer ≡ task_in book after.current
  names_task i =
      task_told behaviour book (members_in plan) w.core.left w.core.kept w.core.task r sound suits_left x.found ready.task i ∙ ap (task_in book) (sym holds)

  can : Can plan u.seat (located book (left_told behaviour book w.core.left r))
  can =
      subst (Can plan u.seat) (sym told)
      (may_go_on behaviour plan ready.plan w.seat u.seat (left_at w) answer ready.can suits_left
      (subst (λ b. Serves plan w.seat (backend_call b answer) u.seat) (sym x.asked_is) x.serves))

  -- the core that was told
  abbrev core : CoreView
  core = record {
    left = left_told behaviour book w.core.left r;
    is_out = false;
    dropped = u.core.dropped;
    kept = kept_next book w.core.left w.core.kept answer;
    task = task_next book w.core.left w.core.task answer;
  }

  core_is : after_reply behaviour (book_on u.backend.plan) u.core r ≡ core
  core_is =
      let so : drops book w.core.left answer ≡ of_queue (dropping plan) a answer =
      drops_so plan w.core.left answer ∙ ap (λ b. of_queue (dropping plan) b answer) x.asked_is in
      let dropped : min greatest_count (w.core.dropped + drops book w.core.left answer) ≡ u.core.dropped =
      no_more w.core.dropped u.core.dropped (drops book w.core.left answer) ready.counts.4 same_drops (so ∙ x.none_dropped) in
      ap (λ (d : BackendView). after_reply behaviour (book_on d.plan) u.core r) backend ∙ x.core
      ∙ ap (λ (n : ℕ). record {
        left = left_told behaviour book w.core.left r;
        is_out = false;
        dropped = n;
        kept = kept_next book w.core.left w.core.kept answer;
        task = task_next book w.core.left w.core.task answer;
      }) dropped

  ready_then : Ready (with_core u core)
  ready_then = record {
    of = x.beside.3 ∙ sym broker;
    home = x.beside.4 ∙ sym (ap (λ (d : BackendView). d.id) backend);
    plan = (ready.plan.0, ready.plan.1, ap (λ (d : BackendView). d.plan) backend ∙ ready.plan.2);
    inside = refl;
    can = subst (λ (d : BackendView). Can d.plan u.seat (located (book_on d.plan) core.left)) (sym backend) can;
    rested = λ rests. x.still (sym told ∙ ap (located book) rests);
    current = has_current;
    task = λ i. subst (λ (d : BackendView). core.task ≡ task_in (book_on d.plan) after.current) (sym backend) (names_task i);
    again = again;
    counts = tallied plan a answer (progress w).tally after.tally counted;
  }

  told_is : (v : WorkerView) → v ≡ with_answer behaviour u r → Acted behaviour w v
  told_is v e =
      subst (λ z. Acted behaviour w z) (sym (e ∙ ap (λ c. with_core u c) core_is))
      (record { broker = broker; backend = backend; number = number; ready = ready_then; alone = λ _. held; moved = answers (makes_call a answer called) })

  fails : (s : Record) → Leaves (lost u) (Some Memory) s → Ends behaviour w s
  fails s leaves = record {
    ended = after;
    counted = tallied plan a answer (progress w).tally after.tally counted;
    moved = acts_last (makes_call a answer called);
    is_of = record {
      same_number = leaves.same_number ∙ number;
      pass = leaves.pass;
      seat = leaves.seat;
      counts = leaves.counts;
      whole = λ none. absurd
          (some_none Memory (sym leaves.fault_is ∙ none));
    };
  }

  lost_is : (v : WorkerView) → v ≡ lost u → EndsWith behaviour w (Some Memory) v
  lost_is v e s leaves = fails s (subst (λ z. Leaves z (Some Memory) s) e leaves)

  well : {A : Type 0} (result : Result A End) (v : WorkerView)
      → MatchResult result (λ _. v ≡ with_answer behaviour u r) (λ e. (v ≡ lost u) × (e.fault ≡ Some Memory))
      → MatchResult result (λ _. Acted behaviour w v) (λ e. EndsWith behaviour w e.fault v)
  well (Ok _) v is = told_is v is
  well (Err e) v is = subst (λ f. EndsWith behaviour w f v) (sym is.1) (lost_is v is.0)

  -- a worker that ends without a fault
  ends_so : (v : WorkerView) → v ≡ with_answer behaviour u r → (s : Record) → Leaves v None s → (after.left ≡ C.over) × (after.held ≡ []) × Empties after.pass
      → Ends behaviour w s
  ends_so v e s leaves whole =
      let is : v ≡ with_core u core = e ∙ ap (λ c. with_core u c) core_is in
      record {
        ended = after;
        counted = tallied plan a answer (progress w).tally after.tally counted;
        moved = acts_last (makes_call a answer called);
        is_of = record {
          same_number = leaves.same_number ∙ ap (λ (z : WorkerView). z.number) is ∙ number;
          pass = leaves.pass ∙ ap (λ (z : WorkerView). z.pass) is;
          seat = leaves.seat ∙ ap (λ (z : WorkerView). z.seat) is;
          counts = leaves.counts ∙ ap (λ (z : WorkerView). (progress z).tally) is;
          whole = λ _. whole;
        };
      }

pub asked_well : {A : Type 0} (behaviour : Behaviour) (w u v : WorkerView) (a : Asked) (r : Reply) (result : Result A End)
    → MatchResult result (λ _. v ≡ with_answer behaviour u r) (λ e. (v ≡ lost u) × (e.fault ≡ Some Memory))
    → Ready w → Asks behaviour w u a r → MatchResult result (λ _. Acted behaviour w v) (λ e. EndsWith behaviour w e.fault v)
asked_well behaviour w u v a r result is ready x = well behaviour w u a r ready x result v is

-- where memory was refused, to the queue or to the core
pub ends_badly : (behaviour : Behaviour) (w u : WorkerView) (a : Asked) (r : Reply) (e : End) → e.fault ≡ Some Memory → Ready w → Asks behaviour w u a r
    → EndsWith behaviour w e.fault u
ends_badly behaviour w u a r e is ready x s leaves =
    let so : Leaves u (Some Memory) s = subst (λ f. Leaves u f s) is leaves in
    fails behaviour w u a r ready x s (record { same_number = so.same_number; pass = so.pass; seat = so.seat; counts = so.counts; fault_is = so.fault_is })

pub asked_badly : (behaviour : Behaviour) (w u v : WorkerView) (a : Asked) (r : Reply) (e : End) → (v ≡ lost u) × (e.fault ≡ Some Memory) → Ready w
    → Asks behaviour w u a r → EndsWith behaviour w e.fault v
asked_badly behaviour w u v a r e is ready x = subst (λ f. EndsWith behaviour w f v) (sym is.1) (lost_is behaviour w u a r ready x v is.0)

-- a worker that learns that no more will come
pub rests_well : (behaviour : Behaviour) (w u v : WorkerView) → v ≡ with_answer behaviour u (R.Rested false) → Ready w
    → Asks behaviour w u C.rest (R.Rested false)
    → EndsWith behaviour w None v
rests_well behaviour w u v is ready x s leaves =
    let rests : w.core.left ≡ C.resting = rests_over (book_on w.backend.plan) w.core.left x.asked_is in
    ends_so behaviour w u C.rest (R.Rested false) ready x v is s leaves (
      ap (λ l. located (book_on u.backend.plan) (left_told behaviour (book_on w.backend.plan) l (R.Rested false))) rests,
      x.beside.5 ∙ (ready.rested rests).0,
      subst (λ p. Empties p) (sym x.makes) (ready.rested rests).1,
    )
