-- An ask of a core that is answered with an envelope.
use Rattle.std.proofs.Common.{◌≡◌, ◌∙◌, ℕ, ◌+◌, min, false, List, [], ◌∷◌, ◌++◌, Some, Result, Ok, Err, refl, sym, ap, subst}
use Rattle.std.specs.Prelude.{MatchResult, true, IsSome}
use Rattle.canvas_task.specs.Apply.{Behaviour}
use Rattle.canvas_envelope.specs.declared.envelope.Envelope.{Envelope}
use Rattle.canvas_history.specs.Seats.{BackendView}
use Rattle.canvas_history.specs.Roster.{Roster}
use Rattle.canvas_history.specs.Queue as queue
use Rattle.canvas_history.specs.Passes.{Took}
use Rattle.canvas_runs.specs.Book.{Book, book_on}
use Rattle.canvas_runs.specs.Calls.{backend_call, held_by}
use Rattle.canvas_runs.specs.Core as C
use Rattle.canvas_runs.specs.Core.{answered, is_inside, Suits, ReadsBack}
use Rattle.canvas_runs.specs.Following.{Seat, Serves}
use Rattle.canvas_history.specs.Lists.{Each}
use Rattle.canvas_runs.specs.Tally.{Tally, Counted, dropping, greatest_count}
use Rattle.canvas_core.specs.EnvelopeWorker.{enveloped}
use Rattle.canvas_core.specs.CorePast.{task_in}
use Rattle.canvas_core.specs.SeatRights.{Can}
use Rattle.canvas_core.specs.CoreState.{CoreView, Progress, located, asked, next, left_told, drops, after_reply, held, kept_next, task_next}
use Rattle.canvas_core.specs.declared.ask.Ask.TheVariants.{Take}
use Rattle.canvas_core.specs.declared.ask.Reply.{Reply}
use Rattle.canvas_core.specs.declared.ask.Reply.TheVariants as R
use Rattle.canvas_core.specs.steps.Members.{members_in}
use Rattle.canvas_worker.specs.WorkerSteps.{Batched, FromHeld}
use Rattle.canvas_worker.specs.Polls.{WorkerView, left_at, progress, with_core, with_answer, lost, one_taken, CanDeliver, in_hand, Ready, gives_held, answers, keeps_batch, Acted, Leaves, Ends, EndsWith}
use Rattle.canvas_core.specs.declared.cause.Cause.TheVariants.{Memory}
use Rattle.canvas_worker.specs.declared.record.Record.{Record}
use Rattle.canvas_worker.specs.declared.working.End.{End}
use Rattle.canvas_core.proofs.Rights.Asking.{may_go_on, can_sound}
use Rattle.canvas_core.proofs.Cores.Sound.{Sound}
use Rattle.canvas_core.proofs.Cores.Located.{told_located, reads_located}
use Rattle.canvas_core.proofs.Cores.CorePasts.{book_told, task_told}
use Rattle.canvas_core.proofs.Cores.ShownAsks.{is_take, drops_so, takes_taking, reads_back}
use Rattle.canvas_worker.proofs.InHand.{batch_can, but_open}
use Rattle.canvas_core.proofs.Cores.Resting.{given_never}
use Rattle.canvas_worker.proofs.Turns.{unchanged, one_more, tallied, some_none}
use Rattle.canvas_core.proofs.Cores.Counts.{of_queue}

-- ---- an envelope given to the core

same_tallies : {a b c d n p q r s m : ℕ} → a ≡ p → b ≡ q → c ≡ r → d ≡ s → n ≡ m
    → ◌≡◌ {A = Tally} (record { taken = a; published = b; first = c; parts = d; dropped = n })
    (record { taken = p; published = q; first = r; parts = s; dropped = m })
same_tallies e f g h i = cc

-- Where from w on es were taken, and e is the first of all that is held then; u is the worker before its core is given it.
pub record Takes (w u : WorkerView) (es : List Envelope) (e : Envelope) : Type 0 where
  pub asks : next w.core ≡ Take
  pub broker : u.broker ≡ w.broker
  pub backend : u.backend ≡ w.backend
  pub number : u.number ≡ w.number
  pub of : u.pass.of ≡ w.broker
  pub seat : u.seat ≡ w.seat
  pub core : u.core ≡ w.core
  pub took : Took w.pass es u.pass
  pub held : w.held ++ es ≡ e ∷ u.held
  pub alone : w.alone ≡ true → u.held ≡ w.held
  pub taken : u.taken ≡ w.taken
  pub published : u.published ≡ w.published
  pub first : u.first ≡ w.first
  pub parts : u.parts ≡ w.parts

module _ (behaviour : Behaviour) (w u : WorkerView) (es : List Envelope) (e : Envelope) (ready : Ready w) (x : Takes w u es e) where
  abbrev plan : Roster
  plan = w.backend.plan

  abbrev book : Book
  book = book_on plan

  abbrev reply : Reply
  reply = R.Taken (Some e)

  asked_is : asked (left_at w) ≡ C.to_queue queue.take
  asked_is = is_take book w.core x.asks

  suits_left : Suits (asked (left_at w)) (C.from_queue (Some e))
  suits_left = subst (λ b. Suits b (C.from_queue (Some e))) (sym asked_is) tt

  sound : Sound book (left_at w)
  sound = can_sound plan w.seat (left_at w) ready.can

  told : located book (left_told behaviour book w.core.left reply) ≡ answered (enveloped behaviour plan) (left_at w) (C.from_queue (Some e))
  told = told_located behaviour book (members_in plan) w.core.left w.core.task reply sound tt

  -- with what was taken, before the core is given any of it
  abbrev between : Progress
  between = record { pass = u.pass; seat = w.seat; left = left_at w; current = held w.core; held = w.held ++ es; tally = (progress w).tally }

  batched : Batched (progress w) between es
  batched = (refl, x.took, refl, refl, refl, refl)

  abbrev core : CoreView
  core = record {
    left = left_told behaviour book w.core.left reply;
    is_out = false;
    dropped = min greatest_count
        (w.core.dropped + of_queue (dropping plan) (C.to_queue queue.take) (C.from_queue (Some e)));
    kept = kept_next book w.core.left w.core.kept (C.from_queue (Some e));
    task = task_next book w.core.left w.core.task (C.from_queue (Some e));
  }

  core_is : after_reply behaviour (book_on u.backend.plan) u.core reply ≡ core
  core_is =
      let so : drops book w.core.left (C.from_queue (Some e)) ≡ of_queue (dropping plan) (C.to_queue queue.take) (C.from_queue (Some e)) =
      drops_so plan w.core.left (C.from_queue (Some e)) ∙ ap (λ b. of_queue (dropping plan) b (C.from_queue (Some e))) asked_is in
      ap (λ (d : BackendView). after_reply behaviour (book_on d.plan) u.core reply) x.backend
      ∙ ap (λ c. after_reply behaviour book c reply) x.core
      ∙ ap (λ (n : ℕ). record {
        left = left_told behaviour book w.core.left reply;
        is_out = false;
        dropped = min greatest_count (w.core.dropped + n);
        kept = kept_next book w.core.left w.core.kept (C.from_queue (Some e));
        task = task_next book w.core.left w.core.task (C.from_queue (Some e));
      }) so

  abbrev given : WorkerView
  given = one_taken (with_core u core)

  counted : Counted plan ((C.to_queue queue.take, C.from_queue (Some e)) ∷ []) (progress w).tally (progress given).tally
  counted = record {
    taken = one_more w.taken (min greatest_count (u.taken + 1)) (ap (λ n. min greatest_count (n + 1)) x.taken);
    published = unchanged w.published u.published ready.counts.1 x.published;
    first = unchanged w.first u.first ready.counts.2 x.first;
    parts = unchanged w.parts u.parts ready.counts.3 x.parts;
    dropped = refl;
  }

  back : ReadsBack (enveloped behaviour plan) (left_at w)
  back = reads_located behaviour book book w.core.left (reads_back w.core.left w.core.task x.asks)

  current : held core ≡ Some e
  current =
      book_told behaviour book (members_in plan) w.core.left w.core.kept w.core.task reply sound suits_left tt
      ∙ ap (λ b. held_by (held w.core) b (C.from_queue (Some e))) asked_is

  names_task : is_inside core.left ≡ true → core.task ≡ task_in book (held core)
  names_task i =
      task_told behaviour book (members_in plan) w.core.left w.core.kept w.core.task reply sound suits_left tt ready.task i
      ∙ ap (task_in book) (sym (book_told behaviour book (members_in plan) w.core.left w.core.kept w.core.task reply sound suits_left tt))

  left_is : left_at given ≡ answered (enveloped behaviour plan) (left_at w) (C.from_queue (Some e))
  left_is = ap (λ (d : BackendView). located (book_on d.plan) core.left) x.backend ∙ told

  from_held : FromHeld behaviour plan between (progress given) e
  from_held = (
    record { asked = sym asked_is; suits = tt; back = back; counts = counted; left = left_is; current = current },
    x.held,
    refl,
    x.seat,
  )

  again : Each (CanDeliver u.pass) (in_hand (held core) u.held)
  again =
      subst (λ h. Each (CanDeliver u.pass) (in_hand h u.held)) (sym current)
      (subst (Each (CanDeliver u.pass)) x.held (batch_can es w.held w.pass u.pass x.took (but_open w.pass (held w.core) w.held ready.again)))

  can : Can plan u.seat (located book core.left)
  can =
      subst (Can plan u.seat) (sym told)
      (may_go_on behaviour plan ready.plan w.seat u.seat (left_at w) (C.from_queue (Some e)) ready.can suits_left
      (subst (λ b. Serves plan w.seat (backend_call b (C.from_queue (Some e))) u.seat) (sym asked_is) x.seat))

  taking_is : left_at w ≡ C.taking
  taking_is = ap (located book) (takes_taking w.core.left w.core.task x.asks)

  goes : Acted behaviour w given
  goes = record {
    broker = x.broker;
    backend = x.backend;
    number = x.number;
    ready = record {
      of = x.of ∙ sym x.broker;
      home = ap (λ (s : Seat). s.of) x.seat ∙ ready.home ∙ sym (ap (λ (d : BackendView). d.id) x.backend);
      plan = (ready.plan.0, ready.plan.1, ap (λ (d : BackendView). d.plan) x.backend ∙ ready.plan.2);
      inside = refl;
      can = subst (λ (d : BackendView). Can d.plan u.seat (located (book_on d.plan) core.left)) (sym x.backend) can;
      rested = λ rests. absurd (given_never behaviour plan e
          (ap (λ s. answered (enveloped behaviour plan) s (C.from_queue (Some e))) (sym taking_is) ∙ (sym told ∙ ap (located book) rests)));
      current = λ _. subst (λ h. IsSome h) (sym current) refl;
      task = λ i. subst (λ (d : BackendView). core.task ≡ task_in (book_on d.plan) (held core)) (sym x.backend) (names_task i);
      again = again;
      counts = tallied plan (C.to_queue queue.take) (C.from_queue (Some e)) (progress w).tally (progress given).tally counted;
    };
    alone = x.alone;
    moved = answers (gives_held es e between batched from_held);
  }

  told_is : (v : WorkerView) → v ≡ one_taken (with_answer behaviour u (R.Taken (Some e))) → Acted behaviour w v
  told_is v is = subst (λ z. Acted behaviour w z) (sym (is ∙ ap (λ c. one_taken (with_core u c)) core_is)) goes

  same_tally : (progress (lost u)).tally ≡ (progress w).tally
  same_tally = same_tallies x.taken x.published x.first x.parts (ap (λ (c : CoreView). c.dropped) x.core)

  fails : (s : Record) → Leaves (lost u) (Some Memory) s → Ends behaviour w s
  fails s leaves = record {
    ended = between;
    counted = ready.counts;
    moved = keeps_batch es batched;
    is_of = record {
      same_number = leaves.same_number ∙ x.number;
      pass = leaves.pass;
      seat = leaves.seat ∙ x.seat;
      counts = leaves.counts
          ∙ same_tally;
      whole = λ none. absurd (some_none Memory (sym leaves.fault_is ∙ none));
    };
  }

  lost_is : (v : WorkerView) → v ≡ lost u → EndsWith behaviour w (Some Memory) v
  lost_is v is s leaves = fails s (subst (λ z. Leaves z (Some Memory) s) is leaves)

  well : {A : Type 0} (result : Result A End) (v : WorkerView)
      → MatchResult result (λ _. v ≡ one_taken (with_answer behaviour u (R.Taken (Some e)))) (λ end. (v ≡ lost u) × (end.fault ≡ Some Memory))
      → MatchResult result (λ _. Acted behaviour w v) (λ end. EndsWith behaviour w end.fault v)
  well (Ok _) v is = told_is v is
  well (Err end) v is = subst (λ f. EndsWith behaviour w f v) (sym is.1) (lost_is v is.0)

pub given_well : {A : Type 0} (behaviour : Behaviour) (w u v : WorkerView) (es : List Envelope) (e : Envelope) (result : Result A End)
    → MatchResult result (λ _. v ≡ one_taken (with_answer behaviour u (R.Taken (Some e)))) (λ end. (v ≡ lost u) × (end.fault ≡ Some Memory)) → Ready w
    → Takes w u es e
    → MatchResult result (λ _. Acted behaviour w v) (λ end. EndsWith behaviour w end.fault v)
given_well behaviour w u v es e result is ready x = well behaviour w u es e ready x result v is
