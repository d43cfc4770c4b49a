-- A chord's run by two workers is a closed run.
use Rattle.std.proofs.Common.{◌≡◌, ◌≢◌, ◌∙◌, ℕ, false, eqb, cond, List, [], ◌∷◌, ◌++◌, map, Option, Some, None, refl, sym, ap, subst, inl, inr, ne_eqb, arith}
use Rattle.std.proofs.lemmas.Bool.{cases_eq}
use Rattle.std.specs.Fmt.{digits}
use Rattle.canvas_task.specs.Builtin.{builtin_tasks}
use Rattle.serde_json.proofs.OnLiterals.{serde_json_on_literals}
use Rattle.uuid.specs.Text.{by_index}
use Rattle.canvas_history.specs.History.{split, join, calls}
use Rattle.canvas_envelope.specs.Content.{Content}
use Rattle.canvas_envelope.specs.declared.envelope.Envelope.{Envelope}
use Rattle.canvas_history.specs.declared.stored.Stored.TheVariants.{First, Again}
use Rattle.canvas_history.specs.Table as table
use Rattle.canvas_history.specs.Roster.{roster_of}
use Rattle.canvas_history.specs.Queue as queue
use Rattle.canvas_history.specs.Answers.{answered_calls}
use Rattle.canvas_runs.specs.Book.{book_of}
use Rattle.canvas_runs.specs.Core as core
use Rattle.canvas_runs.specs.Core.{IsCoreRun, taking, over, left_after, opens, Between}
use Rattle.canvas_runs.specs.Protocol.{Protocol}
use Rattle.canvas_runs.specs.Calls.{AskedAndAnswered, makes, FollowsScripts, scripts_all, scripts_publish, scripts_list_take, scripts_core_take, scripts_again, scripts_ack, broker_calls, core_calls, backend_calls, takes_one}
use Rattle.canvas_history.specs.Lists.{by, total}
use Rattle.canvas_runs.specs.Logs.{queue_calls}
use Rattle.canvas_runs.specs.Run.{Run, Closed, published_all}
use Rattle.canvas_runs.specs.Worker.{worker, sealed, IsReadBack, opened, known_one}
use Rattle.canvas_runs.proofs.Envelopes.AsciiBack.{AreAscii, ascii_back}
use Rattle.canvas_runs.specs.Witness.{small, first_sum, second_sum, whole_sum, two, four, six, queue as chord_queue, table as chord_table, asks_queue, asks_table, first_worker, second_worker, workers, closing, lost_part, not_taken, goes_on, acks_first}

-- ---- the envelopes read back

first_ascii : AreAscii first_sum
unfolding serde_json_on_literals digits by_index
first_ascii = (refl, refl, refl)

second_ascii : AreAscii second_sum
unfolding serde_json_on_literals digits by_index
second_ascii = (refl, refl, refl)

whole_ascii : AreAscii whole_sum
unfolding serde_json_on_literals digits by_index
whole_ascii = (refl, refl, refl)

pub first_back : IsReadBack first_sum
first_back = ascii_back first_sum refl first_ascii

pub second_back : IsReadBack second_sum
second_back = ascii_back second_sum refl second_ascii

pub whole_back : IsReadBack whole_sum
whole_back = ascii_back whole_sum refl whole_ascii

pub first_opens : opened (book_of small) (sealed first_sum) ≡ Some first_sum
first_opens = ap (known_one (book_of small)) first_back

pub second_opens : opened (book_of small) (sealed second_sum) ≡ Some second_sum
second_opens = ap (known_one (book_of small)) second_back

pub whole_opens : opened (book_of small) (sealed whole_sum) ≡ Some whole_sum
whole_opens = ap (known_one (book_of small)) whole_back

-- ---- the callers 0, 1 and 2, and all others

record Other (p : ℕ) : Type 0 where
  pub zero_p : eqb 0 p ≡ false
  pub one_p : eqb 1 p ≡ false
  pub two_p : eqb 2 p ≡ false
  pub p_zero : eqb p 0 ≡ false
  pub p_one : eqb p 1 ≡ false
  pub p_two : eqb p 2 ≡ false

other : (p : ℕ) → p ≢ 0 → p ≢ 1 → p ≢ 2 → Other p
other p a b c = record {
  zero_p = ne_eqb 0 p (λ e. a (sym e));
  one_p = ne_eqb 1 p (λ e. b (sym e));
  two_p = ne_eqb 2 p (λ e. c (sym e));
  p_zero = ne_eqb p 0 a;
  p_one = ne_eqb p 1 b;
  p_two = ne_eqb p 2 c;
}

by_callers : (P : ℕ → Type 0) → P 0 → P 1 → P 2 → ((p : ℕ) → Other p → P p) → (p : ℕ) → P p
by_callers P a b c d p =
    elim (cases_eq p 0) [
      | inl e ↦ subst P (sym e) a
      | inr n ↦
          elim (cases_eq p 1) [
            | inl e ↦ subst P (sym e) b
            | inr m ↦
                elim (cases_eq p 2) [
                  | inl e ↦ subst P (sym e) c
                  | inr l ↦ d p (other p n m l)
                ]
          ]
    ]

-- ---- each caller's core run

abbrev X : Protocol Envelope
X = worker builtin_tasks small

abbrev Left : List (AskedAndAnswered Envelope) → Option Content → Type 0
Left xs o = IsCoreRun X (opens X o) xs

abbrev last_of_first : List (AskedAndAnswered Envelope)
last_of_first = asks_table (table.store 3 six) (table.was First) ∷ (core.ack, core.acked) ∷ asks_queue queue.take None
    ∷ (core.rest, core.rested false) ∷ []

abbrev rest_of_first : List (AskedAndAnswered Envelope)
rest_of_first = asks_table (table.store 1 two) (table.was First) ∷ asks_table (table.part 1 1) (table.count 0) ∷ (core.ack, core.acked)
    ∷ asks_queue queue.take (Some (sealed whole_sum))
    ∷ last_of_first

abbrev last_of_second : List (AskedAndAnswered Envelope)
last_of_second = asks_table (table.store 1 two) (table.was Again) ∷ (core.ack, core.acked) ∷ asks_queue queue.take None
    ∷ (core.rest, core.rested false) ∷ []

abbrev rest_of_second : List (AskedAndAnswered Envelope)
rest_of_second =
    asks_table (table.store 2 four) (table.was First) ∷ asks_table (table.part 1 2) (table.count 1)
    ∷ asks_table (table.read 1) (table.found (Some two))
    ∷ asks_table (table.read 2) (table.found (Some four))
    ∷ asks_queue (queue.publish (sealed whole_sum)) None ∷ (core.ack, core.acked) ∷ asks_queue queue.take (Some (sealed first_sum)) ∷ last_of_second

first_runs : IsCoreRun X taking first_worker
first_runs = (
  refl,
  (tt, tt),
  subst (Left rest_of_first) (sym first_opens) (
    refl,
    (tt, tt),
    (
      refl,
      (tt, tt),
      (
        refl,
        (tt, tt),
        (
          refl,
          (tt, tt),
          subst (Left last_of_first) (sym whole_opens) (refl, (tt, tt), (refl, (tt, tt), (refl, (tt, tt), (refl, (tt, tt), tt)))),
        ),
      ),
    ),
  ),
)

second_runs : IsCoreRun X taking second_worker
second_runs = (
  refl,
  (tt, tt),
  subst (Left rest_of_second) (sym second_opens) (
    refl,
    (tt, tt),
    (
      refl,
      (tt, tt),
      (
        refl,
        (tt, tt),
        (
          refl,
          (tt, tt),
          (
            refl,
            (tt, whole_back),
            (
              refl,
              (tt, tt),
              (refl, (tt, tt), subst (Left last_of_second) (sym first_opens) (refl, (tt, tt), (refl, (tt, tt), (refl, (tt, tt), (refl, (tt, tt), tt))))),
            ),
          ),
        ),
      ),
    ),
  ),
)

first_ends : left_after X taking first_worker ≡ over
first_ends = ap (λ o. left_after X (opens X o) rest_of_first) first_opens ∙ ap (λ o. left_after X (opens X o) last_of_first) whole_opens

second_ends : left_after X taking second_worker ≡ over
second_ends = ap (λ o. left_after X (opens X o) rest_of_second) second_opens ∙ ap (λ o. left_after X (opens X o) last_of_second) first_opens

abbrev CoreOf : ℕ → Type 0
CoreOf p = IsCoreRun X taking (workers p)

no_others : (p : ℕ) → Other p → workers p ≡ []
no_others p o = ap (λ b. cond b first_worker (cond (eqb p 2) second_worker [])) o.p_one ∙ ap (λ b. cond b second_worker []) o.p_two

all_run : (p : ℕ) → IsCoreRun X taking (workers p)
all_run = by_callers CoreOf tt first_runs second_runs (λ p o. subst (IsCoreRun X taking) (sym (no_others p o)) tt)

-- ---- their calls

abbrev opening : List Content
opening = first_sum ∷ second_sum ∷ []

abbrev Goes : ℕ → Type 0
Goes p = FollowsScripts None [] (map makes (cond (eqb p 0) (published_all (map sealed opening)) []) ++ core_calls (workers p)) (by p (queue_calls chord_queue))

all_follow : (p : ℕ) → Goes p
all_follow =
    by_callers Goes (scripts_publish (scripts_publish scripts_all))
    (scripts_list_take (scripts_core_take (scripts_again (scripts_ack (scripts_list_take (scripts_core_take (scripts_ack scripts_all)))))))
    (scripts_list_take (scripts_core_take (scripts_publish (scripts_ack (scripts_list_take (scripts_core_take (scripts_ack scripts_all)))))))
    (λ p o. rw (o.p_zero, o.zero_p, o.one_p, o.two_p, o.p_one, o.p_two) scripts_all)

abbrev Kept : ℕ → Type 0
Kept p = by p (answered_calls chord_table) ≡ backend_calls (workers p) ++ cond (eqb p 0) closing []

all_kept : (p : ℕ) → Kept p
all_kept = by_callers Kept refl refl refl (λ p o. rw (o.p_zero, o.zero_p, o.one_p, o.two_p, o.p_one, o.p_two) refl)

abbrev Used : ℕ → Type 0
Used p = total takes_one (by p (queue_calls chord_queue)) ≡ total takes_one (broker_calls (workers p))

all_used : (p : ℕ) → Used p
all_used = by_callers Used refl refl refl (λ p o. rw (o.zero_p, o.one_p, o.two_p, o.p_one, o.p_two) refl)

all_ended : (p : ℕ) → Between (left_after X taking (workers p))
all_ended =
    by_callers (λ p. Between (left_after X taking (workers p))) tt (subst (λ s. Between s) (sym first_ends) tt) (subst (λ s. Between s) (sym second_ends) tt)
    (λ p o. subst (λ xs. Between (left_after X taking xs)) (sym (no_others p o)) tt)

-- ---- both histories are legal

own_take : queue.HasTaken (split 0 1 ∷ split 0 2 ∷ calls 0 (queue.publish (sealed first_sum)) None ∷ calls 0 (queue.publish (sealed second_sum)) None
    ∷ calls 1 queue.take (Some (sealed first_sum)) ∷ calls 2 queue.take (Some (sealed second_sum)) ∷ []) 1 (sealed first_sum)
own_take = (1, inr (inr (inr (inr (inl refl)))), refl)

queue_legal : queue.IsLegal chord_queue
queue_legal = (
  (refl, refl, refl),
  (
    (refl, refl, refl),
    (
      (refl, refl, tt),
      (
        (refl, refl, tt),
        (
          (refl, refl, tt),
          (
            (refl, refl, tt),
            ((refl, refl, own_take), ((refl, refl, tt), ((refl, refl, tt), ((refl, refl, tt), ((refl, refl, refl), ((refl, refl, refl), tt)))))),
          ),
        ),
      ),
    ),
  ),
)

first_stored : table.HasFirst (split 0 1 ∷ split 0 2 ∷ calls 1 (table.store 1 two) (table.was First) ∷ []) 1 1
first_stored = record { before = split 0 1 ∷ split 0 2 ∷ []; rest = []; caller = 1; outcome = two; is = refl; own = refl }

second_stored : table.HasFirst (split 0 1 ∷ split 0 2 ∷ calls 1 (table.store 1 two) (table.was First) ∷ calls 1 (table.part 1 1) (table.count 0)
    ∷ calls 2 (table.store 2 four) (table.was First) ∷ []) 2 2
second_stored = record {
  before = split 0 1 ∷ split 0 2 ∷ calls 1 (table.store 1 two) (table.was First) ∷ calls 1 (table.part 1 1) (table.count 0) ∷ [];
  rest = [];
  caller = 2;
  outcome = four;
  is = refl;
  own = refl;
}

table_legal : table.IsLegal (roster_of small) chord_table
table_legal = (
  (refl, refl, refl),
  (
    (refl, refl, refl),
    (
      (refl, refl, tt),
      (
        (refl, refl, (refl, refl, first_stored, refl)),
        (
          (refl, refl, tt),
          (
            (refl, refl, (refl, refl, second_stored, refl)),
            (
              (refl, refl, tt),
              (
                (refl, refl, tt),
                (
                  (refl, refl, tt),
                  (
                    (refl, refl, tt),
                    ((refl, refl, refl), ((refl, refl, refl), ((refl, refl, tt), ((refl, refl, tt), ((refl, refl, tt), tt))))),
                  ),
                ),
              ),
            ),
          ),
        ),
      ),
    ),
  ),
)

-- ---- the run

run : Run builtin_tasks small
run = record {
  queue = chord_queue;
  table = chord_table;
  queue_legal = queue_legal;
  table_legal = table_legal;
  core = workers;
  is_core = all_run;
  opening = opening;
  unsent = [];
  closing = closing;
  opens = refl;
  opens_back = (first_back, (second_back, tt));
  closes = (tt, (tt, (tt, tt)));
  follows = all_follow;
  keeps = all_kept;
}

closed : Closed builtin_tasks small run
unfolding run
closed = record { all_sent = refl; drained = refl; all_used = all_used; all_ended = all_ended }

pub stands : (r : Run builtin_tasks small) × (r.queue ≡ chord_queue) × (r.table ≡ chord_table) × Closed builtin_tasks small r
unfolding run
stands = (run, refl, refl, closed)

-- ---- the near miss

pub none_lost : table.IsLegal (roster_of small) lost_part → ⊥
none_lost h = let wrong : table.count 0 ≡ table.count 1 = h.1.1.1.1.1.0.1 in absurd cc

-- ---- the near misses of redelivery

-- the caller that took it has not been taken in
pub none_taken : queue.IsLegal not_taken → ⊥
none_taken h = none h.1.1.1.0.2
  where
    none : queue.HasTaken (split 0 1 ∷ calls 0 (queue.publish (sealed first_sum)) None ∷ calls 1 queue.take (Some (sealed first_sum)) ∷ []) 0
        (sealed first_sum) → ⊥
    none (c, inl e, own) = absurd (cc)
    none (c, inr (inl e), own) = absurd (cc)
    none (c, inr (inr (inl e)), own) = let who : c ≡ 1 = ap caller e in let wrong : 1 ≡ 0 = sym who ∙ own in absurd (omega (arith, wrong))
      where
        caller : queue.QueueEntry Envelope → ℕ
        caller (split p q) = p
        caller (join p q) = p
        caller (calls p d r) = p
    none (c, inr (inr (inr i)), own) = i

pub none_goes_on : IsCoreRun X taking goes_on → ⊥
none_goes_on h = wrong (subst (λ o. IsCoreRun X (opens X o) (asks_table (table.store 1 two) (table.was Again)
    ∷ asks_table (table.part 1 1) (table.count 1) ∷ [])) first_opens h.2)
  where
    wrong : IsCoreRun X (opens X (Some first_sum)) (asks_table (table.store 1 two) (table.was Again) ∷ asks_table (table.part 1 1) (table.count 1) ∷ [])
        → ⊥
    wrong r = let bad : ◌≡◌ {A = core.Ask Envelope} (core.to_table (table.part 1 1)) core.ack = r.2.0 in absurd (cc)

pub none_acks_first : IsCoreRun X taking acks_first → ⊥
none_acks_first h = wrong (subst (λ o. IsCoreRun X (opens X o) ((core.ack, core.acked) ∷ asks_table (table.store 1 two) (table.was First) ∷ []))
    first_opens h.2)
  where
    wrong : IsCoreRun X (opens X (Some first_sum)) ((core.ack, core.acked) ∷ asks_table (table.store 1 two) (table.was First) ∷ []) → ⊥
    wrong r = let bad : ◌≡◌ {A = core.Ask Envelope} core.ack (core.to_table (table.store 1 two)) = r.0 in absurd (cc)
