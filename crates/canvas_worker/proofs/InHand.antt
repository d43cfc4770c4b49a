-- The envelopes in hand: what a worker's pass took and its core has not done with. Each of them may be delivered again.
use Rattle.std.proofs.Common.{◌≡◌, ◌∙◌, List, [], ◌∷◌, ◌++◌, Option, Some, None, Result, Ok, Err, refl, sym, subst, append_assoc, append-nil}
use Rattle.std.specs.Prelude.{true, MatchResult}
use Rattle.std.proofs.lemmas.Bool.{false≢true}
use Rattle.canvas_task.specs.Apply.{Behaviour}
use Rattle.canvas_history.specs.History.{calls}
use Rattle.canvas_envelope.specs.declared.envelope.Envelope.{Envelope}
use Rattle.canvas_history.specs.Queue as queue
use Rattle.canvas_history.specs.Queue.{QueueCall}
use Rattle.canvas_history.specs.Passes.{Stands, Took}
use Rattle.canvas_runs.specs.Calls.{broker_call, held_by}
use Rattle.canvas_runs.specs.Core as C
use Rattle.canvas_runs.specs.Core.{answered, is_inside}
use Rattle.canvas_runs.specs.Following.{Pass, Makes}
use Rattle.canvas_history.specs.Lists.{Each}
use Rattle.canvas_runs.proofs.Lists.Words.{each_append, each_weaker}
use Rattle.canvas_core.specs.Asks.{Asked, Answer}
use Rattle.canvas_core.specs.CoreState.{Left, held}
use Rattle.canvas_worker.specs.Polls.{WorkerView, CanDeliver, in_hand, Ready, delivers, Redelivered, Pends, EndsWith}
use Rattle.canvas_core.specs.declared.cause.Cause.TheVariants.{Memory}
use Rattle.canvas_worker.specs.declared.working.End.{End}
use Rattle.canvas_worker.proofs.Polls.Redelivering.{just_has, still_has}
use Rattle.canvas_worker.proofs.Polls.Stepping.{taking_all, took_makes}
use Rattle.canvas_worker.proofs.Turns.{ends_acting}

-- ---- what a pass may deliver again

taken_can : (p q : Pass) (e : Envelope) → Stands p (calls p.name queue.take (Some e)) q → CanDeliver q e
taken_can p q e s = (s.3, just_has p q e s)

still_can : (p q : Pass) (d : QueueCall Envelope) (a : Option Envelope) → Stands p (calls p.name d a) q → (e : Envelope) → CanDeliver p e → CanDeliver q e
still_can p q d a s e c = (s.3, still_has p q d a s e c.0 c.1)

all_still : (p q : Pass) (d : QueueCall Envelope) (a : Option Envelope) → Stands p (calls p.name d a) q → (es : List Envelope) → Each (CanDeliver p) es
    → Each (CanDeliver q) es
all_still p q d a s es c = each_weaker {P = CanDeliver p} {Q = CanDeliver q} (still_can p q d a s) es c

pub but_open : (p : Pass) (h : Option Envelope) (es : List Envelope) → Each (CanDeliver p) (in_hand h es) → Each (CanDeliver p) es
but_open p None es c = c
but_open p (Some e) es c = c.1

makes_can : (es xs : List Envelope) (p q : Pass) → Makes p (taking_all es) q → Each (CanDeliver p) xs → Each (CanDeliver q) (xs ++ es)
makes_can [] xs p q m c = subst (Each (CanDeliver q)) (sym (append-nil xs)) (subst (λ r. Each (CanDeliver r) xs) (sym m) c)
makes_can (e ∷ es) xs p q m c =
    let all : Each (CanDeliver m.0) (xs ++ e ∷ []) =
    each_append (CanDeliver m.0) xs (e ∷ []) (all_still p m.0 queue.take (Some e) m.1 xs c) (taken_can p m.0 e m.1, tt) in
    subst (Each (CanDeliver q)) (append_assoc xs (e ∷ []) es) (makes_can es (xs ++ e ∷ []) m.0 q m.2 all)

-- a batch is taken
pub batch_can : (es xs : List Envelope) (p q : Pass) → Took p es q → Each (CanDeliver p) xs → Each (CanDeliver q) (xs ++ es)
batch_can es xs p q t c = makes_can es xs p q (took_makes p q es t) c

-- an ask of the core is answered
pub call_can : (a : Asked) (r : Answer) (h : Option Envelope) (es : List Envelope) (p q : Pass) → C.Suits a r → Makes p (broker_call a r) q
    → Each (CanDeliver p) (in_hand h es) → Each (CanDeliver q) (in_hand (held_by h a r) es)
call_can (C.to_queue queue.take) (C.from_queue (Some e)) h es p q suit m c =
    subst (λ z. Each (CanDeliver z) (e ∷ es)) (sym m.2) (taken_can p m.0 e m.1, all_still p m.0 queue.take (Some e) m.1 es (but_open p h es c))
call_can (C.to_queue (queue.publish e)) (C.from_queue None) h es p q suit m c =
    subst (λ z. Each (CanDeliver z) (in_hand h es)) (sym m.2) (all_still p m.0 (queue.publish e) None m.1 (in_hand h es) c)
call_can C.ack C.acked h es p q suit m c = subst (λ z. Each (CanDeliver z) es) (sym m) (but_open p h es c)
call_can (C.to_table d) r h es p q suit m c = subst (λ z. Each (CanDeliver z) (in_hand h es)) (sym m) c
call_can (C.to_queue queue.take) (C.from_queue None) h es p q suit m c = subst (λ z. Each (CanDeliver z) (in_hand h es)) (sym m) c
call_can (C.to_queue (queue.publish e)) C.refused h es p q suit m c = subst (λ z. Each (CanDeliver z) (in_hand h es)) (sym m) c
call_can C.rest r h es p q suit m c = subst (λ z. Each (CanDeliver z) (in_hand h es)) (sym m) c
call_can a r h es p q suit m c = elim suit [ ]

-- ---- the envelope of the open script is delivered again

not_resting : (s : Left) → is_inside s ≡ true → s ≡ C.resting → ⊥
not_resting s i e = false≢true (subst (λ l. is_inside l ≡ true) e i)

pub redelivered : (behaviour : Behaviour) (w v : WorkerView) → Ready w → is_inside w.core.left ≡ true → Redelivered w v → Pends behaviour w v
redelivered behaviour w v ready inside d =
    subst (λ z. Pends behaviour w z) (sym d.3)
    (record {
      broker = refl;
      backend = refl;
      number = refl;
      ready = record {
        of = d.2.0 ∙ ready.of;
        home = ready.home;
        plan = ready.plan;
        inside = ready.inside;
        can = ready.can;
        rested = λ rests. absurd (not_resting w.core.left inside rests);
        current = ready.current;
        task = ready.task;
        again = all_still w.pass v.pass (queue.redeliver d.0) None d.2 (in_hand (held w.core) w.held) ready.again;
        counts = ready.counts;
      };
      alone = λ _. refl;
      moved = delivers d.0 (d.1, (v.pass, d.2, refl), refl, refl, refl, refl, refl);
    })

pub delivered_well : {A : Type 0} (behaviour : Behaviour) (w v : WorkerView) (result : Result A End) → Ready w → is_inside w.core.left ≡ true
    → MatchResult result (λ _. Redelivered w v) (λ e. (v ≡ w) × (e.fault ≡ Some Memory))
    → MatchResult result (λ _. Pends behaviour w v) (λ e. EndsWith behaviour w e.fault v)
delivered_well behaviour w v (Ok _) ready inside d = redelivered behaviour w v ready inside d
delivered_well behaviour w v (Err e) ready inside d =
    subst (λ f. EndsWith behaviour w f v) (sym d.1) (subst (λ z. EndsWith behaviour w (Some Memory) z) (sym d.0) (ends_acting behaviour w Memory ready))
