-- What a core has left names no member's task: with those of its book it is what the asks and answers leave.
use Rattle.std.proofs.Common.{◌≡◌, ◌∙◌, ◌<◌, ℕ, suc, Bool, true, false, cond, List, [], ◌∷◌, ◌++◌, Option, Some, None, refl, sym, ap}
use Rattle.std.specs.Prelude.{eqb, length, unwrap_or, IsSome}
use Rattle.std.proofs.lemmas.Bool.{eqb-true, false≢true}
use Rattle.canvas_task.specs.Apply.{Behaviour}
use Rattle.canvas_task.specs.declared.outcome.Outcome.{Outcome}
use Rattle.canvas_rewrite.specs.FrozenView.{PCarried}
use Rattle.canvas_envelope.specs.Content.{Content}
use Rattle.canvas_effects.specs.Job.{store, publish, part}
use Rattle.canvas_envelope.specs.declared.envelope.Envelope.{Envelope}
use Rattle.canvas_history.specs.declared.stored.Stored.{Stored}
use Rattle.canvas_history.specs.declared.stored.Stored.TheVariants.{First, Again}
use Rattle.canvas_runs.specs.Book.{Book, has_size}
use Rattle.canvas_runs.specs.Protocol.{Protocol}
use Rattle.canvas_runs.specs.Worker.{opened}
use Rattle.canvas_runs.specs.Core as C
use Rattle.canvas_runs.specs.Core.{taking, owning, doing, reading, answered, settled, opens, reads_next, reading_of, acking}
use Rattle.canvas_core.specs.Asks.{FoundOf, replied}
use Rattle.canvas_core.specs.Books.{HasMembers, no_book}
use Rattle.canvas_core.specs.EnvelopeWorker as enveloping
use Rattle.canvas_core.specs.EnvelopeWorker.{no_tasks, enveloped_by, by_place}
use Rattle.canvas_core.specs.CoreState.{Left, located, placed, unsent, next_in, left_told}
use Rattle.canvas_core.specs.Scripts.{EnvelopeJobs}
use Rattle.canvas_core.specs.SeatRights.{Carries}
use Rattle.canvas_core.specs.declared.ask.Reply.{Reply}
use Rattle.canvas_core.specs.declared.ask.Reply.TheVariants as R
use Rattle.canvas_core.proofs.Cores.Sound.{Sound, first_low, more_low}

-- ---- what the task of a member makes no difference to

pub located_same : {A : Type 0} (f : Left → A) → ((g : ℕ) (c : PCarried) (t u : ℕ) (fs : List (ℕ × Outcome)) → f (reading g c t fs) ≡ f (reading g c u fs))
    → (book : Book) (s : Left) → f (located book s) ≡ f s
located_same f same book (reading g c t fs) = same g c (unwrap_or (book.member g (length fs)) 0) t fs
located_same f same book s = refl

pub located_twice : (a b : Book) (s : Left) → located a (located b s) ≡ located a s
located_twice a b s = located_same (located a) (λ g c t u fs. refl) b s

pub unsent_located : (book : Book) (s : Left) → unsent (located book s) ≡ located book (unsent s)
unsent_located book (doing (publish e ∷ js) b) = refl
unsent_located book s = refl

-- of a state that is sound they are its own
pub located_sound : (book : Book) (s : Left) → Sound book s → located book s ≡ s
located_sound book (reading g c t fs) h = ap (λ m. reading g c (unwrap_or m 0) fs) h.2
located_sound book s h = refl

-- what is published reads back, for any tasks and any book
pub reads_located : (behaviour : Behaviour) (a b : Book) (s : Left) → C.ReadsBack (enveloped_by no_tasks no_book) s
    → C.ReadsBack (enveloped_by behaviour a) (located b s)
reads_located behaviour a b (doing (publish e ∷ js) d) h = h
reads_located behaviour a b s h = h

-- ---- answers

module _ (behaviour : Behaviour) (book : Book) where
  abbrev X : Protocol Envelope
  X = enveloped_by behaviour book

  -- the protocol that a core goes by
  abbrev Y : Protocol Envelope
  Y = by_place behaviour book

  settled_located : (b : Book) (js : EnvelopeJobs) (a : Stored) → located b (settled Y js a) ≡ settled X js a
  settled_located b [] a = refl
  settled_located b (store t o ∷ js) First = refl
  settled_located b (store t o ∷ js) Again = refl
  settled_located b (publish e ∷ js) First = refl
  settled_located b (publish e ∷ js) Again = refl
  settled_located b (part g t c ∷ js) First = refl
  settled_located b (part g t c ∷ js) Again = refl

  opens_located : (b : Book) (e : Envelope) (o : Option Content)
      → located b (opens Y (enveloping.applied_if behaviour o e)) ≡ opens X (enveloping.applied_if behaviour o e)
  opens_located b e None = refl
  opens_located b e (Some c) = refl

  -- it names no member's task
  read_placed : (g : ℕ) (c : PCarried) (fs : List (ℕ × Outcome)) (z : Bool)
      → placed (cond z (settled Y (Y.completed c fs) Again) (reads_next Y g c fs)) ≡ cond z (settled Y (Y.completed c fs) Again) (reads_next Y g c fs)
  read_placed g c fs true = settled_located no_book (Y.completed c fs) Again
  read_placed g c fs false = refl

  counted_placed : (g : ℕ) (c : PCarried) (z : Bool) → placed (cond z (reads_next Y g c []) acking) ≡ cond z (reads_next Y g c []) acking
  counted_placed g c true = refl
  counted_placed g c false = refl

  pub told_placed : (s : Left) (r : Reply) → placed (left_told behaviour book s r) ≡ left_told behaviour book s r
  told_placed taking (R.Taken None) = refl
  told_placed taking (R.Taken (Some e)) = opens_located no_book e (opened book e)
  told_placed C.resting (R.Rested true) = refl
  told_placed C.resting (R.Rested false) = refl
  told_placed (owning m) (R.Stored First) = settled_located no_book (Y.ended m (Y.outcome m)) First
  told_placed (owning m) (R.Stored Again) = refl
  told_placed (doing (store t o ∷ js) b) (R.Stored a) = settled_located no_book js (cond (C.is_due t js) a b)
  told_placed (doing (publish e ∷ js) b) R.Published = settled_located no_book js b
  told_placed (doing (publish e ∷ js) b) (R.Taken None) = settled_located no_book js b
  told_placed (doing (publish e ∷ js) b) (R.Taken (Some x)) = refl
  told_placed (doing (part g t c ∷ js) b) (R.Counted n) = counted_placed g c (eqb (suc n) c.size)
  told_placed (reading g c t fs) (R.Found u (Some o)) = read_placed g c (fs ++ (u, o) ∷ []) (eqb (length (fs ++ (u, o) ∷ [])) c.size)
  told_placed (reading g c t fs) (R.Found u None) = refl
  told_placed acking R.Acked = refl
  told_placed s r = refl

  module _ (members : HasMembers book) where
    sized : (o : Option ℕ) (n : ℕ) → has_size n o ≡ true → o ≡ Some n
    sized None n h = absurd (false≢true h)
    sized (Some m) n h = ap Some (eqb-true m n h)

    -- a chord that has the size which its message says has the next member
    pub has_next : (g : ℕ) (c : PCarried) (fs : List (ℕ × Outcome)) → Carries book g c → length fs < c.size → IsSome (book.member g (length fs))
    has_next g c fs h low = members g c.size (length fs) (sized (book.size g) c.size h.0) low

    next_located : (g : ℕ) (c : PCarried) (fs : List (ℕ × Outcome)) → IsSome (book.member g (length fs))
        → located book (reads_next Y g c fs) ≡ reads_next X g c fs
    next_located g c fs there = go (book.member g (length fs)) there
      where
        go : (o : Option ℕ) → IsSome o → reading g c (unwrap_or o 0) fs ≡ reading_of X g c fs o
        go None h = absurd (false≢true h)
        go (Some t) h = refl

    counted_located : (g : ℕ) (c : PCarried) (n : ℕ) (z : Bool) → Carries book g c → eqb (suc n) c.size ≡ z
        → located book (cond z (reads_next Y g c []) acking) ≡ cond z (reads_next X g c []) acking
    counted_located g c n true h e = next_located g c [] (has_next g c [] h (first_low n c.size (eqb-true (suc n) c.size e)))
    counted_located g c n false h e = refl

    read_located : (g : ℕ) (c : PCarried) (fs : List (ℕ × Outcome)) (e : ℕ × Outcome) (z : Bool) → Carries book g c → length fs < c.size
        → eqb (length (fs ++ e ∷ [])) c.size ≡ z
        → located book (cond z (settled Y (Y.completed c (fs ++ e ∷ [])) Again) (reads_next Y g c (fs ++ e ∷ [])))
        ≡ cond z (settled X (X.completed c (fs ++ e ∷ [])) Again) (reads_next X g c (fs ++ e ∷ []))
    read_located g c fs e true h low is = settled_located book (X.completed c (fs ++ e ∷ [])) Again
    read_located g c fs e false h low is = next_located g c (fs ++ e ∷ []) (has_next g c (fs ++ e ∷ []) h (more_low fs e c.size low is))

    -- with the members' tasks it is what the machine leaves
    pub told_located : (s : Left) (x : Option ℕ) (r : Reply) → Sound book (located book s) → FoundOf book r (next_in s x)
        → located book (left_told behaviour book s r) ≡ answered X (located book s) (replied r)
    told_located taking x (R.Taken None) h f = refl
    told_located taking x (R.Taken (Some e)) h f = opens_located book e (opened book e)
    told_located C.resting x (R.Rested true) h f = refl
    told_located C.resting x (R.Rested false) h f = refl
    told_located (owning m) x (R.Stored First) h f = settled_located book (Y.ended m (Y.outcome m)) First
    told_located (owning m) x (R.Stored Again) h f = refl
    told_located (doing (store t o ∷ js) b) x (R.Stored a) h f = settled_located book js (cond (C.is_due t js) a b)
    told_located (doing (publish e ∷ js) b) x R.Published h f = settled_located book js b
    told_located (doing (publish e ∷ js) b) x (R.Taken None) h f = settled_located book js b
    told_located (doing (publish e ∷ js) b) x (R.Taken (Some d)) h f = refl
    told_located (doing (part g t c ∷ js) b) x (R.Counted n) h f = counted_located g c n (eqb (suc n) c.size) h.1 refl
    told_located (reading g c t fs) x (R.Found u (Some o)) h f =
        read_located g c fs (u, o) (eqb (length (fs ++ (u, o) ∷ [])) c.size) h.0 h.1 refl
        ∙ ap (λ m. answered X (reading g c (unwrap_or m 0) fs) (replied (R.Found u (Some o)))) (sym f)
    told_located (reading g c t fs) x (R.Found u None) h f = refl
    told_located acking x R.Acked h f = refl
    told_located s x r h f = refl
