-- Which ask of the machine is the one that is shown, and what a core that was told leaves.
use Rattle.std.proofs.Common.{◌≡◌, ◌∙◌, ℕ, ◌+◌, min, false, [], ◌∷◌, Option, Some, None, refl, sym, ap, ap₂, subst}
use Rattle.std.specs.Prelude.{if◌then◌else◌, unwrap_or}
use Rattle.canvas_task.specs.Apply.{Behaviour}
use Rattle.canvas_task.specs.declared.outcome.Outcome.{Outcome}
use Rattle.canvas_envelope.specs.Content.{Content}
use Rattle.canvas_effects.specs.Job.{store, publish, part}
use Rattle.canvas_envelope.specs.declared.envelope.Envelope.{Envelope}
use Rattle.canvas_history.specs.Table as table
use Rattle.canvas_history.specs.Roster.{Roster}
use Rattle.canvas_history.specs.Queue as queue
use Rattle.canvas_runs.specs.Book.{Book, book_on}
use Rattle.canvas_runs.specs.Core as C
use Rattle.canvas_runs.specs.Tally.{dropping, is_lost, greatest_count}
use Rattle.canvas_runs.specs.Worker.{opened}
use Rattle.canvas_core.specs.Asks.{Asked, Answer, to_send, replied}
use Rattle.canvas_core.specs.Books.{no_book}
use Rattle.canvas_core.specs.EnvelopeWorker.{no_tasks, enveloped_by}
use Rattle.canvas_core.specs.CoreState.{CoreView, Left, located, asked, next, next_in, left_told, unread, drops, held_out, handed, unsent, after_reply, kept_next, task_next}
use Rattle.canvas_core.specs.declared.ask.Ask.{Ask}
use Rattle.canvas_core.specs.declared.ask.Ask.TheVariants.{Take, Publish, Store, Part, Read, Rest, Ack, End}
use Rattle.canvas_core.specs.declared.ask.Reply.{Reply}
use Rattle.canvas_core.proofs.Cores.CorePasts.{unsent_told, unsent_drops}
use Rattle.canvas_core.proofs.Cores.Located.{located_same}
use Rattle.canvas_core.proofs.Cores.Counts.{of_queue}

-- ---- which ask is shown

module _ (book : Book) where
  -- an ask of the machine by the one that is shown, but for its envelope
  abbrev by_shown : Ask → Asked
  by_shown Take = C.to_queue queue.take
  by_shown (Store t o) = C.to_table (table.store t o)
  by_shown (Part g t) = C.to_table (table.part g t)
  by_shown (Read g i) = C.to_table (table.read (unwrap_or (book.member g i) 0))
  by_shown Rest = C.rest
  by_shown (Ack x) = C.ack
  by_shown v = C.end

  back : (x : Option ℕ) (s : Left) → (next_in s x ≡ Publish → ⊥) → (next_in s x ≡ End → ⊥) → asked (located book s) ≡ by_shown (next_in s x)
  back x C.taking p q = refl
  back x C.resting p q = refl
  back x C.over p q = absurd (q refl)
  back x C.failed p q = absurd (q refl)
  back x (C.owning m) p q = refl
  back x (C.doing [] b) p q = absurd (q refl)
  back x (C.doing (store t o ∷ js) b) p q = refl
  back x (C.doing (publish e ∷ js) b) p q = absurd (p refl)
  back x (C.doing (part g t c ∷ js) b) p q = refl
  back x (C.reading g c t fs) p q = refl
  back x C.acking p q = refl

  shown_is : (c : CoreView) (v : Ask) → next c ≡ v → (v ≡ Publish → ⊥) → (v ≡ End → ⊥) → asked (located book c.left) ≡ by_shown v
  shown_is c v e p q = back c.task c.left (λ h. p (sym e ∙ h)) (λ h. q (sym e ∙ h)) ∙ ap by_shown e

  pub is_take : (c : CoreView) → next c ≡ Take → asked (located book c.left) ≡ C.to_queue queue.take
  is_take c e = shown_is c Take e (λ h. cc) (λ h. cc)

  pub is_rest : (c : CoreView) → next c ≡ Rest → asked (located book c.left) ≡ C.rest
  is_rest c e = shown_is c Rest e (λ h. cc) (λ h. cc)

  pub is_store : (t : ℕ) (o : Outcome) (c : CoreView) → next c ≡ Store t o → asked (located book c.left) ≡ C.to_table (table.store t o)
  is_store t o c e = shown_is c (Store t o) e (λ h. cc) (λ h. cc)

  pub is_part : (g t : ℕ) (c : CoreView) → next c ≡ Part g t → asked (located book c.left) ≡ C.to_table (table.part g t)
  is_part g t c e = shown_is c (Part g t) e (λ h. cc) (λ h. cc)

  -- the member of the place that is asked for
  pub is_read : (g i t : ℕ) (c : CoreView) → next c ≡ Read g i → book.member g i ≡ Some t → asked (located book c.left) ≡ C.to_table (table.read t)
  is_read g i t c e there = shown_is c (Read g i) e (λ h. cc) (λ h. cc) ∙ ap (λ m. C.to_table (table.read (unwrap_or m 0))) there

  pub is_ack : (x : Option ℕ) (c : CoreView) → next c ≡ Ack x → asked (located book c.left) ≡ C.ack
  is_ack x c e = shown_is c (Ack x) e (λ h. cc) (λ h. cc)

-- only a core that rests asks to
pub rests_over : (book : Book) (s : Left) → asked (located book s) ≡ C.rest → s ≡ C.resting
rests_over book C.resting e = refl
rests_over book (C.doing [] b) e = absurd cc
rests_over book (C.doing (store t o ∷ js) b) e = absurd cc
rests_over book (C.doing (publish m ∷ js) b) e = absurd cc
rests_over book (C.doing (part g t l ∷ js) b) e = absurd cc
rests_over book s e = absurd cc

module _ (book : Book) where
  -- an end is shown as one, and a rest
  pub is_end : (c : CoreView) → next c ≡ End → asked (located book c.left) ≡ C.end
  is_end c e = go c.left e
    where
      go : (s : Left) → next_in s c.task ≡ End → asked (located book s) ≡ C.end
      go C.over e = refl
      go C.failed e = refl
      go (C.doing [] b) e = refl
      go (C.doing (store t o ∷ js) b) e = absurd cc
      go (C.doing (publish m ∷ js) b) e = absurd cc
      go (C.doing (part g t l ∷ js) b) e = absurd cc
      go s e = absurd cc

  pub shown_end : (c : CoreView) → asked (located book c.left) ≡ C.end → next c ≡ End
  shown_end c e = go c.left e
    where
      go : (s : Left) → asked (located book s) ≡ C.end → next_in s c.task ≡ End
      go C.over e = refl
      go C.failed e = refl
      go (C.doing [] b) e = refl
      go (C.doing (store t o ∷ js) b) e = absurd cc
      go (C.doing (publish m ∷ js) b) e = absurd cc
      go (C.doing (part g t l ∷ js) b) e = absurd cc
      go s e = absurd cc

  pub shown_rest : (c : CoreView) → asked (located book c.left) ≡ C.rest → next c ≡ Rest
  shown_rest c e = ap (λ s. next_in s c.task) (rests_over book c.left e)

pub is_send : (x : Envelope) (a : Asked) → to_send a ≡ Some x → a ≡ C.to_queue (queue.publish x)
is_send x (C.to_queue (queue.publish y)) e = cc
is_send x a e = absurd cc

-- the envelope that is handed out is the one that the ask publishes
pub handed_out : (book : Book) (x : Envelope) (c : CoreView) → c.is_out ≡ false → held_out c ≡ Some x
    → asked (located book c.left) ≡ C.to_queue (queue.publish x)
handed_out book x c out e =
    is_send x (asked (located book c.left)) (located_same (λ u. to_send (asked u)) (λ g c t v fs. refl) book c.left
    ∙ (sym (ap (λ b. if b then None else to_send (asked c.left)) out) ∙ e))

-- an envelope that was handed out makes no difference to the answer
unsent_kept : (book : Book) (s : Left) (h : Option Envelope) (r : Answer) → kept_next book (unsent s) h r ≡ kept_next book s h r
unsent_kept book (C.doing (publish e ∷ js) b) h r = refl
unsent_kept book s h r = refl

unsent_task : (book : Book) (s : Left) (x : Option ℕ) (r : Answer) → task_next book (unsent s) x r ≡ task_next book s x r
unsent_task book (C.doing (publish e ∷ js) b) x r = refl
unsent_task book s x r = refl

pub handed_same : (behaviour : Behaviour) (book : Book) (c : CoreView) (r : Reply) → after_reply behaviour book (handed c) r ≡ after_reply behaviour book c r
handed_same behaviour book c r =
    ap₂ (λ (s : Left) (n : ℕ). record {
      left = s;
      is_out = false;
      dropped = min greatest_count (c.dropped + n);
      kept = kept_next book (unsent c.left) c.kept (replied r);
      task = task_next book (unsent c.left) c.task (replied r);
    }) (unsent_told behaviour book c.left r) (unsent_drops book c.left (replied r))
    ∙ ap₂ (λ (h : Option Envelope) (x : Option ℕ). record {
      left = left_told behaviour book c.left r;
      is_out = false;
      dropped = min greatest_count (c.dropped + drops book c.left (replied r));
      kept = h;
      task = x;
    }) (unsent_kept book c.left c.kept (replied r)) (unsent_task book c.left c.task (replied r))

-- nor does it to the ask
pub still_publishes : (x : Option ℕ) (s : Left) → next_in s x ≡ Publish → next_in (unsent s) x ≡ Publish
still_publishes n (C.doing (publish m ∷ js) b) e = refl
still_publishes n s e = e

-- ---- what is left

-- only a core that waits to take asks to
pub takes_taking : (s : Left) (x : Option ℕ) → next_in s x ≡ Take → s ≡ C.taking
takes_taking C.taking x e = refl
takes_taking (C.doing [] b) x e = absurd cc
takes_taking (C.doing (store t o ∷ js) b) x e = absurd cc
takes_taking (C.doing (publish m ∷ js) b) x e = absurd cc
takes_taking (C.doing (part g t l ∷ js) b) x e = absurd cc
takes_taking s x e = absurd cc

-- and has nothing to publish
pub reads_back : (s : Left) (x : Option ℕ) → next_in s x ≡ Take → C.ReadsBack (enveloped_by no_tasks no_book) s
reads_back s x e = subst (λ l. C.ReadsBack (enveloped_by no_tasks no_book) l) (sym (takes_taking s x e)) tt

unread_lost : (o : Option Content) → unread o ≡ is_lost o + 0
unread_lost None = refl
unread_lost (Some c) = refl

drops_in : (plan : Roster) (s : Left) (r : Answer) → drops (book_on plan) s r ≡ of_queue (dropping plan) (asked s) r
drops_in plan C.taking (C.from_queue None) = refl
drops_in plan C.taking (C.from_queue (Some e)) = unread_lost (opened (book_on plan) e)
drops_in plan C.taking r = refl
drops_in plan (C.doing (publish m ∷ js) b) (C.from_queue x) = refl
drops_in plan s r = refl

-- what a core counts as dropped is what its ask and the answer drop
pub drops_so : (plan : Roster) (s : Left) (r : Answer) → drops (book_on plan) s r ≡ of_queue (dropping plan) (asked (located (book_on plan) s)) r
drops_so plan s r =
    sym (located_same (λ u. drops (book_on plan) u r) (λ g c t v fs. refl) (book_on plan) s) ∙ drops_in plan (located (book_on plan) s) r
