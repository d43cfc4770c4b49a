-- Inside a script its envelope is held.
use Rattle.std.proofs.Common.{◌≡◌, ◌∙◌, ℕ, ◌∷◌, Option, Some, None, refl, sym, ap, subst}
use Rattle.std.specs.Prelude.{true, false, IsSome}
use Rattle.std.proofs.lemmas.Bool.{false≢true}
use Rattle.canvas_task.specs.Apply.{Behaviour}
use Rattle.canvas_effects.specs.Job.{store, publish, part}
use Rattle.canvas_envelope.specs.declared.envelope.Envelope.{Envelope}
use Rattle.canvas_history.specs.Table as table
use Rattle.canvas_history.specs.Roster.{Roster}
use Rattle.canvas_runs.specs.Book.{Book, book_on}
use Rattle.canvas_runs.specs.Calls.{held_by}
use Rattle.canvas_runs.specs.Core as C
use Rattle.canvas_runs.specs.Core.{answered, is_inside}
use Rattle.canvas_core.specs.Asks.{Answer, FoundOf, replied}
use Rattle.canvas_core.specs.EnvelopeWorker.{enveloped}
use Rattle.canvas_core.specs.CoreState.{Left, located, asked, next_in, left_told, open_of}
use Rattle.canvas_core.specs.declared.ask.Reply.{Reply}
use Rattle.canvas_core.specs.steps.Members.{members_in}
use Rattle.canvas_core.proofs.Cores.Sound.{Sound}
use Rattle.canvas_core.proofs.Cores.Located.{located_same, told_located}

module _ (behaviour : Behaviour) (plan : Roster) where
  pub has_open : (s : Left) (h : Option Envelope) (r : Answer) → C.Suits (asked s) r → (is_inside s ≡ true → IsSome (open_of s h))
      → is_inside (answered (enveloped behaviour plan) s r) ≡ true → IsSome (held_by (open_of s h) (asked s) r)
  has_open C.taking h (C.from_queue None) u has i = absurd (false≢true i)
  has_open C.taking h (C.from_queue (Some e)) u has i = refl
  has_open C.resting h (C.rested true) u has i = absurd (false≢true i)
  has_open C.resting h (C.rested false) u has i = absurd (false≢true i)
  has_open (C.owning m) h (C.from_table (table.was b)) u has i = refl
  has_open (C.doing (store t o ∷ js) b) h (C.from_table (table.was a)) u has i = has refl
  has_open (C.doing (publish e ∷ js) b) h (C.from_queue None) u has i = has refl
  has_open (C.doing (publish e ∷ js) b) h C.refused u has i = has refl
  has_open (C.doing (part g t c ∷ js) b) h (C.from_table (table.count n)) u has i = has refl
  has_open (C.reading g c t fs) h (C.from_table (table.found x)) u has i = has refl
  has_open C.acking h C.acked u has i = absurd (false≢true i)
  has_open s h r u has i = elim u [ ]

  -- the same of a core that was told
  pub has_told : (s : Left) (h : Option Envelope) (x : Option ℕ) (r : Reply) → Sound (book_on plan) (located (book_on plan) s)
      → C.Suits (asked (located (book_on plan) s)) (replied r) → FoundOf (book_on plan) r (next_in s x) → (is_inside s ≡ true → IsSome (open_of s h))
      → is_inside (left_told behaviour (book_on plan) s r) ≡ true → IsSome (held_by (open_of s h) (asked (located (book_on plan) s)) (replied r))
  has_told s h x r sound suit found has i =
      let book : Book = book_on plan in
      let opens : open_of (located book s) h ≡ open_of s h = located_same (λ u. open_of u h) (λ g c t v fs. refl) book s in
      subst (λ k. IsSome (held_by k (asked (located book s)) (replied r))) opens
      (has_open (located book s) h (replied r) suit
      (λ j. subst (λ k. IsSome k) (sym opens) (has (sym (located_same is_inside (λ g c t v fs. refl) book s) ∙ j)))
      (ap is_inside (sym (told_located behaviour book (members_in plan) s x r sound found))
      ∙ (located_same is_inside (λ g c t v fs. refl) book (left_told behaviour book s r) ∙ i)))
