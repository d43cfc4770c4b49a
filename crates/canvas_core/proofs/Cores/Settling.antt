-- What is next in a script: its first store, its first envelope where it has no store, and its part.
use Rattle.std.proofs.Common.{◌≡◌, ◌∙◌, ℕ, List, [], ◌∷◌, ◌++◌, map, sym, ap}
use Rattle.canvas_task.specs.declared.outcome.Outcome.{Outcome}
use Rattle.canvas_effects.specs.Job.{store, publish}
use Rattle.canvas_history.specs.declared.stored.Stored.{Stored}
use Rattle.canvas_runs.specs.Core.{doing, settled}
use Rattle.canvas_core.specs.Books.{no_book}
use Rattle.canvas_core.specs.EnvelopeWorker.{no_tasks, by_place, unapplied}
use Rattle.canvas_core.specs.CoreState.{Left}
use Rattle.canvas_core.specs.Scripts.{EnvelopeJobs}
use Rattle.canvas_core.specs.declared.sealed.Sealed.{Sealed}

module _ (part : EnvelopeJobs) (latest : Stored) where
  abbrev jobs : List (ℕ × Outcome) → List Sealed → EnvelopeJobs
  jobs stores publishes = map (λ e. store e.0 e.1) stores ++ (map (λ p. publish (unapplied p.envelope)) publishes ++ part)

  abbrev next : EnvelopeJobs → Left
  next js = settled (by_place no_tasks no_book) js latest

  pub store_first : (e : ℕ × Outcome) (stores others : List (ℕ × Outcome)) (publishes : List Sealed) → stores ≡ e ∷ others
      → doing (store e.0 e.1 ∷ jobs others publishes) latest ≡ next (jobs stores publishes)
  store_first e stores others publishes some = sym (ap (λ l. next (jobs l publishes)) some)

  pub publish_first : (p : Sealed) (stores left : List (ℕ × Outcome)) (publishes others : List Sealed) → stores ≡ [] → left ≡ [] → publishes ≡ p ∷ others
      → doing (publish (unapplied p.envelope) ∷ jobs left others) latest ≡ next (jobs stores publishes)
  publish_first p stores left publishes others none still some =
      ap (λ l. doing (publish (unapplied p.envelope) ∷ jobs l others) latest) still
      ∙ sym (ap (λ l. next (jobs [] l)) some) ∙ sym (ap (λ l. next (jobs l publishes)) none)

  pub part_first : (stores : List (ℕ × Outcome)) (publishes : List Sealed) (now : Left) → stores ≡ [] → publishes ≡ [] → now ≡ next part
      → now ≡ next (jobs stores publishes)
  part_first stores publishes now none empty is =
      is ∙ sym (ap (λ l. next (jobs [] l)) empty) ∙ sym (ap (λ l. next (jobs l publishes)) none)
