-- A script with its envelopes is the script of what is to be done, with its messages as envelopes.
use Rattle.std.proofs.Common.{◌≡◌, ◌∙◌, ℕ, List, [], ◌∷◌, ◌++◌, map, refl, sym, ap, ap₂}
use Rattle.canvas_task.specs.declared.outcome.Outcome.{Outcome}
use Rattle.canvas_rewrite.specs.FrozenView.{PCarried}
use Rattle.canvas_envelope.specs.Content.{Content}
use Rattle.canvas_effects.specs.Job.{Job, store, publish}
use Rattle.canvas_envelope.specs.declared.envelope.Envelope.{Envelope}
use Rattle.canvas_core.specs.EnvelopeWorker.{Applied, unapplied, enclosed, envelope_of}
use Rattle.canvas_core.specs.declared.sealed.Sealed.{Sealed}

abbrev Jobs : Type 0
Jobs = List (Job Content PCarried Outcome)

abbrev Sent : Type 0
Sent = List (Job Applied PCarried Outcome)

abbrev publishes : List Sealed → Sent
publishes ps = map (λ p. publish (unapplied p.envelope)) ps

abbrev published : List Envelope → Sent
published es = map (λ e. publish (unapplied e)) es

abbrev kept : List (ℕ × Outcome) → Sent
kept es = map (λ e. store e.0 e.1) es

stores_made : (es : List (ℕ × Outcome)) (js : Jobs) → map enclosed (map (λ e. store e.0 e.1) es ++ js) ≡ kept es ++ map enclosed js
stores_made [] js = refl
stores_made (e ∷ es) js = ap (λ x. store e.0 e.1 ∷ x) (stores_made es js)

messages_made : (ms : List Content) (js : Jobs) → map enclosed (map (λ m. publish m) ms ++ js) ≡ published (map envelope_of ms) ++ map enclosed js
messages_made [] js = refl
messages_made (m ∷ ms) js = ap (λ x. publish (unapplied (envelope_of m)) ∷ x) (messages_made ms js)

publishes_of : (ps : List Sealed) → publishes ps ≡ published (map (λ p. p.envelope) ps)
publishes_of [] = refl
publishes_of (p ∷ ps) = ap (λ js. publish (unapplied p.envelope) ∷ js) (publishes_of ps)

pub jobs_made : (es fs : List (ℕ × Outcome)) (ps : List Sealed) (ms : List Content) (last : Jobs) → es ≡ fs → map (λ p. p.envelope) ps ≡ map envelope_of ms
    → kept es ++ (publishes ps ++ map enclosed last) ≡ map enclosed (map (λ e. store e.0 e.1) fs ++ (map (λ m. publish m) ms ++ last))
jobs_made es fs ps ms last he hm =
    ap₂ (λ x y. kept x ++ (y ++ map enclosed last)) he (publishes_of ps ∙ ap published hm)
    ∙ sym (stores_made fs (map (λ m. publish m) ms ++ last) ∙ ap (λ x. kept fs ++ x) (messages_made ms last))
