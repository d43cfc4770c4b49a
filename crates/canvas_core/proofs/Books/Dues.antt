-- The part of a script is the one that is due.
use Rattle.std.proofs.Common.{◌≡◌, ◌∙◌, ℕ, false, eqb, List, [], ◌∷◌, ◌++◌, map, Option, Some, None, refl, ap}
use Rattle.std.specs.Prelude.{option_map}
use Rattle.canvas_task.specs.declared.outcome.Outcome.{Outcome}
use Rattle.canvas_effects.specs.Effects.{part_jobs}
use Rattle.canvas_effects.specs.Job.{store, publish}
use Rattle.canvas_effects.specs.Todos.{part_view}
use Rattle.canvas_effects.specs.declared.todo.PartCall.{PartCall}
use Rattle.canvas_runs.specs.Core.{is_due}
use Rattle.canvas_core.specs.EnvelopeWorker.{unapplied, enclosed}
use Rattle.canvas_core.specs.Scripts.{EnvelopeJobs, jobs_of}
use Rattle.canvas_core.specs.declared.script.Script.{Script}
use Rattle.canvas_core.specs.declared.sealed.Sealed.{Sealed}

module _ (t : ℕ) where
  after_stores : (es : List (ℕ × Outcome)) (js : EnvelopeJobs) → is_due t (map (λ e. store e.0 e.1) es ++ js) ≡ is_due t js
  after_stores [] js = refl
  after_stores (e ∷ es) js = after_stores es js

  after_publishes : (ps : List Sealed) (js : EnvelopeJobs) → is_due t (map (λ p. publish (unapplied p.envelope)) ps ++ js) ≡ is_due t js
  after_publishes [] js = refl
  after_publishes (p ∷ ps) js = after_publishes ps js

  part_due : (s : Script) → is_due t (jobs_of s) ≡ is_due t (map enclosed (part_jobs (option_map part_view s.part)))
  part_due s =
      let part : EnvelopeJobs = map enclosed (part_jobs (option_map part_view s.part)) in
      after_stores s.stores.items (map (λ p. publish (unapplied p.envelope)) s.publishes.items ++ part) ∙ after_publishes s.publishes.items part

  by_part : (s : Script) (o : Option PartCall) → s.part ≡ o → is_due t (jobs_of s) ≡ is_due t (map enclosed (part_jobs (option_map part_view o)))
  by_part s o is = part_due s ∙ ap (λ x. is_due t (map enclosed (part_jobs (option_map part_view x)))) is

  pub some_due : (s : Script) (p : PartCall) → s.part ≡ Some p → is_due t (jobs_of s) ≡ eqb t p.task
  some_due s p is = by_part s (Some p) is

  pub none_due : (s : Script) → s.part ≡ None → is_due t (jobs_of s) ≡ false
  none_due s is = by_part s None is
