-- What a run is once the envelope of a core may have been delivered again.
use Rattle.std.proofs.Common.{◌≡◌, ◌<◌, ℕ, Bool, true, false, inl, inr, List, [], ◌∷◌, ◌++◌, length, Option, Some, None, refl, sym, ap, ◌∙◌, subst}
use Rattle.std.specs.Prelude.{IsSome, get_or, slice_get}
use Rattle.std.specs.List.{remove}
use Rattle.std.proofs.lemmas.Option.{slice_get_read, same_Some}
use Rattle.canvas_envelope.specs.declared.envelope.Envelope.{Envelope}
use Rattle.canvas_runs.specs.Core.{taking, resting, over, failed, owning, doing, reading, acking, is_inside}
use Rattle.canvas_runs.specs.Redeliveries.{Entry, wanted, spent, has, without}
use Rattle.canvas_core.specs.CoreState as standing
use Rattle.canvas_core.specs.CoreState.{CoreView, Left, point_in, point_at}
use Rattle.canvas_runs.specs.Turns.{redelivery}
use Rattle.canvas_engine.specs.steps.Noting.{Noted}
use Rattle.canvas_engine.specs.steps.TurnRuns.{Redelivers}
use Rattle.canvas_engine.specs.declared.by_turns.turn_run.TurnRun.{TurnRun}

-- a core that has come to a point is inside a message
inside_at : (s : Left) (x : Option ℕ) (p : Entry) → Some p ≡ point_in s x → is_inside s ≡ true
inside_at (owning e) x p h = refl
inside_at acking x p h = refl
inside_at taking x p h = absurd cc
inside_at resting x p h = absurd cc
inside_at over x p h = absurd cc
inside_at failed x p h = absurd cc
inside_at (doing js b) x p h = absurd cc
inside_at (reading g t u fs) x p h = absurd cc

module _ (s : TurnRun) (n i : ℕ) (c : CoreView) (place : i < length s.cores.items) (is_core : c ≡ get_or s.cores.items i c) where
  here : slice_get s.cores.items i ≡ Some c
  here = slice_get_read s.cores.items _ i c refl place is_core

  same : (core : CoreView) → slice_get s.cores.items i ≡ Some core → c ≡ core
  same core at = same_Some c core (sym here ∙ at)

  pub not_wanted : wanted (point_at c) s.again.items ≡ false → (core : CoreView) → slice_get s.cores.items i ≡ Some core → Redelivers n core s s
  not_wanted w core at = subst (λ d. Redelivers n d s s) (same core at) (record {
    envelope = inl (w, refl, refl, refl);
    others = (refl, refl, refl, refl);
  })

  pub none_wanted : None ≡ point_at c → (core : CoreView) → slice_get s.cores.items i ≡ Some core → Redelivers n core s s
  none_wanted e = not_wanted (ap (λ p. wanted p s.again.items) (sym e))

  module _ (p : Entry) (is_point : Some p ≡ point_at c) where
    -- whether there is an entry for the point, in a list that is the one of the run
    wanted_is : (b : Bool) (es : List Entry) → es ≡ s.again.items → has p.0 p.1 es ≡ b → wanted (point_at c) s.again.items ≡ b
    wanted_is b es e h = ap (λ q. wanted q s.again.items) (sym is_point) ∙ ap (has p.0 p.1) (sym e) ∙ h

    pub no_entry : (es : List Entry) → es ≡ s.again.items → has p.0 p.1 es ≡ false → (core : CoreView) → slice_get s.cores.items i ≡ Some core
        → Redelivers n core s s
    no_entry es e h = not_wanted (wanted_is false es e h)

    pub holds_one : ((core : CoreView) → slice_get s.cores.items i ≡ Some core → is_inside core.left ≡ true → IsSome (standing.held core))
        → IsSome (standing.held c)
    holds_one holds = holds c here (inside_at c.left c.task p is_point)

    pub delivered_again : (es : List Entry) → es ≡ s.again.items → (j : ℕ) → (has p.0 p.1 es ≡ true) × (remove es j ≡ without p.0 p.1 es)
        → (e : Envelope) → standing.held c ≡ Some e → (t : TurnRun) → t.queue ≡ s.queue ++ e ∷ [] → t.again.items ≡ remove s.again.items j
        → (t.table ≡ s.table) × (t.cores ≡ s.cores) × (t.steps ≡ s.steps) × (t.repeats ≡ s.repeats) → Noted s.notes (redelivery n e ∷ []) t.notes
        → (core : CoreView) → slice_get s.cores.items i ≡ Some core → Redelivers n core s t
    delivered_again es same_es j found e held t queue again others noted core at = subst (λ d. Redelivers n d s t) (same core at) (record {
      envelope = inr (
        wanted_is true es same_es found.0,
        (e, held, queue, noted),
        again ∙ ap (λ l. remove l j) (sym same_es) ∙ found.1 ∙ ap (without p.0 p.1) same_es ∙ ap (λ q. spent q s.again.items) is_point,
      );
      others = others;
    })
