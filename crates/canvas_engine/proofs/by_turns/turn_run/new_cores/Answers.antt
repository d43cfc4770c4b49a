use Rattle.std.proofs.Common.{◌≡◌, ◌+◌, sym, ap, ◌∙◌, subst, length}
use Rattle.std.proofs.lemmas.List.{length_push}
use Rattle.std.proofs.lemmas.List.Elements.{All-push}
use Rattle.canvas_core.specs.CoreState.{begun}
use Rattle.canvas_engine.specs.steps.TurnRuns.{AreNew}
use Rattle.canvas_engine.proofs.by_turns.turn_run.new_cores.Goals as goal

pub loop-worker-preserved : goal.loop-worker-preserved
loop-worker-preserved c =
    let put = c.in_ok-push.ensures.items in (
      ap (λ l. length l) put ∙ length_push c.loop-worker.cores.items c.new.result ∙ ap (λ n. n + 1) c.loop-worker.invariant.0,
      subst AreNew (sym put) (All-push (λ s. s ≡ begun) c.loop-worker.cores.items c.new.result c.loop-worker.invariant.1 c.new.ensures),
    )
