use Rattle.std.proofs.Common.{◌≡◌, ◌∷◌, rules}
use Rattle.canvas_engine.proofs.ByTurns.Portions.{portion_sealed, portion_read}
use Rattle.canvas_engine.specs.steps.TurnRuns.{ReadsAs}
use Rattle.canvas_engine.proofs.by_turns.firsts.first_envelopes.Goals as goal

pub portions-preserved : goal.portions-preserved
portions-preserved c =
    let l = c.portions in
    let split : l.firsts ≡ c.in-Some.messages.items ∷ c.next.new.self = search rules in (
      portion_sealed l.envelopes.items _ _ l.firsts c.next.new.self _ l.invariant.0 split c.in_ok-seal_all.ensures.value,
      portion_read ReadsAs l.firsts _ c.next.new.self l.invariant.1 split c.in_ok-seal_all.ensures.back,
    )
