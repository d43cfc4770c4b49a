use Rattle.std.proofs.Common.{refl, sym, ap, ◌∙◌, ◌∷◌, ◌++◌, [], subst}
use Rattle.std.specs.Prelude.{IsSome}
use Rattle.canvas_runs.specs.Turns.{redelivery}
use Rattle.canvas_engine.specs.steps.Noting.{Noted}
use Rattle.canvas_engine.proofs.ByTurns.Delivering.{none_wanted, no_entry, holds_one, delivered_again}
use Rattle.canvas_engine.proofs.by_turns.turn_run.TurnRun.deliver_again.Goals as goal

pub returns-in_default-clause-ok : goal.returns-in_default-clause-ok
returns-in_default-clause-ok c =
    none_wanted c.args.self.now c.args.worker c.args.index c.index-core.result.now c.requires.index c.index-core.ensures c.in_default.ensures

pub returns-in_default-first_for-clause-ok : goal.returns-in_default-first_for-clause-ok
returns-in_default-first_for-clause-ok c =
    no_entry c.args.self.now c.args.worker c.args.index c.index-core.result.now c.requires.index c.index-core.ensures
    c.in-Some.point c.in-Some.ensures c.deref.result.now c.deref.ensures.value c.in_default-first_for.ensures

pub unreachable-requires : goal.unreachable-requires
unreachable-requires c =
    let holds = holds_one c.args.self.now c.args.worker c.args.index c.index-core.result.now c.requires.index c.index-core.ensures
    c.in-Some.point c.in-Some.ensures c.requires.holds in
    let none = subst IsSome (sym c.in-None.ensures) holds in absurd cc

pub returns-in-Ok-clause-ok : goal.returns-in-Ok-clause-ok
returns-in-Ok-clause-ok c =
    let now = c.args.self.now in
    delivered_again now c.args.worker c.args.index c.index-core.result.now c.requires.index c.index-core.ensures
    c.in-Some.point c.in-Some.ensures c.deref.result.now c.deref.ensures.value
    c.in-Some-first_for.entry (c.in-Some-first_for.ensures.1, c.in-Some-first_for.ensures.2)
    c.in-Some-held.envelope.now (sym c.in-Some-held.ensures)
    (record {
      queue = c.publish.new.self;
      table = now.table;
      cores = now.cores;
      steps = now.steps;
      again = c.remove.new.self;
      repeats = now.repeats;
      notes = c.redelivered.new.self;
    })
    (c.in-Ok.ensures.call ∙ ap (λ e. now.queue ++ e ∷ []) c.in_ok-copy-in-Some-held.ensures)
    c.remove.ensures.items (refl, refl, refl, refl)
    (subst (λ e. Noted now.notes (redelivery c.args.worker e ∷ []) c.redelivered.new.self) c.in_ok-copy-in-Some-held.ensures c.in_ok-redelivered.ensures)
