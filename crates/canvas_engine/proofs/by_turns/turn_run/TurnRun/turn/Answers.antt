use Rattle.std.proofs.Common.{refl, sym, ap, ◌∙◌, subst, arith}
use Rattle.canvas_backend.specs.Plain.{PlainView, held}
use Rattle.canvas_runs.specs.Core.{ReadsBack}
use Rattle.canvas_core.specs.Books.{no_book}
use Rattle.canvas_core.specs.EnvelopeWorker.{enveloped_by, no_tasks}
use Rattle.canvas_core.specs.CoreState.{CoreView, next}
use Rattle.canvas_engine.specs.steps.TurnRuns.{asks_of, IsThere, MayAsk, AreInRange}
use Rattle.canvas_engine.proofs.ByTurns.TurnRunTurns.{here_first, others, place_then, core_then, core_now, unchanged}
use Rattle.canvas_engine.proofs.ByTurns.TurnRunTurns.{not_out, has_open, skipped, stopped, may_ask, is_there, held_in_range, went, halfway, one_fewer}
use Rattle.canvas_engine.proofs.by_turns.turn_run.TurnRun.turn.Goals as goal

pub returns-then-has_ended-clause-ok : goal.returns-then-has_ended-clause-ok
returns-then-has_ended-clause-ok g c = λ n most es us xs reached.
    let core = c.index.result.now in
    let here = here_first (g.T.Tasks.behaviour c.args.tasks.now)
    (g.met.T.Tasks.in_range c.args.tasks.now) c.args.plan.now c.args.worker c.args.self.now c.requires c.index.result.now c.index.ensures in
    let out = not_out (g.T.Tasks.behaviour c.args.tasks.now)
    (g.met.T.Tasks.in_range c.args.tasks.now) c.args.plan.now c.args.worker c.args.self.now c.requires core here in
    skipped (g.T.Tasks.behaviour c.args.tasks.now)
    (g.met.T.Tasks.in_range c.args.tasks.now) c.args.plan.now c.args.worker c.args.self.now c.requires core here n most es us xs reached
    (c.if-has_ended.ensures.reads_back out) c.if-has_ended.ensures.end

pub returns-then-self-eq0-clause-err : goal.returns-then-self-eq0-clause-err
returns-then-self-eq0-clause-err g c = λ n most es us xs reached.
    let core = c.index.result.now in
    let here = here_first (g.T.Tasks.behaviour c.args.tasks.now)
    (g.met.T.Tasks.in_range c.args.tasks.now) c.args.plan.now c.args.worker c.args.self.now c.requires c.index.result.now c.index.ensures in
    let out = not_out (g.T.Tasks.behaviour c.args.tasks.now)
    (g.met.T.Tasks.in_range c.args.tasks.now) c.args.plan.now c.args.worker c.args.self.now c.requires core here in
    stopped (g.T.Tasks.behaviour c.args.tasks.now)
    (g.met.T.Tasks.in_range c.args.tasks.now) c.args.plan.now c.args.worker c.args.self.now c.requires core here n most es us xs reached
    (c.if-has_ended.ensures.reads_back out) c.if-has_ended.ensures.end c.if-self-eq0.true

pub deliver_again-requires-clause-holds : goal.deliver_again-requires-clause-holds
deliver_again-requires-clause-holds g c = λ core here inside. has_open (g.T.Tasks.behaviour c.args.tasks.now)
    (g.met.T.Tasks.in_range c.args.tasks.now) c.args.plan.now c.args.worker c.args.self.now c.requires core here inside

pub tells_more-more-requires : goal.tells_more-more-requires
tells_more-more-requires g c = place_then (g.T.Tasks.behaviour c.args.tasks.now)
    (g.met.T.Tasks.in_range c.args.tasks.now) c.args.plan.now c.args.worker c.args.self.now c.requires
    c.index.result.now c.index.ensures c.deliver_again.new.self c.in-Ok.ensures.ok

pub index_mut-requires : goal.index_mut-requires
index_mut-requires g c =
    let place = place_then (g.T.Tasks.behaviour c.args.tasks.now)
    (g.met.T.Tasks.in_range c.args.tasks.now) c.args.plan.now c.args.worker c.args.self.now c.requires
    c.index.result.now c.index.ensures c.deliver_again.new.self c.in-Ok.ensures.ok in
    let long = c.deliver_again.new.self.cores.ok in omega (arith, place, long)

pub step-requires-clause-inside : goal.step-requires-clause-inside
step-requires-clause-inside g c =
    let core = c.index_mut.result.now in
    not_out (g.T.Tasks.behaviour c.args.tasks.now)
    (g.met.T.Tasks.in_range c.args.tasks.now) c.args.plan.now c.args.worker c.args.self.now c.requires core
    (core_now (g.T.Tasks.behaviour c.args.tasks.now)
    (g.met.T.Tasks.in_range c.args.tasks.now) c.args.plan.now c.args.worker c.args.self.now c.requires
    c.index.result.now c.index.ensures c.deliver_again.new.self c.in-Ok.ensures.ok c.index_mut.result.now c.index_mut.ensures.value)

pub step-requires-clause-may : goal.step-requires-clause-may
step-requires-clause-may g c =
    let first = c.index.result.now in
    let core = c.index_mut.result.now in
    let turn = c.requires in
    let here = here_first (g.T.Tasks.behaviour c.args.tasks.now)
    (g.met.T.Tasks.in_range c.args.tasks.now) c.args.plan.now c.args.worker c.args.self.now c.requires c.index.result.now c.index.ensures in
    let now = core_now (g.T.Tasks.behaviour c.args.tasks.now)
    (g.met.T.Tasks.in_range c.args.tasks.now) c.args.plan.now c.args.worker c.args.self.now c.requires
    c.index.result.now c.index.ensures c.deliver_again.new.self c.in-Ok.ensures.ok c.index_mut.result.now c.index_mut.ensures.value in
    let same = unchanged (g.T.Tasks.behaviour c.args.tasks.now)
    (g.met.T.Tasks.in_range c.args.tasks.now) c.args.plan.now c.args.worker c.args.self.now c.requires
    c.index.result.now c.index.ensures c.deliver_again.new.self c.in-Ok.ensures.ok c.index_mut.result.now c.index_mut.ensures.value in
    let back = subst (λ (d : CoreView). ReadsBack (enveloped_by no_tasks no_book) d.left) same
    (c.if-has_ended.ensures.reads_back (not_out (g.T.Tasks.behaviour c.args.tasks.now)
    (g.met.T.Tasks.in_range c.args.tasks.now) c.args.plan.now c.args.worker c.args.self.now c.requires first here)) in
    subst (λ (table : PlainView). MayAsk table.plan (held table) (asks_of table.plan core)) (sym (c.in-Ok.ensures.ok first here).others.0)
    (may_ask (g.T.Tasks.behaviour c.args.tasks.now)
    (g.met.T.Tasks.in_range c.args.tasks.now) c.args.plan.now c.args.worker c.args.self.now c.requires core now
    turn.0 turn.1 turn.2 turn.3 turn.5.0 turn.5.1 back)

pub step-requires-clause-there : goal.step-requires-clause-there
step-requires-clause-there g c =
    let first = c.index.result.now in
    let core = c.index_mut.result.now in
    let turn = c.requires in
    let here = here_first (g.T.Tasks.behaviour c.args.tasks.now)
    (g.met.T.Tasks.in_range c.args.tasks.now) c.args.plan.now c.args.worker c.args.self.now c.requires c.index.result.now c.index.ensures in
    let now = core_now (g.T.Tasks.behaviour c.args.tasks.now)
    (g.met.T.Tasks.in_range c.args.tasks.now) c.args.plan.now c.args.worker c.args.self.now c.requires
    c.index.result.now c.index.ensures c.deliver_again.new.self c.in-Ok.ensures.ok c.index_mut.result.now c.index_mut.ensures.value in
    subst (λ (table : PlainView). IsThere table.plan (next core)) (sym (c.in-Ok.ensures.ok first here).others.0)
    (is_there (g.T.Tasks.behaviour c.args.tasks.now)
    (g.met.T.Tasks.in_range c.args.tasks.now) c.args.plan.now c.args.worker c.args.self.now c.requires core now
    turn.0 turn.1 turn.2 turn.3 turn.5.0 turn.5.1)

pub step-requires-clause-in_range : goal.step-requires-clause-in_range
step-requires-clause-in_range g c =
    let core = c.index_mut.result.now in
    let turn = c.requires in
    let now = core_now (g.T.Tasks.behaviour c.args.tasks.now)
    (g.met.T.Tasks.in_range c.args.tasks.now) c.args.plan.now c.args.worker c.args.self.now c.requires
    c.index.result.now c.index.ensures c.deliver_again.new.self c.in-Ok.ensures.ok c.index_mut.result.now c.index_mut.ensures.value in
    subst (λ (table : PlainView). AreInRange (held table)) (sym (others (g.T.Tasks.behaviour c.args.tasks.now)
    (g.met.T.Tasks.in_range c.args.tasks.now) c.args.plan.now c.args.worker c.args.self.now c.requires
    c.index.result.now c.index.ensures c.deliver_again.new.self c.in-Ok.ensures.ok).0)
    (held_in_range (g.T.Tasks.behaviour c.args.tasks.now)
    (g.met.T.Tasks.in_range c.args.tasks.now) c.args.plan.now c.args.worker c.args.self.now c.requires core now
    turn.0 turn.1 turn.2 turn.3 turn.5.0 turn.5.1)

pub step-requires-clause-going : goal.step-requires-clause-going
step-requires-clause-going g c =
    let same = unchanged (g.T.Tasks.behaviour c.args.tasks.now)
    (g.met.T.Tasks.in_range c.args.tasks.now) c.args.plan.now c.args.worker c.args.self.now c.requires
    c.index.result.now c.index.ensures c.deliver_again.new.self c.in-Ok.ensures.ok c.index_mut.result.now c.index_mut.ensures.value in
    λ e. c.if-has_ended.ensures.end (ap (λ (d : CoreView). next d) same ∙ e)

pub overflow_sub-self : goal.overflow_sub-self
overflow_sub-self g c =
    let kept = others (g.T.Tasks.behaviour c.args.tasks.now)
    (g.met.T.Tasks.in_range c.args.tasks.now) c.args.plan.now c.args.worker c.args.self.now c.requires
    c.index.result.now c.index.ensures c.deliver_again.new.self c.in-Ok.ensures.ok in
    let some = one_fewer c.args.self.now.steps c.if-self-eq0.false in
    omega (arith, some, kept.2)

pub returns-in-Ok-step-clause-ok : goal.returns-in-Ok-step-clause-ok
returns-in-Ok-step-clause-ok g c = λ n most es us xs reached.
    let t = c.deliver_again.new.self in
    let core = c.index_mut.result.now in
    let kept = others (g.T.Tasks.behaviour c.args.tasks.now)
    (g.met.T.Tasks.in_range c.args.tasks.now) c.args.plan.now c.args.worker c.args.self.now c.requires
    c.index.result.now c.index.ensures c.deliver_again.new.self c.in-Ok.ensures.ok in
    let then = core_then (g.T.Tasks.behaviour c.args.tasks.now)
    (g.met.T.Tasks.in_range c.args.tasks.now) c.args.plan.now c.args.worker c.args.self.now c.requires
    c.index.result.now c.index.ensures c.deliver_again.new.self c.in-Ok.ensures.ok c.index_mut.result.now c.index_mut.ensures.value in
    let now = core_now (g.T.Tasks.behaviour c.args.tasks.now)
    (g.met.T.Tasks.in_range c.args.tasks.now) c.args.plan.now c.args.worker c.args.self.now c.requires
    c.index.result.now c.index.ensures c.deliver_again.new.self c.in-Ok.ensures.ok c.index_mut.result.now c.index_mut.ensures.value in
    went (g.T.Tasks.behaviour c.args.tasks.now)
    (g.met.T.Tasks.in_range c.args.tasks.now) c.args.plan.now c.args.worker c.args.self.now c.requires core now n most es us xs reached t
    (c.in-Ok.ensures.ok core now) c.tells_more-more.result (c.tells_more-more.ensures core then)
    _ c.step.new.core c.in-Ok-step.ensures.ok refl (one_fewer t.steps (λ e. c.if-self-eq0.false (sym kept.2 ∙ e))) c.in-Ok-step.ensures.again refl
    c.in-Ok-step.ensures.noted

pub returns-in-Err-step-clause-err : goal.returns-in-Err-step-clause-err
returns-in-Err-step-clause-err g c = λ n most es us xs reached.
    let core = c.index_mut.result.now in
    let then = core_then (g.T.Tasks.behaviour c.args.tasks.now)
    (g.met.T.Tasks.in_range c.args.tasks.now) c.args.plan.now c.args.worker c.args.self.now c.requires
    c.index.result.now c.index.ensures c.deliver_again.new.self c.in-Ok.ensures.ok c.index_mut.result.now c.index_mut.ensures.value in
    let now = core_now (g.T.Tasks.behaviour c.args.tasks.now)
    (g.met.T.Tasks.in_range c.args.tasks.now) c.args.plan.now c.args.worker c.args.self.now c.requires
    c.index.result.now c.index.ensures c.deliver_again.new.self c.in-Ok.ensures.ok c.index_mut.result.now c.index_mut.ensures.value in
    halfway (g.T.Tasks.behaviour c.args.tasks.now)
    (g.met.T.Tasks.in_range c.args.tasks.now) c.args.plan.now c.args.worker c.args.self.now c.requires core now n most es us xs reached
    c.deliver_again.new.self (c.in-Ok.ensures.ok core now) c.tells_more-more.result (c.tells_more-more.ensures core then)
    _ c.in-Err-step.ensures.err
