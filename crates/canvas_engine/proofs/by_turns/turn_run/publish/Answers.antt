use Rattle.std.proofs.Common.{◌≡◌, OnOk, [], ◌∷◌, None, refl, sym, ap, ◌∙◌, subst}
use Rattle.canvas_backend.specs.Plain.{held}
use Rattle.canvas_history.specs.Queue as queue
use Rattle.canvas_runs.specs.Core as C
use Rattle.canvas_runs.specs.Book.{book_on}
use Rattle.canvas_core.specs.CoreState.{after_reply}
use Rattle.canvas_core.specs.declared.ask.Reply.TheVariants as R
use Rattle.canvas_core.proofs.Cores.ShownAsks.{handed_out, handed_same}
use Rattle.canvas_engine.specs.steps.TurnRuns.{Stepped, asks_of, step_now}
use Rattle.canvas_engine.specs.steps.Noting.{Noted}
use Rattle.canvas_engine.proofs.ByTurns.Noting.{on_ok, noted_as}
use Rattle.canvas_engine.proofs.ByTurns.TurnRunAsks.{answered_ok, of_each}
use Rattle.canvas_engine.proofs.by_turns.turn_run.publish.Goals as goal

pub returns-in-Ok-clause-ok : goal.returns-in-Ok-clause-ok
returns-in-Ok-clause-ok g c =
    let old = c.args.core.now in
    let table = c.args.table.now in
    let asks = handed_out (book_on table.plan) c.in-Some.envelope old c.requires.inside (sym c.in-Some.ensures.value) in
    let same : after_reply (g.T.Tasks.behaviour c.args.tasks.now) (book_on table.plan) c.envelope.new.self R.Published
    ≡ after_reply (g.T.Tasks.behaviour c.args.tasks.now) (book_on table.plan) old R.Published =
    ap (λ s. after_reply (g.T.Tasks.behaviour c.args.tasks.now) (book_on table.plan) s R.Published) c.in-Some.ensures.core
    ∙ handed_same (g.T.Tasks.behaviour c.args.tasks.now) (book_on table.plan) old R.Published in
    of_each c.answer.result (λ more. Stepped (g.T.Tasks.behaviour c.args.tasks.now) more old c.args.queue.now table c.answer.new.self c.publish.new.self table)
    (λ more.
    answered_ok (g.T.Tasks.behaviour c.args.tasks.now) c.answer.result more old c.answer.new.self c.args.queue.now c.publish.new.self table table
    (C.to_queue (queue.publish c.in-Some.envelope)) R.Published asks refl tt c.requires.reads_back c.in-Ok.ensures.call refl refl
    (subst (λ s. OnOk c.answer.result (c.answer.new.self ≡ s)) same c.answer.ensures.ok))

pub returns-in-Ok-clause-noted : goal.returns-in-Ok-clause-noted
returns-in-Ok-clause-noted g c =
    let table = c.args.table.now in
    let asks = handed_out (book_on table.plan) c.in-Some.envelope c.args.core.now c.requires.inside (sym c.in-Some.ensures.value) in
    of_each c.answer.result
    (λ more. Noted c.args.notes.now (step_now c.args.worker table.plan c.args.queue.now (held table) more
    (asks_of table.plan c.args.core.now) ∷ []) c.published.new.self)
    (λ more. on_ok c.answer.result
    (noted_as table.plan c.args.queue.now (held table) more c.args.worker c.args.notes.now c.published.new.self
    (asks_of table.plan c.args.core.now) (C.to_queue (queue.publish c.in-Some.envelope)) (C.from_queue None) asks refl c.in_ok-published-in-Some.ensures))
