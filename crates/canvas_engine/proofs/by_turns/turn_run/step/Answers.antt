use Rattle.std.proofs.Common.{[], ◌∷◌, refl, sym, subst}
use Rattle.canvas_backend.specs.Plain.{held}
use Rattle.canvas_history.specs.Table as table
use Rattle.canvas_runs.specs.Core as C
use Rattle.canvas_runs.specs.Book.{book_on}
use Rattle.canvas_core.specs.declared.ask.Reply.TheVariants as R
use Rattle.canvas_core.specs.declared.ask.Ask.TheVariants as A
use Rattle.canvas_engine.specs.steps.TurnRuns.{MayAsk, asks_of, step_now}
use Rattle.canvas_engine.specs.steps.Noting.{Noted}
use Rattle.canvas_core.proofs.Cores.ShownAsks.{is_store, is_part, is_read}
use Rattle.canvas_engine.proofs.ByTurns.Noting.{at_more}
use Rattle.canvas_engine.proofs.ByTurns.TurnRunAsks.{answered_err, none_counted}
use Rattle.canvas_engine.proofs.by_turns.turn_run.step.Goals as goal

pub returns-in_err-plain-in-Store-clause-err : goal.returns-in_err-plain-in-Store-clause-err
returns-in_err-plain-in-Store-clause-err g c =
    let old = c.args.core.now in
    answered_err (g.T.Tasks.behaviour c.args.tasks.now) _ c.args.turn.more old old c.args.queue.now c.args.queue.now c.args.table.now c.store-stored.new.self
    (C.to_table (table.store c.in-Store.task c.in-Store.outcome)) (R.Stored c.store-stored.result)
    (is_store (book_on c.args.table.now.plan) c.in-Store.task c.in-Store.outcome old (sym c.in-Store.ensures.ask))
    c.store-stored.ensures.reply
    (c.in-Store.ensures.reads_back c.requires.inside) c.store-stored.ensures.after c.store-stored.ensures.plan

pub returns-in_err-plain-in-Part-clause-err : goal.returns-in_err-plain-in-Part-clause-err
returns-in_err-plain-in-Part-clause-err g c =
    let old = c.args.core.now in
    answered_err (g.T.Tasks.behaviour c.args.tasks.now) _ c.args.turn.more old old c.args.queue.now c.args.queue.now c.args.table.now c.part-count.new.self
    (C.to_table (table.part c.in-Part.group c.in-Part.task)) (R.Counted c.part-count.result)
    (is_part (book_on c.args.table.now.plan) c.in-Part.group c.in-Part.task old (sym c.in-Part.ensures.ask))
    c.part-count.ensures.reply
    (c.in-Part.ensures.reads_back c.requires.inside) c.part-count.ensures.after c.part-count.ensures.plan

pub returns-in-Publish-clause-again : goal.returns-in-Publish-clause-again
returns-in-Publish-clause-again g c =
    none_counted (held c.args.table.now) c.args.table.now.plan c.args.core.now A.Publish c.args.repeats.now c.in-Publish.ensures.ask refl

pub returns-in-Publish-clause-noted : goal.returns-in-Publish-clause-noted
returns-in-Publish-clause-noted g c =
    let table = c.args.table.now in
    at_more c.publish.result
    (λ more. Noted c.args.notes.now (step_now c.args.turn.worker table.plan c.args.queue.now (held table) more
    (asks_of table.plan c.args.core.now) ∷ []) c.publish.new.notes)
    c.args.turn.more c.publish.ensures.noted

pub read-requires : goal.read-requires
read-requires g c =
    subst (MayAsk c.args.table.now.plan (held c.args.table.now))
    (is_read (book_on c.args.table.now.plan) c.in-Read.group c.in-Read.place c.in-Some.task c.args.core.now (sym c.in-Read.ensures.ask) (sym c.in-Some.ensures))
    c.requires.may
