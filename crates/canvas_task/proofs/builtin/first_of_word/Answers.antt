use Rattle.std.proofs.Common.{◌∙◌, ap, sym, bytes_eq}
use Rattle.std.proofs.lemmas.List.{drop_more}
use Rattle.canvas_task.specs.Builtin.{word}
use Rattle.canvas_task.specs.declared.builtin.Builtin.TheVariants.{Add}
use Rattle.canvas_task.proofs.Lookups.{called_here, called_later, called_nowhere}
use Rattle.canvas_task.proofs.builtin.first_of_word.Goals as goal

pub returns-then-eq : goal.returns-then-eq
returns-then-eq c =
    let at = drop_more c.args.tasks.now c.loop-task.task-index Add c.loop-task-test.true in
    let told = ap (λ w. bytes_eq w c.args.given.now) (sym c.word.ensures) ∙ sym c.eq.ensures ∙ c.if-eq.true in
    called_here word c.args.given.now c.args.tasks.now c.loop-task.task-index _ _ at told c.loop-task.invariant

pub loop-task-preserved : goal.loop-task-preserved
loop-task-preserved c =
    let at = drop_more c.args.tasks.now c.loop-task.task-index Add c.loop-task-test.true in
    let told = ap (λ w. bytes_eq w c.args.given.now) (sym c.word.ensures) ∙ sym c.eq.ensures ∙ c.if-eq.false in
    called_later word c.args.given.now c.args.tasks.now c.loop-task.task-index _ _ at told c.loop-task.invariant

pub returns : goal.returns
returns c = called_nowhere word c.args.given.now c.args.tasks.now c.loop-task.task-index _ c.loop-task-test.false c.loop-task.invariant
