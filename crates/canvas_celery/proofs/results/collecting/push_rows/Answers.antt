use Rattle.std.proofs.Common.{◌≡◌, ◌<◌, ℕ, subst, sym, ◌∙◌, arith, rules}
use Rattle.canvas_semantics.specs.Line.{count_line}
use Rattle.canvas_celery.specs.steps.Rows.{Gains, RowFault}
use Rattle.canvas_celery.specs.Refused.{IsCollectFault}
use Rattle.canvas_celery.specs.Pieces.{lines_in}
use Rattle.canvas_celery.proofs.Collected.Said.{some_left, read_more, read_none, read_all, refused_next}
use Rattle.canvas_celery.proofs.results.collecting.push_rows.Goals as goal

pub loop-index-init : goal.loop-index-init
loop-index-init c = read_none c.args.run.now.digits (count_line c.args.plan.now) c.args.text.now c.args.rows.now.items c.requires.empty

pub split_line-requires : goal.split_line-requires
split_line-requires c =
    let read = c.loop-index.invariant in
    let less : c.loop-index.index < count_line c.args.plan.now = omega arith in
    some_left (lines_in c.args.text.now) read.0 c.loop-index.rest.now c.loop-index.index (count_line c.args.plan.now) read.1 read.2 c.requires.lines less

pub task_at-requires : goal.task_at-requires
task_at-requires c = omega arith

pub loop-index-preserved : goal.loop-index-preserved
loop-index-preserved c =
    let G : ℕ → Type 0 = λ k. Gains c.args.run.now.digits (count_line c.args.plan.now) k c.split_line.result.0.now c.loop-index.rows.items
    c.push_row.new.rows.items in
    read_more c.args.run.now.digits
    (count_line c.args.plan.now) c.args.text.now c.loop-index.rest.now _ c.split_line.result.1.now c.loop-index.index c.loop-index.rows.items _
    c.split_line.ensures.line c.loop-index.invariant (subst G c.task_at.ensures c.in_ok-push_row.ensures.gains)

pub returns-in_err-push_row-clause-refused : goal.returns-in_err-push_row-clause-refused
returns-in_err-push_row-clause-refused c =
    let R : ℕ → Type 0 = λ k. RowFault c.args.run.now.digits (count_line c.args.plan.now) k c.split_line.result.0.now c.in_err-push_row.field-0.0 in
    let refused : IsCollectFault c.args.run.now.digits (count_line c.args.plan.now) (lines_in c.args.text.now) c.in_err-push_row.field-0.0 =
    refused_next c.args.run.now.digits (count_line c.args.plan.now) c.args.text.now c.loop-index.rest.now _ c.split_line.result.1.now c.loop-index.index
    c.loop-index.rows.items c.in_err-push_row.field-0.0 c.split_line.ensures.line c.loop-index.invariant c.requires.lines
    (subst R c.task_at.ensures c.in_err-push_row.ensures.refused) in
    search rules

pub returns : goal.returns
returns c =
    let read = c.loop-index.invariant in
    let last : c.loop-index.index ≡ count_line c.args.plan.now = omega arith in
    record {
      count = read.3 ∙ last;
      said = read_all c.args.run.now.digits (count_line c.args.plan.now) c.args.text.now c.loop-index.rest.now c.loop-index.index c.loop-index.rows.items read
          (c.requires.lines ∙ sym last);
      refused = tt;
    }
