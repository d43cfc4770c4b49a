use Rattle.std.proofs.Common.{◌≡◌, ◌∙◌, [], ap, arith, eqb-true, length, subst, sym, vec_len}
use Rattle.std.proofs.lemmas.List.{nil_from_length}
use Rattle.std.specs.Io.Buffered.{reader_remaining}
use Rattle.canvas_answer.specs.Answers.{AnswersAll}
use Rattle.canvas_answer.specs.Asking.{asking}
use Rattle.canvas_answer.specs.Told.{report_status}
use Rattle.canvas_command.specs.steps.Batches.{IsBatch, IsPrinted}
use Rattle.canvas_command.proofs.Batches.{all_done, batch_done, each_done, given_back}
use Rattle.canvas_command.proofs.each.answer_each.Goals as goal

pub loop-preserved : goal.loop-preserved
loop-preserved g c =
    let flow = c.args.flow.now in
    let batch = c.in_ok-batch.batch in
    let before = c.deref_mut.result.now in
    let after = c.answer.new.batch in
    let input = reader_remaining g.R.Read.remaining in
    let out = g.W.Write.contents in
    let same : before ≡ batch.items = c.deref_mut.ensures.value in
    let long : length before ≡ length after = omega (arith, c.answer.auto.batch) in
    let read = subst (λ l. IsBatch flow.each.end (input c.loop.reader) (input c.next_batch.new.reader) l) (sym same) c.in_ok-batch.ensures in
    let back = given_back batch.len after batch.items (omega (arith, long, ap length same)) (omega (arith, batch.ok.0)) in
    let printed = subst (λ l. IsPrinted (out c.loop.out) (out c.print_batch.new.out) l c.in_ok-failed.field-0) back c.in_ok-failed.ensures in
    batch_done (g.T.Tasks.behaviour flow.tasks.now.tasks.now) flow.tasks.now.stubs.items (asking flow.setting) flow.each.has_tasks flow.each.end
    (input c.args.reader.now) (input c.loop.reader) (input c.next_batch.new.reader) (out c.args.out.now) (out c.loop.out) (out c.print_batch.new.out)
    before after c.loop.failed c.in_ok-failed.field-0 c.loop.invariant read long c.answer.ensures printed

pub returns-then-is_empty-clause-lines : goal.returns-then-is_empty-clause-lines
returns-then-is_empty-clause-lines g c =
    let flow = c.args.flow.now in
    let batch = c.in_ok-batch.batch in
    let long : vec_len batch ≡ length batch.items = omega (arith, batch.ok.0) in
    let none : batch.items ≡ [] =
    nil_from_length batch.items (omega (arith, long, eqb-true (vec_len batch) 0 (sym c.is_empty.ensures ∙ c.if-is_empty.true))) in
    let ends : AnswersAll [] (report_status flow.each.fails c.loop.failed) c.ended.result =
    record { out = c.ended.ensures.out; unrefused = c.ended.ensures.unrefused; ends = c.ended.ensures.ends ∙ c.status_of.ensures } in
    all_done (g.T.Tasks.behaviour flow.tasks.now.tasks.now) flow.tasks.now.stubs.items (asking flow.setting) flow.each _ _ _ _ _ batch.items c.loop.failed
    c.ended.result c.loop.invariant c.in_ok-batch.ensures none ends

pub returns-then-is_empty-clause-status : goal.returns-then-is_empty-clause-status
returns-then-is_empty-clause-status g c =
    let counts = c.args.flow.now.each.fails in
    let ends : AnswersAll [] (report_status counts c.loop.failed) c.ended.result =
    record { out = c.ended.ensures.out; unrefused = c.ended.ensures.unrefused; ends = c.ended.ensures.ends ∙ c.status_of.ensures } in
    each_done counts c.loop.failed c.ended.result ends
