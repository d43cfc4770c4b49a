use Rattle.std.proofs.Common.{refl, ◌∙◌, ◌++◌, map, ap, sym, append-nil}
use Rattle.canvas_task.proofs.Turns.{put_on, put_all}
use Rattle.canvas_rewrite.specs.FrozenView.{task_in, line_in, end_in}
use Rattle.canvas_rewrite.specs.declared.frozen.FrozenLine.{out-FrozenLine}
use Rattle.canvas_rewrite.proofs.PlanLines.{ok_same}
use Rattle.canvas_rewrite.proofs.NameLines.{one_after}
use Rattle.canvas_check.specs.declared.position.Input.TheVariants.{Numbers}
use Rattle.canvas_answer.specs.Blamed.{blame_said, is_bad_call, line_blames}
use Rattle.canvas_answer.specs.steps.BlamedLists.{chain_blames, input_after, lines_blames_of, tail_blames}
use Rattle.canvas_answer.proofs.Blaming.{blames_tail, blames_group, blames_chord}
use Rattle.canvas_answer.proofs.blamed.+lines.Goals as goal

pub push_line-returns : goal.push_line-returns
push_line-returns t c =
    let stubs = c.args.stubs.now in
    let is_bad = is_bad_call c.args.fates.now c.args.report.now.rows in
    let input = c.args.input in
    let before = map blame_said c.args.found.now.items in
    let tail = (out-FrozenLine c.args.line.now).tail in
    let same = c.deref.ensures.value ∙ c.get.ensures in
    let tasks = ap (λ ts. chain_blames stubs is_bad (map task_in ts) input) same in
    let after = c.in_ok-comes.ensures.after ∙ ap (λ ts. input_after (map task_in ts) input) same in
    ok_same _ _ (map blame_said c.push_tasks.new.found.items ++ tail_blames stubs is_bad tail c.in_ok-comes.comes) _
    (one_after before _ _ _ _ (map blame_said c.push_tasks.new.found.items) c.in_ok-comes.ensures.pushed tasks
    (ap (λ i. tail_blames stubs is_bad tail i) after)
    ∙ ap (λ ns. before ++ ns) (sym (blames_tail stubs is_bad c.args.line.now input _ refl)))
    c.push_tail.ensures

pub push_tail-returns-in-None : goal.push_tail-returns-in-None
push_tail-returns-in-None t c =
    let before = map blame_said c.args.found.now.items in
    sym (append-nil before)
    ∙ ap (λ x. before ++ tail_blames c.args.stubs.now (is_bad_call c.args.fates.now c.args.report.now.rows) x c.args.input) (sym c.in-None.is)

pub push_tail-returns-in-Some : goal.push_tail-returns-in-Some
push_tail-returns-in-Some t c =
    let stubs = c.args.stubs.now in
    let is_bad = is_bad_call c.args.fates.now c.args.report.now.rows in
    let before = map blame_said c.args.found.now.items in
    ok_same _ _ (before ++ line_blames stubs is_bad (end_in c.deref.result.now) c.args.input) _
    (ap (λ ns. before ++ ns) (ap (λ e. line_blames stubs is_bad (end_in e) c.args.input) c.deref.ensures
    ∙ ap (λ x. tail_blames stubs is_bad x c.args.input) (sym c.in-Some.is)))
    c.push_end.ensures

pub push_end-returns-in-None : goal.push_end-returns-in-None
push_end-returns-in-None t c =
    let stubs = c.args.stubs.now in
    let is_bad = is_bad_call c.args.fates.now c.args.report.now.rows in
    let lines = ap (λ ls. lines_blames_of stubs is_bad (map line_in ls) c.args.input) (c.deref.ensures.value ∙ c.get.ensures) in
    c.in_ok-push_lines.ensures
    ∙ ap (λ ns. map blame_said c.args.found.now.items ++ ns) (lines ∙ sym
    (blames_group stubs is_bad c.args.end.now c.args.input c.in-None.is))

pub push_end-returns-in-Some : goal.push_end-returns-in-Some
push_end-returns-in-Some t c =
    let stubs = c.args.stubs.now in
    let is_bad = is_bad_call c.args.fates.now c.args.report.now.rows in
    let before = map blame_said c.args.found.now.items in
    let lines = ap (λ ls. lines_blames_of stubs is_bad (map line_in ls) c.args.input) (c.deref.ensures.value ∙ c.get.ensures) in
    ok_same _ _ (map blame_said c.push_lines.new.found.items ++ line_blames stubs is_bad (line_in c.in-Some.body) Numbers) _
    (one_after before _ _ _ _ (map blame_said c.push_lines.new.found.items) c.in_ok-push_lines.ensures lines refl
    ∙ ap (λ ns. before ++ ns) (sym (blames_chord stubs is_bad c.args.end.now c.args.input c.in-Some.body c.in-Some.is)))
    c.push_line.ensures

pub push_lines-loop-line-preserved : goal.push_lines-loop-line-preserved
push_lines-loop-line-preserved t c =
    put_on (λ ls. lines_blames_of c.args.stubs.now (is_bad_call c.args.fates.now c.args.report.now.rows) (map line_in ls) c.args.input)
    c.args.lines.now c.loop-line.line-index c.line-item.result _ (map blame_said c.loop-line.found.items)
    (map blame_said c.push_line.new.found.items) _
    c.loop-line-test.true c.line-item.is refl c.loop-line.invariant c.in_ok-push_line.ensures

pub push_lines-returns : goal.push_lines-returns
push_lines-returns t c =
    put_all (λ ls. lines_blames_of c.args.stubs.now (is_bad_call c.args.fates.now c.args.report.now.rows) (map line_in ls) c.args.input)
    c.args.lines.now c.loop-line.line-index (map blame_said c.loop-line.found.items) _ c.loop-line-test.false refl c.loop-line.invariant
