use Rattle.std.proofs.Common.{◌≡◌, ◌∙◌, ℕ, sym, ap, subst, map, List}
use Rattle.std.specs.Prelude.{OnOk}
use Rattle.canvas_semantics.specs.Line.{stop, members}
use Rattle.canvas_rewrite.specs.FrozenView.{task_in, line_in, end_in, lines_of, steps_onto}
use Rattle.canvas_rewrite.specs.declared.frozen.FrozenLine.{FrozenLine}
use Rattle.canvas_rewrite.specs.declared.frozen.FrozenEnd.{out-FrozenEnd}
use Rattle.canvas_rewrite.proofs.PlanLines.{in_none, in_some, in_group, in_chord}
use Rattle.canvas_celery.specs.Completing.{into_body, completed, all_completed}
use Rattle.canvas_celery.specs.Looks.{Look, looks}
use Rattle.canvas_celery.proofs.results.completing.+lines.Goals as goal

pub complete_end-returns-in-Some-clause-completed : goal.complete_end-returns-in-Some-clause-completed
complete_end-returns-in-Some-clause-completed t c =
    let table = λ (g : ℕ). members c.args.plan.now g in
    let end = c.args.end.now in
    let flow = c.args.flow.now in
    let old = looks c.args.rows.now in
    let mid = looks c.complete_all.new.rows in
    let body = line_in c.in-Some.body in
    let lasts = members c.args.plan.now (out-FrozenEnd end).group in
    let gives = λ (ls : List FrozenLine). all_completed table (lines_of (map line_in ls)) flow old in
    let header = c.in_ok-complete_all.ensures.completed ∙ ap gives (c.deref.ensures.value ∙ c.get.ensures) in
    let whole = sym (ap (λ l. completed table l flow old) (in_chord end c.in-Some.body c.in-Some.is)) in
    let P : List Look → Type 0 = λ ls. OnOk c.complete_line.result (looks c.complete_line.new.rows ≡ ls) in
    subst P
    (ap (λ f. completed table body f mid) c.header_flow-into.ensures
    ∙ (ap (λ ls. completed table body (into_body flow lasts ls) ls) header ∙ whole))
    c.complete_line.ensures.completed

pub complete_end-returns-in-None-clause-completed : goal.complete_end-returns-in-None-clause-completed
complete_end-returns-in-None-clause-completed t c =
    let table = λ (g : ℕ). members c.args.plan.now g in
    let flow = c.args.flow.now in
    let old = looks c.args.rows.now in
    c.in_ok-complete_all.ensures.completed
    ∙ (ap (λ ls. all_completed table (lines_of (map line_in ls)) flow old) (c.deref.ensures.value ∙ c.get.ensures)
    ∙ sym (ap (λ l. completed table l flow old) (in_group c.args.end.now c.in-None.is)))

pub complete_line-returns-in-Some-clause-completed : goal.complete_line-returns-in-Some-clause-completed
complete_line-returns-in-Some-clause-completed t c =
    let table = λ (g : ℕ). members c.args.plan.now g in
    let flow = c.args.flow.now in
    let old = looks c.args.rows.now in
    let mid = looks c.complete_tasks.new.rows in
    let tail = end_in c.in-Some.end.value in
    let P : List Look → Type 0 = λ ls. OnOk c.complete_end.result (looks c.complete_end.new.rows ≡ ls) in
    subst P
    (ap (λ e. completed table (end_in e) c.in_ok-last.last mid) c.deref-in-Some.ensures
    ∙ (sym (c.in_ok-last.ensures.completed table tail)
    ∙ (ap (λ ts. completed table (steps_onto (map task_in ts) tail) flow old) (c.deref.ensures.value ∙ c.get.ensures)
    ∙ sym (ap (λ l. completed table l flow old) (in_some c.args.line.now c.in-Some.end c.in-Some.is)))))
    c.complete_end.ensures.completed

pub complete_line-returns-in-None-clause-completed : goal.complete_line-returns-in-None-clause-completed
complete_line-returns-in-None-clause-completed t c =
    let table = λ (g : ℕ). members c.args.plan.now g in
    let flow = c.args.flow.now in
    let old = looks c.args.rows.now in
    sym (c.in_ok-last.ensures.completed table stop)
    ∙ (ap (λ ts. completed table (steps_onto (map task_in ts) stop) flow old) (c.deref.ensures.value ∙ c.get.ensures)
    ∙ sym (ap (λ l. completed table l flow old) (in_none c.args.line.now c.in-None.is)))
