use Rattle.std.proofs.Common.{◌∙◌, ◌++◌, ap, refl}
use Rattle.std.proofs.lemmas.Result.{on_ok_weaker}
use Rattle.canvas_command.proofs.Paging.{after_four}
use Rattle.canvas_command.proofs.page.put_runs.Goals as goal

pub returns : goal.returns
returns g c = λ plans.
    let (one, is_one, first) = c.in_ok-put_run.ensures plans in
    let (two, is_two, second) = c.in_ok-put_run-2.ensures plans in
    let (again, is_again, third) = c.in_ok-put_run-3.ensures plans in
    let so_far = third ∙ ap (λ x. x ++ again) (second ∙ ap (λ x. x ++ two) first) in
    on_ok_weaker c.put_run-4.result
    (λ last.
    let (four, is_four, fourth) = last in (
      one ++ two ++ again ++ four,
      (one, is_one, (two, is_two, (again, is_again, (four, is_four, refl)))),
      fourth ∙ ap (λ x. x ++ four) so_far ∙ after_four c.args.lines.now.items one two again four,
    ))
    (c.put_run-4.ensures plans)
