use Rattle.std.proofs.Common.{rules, ◌≡◌, length, sym}
use Rattle.canvas_celery.proofs.Pieces.{in_run_seen, whole_seen}
use Rattle.canvas_celery.proofs.run_number.Run.put_into.Goals as goal

pub returns-clause-value : goal.returns-clause-value
returns-clause-value c =
    let run : length c.args.self.now.digits ≡ 22 = search rules in
    let all : length c.args.id ≡ 36 = search rules in
    sym (in_run_seen c.args.self.now.digits c.args.id run all)

pub returns-clause-run : goal.returns-clause-run
returns-clause-run c =
    let run : length c.args.self.now.digits ≡ 22 = search rules in
    whole_seen c.args.self.now.digits run
