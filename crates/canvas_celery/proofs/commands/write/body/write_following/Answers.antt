use Rattle.std.proofs.Common.{[], ◌∷◌, ◌∙◌, sym, ap}
use Rattle.json.specs.Token.{null, begin_array, end_array}
use Rattle.canvas_values.proofs.Written.Writers.{after_ok, then_tokens}
use Rattle.canvas_rewrite.specs.FrozenView.{p_line_view}
use Rattle.canvas_celery.specs.ExportView.{naming}
use Rattle.canvas_celery.proofs.Exported.Tokens.{appends_as}
use Rattle.canvas_celery.proofs.Exported.Lines.{appended, turned_written, stop_listed, rest_listed}
use Rattle.canvas_celery.proofs.commands.write.body.write_following.Goals as goal

pub returns-then-is_stop : goal.returns-then-is_stop
returns-then-is_stop c =
    appends_as c.null.result c.args.out.now c.null.new.self (null ∷ []) _
    (stop_listed (naming c.args.names.now) (p_line_view c.args.line.now) (sym c.is_stop.ensures ∙ c.if-is_stop.true))
    (appended c.null.result c.args.out.now c.null.new.self null c.null.ensures)

pub returns : goal.returns
returns c =
    let n = naming c.args.names.now in
    let begun = c.in_ok-begin_array.ensures in
    let turned = then_tokens c.begin_array.new.self c.write_tail_backwards.new.out c.write_reversed.new.out _ _ c.in_ok-write_tail_backwards.ensures
    c.in_ok-write_reversed.ensures in
    let front = then_tokens c.args.out.now c.begin_array.new.self c.write_reversed.new.out (begin_array ∷ []) _ (begun.ok, begun.room.0) turned in
    after_ok c.end_array.result c.args.out.now c.write_reversed.new.out c.end_array.new.self _ (end_array ∷ []) _ front
    (appended c.end_array.result c.write_reversed.new.out c.end_array.new.self end_array c.end_array.ensures)
    (ap (λ x. begin_array ∷ x) (turned_written n c.args.line.now c.deref.result.now (c.deref.ensures.value ∙ c.get.ensures))
    ∙ rest_listed n (p_line_view c.args.line.now) (sym c.is_stop.ensures ∙ c.if-is_stop.false))
