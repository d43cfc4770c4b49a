use Rattle.std.proofs.lemmas.Result.{err_from_is_err_and}
use Rattle.canvas_sig.specs.Datum.{view}
use Rattle.canvas_values.specs.SignatureView.{view as tree_view}
use Rattle.canvas_sig.proofs.TextLemmas.{limits_read, is_canvas, fails_refused}
use Rattle.canvas_sig.proofs.canvas_text.canvas_of.Goals as goal

pub within_limits-requires : goal.within_limits-requires
within_limits-requires c =
    record { fine = is_canvas c.requires.0 (view c.args.value.now) (tree_view c.in_ok-node.node) c.requires.1 c.in_ok-node.ensures }

pub returns-in_err-node : goal.returns-in_err-node
returns-in_err-node c =
    let told = err_from_is_err_and c.from_residual.result c.from_residual.ensures.1 in
    let fault = c.in_err-node.field-0.0 in
    rw (told.1, told.2)
    (λ other. fails_refused c.requires.0 (view c.args.value.now) fault c.requires.1 c.in_err-node.ensures other)

pub returns : goal.returns
returns c =
    limits_read c.requires.0 (view c.args.value.now) (tree_view c.in_ok-node.node) c.within_limits.result c.requires.1 c.in_ok-node.ensures
    c.within_limits.ensures.ok c.within_limits.ensures.err
