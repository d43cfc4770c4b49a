use Rattle.canvas_values.specs.SignatureView.{view}
use Rattle.canvas_sig.proofs.ReadsAgain.{written_again}
use Rattle.canvas_sig.proofs.write.write_canvas.Goals as goal

pub returns-clause-reads_back : goal.returns-clause-reads_back
returns-clause-reads_back c =
    written_again c.write_node.result (view c.node.result.now) c.args.canvas.now c.node.ensures.seen c.node.ensures.checked c.write_node.ensures
