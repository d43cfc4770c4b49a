use Rattle.std.proofs.Common.{◌∙◌, sym, arith}
use Rattle.canvas_values.specs.Grammar.{arg_reading}
use Rattle.canvas_sig.proofs.Datums.{next_item}
use Rattle.canvas_sig.proofs.Each.{next_read}
use Rattle.canvas_sig.proofs.arguments.read_args.Goals as goal

pub loop-value-preserved : goal.loop-value-preserved
loop-value-preserved c =
    let l = c.loop-value in
    let step = next_item c.args.values.now l.value-index c.value-item.result _ (omega (arith, c.loop-value-test.true)) (sym c.value-item.is) in
    l.invariant ∙ next_read arg_reading l.args.items _ c.in_ok-read_argument.field-0 _ _ _ c.in_ok-push.ensures.items c.in_ok-read_argument.ensures step
