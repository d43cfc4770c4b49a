use Rattle.std.proofs.Common.{◌≡◌, ◌∙◌, ap, arith, length, vec_len}
use Rattle.std.specs.Prelude.{◌==◌, not}
use Rattle.canvas_rewrite.specs.declared.frozen.FrozenLine.{out-FrozenLine}
use Rattle.canvas_effects.proofs.Walked.{begins_seen}
use Rattle.canvas_effects.proofs.effects.moved.begins_with_task.Goals as goal

pub returns : goal.returns
returns c =
    let many : vec_len c.get.result.now ≡ length (out-FrozenLine c.args.line.now).tasks = omega (arith, c.get.result.now.ok.0, ap length c.get.ensures) in
    ap not c.is_empty.ensures ∙ ap (λ n. not (n == 0)) many ∙ begins_seen c.args.line.now
