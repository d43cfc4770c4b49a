use Rattle.std.proofs.Common.{◌≡◌, ◌∙◌, ◌++◌, ap, reverse, take, drop, length, arith}
use Rattle.std.proofs.Math.Seq.{take-append_seam}
use Rattle.std.proofs.lemmas.List.{length-reverse}
use Rattle.canvas_rewrite.proofs.GrowingLines.{in_order}
use Rattle.canvas_rewrite.proofs.growing.Growing.into_line.Goals as goal

pub returns : goal.returns
returns c =
    let v = c.args.self.tasks in
    let turned = c.reverse.new.self in
    let reversed : turned ≡ reverse v.items = c.reverse.ensures.after ∙ ap reverse c.as_mut_slice.ensures.value in
    let whole : v.len ≡ length turned = omega (arith, v.ok.0, ap length reversed, length-reverse v.items) in
    let same : c.of.result ≡ reverse v.items =
    c.of.ensures ∙ ap (λ n. take n (turned ++ drop (length turned) v.items)) whole ∙ take-append_seam turned (drop (length turned) v.items) ∙ reversed in
    in_order v.items c.of.result c.args.self.tail same
