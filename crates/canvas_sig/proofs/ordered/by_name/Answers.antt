use Rattle.std.proofs.Common.{rules, nat_cmp}
use Rattle.std.specs.BTreeMap.{IsFromIterResult}
use Rattle.std.specs.Cmp.Lexicographic.{slice_cmp}
use Rattle.std.proofs.lemmas.Result.{IfOk-weaker}
use Rattle.canvas_sig.proofs.MadeAtOnce.{made_at_once}
use Rattle.canvas_sig.proofs.ordered.by_name.Goals as goal

pub returns : goal.returns
returns c =
    let xs = c.args.found.now in
    IfOk-weaker c.collect.result (IsFromIterResult (λ x y. slice_cmp nat_cmp x.now y.now) xs) _ (made_at_once xs) (search rules)
