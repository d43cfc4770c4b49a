use Rattle.std.proofs.Common.{◌≡◌, map, ap, ◌∙◌}
use Rattle.std.proofs.lemmas.Result.{IfOk-weaker}
use Rattle.canvas_sig.proofs.WithFronts.{member_of, sorted_so}
use Rattle.canvas_sig.proofs.fronts.sorted.Goals as goal

pub returns : goal.returns
returns c =
    let fronted = c.in_ok-fronted.fronted.items in
    let ordered = c.sort_unstable_by.new.self.items in
    IfOk-weaker c.without_fronts.result (λ v. v.now ≡ map member_of c.deref.result.now) _
    (λ v after. sorted_so c.args.members.now fronted ordered v.now c.in_ok-fronted.ensures c.sort_unstable_by.ensures.permutation
    (after ∙ ap (map member_of) c.deref.ensures.value))
    c.without_fronts.ensures
