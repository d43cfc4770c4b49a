use Rattle.std.proofs.Common.{◌∙◌, sym}
use Rattle.canvas_check.specs.Wanted.{is_wanted}
use Rattle.canvas_check.proofs.Searched.{found_here, found_later}
use Rattle.canvas_check.proofs.limits.first_wanted.Goals as goal

pub returns-then-is_wanted : goal.returns-then-is_wanted
returns-then-is_wanted c =
    let told = sym c.is_wanted.ensures ∙ c.if-is_wanted.true in
    found_here (is_wanted c.args.wanted) _ _ _ c.in-Some.place c.loop-place.invariant c.in-Some.ensures.steps.0 told

pub loop-place-preserved : goal.loop-place-preserved
loop-place-preserved c =
    let told = sym c.is_wanted.ensures ∙ c.if-is_wanted.false in
    found_later (is_wanted c.args.wanted) _ _ _ c.in-Some.place c.loop-place.invariant c.in-Some.ensures.steps.0 told
