use Rattle.std.proofs.Common.{◌≡◌, subst, IfOk, OnOk, Result, Ok, Err}
use Rattle.canvas_semantics.specs.Tree.{Tree, numbered}
use Rattle.canvas_semantics.specs.Line.{tree_of}
use Rattle.canvas_semantics.specs.SameMeaning.{IsSame}
use Rattle.canvas_rewrite.proofs.plan.Plan.of.Goals as goal

pub returns-clause-tree : goal.returns-clause-tree
returns-clause-tree c =
    let P : Tree → Type 0 = λ t. IfOk c.into_plan.result (λ plan. tree_of plan ≡ numbered t) in subst P c.in_ok-line.ensures.value c.into_plan.ensures.tree

on_ok : {X E : Type 0} (r : Result X E) (P : Type 0) → P → OnOk r P
on_ok (Ok x) P h = h
on_ok (Err e) P h = tt

pub returns-clause-same : goal.returns-clause-same
returns-clause-same c =
    let P : Tree → Type 0 = λ t. IsSame t c.args.canvas in on_ok c.into_plan.result _ (subst P c.in_ok-line.ensures.value c.in_ok-line.ensures.meaning)
