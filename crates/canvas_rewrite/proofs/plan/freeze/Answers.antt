use Rattle.std.proofs.Common.{◌≡◌, ap, sym, subst, IfOk}
use Rattle.canvas_semantics.specs.Line.{Line, number_line, elements_of, tree_of}
use Rattle.canvas_semantics.specs.Tree.{chain, numbered}
use Rattle.canvas_rewrite.specs.Runnable.{IsRunnable}
use Rattle.canvas_rewrite.proofs.plan.freeze.Goals as goal

pub into_plan-requires : goal.into_plan-requires
into_plan-requires c = subst IsRunnable (sym (ap (λ l. chain (elements_of l)) c.in_ok-copy.ensures)) c.requires

pub returns-clause-line : goal.returns-clause-line
returns-clause-line c =
    let P : Line → Type 0 = λ l. IfOk c.into_plan.result (λ plan. plan ≡ number_line 1 1 l) in
    subst P c.in_ok-copy.ensures c.into_plan.ensures.line

pub returns-clause-tree : goal.returns-clause-tree
returns-clause-tree c =
    let P : Line → Type 0 = λ l. IfOk c.into_plan.result (λ plan. tree_of plan ≡ numbered (chain (elements_of l))) in
    subst P c.in_ok-copy.ensures c.into_plan.ensures.tree
