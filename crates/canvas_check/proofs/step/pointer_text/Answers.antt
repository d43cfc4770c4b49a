use Rattle.std.proofs.Common.{◌≡◌, ◌<◌, ◌+◌, ℕ, List, ◌++◌, length, get_or, drop, ap, sym, ◌∙◌, append_assoc, arith}
use Rattle.std.proofs.lemmas.List.{drop_more}
use Rattle.canvas_task.specs.Text.{Text}
use Rattle.canvas_check.specs.Pointer.{step_text, pointer_text}
use Rattle.canvas_check.specs.declared.step.Step.{Step}
use Rattle.canvas_check.proofs.step.pointer_text.Goals as goal

one_more : (steps : List Step) (i : ℕ) (d : Step) (old new whole : Text) → i < length steps
    → new ≡ old ++ step_text (get_or steps i d) → whole ≡ old ++ pointer_text (drop i steps) → whole ≡ new ++ pointer_text (drop (i + 1) steps)
one_more steps i d old new whole inside written kept =
    let rest : Text = pointer_text (drop (i + 1) steps) in
    kept ∙ (ap (λ ys. old ++ pointer_text ys) (drop_more steps i d inside)
    ∙ (sym (append_assoc old (step_text (get_or steps i d)) rest) ∙ ap (λ ys. ys ++ rest) (sym written)))

pub loop-step-preserved : goal.loop-step-preserved
loop-step-preserved c =
    one_more c.args.steps.now c.loop-step.step-index _ _ _ _ (omega (arith, c.loop-step-test.true)) c.in_ok-write.ensures.bytes c.loop-step.invariant
