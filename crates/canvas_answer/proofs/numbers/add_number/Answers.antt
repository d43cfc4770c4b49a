use Rattle.std.proofs.Common.{◌≡◌, ◌∷◌, ◌++◌, subst, ◌∙◌}
use Rattle.canvas_adapt.specs.RenameTexts.{IsRenameText}
use Rattle.canvas_answer.proofs.numbers.add_number.Goals as goal

pub returns : goal.returns
returns c =
    let rename = c.in_ok-rename.rename in
    let number : c.deref.result.now ≡ c.in_ok-stub.stub.name = c.deref.ensures ∙ c.get.ensures in (
      rename,
      c.in_ok-stub.stub,
      (
        c.in_ok-stub.ensures,
        c.in_ok-rename.ensures.0 ∙ number,
        subst (λ n. IsRenameText (n ++ 61 ∷ n) rename) number c.in_ok-rename.ensures.1,
      ),
      c.in_ok-push.ensures.items,
      c.in_ok-push-2.ensures.items,
      c.in_ok-push_error.ensures,
    )
