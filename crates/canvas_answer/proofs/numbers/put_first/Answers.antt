use Rattle.std.proofs.Common.{◌≡◌, ◌∷◌, ◌++◌, subst, ◌∙◌, refl, string_bytes, rules}
use Rattle.canvas_adapt.specs.RenameTexts.{IsRenameText}
use Rattle.canvas_answer.specs.declared.errors.OtherError.{OtherError}
use Rattle.canvas_answer.proofs.numbers.put_first.Goals as goal

pub returns : goal.returns
returns c =
    let rename = c.in_ok-rename.rename in
    let stub = c.in_ok-stub.stub in
    let number : c.deref.result.now ≡ stub.name = c.deref.ensures ∙ c.get.ensures in
    let error : OtherError = record { name = c.in_ok-clone.field-0; class = c.in_ok-from_str.field-0 } in
    let named : string_bytes error.name ≡ string_bytes rename.name = search rules in
    let classed : string_bytes error.class ≡ c.args.class.now = search rules in (
      rename,
      stub,
      error,
      (
        c.in_ok-stub.ensures,
        c.in_ok-rename.ensures.0 ∙ number,
        subst (λ n. IsRenameText (n ++ 61 ∷ n) rename) number c.in_ok-rename.ensures.1,
      ),
      named,
      classed,
      record {
        stubs = c.in_ok-insert-3.ensures.items;
        renames = c.in_ok-insert-2.ensures.items;
        errors = c.in_ok-insert.ensures.items;
        said = refl;
      },
    )
