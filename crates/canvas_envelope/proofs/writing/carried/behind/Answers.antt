use Rattle.std.proofs.Common.{rules, ◌∙◌, [], ◌∷◌, ◌++◌, sym, ap, subst}
use Rattle.std.specs.Str.{IsUtf8}
use Rattle.std.proofs.lemmas.Str.{IsUtf8-append, IsUtf8-from_ascii}
use Rattle.json.specs.Print.{print}
use Rattle.canvas_envelope.proofs.writing.carried.behind.Goals as goal

pub returns-clause-utf8 : goal.returns-clause-utf8
returns-clause-utf8 c =
    let before = c.in_ok-write_line_behind.ensures.1 ∙ c.new-out.ensures.before ∙ c.in_ok-push.ensures.items
    ∙ ap (λ xs. xs ++ 44 ∷ []) c.in_ok-text.ensures.items in
    let whole = c.into_inner.ensures.items ∙ ap (λ b. b ++ print c.write_line_behind.new.out.tokens) before in
    subst IsUtf8 (sym whole) (IsUtf8-append _ _ (IsUtf8-from_ascii (44 ∷ []) (search rules)) c.into_inner.ensures.utf8)
