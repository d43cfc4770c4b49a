use Rattle.std.proofs.Common.{◌≡◌, ◌≢◌, ◌∙◌, ◌++◌, ◌∷◌, [], List, ℕ, Option, None, Some, Bor, refl, ap, sym, unwrap_or, lit<}
use Rattle.std.proofs.lemmas.Str.Pattern.{strip_suffix_char}
use Rattle.std.specs.Option.{MatchOption}
use Rattle.canvas_answer.specs.Cases.{without_end}
use Rattle.canvas_answer.proofs.Objects.{ended, unended}
use Rattle.canvas_answer.proofs.evaluated.without_end.Goals as goal

stripped : (line : List ℕ) (r : Option (Bor (List ℕ))) (whole : Bor (List ℕ)) → whole.now ≡ line
    → MatchOption r ((front : List ℕ) → line ≢ front ++ (10 ∷ [])) (λ x. line ≡ x.now ++ (10 ∷ [])) → (unwrap_or r whole).now ≡ without_end line
stripped line None whole same h = same ∙ sym (unended line h)
stripped line (Some x) whole same h = sym (ended x.now) ∙ ap without_end (sym h)

pub returns : goal.returns
returns c =
    ap (λ b. b.now) c.unwrap_or.ensures
    ∙ stripped c.args.line.now c.strip_suffix.result c.args.line refl
    (strip_suffix_char 10 c.args.line.now c.strip_suffix.result c.strip_suffix.ensures.cases (lit< tt))
