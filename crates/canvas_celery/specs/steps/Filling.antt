-- Values filled into the tokens of a JSON text, one token after the other.
use Rattle.std.specs.Prelude.{◌≡◌, ◌≢◌, Bool, false, List, [], ◌∷◌, ◌++◌, Option, Some, None, option_map, option_and_then, ⊤}
use Rattle.json.specs.Json.{Json}
use Rattle.json.specs.Token.{Token, string, bad}
use Rattle.json.specs.Tree.{json_tokens, HasNumbers}
use Rattle.json.specs.Written.{Written}
use Rattle.canvas_task.specs.Text.{Text}
use Rattle.canvas_celery.specs.Places.{is_marked, told_by}

abbrev pub text_filled : List Json → Text → Option (List Token)
text_filled vs s = option_map json_tokens (told_by vs s)

abbrev pub token_filled : List Json → Token → Option (List Token)
token_filled vs (string s) = text_filled vs s
token_filled vs t = Some (t ∷ [])

abbrev pub tokens_filled : List Json → List Token → Option (List Token)
tokens_filled vs [] = Some []
tokens_filled vs (t ∷ ts) =
    option_and_then (λ us. option_map (λ ws. us ++ ws) (tokens_filled vs ts)) (token_filled vs t)

-- the tokens are there, after those that were written; what comes before the first stays
abbrev pub Fills : Option (List Token) → Written → Written → Type 0
Fills made old new =
    (ts : List Token) × (made ≡ Some ts) × (new.tokens ≡ old.tokens ++ ts)
    × (new.before ≡ old.before)

-- each text of a number is a number
abbrev pub HaveNumbers : List Json → Type 0
HaveNumbers [] = ⊤
HaveNumbers (j ∷ js) = HasNumbers j × HaveNumbers js

abbrev pub AreGood : List Token → Type 0
AreGood [] = ⊤
AreGood (t ∷ ts) = (t ≢ bad) × AreGood ts

-- whether a task's name, if there is one, is marked
abbrev pub is_marked_name : Option Text → Bool
is_marked_name None = false
is_marked_name (Some s) = is_marked s
