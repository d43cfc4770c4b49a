use Rattle.std.proofs.Common.{◌≡◌, [], ap, ◌∙◌, arith}
use Rattle.json.specs.Json.{value}
use Rattle.json.specs.Lex.{tokens}
use Rattle.json.proofs.Grammar.{value_is}
use Rattle.serde_json.specs.Read.{of_json, converted}
use Rattle.canvas_sig.proofs.Conversion.{whole, whole_refused}
use Rattle.canvas_sig.proofs.parsing.read_whole.Goals as goal

pub returns-in_err-token-clause-err : goal.returns-in_err-token-clause-err
returns-in_err-token-clause-err c refused =
    let empty : tokens c.args.text.now ≡ [] = grind arith in
    ap (λ ts. whole (value 127 ts)) empty ∙ whole_refused (value 127 []) (ap (converted of_json) (value_is 127 []))
