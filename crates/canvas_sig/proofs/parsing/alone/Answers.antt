use Rattle.std.proofs.Common.{◌≡◌, Some, sym, ap, ◌∙◌, rules}
use Rattle.json.specs.Reads.{token_of}
use Rattle.serde_json.specs.Data.{null, boolean, string}
use Rattle.canvas_sig.specs.Datum.{view}
use Rattle.canvas_sig.specs.steps.Alone.{alone}
use Rattle.canvas_sig.specs.declared.datum.Datum.{Text, Bool, Null, the_lemmas}
use Rattle.canvas_sig.proofs.Alone.{not_alone}
use Rattle.canvas_sig.proofs.parsing.alone.Goals as goal

pub returns-in-Null : goal.returns-in-Null
returns-in-Null c =
    let seen : view (Null) ≡ null = search (rules, the_lemmas) in
    ap Some seen ∙ ap (λ t. alone (token_of t)) (sym c.in-Null.is)

pub returns-in-Bool : goal.returns-in-Bool
returns-in-Bool c =
    let seen : view (Bool c.in-Bool.flag) ≡ boolean c.in-Bool.flag = search (rules, the_lemmas) in
    ap Some seen ∙ ap (λ t. alone (token_of t)) (sym c.in-Bool.is)

pub returns-in-String : goal.returns-in-String
returns-in-String c =
    let seen : view (Text c.in-String.text) ≡ string c.in-String.text.now = search (rules, the_lemmas) in
    ap Some seen ∙ ap (λ t. alone (token_of t)) (sym c.in-String.is)

pub returns-in_default : goal.returns-in_default
returns-in_default c = not_alone c.args.token c.in_default.not-Null c.in_default.not-Bool c.in_default.not-Number c.in_default.not-String
