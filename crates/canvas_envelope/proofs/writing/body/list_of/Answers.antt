use Rattle.std.proofs.Common.{◌∙◌, sym, ap, subst}
use Rattle.std.specs.Str.{IsUtf8}
use Rattle.std.proofs.lemmas.Str.{IsUtf8-string_bytes}
use Rattle.serde_json.specs.Written.{compact_text}
use Rattle.canvas_envelope.proofs.Written.LineTokens.{some_tasks}
use Rattle.canvas_envelope.proofs.writing.body.list_of.Goals as goal

pub returns-clause-value : goal.returns-clause-value
returns-clause-value c =
    c.of.ensures ∙ ap (λ v. v.items) c.into_bytes.ensures.value ∙ c.in_ok-text.ensures
    ∙ ap compact_text (some_tasks c.args.tasks.now (sym c.is_empty.ensures ∙ c.if-is_empty.false))

pub returns-clause-utf8 : goal.returns-clause-utf8
returns-clause-utf8 c = subst IsUtf8 (sym (c.of.ensures ∙ ap (λ v. v.items) c.into_bytes.ensures.value)) (IsUtf8-string_bytes c.in_ok-text.text)
