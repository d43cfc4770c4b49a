use Rattle.std.proofs.Common.{◌++◌, ap, ◌∙◌, map}
use Rattle.json.specs.Lex.{tokens}
use Rattle.json.specs.Print.{print}
use Rattle.json.specs.Value.{value_view}
use Rattle.canvas_celery.proofs.Exported.FilledTokens.{last_token}
use Rattle.canvas_celery.proofs.commands.filling.filled_text.Goals as goal

pub returns : goal.returns
returns c =
    let made = c.loop-token.out in (
      made.tokens,
      last_token (map value_view c.args.values.now) (tokens c.args.text.now) made.tokens c.loop-token.reader c.in_default.ensures.value.0
          c.loop-token.invariant.0,
      c.into_inner.ensures.items ∙ ap (λ xs. xs ++ print made.tokens) c.loop-token.invariant.2,
    )
