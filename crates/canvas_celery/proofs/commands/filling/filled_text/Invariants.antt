use Rattle.std.proofs.Common.{◌≡◌, [], length, map}
use Rattle.json.specs.Lex.{tokens}
use Rattle.json.specs.Value.{value_view}
use Rattle.canvas_celery.specs.steps.Filling.{AreGood}
use Rattle.canvas_celery.proofs.Exported.FilledTokens.{Left}
use Rattle.canvas_celery.proofs.commands.filling.filled_text.Given as goal

abbrev pub invariant-loop-token : goal.invariant-loop-token
invariant-loop-token l =
    Left (map value_view l.values) (tokens l.text) l.out.tokens l.reader × AreGood l.reader × (l.out.before ≡ [])

abbrev pub decreases-loop-token : goal.decreases-loop-token
decreases-loop-token l = length l.reader
