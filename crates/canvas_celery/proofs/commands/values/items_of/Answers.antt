use Rattle.std.proofs.Common.{◌∙◌, Some, ap, map, subst}
use Rattle.json.specs.Tree.{HasNumbers}
use Rattle.json.specs.Value.{value_view}
use Rattle.json.proofs.Trees.{view-Array}
use Rattle.canvas_celery.specs.Values.{items_of}
use Rattle.canvas_celery.proofs.Exported.FilledTokens.{items_kept, numbers_kept}
use Rattle.canvas_celery.proofs.commands.values.items_of.Goals as goal

pub returns-in-Array-clause-values : goal.returns-in-Array-clause-values
returns-in-Array-clause-values c =
    ap (λ v. items_of (value_view v)) c.in-Array.is ∙ ap items_of (view-Array c.in-Array.items)
    ∙ ap (λ vs. Some vs) (items_kept (map value_view c.in-Array.items.items))

pub returns-in-Array-clause-numbers : goal.returns-in-Array-clause-numbers
returns-in-Array-clause-numbers c h =
    numbers_kept (map value_view c.in-Array.items.items)
    (subst HasNumbers (ap value_view c.in-Array.is ∙ view-Array c.in-Array.items) h)
