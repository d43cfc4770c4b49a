use Rattle.std.proofs.Common.{◌≡◌, Some, map, take}
use Rattle.json.specs.Value.{value_view}
use Rattle.canvas_celery.specs.ExportView.{naming}
use Rattle.canvas_celery.specs.FilledStart.{filled_message}
use Rattle.canvas_celery.proofs.commands.filled.encode_filled.Given as goal

abbrev pub invariant-loop-message : goal.invariant-loop-message
invariant-loop-message l =
    map (λ t. Some t.items) l.texts.items
    ≡ map (filled_message (map value_view l.values) (naming l.names) l.queue) (take l.message-index l.messages)
