-- A text that isn't read as JSON.
use Rattle.std.specs.Prelude.{◌≡◌, None}
use Rattle.canvas_task.specs.Text.{Text}
use Rattle.canvas_values.specs.CanvasText.{json_of}
use Rattle.canvas_celery.specs.declared.results.stored.StoredFault.{StoredFault}
use Rattle.canvas_celery.specs.declared.results.stored.StoredFault.TheVariants.{NotJson, Memory}

-- it is not JSON, or memory was refused
abbrev pub IsUnread : Text → StoredFault → Type 0
IsUnread text NotJson = json_of text ≡ None
IsUnread text Memory = Unit {0}
IsUnread text fault = ⊥
