-- The start of a plan as commands for Redis: what Celery's `apply_async` of a canvas puts there.
-- The messages go onto the list that is the queue, whose workers take from its other end (kombu's
-- Redis transport); each chord whose header starts has the number of its members under a key
-- (Celery's Redis backend).
use Rattle.std.specs.Prelude.{ℕ, List, [], ◌∷◌, if◌then◌else◌}
use Rattle.canvas_task.specs.Text.{Text}
use Rattle.canvas_celery.specs.Setting.{Setting}
use Rattle.canvas_celery.specs.Script.{script_command}
use Rattle.canvas_celery.specs.Transaction.{transaction}

abbrev pub commands : (run : Text) → Setting → (sizes : List (ℕ × ℕ)) → (messages : List Text)
    → List (List Text)
commands run s sizes messages =
    if s.by_script then script_command run s sizes messages ∷ []
    else transaction run s sizes messages

-- nothing if no task starts
abbrev pub start : (run : Text) → Setting → (sizes : List (ℕ × ℕ)) → (messages : List Text)
    → List (List Text)
start run s sizes [] = []
start run s sizes (m ∷ ms) = commands run s sizes (m ∷ ms)
