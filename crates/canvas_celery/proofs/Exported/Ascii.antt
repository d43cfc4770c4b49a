-- Identifiers of a run are ASCII.
use Rattle.std.proofs.Common.{◌≡◌, ℕ, true, List}
use Rattle.std.specs.Str.{IsUtf8, IsAscii}
use Rattle.std.proofs.lemmas.Str.{IsUtf8-from_ascii}
use Rattle.canvas_task.specs.Text.{Text}
use Rattle.canvas_envelope.proofs.Written.IdentifierTexts.{task_ascii, group_ascii}
use Rattle.canvas_celery.specs.Run.{all_digits, run_task, run_group}
use Rattle.canvas_celery.proofs.Pieces.{digits_ascii, in_run_ascii}

pub is_text : (bs : List ℕ) → IsAscii bs → IsUtf8 bs
is_text bs h = IsUtf8-from_ascii bs h

pub run_task_ascii : (run : Text) → all_digits run ≡ true → (k : ℕ) → IsAscii (run_task run k)
run_task_ascii run h k = in_run_ascii run _ (digits_ascii run h) (task_ascii k)

pub run_group_ascii : (run : Text) → all_digits run ≡ true → (g : ℕ) → IsAscii (run_group run g)
run_group_ascii run h g = in_run_ascii run _ (digits_ascii run h) (group_ascii g)
