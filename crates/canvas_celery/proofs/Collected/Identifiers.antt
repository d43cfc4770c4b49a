-- An identifier of a run ends in the digits of its number.
use Rattle.std.proofs.Common.{◌≡◌, ◌∙◌, ℕ, List, length, drop, refl, sym, ap}
use Rattle.uuid.specs.Text.{by_index}
use Rattle.canvas_task.specs.Text.{Text}
use Rattle.canvas_task.specs.Identifiers.{task_text}
use Rattle.canvas_celery.specs.Run.{run_task}
use Rattle.canvas_celery.proofs.Pieces.{seen, in_run_seen}
use Rattle.canvas_celery.specs.steps.Digits.{number_digits}

length-task_text : (k : ℕ) → length (task_text k) ≡ 36
unfolding by_index
length-task_text k = refl

digits-task_text : (k : ℕ) → seen 28 8 (task_text k) ≡ number_digits k
unfolding by_index
digits-task_text k = refl

pub length-run_task : (run : Text) (k : ℕ) → length run ≡ 22 → length (run_task run k) ≡ 36
length-run_task run k h = ap (λ t. length t) (in_run_seen run (task_text k) h (length-task_text k))

pub drop-run_task : (run : Text) (k : ℕ) → length run ≡ 22 → drop 28 (run_task run k) ≡ number_digits k
drop-run_task run k h = ap (λ t. drop 28 t) (in_run_seen run (task_text k) h (length-task_text k)) ∙ digits-task_text k

pub full : (result digits : List ℕ) → result ≡ digits → length result ≡ 22 → length digits ≡ 22
full result digits e h = ap (λ t. length t) (sym e) ∙ h
