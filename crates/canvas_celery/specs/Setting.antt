-- Where a start goes: the queue, the prefix of the keys of results, the number of seconds that a
-- chord's size is kept, the databases of the broker and of the result backend if they are chosen,
-- and whether one script does it all (Celery's settings `task_default_queue`,
-- `result_backend_transport_options` with `global_keyprefix`, and `result_expires`).
use Rattle.std.specs.Prelude.{ℕ, Bool, Option}
use Rattle.canvas_task.specs.Text.{Text}

pub record Setting : Type 0 where
  pub queue : Text
  pub prefix : Text
  pub expires : ℕ
  pub databases : Option (ℕ × ℕ)
  pub by_script : Bool
