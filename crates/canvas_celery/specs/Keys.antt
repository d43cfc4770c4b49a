-- Keys of Celery's Redis backend: `celery-task-meta-ID` has a task's result,
-- `celery-taskset-meta-ID.s` the number of members of a chord's header (Celery 5:
-- celery/backends/base.py, redis.py); and the marker that a run was started, which is this
-- program's own.
use Rattle.std.specs.Prelude.{ℕ, zero, suc, [], ◌++◌, codes}
use Rattle.canvas_task.specs.Text.{Text}
use Rattle.canvas_celery.specs.Run.{run_task, run_group}

abbrev pub size_key : (run prefix : Text) → ℕ → Text
size_key run prefix g = prefix ++ (codes "celery-taskset-meta-" ++ (run_group run g ++ codes ".s"))

abbrev pub marker_key : (run prefix : Text) → Text
marker_key run prefix = prefix ++ (codes "canvas-run-" ++ (run ++ codes ""))

abbrev pub key_line : (run prefix : Text) → ℕ → Text
key_line run prefix k = prefix ++ (codes "celery-task-meta-" ++ (run_task run k ++ codes "\n"))

-- the keys of the first tasks, each with a line feed
abbrev pub result_keys : (run prefix : Text) → ℕ → Text
result_keys run prefix zero = []
result_keys run prefix (suc n) = result_keys run prefix n ++ key_line run prefix (suc n)
