-- Laws of the records that a run leaves.
--     FewEntries       its histories have few calls, by its plan's tasks and its redeliveries
--     IsPlain l r      nothing was redelivered, so each message is taken once, and each store
--                      is the first of its task
--     AllArePlain      every run with a gate that wants nothing is plain
use Rattle.std.specs.Prelude.{◌≡◌, ◌≤◌, ◌+◌, ℕ, List, length}
use Rattle.canvas_task.specs.Apply.{Behaviour}
use Rattle.canvas_history.specs.Answers.{answered_calls}
use Rattle.canvas_history.specs.Callers.{told}
use Rattle.canvas_semantics.specs.Evaluation.{State}
use Rattle.canvas_semantics.specs.Line.{Line, count_line}
use Rattle.canvas_rewrite.specs.Planned.{IsPlan}
use Rattle.canvas_runs.specs.Law.{publications, takes_of_task, again_stores}
use Rattle.canvas_runs.specs.Logs.{queue_calls}
use Rattle.canvas_runs.specs.Progress.{delivered_again, most_calls}
use Rattle.canvas_engine.specs.Evidence.{IsRun}
use Rattle.canvas_engine.specs.Headline.{OnlyWanted}
use Rattle.canvas_engine.specs.declared.threads.records.Records.{Records}

-- counts the reads of worker 0 at the end too, one of each task
abbrev pub FewEntries : Type 0
FewEntries =
    (behaviour : Behaviour) (l : Line) → IsPlan l
    → (n : ℕ) (rows : List State) (r : Records) → IsRun behaviour l n rows r
    → length (queue_calls (told r.pass)) + length (answered_calls r.seat.seen)
    ≤ most_calls l (delivered_again (told r.pass)) + count_line l

pub record IsPlain (l : Line) (r : Records) : Type 0 where
  pub none_again : delivered_again (told r.pass) ≡ 0
  pub taken : (k : ℕ) → takes_of_task l k (told r.pass) ≡ publications l k (told r.pass)
  pub first : (k : ℕ) → again_stores k r.seat.seen ≡ 0

abbrev pub AllArePlain : Type 0
AllArePlain =
    (behaviour : Behaviour) (l : Line) → IsPlan l
    → (n : ℕ) (rows : List State) (r : Records) → IsRun behaviour l n rows r
    → OnlyWanted (λ p k. ⊥) (told r.pass) → IsPlain l r
