-- Runs by turns with entries: a sum and its product, whose first message is redelivered at both
-- points, and a division by zero with a link, whose task isn't run, so that an entry for it does
-- nothing.
use Rattle.std.specs.Prelude.{false, List, [], ◌∷◌, Some, None, pos, codes}
use Rattle.canvas_task.specs.declared.arg.Arg.TheVariants as arg
use Rattle.canvas_task.specs.declared.outcome.Outcome.{Outcome}
use Rattle.canvas_task.specs.declared.outcome.Outcome.TheVariants.{Success, Failure}
use Rattle.canvas_task.specs.declared.outcome.Fault.TheVariants.{Plain}
use Rattle.canvas_task.specs.declared.outcome.Kind.TheVariants.{ZeroDivision}
use Rattle.canvas_semantics.specs.Tree.{task, no_tasks, and_task}
use Rattle.canvas_semantics.specs.Line.{Line, stop, step}
use Rattle.canvas_semantics.specs.PlacedLine.{p_task, no_p_tasks, and_p_task, p_nowhere, p_stop, p_step}
use Rattle.canvas_envelope.specs.Content.{Content}
use Rattle.canvas_history.specs.declared.stored.Stored.TheVariants.{First, Again}
use Rattle.canvas_history.specs.Table.{store, was}
use Rattle.canvas_history.specs.Queue.{publish, take}
use Rattle.canvas_runs.specs.Core.{rest, ack, rested, acked}
use Rattle.canvas_runs.specs.declared.when.When.TheVariants.{Early, Late}
use Rattle.canvas_runs.specs.Witness.{call, asks_queue, asks_table}
use Rattle.canvas_runs.specs.Worker.{sealed}
use Rattle.canvas_runs.specs.Redeliveries.{Entry}
use Rattle.canvas_runs.specs.Turns.{Step, redelivery}

-- ---- 4 + 4, then 8 times that

abbrev pub product : Line
product =
    step
    (task 1 (call (codes "tasks.add") (arg.Num (pos 4) ∷ arg.Num (pos 4) ∷ [])) no_tasks no_tasks)
    (step (task 2 (call (codes "tasks.mul") (arg.Num (pos 8) ∷ [])) no_tasks no_tasks) stop)

abbrev pub product_sum : Content
product_sum =
    record {
      parent = None;
      own =
          p_task 1 (call (codes "tasks.add") (arg.Num (pos 4) ∷ arg.Num (pos 4) ∷ [])) no_p_tasks
          no_p_tasks p_nowhere;
      rest =
          p_step (p_task 2 (call (codes "tasks.mul") (arg.Num (pos 8) ∷ [])) no_p_tasks no_p_tasks
          p_nowhere) p_stop;
    }

abbrev pub product_whole : Content
product_whole =
    record {
      parent = Some 1;
      own = p_task 2 (call (codes "tasks.mul") (arg.Num (pos 8) ∷ arg.Num (pos 8) ∷ []))
          no_p_tasks no_p_tasks p_nowhere;
      rest = p_stop;
    }

abbrev pub eight : Outcome
eight = Success (pos 8)

abbrev pub sixty_four : Outcome
sixty_four = Success (pos 64)

abbrev pub both_points : List Entry
both_points = (1, Early) ∷ (1, Late) ∷ []

abbrev pub product_steps : List Step
product_steps =
    (1, asks_queue take (Some (sealed product_sum))) ∷ redelivery 1 (sealed product_sum)
    ∷ (1, asks_table (store 1 eight) (was First))
    ∷ (1, asks_queue (publish (sealed product_whole)) None)
    ∷ redelivery 1 (sealed product_sum) ∷ (1, (ack, acked))
    ∷ (1, asks_queue take (Some (sealed product_sum))) ∷ (1, asks_table (store 1 eight) (was Again))
    ∷ (1, (ack, acked)) ∷ (1, asks_queue take (Some (sealed product_whole)))
    ∷ (1, asks_table (store 2 sixty_four) (was First)) ∷ (1, (ack, acked))
    ∷ (1, asks_queue take (Some (sealed product_sum))) ∷ (1, asks_table (store 1 eight) (was Again))
    ∷ (1, (ack, acked)) ∷ (1, asks_queue take None) ∷ (1, (rest, rested false)) ∷ []

-- ---- 1 by 0, with a link

abbrev pub quotient : Line
quotient =
    step (task 1 (call (codes "tasks.div") (arg.Num (pos 1) ∷ arg.Num (pos 0) ∷ []))
    (and_task (task 2 (call (codes "tasks.ident") []) no_tasks no_tasks) no_tasks) no_tasks) stop

abbrev pub quotient_linked : Content
quotient_linked =
    record {
      parent = None;
      own =
          p_task 1 (call (codes "tasks.div") (arg.Num (pos 1) ∷ arg.Num (pos 0) ∷ [])) (and_p_task
          (p_task 2 (call (codes "tasks.ident") []) no_p_tasks no_p_tasks p_nowhere) no_p_tasks)
          no_p_tasks p_nowhere;
      rest = p_stop;
    }

abbrev pub no_quotient : Outcome
no_quotient = Failure (Plain ZeroDivision)

abbrev pub link_entry : List Entry
link_entry = (2, Early) ∷ []

abbrev pub quotient_steps : List Step
quotient_steps =
    (1, asks_queue take (Some (sealed quotient_linked)))
    ∷ (1, asks_table (store 1 no_quotient) (was First))
    ∷ (1, (ack, acked)) ∷ (1, asks_queue take None) ∷ (1, (rest, rested false)) ∷ []

-- ---- a near miss: the worker has the store of its message answered, though an entry for the point
-- before it is unspent

abbrev pub unspent : List Step
unspent =
    (1, asks_queue take (Some (sealed product_sum)))
    ∷ (1, asks_table (store 1 eight) (was First)) ∷ []
