-- Worked rows: lines of JSON of some tasks, letter by letter.
use Rattle.std.proofs.Common.{◌≡◌, [], ◌∷◌, Some, None, true, false, refl, pos, negsuc}
use Rattle.std.specs.Prelude.{codes}
use Rattle.std.specs.Fmt.{digits}
use Rattle.serde_json.specs.Written.{compact_text}
use Rattle.serde_json.proofs.OnLiterals.{serde_json_on_literals}
use Rattle.uuid.specs.Text.{by_index}
use Rattle.canvas_task.specs.declared.outcome.Kind.TheVariants.{BadCall, ZeroDivision}
use Rattle.canvas_task.specs.declared.outcome.Why.TheVariants as why
use Rattle.canvas_task.specs.declared.outcome.Fault.TheVariants as fault
use Rattle.canvas_task.specs.declared.outcome.Outcome.TheVariants.{Success, Failure}
use Rattle.canvas_report.specs.declared.fate.Fate.TheVariants.{Ran, Skipped}
use Rattle.canvas_report.specs.JsonRows.{shown, row_wire, end_wire}

called : compact_text (row_wire (Some Ran) None (1, codes "tasks.add") (shown (Some (Success (negsuc 4)))))
    ≡ codes "{\"due_to\":null,\"name\":\"tasks.add\",\"ran\":true,\"result\":-5,\"status\":\"SUCCESS\",\"task_id\":\"00000000-0000-8000-8000-000000000001\"}"
unfolding serde_json_on_literals digits by_index
called = refl

blamed : compact_text (row_wire (Some Ran) (Some (Some (codes "x"))) (10, codes "tasks.ident") (shown (Some (Failure (fault.Plain BadCall)))))
    ≡ codes "{\"due_to\":null,\"name\":\"tasks.ident\",\"parameter\":\"x\",\"ran\":true,\"result\":{\"exc_message\":[],\"exc_type\":\"TypeError\"},\"status\":\"FAILURE\",\"task_id\":\"00000000-0000-8000-8000-00000000000a\"}"
unfolding serde_json_on_literals digits by_index
blamed = refl

skipped : compact_text (row_wire (Some (Skipped 2)) None (4, codes "tasks.xsum") (shown (Some (Failure (fault.Chord 2 (why.Plain ZeroDivision))))))
    ≡ codes "{\"due_to\":\"00000000-0000-8000-8000-000000000002\",\"name\":\"tasks.xsum\",\"ran\":false,\"result\":{\"exc_message\":[\"Dependency 00000000-0000-8000-8000-000000000002 raised ZeroDivisionError\"],\"exc_type\":\"ChordError\"},\"status\":\"FAILURE\",\"task_id\":\"00000000-0000-8000-8000-000000000004\"}"
unfolding serde_json_on_literals digits by_index
skipped = refl

of_a_halted_run : compact_text (row_wire None None (3, codes "\"") (shown None))
    ≡ codes "{\"name\":\"\\\"\",\"result\":null,\"status\":\"PENDING\",\"task_id\":\"00000000-0000-8000-8000-000000000003\"}"
unfolding serde_json_on_literals digits by_index
of_a_halted_run = refl

of_a_group : compact_text (end_wire (Some 2) true (1 ∷ 2 ∷ []) (shown (Some (Success (pos 3))) ∷ shown None ∷ []))
    ≡ codes "{\"again\":2,\"ends\":[\"00000000-0000-8000-8000-000000000001\",\"00000000-0000-8000-8000-000000000002\"],\"result\":[3,null],\"status\":\"PENDING\"}"
unfolding serde_json_on_literals digits by_index
of_a_group = refl

of_a_task : compact_text (end_wire None false (4 ∷ []) (shown (Some (Success (pos 12))) ∷ []))
    ≡ codes "{\"ends\":[\"00000000-0000-8000-8000-000000000004\"],\"result\":12,\"status\":\"SUCCESS\"}"
unfolding serde_json_on_literals digits by_index
of_a_task = refl
