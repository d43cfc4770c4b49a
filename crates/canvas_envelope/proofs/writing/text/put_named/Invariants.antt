use Rattle.std.proofs.Common.{◌≡◌, ◌++◌, false}
use Rattle.std.specs.Prelude.{string_bytes}
use Rattle.serde_json.specs.Written.{members_text}
use Rattle.canvas_task.specs.Entries.{named}
use Rattle.canvas_values.specs.Writing.{kwargs_wire}
use Rattle.canvas_envelope.proofs.writing.text.put_named.Given as goal

abbrev pub invariant-loop-name : goal.invariant-loop-name
invariant-loop-name l =
    string_bytes l.out ++ members_text l.later (kwargs_wire (named l.name-iterator)) ≡ string_bytes l.fn.out
    ++ members_text false (kwargs_wire (named l.kwargs.entries))
