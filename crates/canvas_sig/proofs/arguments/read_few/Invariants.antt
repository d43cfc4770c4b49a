use Rattle.std.proofs.Common.{◌≡◌, drop, option_map}
use Rattle.canvas_task.specs.Entries.{named}
use Rattle.canvas_task.specs.Text.{Text}
use Rattle.canvas_sig.specs.Datum.{seen}
use Rattle.canvas_values.specs.Answers.{in_turn}
use Rattle.canvas_values.specs.Grammar.{named_reading}
use Rattle.canvas_sig.specs.steps.Names.{IsBelow}
use Rattle.canvas_sig.proofs.Each.{onto}
use Rattle.canvas_values.proofs.Written.Named.{names, AllBelow}
use Rattle.canvas_sig.proofs.arguments.read_few.Given as goal

abbrev pub invariant-loop-member : goal.invariant-loop-member
invariant-loop-member l =
    (in_turn named_reading (seen l.members) ≡ onto (named l.args.entries) (in_turn named_reading (seen (drop l.member-index l.members))))
    × ((k : Text) → IsBelow (option_map (λ x. x.now) l.last) k → AllBelow (names (named l.args.entries)) k)
