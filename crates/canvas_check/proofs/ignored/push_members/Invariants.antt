use Rattle.std.proofs.Common.{drop}
use Rattle.canvas_sig.specs.Datum.{seen}
use Rattle.canvas_check.specs.Ignored.{if_ignored}
use Rattle.canvas_check.proofs.Named.{Left}
use Rattle.canvas_check.proofs.ignored.push_members.Given as goal

abbrev pub invariant-loop-member : goal.invariant-loop-member
invariant-loop-member l =
    Left (λ e. if_ignored e.0 e.1) l.initial.names.items l.names.items (seen l.members) (seen (drop l.member-index l.members))
