use Rattle.std.proofs.Common.{◌≡◌, ℕ, List, take, option_map}
use Rattle.serde_json.specs.Data.{no_members}
use Rattle.canvas_sig.specs.Datum.{members_view}
use Rattle.canvas_sig.specs.steps.Names.{AllBelow, IsBelow, put_all}
use Rattle.canvas_sig.proofs.ordered.ascends.Given as goal

abbrev pub invariant-loop-member : goal.invariant-loop-member
invariant-loop-member l =
    (put_all (take l.member-index l.members) no_members ≡ members_view (take l.member-index l.members))
    × ((k : List ℕ) → IsBelow (option_map (λ x. x.now) l.last) k → AllBelow (take l.member-index l.members) k)
