use Rattle.std.proofs.Common.{◌≡◌, drop}
use Rattle.serde_json.specs.Find.{get_member}
use Rattle.canvas_sig.specs.Datum.{members_view}
use Rattle.canvas_sig.proofs.datum.member.Given as goal

abbrev pub invariant-loop-member : goal.invariant-loop-member
invariant-loop-member l = get_member l.name (members_view l.members) ≡ get_member l.name (members_view (drop l.member-index l.members))
