use Rattle.std.proofs.Common.{subst}
use Rattle.canvas_sig.specs.Datum.{view}
use Rattle.canvas_check.specs.Pointer.{AreIndices}
use Rattle.canvas_check.proofs.Found.{place_found}
use Rattle.canvas_check.proofs.finding.find_in.Goals as goal

pub returns-in_ok-note-in-Some-clause-spot : goal.returns-in_ok-note-in-Some-clause-spot
returns-in_ok-note-in-Some-clause-spot c =
    place_found c.args.fault (view c.args.value.now) c.in_ok-place.field-0 c.in-Some.place c.in_ok-place.ensures c.in-Some.is
    (subst AreIndices c.deref.ensures.value c.read_indices.ensures)
