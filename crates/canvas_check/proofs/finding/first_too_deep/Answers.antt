use Rattle.std.proofs.Common.{◌∙◌, ap, Some, false}
use Rattle.std.specs.Option.{option_map}
use Rattle.canvas_sig.specs.Datum.{view}
use Rattle.canvas_check.specs.Places.{shown}
use Rattle.canvas_check.proofs.Searched.{deepest}
use Rattle.canvas_check.proofs.finding.first_too_deep.Goals as goal

pub returns-in-Some : goal.returns-in-Some
returns-in-Some c =
    deepest (view c.args.value.now) c.first_wanted.result _ _ c.first_wanted.ensures c.in_ok-places_of.ensures (ap (option_map shown) c.in-Some.is)

pub returns-in-None : goal.returns-in-None
returns-in-None c =
    ap (λ s. Some (record { steps = s; is_linked = false; signature = view c.args.value.now })) c.new.ensures.items
    ∙ deepest (view c.args.value.now) c.first_wanted.result _ _ c.first_wanted.ensures c.in_ok-places_of.ensures (ap (option_map shown) c.in-None.is)
