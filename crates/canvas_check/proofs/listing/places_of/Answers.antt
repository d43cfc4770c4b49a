use Rattle.std.proofs.Common.{◌∙◌}
use Rattle.canvas_check.proofs.Adding.{all_listed}
use Rattle.canvas_check.proofs.Levels.{deep_enough}
use Rattle.canvas_check.proofs.listing.places_of.Goals as goal

pub returns : goal.returns
returns c =
    all_listed _ (record { places = c.new.result; steps = c.new-2.result }) c.list.new.self c.new.ensures.items c.new-2.ensures.items c.in_ok-list.ensures
    ∙ deep_enough c.args.left _ c.requires
