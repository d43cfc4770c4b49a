-- The messages with which lines begin when a run starts, line by line.
use Rattle.std.specs.Prelude.{List, map, flat_map, None}
use Rattle.canvas_semantics.specs.PlacedLine.{PLine, PPlace}
use Rattle.canvas_envelope.specs.Content.{Content}
use Rattle.canvas_effects.specs.Flowing.{no_input}
use Rattle.canvas_effects.specs.steps.Walks.{started}

-- the messages of each line; the ends of the lines go to a place
abbrev pub portions : List PLine → PPlace → List (List Content)
portions ls p = map (λ l. started l no_input p None) ls

-- the messages of all portions, in order
abbrev pub together : List (List Content) → List Content
together = flat_map (λ messages. messages)
