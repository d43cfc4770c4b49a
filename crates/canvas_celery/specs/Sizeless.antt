-- The content of a message without the sizes of chords, which have keys of their own: each is 0.
use Rattle.canvas_semantics.specs.PlacedLine.{PTask, p_task, PTasks, no_p_tasks, and_p_task, PPlace, p_nowhere, p_group, p_chord, PLine, p_stop, p_step, p_group_end, p_chord_end, PLines, no_p_lines, and_p_line}
use Rattle.canvas_envelope.specs.Content.{Content}

abbrev mutual
  pub sizeless_task : PTask → PTask
  sizeless_task (p_task k call links errbacks place) =
      p_task k call (sizeless_tasks links) (sizeless_tasks errbacks) (sizeless_place place)

  pub sizeless_tasks : PTasks → PTasks
  sizeless_tasks no_p_tasks = no_p_tasks
  sizeless_tasks (and_p_task t ts) = and_p_task (sizeless_task t) (sizeless_tasks ts)

  pub sizeless_place : PPlace → PPlace
  sizeless_place p_nowhere = p_nowhere
  sizeless_place (p_group g) = p_group g
  sizeless_place (p_chord g size body) = p_chord g 0 (sizeless_line body)

  pub sizeless_line : PLine → PLine
  sizeless_line p_stop = p_stop
  sizeless_line (p_step t l) = p_step (sizeless_task t) (sizeless_line l)
  sizeless_line (p_group_end g ms) = p_group_end g (sizeless_lines ms)
  sizeless_line (p_chord_end g ms b) = p_chord_end g (sizeless_lines ms) (sizeless_line b)

  pub sizeless_lines : PLines → PLines
  sizeless_lines no_p_lines = no_p_lines
  sizeless_lines (and_p_line m ms) = and_p_line (sizeless_line m) (sizeless_lines ms)

abbrev pub sizeless : Content → Content
sizeless c =
    record { parent = c.parent; own = sizeless_task c.own; rest = sizeless_line c.rest }
