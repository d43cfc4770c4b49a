-- The data of a line that grows at its front.
use Rattle.std.specs.Prelude.{List, [], ◌∷◌, Option, Some, None, Box}
use Rattle.std.specs.declared.alloc.Global.{Global}
use Rattle.canvas_semantics.specs.Tree.{one, Trees, no_trees, and_tree}
use Rattle.canvas_values.specs.declared.task_sig.TaskSig.{TaskSig}
use Rattle.canvas_values.specs.SignatureView.{task_view}
use Rattle.canvas_semantics.specs.Line.{elements_of}
use Rattle.canvas_rewrite.specs.FrozenView.{end_of}
use Rattle.canvas_rewrite.specs.declared.line.LineEnd.{LineEnd}
use Rattle.canvas_rewrite.specs.declared.growing.Growing.{Growing}

-- tasks, the last of them first, before further elements
abbrev pub grown : List TaskSig → Trees → Trees
grown [] after = after
grown (t ∷ ts) after = grown ts (and_tree (one (task_view t)) after)

abbrev pub tail_trees : Option (Box LineEnd Global) → Trees
tail_trees None = no_trees
tail_trees (Some end) = elements_of (end_of end.value)

-- its elements
abbrev pub growing : Growing → Trees
growing g = grown g.tasks.items (tail_trees g.tail)
