-- The data that contracts see of a line: its tasks, and then its group or chord (Celery user guide,
-- Canvas: a group that a task follows is a chord).
use Rattle.std.specs.Prelude.{List, [], ◌∷◌, Option, Some, None}
use Rattle.canvas_semantics.specs.Tree.{Tree, chain, group, chord, Trees, no_trees, and_tree}
use Rattle.canvas_rewrite.specs.declared.line.Line.{Line}
use Rattle.canvas_semantics.specs.Line.{elements_of}
use Rattle.canvas_rewrite.specs.FrozenView.{line_of}

-- each member is a line, as a chain of its elements
abbrev pub chains : List Trees → Trees
chains [] = no_trees
chains (l ∷ ls) = and_tree (chain l) (chains ls)

-- a group, or a chord if there is a body
abbrev pub group_or_chord : List Trees → Option Trees → Tree
group_or_chord members None = group 0 (chains members)
group_or_chord members (Some body) = chord 0 (chains members) (chain body)

abbrev pub elements : Line → Trees
elements l = elements_of (line_of l)

-- a line is evaluated as the chain of its elements
abbrev pub line_view : Line → Tree
line_view l = chain (elements l)
