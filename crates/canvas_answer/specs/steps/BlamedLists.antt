-- The parameters at fault of lists of tasks and of lines, one after another.
use Rattle.std.specs.Prelude.{ℕ, Bool, List, [], ◌∷◌, ◌++◌, Option, Some, None, Box}
use Rattle.std.specs.declared.alloc.Global.{Global}
use Rattle.canvas_rewrite.specs.FrozenView.{end_in}
use Rattle.canvas_rewrite.specs.declared.frozen.FrozenEnd.{FrozenEnd}
use Rattle.canvas_semantics.specs.Line.{Line}
use Rattle.canvas_semantics.specs.Tree.{Call, Task, task}
use Rattle.canvas_adapt.specs.declared.stubs.stub.Stub.{Stub}
use Rattle.canvas_check.specs.declared.position.Input.{Input}
use Rattle.canvas_check.specs.declared.position.Input.TheVariants.{Number}
use Rattle.canvas_answer.specs.Blamed.{Blames, line_blames, task_blames}

abbrev pub call_in : Task → Call
call_in (task k call links errbacks) = call

-- what comes after some tasks
abbrev pub input_after : List Task → Input → Input
input_after [] i = i
input_after (t ∷ ts) i = Number

module _ (stubs : List Stub) (is_bad : ℕ → Bool) where
  abbrev pub callbacks_blames : List Task → Input → Blames
  callbacks_blames [] i = []
  callbacks_blames (t ∷ ts) i = task_blames stubs is_bad t i ++ callbacks_blames ts i

  abbrev pub chain_blames : List Task → Input → Blames
  chain_blames [] i = []
  chain_blames (t ∷ ts) i = task_blames stubs is_bad t i ++ chain_blames ts Number

  abbrev pub lines_blames_of : List Line → Input → Blames
  lines_blames_of [] i = []
  lines_blames_of (l ∷ ls) i = line_blames stubs is_bad l i ++ lines_blames_of ls i

  abbrev pub tail_blames : Option (Box FrozenEnd Global) → Input → Blames
  tail_blames None i = []
  tail_blames (Some end) i = line_blames stubs is_bad (end_in end.value) i
