-- Lines whose texts are UTF-8, like every string of a program: the names of tasks, and the texts
-- and names among their arguments.
use Rattle.std.specs.Prelude.{ℕ, List, [], ◌∷◌}
use Rattle.std.specs.Str.{IsUtf8}
use Rattle.canvas_task.specs.declared.arg.Arg.{Arg}
use Rattle.canvas_task.specs.declared.arg.Arg.TheVariants as arg
use Rattle.canvas_semantics.specs.Tree.{Call, Task, task, Tasks, no_tasks, and_task}
use Rattle.canvas_semantics.specs.Line.{Line, stop, step, group_end, chord_end, Lines, no_lines, and_line}

-- ---- calls

abbrev pub IsUtf8Arg : Arg → Type 0
IsUtf8Arg (arg.Num n) = Unit {0}
IsUtf8Arg (arg.List ns) = Unit {0}
IsUtf8Arg (arg.Text text) = IsUtf8 text

abbrev pub AreUtf8Args : List Arg → Type 0
AreUtf8Args [] = Unit {0}
AreUtf8Args (a ∷ args) = IsUtf8Arg a × AreUtf8Args args

-- keyword arguments with their names
abbrev pub AreUtf8Entries : List (List ℕ × Arg) → Type 0
AreUtf8Entries [] = Unit {0}
AreUtf8Entries (e ∷ es) = IsUtf8 e.0 × IsUtf8Arg e.1 × AreUtf8Entries es

pub record IsUtf8Call (c : Call) : Type 0 where
  pub name : IsUtf8 c.name
  pub args : AreUtf8Args c.args
  pub kwargs : AreUtf8Entries c.kwargs

-- ---- lines

-- a task with its links and its error callbacks
abbrev mutual
  pub IsUtf8Task : Task → Type 0
  IsUtf8Task (task k call links errbacks) =
      IsUtf8Call call × AreUtf8Tasks links × AreUtf8Tasks errbacks

  pub AreUtf8Tasks : Tasks → Type 0
  AreUtf8Tasks no_tasks = Unit {0}
  AreUtf8Tasks (and_task t ts) = IsUtf8Task t × AreUtf8Tasks ts

abbrev mutual
  pub IsUtf8Line : Line → Type 0
  IsUtf8Line stop = Unit {0}
  IsUtf8Line (step t l) = IsUtf8Task t × IsUtf8Line l
  IsUtf8Line (group_end g ms) = AreUtf8Lines ms
  IsUtf8Line (chord_end g ms b) = AreUtf8Lines ms × IsUtf8Line b

  pub AreUtf8Lines : Lines → Type 0
  AreUtf8Lines no_lines = Unit {0}
  AreUtf8Lines (and_line m ms) = IsUtf8Line m × AreUtf8Lines ms
