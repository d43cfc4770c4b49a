-- Lines of UTF-8, by their parts and with other numbers.
use Rattle.std.proofs.Common.{◌≡◌, ℕ, List, [], ◌∷◌, String, Global, string_bytes, map, Some, None, Box, sym, ap, subst}
use Rattle.std.specs.Str.{IsUtf8}
use Rattle.std.proofs.lemmas.Str.{IsUtf8-string_bytes}
use Rattle.canvas_semantics.specs.Tree.{Task, task, Tasks, no_tasks, and_task, number_task, number_tasks}
use Rattle.canvas_semantics.specs.Line.{Line, stop, step, group_end, chord_end, Lines, no_lines, and_line, number_line, number_lines}
use Rattle.canvas_values.specs.ComposedRefusals.{its_call}
use Rattle.canvas_values.specs.SignatureView.{task_view, tasks_of}
use Rattle.canvas_values.specs.declared.task_sig.TaskSig.{TaskSig, out-TaskSig}
use Rattle.canvas_values.proofs.Views.{task_seen}
use Rattle.canvas_rewrite.specs.FrozenView.{steps_onto, lines_of, line_of, end_of}
use Rattle.canvas_rewrite.specs.Utf8.{AreUtf8Args, AreUtf8Entries, IsUtf8Call, IsUtf8Task, AreUtf8Tasks, IsUtf8Line, AreUtf8Lines}
use Rattle.canvas_rewrite.specs.declared.line.Line as line
use Rattle.canvas_rewrite.specs.declared.line.Line.{out-Line}
use Rattle.canvas_rewrite.specs.declared.line.LineEnd.{LineEnd, out-LineEnd}
use Rattle.canvas_rewrite.proofs.FrozenViews.{line_none, line_some, end_none, end_some}

-- ---- signatures

-- a text that is a string's
pub text_read : (text : List ℕ) (s : String Global) → string_bytes s ≡ text → IsUtf8 text
text_read text s is = subst IsUtf8 is (IsUtf8-string_bytes s)

pub call_read : (s : TaskSig) → IsUtf8 (out-TaskSig s).name → AreUtf8Args (out-TaskSig s).args
    → AreUtf8Entries (out-TaskSig s).kwargs
    → IsUtf8Call (its_call (task_view s))
call_read s name args kwargs =
    subst IsUtf8Call (sym (ap its_call (task_seen s))) (record { name = name; args = args; kwargs = kwargs })

pub task_read : (s : TaskSig) → IsUtf8Call (its_call (task_view s))
    → AreUtf8Tasks (tasks_of (map task_view (out-TaskSig s).links))
    → AreUtf8Tasks (tasks_of (map task_view (out-TaskSig s).errbacks)) → IsUtf8Task (task_view s)
task_read s call ls es =
    subst IsUtf8Task (sym (task_seen s)) (subst IsUtf8Call (ap its_call (task_seen s)) call, ls, es)

-- ---- lines

steps_read : (ts : List Task) (l : Line) → AreUtf8Tasks (tasks_of ts) → IsUtf8Line l → IsUtf8Line (steps_onto ts l)
steps_read [] l h k = k
steps_read (t ∷ ts) l h k = (h.0, steps_read ts l h.1 k)

pub line_read : (l : line.Line) → (out-Line l).tail ≡ None → AreUtf8Tasks (tasks_of (map task_view (out-Line l).tasks))
    → IsUtf8Line (line_of l)
line_read l none h = subst IsUtf8Line (sym (line_none l none)) (steps_read (map task_view (out-Line l).tasks) stop h tt)

pub longer_read : (l : line.Line) (b : Box LineEnd Global) → (out-Line l).tail ≡ Some b
    → AreUtf8Tasks (tasks_of (map task_view (out-Line l).tasks))
    → IsUtf8Line (end_of b.value) → IsUtf8Line (line_of l)
longer_read l b some h k =
    subst IsUtf8Line (sym (line_some l b some)) (steps_read (map task_view (out-Line l).tasks) (end_of b.value) h k)

pub group_read : (e : LineEnd) → (out-LineEnd e).body ≡ None
    → AreUtf8Lines (lines_of (map line_of (out-LineEnd e).members)) → IsUtf8Line (end_of e)
group_read e none h = subst IsUtf8Line (sym (end_none e none)) h

pub chord_read : (e : LineEnd) (b : line.Line) → (out-LineEnd e).body ≡ Some b
    → AreUtf8Lines (lines_of (map line_of (out-LineEnd e).members))
    → IsUtf8Line (line_of b) → IsUtf8Line (end_of e)
chord_read e b some h k = subst IsUtf8Line (sym (end_some e b some)) (h, k)

-- ---- numbers change nothing of it

mutual
  task_numbered : (t : Task) (k : ℕ) → IsUtf8Task t → IsUtf8Task (number_task k t)
  task_numbered (task _ call ls es) k h = (h.0, tasks_numbered ls _ h.1, tasks_numbered es _ h.2)

  tasks_numbered : (ts : Tasks) (k : ℕ) → AreUtf8Tasks ts → AreUtf8Tasks (number_tasks k ts)
  tasks_numbered no_tasks k h = tt
  tasks_numbered (and_task t ts) k h = (task_numbered t k h.0, tasks_numbered ts _ h.1)

mutual
  pub line_numbered : (l : Line) (k g : ℕ) → IsUtf8Line l → IsUtf8Line (number_line k g l)
  line_numbered stop k g h = tt
  line_numbered (step t l) k g h = (task_numbered t k h.0, line_numbered l _ g h.1)
  line_numbered (group_end _ ms) k g h = lines_numbered ms k _ h
  line_numbered (chord_end _ ms b) k g h = (lines_numbered ms k _ h.0, line_numbered b _ _ h.1)

  lines_numbered : (ms : Lines) (k g : ℕ) → AreUtf8Lines ms → AreUtf8Lines (number_lines k g ms)
  lines_numbered no_lines k g h = tt
  lines_numbered (and_line m ms) k g h = (line_numbered m k g h.0, lines_numbered ms _ _ h.1)
