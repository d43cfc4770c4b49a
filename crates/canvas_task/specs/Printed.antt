-- The printed form of exceptions: the names of Python's and Celery's.
use Rattle.std.specs.Prelude.{ℕ, List, ◌++◌, codes}
use Rattle.canvas_task.specs.declared.outcome.Kind.{Kind}
use Rattle.canvas_task.specs.declared.outcome.Kind.TheVariants.{BadCall, ZeroDivision, Overflow, NotRegistered}
use Rattle.canvas_task.specs.declared.outcome.Why.{Why}
use Rattle.canvas_task.specs.declared.outcome.Why.TheVariants as why
use Rattle.canvas_task.specs.declared.outcome.Fault.{Fault}
use Rattle.canvas_task.specs.declared.outcome.Fault.TheVariants as fault
use Rattle.canvas_task.specs.Identifiers.{task_text}

-- the name of a kind: Python's exceptions, and Celery's for a task that no worker knows
abbrev pub kind_name : Kind → List ℕ
kind_name BadCall = codes "TypeError"
kind_name ZeroDivision = codes "ZeroDivisionError"
kind_name Overflow = codes "OverflowError"
kind_name NotRegistered = codes "NotRegistered"

abbrev pub why_name : Why → List ℕ
why_name (why.Plain kind) = kind_name kind
why_name why.Chord = codes "ChordError"

-- a failed header is printed with the member that failed first in header order
abbrev pub fault_text : Fault → List ℕ
fault_text (fault.Plain kind) = kind_name kind
fault_text (fault.Chord dep w) =
    codes "ChordError: Dependency " ++ task_text dep ++ codes " raised " ++ why_name w
