-- The text of a list of entries, such as 1:late,3:early: each is a task's decimal number, a colon
-- and a point, with a comma between two.
use Rattle.std.specs.Prelude.{ℕ, ◌<◌, List, ◌∷◌, ◌++◌, length, codes}
use Rattle.std.specs.Fmt.{decimal}
use Rattle.canvas_runs.specs.declared.when.When.{When}
use Rattle.canvas_runs.specs.declared.when.When.TheVariants.{Early, Late}
use Rattle.canvas_runs.specs.Redeliveries.{Entry}
use Rattle.canvas_runs.specs.CommaList.{IsNumberFromOne, Lists}
use Rattle.canvas_runs.specs.declared.entry_list.EntryFault.{EntryFault}
use Rattle.canvas_runs.specs.declared.entry_list.EntryFault.TheVariants.{BadAgain, Memory}

abbrev pub when_text : When → List ℕ
when_text Early = codes "early"
when_text Late = codes "late"

-- the colon is 58
abbrev pub entry_text : Entry → List ℕ
entry_text e = decimal e.0 ++ 58 ∷ when_text e.1

-- its task has a task's number
abbrev pub IsEntry : Entry → Type 0
IsEntry e = IsNumberFromOne e.0

-- the pieces are these entries
abbrev pub IsEntryList : List ℕ → List Entry → Type 0
IsEntryList text es = Lists IsEntry entry_text text es

-- why a text has no entries: it is no such list, or memory was refused, which can't be for the
-- empty text
abbrev pub IsEntryFault : List ℕ → EntryFault → Type 0
IsEntryFault text BadAgain = (es : List Entry) → IsEntryList text es → ⊥
IsEntryFault text Memory = 0 < length text
