-- Why a text has no list of turns, as a fault of runs.
use Rattle.std.specs.Prelude.{ℕ, ◌<◌, List, length, None}
use Rattle.canvas_runs.specs.TurnList.{IsTurnList}
use Rattle.canvas_core.specs.declared.cause.Cause.TheVariants.{Memory}
use Rattle.canvas_engine.specs.declared.by_turns.fault.RunFault.{RunFault}
use Rattle.canvas_engine.specs.declared.by_turns.fault.RunFault.TheVariants.{BadTurn, Halted}

-- it is no such list, or memory was refused, which can't be for the empty text
abbrev pub IsListFault : ℕ → List ℕ → RunFault → Type 0
IsListFault n text BadTurn = (turns : List ℕ) → IsTurnList n text turns → ⊥
IsListFault n text (Halted Memory None) = 0 < length text
IsListFault n text fault = ⊥
