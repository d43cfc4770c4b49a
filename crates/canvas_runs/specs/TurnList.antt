-- The text of a list of turns: the decimal numbers of workers, with a comma between two.
use Rattle.std.specs.Prelude.{ℕ, ◌<◌, List, length}
use Rattle.std.specs.Fmt.{decimal}
use Rattle.canvas_runs.specs.Turns.{IsWorker}
use Rattle.canvas_runs.specs.CommaList.{Lists}
use Rattle.canvas_runs.specs.declared.comma_list.ListFault.{ListFault}
use Rattle.canvas_runs.specs.declared.comma_list.ListFault.TheVariants.{BadItem, Memory}

-- the pieces are the numbers of these workers
abbrev pub IsTurnList : ℕ → List ℕ → List ℕ → Type 0
IsTurnList n text turns = Lists (IsWorker n) decimal text turns

-- why a text has no turns: it is no such list, or memory was refused, which can't be for the empty
-- text
abbrev pub IsNoTurnList : ℕ → List ℕ → ListFault → Type 0
IsNoTurnList n text BadItem = (turns : List ℕ) → IsTurnList n text turns → ⊥
IsNoTurnList n text Memory = 0 < length text
