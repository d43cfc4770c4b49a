use Rattle.canvas_history.proofs.TableLaws as laws
use Rattle.canvas_history.proofs.laws.still_may.Goals as goal

pub returns : goal.returns
returns c = laws.still_may
