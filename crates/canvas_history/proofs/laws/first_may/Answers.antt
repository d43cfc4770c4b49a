use Rattle.canvas_history.proofs.TableLaws as laws
use Rattle.canvas_history.proofs.laws.first_may.Goals as goal

pub returns : goal.returns
returns c = laws.first_may
