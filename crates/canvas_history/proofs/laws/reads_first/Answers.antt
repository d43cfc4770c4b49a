use Rattle.std.proofs.Common.{refl}
use Rattle.canvas_history.proofs.TableLaws as laws
use Rattle.canvas_history.proofs.laws.reads_first.Goals as goal

pub returns : goal.returns
returns c = λ plan before between rest p g m n q t w legal last member. laws.reads_first plan _ before between rest p q g m n t w legal refl last member
