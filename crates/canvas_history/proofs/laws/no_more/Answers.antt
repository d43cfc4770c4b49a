use Rattle.std.proofs.Common.{refl}
use Rattle.canvas_history.proofs.TableLaws as laws
use Rattle.canvas_history.proofs.laws.no_more.Goals as goal

pub returns : goal.returns
returns c = λ plan before between rest p g m n q u w legal last. laws.no_more plan _ before between rest p q g m u n w legal refl last
