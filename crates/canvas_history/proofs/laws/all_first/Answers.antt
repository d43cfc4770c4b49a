use Rattle.std.proofs.Common.{refl}
use Rattle.canvas_history.proofs.TableLaws as laws
use Rattle.canvas_history.proofs.laws.all_first.Goals as goal

pub returns : goal.returns
returns c = λ plan before rest p g m n legal last t member. laws.all_first plan _ before rest p g m n legal refl last t member
