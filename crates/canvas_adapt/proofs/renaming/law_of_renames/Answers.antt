use Rattle.canvas_adapt.proofs.RenamedLaws.{same_tree, as_many}
use Rattle.canvas_adapt.proofs.renaming.law_of_renames.Goals as goal

pub returns-clause-none : goal.returns-clause-none
returns-clause-none c = same_tree 1

pub returns-clause-count : goal.returns-clause-count
returns-clause-count c = λ rs. as_many rs 1
