use Rattle.std.proofs.Common.{Err, IfErr, List, Ok, Result}
use Rattle.canvas_adapt.specs.declared.renames.Rename.{Rename}
use Rattle.canvas_task.specs.Text.{Text}
use Rattle.canvas_answer.specs.Plans.{IsPlanRefusal}
use Rattle.canvas_answer.specs.declared.prepared.Plans.{Plans}
use Rattle.canvas_answer.specs.declared.refusal.Refusal.{Refusal}
use Rattle.canvas_answer.proofs.source.Source.plans.Goals as goal

for_text : (renames : List Rename) (bytes : Text) (r : Result Plans Refusal) → IfErr r (λ e. (b : Text) → IsPlanRefusal renames b e)
    → IfErr r (IsPlanRefusal renames bytes)
for_text renames bytes (Ok plans) h = h
for_text renames bytes (Err e) h = h bytes

pub returns-clause-err : goal.returns-clause-err
returns-clause-err g c = for_text c.args.self.now.setting.renames.now c.args.self.now.text.now c.of-2.result c.of-2.ensures.err
