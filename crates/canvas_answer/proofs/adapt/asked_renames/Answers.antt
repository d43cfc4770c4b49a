use Rattle.std.proofs.Common.{rules, ◌∙◌, ap, codes, map, refl, subst, IfOk}
use Rattle.clap.specs.Matches.{found_of}
use Rattle.clap.proofs.WalkLemmas.{raw_values-rows}
use Rattle.canvas_adapt.specs.RenameTexts.{AreRenameTexts}
use Rattle.canvas_answer.proofs.GivenNumbers.{texts_or}
use Rattle.canvas_answer.proofs.adapt.asked_renames.Goals as goal

pub returns : goal.returns
returns c =
    subst (λ texts. IfOk c.map_err.result (λ renames. AreRenameTexts texts renames.items))
    (ap (λ s. map (λ t. t.now) s.now) c.unwrap_or-texts.ensures
    ∙ texts_or c.get_strs.result _ _ (c.get_strs.ensures ∙ raw_values-rows (found_of c.args.given.now) (codes "rename")) refl)
    (search rules)
