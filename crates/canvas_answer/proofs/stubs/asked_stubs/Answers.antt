use Rattle.std.proofs.Common.{◌∙◌, ap, codes, map, refl, subst}
use Rattle.clap.specs.Matches.{found_of}
use Rattle.clap.proofs.WalkLemmas.{raw_values-rows}
use Rattle.canvas_answer.specs.Stubbing.{AreSaid, standing}
use Rattle.canvas_answer.proofs.GivenNumbers.{texts_or}
use Rattle.canvas_answer.proofs.stubs.asked_stubs.Goals as goal

pub returns : goal.returns
returns c =
    record {
      said =
          subst (λ texts. AreSaid (standing c.args.command) texts c.in_ok-said.field-0)
          (ap (λ s. map (λ t. t.now) s.now) c.unwrap_or-texts.ensures
          ∙ texts_or c.get_strs.result _ _ (c.get_strs.ensures ∙ raw_values-rows (found_of c.args.given.now) (codes "task")) refl)
          c.in_ok-said.ensures;
      file = c.text_given.ensures;
      stands = c.standing.ensures;
    }
