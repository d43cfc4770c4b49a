use Rattle.std.proofs.Common.{◌∙◌}
use Rattle.std.specs.contracts.prelude.U32FromStr.TheImpl.{ghosts}
use Rattle.clap.specs.Matches.{found_of}
use Rattle.clap.proofs.WalkLemmas.{one_text-rows}
use Rattle.canvas_answer.proofs.GivenNumbers.{number_read}
use Rattle.canvas_answer.proofs.given.number_given.Goals as goal

pub returns : goal.returns
returns c =
    let same = one_text-rows (found_of c.args.given.now) c.args.option.now in record {
      absent = λ h. c.get_one.ensures.none (same ∙ h);
      said = λ text h. number_read ghosts.from_str_gives text c.get_one.result (λ x its. its.0) (c.get_one.ensures.value text (same ∙ h));
    }
