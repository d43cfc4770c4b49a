use Rattle.std.proofs.Common.{◌∙◌}
use Rattle.clap.specs.Matches.{found_of}
use Rattle.clap.proofs.WalkLemmas.{one_text-rows}
use Rattle.canvas_answer.proofs.given.has_flag.Goals as goal

pub returns : goal.returns
returns c =
    let same = one_text-rows (found_of c.args.given.now) c.args.option.now in record {
      absent = λ h. c.get_flag.ensures.none (same ∙ h);
      set = λ h. c.get_flag.ensures.value (same ∙ h);
      unset = λ h. c.get_flag.ensures.other (same ∙ h);
    }
