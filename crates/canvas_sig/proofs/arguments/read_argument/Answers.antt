use Rattle.std.proofs.Common.{sym, subst}
use Rattle.canvas_sig.specs.Datum.{view}
use Rattle.canvas_values.specs.Answers.{Gives}
use Rattle.canvas_sig.proofs.ArgumentLaw.{reads_so}
use Rattle.canvas_sig.proofs.Datums.{array_arg}
use Rattle.canvas_sig.proofs.arguments.read_argument.Goals as goal

pub returns-in-List : goal.returns-in-List
returns-in-List c =
    reads_so c.read_list.result (view c.args.value.now)
    (subst (Gives (λ a. a) c.read_list.result) (sym (array_arg _ _ c.in-List.is)) c.read_list.ensures)
