use Rattle.std.proofs.Common.{◌∙◌, sym, ap, map, subst}
use Rattle.serde_json.specs.View.{view}
use Rattle.canvas_values.specs.Answers.{Gives}
use Rattle.canvas_values.specs.steps.Reading.{list_reading}
use Rattle.canvas_sig.proofs.ArgumentLaw.{reads_so}
use Rattle.canvas_sig.proofs.Json.{array_arg, array_takes}
use Rattle.canvas_sig.proofs.json_argument.read_arg.Goals as goal

pub returns-in-Array-clause-reading : goal.returns-in-Array-clause-reading
returns-in-Array-clause-reading c =
    reads_so c.read_list.result (view c.args.value.now)
    (subst (Gives (λ a. a) c.read_list.result) (ap (λ vs. list_reading (map view vs)) c.deref.ensures.value
    ∙ sym (array_arg _ _ c.in-Array.is)) c.read_list.ensures.reading)

pub returns-in-Array-clause-memory : goal.returns-in-Array-clause-memory
returns-in-Array-clause-memory c = array_takes _ _ _ c.read_list.result c.in-Array.is c.deref.ensures.value c.read_list.ensures.memory
