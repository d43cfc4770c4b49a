use Rattle.std.proofs.Common.{ap, sym, ◌∙◌, map}
use Rattle.canvas_values.specs.Grammar.{arg_reading}
use Rattle.canvas_values.specs.Writing.{number_wire, arg_wire}
use Rattle.canvas_values.proofs.ComposedLemmas.{arg_fits}
use Rattle.canvas_sig.proofs.RoundTrip.{arg_back}
use Rattle.canvas_values.proofs.Written.Writers.{list_value}
use Rattle.canvas_sig.proofs.write.value.write_arg.Goals as goal

pub returns-in_ok-number_values-in-List : goal.returns-in_ok-number_values-in-List
returns-in_ok-number_values-in-List c =
    let numbers = c.deref.ensures.value ∙ c.get.ensures in
    let made = list_value c.in_ok-number_values-in-List.field-0 c.in-List.numbers (c.in_ok-number_values-in-List.ensures ∙ ap (map number_wire) numbers) in
    let seen = made ∙ sym (ap arg_wire c.in-List.is) in
    record { value = seen; reads_back = λ fits. ap arg_reading seen ∙ arg_back c.args.arg.now (arg_fits c.args.arg.now fits) }
