use Rattle.std.proofs.Common.{◌∙◌, ◌++◌, None, append-nil, refl, sym, ap}
use Rattle.canvas_values.specs.steps.Tokens.{data_tokens}
use Rattle.canvas_rewrite.specs.FrozenView.{p_end_view}
use Rattle.canvas_envelope.specs.Wire.{line_wire}
use Rattle.canvas_envelope.proofs.Written.LineTokens.{no_tail, a_tail}
use Rattle.canvas_envelope.proofs.Written.TaskTokens.{alike}
use Rattle.canvas_envelope.proofs.writing.frozen.write_tail.Goals as goal

pub returns-in-Some : goal.returns-in-Some
returns-in-Some c =
    alike c.write_last.result c.args.out.now c.write_last.new.out _ _ (ap (λ e. data_tokens (line_wire None (p_end_view e))) c.deref.ensures
    ∙ sym (a_tail c.args.line.now c.in-Some.end c.in-Some.is)) c.write_last.ensures

pub returns-in-None : goal.returns-in-None
returns-in-None c = (sym (ap (λ ts. c.args.out.now.tokens ++ ts) (no_tail c.args.line.now c.in-None.is) ∙ append-nil c.args.out.now.tokens), refl)
