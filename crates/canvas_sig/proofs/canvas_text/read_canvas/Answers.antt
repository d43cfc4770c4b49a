use Rattle.std.proofs.Common.{◌≡◌, true, false, length, arith}
use Rattle.std.specs.Prelude.{nat_lt}
use Rattle.std.proofs.lemmas.Result.{err_from_is_err_and}
use Rattle.canvas_sig.specs.Datum.{view}
use Rattle.canvas_values.specs.CanvasText.{most_bytes}
use Rattle.canvas_sig.proofs.TextLemmas.{not_longer, parsed, too_large, text_says, text_refused, holds_at_memory}
use Rattle.canvas_sig.proofs.canvas_text.read_canvas.Goals as goal

pub returns-then-bytes-gt-MOST_BYTES-clause-reading : goal.returns-then-bytes-gt-MOST_BYTES-clause-reading
returns-then-bytes-gt-MOST_BYTES-clause-reading c =
    let large : nat_lt most_bytes (length c.args.bytes.now) ≡ true = grind arith in
    λ other. too_large c.args.bytes.now large

pub returns-in_err-value-clause-reading : goal.returns-in_err-value-clause-reading
returns-in_err-value-clause-reading c =
    let told = err_from_is_err_and c.from_residual.result c.from_residual.ensures.1 in
    let short : nat_lt most_bytes (length c.args.bytes.now) ≡ false = grind arith in
    let fault = c.in_err-value.field-0.0 in
    rw (told.1, told.2)
    (λ other. text_refused c.args.bytes.now fault short c.in_err-value.ensures other)

pub returns-in_err-value-clause-memory : goal.returns-in_err-value-clause-memory
returns-in_err-value-clause-memory c =
    holds_at_memory c.from_residual.result (omega (arith, c.if-bytes-gt-MOST_BYTES.false))

pub canvas_of-requires : goal.canvas_of-requires
canvas_of-requires c = (c.args.bytes.now, parsed c.args.bytes.now (view c.in_ok-value.value) c.in_ok-value.ensures)

pub returns-clause-reading : goal.returns-clause-reading
returns-clause-reading c =
    let short : nat_lt most_bytes (length c.args.bytes.now) ≡ false =
    not_longer (length c.args.bytes.now) most_bytes (omega (arith, c.if-bytes-gt-MOST_BYTES.false)) in
    text_says c.args.bytes.now (view c.in_ok-value.value) c.canvas_of.result short
    (parsed c.args.bytes.now (view c.in_ok-value.value) c.in_ok-value.ensures) c.canvas_of.ensures

pub returns-clause-memory : goal.returns-clause-memory
returns-clause-memory c =
    holds_at_memory c.canvas_of.result (omega (arith, c.if-bytes-gt-MOST_BYTES.false))
