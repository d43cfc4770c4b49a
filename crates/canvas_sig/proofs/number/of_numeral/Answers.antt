use Rattle.std.proofs.Common.{◌≡◌, drop, get_or, true, false, ◌==◌, sym, ap, ◌∙◌, arith, take_all, length-drop}
use Rattle.fast_float.specs.Text.{scan}
use Rattle.serde_json.specs.Read.{number_of, number_from}
use Rattle.canvas_sig.proofs.number.of_numeral.Goals as goal

pub returns-then-is_negative : goal.returns-then-is_negative
unfolding number_of
returns-then-is_negative c =
    let s = c.as_bytes-bytes.result.now in
    let signed : (get_or s 0 0 == 45) ≡ true = sym c.if-is_negative.ensures in
    let parts : c.scan.result ≡ scan (drop 1 s) = c.scan.ensures.parts ∙ ap scan (take_all _ (drop 1 s) (omega (arith, length-drop 1 s))) in
    let read : number_from true (scan (drop 1 s)) ≡ number_of s = rw signed in
    c.negative.ensures ∙ ap (number_from true) parts ∙ read ∙ ap number_of c.as_bytes-bytes.ensures.value

pub returns-else-is_negative : goal.returns-else-is_negative
unfolding number_of
returns-else-is_negative c =
    let s = c.as_bytes-bytes.result.now in
    let positive : (get_or s 0 0 == 45) ≡ false = sym c.if-is_negative.ensures in
    let read : number_from false (scan s) ≡ number_of s = rw positive in
    c.unsigned.ensures ∙ ap (number_from false) c.scan-else-is_negative.ensures.parts ∙ read ∙ ap number_of c.as_bytes-bytes.ensures.value
