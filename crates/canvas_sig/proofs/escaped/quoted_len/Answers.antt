use Rattle.std.proofs.Common.{◌≡◌, ℕ, ◌+◌, ◌-◌, ◌<◌, List, length, take, drop, ap, ◌∙◌, drop-drop, take_all, length-drop, arith}
use Rattle.std.specs.List.{prefix_len}
use Rattle.std.proofs.lemmas.List.Sums.{prefix_len-le-length}
use Rattle.std.proofs.lemmas.Str.{IsCharBoundary-after_ascii}
use Rattle.json.specs.Lex.{in_string, lex}
use Rattle.json.specs.Run.{is_plain}
use Rattle.canvas_sig.proofs.Escapes.{past_plain, at_escape, at_closing}
use Rattle.canvas_sig.proofs.escaped.quoted_len.Goals as goal

-- how long the plain part is
part : (bytes t : List ℕ) (at n : ℕ) → bytes ≡ t → n ≡ prefix_len is_plain (take (length bytes - at) (drop at bytes)) → n ≡ prefix_len is_plain (drop at t)
part bytes t at n same is =
    is ∙ ap (prefix_len is_plain) (take_all _ (drop at bytes) (omega (arith, length-drop at bytes)) ∙ ap (drop at) same)

pub overflow_add-at : goal.overflow_add-at
overflow_add-at c =
    let t = c.args.text.now in
    let at = c.parts.at in
    let n = c.plain_len-at.result in
    omega (arith, part _ _ at n c.as_bytes-bytes.ensures.value c.plain_len-at.ensures, prefix_len-le-length is_plain (drop at t), length-drop at t)

pub returns-in-Some-eq34-clause-boundary : goal.returns-in-Some-eq34-clause-boundary
returns-in-Some-eq34-clause-boundary c =
    IsCharBoundary-after_ascii c.args.text.now (c.parts.at + c.plain_len-at.result) c.utf8.text (grind arith) (grind arith)

pub returns-in-Some-eq34-clause-passed : goal.returns-in-Some-eq34-clause-passed
returns-in-Some-eq34-clause-passed c =
    let t = c.args.text.now in
    let at = c.parts.at in
    let n = c.plain_len-at.result in
    c.parts.invariant.0 ∙ past_plain t at n (part _ _ at n c.as_bytes-bytes.ensures.value c.plain_len-at.ensures)
    ∙ at_closing t (at + n) (grind arith) (grind arith)

pub parts-preserved : goal.parts-preserved
parts-preserved c =
    let t = c.args.text.now in
    let at = c.parts.at in
    let n = c.plain_len-at.result in
    let lt : at + n < length t = grind arith in
    let on : at + n + 1 + 1 ≡ at + n + 2 = omega arith in
    let passed = at_escape t (at + n) lt (grind arith) in (
      c.parts.invariant.0 ∙ past_plain t at n (part _ _ at n c.as_bytes-bytes.ensures.value c.plain_len-at.ensures) ∙ passed ∙ ap (lex in_string) (drop-drop 1 (at + n + 1) t ∙ ap (λ k. drop k t) on),
      omega (arith, lt),
    )
