use Rattle.std.proofs.Common.{◌∙◌, ◌++◌, take, sym, ap, subst}
use Rattle.std.specs.Prelude.{string_bytes}
use Rattle.std.specs.Str.{IsUtf8}
use Rattle.std.specs.String.{string_len}
use Rattle.canvas_rewrite.specs.FrozenView.{p_line_view}
use Rattle.canvas_envelope.specs.SharedTexts.{IsListed, backwards, head_text}
use Rattle.canvas_envelope.proofs.Written.PieceTexts.{known_listed, known_utf8, whole_listed, whole_utf8}
use Rattle.canvas_envelope.proofs.writing.body.rest_piece.Goals as goal

pub returns-in-Some-split_last-clause-value : goal.returns-in-Some-split_last-clause-value
returns-in-Some-split_last-clause-value c =
    let l = p_line_view c.args.rest.now in
    let e = c.in-Some-split_last.end.now in
    let said = rw c.in-Some.is at c.requires.line in
    subst (λ x. IsListed (head_text x.head ++ take e (string_bytes x.own)) (backwards l)) (sym c.in_ok-text.ensures)
    (known_listed c.in-Some.known c.in-Some-split_last._before.now e l (sym c.deref.ensures.value ∙ c.in-Some-split_last.ensures.cases.0) said)

pub returns-in-Some-split_last-clause-utf8 : goal.returns-in-Some-split_last-clause-utf8
returns-in-Some-split_last-clause-utf8 c =
    let l = p_line_view c.args.rest.now in
    let e = c.in-Some-split_last.end.now in
    let said = rw c.in-Some.is at c.requires.line in
    subst (λ x. IsUtf8 (head_text x.head ++ take e (string_bytes x.own))) (sym c.in_ok-text.ensures)
    (known_utf8 c.in-Some.known c.in-Some-split_last._before.now e l (sym c.deref.ensures.value ∙ c.in-Some-split_last.ensures.cases.0) said)

pub returns-clause-utf8 : goal.returns-clause-utf8
returns-clause-utf8 c =
    whole_utf8 c.in_ok-text-2.field-0.text.value c.len-end.result (c.len-end.ensures ∙ ap (λ t. string_len t.own) c.deref-2.ensures)

pub returns-clause-value : goal.returns-clause-value
returns-clause-value c =
    whole_listed c.in_ok-text-2.field-0.text.value c.len-end.result (p_line_view c.args.rest.now)
    (c.len-end.ensures ∙ ap (λ t. string_len t.own) c.deref-2.ensures) c.in_ok-text-2.ensures.1
