use Rattle.std.proofs.lemmas.Result.{IfOk-weaker, IfOk-from_err}
use Rattle.std.proofs.Common.{◌∙◌, ◌∷◌, [], ◌++◌, false, true, refl, sym, ap}
use Rattle.std.specs.Prelude.{string_bytes}
use Rattle.serde_json.specs.Written.{comma_if, compact_text, members_text}
use Rattle.canvas_task.specs.Entries.{named}
use Rattle.canvas_task.proofs.Turns.{put_part}
use Rattle.canvas_values.specs.Writing.{arg_wire, kwargs_wire}
use Rattle.json.specs.Print.{quoted}
use Rattle.canvas_envelope.proofs.writing.text.put_named.Goals as goal

pub returns-in_err-put_comma : goal.returns-in_err-put_comma
returns-in_err-put_comma c = IfOk-from_err c.from_residual.result _ c.from_residual.ensures.0

pub returns-in_err-put_string : goal.returns-in_err-put_string
returns-in_err-put_string c =
    IfOk-from_err c.from_residual-in_err-put_string.result _ c.from_residual-in_err-put_string.ensures.0

pub returns-in_err-put : goal.returns-in_err-put
returns-in_err-put c = IfOk-from_err c.from_residual-in_err-put.result _ c.from_residual-in_err-put.ensures.0

pub returns-in_err-put_arg : goal.returns-in_err-put_arg
returns-in_err-put_arg c =
    IfOk-from_err c.from_residual-in_err-put_arg.result _ c.from_residual-in_err-put_arg.ensures.0

pub loop-name-init : goal.loop-name-init
loop-name-init c =
    ap (λ es. string_bytes c.args.out.now ++ members_text false (kwargs_wire (named es)))
    (c.into_iter-name-iterator.ensures.into_iter_gives ∙ c.iter-name-items.ensures.rest)

pub returns : goal.returns
returns c =
    IfOk-weaker c.put-2.result _ _
    (λ u h. h ∙ ap (λ es. string_bytes c.loop-name.out ++ members_text c.loop-name.later (kwargs_wire (named es))) (sym c.in-None.ensures.steps.0)
    ∙ c.loop-name.invariant) c.put-2.ensures

pub loop-name-preserved : goal.loop-name-preserved
loop-name-preserved c =
    let all = string_bytes c.args.out.now ++ members_text false (kwargs_wire (named c.args.kwargs.now.entries)) in
    let rest = members_text true (kwargs_wire (named c.next.new.self)) in
    let value = compact_text (arg_wire c.in-Some.arg.now) in
    let name = quoted (string_bytes c.in-Some.name.now) in
    let begun = ap (λ es. string_bytes c.loop-name.out ++ members_text c.loop-name.later (kwargs_wire (named es))) (sym c.in-Some.ensures.steps)
    ∙ c.loop-name.invariant in
    put_part (string_bytes c.put.new.out) value (string_bytes c.put_arg.new.out) _ rest all c.in_ok-put_arg.ensures refl
    (put_part (string_bytes c.put_string.new.out) (58 ∷ []) (string_bytes c.put.new.out) _ (value ++ rest) all c.in_ok-put.ensures refl
    (put_part (string_bytes c.put_comma.new.out) name (string_bytes c.put_string.new.out) _ (58 ∷ (value ++ rest)) all
    (c.in_ok-put_string.ensures ∙ ap (λ k. string_bytes c.put_comma.new.out ++ quoted k) c.deref.ensures) refl
    (put_part (string_bytes c.loop-name.out) (comma_if c.loop-name.later) (string_bytes c.put_comma.new.out) _ (name ++ (58 ∷ (value ++ rest))) all
    c.in_ok-put_comma.ensures refl begun)))
