use Rattle.std.proofs.Common.{◌≡◌, ◌∙◌, sym, ap, None}
use Rattle.canvas_rewrite.specs.FrozenView.{p_line_view}
use Rattle.canvas_rewrite.specs.declared.frozen.Carried.{out-Carried}
use Rattle.canvas_effects.specs.Effects.{enter, effect_of}
use Rattle.canvas_effects.specs.Flowing.{run, raise, list_input}
use Rattle.canvas_effects.specs.Placing.{end_place}
use Rattle.canvas_effects.proofs.Ended.{carried_seen, numbers_fit, after_failed, after_all}
use Rattle.canvas_effects.proofs.effects.into_body.Goals as goal

pub returns-in_ok-raise_body-in-Some : goal.returns-in_ok-raise_body-in-Some
returns-in_ok-raise_body-in-Some c =
    c.in_ok-raise_body-in-Some.ensures
    ∙ ap (λ l. effect_of (enter l (raise c.in-Some.fault) (end_place l) 0 None)) c.body_of.ensures
    ∙ after_failed c.args.chord c.args.outcomes.now c.in-Some.fault c.in-Some.ensures

pub start_body-requires-clause-input : goal.start_body-requires-clause-input
start_body-requires-clause-input c = numbers_fit c.args.outcomes.now _ c.in_ok-numbers_of-in-None.ensures c.requires.outcomes

pub returns-in_ok-start_body-in-None : goal.returns-in_ok-start_body-in-None
returns-in_ok-start_body-in-None c =
    let body : p_line_view (out-Carried c.chord.inside.carried).body.value ≡ c.args.chord.body = ap (λ z. z.body) (sym
    (carried_seen c.chord.inside.carried) ∙ c.chord.view_is) in
    c.in_ok-start_body-in-None.ensures
    ∙ ap (λ l. effect_of (enter l (run (list_input c.in_ok-numbers_of-in-None.field-0)) (end_place l) 0 None)) body
    ∙ after_all c.args.chord c.args.outcomes.now _ c.in-None.ensures c.in_ok-numbers_of-in-None.ensures
