use Rattle.std.proofs.Common.{◌≡◌, ◌∙◌, true, false, sym, ap}
use Rattle.std.proofs.lemmas.Result.{IfOk-weaker}
use Rattle.canvas_rewrite.specs.FrozenView.{p_line_view}
use Rattle.canvas_envelope.specs.Content.{number_of, place_of}
use Rattle.canvas_envelope.specs.Fits.{fits, is_task_number}
use Rattle.canvas_envelope.specs.MessageView.{rest_seen}
use Rattle.canvas_envelope.specs.steps.Parts.{is_stop}
use Rattle.canvas_effects.proofs.Begun.{not_stop}
use Rattle.canvas_effects.proofs.Ended.{ended_last, own_stepped, rest_stands}
use Rattle.canvas_effects.proofs.Sharing.{anywhere}
use Rattle.canvas_effects.proofs.effects.moved.given_up.Goals as goal

-- where something follows
follows : (c : goal.After-line_left-rest) → is_stop (p_line_view c.line_left-rest.result.0) ≡ false
follows c =
    let seen : rest_seen c.message.inside.rest ≡ c.args.message.rest = ap (λ z. z.rest) c.message.view_is in
    not_stop _ (λ e. c.if-is_last.ensures (seen ∙ sym c.line_left-rest.ensures.line ∙ e))

pub part_left-requires : goal.part_left-requires
part_left-requires c =
    let seen : rest_seen c.message.inside.rest ≡ c.args.message.rest = ap (λ z. z.rest) c.message.view_is in
    sym seen ∙ c.if-is_last.ensures

pub returns-then-is_last : goal.returns-then-is_last
returns-then-is_last c =
    let seen : rest_seen c.message.inside.rest ≡ c.args.message.rest = ap (λ z. z.rest) c.message.view_is in
    IfOk-weaker c.todo_of.result _ _
    (λ todo is. is
    ∙ ended_last c.args.message c.args.outcome.now _ _ _ (sym seen ∙ c.if-is_last.ensures) c.new.ensures.items c.in_ok-messages.ensures c.part_left.ensures)
    c.todo_of.ensures

pub behind-requires-clause-rest : goal.behind-requires-clause-rest
behind-requires-clause-rest c =
    let fit : fits c.args.message ≡ true = sym (ap fits c.message.view_is) ∙ c.message.invariant.0 in
    rest_stands c.args.message (p_line_view c.line_left-rest.result.0) fit (sym c.line_left-rest.ensures.line) (follows c)

pub behind-requires-clause-follows : goal.behind-requires-clause-follows
behind-requires-clause-follows c = follows c

pub behind-requires-clause-texts : goal.behind-requires-clause-texts
behind-requires-clause-texts c =
    anywhere c.line_left-rest.result.1 (place_of c.args.message.own) c.args.message.rest (p_line_view c.line_left-rest.result.0)
    (sym c.line_left-rest.ensures.line) (follows c) c.line_left-rest.ensures.texts

pub behind-requires-clause-task : goal.behind-requires-clause-task
behind-requires-clause-task c =
    let fit : fits c.args.message ≡ true = sym (ap fits c.message.view_is) ∙ c.message.invariant.0 in
    let task : c.message.inside.task ≡ number_of c.args.message.own = ap (λ z. number_of z.own) c.message.view_is in
    ap is_task_number task ∙ (own_stepped c.args.message fit).numbered

pub returns : goal.returns
returns c =
    let fit : fits c.args.message ≡ true = sym (ap fits c.message.view_is) ∙ c.message.invariant.0 in
    let task : c.message.inside.task ≡ number_of c.args.message.own = ap (λ z. number_of z.own) c.message.view_is in
    IfOk-weaker c.behind.result _ _ (λ todo is. is c.args.message fit (sym c.line_left-rest.ensures.line) (sym task) c.in_ok-messages.ensures) c.behind.ensures
