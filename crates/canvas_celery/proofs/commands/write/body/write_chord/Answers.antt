use Rattle.std.proofs.Common.{[], ◌∷◌, ◌∙◌, ap, sym}
use Rattle.json.specs.Token.{null}
use Rattle.canvas_values.specs.steps.Tokens.{data_tokens}
use Rattle.canvas_rewrite.specs.FrozenView.{p_line_view}
use Rattle.canvas_envelope.specs.MessageView.{place_seen}
use Rattle.canvas_envelope.proofs.Seen.{group_place, chord_place}
use Rattle.canvas_celery.specs.Signatures.{carried_wire, elements, body_at}
use Rattle.canvas_celery.specs.ExportView.{naming}
use Rattle.canvas_celery.proofs.Exported.Tokens.{appends_as}
use Rattle.canvas_celery.proofs.Exported.Lines.{appended}
use Rattle.canvas_celery.proofs.commands.write.body.write_chord.Goals as goal

pub returns-in-Some-chord : goal.returns-in-Some-chord
returns-in-Some-chord c =
    let n = naming c.args.names.now in
    appends_as c.write_carried.result c.args.out.now c.write_carried.new.out _ _
    (ap (λ l. data_tokens (carried_wire (elements n (p_line_view l)))) c.deref.ensures
    ∙ (ap (λ p. data_tokens (body_at n p)) (sym (chord_place c.in-Some.place c.in-Some-chord.carried c.in-Some-chord.is))
    ∙ ap (λ p. data_tokens (body_at n (place_seen p))) (sym c.in-Some.is))) c.write_carried.ensures

pub returns-in-None-chord : goal.returns-in-None-chord
returns-in-None-chord c =
    let n = naming c.args.names.now in
    appends_as c.null.result c.args.out.now c.null.new.self (null ∷ []) _
    (ap (λ p. data_tokens (body_at n p)) (sym (group_place c.in-Some.place c.in-None-chord.is))
    ∙ ap (λ p. data_tokens (body_at n (place_seen p))) (sym c.in-Some.is))
    (appended c.null.result c.args.out.now c.null.new.self null c.null.ensures)

pub returns-in-None : goal.returns-in-None
returns-in-None c =
    appends_as c.null-in-None.result c.args.out.now c.null-in-None.new.self (null ∷ []) _
    (ap (λ p. data_tokens (body_at (naming c.args.names.now) (place_seen p))) (sym c.in-None.is))
    (appended c.null-in-None.result c.args.out.now c.null-in-None.new.self null c.null-in-None.ensures)
