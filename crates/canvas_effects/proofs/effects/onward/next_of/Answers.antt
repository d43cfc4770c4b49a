use Rattle.std.proofs.Common.{◌≡◌, ◌∙◌, [], Some, true, rules, sym, ap, ap₂, subst, w64, to_z, of_z, true≢false}
use Rattle.std.proofs.lemmas.Int.{to_z-of_z}
use Rattle.std.proofs.lemmas.List.{nil_from_length}
use Rattle.canvas_rewrite.specs.FrozenView.{p_task_view}
use Rattle.canvas_semantics.specs.PlacedLine.{PTask, PLine, p_stop, p_step}
use Rattle.canvas_envelope.specs.Content.{Content, number_of, place_of}
use Rattle.canvas_envelope.specs.Fits.{fits}
use Rattle.canvas_envelope.specs.SharedTexts.{AreTexts}
use Rattle.canvas_envelope.specs.steps.Lines.{line_by, followed_by}
use Rattle.canvas_effects.specs.Effects.{message}
use Rattle.canvas_effects.specs.Flowing.{number_input}
use Rattle.canvas_effects.specs.steps.Walks.{begins_with_task}
use Rattle.canvas_effects.proofs.Continued.{next_alone, next_fits, only_message, end_begins}
use Rattle.canvas_effects.proofs.effects.onward.next_of.Goals as goal

pub message_from-requires-clause-fits : goal.message_from-requires-clause-fits
message_from-requires-clause-fits c =
    let tail = c.followed.inside.tail in
    let t : PTask = p_task_view c.in-Some.next in
    let l : PLine = line_by c.pop_front.new.self.items tail in
    let fit : fits c.args.followed ≡ true = sym (ap fits c.followed.view_is) ∙ c.followed.invariant.0 in
    let same : c.args.followed.rest ≡ p_step t l = sym (ap (λ z. z.rest) c.followed.view_is) ∙ ap (λ ts. line_by ts tail) c.in-Some.ensures.items in
    let task : c.message.inside.task ≡ number_of c.args.followed.own =
    ap (λ z. number_of z.own) c.message.view_is ∙ ap (λ z. number_of z.own) c.followed.view_is in
    let whole : to_z w64 (of_z w64 c.args.number) ≡ c.args.number = to_z-of_z w64 c.args.number (search rules) in
    ap₂ (λ k z. fits (message (Some k) t (number_input z) p_stop)) task whole
    ∙ next_alone c.args.followed t l (number_input c.args.number) fit same c.requires.number

pub invariant_of-result : goal.invariant_of-result
invariant_of-result c =
    let tail = c.followed.inside.tail in
    let t : PTask = p_task_view c.in-Some.next in
    let l : PLine = line_by c.pop_front.new.self.items tail in
    let m : Content = c.in_ok-message-in-Some.message in
    let fit : fits c.args.followed ≡ true = sym (ap fits c.followed.view_is) ∙ c.followed.invariant.0 in
    let line : line_by c.followed.inside.tasks.items tail ≡ p_step t l = ap (λ ts. line_by ts tail) c.in-Some.ensures.items in
    let same : c.args.followed.rest ≡ p_step t l = sym (ap (λ z. z.rest) c.followed.view_is) ∙ line in
    let task : c.message.inside.task ≡ number_of c.args.followed.own =
    ap (λ z. number_of z.own) c.message.view_is ∙ ap (λ z. number_of z.own) c.followed.view_is in
    let whole : to_z w64 (of_z w64 c.args.number) ≡ c.args.number = to_z-of_z w64 c.args.number (search rules) in
    let made : m ≡ message (Some (number_of c.args.followed.own)) t (number_input c.args.number) p_stop =
    c.in_ok-message-in-Some.ensures ∙ ap₂ (λ k z. message (Some k) t (number_input z) p_stop) task whole in (
      ap (λ z. fits (followed_by z l)) made ∙ next_fits c.args.followed t l (number_input c.args.number) fit same c.requires.number,
      subst (λ p. AreTexts c.texts_behind-texts.result p l) (sym (ap (λ z. place_of z.own) made))
          (c.texts_behind-texts.ensures (place_of c.followed.inside.message.own) t l
          (subst (AreTexts c.followed.inside.texts (place_of c.followed.inside.message.own)) line c.followed.invariant.1)),
      ap (λ z. z.rest) made,
    )

pub unreachable-requires : goal.unreachable-requires
unreachable-requires c =
    let q = c.followed.inside.tasks in
    let tail = c.followed.inside.tail in
    let none : q.items ≡ [] = nil_from_length q.items (sym q.ok.0 ∙ c.in-None.ensures.cases.0) in
    true≢false (sym c.requires.next ∙ sym (ap (λ z. begins_with_task z.rest) c.followed.view_is)
    ∙ ap (λ ts. begins_with_task (line_by ts tail)) none ∙ end_begins tail)

pub returns : goal.returns
returns c =
    let tail = c.followed.inside.tail in
    let t : PTask = p_task_view c.in-Some.next in
    let l : PLine = line_by c.pop_front.new.self.items tail in
    let fit : fits c.args.followed ≡ true = sym (ap fits c.followed.view_is) ∙ c.followed.invariant.0 in
    let same : c.args.followed.rest ≡ p_step t l = sym (ap (λ z. z.rest) c.followed.view_is) ∙ ap (λ ts. line_by ts tail) c.in-Some.ensures.items in
    let task : c.message.inside.task ≡ number_of c.args.followed.own =
    ap (λ z. number_of z.own) c.message.view_is ∙ ap (λ z. number_of z.own) c.followed.view_is in
    let whole : to_z w64 (of_z w64 c.args.number) ≡ c.args.number = to_z-of_z w64 c.args.number (search rules) in
    only_message c.args.followed t l c.args.number (followed_by c.in_ok-message-in-Some.message l) fit same c.requires.links
    (ap (λ z. followed_by z l) (c.in_ok-message-in-Some.ensures ∙ ap₂ (λ k z. message (Some k) t (number_input z) p_stop) task whole))
