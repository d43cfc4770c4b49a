use Rattle.std.proofs.Common.{◌∙◌, ◌++◌, arith, map, sym, ap, subst, append-nil}
use Rattle.std.proofs.lemmas.Bool.{eqb-true}
use Rattle.std.specs.Prelude.{◌==◌}
use Rattle.canvas_rewrite.proofs.PlanLines.{ok_same}
use Rattle.canvas_rewrite.specs.FrozenView.{p_line_view, place_or}
use Rattle.canvas_effects.specs.Carrying.{AllStand}
use Rattle.canvas_effects.specs.steps.Walks.{input_seen, all_started, started}
use Rattle.canvas_effects.proofs.Begun.{body_there, no_numbers, empty_started, none_started, fits_size, members_stand, header_is, group_is, begun_header, group_started}
use Rattle.canvas_effects.proofs.Depth.{body_below, members_below}
use Rattle.canvas_effects.proofs.effects.started.+start.Goals as goal

pub start_line-returns-in-Some : goal.start_line-returns-in-Some
start_line-returns-in-Some t c =
    ok_same _ _ _ _ (ap (λ l. c.args.messages.now.items ++ started l (input_seen c.args.input.now) (place_or c.args.place) c.args.parent.now)
    (sym c.in-Some.ensures)) c.start_end.ensures

pub start_line-returns-in-None : goal.start_line-returns-in-None
start_line-returns-in-None t c =
    sym (ap (λ ms. c.args.messages.now.items ++ ms)
    (none_started (p_line_view c.args.line) (input_seen c.args.input.now) (place_or c.args.place) c.args.parent.now c.in-None.ensures)
    ∙ append-nil c.args.messages.now.items)

pub start_end-overflow_cast-len : goal.start_end-overflow_cast-len
start_end-overflow_cast-len t c = omega (
  arith,
  c.len.ensures,
  c.into_plain-members.result.ok.0,
  fits_size c.args.end c.in-Some.body _ _ c.in-Some.is c.into_plain-members.ensures c.requires.line,
)

pub start_end-start_members-requires : goal.start_end-start_members-requires
start_end-start_members-requires t c =
    let ms = c.into_plain-members.ensures in (
      omega (arith, members_below c.args.end c.into_plain-members.result.items ms),
      (
        subst (λ q. AllStand q (map p_line_view c.into_plain-members.result.items))
            (sym (c.in_ok-place-in-Some.ensures
            ∙ header_is c.args.end c.in-Some.body (place_or c.args.place) _ _ c.in-Some.is ms
            (omega (arith, c.len.ensures, c.into_plain-members.result.ok.0))))
            (members_stand c.args.end _ (place_or c.args.place) ms c.requires.line),
        (c.requires.input, c.requires.parent),
      ),
    )

pub start_end-start_members-requires-in-None : goal.start_end-start_members-requires-in-None
start_end-start_members-requires-in-None t c =
    let ms = c.into_plain-members.ensures in (
      omega (arith, members_below c.args.end c.into_plain-members.result.items ms),
      (
        subst (λ q. AllStand q (map p_line_view c.into_plain-members.result.items))
            (sym (c.in_ok-place-in-None.ensures ∙ group_is c.args.end (place_or c.args.place) c.in-None.is))
            (members_stand c.args.end _ (place_or c.args.place) ms c.requires.line),
        (c.requires.input, c.requires.parent),
      ),
    )

pub start_end-returns-in_ok-place-in-Some : goal.start_end-returns-in_ok-place-in-Some
start_end-returns-in_ok-place-in-Some t c =
    let x = input_seen c.args.input.now in
    let p = place_or c.args.place in
    let u = c.args.parent.now in
    let ms = c.into_plain-members.result.items in
    ok_same _ _ _ _ (ap (λ all. c.args.messages.now.items ++ all)
    (ap (λ q. all_started (map p_line_view ms) x q u)
    (c.in_ok-place-in-Some.ensures
    ∙ header_is c.args.end c.in-Some.body p _ _ c.in-Some.is c.into_plain-members.ensures
    (omega (arith, c.len.ensures, c.into_plain-members.result.ok.0)))
    ∙ begun_header c.args.end c.in-Some.body x p u ms c.in-Some.is c.into_plain-members.ensures
    (ap (λ n. n == 0) (sym c.into_plain-members.result.ok.0) ∙ sym c.is_empty.ensures ∙ c.if-is_empty.false))) c.start_members.ensures

pub start_end-returns-in_ok-place-in-None : goal.start_end-returns-in_ok-place-in-None
start_end-returns-in_ok-place-in-None t c =
    let x = input_seen c.args.input.now in
    let p = place_or c.args.place in
    let u = c.args.parent.now in
    let ms = c.into_plain-members.result.items in
    ok_same _ _ _ _ (ap (λ all. c.args.messages.now.items ++ all)
    (ap (λ q. all_started (map p_line_view ms) x q u)
    (c.in_ok-place-in-None.ensures ∙ group_is c.args.end p c.in-None.is)
    ∙ group_started c.args.end x p u ms c.in-None.is c.into_plain-members.ensures))
    c.start_members-in-None.ensures

pub start_end-start_line-requires : goal.start_end-start_line-requires
start_end-start_line-requires t c = (
  omega (arith, body_below c.args.end c.in-Some.body c.in-Some.is),
  (
    body_there c.args.end c.in-Some.body (place_or c.args.place) c.in-Some.is c.requires.line,
    (no_numbers c.of.result (c.of.ensures ∙ c.new.ensures.items), c.requires.parent),
  ),
)

pub start_end-returns-then-is_empty : goal.start_end-returns-then-is_empty
start_end-returns-then-is_empty t c =
    ok_same _ _ _ _ (ap (λ all. c.args.messages.now.items ++ all)
    (empty_started c.args.end c.in-Some.body _ _ (input_seen c.args.input.now) (place_or c.args.place) c.args.parent.now c.in-Some.is
    c.into_plain-members.ensures (eqb-true _ 0 (ap (λ n. n == 0) (sym c.into_plain-members.result.ok.0) ∙ sym c.is_empty.ensures ∙ c.if-is_empty.true))
    (c.of.ensures ∙ c.new.ensures.items))) c.start_line.ensures
