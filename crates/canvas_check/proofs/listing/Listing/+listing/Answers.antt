use Rattle.std.proofs.Common.{false, sym, ap, refl, subst, arith, ◌∙◌, OnOk, ◌<◌, ◌∷◌, [], length, vec_len, length-append, ◌≡◌, Some}
use Rattle.canvas_sig.specs.Datum.{view}
use Rattle.canvas_sig.proofs.Datums.{next_item}
use Rattle.canvas_values.specs.declared.primitive.Primitive.TheVariants as kind
use Rattle.canvas_check.specs.FileOrder.{sighted_within, in_each, in_kwargs}
use Rattle.canvas_check.specs.Places.{Lists}
use Rattle.canvas_check.proofs.Adding.{and_inside, in_and_back, popped, chord_listed, one_more, list_some_in}
use Rattle.canvas_check.proofs.listing.Listing.+listing.Goals as goal

pub list-returns : goal.list-returns
list-returns t c =
    and_inside c.list_inside.result c.args.left c.args.is_linked (view c.args.value.now) c.args.self.now c.push.new.self c.list_inside.new.self
    c.if-left-eq0.false c.in_ok-push.ensures c.list_inside.ensures

pub list_all-loop-index-preserved : goal.list_all-loop-index-preserved
list_all-loop-index-preserved t c =
    let next = next_item c.args.values.now c.loop-index.index c.index-values-index.result _ (omega (arith, c.loop-index-test.true))
    (sym c.index-values-index.is) in
    one_more _ _ _ _ _ _ _ _ _ c.loop-index.self _ c.loop-index.invariant next (omega arith) c.in_ok-list_at.ensures

pub list_at-returns : goal.list_at-returns
list_at-returns t c =
    let steps = c.in_ok-list.ensures.steps ∙ c.in_ok-push.ensures.items in
    let longer : 0 < vec_len c.list.new.self.steps =
    omega (arith, c.list.new.self.steps.ok.0, ap length steps, length-append c.args.self.now.steps.items (c.args.step ∷ [])) in
    in_and_back _ c.args.step c.args.self.now
    (record c.args.self.now { steps = c.push.new.self }) c.list.new.self _ refl c.in_ok-push.ensures.items c.in_ok-list.ensures
    refl (popped c.list.new.self.steps.items c.pop.new.self.items c.args.self.now.steps.items c.pop.result c.args.step c.pop.ensures.items
    (c.pop.ensures.variant.1 longer) steps)

pub list_kwargs-returns-in_ok-list_some-in-Some-Chord : goal.list_kwargs-returns-in_ok-list_some-in-Some-Chord
list_kwargs-returns-in_ok-list_some-in-Some-Chord t c =
    let one : c.args.primitive ≡ Some c.in-Some-Chord.field-0 = c.in-Some-Chord.is in
    let chord : c.in-Some-Chord.field-0 ≡ kind.Chord = rw one at c.in-Some-Chord.field-0-is in
    let f = sighted_within c.args.left false in
    let both = chord_listed c.list_one.result f _ _ (view c.args.value.now)
    c.args.self.now c.list_some.new.self c.list_one.new.self c.kwarg_of-in-Some-Chord.ensures c.kwarg_of-in-Some-Chord-2.ensures
    c.in_ok-list_some-in-Some-Chord.ensures c.list_one.ensures in
    subst (λ p. OnOk c.list_one.result (Lists (in_each f (in_kwargs p (view c.args.value.now))) c.args.self.now c.list_one.new.self))
    (sym (one ∙ ap Some chord)) both

pub list_one_or_more-returns-in-List : goal.list_one_or_more-returns-in-List
list_one_or_more-returns-in-List t c =
    subst (λ ds. OnOk c.list_all.result (Lists (in_each (sighted_within c.args.left c.args.is_linked) ds) c.args.self.now c.list_all.new.self))
    (sym (list_some_in c.args.field _ _ c.in-List.is)) c.list_all.ensures
