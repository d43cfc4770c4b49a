use Rattle.std.proofs.Common.{◌≡◌, ◌<◌, ◌≤◌, ◌+◌, [], ◌∷◌, ◌∙◌, length, length-set, drop, set, sym, ap, arith}
use Rattle.std.proofs.lemmas.List.{drop_all}
use Rattle.arrayvec.proofs.ArrayVecLemmas.{items-with_items}
use Rattle.canvas_broker.specs.steps.Rule.{envelopes}
use Rattle.canvas_broker.proofs.Batches.{read_queued, read_mark}
use Rattle.canvas_broker.proofs.batch.Batch.next.Goals as goal

pub returns-in-Queued : goal.returns-in-Queued
returns-in-Queued g c =
    let at = c.loop-self.self-inside.read in
    let items = c.deref_mut.result.now in
    let inside : at < length items = omega (arith, c.loop-self-test.true, c.len.ensures.value, ap length c.deref_mut.ensures.value) in
    let item = c.index-deref_mut-self in
    let written = items-with_items c.loop-self.self-inside.items (set items at c.replace-item.new.dest)
    (length-set _ _ _ ∙ ap length c.deref_mut.ensures.value) in
    sym c.self.view_is ∙ sym c.loop-self.invariant ∙ ap (λ xs. envelopes (drop at xs)) (sym c.deref_mut.ensures.value)
    ∙ read_queued items at item.result c.replace-item.new.dest inside item.is c.in-Queued.envelope
    (item.is ∙ sym c.replace-item.ensures.value ∙ c.in-Queued.is)
    ∙ ap (λ xs. c.in-Queued.envelope ∷ envelopes (drop (at + 1) xs)) (sym written)

pub loop-self-preserved : goal.loop-self-preserved
loop-self-preserved g c =
    let at = c.loop-self.self-inside.read in
    let items = c.deref_mut.result.now in
    let inside : at < length items = omega (arith, c.loop-self-test.true, c.len.ensures.value, ap length c.deref_mut.ensures.value) in
    let item = c.index-deref_mut-self in
    let written = items-with_items c.loop-self.self-inside.items (set items at c.replace-item.new.dest)
    (length-set _ _ _ ∙ ap length c.deref_mut.ensures.value) in
    ap (λ xs. envelopes (drop (at + 1) xs)) written
    ∙ sym (ap (λ xs. envelopes (drop at xs)) (sym c.deref_mut.ensures.value)
    ∙ read_mark items at item.result c.replace-item.new.dest inside item.is
    (λ e queued. c.in_default.not-Queued e (c.replace-item.ensures.value ∙ sym item.is ∙ queued)))
    ∙ c.loop-self.invariant

pub returns : goal.returns
returns g c =
    let at = c.loop-self.self-inside.read in
    let items = c.loop-self.self-inside.items.items in
    let past : length items ≤ at = omega (arith, c.loop-self-test.false, c.len.ensures.value) in
    let ended : envelopes (drop at items) ≡ [] = ap envelopes (drop_all at items past) in
    (sym c.self.view_is ∙ sym c.loop-self.invariant ∙ ended, ended)
