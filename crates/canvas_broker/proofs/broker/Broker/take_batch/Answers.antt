use Rattle.std.proofs.Common.{rules, arith, ◌≡◌, ◌≤◌, suc, ◌+◌, ◌<◌, length, List, [], ◌∷◌, ◌++◌, sym, ap, ◌∙◌, subst, append_assoc, append-nil}
use Rattle.crossbeam_queue.specs.Fifo.{Admits}
use Rattle.crossbeam_queue.specs.SegTies.{IsSegPassOf}
use Rattle.arrayvec.specs.ArrayVec.{array_vec_len}
use Rattle.crossbeam_queue.specs.SegBatches.{Holds}
use Rattle.canvas_history.proofs.Histories.{In}
use Rattle.canvas_broker.specs.declared.item.Item.{Item}
use Rattle.canvas_history.specs.Passes.{QueueId, Pass, Took}
use Rattle.canvas_broker.specs.steps.PassKnowledge.{pass_of, seg_of}
use Rattle.canvas_broker.specs.declared.view.View.{View}
use Rattle.canvas_broker.specs.steps.Rule.{envelopes, IsReady, Kept, newcomer}
use Rattle.canvas_broker.proofs.RuleSteps.{misses}
use Rattle.canvas_broker.proofs.Begins.{admits}
use Rattle.canvas_broker.proofs.Batches.{takes_many, first_rest, no_rest}
use Rattle.canvas_broker.proofs.Made.{took_own}
use Rattle.canvas_broker.proofs.broker.Broker.take_batch.Goals as goal

pub try_pop_batch-requires-clause-rule : goal.try_pop_batch-requires-clause-rule
try_pop_batch-requires-clause-rule g c =
    let ready : IsReady c.head-head.new.pass.me.view.client =
    subst (λ (v : View g.row.T.Denot). IsReady v) (sym c.head-head.ensures.1.0.2) c.pass.invariant.2 in
    ((λ n _ _. takes_many _ n _ ready), misses _ _ ready, admits)

pub next_of-requires : goal.next_of-requires
next_of-requires g c =
    let i = c.loop-self.invariant in
    let some : 0 < c.loop-self.batch.len = search rules in
    let f = first_rest i.2.0 (subst (λ n. 0 < n) (sym i.2.1.8) some) in
    let h = subst (λ (l : List (Item g.row.T.Denot)). Holds (seg_of c.args.self.now) c.loop-self.pass-inside.pass c.loop-self.batch l) f.2 i.2.1 in
    subst (λ (q : QueueId). IsSegPassOf (seg_of q) c.loop-self.pass-inside.pass × Admits (Kept {E = g.row.T.Denot}) newcomer
    × ((x : Item g.row.T.Denot) × (xs : List (Item g.row.T.Denot)) × Holds (seg_of q) c.loop-self.pass-inside.pass c.loop-self.batch (x ∷ xs)))
    (sym c.self.view_is) (i.0, admits, (f.0, f.1, h))

pub loop-self-smaller : goal.loop-self-smaller
loop-self-smaller g c =
    let i = c.loop-self.invariant in
    let some : 0 < c.loop-self.batch.len = search rules in
    let f = first_rest i.2.0 (subst (λ n. 0 < n) (sym i.2.1.8) some) in
    let h = subst (λ (x : QueueId × List (Item g.row.T.Denot)). Holds (seg_of x.0) c.loop-self.pass-inside.pass c.loop-self.batch x.1)
    (λ j. (sym c.self.view_is j, f.2 j)) i.2.1 in
    let old : suc (length f.1) ≡ c.loop-self.batch.len = h.8 in
    let new : length f.1 ≡ c.next_of.new.batch.len = (c.next_of.ensures.item f.0 f.1 h).1.8 in
    omega (arith, old, new)

pub loop-self-preserved : goal.loop-self-preserved
loop-self-preserved g c =
    let i = c.loop-self.invariant in
    let some : 0 < c.loop-self.batch.len = search rules in
    let f = first_rest i.2.0 (subst (λ n. 0 < n) (sym i.2.1.8) some) in
    let h = subst (λ (x : QueueId × List (Item g.row.T.Denot)). Holds (seg_of x.0) c.loop-self.pass-inside.pass c.loop-self.batch x.1)
    (λ j. (sym c.self.view_is j, f.2 j)) i.2.1 in
    let next = c.next_of.ensures.item f.0 f.1 h in
    let old : suc (length f.1) ≡ c.loop-self.batch.len = h.8 in
    let new : length f.1 ≡ c.next_of.new.batch.len = next.1.8 in
    let bound : array_vec_len c.loop-self.items + c.loop-self.batch.len ≤ 4 = i.1 in
    let one : array_vec_len c.push.new.self ≡ array_vec_len c.loop-self.items + 1 = c.push.ensures.len in
    let was : List (Item g.row.T.Denot) = c.loop-self.items.items in
    let all : was ++ i.2.0 ≡ c.push.new.self.items ++ f.1 =
    ap (λ l. was ++ l) f.2 ∙ (ap (λ (x : Item g.row.T.Denot). was ++ x ∷ f.1) (sym next.0)
    ∙ (sym (append_assoc was (c.next_of.result ∷ []) f.1) ∙ ap (λ l. l ++ f.1) (sym c.push.ensures.items))) in
    let same = c.next_of.ensures.queue in
    let web : c.next_of.new.pass.web ≡ c.loop-self.pass-inside.pass.web = same.0.0.0 ∙ (c.self.view_is ∙ sym i.0.0.0) in (
      subst (λ (q : QueueId). IsSegPassOf (seg_of q) c.next_of.new.pass) c.self.view_is same.0,
      omega (arith, old, new, bound, one),
      (
        f.1,
        subst (λ (q : QueueId). Holds (seg_of q) c.next_of.new.pass c.next_of.new.batch f.1) c.self.view_is next.1,
        subst (λ (x : List (Item g.row.T.Denot) × Pass g.row.T.Denot). Took c.args.pass.now (envelopes x.0) x.1)
            (λ j. (all j, pass_of (sym web j) (sym same.2 j).knows)) i.2.2,
      ),
      subst (λ (v : View g.row.T.Denot). IsReady v) (sym same.2) i.3,
    )

pub returns-clause-own : goal.returns-clause-own
returns-clause-own g c =
    let here = subst (λ (p : Pass g.row.T.Denot). In p.name p.mine) c.pass.view_is c.pass.invariant.2.0 in
    let i = c.loop-self.invariant in
    let none : c.loop-self.batch.len ≡ 0 = search rules in
    let new : Pass g.row.T.Denot =
    pass_of c.loop-self.pass-inside.pass.web c.loop-self.pass-inside.pass.me.view.client.knows in
    let all : c.loop-self.items.items ++ i.2.0 ≡ c.loop-self.items.items = ap (λ l. c.loop-self.items.items ++ l) (no_rest i.2.0 (i.2.1.8 ∙ none))
    ∙ append-nil c.loop-self.items.items in
    took_own c.args.pass.now (envelopes c.loop-self.items.items) new here
    (subst (λ (x : List (Item g.row.T.Denot)). Took c.args.pass.now (envelopes x) new) all i.2.2)
