use Rattle.std.proofs.Common.{◌≡◌, ◌∙◌, true, map, sym, ap}
use Rattle.canvas_rewrite.specs.FrozenView.{p_tasks_of, p_task_view}
use Rattle.canvas_effects.specs.Carrying.{callbacks_ok}
use Rattle.canvas_envelope.specs.Content.{links_of, errbacks_of}
use Rattle.canvas_envelope.specs.Fits.{fits}
use Rattle.canvas_effects.proofs.Ended.{own_stepped}
use Rattle.canvas_effects.proofs.effects.called_back.Goals as goal

pub all_called-requires-clause-callbacks : goal.all_called-requires-clause-callbacks
all_called-requires-clause-callbacks c =
    let whole : fits c.args.message.now ≡ true = sym (ap fits c.message.view_is) ∙ c.message.invariant.0 in
    let links : p_tasks_of (map p_task_view c.deref.result.now) ≡ links_of c.args.message.now.own =
    ap (λ ts. p_tasks_of (map p_task_view ts)) (c.deref.ensures.value ∙ c.get.ensures) ∙ ap (λ z. links_of z.own) c.message.view_is in
    ap callbacks_ok links ∙ (own_stepped c.args.message.now whole).linked

pub all_called-requires-in-Failure-clause-callbacks : goal.all_called-requires-in-Failure-clause-callbacks
all_called-requires-in-Failure-clause-callbacks c =
    let whole : fits c.args.message.now ≡ true = sym (ap fits c.message.view_is) ∙ c.message.invariant.0 in
    let errbacks : p_tasks_of (map p_task_view c.deref-in-Failure.result.now) ≡ errbacks_of c.args.message.now.own =
    ap (λ ts. p_tasks_of (map p_task_view ts)) (c.deref-in-Failure.ensures.value ∙ c.get-in-Failure.ensures) ∙ ap (λ z. errbacks_of z.own) c.message.view_is in
    ap callbacks_ok errbacks ∙ (own_stepped c.args.message.now whole).called_back
