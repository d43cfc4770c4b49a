use Rattle.std.proofs.Common.{◌∙◌, refl, ap, map}
use Rattle.canvas_values.specs.SignatureView.{task_view}
use Rattle.canvas_values.proofs.Views.{alike}
use Rattle.canvas_values.proofs.copy.+copy.Goals as goal

pub copy_sig-returns : goal.copy_sig-returns
copy_sig-returns t c =
    alike _ _ _ _ _ _ _ c.in_ok-name.ensures.cases c.in_ok-args.ensures c.in_ok-kwargs.ensures refl
    (c.in_ok-links.ensures ∙ ap (map task_view) (c.deref.ensures.value ∙ c.get.ensures))
    (c.in_ok-errbacks.ensures ∙ ap (map task_view) (c.deref-2.ensures.value ∙ c.get-2.ensures))
