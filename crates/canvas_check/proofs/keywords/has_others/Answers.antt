use Rattle.std.proofs.Common.{◌∙◌, ap, sym, not}
use Rattle.std.specs.List.{list_any}
use Rattle.canvas_sig.proofs.Datums.{object_members}
use Rattle.canvas_check.specs.Keywords.{is_part}
use Rattle.canvas_check.proofs.OtherNames.{any_seen}
use Rattle.canvas_check.proofs.keywords.has_others.Goals as goal

pub returns-in-Object : goal.returns-in-Object
returns-in-Object c =
    c.has_other_names.ensures ∙ any_seen (λ name. not (is_part name)) c.in-Object.members.now
    ∙ sym (ap (list_any (λ e. not (is_part e.0))) (object_members _ _ c.in-Object.is))
