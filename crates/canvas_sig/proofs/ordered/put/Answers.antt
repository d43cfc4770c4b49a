use Rattle.std.proofs.Common.{◌∙◌, sym, ap, subst}
use Rattle.canvas_sig.specs.Datum.{members_view}
use Rattle.canvas_sig.specs.steps.Names.{StandsAt, BelongsAt}
use Rattle.canvas_sig.proofs.Parsed.{put_at, put_before}
use Rattle.canvas_sig.proofs.ordered.put.Goals as goal

pub returns-in-Ok : goal.returns-in-Ok
returns-in-Ok c =
    let name = c.args.name.now in
    let i = c.in-Ok.index in
    let stands = subst (λ es. StandsAt es name i) c.deref.ensures.value c.in-Ok.ensures.found in
    sym (put_at c.args.members.now.items i name c.args.value c.index_mut.result.now stands.0 stands.1 stands.2 c.index_mut.ensures.value)

pub returns-in_ok-insert-in-Err : goal.returns-in_ok-insert-in-Err
returns-in_ok-insert-in-Err c =
    let i = c.in-Err.index in
    let belongs = subst (λ es. BelongsAt es c.args.name.now i) c.deref.ensures.value c.in-Err.ensures.missing in
    ap (λ es. members_view es) c.in_ok-insert-in-Err.ensures.items
    ∙ sym (put_before c.args.members.now.items i c.args.name c.args.value belongs)
