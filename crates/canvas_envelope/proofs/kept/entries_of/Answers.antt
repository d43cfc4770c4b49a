use Rattle.std.proofs.Common.{[], ◌∷◌, ◌++◌, sym, ap, ◌∙◌, append_assoc}
use Rattle.canvas_envelope.proofs.kept.entries_of.Goals as goal

pub loop-entry-preserved : goal.loop-entry-preserved
loop-entry-preserved c =
    let l = c.loop-entry in
    l.invariant ∙ ap (λ es. l.entries.items ++ es) c.in-Some.ensures.steps
    ∙ sym (append_assoc l.entries.items (c.in-Some.entry ∷ []) c.next.new.self)
    ∙ ap (λ es. es ++ c.next.new.self) (sym c.in_ok-push.ensures.items)
