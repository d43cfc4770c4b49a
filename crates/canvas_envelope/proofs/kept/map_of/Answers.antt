use Rattle.std.proofs.Common.{◌≡◌, [], ◌∷◌, ◌++◌, sym, ap, ◌∙◌, append_assoc}
use Rattle.canvas_task.specs.Entries.{named}
use Rattle.canvas_envelope.proofs.InOrder.{Entry, next_goes_last}
use Rattle.canvas_envelope.proofs.kept.map_of.Goals as goal

pub loop-name-preserved : goal.loop-name-preserved
loop-name-preserved c =
    let l = c.loop-name in
    let before = l.invariant.0 in
    let e : Entry = (c.in-Some.name, c.in-Some.arg) in
    let left = c.next.new.self.rest.items in
    let all : c.args.entries.items ≡ before ++ e ∷ left = l.invariant.1 ∙ ap (λ es. before ++ es) c.in-Some.ensures.steps.0 in (
      before ++ e ∷ [],
      all ∙ sym (append_assoc before (e ∷ []) left),
      ap named c.in_ok-insert.ensures.entries ∙ next_goes_last c.args.entries.items before l.map.entries e left all c.requires l.invariant.2,
    )
