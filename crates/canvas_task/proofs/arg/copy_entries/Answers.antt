use Rattle.std.proofs.Common.{◌≡◌, [], ◌∷◌, ◌++◌, sym, ap, ◌∙◌, append_assoc}
use Rattle.std.proofs.lemmas.List.{map_push}
use Rattle.canvas_task.specs.Entries.{named}
use Rattle.canvas_task.proofs.Copies.{Entry, copied_push}
use Rattle.canvas_task.proofs.arg.copy_entries.Goals as goal

pub loop-name-preserved : goal.loop-name-preserved
loop-name-preserved c =
    let l = c.loop-name in
    let done = l.invariant.0 in
    let e : Entry = (c.in-Some.name.now, c.in-Some.arg.now) in
    let left = c.next.new.self in
    let all : c.args.map.now.entries ≡ done ++ e ∷ left = l.invariant.1 ∙ ap (λ es. done ++ es) c.in-Some.ensures.steps in (
      done ++ e ∷ [],
      all ∙ sym (append_assoc done (e ∷ []) left),
      ap named c.in_ok-push.ensures.items
          ∙ copied_push l.copy.items done e c.in_ok-key.key c.in_ok-clone.field-0 l.invariant.2 c.in_ok-key.ensures.cases c.in_ok-clone.ensures.cases,
    )
