use Rattle.std.proofs.Common.{◌≡◌, [], ◌∷◌, ◌++◌, sym, ap, ◌∙◌, subst, append_assoc}
use Rattle.std.specs.List.Sorted.{IsStrictlySortedBy}
use Rattle.std.specs.Map.{keys_of}
use Rattle.std.specs.String.{string_cmp}
use Rattle.canvas_task.specs.Entries.{named}
use Rattle.canvas_task.proofs.Copies.{Entry, one_more}
use Rattle.canvas_task.proofs.arg.copy_few.Goals as goal

pub loop-name-preserved : goal.loop-name-preserved
loop-name-preserved c =
    let l = c.loop-name in
    let done = l.invariant.0 in
    let e : Entry = (c.in-Some.name.now, c.in-Some.arg.now) in
    let left = c.next.new.self in
    let all : c.args.map.now.entries ≡ done ++ e ∷ left = l.invariant.1 ∙ ap (λ es. done ++ es) c.in-Some.ensures.steps in
    let sorted = subst (λ es. IsStrictlySortedBy string_cmp (keys_of es)) all c.iter-name-items.ensures.ordered in (
      done ++ e ∷ [],
      all ∙ sym (append_assoc done (e ∷ []) left),
      ap named c.in_ok-insert.ensures.entries
          ∙ one_more l.copy.entries done e left c.in_ok-key.key c.in_ok-clone.field-0 l.invariant.2 c.in_ok-key.ensures.cases c.in_ok-clone.ensures.cases
          sorted,
    )
