use Rattle.std.proofs.Common.{◌++◌, ◌∙◌, ap, sym, map, rules}
use Rattle.std.proofs.lemmas.Result.{err_from_is_err_and}
use Rattle.canvas_runs.proofs.ListTexts.CommaTexts.{read_more, read_last, none_here, pieces_are}
use Rattle.canvas_runs.proofs.comma_list.read_pieces.Goals as goal

pub loop-first-preserved : goal.loop-first-preserved
loop-first-preserved g c =
    let Good = g.R.ItemReader.is_item c.args.reader.now in
    let written = g.R.ItemReader.item_text in
    let so_far = c.loop-first.invariant in
    let item = c.in_ok-push_item.ensures.ok in
    let all = so_far.2 ∙ ap (λ ps. map written c.loop-first.items.items ++ ps) c.in-Some.ensures.0 in
    let more = read_more Good written item.0 c.loop-first.items.items _ _ _ _ so_far.1 item.1 item.2 item.3 all in
    (search rules, more.0, more.1)

pub returns-in_err-push_item-clause-err : goal.returns-in_err-push_item-clause-err
returns-in_err-push_item-clause-err g c =
    let p = err_from_is_err_and c.from_residual.result c.from_residual.ensures.1 in
    rw (p.1, p.2) (λ bad xs h.
    let Good = g.R.ItemReader.is_item c.args.reader.now in
    let written = g.R.ItemReader.item_text in
    let so_far = c.loop-first.invariant in
    none_here Good written _ _ _ xs (c.in_err-push_item.ensures.err bad) h.0
    (sym (so_far.2 ∙ ap (λ ps. map written c.loop-first.items.items ++ ps) c.in-Some.ensures.0) ∙ sym (pieces_are c.args.text.now c.requires) ∙ h.1))

pub returns-clause-ok : goal.returns-clause-ok
returns-clause-ok g c =
    let Good = g.R.ItemReader.is_item c.args.reader.now in
    let written = g.R.ItemReader.item_text in
    let so_far = c.loop-first.invariant in
    let item = c.in_ok-push_item-2.ensures.ok in
    let all = pieces_are c.args.text.now c.requires ∙ so_far.2 ∙ ap (λ ps. map written c.loop-first.items.items ++ ps) c.in_default.ensures in
    read_last Good written item.0 c.loop-first.items.items _ _ _ so_far.1 item.1 item.2 item.3 all

pub returns-in_err-push_item-2-clause-err : goal.returns-in_err-push_item-2-clause-err
returns-in_err-push_item-2-clause-err g c =
    let p = err_from_is_err_and c.from_residual-in_err-push_item-2.result c.from_residual-in_err-push_item-2.ensures.1 in
    rw (p.1, p.2) (λ bad xs h.
    let Good = g.R.ItemReader.is_item c.args.reader.now in
    let written = g.R.ItemReader.item_text in
    let so_far = c.loop-first.invariant in
    none_here Good written _ _ _ xs (c.in_err-push_item-2.ensures.err bad) h.0
    (sym (so_far.2 ∙ ap (λ ps. map written c.loop-first.items.items ++ ps) c.in_default.ensures) ∙ sym (pieces_are c.args.text.now c.requires) ∙ h.1))
