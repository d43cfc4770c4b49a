use Rattle.std.proofs.Common.{◌∙◌, ◌+◌, [], ◌∷◌, codes, length}
use Rattle.std.specs.Prelude.{decimal}
use Rattle.canvas_celery.specs.Script.{script}
use Rattle.canvas_celery.specs.Keys.{marker_key}
use Rattle.canvas_celery.proofs.Exported.Words.{first_word, then_word, last_word, word_as, ok_word_as}
use Rattle.canvas_celery.proofs.commands.by_script.push_head.Goals as goal

pub returns : goal.returns
returns c =
    let o = c.args.out.now.items in
    let t = c.args.target.now in
    let number = decimal (length c.args.sizes.now + 2) in
    let marker = marker_key c.args.run.now.digits t.prefix.now in
    let eval = first_word o c.push_word.new.out.items (codes "EVAL") c.in_ok-push_word.ensures in
    let scripted = then_word o c.push_word.new.out.items c.push_word-2.new.out.items (codes "EVAL" ∷ []) script eval
    (word_as c.push_word-2.new.out.items c.push_word.new.out.items c.as_bytes.result.now script c.as_bytes.ensures.value c.in_ok-push_word-2.ensures) in
    let counted = then_word o c.push_word-2.new.out.items c.push_number.new.out.items (codes "EVAL" ∷ script ∷ []) number scripted c.in_ok-push_number.ensures in
    let marked = then_word o c.push_number.new.out.items c.push_word-3.new.out.items (codes "EVAL" ∷ script ∷ number ∷ []) marker counted
    (word_as c.push_word-3.new.out.items c.push_number.new.out.items c.deref.result.now marker
    (c.deref.ensures.value ∙ c.in_ok-marker.ensures) c.in_ok-push_word-3.ensures) in
    last_word c.push_word-4.result o c.push_word-3.new.out.items c.push_word-4.new.out.items (codes "EVAL" ∷ script ∷ number ∷ marker ∷ []) t.queue.now marked
    (ok_word_as c.push_word-4.result c.push_word-4.new.out.items c.push_word-3.new.out.items c.as_bytes-2.result.now t.queue.now c.as_bytes-2.ensures.value
    c.push_word-4.ensures)
