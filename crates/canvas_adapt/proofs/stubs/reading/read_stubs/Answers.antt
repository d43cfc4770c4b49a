use Rattle.std.proofs.Common.{◌+◌, drop, ap, sym, ◌∙◌}
use Rattle.canvas_adapt.specs.StubTexts.{stubs_from}
use Rattle.canvas_adapt.proofs.Stubbing.Folds.{read, text_at, next_text, one_more}
use Rattle.canvas_adapt.proofs.stubs.reading.read_stubs.Goals as goal

pub loop-before-preserved : goal.loop-before-preserved
loop-before-preserved c =
    let k = c.loop-before.before in
    let texts = c.args.texts.now in
    let stubs = c.loop-before.stubs.items in
    let left = read (drop (k + 1) texts) in
    sym (one_more k stubs c.add_text.new.stubs.items (text_at texts k) left c.in-Ok.ensures.ok)
    ∙ ap (stubs_from k stubs) (sym (next_text texts k c.loop-before-test.true)) ∙ c.loop-before.invariant
