use Rattle.std.proofs.Common.{◌∷◌, ◌++◌, [], map, sym}
use Rattle.std.proofs.lemmas.List.{append-nil}
use Rattle.canvas_adapt.specs.Raising.{other_error}
use Rattle.canvas_answer.specs.Stubbing.{error_said}
use Rattle.canvas_answer.proofs.Numbering.{kept_added, one_added, one_numbered}
use Rattle.canvas_answer.proofs.numbers.add_numbers.Goals as goal

pub loop-text-init : goal.loop-text-init
loop-text-init c = (
  [],
  [],
  tt,
  sym (append-nil c.args.answers.now.renames.items),
  sym (append-nil c.args.answers.now.stubs.items),
  sym (append-nil (map error_said c.args.answers.now.errors.items)),
)

pub loop-text-preserved : goal.loop-text-preserved
loop-text-preserved c =
    let had = c.loop-text.invariant in
    let got = c.in_ok-add_number.ensures in (
      had.0 ++ got.0 ∷ [],
      had.1 ++ got.1 ∷ [],
      one_numbered c.args.stands.now c.args.texts.now c.loop-text.text-index _ had.0 had.1 got.0 got.1 c.loop-text-test.true had.2 got.2,
      one_added c.add_number.new.answers.renames.items c.loop-text.answers.renames.items c.args.answers.now.renames.items had.0 (got.0 ∷ []) got.3 had.3,
      one_added c.add_number.new.answers.stubs.items c.loop-text.answers.stubs.items c.args.answers.now.stubs.items had.1 (got.1 ∷ []) got.4 had.4,
      kept_added (λ t. t.now) other_error c.args.texts.now c.loop-text.text-index _ (map error_said c.add_number.new.answers.errors.items)
          (map error_said c.loop-text.answers.errors.items) (map error_said c.args.answers.now.errors.items) c.loop-text-test.true got.5 had.5,
    )
