use Rattle.std.proofs.Common.{◌≡◌, ◌∙◌, ◌<◌, ◌++◌, [], ◌∷◌, drop, length, arith, refl, sym, ap, append-nil, subst}
use Rattle.std.proofs.lemmas.List.{drop_all}
use Rattle.std.specs.Io.KnownBytes.{Appends}
use Rattle.canvas_celery.proofs.Exported.Written.{nothing_yet, more}
use Rattle.canvas_answer.specs.Letters.{message_lines}
use Rattle.canvas_answer.specs.Printing.{printed}
use Rattle.canvas_answer.proofs.Lines.{next_line}
use Rattle.canvas_answer.proofs.Writes.{lines_as_they_are}
use Rattle.canvas_answer.proofs.output.write_letters.Goals as goal

pub loop-letter-init : goal.loop-letter-init
loop-letter-init g c = ([], nothing_yet (g.W.Write.contents c.args.out.now), refl)

pub loop-letter-preserved : goal.loop-letter-preserved
loop-letter-preserved g c =
    let es = c.args.letters.now in
    let i = c.loop-letter.letter-index in
    let e = c.letter-item.result in
    let inside : i < length es = omega (arith, c.loop-letter-test.true) in
    let (bytes, written, rest) = c.loop-letter.invariant in (
      bytes ++ printed (message_lines (e ∷ [])),
      more (g.W.Write.contents c.args.out.now) (g.W.Write.contents c.loop-letter.out) (g.W.Write.contents c.write_letter.new.out) bytes _ written
          c.in_ok-write_letter.ensures.line,
      next_line es i e _ bytes _ inside (sym c.letter-item.is) c.in_ok-write_letter.ensures.text rest,
    )

pub returns : goal.returns
returns g c =
    let es = c.args.letters.now in
    let (bytes, written, rest) = c.loop-letter.invariant in
    let none : drop c.loop-letter.letter-index es ≡ [] = drop_all c.loop-letter.letter-index es (omega (arith, c.loop-letter-test.false)) in
    let all = sym (append-nil bytes) ∙ ap (λ ys. bytes ++ ys) (sym (lines_as_they_are [] refl))
    ∙ ap (λ xs. bytes ++ printed (message_lines xs)) (sym none) ∙ rest in
    subst (λ bs. Appends (g.W.Write.contents c.args.out.now) (g.W.Write.contents c.loop-letter.out) bs) all written
