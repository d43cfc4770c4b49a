use Rattle.std.proofs.Common.{◌≡◌, sym, ◌∙◌, arith, true, false}
use Rattle.std.specs.Str.{bytes_eq}
use Rattle.std.proofs.lemmas.Slice.Eq.{bytes_eq-Decides}
use Rattle.canvas_sig.proofs.Parsed.{found_at, later_at}
use Rattle.canvas_sig.proofs.datum.member.Goals as goal

pub returns-then-are_same : goal.returns-then-are_same
returns-then-are_same c =
    let l = c.loop-member in
    let m = c.member-item.result in
    let name = c.args.name.now in
    let same : name ≡ m.0.now = sym ((bytes_eq-Decides m.0.now name).0 (grind arith)) in
    sym (l.invariant ∙ found_at name c.args.members.now l.member-index m _ (omega (arith, c.loop-member-test.true)) (sym c.member-item.is) same)

pub loop-member-preserved : goal.loop-member-preserved
loop-member-preserved c =
    let l = c.loop-member in
    let m = c.member-item.result in
    let name = c.args.name.now in
    let other : bytes_eq m.0.now name ≡ false = grind arith in
    l.invariant ∙ later_at name c.args.members.now l.member-index m _ (omega (arith, c.loop-member-test.true)) (sym c.member-item.is)
    (λ e. let same : bytes_eq m.0.now name ≡ true = (bytes_eq-Decides m.0.now name).1 (sym e) in absurd cc)
