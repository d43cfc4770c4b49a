use Rattle.std.proofs.Common.{◌∙◌, List, ℕ, sym, subst}
use Rattle.std.specs.Result.{OnOk}
use Rattle.std.specs.Io.KnownBytes.{Appends}
use Rattle.canvas_answer.proofs.Writes.{lines_as_they_are}
use Rattle.canvas_answer.proofs.printing.write_lines.Goals as goal

pub returns-then-are_lines : goal.returns-then-are_lines
returns-then-are_lines g c =
    let P : List ℕ → Type 0 = λ bs. OnOk c.write_all.result (Appends (g.W.Write.contents c.args.out.now) (g.W.Write.contents c.write_all.new.self) bs) in
    subst P (sym (lines_as_they_are c.args.bytes.now (sym c.are_lines.ensures ∙ c.if-are_lines.true))) c.write_all.ensures.bytes
