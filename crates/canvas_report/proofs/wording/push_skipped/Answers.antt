use Rattle.std.proofs.Common.{◌≡◌, ◌++◌, ℕ, OnOk, subst, string_bytes}
use Rattle.std.specs.Prelude.{codes, decimal}
use Rattle.canvas_report.proofs.wording.push_skipped.Goals as goal

pub returns : goal.returns
returns c =
    let P : ℕ → Type 0 =
    λ k. OnOk c.push_due.result (string_bytes c.push_due.new.text ≡ string_bytes c.args.text.now ++ (codes " (not called, due to #" ++ decimal k ++ codes ")")) in
    subst P c.get.ensures.value c.push_due.ensures
