use Rattle.std.proofs.Common.{◌++◌, ◌∙◌, ap, string_bytes}
use Rattle.std.specs.Prelude.{codes}
use Rattle.json.specs.Print.{quoted}
use Rattle.canvas_task.specs.Identifiers.{task_text}
use Rattle.canvas_report.proofs.Pieces.{behind, last}
use Rattle.canvas_report.proofs.rows.push_blamed.Goals as goal

pub returns : goal.returns
returns c =
    let front = codes "{\"exc_message\":[" in
    let said = codes "Dependency " ++ task_text c.args.dep ++ codes " raised " ++ c.args.name.now in
    let quote = c.in_ok-push_quoted.ensures ∙ ap (λ x. string_bytes c.put.new.text ++ quoted x) (c.deref.ensures ∙ c.in_ok-said.ensures) in
    last _ (string_bytes c.args.text.now) _ _ (front ++ quoted said) (codes "],\"exc_type\":\"ChordError\"}")
    (behind (string_bytes c.args.text.now) _ _ front (quoted said) c.in_ok-put.ensures quote) c.put-2.ensures
