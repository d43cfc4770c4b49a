use Rattle.std.proofs.Common.{◌≡◌, ◌∙◌, ◌++◌, ℕ, String, Global, ap, sym, codes, string_bytes, rules}
use Rattle.canvas_report.specs.RowTexts.{blamed_text, shown_text}
use Rattle.canvas_report.specs.declared.row.Row.TheVariants.{Blamed}
use Rattle.canvas_answer.proofs.evaluated.is_same_row.Goals as goal

blamed_alike : (d e : ℕ) (a b : String Global) → d ≡ e → string_bytes a ≡ string_bytes b → shown_text (Blamed d a) ≡ shown_text (Blamed e b)
blamed_alike d e a b dep name = λ i. codes "\"result\":" ++ blamed_text (dep i) (name i) ++ codes ",\"status\":\"" ++ codes "FAILURE"

pub returns-then-eq : goal.returns-then-eq
returns-then-eq c = λ same.
    let at = c.in-Blamed-Blamed in
    let named : string_bytes at.name ≡ string_bytes at.other = search rules in
    let numbered : at.dep ≡ at.task = search rules in
    ap shown_text at.is-0 ∙ blamed_alike at.dep at.task at.name at.other numbered named ∙ sym (ap shown_text at.is-1)
