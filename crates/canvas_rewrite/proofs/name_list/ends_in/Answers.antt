use Rattle.std.proofs.Common.{◌∙◌, sym}
use Rattle.std.proofs.lemmas.Slice.Eq.{bytes_eq-Decides}
use Rattle.canvas_rewrite.proofs.NameTexts.{last_is}
use Rattle.canvas_rewrite.proofs.name_list.ends_in.Goals as goal

pub returns-in-Some : goal.returns-in-Some
returns-in-Some c same =
    let alike = (bytes_eq-Decides c.as_str.result.now c.as_str-in-Some.result.now).0 (sym c.eq.ensures ∙ same) in
    let found = last_is c.args.texts.now c.in-Some.last.now c.in-Some.ensures.value in
    (found.0, found.1 ∙ sym c.get.ensures ∙ sym c.as_str.ensures.value ∙ alike ∙ c.as_str-in-Some.ensures.value ∙ c.get-in-Some.ensures)
