use Rattle.std.proofs.Common.{◌∙◌, ◌++◌, ap, ap₂}
use Rattle.canvas_report.specs.Page.{escaped, page_of}
use Rattle.canvas_report.proofs.page.page_text.Goals as goal

pub returns : goal.returns
unfolding page_of
returns c =
    let before = c.in_ok-extend_from_slice.ensures.items ∙ ap₂ (λ x y. x ++ y) c.new-page.ensures.items c.as_bytes.ensures.value in
    let block = c.in_ok-push_escaped.ensures ∙ ap (λ x. x ++ escaped c.args.text.now) before in
    c.in_ok-extend_from_slice-2.ensures.items ∙ ap₂ (λ x y. x ++ y) block c.as_bytes-2.ensures.value
