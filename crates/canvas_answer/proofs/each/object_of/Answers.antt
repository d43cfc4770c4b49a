use Rattle.std.proofs.Common.{◌∙◌, ap, map, inr, [], ◌∷◌}
use Rattle.std.proofs.lemmas.List.{map-append}
use Rattle.std.proofs.lemmas.Result.{IfOk-weaker}
use Rattle.canvas_answer.proofs.each.object_of.Goals as goal

pub returns-in-Some : goal.returns-in-Some
returns-in-Some c =
    let parts = ap (map (λ line. line.now)) c.in-Some.ensures.cases.0 ∙ map-append (λ line. line.now) c.in-Some.rows.now (c.in-Some.canvas.now ∷ []) in
    IfOk-weaker c.object_line.result _ _
    (λ object e. inr (map (λ line. line.now) c.in-Some.rows.now, c.in-Some.canvas.now.now, parts, e))
    c.object_line.ensures
