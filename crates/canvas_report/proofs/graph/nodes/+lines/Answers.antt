use Rattle.std.proofs.Common.{◌∙◌, ◌++◌, ◌∷◌, [], true, OnOk, ap, map, subst, string_bytes}
use Rattle.canvas_rewrite.specs.FrozenView.{task_in, line_in, end_in}
use Rattle.canvas_rewrite.specs.declared.frozen.FrozenEnd.{out-FrozenEnd}
use Rattle.canvas_report.specs.Ends.{firsts, member_lasts}
use Rattle.canvas_report.specs.Nodes.{Piece, looks, opens, closes, joints, line_pieces}
use Rattle.canvas_report.specs.steps.PieceLists.{Adds, tasks_pieces, lines_pieces, list_points, frame_pieces}
use Rattle.std.specs.Prelude.{List, option_map}
use Rattle.canvas_report.proofs.NodeParts.{nothing, after, after_ok, alike, line_none, line_some, frame_is, group_is, chord_is, rest_lines, no_line_left}
use Rattle.canvas_report.proofs.graph.nodes.+lines.Goals as goal

pub push_line-returns-in-None : goal.push_line-returns-in-None
push_line-returns-in-None t c =
    let at = looks c.args.seen.now.fates.now (option_map (λ rows. rows.now) c.args.seen.now.rows) in
    alike at _ _ _ _ (ap (λ ts. tasks_pieces (map task_in ts)) (c.deref.ensures.value ∙ c.get.ensures) ∙ line_none c.args.line.now c.in-None.is)
    c.in_ok-push_tasks.ensures

pub push_line-returns-in-Some : goal.push_line-returns-in-Some
push_line-returns-in-Some t c =
    let at = looks c.args.seen.now.fates.now (option_map (λ rows. rows.now) c.args.seen.now.rows) in
    let tasks = ap (λ ts. tasks_pieces (map task_in ts)) (c.deref.ensures.value ∙ c.get.ensures) in
    let end = ap (λ e. line_pieces (end_in e)) c.deref-in-Some.ensures in
    after_ok _ at (tasks_pieces (map task_in c.deref.result.now)) (line_pieces (end_in c.deref-in-Some.result.now)) _ _ _ _
    ((λ i. tasks i ++ end i) ∙ line_some c.args.line.now c.in-Some.end c.in-Some.is) c.in_ok-push_tasks.ensures c.push_end.ensures

pub push_end-returns-in-None : goal.push_end-returns-in-None
push_end-returns-in-None t c =
    let at = looks c.args.seen.now.fates.now (option_map (λ rows. rows.now) c.args.seen.now.rows) in
    let P : List Piece → Type 0 =
    λ ps. OnOk c.push_frame-in-None.result (Adds at ps (string_bytes c.args.text.now) (string_bytes c.push_frame-in-None.new.text)) in
    subst P (group_is c.args.end.now c.in-None.is) c.push_frame-in-None.ensures

pub push_end-returns-in_ok-push_joint-in-Some : goal.push_end-returns-in_ok-push_joint-in-Some
push_end-returns-in_ok-push_joint-in-Some t c =
    let at = looks c.args.seen.now.fates.now (option_map (λ rows. rows.now) c.args.seen.now.rows) in
    let frame = frame_pieces true (end_in c.args.end.now) in
    let joint = joints (out-FrozenEnd c.args.end.now).group (member_lasts (end_in c.args.end.now)) (firsts (line_in c.in-Some.body)) in
    after_ok _ at (frame ++ joint) (line_pieces (line_in c.in-Some.body)) _ _ _ _ (chord_is c.args.end.now c.in-Some.body c.in-Some.is)
    (after at frame joint _ _ _ c.in_ok-push_frame-in-Some.ensures (c.in_ok-push_joint-in-Some.ensures at)) c.push_line.ensures

pub push_frame-returns : goal.push_frame-returns
push_frame-returns t c =
    let at = looks c.args.seen.now.fates.now (option_map (λ rows. rows.now) c.args.seen.now.rows) in
    let g = (out-FrozenEnd c.args.end.now).group in
    let head = opens c.args.is_chord g ∷ [] in
    let points = ap (λ ls. list_points g (map line_in ls)) (c.deref.ensures.value ∙ c.get.ensures) in
    let lines = ap (λ ls. lines_pieces (map line_in ls)) (c.deref-2.ensures.value ∙ c.get-2.ensures) in
    after_ok _ at (head ++ list_points g (map line_in c.deref.result.now) ++ lines_pieces (map line_in c.deref-2.result.now)) (closes ∷ []) _ _ _ _
    ((λ i. head ++ points i ++ lines i ++ closes ∷ []) ∙ frame_is c.args.is_chord c.args.end.now)
    (after at (head ++ list_points g (map line_in c.deref.result.now)) (lines_pieces (map line_in c.deref-2.result.now)) _ _ _
    (after at head (list_points g (map line_in c.deref.result.now)) _ _ _ (c.in_ok-push_opening.ensures at) (c.in_ok-push_point.ensures at))
    c.in_ok-push_members.ensures)
    (c.push_closing.ensures at)

pub push_members-loop-member-init : goal.push_members-loop-member-init
push_members-loop-member-init t c = λ new h. h

pub push_members-loop-member-preserved : goal.push_members-loop-member-preserved
push_members-loop-member-preserved t c = λ new h.
    let at = looks c.args.seen.now.fates.now (option_map (λ rows. rows.now) c.args.seen.now.rows) in
    c.loop-member.invariant new
    (alike at _ _ _ _ (rest_lines c.args.members.now c.loop-member.member-index c.member-item.result c.loop-member-test.true c.member-item.is)
    (after at _ _ _ _ _ c.in_ok-push_line.ensures h))

pub push_members-returns : goal.push_members-returns
push_members-returns t c =
    let at = looks c.args.seen.now.fates.now (option_map (λ rows. rows.now) c.args.seen.now.rows) in
    c.loop-member.invariant (string_bytes c.loop-member.text)
    (alike at _ _ _ _ (no_line_left c.args.members.now c.loop-member.member-index c.loop-member-test.false) (nothing at (string_bytes c.loop-member.text)))
