use Rattle.std.proofs.Common.{◌∙◌, ◌++◌, map, ap, sym, rules, refl, true, false}
use Rattle.canvas_semantics.specs.Line.{group_entries}
use Rattle.canvas_rewrite.specs.FrozenView.{line_in, end_in}
use Rattle.canvas_semantics.specs.steps.Numbering.{lines_ends}
use Rattle.canvas_rewrite.proofs.PlanLines.{entries_none, entries_some, ok_same, chord_pushed, group_pushed}
use Rattle.canvas_rewrite.proofs.groups.+groups.Goals as goal

pub push_group-returns-in_ok-push_all_groups-in-Some : goal.push_group-returns-in_ok-push_all_groups-in-Some
push_group-returns-in_ok-push_all_groups-in-Some t c =
    ok_same _ _ _ _ (chord_pushed c.args.end.now c.in-Some.body c.in-Some.is (record { chord = true; members = c.of.result }) _ _ _ _ _ refl
    (c.of.ensures ∙ c.in_ok-push_all.ensures ∙ ap (λ es. es ++ lines_ends (map line_in c.deref.result.now)) c.new-members.ensures.items)
    (c.deref.ensures.value ∙ c.get.ensures)
    c.in_ok-push-in-Some.ensures.items c.in_ok-push_all_groups-in-Some.ensures (c.deref-in-Some.ensures.value ∙ c.get-in-Some.ensures)) c.push_groups.ensures

pub push_group-returns-in_ok-push-in-None : goal.push_group-returns-in_ok-push-in-None
push_group-returns-in_ok-push-in-None t c =
    ok_same _ _ _ _ (group_pushed c.args.end.now c.in-None.is (record { chord = false; members = c.of-in-None.result }) _ _ _ _ refl
    (c.of-in-None.ensures ∙ c.in_ok-push_all.ensures ∙ ap (λ es. es ++ lines_ends (map line_in c.deref.result.now)) c.new-members.ensures.items)
    (c.deref.ensures.value ∙ c.get.ensures)
    c.in_ok-push-in-None.ensures.items (c.deref-in-None.ensures.value ∙ c.get-in-None.ensures)) c.push_all_groups-in-None.ensures

pub push_groups-returns-in-Some : goal.push_groups-returns-in-Some
push_groups-returns-in-Some t c =
    ok_same _ _ _ _ (ap (λ es. c.args.groups.now.items ++ es) (ap (λ e. group_entries (end_in e)) c.deref.ensures
    ∙ sym (entries_some c.args.line.now c.in-Some.end c.in-Some.is))) c.push_group.ensures

pub push_groups-returns-in-None : goal.push_groups-returns-in-None
push_groups-returns-in-None t c = search (rules, entries_none c.args.line.now c.in-None.is)
