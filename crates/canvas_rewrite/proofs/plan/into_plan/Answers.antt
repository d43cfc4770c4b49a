use Rattle.std.proofs.Common.{◌≡◌, ◌∙◌, ◌<◌, ◌^◌, ◌++◌, All, length, ap, sym, subst, arith}
use Rattle.canvas_semantics.specs.Line.{Line, count_line, line_groups, number_line, group_entries, ends_of, tree_of}
use Rattle.canvas_semantics.specs.PlacedLine.{bare, strip}
use Rattle.canvas_rewrite.specs.FrozenView.{line_of, line_in}
use Rattle.canvas_rewrite.specs.Planned.{IsPlan}
use Rattle.canvas_rewrite.specs.Runnable.{IsRunnable}
use Rattle.canvas_rewrite.specs.Utf8.{IsUtf8Line}
use Rattle.canvas_rewrite.proofs.Members.{entries_few}
use Rattle.canvas_rewrite.proofs.NormalRuns.{runs_numbered}
use Rattle.canvas_rewrite.proofs.Utf8Lines.{line_numbered}
use Rattle.canvas_semantics.proofs.Numbered.{strip_bare, count_numbered, groups_numbered, tree_numbered, count_elements, groups_elements}
use Rattle.canvas_semantics.proofs.Renumbered.{again}
use Rattle.canvas_rewrite.proofs.plan.into_plan.Goals as goal

pub freeze_line-requires : goal.freeze_line-requires
freeze_line-requires c =
    let l = line_of c.args.line in
    (omega arith, omega arith, omega (arith, c.requires.few_tasks, count_elements l), omega (arith, c.requires.few_groups, groups_elements l))

-- the line as it is kept
kept_plan : (l f : Line) → f ≡ number_line 1 1 l → IsRunnable (tree_of l) → IsPlan f
kept_plan l f same ok = record {
  numbered = ap (number_line 1 1) same ∙ again l 1 1 1 1 ∙ sym same;
  runnable = subst IsRunnable (sym (tree_numbered l) ∙ sym (ap tree_of same)) (runs_numbered (tree_of l) ok);
}

pub of-requires : goal.of-requires
of-requires c =
    let l = line_of c.args.line in
    let frozen = line_in c.in_ok-frozen.frozen in
    let same : frozen ≡ number_line 1 1 l = ap strip c.in_ok-frozen.ensures.value ∙ strip_bare (number_line 1 1 l) in
    let pushed : c.push_groups.new.groups.items ≡ group_entries frozen =
    c.in_ok-push_groups.ensures ∙ ap (λ gs. gs ++ group_entries frozen) c.in_ok-groups.ensures.items in
    subst (λ ts. All (λ t. length t.members < 2 ^ 32) ts) (sym pushed) (entries_few frozen (kept_plan l frozen same c.requires))

pub invariant_of-result : goal.invariant_of-result
invariant_of-result c =
    let l = line_of c.args.line in
    let frozen = c.in_ok-frozen.frozen in
    let same : line_in frozen ≡ number_line 1 1 l = ap strip c.in_ok-frozen.ensures.value ∙ strip_bare (number_line 1 1 l) in
    let counted : count_line (line_in frozen) ≡ count_line l = ap count_line same ∙ count_numbered l 1 1 in
    let groups_counted : line_groups (line_in frozen) ≡ line_groups l = ap line_groups same ∙ groups_numbered l 1 1 in
    record {
      placeless = c.in_ok-frozen.ensures.value ∙ ap bare (sym same);
      planned = kept_plan l (line_in frozen) same c.requires;
      utf8 = subst IsUtf8Line (sym same) (line_numbered l 1 1 c.in_ok-frozen.ensures.utf8);
      counted = omega (arith, counted, c.in_ok-frozen.ensures.task);
      groups_counted = omega (arith, groups_counted, c.in_ok-frozen.ensures.group);
      named = c.in_ok-names_of.ensures;
      grouped = c.in_ok-of.ensures ∙ c.in_ok-push_groups.ensures ∙ ap (λ gs. gs ++ group_entries (line_in frozen)) c.in_ok-groups.ensures.items;
      ended = c.in_ok-push_ends.ensures ∙ ap (λ es. es ++ ends_of (line_in frozen)) c.new-ends.ensures.items;
      listed = c.is_in_group-list.ensures;
    }

pub returns-clause-line : goal.returns-clause-line
returns-clause-line c = ap strip c.in_ok-frozen.ensures.value ∙ strip_bare (number_line 1 1 (line_of c.args.line))

pub returns-clause-tree : goal.returns-clause-tree
returns-clause-tree c = ap tree_of (ap strip c.in_ok-frozen.ensures.value ∙ strip_bare (number_line 1 1 (line_of c.args.line)))
    ∙ tree_numbered (line_of c.args.line)

pub returns-clause-utf8 : goal.returns-clause-utf8
returns-clause-utf8 c =
    let l = line_of c.args.line in
    let same : line_in c.in_ok-frozen.frozen ≡ number_line 1 1 l =
    ap strip c.in_ok-frozen.ensures.value ∙ strip_bare (number_line 1 1 l) in
    subst IsUtf8Line (sym same) (line_numbered l 1 1 c.in_ok-frozen.ensures.utf8)
