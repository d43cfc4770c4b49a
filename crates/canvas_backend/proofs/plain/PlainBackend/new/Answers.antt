use Rattle.std.proofs.Common.{◌≡◌, ◌∙◌, ℕ, List, None, false, length, replicate, sym, subst, ap, arith}
use Rattle.std.proofs.lemmas.List.{length-replicate}
use Rattle.canvas_rewrite.proofs.InOrder.{entries_length}
use Rattle.canvas_backend.specs.declared.row.Row.{Row}
use Rattle.canvas_history.specs.Roster.{Roster}
use Rattle.canvas_backend.specs.Plain.{held}
use Rattle.canvas_backend.specs.steps.Counts.{AreCounts}
use Rattle.canvas_backend.proofs.PlainViews.{plain_view, none_held, counts_none}
use Rattle.canvas_backend.proofs.plain.PlainBackend.new.Goals as goal

pub invariant_of-result : goal.invariant_of-result
invariant_of-result c =
    let plan = c.in_ok-roster.roster in
    let rows : c.in_ok-rows.rows.items ≡ replicate c.tasks.result (record { outcome = None; returned = false }) =
    c.in_ok-rows.ensures.items_if_clones_equal (λ y same. same) in
    let counts : c.in_ok-counts.counts.items ≡ replicate c.groups.result 0 =
    c.in_ok-counts.ensures.items_if_clones_equal (λ y same. same) in
    let many : c.groups.result ≡ length plan.groups =
    omega (arith, c.groups.ensures, entries_length c.args.plan.now, ap (λ (r : Roster). length r.groups) c.in_ok-roster.ensures) in (
      c.tasks.ensures.sound,
      ap length rows ∙ (length-replicate c.tasks.result _ ∙ c.tasks.ensures.value),
      subst (λ (z : List Row × List ℕ). AreCounts (plain_view plan z.0) z.1) (λ j. (sym rows j, sym counts j))
          (counts_none plan c.tasks.result c.groups.result many),
    )

pub returns-clause-empty : goal.returns-clause-empty
returns-clause-empty c =
    let rows : c.in_ok-rows.rows.items ≡ replicate c.tasks.result (record { outcome = None; returned = false }) =
    c.in_ok-rows.ensures.items_if_clones_equal (λ y same. same) in
    ap (λ (z : List Row). held (plain_view c.in_ok-roster.roster z)) rows ∙ none_held c.in_ok-roster.roster c.tasks.result
