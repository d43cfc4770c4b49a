use Rattle.std.proofs.Common.{◌≡◌, ◌≢◌, ℕ, ap, arith}
use Rattle.canvas_history.specs.Table.{Results}
use Rattle.canvas_surface.proofs.surface.table.counts_plain.Goals as goal

pub completes_plain-first-requires : goal.completes_plain-first-requires
completes_plain-first-requires c = ap (λ (s : Results). s.returned c.task-two.result) c.requires

pub completes_plain-second-requires : goal.completes_plain-second-requires
completes_plain-second-requires c =
    let one : ℕ = c.task-one.result in
    let apart : one ≢ c.task-two.result = λ same. omega (arith, c.task-one.ensures, c.task-two.ensures, same) in
    c.keeps_plain-is_kept.ensures one
    (c.completes_plain-first.ensures one apart (ap (λ (s : Results). s.returned one) c.requires))

pub completes_plain-third-requires : goal.completes_plain-third-requires
completes_plain-third-requires c =
    let three : ℕ = c.task-three.result in
    let apart : three ≢ c.task-two.result = λ same. omega (arith, c.task-three.ensures, c.task-two.ensures, same) in
    let further : three ≢ c.task-one.result = λ same. omega (arith, c.task-three.ensures, c.task-one.ensures, same) in
    c.completes_plain-second.ensures three further
    (c.keeps_plain-is_kept.ensures three
    (c.completes_plain-first.ensures three apart (ap (λ (s : Results). s.returned three) c.requires)))
