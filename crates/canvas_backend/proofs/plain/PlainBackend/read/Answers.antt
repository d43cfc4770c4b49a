use Rattle.std.proofs.Common.{◌≡◌, ◌-◌, ℕ, suc, arith}
use Rattle.canvas_backend.proofs.PlainViews.{row_inside, row_read, read_there}
use Rattle.canvas_backend.proofs.plain.PlainBackend.read.Goals as goal

pub index-requires : goal.index-requires
index-requires c =
    omega (arith, row_inside c.args.self.now _ _ c.args.task c.get.result c.self.view_is c.self.invariant.1 c.get.ensures.value c.get.ensures.least c.requires)

pub returns : goal.returns
returns c =
    let i : ℕ = c.get.result - 1 in
    let at : c.args.task ≡ suc i = omega (arith, c.get.ensures.value, c.get.ensures.least) in
    let there = row_read c.args.self.now _ _ c.args.task i _ c.self.view_is c.self.invariant.1 at c.requires c.index.ensures in
    read_there c.args.self.now _ _ c.args.task i _ c.self.view_is at there
