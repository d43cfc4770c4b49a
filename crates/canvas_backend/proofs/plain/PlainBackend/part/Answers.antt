use Rattle.std.proofs.Common.{◌≡◌, ◌-◌, ◌∙◌, ℕ, suc, length-set, arith}
use Rattle.canvas_backend.proofs.PlainViews.{places_inside, part_fits, part_done}
use Rattle.canvas_backend.proofs.plain.PlainBackend.part.Goals as goal

pub overflow_add-count : goal.overflow_add-count
overflow_add-count c =
    let k : ℕ = c.get.result - 1 in
    let i : ℕ = c.get-2.result - 1 in
    let to : c.args.group ≡ suc k = omega (arith, c.get.ensures.value, c.get.ensures.least) in
    let at : c.args.task ≡ suc i = omega (arith, c.get-2.ensures.value, c.get-2.ensures.least) in
    let few = part_fits _ _ _ _ c.args.group c.args.task k i _ c.self.view_is c.self.invariant.0 c.self.invariant.2 to at c.requires.member.1 c.requires.free c.index-count.ensures in
    omega (arith, few)

pub invariant_of-self : goal.invariant_of-self
invariant_of-self c =
    let k : ℕ = c.get.result - 1 in
    let i : ℕ = c.get-2.result - 1 in
    let to : c.args.group ≡ suc k = omega (arith, c.get.ensures.value, c.get.ensures.least) in
    let at : c.args.task ≡ suc i = omega (arith, c.get-2.ensures.value, c.get-2.ensures.least) in
    let done = part_done _ _ _ _ c.args.group c.args.task k i _ c.self.view_is c.self.invariant.0 c.self.invariant.2 to at c.requires.member.1 c.requires.free c.index-count.ensures c.index_mut-2.result.now c.self.invariant.1 c.index_mut-2.ensures.value in
    (c.self.invariant.0, length-set _ _ _ ∙ c.self.invariant.1, done.0)

pub returns : goal.returns
returns c =
    let k : ℕ = c.get.result - 1 in
    let i : ℕ = c.get-2.result - 1 in
    let to : c.args.group ≡ suc k = omega (arith, c.get.ensures.value, c.get.ensures.least) in
    let at : c.args.task ≡ suc i = omega (arith, c.get-2.ensures.value, c.get-2.ensures.least) in
    (part_done _ _ _ _ c.args.group c.args.task k i _ c.self.view_is c.self.invariant.0 c.self.invariant.2 to at c.requires.member.1 c.requires.free c.index-count.ensures c.index_mut-2.result.now c.self.invariant.1 c.index_mut-2.ensures.value).1

pub index-count-requires : goal.index-count-requires
index-count-requires c =
    omega (
      arith,
      (places_inside c.args.self.now _ _ _ c.args.group c.args.task c.get.result c.get-2.result c.self.view_is c.self.invariant.0
          c.self.invariant.2 c.self.invariant.1 c.requires.member.1 c.get.ensures.value c.get.ensures.least c.get-2.ensures.value c.get-2.ensures.least).0,
    )

pub index_mut-requires : goal.index_mut-requires
index_mut-requires c =
    omega (
      arith,
      (places_inside c.args.self.now _ _ _ c.args.group c.args.task c.get.result c.get-2.result c.self.view_is c.self.invariant.0
          c.self.invariant.2 c.self.invariant.1 c.requires.member.1 c.get.ensures.value c.get.ensures.least c.get-2.ensures.value c.get-2.ensures.least).0,
    )

pub index_mut-requires-2 : goal.index_mut-requires-2
index_mut-requires-2 c =
    omega (
      arith,
      (places_inside c.args.self.now _ _ _ c.args.group c.args.task c.get.result c.get-2.result c.self.view_is c.self.invariant.0
          c.self.invariant.2 c.self.invariant.1 c.requires.member.1 c.get.ensures.value c.get.ensures.least c.get-2.ensures.value c.get-2.ensures.least).1,
    )
