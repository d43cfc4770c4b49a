use Rattle.std.proofs.Common.{◌≡◌, ◌∙◌, ◌==◌, ℕ, Option, Some, None, refl}
use Rattle.std.specs.Option.{option_eq}
use Rattle.canvas_backend.specs.steps.Homes.{is_home}
use Rattle.canvas_backend.proofs.Homes.{has_home, no_home}
use Rattle.canvas_backend.proofs.roster.Roster.is_member.Goals as goal

same_home : (h : Option ℕ) (g : ℕ) → option_eq (λ a b. a == b) h (Some g) ≡ is_home h g
same_home None g = refl
same_home (Some h) g = refl

pub returns-in-Some : goal.returns-in-Some
returns-in-Some c =
    let found = c.in-Some.ensures.lookup in
    c.eq.ensures ∙ same_home c.in-Some.home.now c.args.group
    ∙ has_home _ c.args.self.now c.self.inside.homes c.deref.result.now c.args.group c.args.task c.get-2.result
    c.self.invariant.1 c.self.view_is (c.deref.ensures.value ∙ c.get.ensures) c.get-2.ensures.value c.get-2.ensures.least
    c.in-Some.home.now found.3.0 found.1

pub returns-in-None : goal.returns-in-None
returns-in-None c =
    no_home _ c.args.self.now c.self.inside.homes c.deref.result.now c.args.group c.args.task c.get-2.result
    c.self.invariant.1 c.self.view_is (c.deref.ensures.value ∙ c.get.ensures) c.get-2.ensures.value c.get-2.ensures.least
    c.in-None.ensures.lookup.3
