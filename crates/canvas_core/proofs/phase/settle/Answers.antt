use Rattle.std.proofs.Common.{◌≡◌, ◌∙◌, [], refl, sym, map}
use Rattle.std.specs.Prelude.{option_map}
use Rattle.std.proofs.lemmas.List.{nil_from_length}
use Rattle.canvas_effects.specs.Effects.{part_jobs}
use Rattle.canvas_effects.specs.Todos.{part_view}
use Rattle.canvas_core.specs.EnvelopeWorker.{enclosed}
use Rattle.canvas_core.specs.Phases.{left_of}
use Rattle.canvas_core.proofs.Cores.Settling.{store_first, publish_first, part_first}
use Rattle.canvas_core.proofs.phase.settle.Goals as goal

pub returns-in-Some : goal.returns-in-Some
returns-in-Some c =
    let s = c.args.script in (
      store_first (map enclosed (part_jobs (option_map part_view s.part))) s.latest _ s.stores.items c.pop_front.new.self.items
          s.publishes.items c.in-Some.ensures.items,
      refl,
    )

pub returns-in-Some-pop_front : goal.returns-in-Some-pop_front
returns-in-Some-pop_front c =
    let s = c.args.script in
    let none : s.stores.items ≡ [] = nil_from_length s.stores.items (sym s.stores.ok.0 ∙ c.in_default.ensures.cases.0) in (
      publish_first (map enclosed (part_jobs (option_map part_view s.part))) s.latest c.in-Some-pop_front.field-0
          s.stores.items c.pop_front.new.self.items s.publishes.items c.pop_front-2.new.self.items
          none (sym c.in_default.ensures.items ∙ none) c.in-Some-pop_front.ensures.items,
      refl,
    )

pub returns-in-None : goal.returns-in-None
returns-in-None c =
    let s = c.args.script in (
      part_first (map enclosed (part_jobs (option_map part_view s.part))) s.latest s.stores.items s.publishes.items (left_of c.part_or_ack.result)
          (nil_from_length s.stores.items (sym s.stores.ok.0 ∙ c.in_default.ensures.cases.0))
          (nil_from_length s.publishes.items (sym s.publishes.ok.0 ∙ c.in-None.ensures.cases.0)) c.part_or_ack.ensures.0,
      c.part_or_ack.ensures.1,
    )
