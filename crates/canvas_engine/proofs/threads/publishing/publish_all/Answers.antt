use Rattle.std.proofs.Common.{rules, ◌≡◌, ◌∷◌, None, sym, subst}
use Rattle.std.specs.Vec.Iter.{into_iter_items}
use Rattle.canvas_history.specs.History.{calls}
use Rattle.canvas_history.specs.Queue.{publish}
use Rattle.canvas_history.specs.Passes.{Stands}
use Rattle.canvas_runs.specs.Following.{Makes}
use Rattle.canvas_runs.specs.Run.{published_all}
use Rattle.canvas_engine.proofs.threads.publishing.publish_all.Goals as goal

pub loop-envelope-preserved : goal.loop-envelope-preserved
loop-envelope-preserved g c =
    let items : into_iter_items c.loop-envelope.envelope-iterator ≡ c.in-Some.envelope ∷ into_iter_items c.next.new.self = search rules in
    let stands : Stands c.loop-envelope.pass (calls c.loop-envelope.pass.name (publish c.in-Some.envelope) None) c.publish.new.pass = search rules in (
      tt,
      tt,
      search rules,
      λ p m. c.loop-envelope.invariant.3 p (subst (λ es. Makes c.loop-envelope.pass (published_all es) p) (sym items) (c.publish.new.pass, stands, m)),
    )
