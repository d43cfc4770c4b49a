use Rattle.std.proofs.Common.{rules, ◌≡◌, ◌∙◌, ℕ, cond, List, [], ◌∷◌, ◌++◌, map, length, sym, ap, ap₂}
use Rattle.std.proofs.lemmas.Bool.{eq-eqb}
use Rattle.canvas_task.specs.declared.outcome.Outcome.{Outcome}
use Rattle.canvas_rewrite.specs.FrozenView.{PCarried}
use Rattle.canvas_effects.specs.Effects.{body_after, script}
use Rattle.canvas_effects.specs.Todos.{todo_view}
use Rattle.canvas_envelope.specs.declared.envelope.Envelope.{Envelope}
use Rattle.canvas_history.specs.declared.stored.Stored.TheVariants.{Again}
use Rattle.canvas_runs.specs.Core.{settled, reads_next}
use Rattle.canvas_runs.specs.Protocol.{Protocol}
use Rattle.canvas_core.specs.EnvelopeWorker.{enclosed, by_place, no_tasks}
use Rattle.canvas_core.specs.Books.{no_book}
use Rattle.canvas_core.specs.Scripts.{jobs_of}
use Rattle.canvas_core.proofs.Cores.FoundMembers.{one_more}
use Rattle.canvas_core.proofs.Cores.Stores.{body_todo_stores}
use Rattle.canvas_core.proofs.stages.Reading.add.Goals as goal

pub into_body-requires-clause-outcomes : goal.into_body-requires-clause-outcomes
into_body-requires-clause-outcomes c =
    one_more c.args.self.found.items c.deref.result.now (c.args.task, c.args.outcome) (c.deref.ensures.value ∙ c.in_ok-push.ensures.items)
    c.args.self.numbers c.requires

pub read_next-requires-clause-in_range : goal.read_next-requires-clause-in_range
read_next-requires-clause-in_range c =
    one_more c.args.self.found.items c.push.new.self.items (c.args.task, c.args.outcome) c.in_ok-push.ensures.items c.args.self.numbers c.requires

pub script_of-requires : goal.script_of-requires
script_of-requires c = body_todo_stores c.args.self.chord c.deref.result.now (todo_view c.in_ok-todo.todo) c.in_ok-todo.ensures

pub returns-in_ok-script_of : goal.returns-in_ok-script_of
returns-in_ok-script_of c =
    let X : Protocol Envelope = by_place no_tasks no_book in
    let chord : PCarried = c.args.self.chord in
    let found : List (ℕ × Outcome) = c.args.self.found.items ++ (c.args.task, c.args.outcome) ∷ [] in
    let jobs : jobs_of c.in_ok-script_of.field-0 ≡ map enclosed (script (body_after chord found)) = search rules in
    let latest : c.in_ok-script_of.field-0.latest ≡ Again = search rules in
    let full : length found ≡ chord.size =
    ap (λ xs. length xs) (sym (c.deref.ensures.value ∙ c.in_ok-push.ensures.items))
    ∙ (c.deref.ensures.len ∙ (sym c.len.ensures ∙ (c.if-len-size_of.true ∙ c.size_of.ensures))) in (
      c.settle.ensures.0
          ∙ (ap₂ (λ js b. settled X js b) jobs latest
          ∙ sym (ap (λ z. cond z (settled X (X.completed chord found) Again) (reads_next X c.args.self.group chord found))
          (eq-eqb (length found) chord.size full))),
      c.settle.ensures.1,
    )
