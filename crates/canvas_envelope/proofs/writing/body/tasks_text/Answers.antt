use Rattle.std.proofs.Common.{◌∙◌, [], ◌∷◌, ap, map}
use Rattle.json.specs.Token.{begin_array}
use Rattle.serde_json.specs.Data.{array}
use Rattle.canvas_values.specs.steps.Tokens.{rest_tokens}
use Rattle.canvas_values.proofs.Written.Writers.{then_tokens, whole_text}
use Rattle.canvas_rewrite.specs.FrozenView.{p_tasks_of, p_task_view}
use Rattle.canvas_envelope.specs.Wire.{tasks_wire}
use Rattle.canvas_envelope.proofs.writing.body.tasks_text.Goals as goal

pub returns : goal.returns
returns c =
    let ds = tasks_wire (p_tasks_of (map p_task_view c.args.tasks.now)) in
    let begun = c.in_ok-begin_array.ensures in
    let all = then_tokens c.new-out.result c.begin_array.new.self c.write_tasks.new.out (begin_array ∷ []) (rest_tokens ds) (begun.ok, begun.room.0)
    c.in_ok-write_tasks.ensures in
    let whole = whole_text (array ds) c.new-out.result c.write_tasks.new.out c.into_inner.result.items
    (c.new-out.ensures.before ∙ c.in_ok-with_capacity.ensures.items) c.new-out.ensures.tokens all c.into_inner.ensures.items in
    let read = rw c.unwrap.ensures at c.from_utf8.ensures.ok in
    ap (λ v. v.items) read ∙ whole
