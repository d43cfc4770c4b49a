use Rattle.std.proofs.Common.{◌≡◌, ◌≤◌, arith, subst, rules}
use Rattle.std.specs.Prelude.{IfOk, string_bytes}
use Rattle.serde_json.specs.Data.{Data, null, depth}
use Rattle.serde_json.specs.declared.value.Value.TheVariants as value
use Rattle.serde_json.specs.declared.value.Value.TheFolds.{the_lemmas}
use Rattle.canvas_celery.specs.AsStored.{IsJsonOf}
use Rattle.serde_json.specs.Read.{max_depth}
use Rattle.serde_json.specs.View.{view}
use Rattle.canvas_celery.proofs.Collected.RowLemmas.{written}
use Rattle.canvas_celery.proofs.results.showing.json_text.Goals as goal

pub returns-in-Some : goal.returns-in-Some
returns-in-Some c =
    let low : depth (view c.in-Some.value.now) ≤ max_depth = rw c.in-Some.is at c.requires in
    rw c.in-Some.is (written c.to_string.result (view c.in-Some.value.now) low c.to_string.ensures.compact c.to_string.ensures.reads_back)

is_null : view value.Null ≡ null
is_null = search (rules, the_lemmas)

pub returns-in-None : goal.returns-in-None
returns-in-None c =
    let low : depth (view value.Null) ≤ max_depth = rw is_null (omega arith) in
    let J : Data → Type 0 = λ d. IfOk c.to_string-in-None.result (λ s. IsJsonOf (string_bytes s) d) in
    rw c.in-None.is
    (subst J is_null (written c.to_string-in-None.result (view value.Null) low c.to_string-in-None.ensures.compact c.to_string-in-None.ensures.reads_back))
