use Rattle.std.proofs.Common.{◌≡◌, ◌∙◌, ◌++◌, ◌∷◌, ◌+◌, [], drop, Some, ap, sym, rules, w64}
use Rattle.std.proofs.lemmas.Int.{to_z-of_z}
use Rattle.canvas_task.specs.declared.outcome.Fault.TheVariants as fault
use Rattle.canvas_task.specs.declared.outcome.Outcome.TheVariants.{Success, Failure}
use Rattle.canvas_semantics.specs.Evaluation.{gathered, list, raised}
use Rattle.canvas_ran.specs.steps.Flows.{in_front_of}
use Rattle.canvas_ran.proofs.Evaluated.Gathering.{over, after_success, after_none, at_failure, front_raised}
use Rattle.canvas_ran.proofs.evaluation.flow.gathered.Goals.{in-Some-Success+in_ok-push-in-Some-Success, in-None}
use Rattle.canvas_ran.proofs.evaluation.flow.gathered.Goals as goal

-- src/flow.rt:81:17
pub returns-in-Some-Failure : goal.returns-in-Some-Failure
returns-in-Some-Failure c =
    let l = c.loop-end in
    let f = c.in-Some-Failure.fault in
    let all = gathered c.args.ends.now in
    let one : c.end-item.result.1 ≡ Some c.in-Some-Failure.field-0 = c.in-Some-Failure.is in
    let failed : c.in-Some-Failure.field-0 ≡ Failure f = rw one at c.in-Some-Failure.field-0-is in
    let at = raised (fault.Chord c.end-item.result.0 c.why_of.result) in
    at_failure c.args.ends.now l.end-index l.numbers.items all l.invariant c.end-item.result c.loop-end-test.true c.end-item.is f at
    (one ∙ ap Some failed)
    (ap (λ w. raised (fault.Chord c.end-item.result.0 w)) (sym c.why_of.ensures))
    (front_raised l.numbers.items (fault.Chord c.end-item.result.0 c.why_of.result))

-- src/flow.rt:77:5
pub loop-end-preserved : goal.loop-end-preserved
loop-end-preserved c =
    let l = c.loop-end in
    let all = gathered c.args.ends.now in
    elim c.match-end.branch [
      | in-Some-Success+in_ok-push-in-Some-Success w ↦
          let n = w.in-Some-Success.number in
          let one : c.end-item.result.1 ≡ Some w.in-Some-Success.field-0 = w.in-Some-Success.is in
          let succeeded : w.in-Some-Success.field-0 ≡ Success n = rw one at w.in-Some-Success.field-0-is in
          ap (λ ns. in_front_of ns (gathered (drop (l.end-index + 1) c.args.ends.now)))
          (ap (λ v. v.items) w.numbers-is ∙ w.in_ok-push-in-Some-Success.ensures.items ∙ ap (λ z. l.numbers.items ++ z ∷ []) (to_z-of_z w64 n (search rules)))
          ∙ after_success c.args.ends.now l.end-index l.numbers.items all l.invariant c.end-item.result c.loop-end-test.true c.end-item.is n
          (one ∙ ap Some succeeded)
      | in-None w ↦
          ap (λ ns. in_front_of ns (gathered (drop (l.end-index + 1) c.args.ends.now))) (ap (λ v. v.items) w.numbers-is)
          ∙ after_none c.args.ends.now l.end-index l.numbers.items all l.invariant c.end-item.result c.loop-end-test.true c.end-item.is w.in-None.is
    ]

-- src/flow.rt:73:1
pub returns : goal.returns
returns c =
    ap list c.of.ensures
    ∙ (over c.args.ends.now c.loop-end.end-index c.loop-end.numbers.items (gathered c.args.ends.now) c.loop-end.invariant c.loop-end-test.false)
