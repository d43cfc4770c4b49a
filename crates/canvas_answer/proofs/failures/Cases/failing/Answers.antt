use Rattle.std.proofs.Common.{◌≡◌, ◌∙◌, ◌∷◌, ap, sym, subst, codes}
use Rattle.std.proofs.lemmas.Result.{IfOk-weaker}
use Rattle.canvas_adapt.specs.Renamed.{renamed}
use Rattle.canvas_adapt.specs.Stubs.{stubs_behaviour}
use Rattle.canvas_answer.specs.Asking.{asked_of}
use Rattle.canvas_answer.specs.Cases.{IsEvaluated, first_of, numbered_word}
use Rattle.canvas_answer.specs.Plans.{IsPlanOf, run_line}
use Rattle.canvas_answer.specs.Stubbing.{IsNumbered}
use Rattle.canvas_answer.specs.steps.First.{IsFailed}
use Rattle.canvas_answer.proofs.failures.Cases.failing.Goals as goal

pub returns : goal.returns
returns g c =
    let self = c.args.self.now in
    let before = c.args.ready.answers in
    let behaviour = g.T.Tasks.behaviour self.tasks.now in
    let its = asked_of self.adapts before in
    let plans = c.in_ok-plans.plans in
    let after = c.put_first.new.answers in
    let (r, s, x, numbered, named, classed, put) = c.in_ok-put_first.ensures in
    let text : c.deref.result.now ≡ numbered_word c.args.task self.word.now =
    c.deref.ensures ∙ c.in_ok-text.ensures ∙ ap (λ n. numbered_word n self.word.now) c.get.ensures.value in
    let asked : asked_of self.adapts after ≡ first_of s r x its =
    λ i. record { adapts = self.adapts; stubs = put.stubs i; errors = put.errors i; renames = put.renames i } in
    let renames = c.deref-2.ensures.value ∙ put.renames in
    IfOk-weaker c.evaluated.result _ _
    (λ e h.
    let told = subst (λ a. IsEvaluated a (stubs_behaviour after.stubs.items behaviour) (run_line plans) plans.shown e.0) asked h.1 in
    let stubbed = subst (λ ss. IsEvaluated (first_of s r x its) (stubs_behaviour ss behaviour) (run_line plans) plans.shown e.0) put.stubs told in
    subst (λ q. IsFailed its behaviour self.word.now self.canvas c.args.ready.plans.shown c.args.task before e.0 q) (sym h.0)
    record {
      stub = s;
      rename = r;
      error = x;
      fails = record {
        said = subst (λ t. IsNumbered (codes "NotRegistered") t r s) text numbered;
        name = named;
        class = λ class is. classed ∙ c.class_in.ensures class is;
      };
      put = put;
      same = c.in_ok-plans.ensures.shown;
      runs = λ plan. subst (λ rs. IsPlanOf (renamed rs self.canvas) (run_line plans)) renames (c.in_ok-plans.ensures.run plan);
      told = subst (λ l. IsEvaluated (first_of s r x its) (stubs_behaviour (s ∷ its.stubs) behaviour) (run_line plans) l e.0)
          c.in_ok-plans.ensures.shown stubbed;
    })
    c.evaluated.ensures
