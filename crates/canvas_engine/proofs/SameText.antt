-- What a plan says of the canvas that it was made from.
use Rattle.std.proofs.Common.{◌≡◌, ℕ, List, Result, Ok, Err, IfOk, IfErr, String, Global, string_bytes, sym, ap, ◌∙◌, subst}
use Rattle.canvas_task.specs.Apply.{Behaviour}
use Rattle.canvas_task.specs.Text.{Text}
use Rattle.canvas_semantics.specs.NormalLine.{normal}
use Rattle.canvas_semantics.specs.Tree.{Tree, numbered}
use Rattle.canvas_semantics.specs.Evaluation.{State, nothing}
use Rattle.canvas_semantics.specs.Line.{Line, tree_of}
use Rattle.canvas_semantics.specs.Report.{report, report_of}
use Rattle.canvas_semantics.specs.SameMeaning.{IsSame}
use Rattle.canvas_semantics.specs.States.{states, rows_from}
use Rattle.canvas_semantics.proofs.RowNumbers.{states_in, states_listed}
use Rattle.canvas_semantics.proofs.SameReport.{same_report}
use Rattle.canvas_runs.specs.Redeliveries.{Entry}
use Rattle.canvas_engine.specs.Correct.{AreWorkers, IsAsked, IsWholeAgain}
use Rattle.canvas_history.specs.Callers.{told}
use Rattle.canvas_rewrite.specs.Planned.{IsPlan}
use Rattle.canvas_runs.specs.ProgramOrder.{program_order}
use Rattle.canvas_engine.specs.Evidence.{IsRun}
use Rattle.canvas_engine.specs.Headline.{Headline, OnlyWanted}
use Rattle.canvas_engine.specs.Texts.{IsPlanOfText, IsTextAgain, IsTextFault, IsTextRun}
use Rattle.canvas_engine.specs.steps.PlanTexts.{IsPlanFault}
use Rattle.canvas_engine.specs.declared.by_turns.fault.RunFault.{RunFault}
use Rattle.canvas_engine.specs.declared.threads.records.Records.{Records}
use Rattle.canvas_engine.specs.declared.text.TextFault.{TextFault}
use Rattle.canvas_engine.specs.declared.text.TextFault.TheVariants as a_fault

pub same_states : (behaviour : Behaviour) → (c : Tree) (all : Line) → IsSame (normal c) c → tree_of all ≡ numbered (normal c)
    → states behaviour (tree_of all) ≡ states behaviour (numbered c)
same_states behaviour c all h e = ap (states behaviour) e ∙ states_listed behaviour (normal c) ∙ ap (λ m. states_in m.rows) (h.means behaviour nothing)
    ∙ sym (states_listed behaviour c)

pub same_text : (behaviour : Behaviour) → (c : Tree) (all : Line) → IsSame (normal c) c → tree_of all ≡ numbered (normal c)
    → report_of (tree_of all) (rows_from 1 (states behaviour (tree_of all))) ≡ report behaviour c
same_text behaviour c all h e = ap (λ t. report_of t (rows_from 1 (states behaviour t))) e ∙ same_report behaviour c h

-- ---- what a text answers, by what its plan answers

module _ (behaviour : Behaviour) (bytes : Text) (c : Tree) (all : Line) (plan : IsPlanOfText bytes c all) where
  pub ran_recorded : (may_want : ℕ → ℕ → Type 0) (n : ℕ) (r : Result (String Global × Records) TextFault)
      → IfOk r (λ x. (AreWorkers n × IsPlan all) × (string_bytes x.0 ≡ report_of (tree_of all) (rows_from 1 (states behaviour (tree_of all))))
      × ((ran : IsRun behaviour all n (states behaviour (tree_of all)) x.1)
      × Headline behaviour all n (states behaviour (tree_of all)) x.1 (program_order ran.run))
      × OnlyWanted may_want (told x.1.pass))
      → IfOk r (λ x. IsTextRun behaviour may_want bytes n (string_bytes x.0) x.1)
  ran_recorded may_want n (Ok x) k = record {
    canvas = c;
    line = all;
    planned = plan;
    plan = k.0.1;
    workers = k.0.0;
    reported = k.1 ∙ same_text behaviour c all plan.same plan.tree;
    ran = k.2.0;
    headline = k.2.1;
    wanted = k.3;
  }
  ran_recorded may_want n (Err f) k = tt

  pub ran_again : (n : ℕ) (turns : List ℕ) (es : List Entry) (r : Result (String Global × ℕ) TextFault)
      → IfOk r (λ x. IsAsked n turns × (rows : List State) × (string_bytes x.0 ≡ report_of (tree_of all) (rows_from 1 rows))
      × IsWholeAgain behaviour all n turns es rows x.1)
      → IfOk r (λ x. IsTextAgain behaviour bytes n turns es (string_bytes x.0) x.1)
  ran_again n turns es (Ok x) k = record {
    canvas = c;
    line = all;
    planned = plan;
    asked = k.0;
    reported = k.2 ∙ ap (λ rows. report_of (tree_of all) (rows_from 1 rows)) k.3.are ∙ same_text behaviour c all plan.same plan.tree;
    ran = let P : List State → Type 0 = λ rows. IsWholeAgain behaviour all n turns es rows x.1 in subst P k.3.are k.3;
  }
  ran_again n turns es (Err f) k = tt

  pub ran_fault : {X : Type 0} (Says : List State → RunFault → Type 0) (r : Result X TextFault)
      → IfErr r (IsPlanFault (Says (states behaviour (tree_of all)))) → IfErr r (IsTextFault behaviour bytes Says)
  ran_fault Says (Ok text) k = tt
  ran_fault Says (Err (a_fault.Sig f)) k = absurd k
  ran_fault Says (Err (a_fault.Run f)) k = let P : List State → Type 0 = λ ss. Says ss f in
      (c, plan.text, subst P (same_states behaviour c all plan.same plan.tree) k)
  ran_fault Says (Err a_fault.Memory) k = tt
