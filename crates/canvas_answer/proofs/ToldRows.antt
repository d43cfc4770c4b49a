-- The rows that show the states of a run and the classes of its exceptions, and their texts.
use Rattle.std.proofs.Common.{◌≡◌, ◌∙◌, ◌==◌, ℕ, true, List, [], length, Option, None, String, Global, sym, subst}
use Rattle.std.proofs.lemmas.Bool.{eqb-true}
use Rattle.std.proofs.lemmas.List.{nil_from_length}
use Rattle.canvas_task.specs.Apply.{Behaviour}
use Rattle.canvas_task.specs.Text.{Text}
use Rattle.canvas_semantics.specs.Evaluation.{State}
use Rattle.canvas_semantics.specs.Line.{Line, tree_of}
use Rattle.canvas_semantics.specs.Report.{report_of}
use Rattle.canvas_semantics.specs.States.{rows_from, states}
use Rattle.canvas_adapt.specs.declared.stubs.stub.Stub.{Stub}
use Rattle.canvas_ran.specs.Ran.{fates}
use Rattle.canvas_ran.specs.Seen.{seen_fates}
use Rattle.canvas_report.specs.Fates.{Fates}
use Rattle.canvas_report.specs.JsonRows.{parameter_of}
use Rattle.canvas_report.specs.declared.row.Row.{Row}
use Rattle.canvas_report.proofs.RowLaws.{rows_written}
use Rattle.canvas_answer.specs.Asking.{Asking}
use Rattle.canvas_answer.specs.Blamed.{AreBlames, blames}
use Rattle.canvas_answer.specs.OnCelery.{IsStoredText}
use Rattle.canvas_answer.specs.Raised.{class_of, own_class, AreShown}
use Rattle.canvas_answer.specs.Told.{IsJsonOf, IsReportText, IsTold, IsUntoldText, known_states}
use Rattle.canvas_answer.specs.declared.errors.OtherError.{OtherError}
use Rattle.canvas_answer.specs.declared.reporting.Format.{Format}
use Rattle.canvas_answer.specs.declared.reporting.Format.TheVariants.{Plain, Json, Explained}
use Rattle.canvas_answer.proofs.ShownRows.{all_show, known_said, plain_shown, seen_at}

pub none_of : {X : Type 0} (xs : List X) → (length xs == 0) ≡ true → xs ≡ []
none_of xs h = nil_from_length xs (eqb-true _ 0 h)

-- no stub raises another class
pub plain_rows : (stubs : List Stub) (errors : List OtherError) (fs : Fates) (l : Line) (ss : List State) → (length errors == 0) ≡ true
    → AreShown (class_of fs (own_class stubs errors l)) ss (known_states ss)
plain_rows stubs errors fs l ss none =
    subst (λ es. AreShown (class_of fs (own_class stubs es l)) ss (known_states ss)) (sym (none_of errors none)) (plain_shown stubs fs l ss)

-- of a run with these fates and states, which are those of evaluation
pub told_json : (its : Asking) (run shown : Line) (behaviour : Behaviour) (fs : Fates) (ss : List State) (blamed : List (ℕ × Option (String Global)))
    (again : Option ℕ) (text : Text) → fs ≡ fates behaviour run → ss ≡ states behaviour (tree_of run)
    → AreBlames (blames its.stubs fs ss run) blamed
    → ((rows : List Row) × AreShown (class_of fs (own_class its.stubs its.errors run)) ss rows × IsJsonOf fs blamed again rows (tree_of shown) text)
    → IsTold its run shown behaviour Json again text
told_json its run shown behaviour fs ss blamed again text f s b h = (
  h.0,
  subst (λ xs. AreShown (class_of (fates behaviour run) (own_class its.stubs its.errors run)) xs h.0) s
      (subst (λ gs. AreShown (class_of gs (own_class its.stubs its.errors run)) ss h.0) f h.1),
  (
    blamed,
    b ∙ (λ i. blames its.stubs (f i) (s i) run),
    subst (λ gs. IsJsonOf gs blamed again h.0 (tree_of shown) text) f h.2,
  ),
)

pub told_plain : (its : Asking) (run shown : Line) (behaviour : Behaviour) (ss : List State) (again : Option ℕ) (text : Text)
    → (length its.errors == 0) ≡ true → ss ≡ states behaviour (tree_of run) → text ≡ report_of (tree_of shown) (rows_from 1 ss)
    → IsTold its run shown behaviour Plain again text
told_plain its run shown behaviour ss again text none s h = (
  known_states ss,
  subst (λ xs. AreShown (class_of (fates behaviour run) (own_class its.stubs its.errors run)) xs (known_states ss)) s
      (plain_rows its.stubs its.errors (fates behaviour run) run ss none),
  known_said (tree_of shown) ss text h,
)

-- ---- of a run that ended early

untold : (form : Format) (l : Line) (f : ℕ → Option Text) (ss : List State) (rows : List Row) (text : Text) → AreShown f ss rows
    → IsStoredText form l rows text → IsUntoldText form rows (tree_of l) text
untold Plain l f ss rows text shows h = h.0
untold Json l f ss rows text shows h =
    let all = all_show f ss rows shows in
    (seen_at rows, all, h ∙ rows_written [] (parameter_of []) None (tree_of l) rows (seen_at rows) all)
untold Explained l f ss rows text shows h = h

pub stored_told : (its : Asking) (run shown l : Line) (form : Format) (fs : Fates) (ss : List State) (rows : List Row) (text : Text)
    → fs ≡ seen_fates (rows_from 1 ss) l → l ≡ run → AreShown (class_of fs (own_class its.stubs its.errors run)) ss rows
    → IsStoredText form shown rows text → IsReportText its run shown form ss text
stored_told its run shown l form fs ss rows text seen is shows h =
    let own : ℕ → Option Text = own_class its.stubs its.errors run in
    let early = subst (λ m. AreShown (class_of (seen_fates (rows_from 1 ss) m) own) ss rows) is
    (subst (λ gs. AreShown (class_of gs own) ss rows) seen shows) in
    (rows, early, untold form shown (class_of (seen_fates (rows_from 1 ss) run) own) ss rows text early h)
