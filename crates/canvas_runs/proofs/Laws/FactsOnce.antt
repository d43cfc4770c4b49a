-- The facts that a history needs of the worker of a plan: what is done once, and by whom parts are
-- backed.
use Rattle.std.proofs.Common.{◌≡◌, ℕ, ◌+◌, ◌≤◌, cond, eqb, List, [], ◌∷◌, map, refl, sym, ap, subst, ◌∙◌}
use Rattle.canvas_task.specs.Apply.{Behaviour}
use Rattle.canvas_task.specs.declared.outcome.Outcome.{Outcome}
use Rattle.canvas_semantics.specs.Line.{Line, members}
use Rattle.canvas_rewrite.specs.FrozenView.{PCarried}
use Rattle.canvas_rewrite.specs.Planned.{IsPlan}
use Rattle.canvas_envelope.specs.Content.{Content, number_of}
use Rattle.canvas_envelope.specs.declared.envelope.Envelope.{Envelope}
use Rattle.canvas_effects.specs.Effects as effects
use Rattle.canvas_history.specs.Lists.{In, total, firsts}
use Rattle.canvas_effects.specs.Events.{Event}
use Rattle.canvas_effects.specs.Job.{Job, store, publish, part}
use Rattle.canvas_runs.specs.Protocol.{Protocol}
use Rattle.canvas_runs.proofs.Plans.Backing.{backs}
use Rattle.canvas_runs.proofs.Plans.Canvas as plan_facts
use Rattle.canvas_runs.proofs.Plans.Canvas.{Plan}
use Rattle.canvas_runs.proofs.Plans.Carrying.{content, all_sent}
use Rattle.canvas_runs.proofs.Plans.Effects.{Jobs, after, body_after, outcome_of}
use Rattle.canvas_runs.proofs.Plans.Evaluation as evaluation
use Rattle.canvas_runs.proofs.Plans.FileOrder.{Formed, FormedPart}
use Rattle.canvas_runs.proofs.Runs.Finish.{Backed, Backs}
use Rattle.canvas_runs.proofs.Plans.Messages.{Carried, Message, header}
use Rattle.canvas_runs.proofs.Runs.Meaning.{Form, Once, KeptOnce, publishes, keeps, names, Has}
use Rattle.canvas_runs.proofs.Plans.Scripts.{ended_script, completed_script}
use Rattle.canvas_runs.proofs.Plans.Trees.{AJob}
use Rattle.canvas_runs.proofs.Plans.PlanLines.{plan_of}
use Rattle.canvas_runs.proofs.Laws.Facts as facts

module _ (behaviour : Behaviour) (l : Line) (plan : IsPlan l) where
  abbrev X : Protocol Envelope
  X = facts.X behaviour l plan

  abbrev p : Plan
  p = plan_of l plan

  abbrev form : Form X
  form = facts.form behaviour l plan

  abbrev Does : Event → Job Content PCarried Outcome → Type 0
  Does = facts.Does behaviour l plan

  publishes_sent : (k : ℕ) (js : Jobs) → total (publishes X k) (all_sent js) ≡ total (publishes (plan_facts.X behaviour p) k) js
  publishes_sent k [] = refl
  publishes_sent k (store t o ∷ js) = ap (λ n. 0 + n) (publishes_sent k js)
  publishes_sent k (publish m ∷ js) = ap (λ n. cond (eqb m.no k) 1 0 + n) (publishes_sent k js)
  publishes_sent k (part g t c ∷ js) = ap (λ n. 0 + n) (publishes_sent k js)

  keeps_sent : (k : ℕ) (js : Jobs) → total (keeps X k) (all_sent js) ≡ total (keeps (plan_facts.X behaviour p) k) js
  keeps_sent k [] = refl
  keeps_sent k (store t o ∷ js) = ap (λ n. cond (eqb t k) 1 0 + n) (keeps_sent k js)
  keeps_sent k (publish m ∷ js) = ap (λ n. 0 + n) (keeps_sent k js)
  keeps_sent k (part g t c ∷ js) = ap (λ n. 0 + n) (keeps_sent k js)

  names_sent : (k : ℕ) (ms : List Message) → total (names X k) (map content ms) ≡ total (names (plan_facts.X behaviour p) k) ms
  names_sent k [] = refl
  names_sent k (m ∷ ms) = ap (λ n. cond (eqb m.no k) 1 0 + n) (names_sent k ms)

  -- a weight of the jobs of a message's end, or of a completed header
  end_weight : (w : Job Content PCarried Outcome → ℕ) (w' : AJob → ℕ) → ((js : Jobs) → total w (all_sent js) ≡ total w' js) → (c : Content) (o : Outcome)
      → form.Formed c
      → ((m : Message) → c ≡ content m → Formed p.members p.limit m → total w' (after m o) ≤ 1) → total w (X.ended c o) ≤ 1
  end_weight w w' same c o (m, e, f) small =
      subst (λ n. n ≤ 1) (sym (ap (λ d. total w (X.ended d o)) e ∙ (ap (total w) (ended_script (members l) p.limit m o f.0) ∙ same (after m o))))
      (small m e f.0)

  completion_weight : (w : Job Content PCarried Outcome → ℕ) (w' : AJob → ℕ) → ((js : Jobs) → total w (all_sent js) ≡ total w' js)
      → (g t : ℕ) (d : PCarried) (fs : List (ℕ × Outcome)) → form.FormedPart g t d
      → ((c : Carried) → FormedPart p.members p.limit g t c → total w' (body_after c fs) ≤ 1) → total w (X.completed d fs) ≤ 1
  completion_weight w w' same g t d fs (c, e, f) small =
      subst (λ n. n ≤ 1) (sym (ap (λ d. total w (X.completed d fs)) e
      ∙ (ap (total w) (completed_script (members l) p.limit g t c fs f.0) ∙ same (body_after c fs)))) (small c f.0)

  outcome_same : (c : Content) (m : Message) → c ≡ content m → effects.outcome_of behaviour c ≡ outcome_of behaviour m
  outcome_same c m e = ap (effects.outcome_of behaviour) e

  pub once : Once X Does form
  once = record {
    event = λ e f c d i j same. event e f c d (facts.published behaviour l plan e c i) (facts.published behaviour l plan f d j) same;
    message = λ e f c d i j same. message e f c d (facts.published behaviour l plan e c i) (facts.published behaviour l plan f d j) same;
    at_start = λ k. subst (λ n. n ≤ 1) (sym (ap (total (names X k)) (facts.first_same behaviour l plan) ∙ names_sent k (plan_facts.form behaviour p).first))
        ((plan_facts.once behaviour p).at_start k);
    at_end = λ k c f. end_weight (publishes X k) (publishes (plan_facts.X behaviour p) k) (publishes_sent k) c (effects.outcome_of behaviour c) f
        (λ m e g. subst (λ o. total (publishes (plan_facts.X behaviour p) k) (after m o) ≤ 1) (sym (outcome_same c m e))
        ((plan_facts.once behaviour p).at_end k m g));
    at_completion = λ k g t d fs f same. completion_weight (publishes X k) (publishes (plan_facts.X behaviour p) k) (publishes_sent k) g t d fs f
        (λ c h. (plan_facts.once behaviour p).at_completion k g t c fs h same);
  }
    where
      event : (e f : Event) (c d : Content) → (m : Message) × (c ≡ content m) × In (e, publish m) (evaluation.evaluated behaviour l)
          → (m : Message) × (d ≡ content m) × In (f, publish m) (evaluation.evaluated behaviour l)
          → number_of c.own ≡ number_of d.own → e ≡ f
      event e f c d (m, a, i) (n, b, j) same =
          (plan_facts.once behaviour p).event e f m n i j (sym (ap (λ c. number_of c.own) a) ∙ (same ∙ ap (λ c. number_of c.own) b))

      message : (e f : Event) (c d : Content) → (m : Message) × (c ≡ content m) × In (e, publish m) (evaluation.evaluated behaviour l)
          → (m : Message) × (d ≡ content m) × In (f, publish m) (evaluation.evaluated behaviour l)
          → number_of c.own ≡ number_of d.own → c ≡ d
      message e f c d (m, a, i) (n, b, j) same =
          a ∙ (ap content ((plan_facts.once behaviour p).message e f m n i j (sym (ap (λ c. number_of c.own) a) ∙ (same ∙ ap (λ c. number_of c.own) b)))
          ∙ sym b)

  pub keeping : KeptOnce X Does form
  keeping = record {
    event = λ e f t o q i j. (plan_facts.keeping behaviour p).event e f t o q (facts.stored behaviour l plan e t o i) (facts.stored behaviour l plan f t q j);
    at_end = λ k c f. end_weight (keeps X k) (keeps (plan_facts.X behaviour p) k) (keeps_sent k) c (effects.outcome_of behaviour c) f
        (λ m e g. subst (λ o. total (keeps (plan_facts.X behaviour p) k) (after m o) ≤ 1) (sym (outcome_same c m e))
        ((plan_facts.keeping behaviour p).at_end k m g));
    at_completion = λ k g t d fs f same. completion_weight (keeps X k) (keeps (plan_facts.X behaviour p) k) (keeps_sent k) g t d fs f
        (λ c h. (plan_facts.keeping behaviour p).at_completion k g t c fs h same);
  }

  pub one_outcome : (t : ℕ) (o q : Outcome) → Has X Does t o → Has X Does t q → o ≡ q
  one_outcome t o q a b = plan_facts.one_outcome behaviour p t o q (a.0, facts.stored behaviour l plan a.0 t o a.1)
      (b.0, facts.stored behaviour l plan b.0 t q b.1)

  -- ---- backs

  backed_sent : (us : List ℕ) (js : Jobs) → Backed (plan_facts.X behaviour p) us js → Backed X us (all_sent js)
  backed_sent us [] b = tt
  backed_sent us (store t o ∷ js) b = backed_sent (t ∷ us) js b
  backed_sent us (publish m ∷ js) b = backed_sent us js b
  backed_sent us (part g t c ∷ js) b = (b.0, ap all_sent b.1)

  pub its_backs : Backs X form
  its_backs = record { ended = λ c o f. ended c o f; completed = λ g t d fs f same. completed g t d fs f same }
    where
      ended : (c : Content) (o : Outcome) → form.Formed c → Backed X (number_of c.own ∷ []) (X.ended c o)
      ended c o (m, e, f) =
          subst (λ d. Backed X (number_of d.own ∷ []) (X.ended d o)) (sym e)
          (subst (Backed X (m.no ∷ [])) (sym (ended_script (members l) p.limit m o f.0))
          (backed_sent (m.no ∷ []) (after m o) ((backs behaviour p).ended m o f.0)))

      completed : (g t : ℕ) (d : PCarried) (fs : List (ℕ × Outcome)) → form.FormedPart g t d → firsts fs ≡ members l g → Backed X [] (X.completed d fs)
      completed g t d fs (c, e, f) same =
          subst (λ d. Backed X [] (X.completed d fs)) (sym e)
          (subst (Backed X []) (sym (completed_script (members l) p.limit g t c fs f.0))
          (backed_sent [] (body_after c fs) ((backs behaviour p).completed g t c fs f.0 same)))
