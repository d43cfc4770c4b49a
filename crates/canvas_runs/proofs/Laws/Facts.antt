-- The facts that a history needs of the worker of a plan: what its messages do, in order.
use Rattle.std.proofs.Common.{◌≡◌, ℕ, ◌+◌, true, List, [], ◌∷◌, ◌++◌, map, Some, None, refl, sym, ap, subst, ◌∙◌}
use Rattle.std.specs.Prelude.{if◌then◌else◌, Ok}
use Rattle.canvas_task.specs.Apply.{Behaviour}
use Rattle.canvas_task.specs.declared.outcome.Outcome.{Outcome}
use Rattle.canvas_semantics.specs.Line.{Line, count_line, members, size}
use Rattle.canvas_rewrite.specs.FrozenView.{PCarried}
use Rattle.canvas_rewrite.specs.Planned.{IsPlan}
use Rattle.canvas_envelope.specs.Content.{Content, number_of}
use Rattle.canvas_envelope.specs.declared.envelope.Envelope.{Envelope}
use Rattle.canvas_effects.specs.Effects as effects
use Rattle.canvas_effects.specs.Effects.{first_messages, effect_of, script}
use Rattle.canvas_effects.specs.Events as events
use Rattle.canvas_history.specs.Lists.{In, Each, firsts}
use Rattle.canvas_effects.specs.Events.{Event, start, running, end_of_line, completion}
use Rattle.canvas_effects.specs.Flowing.{no_input, run, after_outcome}
use Rattle.canvas_effects.specs.Job.{Job, store, publish, part}
use Rattle.canvas_runs.specs.Book.{book_of, message_known}
use Rattle.canvas_runs.specs.Protocol.{Protocol}
use Rattle.canvas_runs.specs.Worker.{worker, opened, known_one, read_envelope, sealed}
use Rattle.canvas_runs.proofs.Plans.Canvas as plan_facts
use Rattle.canvas_runs.proofs.Plans.Canvas.{Plan, messages_of}
use Rattle.canvas_runs.proofs.Plans.Carrying.{content, sent, all_sent, p_carried, items_of, both_sent, items_sent, ended_sent, completed_sent}
use Rattle.canvas_runs.proofs.Plans.Effects.{Jobs, called, enter, after, body_after, outcome_of}
use Rattle.canvas_runs.proofs.Plans.Ending.{EndsJob, plan_ends}
use Rattle.canvas_runs.proofs.Plans.Evaluation as evaluation
use Rattle.canvas_runs.proofs.Plans.FileOrder.{Formed, FormedPart}
use Rattle.canvas_runs.proofs.Plans.Messages.{nowhere, Carried, carried, Message, header}
use Rattle.canvas_runs.proofs.Plans.Knowing.{no_member_zero, message_is}
use Rattle.canvas_runs.proofs.Runs.Meaning.{Form, After, Beyond, Ordered, Evaluates, Has}
use Rattle.canvas_runs.proofs.Plans.Scripts.{ended_script, completed_script, first_sent}
use Rattle.canvas_runs.proofs.Plans.Sized.{SizedMessage, SizedJob, after_sized, body_sized, enter_sized, plan_sized}
use Rattle.canvas_runs.proofs.Plans.Trees.{AJob, items_followed}
use Rattle.canvas_runs.proofs.Plans.Whole.{from_kind}
use Rattle.canvas_runs.proofs.Lists.Words.{each_weaker, each_both, in_each}
use Rattle.canvas_runs.proofs.Plans.PlanLines.{plan_of}
use Rattle.canvas_runs.proofs.Plans.JobLists.{each_sent, in_map, map_in, each_script}

module _ (behaviour : Behaviour) (l : Line) (plan : IsPlan l) where
  abbrev pub X : Protocol Envelope
  X = worker behaviour l

  abbrev pub p : Plan
  p = plan_of l plan

  abbrev pub Formed' : Message → Type 0
  Formed' m = Formed p.members p.limit m × SizedMessage (size l) (members l) m

  abbrev pub FormedPart' : ℕ → ℕ → Carried → Type 0
  FormedPart' g t c = FormedPart p.members p.limit g t c × SizedJob (size l) (members l) (part g t c)

  abbrev pub form : Form X
  form = record {
    members = members l;
    first = first_messages l;
    Formed = λ c. (m : Message) × (c ≡ content m) × Formed' m;
    FormedPart = λ g t d. (c : Carried) × (d ≡ p_carried c) × FormedPart' g t c;
  }

  abbrev pub Does : Event → Job Content PCarried Outcome → Type 0
  Does v j = events.DoesIn behaviour l v j

  -- ---- what the evaluation does

  all_items : events.evaluated behaviour l ≡ items_of (evaluation.evaluated behaviour l)
  all_items = items_sent behaviour l (run no_input) nowhere 0 start

  pub does_back : (v : Event) (j : Job Content PCarried Outcome) → Does v j → (x : AJob) × (j ≡ sent x) × In (v, x) (evaluation.evaluated behaviour l)
  does_back v j i =
      let r = in_map both_sent (evaluation.evaluated behaviour l) (v, j) (subst (In (v, j)) all_items i) in
      let events_same : v ≡ r.0.0 = ap (λ q. q.0) r.1 in
      (r.0.1, ap (λ q. q.1) r.1, subst (λ w. In (w, r.0.1) (evaluation.evaluated behaviour l)) (sym events_same) r.2)

  pub does_on : (v : Event) (x : AJob) → In (v, x) (evaluation.evaluated behaviour l) → Does v (sent x)
  does_on v x i = subst (In (v, sent x)) (sym all_items) (map_in both_sent (evaluation.evaluated behaviour l) (v, x) i)

  store_back : (v : Event) (t : ℕ) (o : Outcome) (x : AJob) → store t o ≡ sent x → In (v, x) (evaluation.evaluated behaviour l)
      → In (v, store t o) (evaluation.evaluated behaviour l)
  store_back v t o (store u q) e i =
      let tasks : t ≡ u = cc in
      let outs : o ≡ q = cc in
      subst (λ w. In (v, store w o) (evaluation.evaluated behaviour l)) (sym tasks)
      (subst (λ w. In (v, store u w) (evaluation.evaluated behaviour l)) (sym outs) i)
  store_back v t o (publish m) e i = absurd cc
  store_back v t o (part g u c) e i = absurd cc

  pub stored : (v : Event) (t : ℕ) (o : Outcome) → Does v (store t o) → In (v, store t o) (evaluation.evaluated behaviour l)
  stored v t o i = let r = does_back v (store t o) i in store_back v t o r.0 r.1 r.2

  message_back : (v : Event) (c : Content) (x : AJob) → publish c ≡ sent x → In (v, x) (evaluation.evaluated behaviour l)
      → (m : Message) × (c ≡ content m) × In (v, publish m) (evaluation.evaluated behaviour l)
  message_back v c (publish m) e i = let same : c ≡ content m = cc in (m, same, i)
  message_back v c (store u q) e i = absurd cc
  message_back v c (part g u d) e i = absurd cc

  pub published : (v : Event) (c : Content) → Does v (publish c) → (m : Message) × (c ≡ content m) × In (v, publish m) (evaluation.evaluated behaviour l)
  published v c i = let r = does_back v (publish c) i in message_back v c r.0 r.1 r.2

  part_back : (v : Event) (g t : ℕ) (d : PCarried) (x : AJob) → part g t d ≡ sent x → In (v, x) (evaluation.evaluated behaviour l)
      → (c : Carried) × (d ≡ p_carried c) × In (v, part g t c) (evaluation.evaluated behaviour l)
  part_back v g t d (part h u c) e i =
      let groups : g ≡ h = cc in
      let tasks : t ≡ u = cc in
      let same : d ≡ p_carried c = cc in (
        c,
        same,
        subst (λ w. In (v, part w t c) (evaluation.evaluated behaviour l)) (sym groups)
            (subst (λ w. In (v, part h w c) (evaluation.evaluated behaviour l)) (sym tasks) i),
      )
  part_back v g t d (store u q) e i = absurd cc
  part_back v g t d (publish m) e i = absurd cc

  pub returned : (v : Event) (g t : ℕ) (d : PCarried) → Does v (part g t d)
      → (c : Carried) × (d ≡ p_carried c) × In (v, part g t c) (evaluation.evaluated behaviour l)
  returned v g t d i = let r = does_back v (part g t d) i in part_back v g t d r.0 r.1 r.2

  ends_there : (v : Event) (x : AJob) → In (v, x) (evaluation.evaluated behaviour l) → EndsJob x
  ends_there v x i = in_each (λ i. EndsJob i.1) (evaluation.evaluated behaviour l) (plan_ends behaviour (members l) l 1 p.limit p.numbered) (v, x) i

  -- ---- order

  later : (j : ℕ) (x : AJob) → After (plan_facts.X behaviour p) (plan_facts.form behaviour p) j x × SizedJob (size l) (members l) x → After X form j (sent x)
  later j (store t o) a = a.0
  later j (publish m) a = (a.0.0, (m, refl, (a.0.1, a.1)))
  later j (part g t c) a = (a.0.0, (c, refl, (a.0.1, a.1)))

  beyond : (g : ℕ) (x : AJob) → Beyond (plan_facts.X behaviour p) (plan_facts.form behaviour p) g x × SizedJob (size l) (members l) x → Beyond X form g (sent x)
  beyond g (store t o) a = a.0
  beyond g (publish m) a = (a.0.0, (m, refl, (a.0.1, a.1)))
  beyond g (part h t c) a = (a.0.0, (c, refl, (a.0.1, a.1)))

  first_formed : (js : Jobs) → Each (Formed p.members p.limit) (messages_of js) → Each (SizedJob (size l) (members l)) js
      → Each form.Formed (map content (messages_of js))
  first_formed [] f s = tt
  first_formed (store t o ∷ js) f s = first_formed js f s.1
  first_formed (publish m ∷ js) f s = ((m, refl, (f.0, s.0)), first_formed js f.1 s.1)
  first_formed (part g t c ∷ js) f s = first_formed js f s.1

  pub first_same : form.first ≡ map content (plan_facts.form behaviour p).first
  first_same = first_sent (members l) p.limit l p.numbered

  opened_back : (c : Content) → form.Formed c → read_envelope (sealed c) ≡ Ok c → opened (book_of l) (sealed c) ≡ Some c
  opened_back c (m, e, f) back = ap (known_one (book_of l)) back ∙ ap (λ b. if b then Some c else None) known
    where
      known : message_known (book_of l) c ≡ true
      known = subst (λ d. message_known (book_of l) d ≡ true) (sym e) (message_is (count_line l) (size l) (members l) (no_member_zero l plan) m f.0 f.1)

  ended_later : (c : Content) (o : Outcome) → form.Formed c → Each (After X form (number_of c.own)) (X.ended c o)
  ended_later c o (m, e, f) =
      subst (λ d. Each (After X form (number_of d.own)) (X.ended d o)) (sym e)
      (subst (Each (After X form m.no)) (sym (ended_script (members l) p.limit m o f.0))
      (each_sent (After X form m.no) (after m o) (each_weaker (later m.no) (after m o)
      (each_both (After (plan_facts.X behaviour p) (plan_facts.form behaviour p) m.no) (SizedJob (size l) (members l)) (after m o)
      ((plan_facts.order behaviour p).ended m o f.0) (after_sized (size l) (members l) m o f.1)))))

  completed_beyond : (g t : ℕ) (d : PCarried) (fs : List (ℕ × Outcome)) → form.FormedPart g t d → firsts fs ≡ members l g
      → Each (Beyond X form g) (X.completed d fs)
  completed_beyond g t d fs (c, e, f) same =
      subst (λ d. Each (Beyond X form g) (X.completed d fs)) (sym e)
      (subst (Each (Beyond X form g)) (sym (completed_script (members l) p.limit g t c fs f.0))
      (each_sent (Beyond X form g) (body_after c fs) (each_weaker (beyond g) (body_after c fs)
      (each_both (Beyond (plan_facts.X behaviour p) (plan_facts.form behaviour p) g) (SizedJob (size l) (members l)) (body_after c fs)
      ((plan_facts.order behaviour p).completed g t c fs f.0 same) (body_sized (size l) (members l) c fs f.1.1)))))

  p_carried_size : (c : Carried) → (p_carried c).size ≡ plan_facts.carried_size c
  p_carried_size (carried n body q) = refl

  pub order : Ordered X form
  order = record {
    first = subst (Each form.Formed) (sym first_same)
        (first_formed (enter l (run no_input) nowhere 0 None) (plan_facts.order behaviour p).first
        (enter_sized (size l) (members l) l (run no_input) nowhere 0 None (plan_sized l plan) tt));
    opened = opened_back;
    ended = ended_later;
    completed = completed_beyond;
    member = λ g t d f. (plan_facts.order behaviour p).member g t f.0 f.2.0;
    size = λ g t d f. ap (λ d. d.size) f.1 ∙ (p_carried_size f.0 ∙ (plan_facts.order behaviour p).size g t f.0 f.2.0);
    place = λ g i. refl;
  }

  -- ---- value

  -- each job of a message's end is done by it
  raw_ended : (m : Message) (v : Event) → In (v, publish m) (evaluation.evaluated behaviour l)
      → Each (Does (end_of_line m.no)) (X.ended (content m) (outcome_of behaviour m))
  raw_ended m v i =
      let o : Outcome = outcome_of behaviour m in
      let js : Jobs = called m.links m.errbacks m.no o ++ enter m.rest (after_outcome o) m.place m.no (Some m.no) in
      let does : Each (λ x. In (end_of_line m.no, x) (evaluation.evaluated behaviour l)) (after m o) =
      (items_followed behaviour l (run no_input) nowhere 0 start v m i).1 in
      subst (λ ks. Each (Does (end_of_line m.no)) (script (effect_of ks))) (sym (ended_sent m o (ends_there v (publish m) i)))
      (each_script (Does (end_of_line m.no)) (all_sent js) (each_sent (Does (end_of_line m.no)) js
      (each_weaker (λ x z. does_on (end_of_line m.no) x z) js (from_kind (λ x. In (end_of_line m.no, x) (evaluation.evaluated behaviour l)) js does))))

  raw_completed : (g t : ℕ) (c : Carried) (fs : List (ℕ × Outcome)) (v : Event) → In (v, part g t c) (evaluation.evaluated behaviour l)
      → firsts fs ≡ members l g
      → Each (λ f. Has (plan_facts.X behaviour p) (plan_facts.Does behaviour p) f.0 f.1) fs → Each (Does (completion g)) (X.completed (p_carried c) fs)
  raw_completed g t (carried n body q) fs v i same has =
      let js : Jobs = enter body (header fs) q 0 None in
      let does : Each (λ x. In (completion g, x) (evaluation.evaluated behaviour l)) (body_after (carried n body q) fs) =
      plan_facts.completed_does behaviour p g t (carried n body q) fs (v, i) same has in
      subst (λ ks. Each (Does (completion g)) (script (effect_of ks))) (sym (completed_sent n body q fs (ends_there v (part g t (carried n body q)) i)))
      (each_script (Does (completion g)) (all_sent js) (each_sent (Does (completion g)) js
      (each_weaker (λ x z. does_on (completion g) x z) js (from_kind (λ x. In (completion g, x) (evaluation.evaluated behaviour l)) js does))))

  first_does : (ms : List Message) → Each (λ m. In (start, publish m) (evaluation.evaluated behaviour l)) ms
      → Each (λ c. Does start (publish c)) (map content ms)
  first_does [] a = tt
  first_does (m ∷ ms) a = (does_on start (publish m) a.0, first_does ms a.1)

  pub value : Evaluates X Does form
  value = record {
    first = subst (Each (λ c. Does start (publish c))) (sym first_same) (first_does (plan_facts.form behaviour p).first (plan_facts.value behaviour p).first);
    own = λ c r. own c r.0 (published r.0 c r.1);
    ended = λ c f r. ended c r.0 (published r.0 c r.1);
    completed = λ g t d fs f r same has. completed g t d fs r.0 (returned r.0 g t d r.1) same has;
  }
    where
      own : (c : Content) (v : Event) → (m : Message) × (c ≡ content m) × In (v, publish m) (evaluation.evaluated behaviour l)
          → Does (running (number_of c.own)) (store (number_of c.own) (effects.outcome_of behaviour c))
      own c v (m, e, i) = subst (λ d. Does (running (number_of d.own)) (store (number_of d.own) (effects.outcome_of behaviour d))) (sym e)
          (does_on (running m.no) (store m.no (outcome_of behaviour m)) ((plan_facts.value behaviour p).own m (v, i)))

      ended : (c : Content) (v : Event) → (m : Message) × (c ≡ content m) × In (v, publish m) (evaluation.evaluated behaviour l)
          → Each (Does (end_of_line (number_of c.own))) (X.ended c (effects.outcome_of behaviour c))
      ended c v (m, e, i) = subst (λ d. Each (Does (end_of_line (number_of d.own))) (X.ended d (effects.outcome_of behaviour d))) (sym e) (raw_ended m v i)

      completed : (g t : ℕ) (d : PCarried) (fs : List (ℕ × Outcome)) (v : Event)
          → (c : Carried) × (d ≡ p_carried c) × In (v, part g t c) (evaluation.evaluated behaviour l) → firsts fs ≡ members l g
          → Each (λ f. Has X Does f.0 f.1) fs → Each (Does (completion g)) (X.completed d fs)
      completed g t d fs v (c, e, i) same has =
          subst (λ d. Each (Does (completion g)) (X.completed d fs)) (sym e)
          (raw_completed g t c fs v i same (each_weaker (λ f h. (h.0, stored h.0 f.0 f.1 h.1)) fs has))
