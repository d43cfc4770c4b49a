-- In every run a task's message is published after the ends of the tasks that it comes after.
use Rattle.std.proofs.Common.{◌≡◌, ◌⊎◌, ◌∙◌, ℕ, suc, ◌+◌, ◌≤◌, Bool, true, false, List, [], ◌∷◌, ◌++◌, Option, Some, refl, sym, ap, subst, inl, inr, arith}
use Rattle.std.specs.Prelude.{IsTrue}
use Rattle.canvas_task.specs.Apply.{Behaviour}
use Rattle.canvas_task.specs.declared.outcome.Fault.{Fault}
use Rattle.canvas_task.specs.declared.outcome.Outcome.{Outcome}
use Rattle.canvas_task.specs.declared.outcome.Outcome.TheVariants.{Failure}
use Rattle.canvas_semantics.specs.Evaluation.{nothing}
use Rattle.canvas_semantics.specs.Line.{Line, count_line, members}
use Rattle.canvas_rewrite.specs.Planned.{IsPlan}
use Rattle.canvas_envelope.specs.Content.{Content, number_of}
use Rattle.canvas_history.specs.History.{calls}
use Rattle.canvas_history.specs.Lists.{In}
use Rattle.canvas_history.specs.Roster.{is_member, roster_of}
use Rattle.canvas_history.specs.Table as table
use Rattle.canvas_history.specs.declared.stored.Stored.TheVariants.{First}
use Rattle.canvas_history.proofs.TableLaws as table_laws
use Rattle.canvas_report.specs.Fates.{Fates}
use Rattle.canvas_effects.specs.Events.{Event, start, running, end_of_line, completion}
use Rattle.canvas_effects.specs.Flowing.{no_input, run}
use Rattle.canvas_effects.specs.Job as job
use Rattle.canvas_ran.specs.Ran.{fates}
use Rattle.canvas_ran.proofs.RunLaw.{ran_is_run}
use Rattle.canvas_runs.specs.Causes.{Brought}
use Rattle.canvas_runs.specs.Run.{Run}
use Rattle.canvas_runs.proofs.Laws.Causes.{by_cause}
use Rattle.canvas_runs.proofs.Laws.Facts.{does_on, published, stored, value}
use Rattle.canvas_runs.proofs.Lists.Words.{in_each, in_left}
use Rattle.canvas_runs.proofs.Plans.Canvas.{keeping}
use Rattle.canvas_runs.proofs.Plans.Carrying.{content}
use Rattle.canvas_runs.proofs.Plans.Evaluation.{Items, evaluated}
use Rattle.canvas_runs.proofs.Plans.Knowing.{found as among_members}
use Rattle.canvas_runs.proofs.Plans.Messages.{nowhere, Message}
use Rattle.canvas_runs.proofs.Plans.PlanLines.{plan_numbered, plan_of}
use Rattle.canvas_runs.proofs.Runs.Meaning.{RunsNone}
use Rattle.canvas_ran.specs.CallLaws.{AfterEnds}
use Rattle.canvas_ran.specs.Fronts.{first_front, front_of, fronts, was_called}
use Rattle.canvas_ran.proofs.Called.FrontEvents.{Kept, Sound, items_sound}
use Rattle.canvas_ran.proofs.Called.FrontNumbers.{Numbered, called_ran, front_found, line_numbered, ran_called}
use Rattle.canvas_ran.proofs.Called.StoreCauses.{stored_by_cause}

cut_at : {A : Type 0} (xs : List A) (x : A) → In x xs → (before : List A) × (after : List A) × (xs ≡ before ++ x ∷ after)
cut_at [] x i = elim i [ ]
cut_at (y ∷ xs) x (inl e) = ([], xs, ap (λ z. z ∷ xs) (sym e))
cut_at (y ∷ xs) x (inr i) = let r = cut_at xs x i in (y ∷ r.0, r.1, ap (λ l. y ∷ l) r.2)

in_cut : {A : Type 0} (before after : List A) (x : A) → In x (before ++ x ∷ after)
in_cut [] after x = inl refl
in_cut (y ∷ before) after x = inr (in_cut before after x)

module _ (behaviour : Behaviour) (l : Line) (plan : IsPlan l) where
  abbrev all : Items
  all = evaluated behaviour l

  abbrev told : Fates
  told = fates behaviour l

  dense : suc (count_line l) ≤ 1 + count_line l
  dense = omega arith

  told_numbered : Numbered 1 told
  told_numbered = line_numbered behaviour (members l) l nothing 0 1 (suc (count_line l)) (plan_numbered l plan) dense

  called : (v : Event) (m : Message) → In (v, job.publish m) all → was_called told m.no ≡ true
  called v m i =
      ran_called (fates behaviour l) m.no told_numbered
      ((ran_is_run behaviour l plan).called m.no (content m, refl, (v, does_on behaviour l plan v (job.publish m) i)))

  once : (v w : Event) (k : ℕ) (o q : Outcome) → In (v, job.store k o) all → In (w, job.store k q) all → v ≡ w
  once v w k o q i j = (keeping behaviour (plan_of l plan)).event v w k o q i j

  uncalled : (v : Event) (k : ℕ) (f : Fault) → RunsNone v → In (v, job.store k (Failure f)) all → was_called told k ≡ false
  uncalled v k f none i = go (was_called (fates behaviour l) k) refl
    where
      go : (b : Bool) → was_called (fates behaviour l) k ≡ b → b ≡ false
      go false e = refl
      go true e =
          let ran = (ran_is_run behaviour l plan).published k (called_ran (fates behaviour l) k told_numbered e) in
          let own = (value behaviour l plan).own ran.0 ran.2 in
          let own_store = stored behaviour l plan (running (number_of ran.0.own)) (number_of ran.0.own) _ own in
          let same : v ≡ running (number_of ran.0.own) = once v (running (number_of ran.0.own)) (number_of ran.0.own) (Failure f) _
          (subst (λ n. In (v, job.store n (Failure f)) (evaluated behaviour l)) (sym ran.1) i) own_store in
          absurd (subst RunsNone same none)

  module _ (r : Run behaviour l) where
    abbrev Brings : Event → Type 0
    Brings v = (q : ℕ) × Brought l q r.table v

    abbrev Ended : ℕ → Type 0
    Ended k = (q : ℕ) × (o : Outcome) × In (calls q (table.store k o) (table.was First)) r.table

    by_end : (k : ℕ) → Brings (end_of_line k) → Ended k
    by_end k (q, stored) = (q, stored.0, stored.1)

    by_completion : (g : ℕ) → Brings (completion g) → (t : ℕ) → In t (members l g) → Kept all Brings Ended t
    by_completion g (p, (m, n, i, last)) t member =
        let cut = cut_at r.table (calls p (table.part g m) (table.count n)) i in
        let its : IsTrue (is_member (roster_of l) g t) = among_members t (members l g) member in
        let first = table_laws.all_first (roster_of l) r.table cut.0 cut.1 p g m n r.table_legal cut.2 last t its in
        let before = first.1 in
        let there : In (calls before.caller (table.store t first.0) (table.was First)) r.table =
        subst (In (calls before.caller (table.store t first.0) (table.was First))) (sym cut.2)
        (in_left cut.0 _ _ (subst (In (calls before.caller (table.store t first.0) (table.was First))) (sym before.is)
        (in_cut before.before before.rest (calls before.caller (table.store t first.0) (table.was First))))) in
        let why = stored_by_cause behaviour l plan r before.caller t first.0 First there in
        ((before.caller, first.0, there), first.0, why.0, stored behaviour l plan why.0 t first.0 why.1, because why.0 before.caller t why.2)
      where
        because : (v : Event) (q k : ℕ) → ((v ≡ running k) ⊎ Brought l q r.table v) → (v ≡ running k) ⊎ Brings v
        because v q k (inl e) = inl e
        because v q k (inr b) = inr (q, b)

    sound : Sound behaviour (members l) all told Brings Ended called uncalled once by_end by_completion all (fronts behaviour l) 1
    sound = items_sound behaviour (members l) all told Brings Ended called uncalled once by_end by_completion
        l (run no_input) nowhere 0 start first_front 1 (suc (count_line l)) (plan_numbered l plan) dense tt (λ y i. i) (λ h. tt)

    same_message : (c d : Content) → ◌≡◌ {A = Option Content} (Some c) (Some d) → c ≡ d
    same_message c d e = cc

    pub after_ends : AfterEnds behaviour l r
    after_ends p k e a c i opens after =
        let cause = by_cause behaviour l plan r p e a i in
        let same : cause.0 ≡ c = same_message cause.0 c (sym cause.3 ∙ opens) in
        let message = published behaviour l plan cause.1 cause.0 cause.4 in
        let number : number_of c.own ≡ message.0.no = ap (λ d. number_of d.own) (sym same ∙ message.1) in
        let its = sound cause.1 message.0 message.2 in
        let front : front_of (fronts behaviour l) (number_of c.own) ≡ its.0 =
        ap (front_of (fronts behaviour l)) number ∙ front_found (fronts behaviour l) message.0.no its.0 its.1 in
        in_each Ended its.0.after (its.2 (p, cause.5)) k (subst (λ f. In k f.after) front after)
