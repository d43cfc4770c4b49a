-- Whatever event publishes a task's message, or ends a member of a header, what comes right before has ended where the event was brought about.
use Rattle.std.proofs.Common.{⊎_elim, ◌≡◌, ◌⊎◌, ◌∙◌, ℕ, suc, ◌+◌, ◌≤◌, Bool, true, false, true≢false, List, [], ◌∷◌, ◌++◌, length, refl, sym, ap, ap₂, subst, inl, inr, arith}
use Rattle.std.specs.Prelude.{if◌then◌else◌}
use Rattle.canvas_task.specs.Apply.{Behaviour}
use Rattle.canvas_task.specs.declared.outcome.Fault.{Fault}
use Rattle.canvas_task.specs.declared.outcome.Outcome.{Outcome}
use Rattle.canvas_task.specs.declared.outcome.Outcome.TheVariants.{Success, Failure}
use Rattle.canvas_semantics.specs.FileOrder.{TaskIn, TasksIn, EndsInTask}
use Rattle.canvas_semantics.specs.Line.{Line, stop, step, group_end, chord_end, Lines, no_lines, and_line, count_line, count_lines, no_of}
use Rattle.canvas_semantics.specs.Tree.{Task, task, Tasks, no_tasks, and_task, count_task, count_tasks}
use Rattle.canvas_history.specs.Lists.{In, Each}
use Rattle.canvas_report.specs.Fates.{Fates}
use Rattle.canvas_effects.specs.Events.{Event, running, end_of_line, completion, chosen, input_of_success, parent_of}
use Rattle.canvas_effects.specs.Flowing.{Input, id_input, LineFlow, run, skips, raise, after_outcome}
use Rattle.canvas_effects.specs.Job.{store, publish, part}
use Rattle.canvas_runs.proofs.Lists.Words.{each_append, in_append_cases, in_left, in_right}
use Rattle.canvas_runs.proofs.Plans.Effects.{at_stop, message, outcome_of}
use Rattle.canvas_runs.proofs.Plans.Evaluation.{Items, labelled, joined, header_place, body_event, result, outs, ran, ran_all, items, items_all}
use Rattle.canvas_runs.proofs.Plans.FileOrder.{LineIn, LinesIn}
use Rattle.canvas_runs.proofs.Plans.Messages.{Place, nowhere, in_group, in_chord, errbacks_of, last_from, last_of, lasts, Message}
use Rattle.canvas_runs.proofs.Plans.Trees.{AJob, joined_raise}
use Rattle.canvas_runs.proofs.Runs.Meaning.{RunsNone}
use Rattle.canvas_ran.specs.Fronts.{at_end, behind, beyond, line_end, line_fronts, lines_end, lines_fronts, or_else, own_end, task_fronts, tasks_fronts, was_called}
use Rattle.canvas_ran.specs.declared.calls.front.Front.{Front}
use Rattle.canvas_ran.proofs.Called.FrontNumbers.{FrontAt, front_left, front_right, line_length, line_room, lines_length, lines_room, task_length, task_room, tasks_length, tasks_room}

-- ---- the ends of a line, by what is before it

abbrev IsSome : List ℕ → Type 0
IsSome [] = ⊥
IsSome (k ∷ ks) = Unit {0}

or_some : (ks before : List ℕ) → IsSome before → IsSome (or_else ks before)
or_some [] before s = s
or_some (k ∷ ks) before s = tt

nil_left : (xs ys : List ℕ) → xs ++ ys ≡ [] → xs ≡ []
nil_left [] ys e = refl
nil_left (x ∷ xs) ys e = absurd (cc)

module _ (fates : Fates) where
  own_called : (k : ℕ) (before : List ℕ) → was_called fates k ≡ true → own_end fates k before ≡ k ∷ []
  own_called k before e = ap (λ b. if b then k ∷ [] else before) e

  own_uncalled : (k : ℕ) (before : List ℕ) → was_called fates k ≡ false → own_end fates k before ≡ before
  own_uncalled k before e = ap (λ b. if b then k ∷ [] else before) e

  after_called : (k : ℕ) (f : Front) → was_called fates k ≡ true → (behind fates k f).after ≡ k ∷ []
  after_called k f e = ap (λ b. (if b then at_end k else f).after) e

  behind_uncalled : (k : ℕ) (f : Front) → was_called fates k ≡ false → behind fates k f ≡ f
  behind_uncalled k f e = ap (λ b. if b then at_end k else f) e

  own_some : (k : ℕ) (before : List ℕ) → IsSome before → IsSome (own_end fates k before)
  own_some k before s = go (was_called fates k)
    where
      go : (b : Bool) → IsSome (if b then k ∷ [] else before)
      go true = tt
      go false = s

  end_some : (l : Line) (before : List ℕ) → IsSome before → IsSome (line_end fates l before)
  end_some stop before s = s
  end_some (step t rest) before s = end_some rest (own_end fates (no_of t) before) (own_some (no_of t) before s)
  end_some (group_end g ms) before s = or_some (lines_end fates ms) before s
  end_some (chord_end g ms body) before s = end_some body (or_else (lines_end fates ms) before) (or_some (lines_end fates ms) before s)

  -- as it ends with nothing before it, or, where that is nowhere, in what is before it
  abbrev Ends : (alone with_it before : List ℕ) → Type 0
  Ends alone with_it before = (IsSome alone × (with_it ≡ alone)) ⊎ ((alone ≡ []) × (with_it ≡ before))

  line_ends : (l : Line) (before : List ℕ) → Ends (line_end fates l []) (line_end fates l before) before
  line_ends stop before = inr (refl, refl)
  line_ends (step t rest) before = go (was_called fates (no_of t)) refl (line_ends rest before)
    where
      go : (b : Bool) → was_called fates (no_of t) ≡ b → Ends (line_end fates rest []) (line_end fates rest before) before
          → Ends (line_end fates rest (own_end fates (no_of t) [])) (line_end fates rest (own_end fates (no_of t) before)) before
      go true e r =
          let none : own_end fates (no_of t) [] ≡ no_of t ∷ [] = own_called (no_of t) [] e in
          let some : own_end fates (no_of t) before ≡ no_of t ∷ [] = own_called (no_of t) before e in
          inl (end_some rest (own_end fates (no_of t) []) (subst IsSome (sym none) tt), ap (line_end fates rest) (some ∙ sym none))
      go false e r =
          let none : own_end fates (no_of t) [] ≡ [] = own_uncalled (no_of t) [] e in
          let some : own_end fates (no_of t) before ≡ before = own_uncalled (no_of t) before e in
          subst (λ ks. Ends (line_end fates rest ks) (line_end fates rest (own_end fates (no_of t) before)) before) (sym none)
          (subst (λ ks. Ends (line_end fates rest []) (line_end fates rest ks) before) (sym some) r)
  line_ends (group_end g ms) before = go (lines_end fates ms)
    where
      go : (ks : List ℕ) → Ends (or_else ks []) (or_else ks before) before
      go [] = inr (refl, refl)
      go (k ∷ ks) = inl (tt, refl)
  line_ends (chord_end g ms body) before = go (lines_end fates ms) (line_ends body before)
    where
      go : (ks : List ℕ) → Ends (line_end fates body []) (line_end fates body before) before
          → Ends (line_end fates body (or_else ks [])) (line_end fates body (or_else ks before)) before
      go [] r = r
      go (k ∷ ks) r = inl (end_some body (k ∷ ks) tt, refl)

beyond_after : (ks : List ℕ) (f : Front) → (beyond ks f).after ≡ or_else ks f.after
beyond_after [] f = refl
beyond_after (k ∷ ks) f = refl

-- ---- flows and events

abbrev IsFault : LineFlow → Type 0
IsFault (run x) = ⊥
IsFault (skips f) = Unit {0}
IsFault (raise f) = Unit {0}

runs_body : (x : LineFlow) (ms : Lines) (g : ℕ) (v : Event) → RunsNone v → RunsNone (body_event x ms g v)
runs_body (run x) no_lines g v h = h
runs_body (run x) (and_line m ms) g v h = tt
runs_body (skips f) ms g v h = h
runs_body (raise f) ms g v h = h

no_store : {m : Message} {t : ℕ} {o : Outcome} → ◌≡◌ {A = AJob} (publish m) (store t o) → ⊥
no_store e = cc

stop_none : (p : Place) (k : ℕ) (v w : Event) (m : Message) → In (w, publish m) (labelled v (at_stop p k)) → ⊥
stop_none nowhere k v w m i = elim i [ ]
stop_none (in_group g) k v w m i = elim i [ ]
stop_none (in_chord g c) k v w m (inl same) = let jobs : ◌≡◌ {A = AJob} (publish m) (part g k c) = ap (λ q. q.1) same in cc
stop_none (in_chord g c) k v w m (inr i) = elim i [ ]

-- ---- what a whole evaluation does, of which the events are brought about or not

-- the task has ended, and what stored its outcome is its running, or an event that was brought about
abbrev pub Kept : Items → (Event → Type 0) → (ℕ → Type 0) → ℕ → Type 0
Kept all Brings Ended t = Ended t × (o : Outcome) × (v : Event) × In (v, store t o) all × ((v ≡ running t) ⊎ Brings v)

module _ (behaviour : Behaviour) (members : ℕ → List ℕ) (all : Items) (fates : Fates) (Brings : Event → Type 0) (Ended : ℕ → Type 0)
    (called : (v : Event) (m : Message) → In (v, publish m) all → was_called fates m.no ≡ true)
    (uncalled : (v : Event) (k : ℕ) (f : Fault) → RunsNone v → In (v, store k (Failure f)) all → was_called fates k ≡ false)
    (once : (v w : Event) (k : ℕ) (o q : Outcome) → In (v, store k o) all → In (w, store k q) all → v ≡ w)
    (by_end : (k : ℕ) → Brings (end_of_line k) → Ended k)
    (by_completion : (g : ℕ) → Brings (completion g) → (t : ℕ) → In t (members g) → Kept all Brings Ended t) where
  abbrev AllOf : Items → Type 0
  AllOf is = (x : Event × AJob) → In x is → In x all

  abbrev Ready : Event → List ℕ → Type 0
  Ready v ks = Brings v → Each Ended ks

  -- ---- where an exception flows no task is called

  mutual
    line_uncalled : (l : Line) (x : LineFlow) (p : Place) (k : ℕ) (v : Event) (before : List ℕ) → RunsNone v → IsFault x
        → AllOf (items behaviour l x p k v) → line_end fates l before ≡ before
    line_uncalled stop x p k v before none fault sub = refl
    line_uncalled (step t rest) (run x) p k v before none fault sub = elim fault [ ]
    line_uncalled (step t rest) (skips f) p k v before none fault sub =
        ap (line_end fates rest) (own_uncalled fates (no_of t) before (uncalled v (no_of t) f none (sub _ (inl refl))))
        ∙ line_uncalled rest (skips f) p (no_of t) v before none tt (λ y i. sub y (inr i))
    line_uncalled (step t rest) (raise f) p k v before none fault sub =
        ap (line_end fates rest) (own_uncalled fates (no_of t) before (uncalled v (no_of t) f none (sub _ (inl refl))))
        ∙ line_uncalled rest (skips f) p (no_of t) v before none tt
        (λ y i. sub y (inr (in_right (ran_all behaviour (errbacks_of t) (id_input (no_of t)) v) _ y i)))
    line_uncalled (group_end g ms) x p k v before none fault sub =
        ap (λ ks. or_else ks before) (lines_uncalled ms x (in_group g) v none fault sub)
    line_uncalled (chord_end g ms body) (run x) p k v before none fault sub = elim fault [ ]
    line_uncalled (chord_end g ms body) (skips f) p k v before none fault sub =
        ap (λ ks. line_end fates body (or_else ks before))
        (lines_uncalled ms (skips f) nowhere v none tt (λ y i. sub y (in_left _ _ y i)))
        ∙ line_uncalled body (skips f) p 0 v before none tt (λ y i. sub y (in_right (items_all behaviour ms (skips f) nowhere v) _ y i))
    line_uncalled (chord_end g ms body) (raise f) p k v before none fault sub =
        ap (λ ks. line_end fates body (or_else ks before))
        (lines_uncalled ms (raise f) nowhere v none tt (λ y i. sub y (in_left _ _ y i)))
        ∙ line_uncalled body (joined (raise f) (outs behaviour ms (raise f))) p 0 v before none (subst IsFault (sym (joined_raise behaviour ms f)) tt)
        (λ y i. sub y (in_right (items_all behaviour ms (raise f) nowhere v) _ y i))

    lines_uncalled : (ms : Lines) (x : LineFlow) (p : Place) (v : Event) → RunsNone v → IsFault x → AllOf (items_all behaviour ms x p v)
        → lines_end fates ms ≡ []
    lines_uncalled no_lines x p v none fault sub = refl
    lines_uncalled (and_line m ms) x p v none fault sub =
        ap₂ (λ a b. a ++ b) (line_uncalled m x p 0 v [] none fault (λ y i. sub y (in_left _ _ y i)))
        (lines_uncalled ms x p v none fault (λ y i. sub y (in_right (items behaviour m x p 0 v) _ y i)))

  -- ---- if a line's last task has ended, the tasks that its end comes after have ended too

  -- each member of a header, after this
  abbrev AllEnds : List ℕ → Lines → Type 0
  AllEnds before no_lines = Unit {0}
  AllEnds before (and_line m ms) = Each Ended (line_end fates m before) × AllEnds before ms

  all_ended : (before : List ℕ) (ms : Lines) → AllEnds before ms → Each Ended (lines_end fates ms)
  all_ended before no_lines h = tt
  all_ended before (and_line m ms) h =
      each_append Ended (line_end fates m []) (lines_end fates ms)
      (⊎_elim (λ a. subst (Each Ended) a.1 h.0) (λ a. subst (Each Ended) (sym a.0) tt) (line_ends fates m before))
      (all_ended before ms h.1)

  either : (xs before : List ℕ) → Each Ended xs → (xs ≡ [] → Each Ended before) → Each Ended (or_else xs before)
  either [] before h f = f refl
  either (x ∷ xs) before h f = h

  header_ended : (before : List ℕ) (m : Line) (ms : Lines) → AllEnds before (and_line m ms)
      → Each Ended (or_else (lines_end fates (and_line m ms)) before)
  header_ended before m ms h =
      either (lines_end fates (and_line m ms)) before (all_ended before (and_line m ms) h)
      (λ none. ⊎_elim
      (λ a. absurd (subst IsSome (nil_left (line_end fates m []) (lines_end fates ms) none) a.0))
      (λ a. subst (Each Ended) a.1 h.0) (line_ends fates m before))

  -- what is known of the task right before: it was called, or the event stored its failure
  abbrev Before : Event → ℕ → List ℕ → Type 0
  Before v k before = (before ≡ k ∷ []) ⊎ ((f : Fault) × In (v, store k (Failure f)) all)

  stop_ended : (k : ℕ) (v : Event) (before : List ℕ) → RunsNone v → Ready v before → Before v k before → Kept all Brings Ended k
      → Each Ended before
  stop_ended k v before none ready (inl same) kept = subst (Each Ended) (sym same) (kept.0, tt)
  stop_ended k v before none ready (inr (f, i)) (ended, o, w, j, why) =
      let same : w ≡ v = once w v k o (Failure f) j i in
      ⊎_elim (λ is. absurd (subst RunsNone (sym same ∙ is) none)) (λ b. ready (subst Brings same b)) why

  -- the body of a header whose members, where they have ended, have ended so
  body_ready : (g : ℕ) (ms : Lines) (x : LineFlow) (body : Line) (p : Place) (v : Event) (before : List ℕ) → members g ≡ lasts ms → RunsNone v
      → AllOf (items_all behaviour ms x (header_place x g ms body p) v) → Ready v before
      → (((t : ℕ) → In t (lasts ms) → Kept all Brings Ended t) → AllEnds before ms)
      → Ready (body_event x ms g v) (or_else (lines_end fates ms) before)
  body_ready g no_lines (run x) body p v before same none sub ready header = ready
  body_ready g (and_line m ms) (run x) body p v before same none sub ready header =
      λ h. header_ended before m ms (header (λ t i. by_completion g h t (subst (In t) (sym same) i)))
  body_ready g ms (skips f) body p v before same none sub ready header =
      λ h. subst (Each Ended) (sym (ap (λ ks. or_else ks before) (lines_uncalled ms (skips f) nowhere v none tt sub))) (ready h)
  body_ready g ms (raise f) body p v before same none sub ready header =
      λ h. subst (Each Ended) (sym (ap (λ ks. or_else ks before) (lines_uncalled ms (raise f) nowhere v none tt sub))) (ready h)

  mutual
    line_ended : (l : Line) (after_one : Bool) (x : LineFlow) (p : Place) (k : ℕ) (v : Event) (before : List ℕ) (low high : ℕ)
        → LineIn members l low high → EndsInTask after_one l → RunsNone v → AllOf (items behaviour l x p k v) → Ready v before
        → (after_one ≡ true → Before v k before) → Kept all Brings Ended (last_from k l) → Each Ended (line_end fates l before)
    line_ended stop after_one x p k v before low high n ends none sub ready at kept = stop_ended k v before none ready (at ends) kept
    line_ended (step (task j call ls es) rest) after_one (run x) p k v before low high (middle, a, b) ends none sub ready at kept =
        let m : Message = message (task j call ls es) x (parent_of v) rest p in
        let yes : was_called fates j ≡ true = called v m (sub (v, publish m) (inl refl)) in
        let own : own_end fates j before ≡ j ∷ [] = own_called fates j before yes in
        line_ended rest true (after_outcome (result behaviour (task j call ls es) x)) p j (end_of_line j) (own_end fates j before) middle high b ends tt
        (λ y i. sub y (in_right (ran behaviour (task j call ls es) x v rest p) _ y i))
        (λ h. subst (Each Ended) (sym own) (by_end j h, tt)) (λ e. inl own) kept
    line_ended (step t rest) after_one (skips f) p k v before low high (middle, a, b) ends none sub ready at kept =
        let own : own_end fates (no_of t) before ≡ before = own_uncalled fates (no_of t) before (uncalled v (no_of t) f none (sub _ (inl refl))) in
        line_ended rest true (skips f) p (no_of t) v (own_end fates (no_of t) before) middle high b ends none
        (λ y i. sub y (inr i)) (λ h. subst (Each Ended) (sym own) (ready h)) (λ e. inr (f, sub _ (inl refl))) kept
    line_ended (step t rest) after_one (raise f) p k v before low high (middle, a, b) ends none sub ready at kept =
        let own : own_end fates (no_of t) before ≡ before = own_uncalled fates (no_of t) before (uncalled v (no_of t) f none (sub _ (inl refl))) in
        line_ended rest true (skips f) p (no_of t) v (own_end fates (no_of t) before) middle high b ends none
        (λ y i. sub y (inr (in_right (ran_all behaviour (errbacks_of t) (id_input (no_of t)) v) _ y i)))
        (λ h. subst (Each Ended) (sym own) (ready h)) (λ e. inr (f, sub _ (inl refl))) kept
    line_ended (group_end g ms) after_one x p k v before low high n ends none sub ready at kept = elim ends [ ]
    line_ended (chord_end g ms body) after_one x p k v before low high (middle, a, b, same) ends none sub ready at kept =
        line_ended body false (joined x (outs behaviour ms x)) p 0 (body_event x ms g v) (or_else (lines_end fates ms) before) middle high b ends
        (runs_body x ms g v none) (λ y i. sub y (in_right (items_all behaviour ms x (header_place x g ms body p) v) _ y i))
        (body_ready g ms x body p v before same none (λ y i. sub y (in_left _ _ y i)) ready
        (members_ended ms x (header_place x g ms body p) v before low middle a none (λ y i. sub y (in_left _ _ y i)) ready))
        (λ e. absurd (true≢false (sym e))) kept

    members_ended : (ms : Lines) (x : LineFlow) (p : Place) (v : Event) (before : List ℕ) (low high : ℕ) → LinesIn members ms low high → RunsNone v
        → AllOf (items_all behaviour ms x p v) → Ready v before → ((t : ℕ) → In t (lasts ms) → Kept all Brings Ended t) → AllEnds before ms
    members_ended no_lines x p v before low high n none sub ready kept = tt
    members_ended (and_line m ms) x p v before low high (middle, a, ends, b) none sub ready kept = (
      line_ended m false x p 0 v before low middle a ends none (λ y i. sub y (in_left _ _ y i)) ready (λ e. absurd (true≢false (sym e)))
          (kept (last_of m) (inl refl)),
      members_ended ms x p v before middle high b none (λ y i. sub y (in_right (items behaviour m x p 0 v) _ y i)) ready (λ t i. kept t (inr i)),
    )

  -- ---- each message by its front

  -- if its event was brought about, what its task comes after has ended; the first front is that of the task low
  abbrev pub Sound : Items → List Front → ℕ → Type 0
  Sound is fs low = (v : Event) (m : Message) → In (v, publish m) is → (f : Front) × FrontAt fs low m.no f × Ready v f.after

  sound_left : (is : Items) (fs gs : List Front) (low : ℕ) → Sound is fs low → Sound is (fs ++ gs) low
  sound_left is fs gs low s v m i = let r = s v m i in (r.0, front_left fs gs low m.no r.0 r.1, r.2)

  sound_right : (is : Items) (fs gs : List Front) (low middle : ℕ) → middle ≡ low + length fs → Sound is gs middle → Sound is (fs ++ gs) low
  sound_right is fs gs low middle at s v m i = let r = s v m i in (r.0, front_right fs gs low middle m.no r.0 at r.1, r.2)

  sound_next : (is : Items) (f : Front) (gs : List Front) (low next : ℕ) → next ≡ suc low → Sound is gs next → Sound is (f ∷ gs) low
  sound_next is f gs low next at s v m i =
      let r = s v m i in
      (r.0, (suc r.1.0, omega (arith, at, r.1.1), r.1.2), r.2)

  sound_both : (xs ys : Items) (fs : List Front) (low : ℕ) → Sound xs fs low → Sound ys fs low → Sound (xs ++ ys) fs low
  sound_both xs ys fs low s t v m i = ⊎_elim (λ a. s v m a) (λ b. t v m b) (in_append_cases xs ys (v, publish m) i)

  sound_store : (w : Event) (k : ℕ) (o : Outcome) (is : Items) (fs : List Front) (low : ℕ) → Sound is fs low → Sound ((w, store k o) ∷ is) fs low
  sound_store w k o is fs low s v m i = ⊎_elim (λ same. absurd (no_store (ap (λ q. q.1) same))) (λ a. s v m a) i

  sound_chosen : (o : Outcome) (xs ys : Items) (fs : List Front) (low : ℕ) → (AllOf xs → Sound xs fs low) → (AllOf ys → Sound ys fs low)
      → AllOf (chosen o xs ys) → Sound (chosen o xs ys) fs low
  sound_chosen (Success n) xs ys fs low s t sub = s sub
  sound_chosen (Failure f) xs ys fs low s t sub = t sub

  sound_publish : (v : Event) (m : Message) (f : Front) (fs : List Front) (is : Items) (low : ℕ) → m.no ≡ low → Ready v f.after
      → Sound is (f ∷ fs) low → Sound ((v, publish m) ∷ is) (f ∷ fs) low
  sound_publish v m f fs is low number ready s w n i =
      ⊎_elim
      (λ same.
      let jobs : ◌≡◌ {A = AJob} (publish n) (publish m) = ap (λ q. q.1) same in
      let messages : n ≡ m = cc in
      let its : n.no ≡ m.no = ap (λ k. k.no) messages in
      (f, (0, omega (arith, its, number), refl), λ h. ready (subst Brings (ap (λ q. q.0) same) h)))
      (λ a. s w n a) i

  mutual
    ran_sound : (t : Task) (x : Input) (v : Event) (rest : Line) (p : Place) (f : Front) (low high : ℕ) → TaskIn t low high
        → high ≤ low + count_task t → AllOf (ran behaviour t x v rest p) → Ready v f.after
        → Sound (ran behaviour t x v rest p) (task_fronts fates t f) low
    ran_sound (task k call ls es) x v rest p f low high (from, middle, a, b) dense sub ready =
        let room_a = tasks_room ls (suc k) middle a in
        let room_b = tasks_room es middle high b in
        let its : k ≡ low = omega arith in
        let m : Message = message (task k call ls es) x (parent_of v) rest p in
        let o : Outcome = outcome_of behaviour m in
        let yes : was_called fates k ≡ true = called v m (sub (v, publish m) (inl refl)) in
        let next : Front = behind fates k f in
        let ended : Ready (end_of_line k) next.after = λ h. subst (Each Ended) (sym (after_called fates k f yes)) (by_end k h, tt) in
        let links : Items = ran_all behaviour ls (input_of_success o) (end_of_line k) in
        let errbacks : Items = ran_all behaviour es (id_input k) (end_of_line k) in
        let links_length = tasks_length fates ls next in
        sound_publish v m f (tasks_fronts fates ls next ++ tasks_fronts fates es next) ((running k, store k o) ∷ chosen o links errbacks) low its ready
        (sound_store (running k) k o (chosen o links errbacks) (f ∷ tasks_fronts fates ls next ++ tasks_fronts fates es next) low
        (sound_next (chosen o links errbacks) f (tasks_fronts fates ls next ++ tasks_fronts fates es next) low (suc k) (omega (arith, its))
        (sound_chosen o links errbacks (tasks_fronts fates ls next ++ tasks_fronts fates es next) (suc k)
        (λ s. sound_left links (tasks_fronts fates ls next) (tasks_fronts fates es next) (suc k)
        (ran_all_sound ls (input_of_success o) (end_of_line k) next (suc k) middle a (omega arith) s ended))
        (λ s. sound_right errbacks (tasks_fronts fates ls next) (tasks_fronts fates es next) (suc k) middle (omega arith)
        (ran_all_sound es (id_input k) (end_of_line k) next middle high b (omega arith) s ended))
        (λ y i. sub y (inr (inr i))))))

    ran_all_sound : (ts : Tasks) (x : Input) (v : Event) (f : Front) (low high : ℕ) → TasksIn ts low high → high ≤ low + count_tasks ts
        → AllOf (ran_all behaviour ts x v) → Ready v f.after → Sound (ran_all behaviour ts x v) (tasks_fronts fates ts f) low
    ran_all_sound no_tasks x v f low high n dense sub ready = λ w m i. elim i [ ]
    ran_all_sound (and_task t ts) x v f low high (middle, a, b) dense sub ready =
        let room_a = task_room t low middle a in
        let room_b = tasks_room ts middle high b in
        let one = task_length fates t f in
        sound_both (ran behaviour t x v stop nowhere) (ran_all behaviour ts x v) (task_fronts fates t f ++ tasks_fronts fates ts f) low
        (sound_left (ran behaviour t x v stop nowhere) (task_fronts fates t f) (tasks_fronts fates ts f) low
        (ran_sound t x v stop nowhere f low middle a (omega arith) (λ y i. sub y (in_left _ _ y i)) ready))
        (sound_right (ran_all behaviour ts x v) (task_fronts fates t f) (tasks_fronts fates ts f) low middle (omega arith)
        (ran_all_sound ts x v f middle high b (omega arith) (λ y i. sub y (in_right (ran behaviour t x v stop nowhere) _ y i)) ready))

  -- the error callbacks of a task in which an exception is raised
  errbacks_sound : (t : Task) (v : Event) (f : Front) (low high : ℕ) → TaskIn t low high → high ≤ low + count_task t
      → was_called fates (no_of t) ≡ false → AllOf (ran_all behaviour (errbacks_of t) (id_input (no_of t)) v) → Ready v f.after
      → Sound (ran_all behaviour (errbacks_of t) (id_input (no_of t)) v) (task_fronts fates t f) low
  errbacks_sound (task k call ls es) v f low high (from, middle, a, b) dense idle sub ready =
      let room_a = tasks_room ls (suc k) middle a in
      let room_b = tasks_room es middle high b in
      let its : k ≡ low = omega arith in
      let next : Front = behind fates k f in
      let links_length = tasks_length fates ls next in
      let errbacks : Items = ran_all behaviour es (id_input k) v in
      sound_next errbacks f (tasks_fronts fates ls next ++ tasks_fronts fates es next) low (suc k) (omega (arith, its))
      (sound_right errbacks (tasks_fronts fates ls next) (tasks_fronts fates es next) (suc k) middle (omega arith)
      (ran_all_sound es (id_input k) v next middle high b (omega arith) sub
      (λ h. subst (λ g. Each Ended g.after) (sym (behind_uncalled fates k f idle)) (ready h))))

  mutual
    pub items_sound : (l : Line) (x : LineFlow) (p : Place) (k : ℕ) (v : Event) (f : Front) (low high : ℕ) → LineIn members l low high
        → high ≤ low + count_line l → RunsNone v → AllOf (items behaviour l x p k v) → Ready v f.after
        → Sound (items behaviour l x p k v) (line_fronts fates l f) low
    items_sound stop x p k v f low high n dense none sub ready = λ w m i. absurd (stop_none p k v w m i)
    items_sound (step (task j call ls es) rest) (run x) p k v f low high (middle, a, b) dense none sub ready =
        let t : Task = task j call ls es in
        let room_a = task_room t low middle a in
        let room_b = line_room members rest middle high b in
        let one = task_length fates t f in
        let m : Message = message t x (parent_of v) rest p in
        let yes : was_called fates j ≡ true = called v m (sub (v, publish m) (inl refl)) in
        let next : Front = behind fates j f in
        let later : Items = items behaviour rest (after_outcome (result behaviour t x)) p j (end_of_line j) in
        sound_both (ran behaviour t x v rest p) later (task_fronts fates t f ++ line_fronts fates rest next) low
        (sound_left (ran behaviour t x v rest p) (task_fronts fates t f) (line_fronts fates rest next) low
        (ran_sound t x v rest p f low middle a (omega arith) (λ y i. sub y (in_left (ran behaviour t x v rest p) later y i)) ready))
        (sound_right later (task_fronts fates t f) (line_fronts fates rest next) low middle (omega arith)
        (items_sound rest (after_outcome (result behaviour t x)) p j (end_of_line j) next middle high b (omega arith) tt
        (λ y i. sub y (in_right (ran behaviour t x v rest p) _ y i))
        (λ h. subst (Each Ended) (sym (after_called fates j f yes)) (by_end j h, tt))))
    items_sound (step t rest) (skips e) p k v f low high (middle, a, b) dense none sub ready =
        let room_a = task_room t low middle a in
        let room_b = line_room members rest middle high b in
        let one = task_length fates t f in
        let idle : was_called fates (no_of t) ≡ false = uncalled v (no_of t) e none (sub _ (inl refl)) in
        let next : Front = behind fates (no_of t) f in
        let later : Items = items behaviour rest (skips e) p (no_of t) v in
        sound_store v (no_of t) (Failure e) later (task_fronts fates t f ++ line_fronts fates rest next) low
        (sound_right later (task_fronts fates t f) (line_fronts fates rest next) low middle (omega arith)
        (items_sound rest (skips e) p (no_of t) v next middle high b (omega arith) none (λ y i. sub y (inr i))
        (λ h. subst (λ g. Each Ended g.after) (sym (behind_uncalled fates (no_of t) f idle)) (ready h))))
    items_sound (step t rest) (raise e) p k v f low high (middle, a, b) dense none sub ready =
        let room_a = task_room t low middle a in
        let room_b = line_room members rest middle high b in
        let one = task_length fates t f in
        let idle : was_called fates (no_of t) ≡ false = uncalled v (no_of t) e none (sub _ (inl refl)) in
        let next : Front = behind fates (no_of t) f in
        let errbacks : Items = ran_all behaviour (errbacks_of t) (id_input (no_of t)) v in
        let later : Items = items behaviour rest (skips e) p (no_of t) v in
        sound_store v (no_of t) (Failure e) (errbacks ++ later) (task_fronts fates t f ++ line_fronts fates rest next) low
        (sound_both errbacks later (task_fronts fates t f ++ line_fronts fates rest next) low
        (sound_left errbacks (task_fronts fates t f) (line_fronts fates rest next) low
        (errbacks_sound t v f low middle a (omega arith) idle (λ y i. sub y (inr (in_left _ _ y i))) ready))
        (sound_right later (task_fronts fates t f) (line_fronts fates rest next) low middle (omega arith)
        (items_sound rest (skips e) p (no_of t) v next middle high b (omega arith) none (λ y i. sub y (inr (in_right errbacks _ y i)))
        (λ h. subst (λ g. Each Ended g.after) (sym (behind_uncalled fates (no_of t) f idle)) (ready h)))))
    items_sound (group_end g ms) x p k v f low high n dense none sub ready = items_all_sound ms x (in_group g) v f low high n.0 dense none sub ready
    items_sound (chord_end g ms body) x p k v f low high (middle, a, b, same) dense none sub ready =
        let room_a = lines_room members ms low middle a in
        let room_b = line_room members body middle high b in
        let header_length = lines_length fates ms f in
        let place : Place = header_place x g ms body p in
        let next : Front = beyond (lines_end fates ms) f in
        let later : Items = items behaviour body (joined x (outs behaviour ms x)) p 0 (body_event x ms g v) in
        sound_both (items_all behaviour ms x place v) later (lines_fronts fates ms f ++ line_fronts fates body next) low
        (sound_left (items_all behaviour ms x place v) (lines_fronts fates ms f) (line_fronts fates body next) low
        (items_all_sound ms x place v f low middle a (omega arith) none (λ y i. sub y (in_left _ _ y i)) ready))
        (sound_right later (lines_fronts fates ms f) (line_fronts fates body next) low middle (omega arith)
        (items_sound body (joined x (outs behaviour ms x)) p 0 (body_event x ms g v) next middle high b (omega arith) (runs_body x ms g v none)
        (λ y i. sub y (in_right (items_all behaviour ms x place v) _ y i))
        (λ h. subst (Each Ended) (sym (beyond_after (lines_end fates ms) f))
        (body_ready g ms x body p v f.after same none (λ y i. sub y (in_left _ _ y i)) ready
        (members_ended ms x place v f.after low middle a none (λ y i. sub y (in_left _ _ y i)) ready) h))))

    items_all_sound : (ms : Lines) (x : LineFlow) (p : Place) (v : Event) (f : Front) (low high : ℕ) → LinesIn members ms low high
        → high ≤ low + count_lines ms → RunsNone v → AllOf (items_all behaviour ms x p v) → Ready v f.after
        → Sound (items_all behaviour ms x p v) (lines_fronts fates ms f) low
    items_all_sound no_lines x p v f low high n dense none sub ready = λ w m i. elim i [ ]
    items_all_sound (and_line m ms) x p v f low high (middle, a, ends, b) dense none sub ready =
        let room_a = line_room members m low middle a in
        let room_b = lines_room members ms middle high b in
        let one = line_length fates m f in
        sound_both (items behaviour m x p 0 v) (items_all behaviour ms x p v) (line_fronts fates m f ++ lines_fronts fates ms f) low
        (sound_left (items behaviour m x p 0 v) (line_fronts fates m f) (lines_fronts fates ms f) low
        (items_sound m x p 0 v f low middle a (omega arith) none (λ y i. sub y (in_left _ _ y i)) ready))
        (sound_right (items_all behaviour ms x p v) (line_fronts fates m f) (lines_fronts fates ms f) low middle (omega arith)
        (items_all_sound ms x p v f middle high b (omega arith) none (λ y i. sub y (in_right (items behaviour m x p 0 v) _ y i)) ready))
