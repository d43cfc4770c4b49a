-- The evaluation of a plan does what the ends of its tasks and the completions of its headers do.
use Rattle.std.proofs.Common.{◌≡◌, ℕ, List, [], ◌∷◌, ◌++◌, Some, refl, sym, ap, subst, ◌∙◌, inl, inr, ◌⊎◌, ⊎_elim}
use Rattle.canvas_task.specs.Apply.{Behaviour}
use Rattle.canvas_history.specs.Lists.{In, Each}
use Rattle.canvas_effects.specs.Job.{Job, store, publish, part}
use Rattle.canvas_effects.specs.Events.{Event, running, end_of_line, parent_of, flow_outcome, input_of_success, chosen}
use Rattle.canvas_effects.specs.Flowing.{Input, number_input, list_input, id_input, LineFlow, run, skips, raise, after_outcome}
use Rattle.canvas_semantics.specs.Line.{Line, stop, step, group_end, chord_end, Lines, no_lines, and_line, no_of}
use Rattle.canvas_semantics.specs.Tree.{Task, task, Tasks, no_tasks, and_task}
use Rattle.canvas_task.specs.declared.outcome.Outcome.{Outcome}
use Rattle.canvas_task.specs.declared.outcome.Outcome.TheVariants.{Success, Failure}
use Rattle.canvas_task.specs.declared.outcome.Fault.{Fault}
use Rattle.canvas_runs.proofs.Plans.Messages.{Place, nowhere, in_group, in_chord, Carried, errbacks_of, last_of, Message, header, after_member}
use Rattle.canvas_runs.proofs.Plans.Effects.{Jobs, message, outcome_of, at_stop, members_place, callbacks, called, enter, enter_all, when_empty, after, by_kind, picked, only_store, only_publish, only_part, failed, header_fault}
use Rattle.canvas_runs.proofs.Plans.Evaluation.{Items, labelled, joined, header_place, members_event, body_event, result, out, outs, ran, ran_all, items, items_all}
use Rattle.canvas_runs.proofs.Lists.Words.{each_append, each_weaker, in_left, in_right}

abbrev pub AJob : Type 0
AJob = Job Message Carried Outcome

-- the event does each of the jobs
abbrev pub AllIn : Event → Items → Jobs → Type 0
AllIn v is js = Each (λ j. In (v, j) is) js

pub all_left : (v : Event) (xs ys : Items) (js : Jobs) → AllIn v xs js → AllIn v (xs ++ ys) js
all_left v xs ys js a = each_weaker (λ j i. in_left xs ys (v, j) i) js a

pub all_right : (v : Event) (xs ys : Items) (js : Jobs) → AllIn v ys js → AllIn v (xs ++ ys) js
all_right v xs ys js a = each_weaker (λ j i. in_right xs ys (v, j) i) js a

pub all_more : (v : Event) (x : Event × AJob) (ys : Items) (js : Jobs) → AllIn v ys js → AllIn v (x ∷ ys) js
all_more v x ys js a = each_weaker (λ j i. inr i) js a

pub all_both : (v : Event) (is : Items) (xs ys : Jobs) → AllIn v is xs → AllIn v is ys → AllIn v is (xs ++ ys)
all_both v is xs ys a b = each_append (λ j. In (v, j) is) xs ys a b

all_labelled : (v : Event) (js : Jobs) → AllIn v (labelled v js) js
all_labelled v [] = tt
all_labelled v (j ∷ js) = (inl refl, all_more v (v, j) (labelled v js) js (all_labelled v js))

pub in_append_cases : {X : Type 0} (xs ys : List X) (x : X) → In x (xs ++ ys) → In x xs ⊎ In x ys
in_append_cases [] ys x i = inr i
in_append_cases (y ∷ xs) ys x (inl e) = inl (inl e)
in_append_cases (y ∷ xs) ys x (inr i) = ⊎_elim (λ a. inl (inr a)) (λ b. inr b) (in_append_cases xs ys x i)

apart : {m : Message} {t : ℕ} {o : Outcome} → ◌≡◌ {A = AJob} (publish m) (store t o) → ⊥
apart e = cc

apart_part : {m : Message} {g t : ℕ} {c : Carried} → ◌≡◌ {A = AJob} (publish m) (part g t c) → ⊥
apart_part e = cc

pub each_picked : (P : AJob → Type 0) (pick : AJob → Jobs) → ((j : AJob) → P j → Each P (pick j)) → (js : Jobs) → Each P js → Each P (picked pick js)
each_picked P pick f [] a = tt
each_picked P pick f (j ∷ js) a = each_append P (pick j) (picked pick js) (f j a.0) (each_picked P pick f js a.1)

pub each_by_kind : (P : AJob → Type 0) (js : Jobs) → Each P js → Each P (by_kind js)
each_by_kind P js a =
    each_append P (picked only_store js) _ (each_picked P only_store stores js a)
    (each_append P (picked only_publish js) _ (each_picked P only_publish publishes js a) (each_picked P only_part parts js a))
  where
    stores : (j : AJob) → P j → Each P (only_store j)
    stores (store t o) p = (p, tt)
    stores (publish m) p = tt
    stores (part g t c) p = tt

    publishes : (j : AJob) → P j → Each P (only_publish j)
    publishes (store t o) p = tt
    publishes (publish m) p = (p, tt)
    publishes (part g t c) p = tt

    parts : (j : AJob) → P j → Each P (only_part j)
    parts (store t o) p = tt
    parts (publish m) p = tt
    parts (part g t c) p = (p, tt)

module _ (behaviour : Behaviour) where
  -- what is skipped goes out skipped
  out_skip : (l : Line) (f : Fault) → out behaviour l (skips f) ≡ skips f
  out_skip stop f = refl
  out_skip (step t rest) f = out_skip rest f
  out_skip (group_end g ms) f = refl
  out_skip (chord_end g ms body) f = out_skip body f

  ran_head : (t : Task) (x : Input) (v : Event) (rest : Line) (p : Place) → In (v, publish (message t x (parent_of v) rest p)) (ran behaviour t x v rest p)
  ran_head (task k call links errbacks) x v rest p = inl refl

  callbacks_in : (ts : Tasks) (x : Input) (v : Event) → AllIn v (ran_all behaviour ts x v) (callbacks ts x (parent_of v))
  callbacks_in no_tasks x v = tt
  callbacks_in (and_task t ts) x v = (
    in_left (ran behaviour t x v stop nowhere) (ran_all behaviour ts x v) _ (ran_head t x v stop nowhere),
    all_right v (ran behaviour t x v stop nowhere) (ran_all behaviour ts x v) _ (callbacks_in ts x v),
  )

  -- where f is raised in a line that is not empty and ends in a task, its last task fails with failed
  mutual
    out_raise : (l : Line) (f : Fault) → flow_outcome (out behaviour l (raise f)) ≡ Failure (failed l f)
    out_raise stop f = refl
    out_raise (step t rest) f = ap flow_outcome (out_skip rest f)
    out_raise (group_end g ms) f = refl
    out_raise (chord_end g ms body) f = ap (λ y. flow_outcome (out behaviour body y)) (joined_raise ms f) ∙ out_raise body (header_fault ms f)

    pub joined_raise : (ms : Lines) (f : Fault) → joined (raise f) (outs behaviour ms (raise f)) ≡ raise (header_fault ms f)
    joined_raise no_lines f = refl
    joined_raise (and_line m ms) f = ap (λ o. after_member (last_of m) o (header (outs behaviour ms (raise f)))) (out_raise m f)

  -- what happens at once is part of what comes of it
  mutual
    pub enter_in : (l : Line) (x : LineFlow) (p : Place) (t : ℕ) (v : Event) → AllIn v (items behaviour l x p t v) (enter l x p t (parent_of v))
    enter_in stop x p t v = all_labelled v (at_stop p t)
    enter_in (step k rest) (run x) p t v = (in_left (ran behaviour k x v rest p) _ _ (ran_head k x v rest p), tt)
    enter_in (step k rest) (skips f) p t v = (inl refl, all_more v (v, store (no_of k) (Failure f)) _ _ (enter_in rest (skips f) p (no_of k) v))
    enter_in (step k rest) (raise f) p t v = (
      inl refl,
      all_more v (v, store (no_of k) (Failure f)) _ _
          (all_both v _ (callbacks (errbacks_of k) (id_input (no_of k)) (parent_of v)) _
          (all_left v _ _ _ (callbacks_in (errbacks_of k) (id_input (no_of k)) v))
          (all_right v (ran_all behaviour (errbacks_of k) (id_input (no_of k)) v) _ _ (enter_in rest (skips f) p (no_of k) v))),
    )
    enter_in (group_end g ms) x p t v = enter_all_in ms x (in_group g) v
    enter_in (chord_end g ms body) (run x) p t v =
        all_both v _ (enter_all ms (run x) (members_place g ms body p) (parent_of v)) _
        (all_left v _ _ _ (enter_all_in ms (run x) (members_place g ms body p) v))
        (all_right v (items_all behaviour ms (run x) (members_place g ms body p) v) _ _ (if_empty g ms body p v x (λ y. enter_in body y p 0 v)))
    enter_in (chord_end g ms body) (skips f) p t v =
        all_both v _ (enter_all ms (skips f) nowhere (parent_of v)) _
        (all_left v _ _ _ (enter_all_in ms (skips f) nowhere v))
        (all_right v (items_all behaviour ms (skips f) nowhere v) _ _ (enter_in body (skips f) p 0 v))
    enter_in (chord_end g ms body) (raise f) p t v =
        all_both v _ (enter_all ms (raise f) nowhere (parent_of v)) _
        (all_left v _ _ _ (enter_all_in ms (raise f) nowhere v))
        (all_right v (items_all behaviour ms (raise f) nowhere v) _ _
        (subst (λ y. AllIn v (items behaviour body y p 0 v) (enter body (raise (header_fault ms f)) p 0 (parent_of v))) (sym (joined_raise ms f))
        (enter_in body (raise (header_fault ms f)) p 0 v)))

    pub enter_all_in : (ms : Lines) (x : LineFlow) (p : Place) (v : Event) → AllIn v (items_all behaviour ms x p v) (enter_all ms x p (parent_of v))
    enter_all_in no_lines x p v = tt
    enter_all_in (and_line m ms) x p v =
        all_both v _ (enter m x p 0 (parent_of v)) _
        (all_left v _ _ _ (enter_in m x p 0 v))
        (all_right v (items behaviour m x p 0 v) _ _ (enter_all_in ms x p v))

    if_empty : (g : ℕ) (ms : Lines) (body : Line) (p : Place) (v : Event) (x : Input) →
        ((y : LineFlow) → AllIn v (items behaviour body y p 0 v) (enter body y p 0 (parent_of v))) →
        AllIn v (items behaviour body (joined (run x) (outs behaviour ms (run x))) p 0 (members_event ms g v))
        (when_empty ms (enter body (run (list_input [])) p 0 (parent_of v)))
    if_empty g no_lines body p v x h = h (run (list_input []))
    if_empty g (and_line m ms) body p v x h = tt

  -- the outcome of a message's task and what its end does
  abbrev pub Answered : Message → Items → Type 0
  Answered m all = In (running m.no, store m.no (outcome_of behaviour m)) all × AllIn (end_of_line m.no) all (after m (outcome_of behaviour m))

  answered_left : (m : Message) (xs ys : Items) → Answered m xs → Answered m (xs ++ ys)
  answered_left m xs ys a = (in_left xs ys _ a.0, all_left _ xs ys _ a.1)

  answered_right : (m : Message) (xs ys : Items) → Answered m ys → Answered m (xs ++ ys)
  answered_right m xs ys a = (in_right xs ys _ a.0, all_right _ xs ys _ a.1)

  answered_more : (m : Message) (x : Event × AJob) (ys : Items) → Answered m ys → Answered m (x ∷ ys)
  answered_more m x ys a = (inr a.0, all_more _ x ys _ a.1)

  -- where the message of a task is published, the task is answered
  abbrev pub Followed : Items → Items → Type 0
  Followed is all = (e : Event) (m : Message) → In (e, publish m) is → Answered m all

  followed_left : (is xs ys : Items) → Followed is xs → Followed is (xs ++ ys)
  followed_left is xs ys f e m i = answered_left m xs ys (f e m i)

  followed_right : (is xs ys : Items) → Followed is ys → Followed is (xs ++ ys)
  followed_right is xs ys f e m i = answered_right m xs ys (f e m i)

  followed_both : (is js all : Items) → Followed is all → Followed js all → Followed (is ++ js) all
  followed_both is js all f g e m i = ⊎_elim (λ a. f e m a) (λ b. g e m b) (in_append_cases is js _ i)

  followed_append : (is js : Items) → Followed is is → Followed js js → Followed (is ++ js) (is ++ js)
  followed_append is js f g = followed_both is js (is ++ js) (followed_left is is js f) (followed_right js is js g)

  called_in : (links errbacks : Tasks) (k : ℕ) (o : Outcome) →
      AllIn (end_of_line k) (chosen o (ran_all behaviour links (input_of_success o) (end_of_line k)) (ran_all behaviour errbacks (id_input k) (end_of_line k)))
      (called links errbacks k o)
  called_in links errbacks k (Success n) = callbacks_in links (number_input n) (end_of_line k)
  called_in links errbacks k (Failure f) = callbacks_in errbacks (id_input k) (end_of_line k)

  chosen_followed : (o : Outcome) (xs ys : Items) → Followed xs xs → Followed ys ys → Followed (chosen o xs ys) (chosen o xs ys)
  chosen_followed (Success n) xs ys f g = f
  chosen_followed (Failure n) xs ys f g = g

  -- one task that runs, before what comes of its end in the rest of its line
  ran_all_at : (k : ℕ) (links errbacks : Tasks) (x : Input) (v : Event) (m : Message) (inner later : Items) (o : Outcome) →
      m.no ≡ k → outcome_of behaviour m ≡ o → AllIn (end_of_line k) inner (called m.links m.errbacks k o) →
      AllIn (end_of_line k) later (enter m.rest (after_outcome o) m.place k (Some k)) →
      Followed inner inner →
      Followed ((v, publish m) ∷ (running k, store k o) ∷ inner) ((v, publish m) ∷ (running k, store k o) ∷ (inner ++ later))
  ran_all_at k links errbacks x v m inner later o no_is out_is calls rest f e n (inl same) =
      let jobs : ◌≡◌ {A = AJob} (publish n) (publish m) = ap (λ q. q.1) same in
      let is_m : n ≡ m = (cc) in
      subst (λ u. Answered u ((v, publish m) ∷ (running k, store k o) ∷ (inner ++ later))) (sym is_m) (
        subst (λ u. In (running u, store u (outcome_of behaviour m)) ((v, publish m) ∷ (running k, store k o) ∷ (inner ++ later))) (sym no_is)
            (subst (λ u. In (running k, store k u) ((v, publish m) ∷ (running k, store k o) ∷ (inner ++ later))) (sym out_is) (inr (inl refl))),
        all_more _ (v, publish m) ((running k, store k o) ∷ (inner ++ later)) _ (all_more _ (running k, store k o) (inner ++ later) _
            (subst (λ u. AllIn (end_of_line u) (inner ++ later)
            (by_kind (called m.links m.errbacks u (outcome_of behaviour m) ++ enter m.rest (after_outcome (outcome_of behaviour m)) m.place u (Some u))))
            (sym no_is)
            (subst (λ u. AllIn (end_of_line k) (inner ++ later) (by_kind (called m.links m.errbacks k u ++ enter m.rest (after_outcome u) m.place k (Some k))))
            (sym out_is)
            (each_by_kind _ _ (all_both _ _ (called m.links m.errbacks k o) _ (all_left _ inner later _ calls) (all_right _ inner later _ rest)))))),
      )
  ran_all_at k links errbacks x v m inner later o no_is out_is calls rest f e n (inr (inl same)) = absurd (apart (ap (λ q. q.1) same))
  ran_all_at k links errbacks x v m inner later o no_is out_is calls rest f e n (inr (inr i)) =
      answered_more n (v, publish m) ((running k, store k o) ∷ (inner ++ later))
      (answered_more n (running k, store k o) (inner ++ later) (answered_left n inner later (f e n i)))

  mutual
    ran_followed : (t : Task) (x : Input) (v : Event) (rest : Line) (p : Place) (later : Items) →
        AllIn (end_of_line (no_of t)) later (enter rest (after_outcome (result behaviour t x)) p (no_of t) (Some (no_of t))) →
        Followed (ran behaviour t x v rest p) (ran behaviour t x v rest p ++ later)
    ran_followed (task k call links errbacks) x v rest p later r =
        let t : Task = task k call links errbacks in
        let m : Message = message t x (parent_of v) rest p in
        let o : Outcome = outcome_of behaviour m in
        ran_all_at k links errbacks x v m _ later o refl refl (called_in links errbacks k o) r
        (chosen_followed o _ _ (ran_all_followed links (input_of_success o) (end_of_line k)) (ran_all_followed errbacks (id_input k) (end_of_line k)))

    ran_all_followed : (ts : Tasks) (x : Input) (v : Event) → Followed (ran_all behaviour ts x v) (ran_all behaviour ts x v)
    ran_all_followed no_tasks x v = λ e m i. elim i [ ]
    ran_all_followed (and_task t ts) x v =
        followed_both (ran behaviour t x v stop nowhere) (ran_all behaviour ts x v) _
        (ran_followed t x v stop nowhere (ran_all behaviour ts x v) tt)
        (followed_right (ran_all behaviour ts x v) (ran behaviour t x v stop nowhere) (ran_all behaviour ts x v) (ran_all_followed ts x v))

  stop_followed : (p : Place) (t : ℕ) (v : Event) (all : Items) → Followed (labelled v (at_stop p t)) all
  stop_followed nowhere t v all e m i = elim i [ ]
  stop_followed (in_group g) t v all e m i = elim i [ ]
  stop_followed (in_chord g c) t v all e m (inl same) = absurd (apart_part (ap (λ q. q.1) same))
  stop_followed (in_chord g c) t v all e m (inr i) = elim i [ ]

  stored_first : (v : Event) (k : ℕ) (o : Outcome) (is : Items) → Followed is is → Followed ((v, store k o) ∷ is) ((v, store k o) ∷ is)
  stored_first v k o is f e m (inl same) = absurd (apart (ap (λ q. q.1) same))
  stored_first v k o is f e m (inr i) = answered_more m (v, store k o) is (f e m i)

  mutual
    pub items_followed : (l : Line) (x : LineFlow) (p : Place) (t : ℕ) (v : Event) → Followed (items behaviour l x p t v) (items behaviour l x p t v)
    items_followed stop x p t v = stop_followed p t v _
    items_followed (step k rest) (run x) p t v =
        let later : Items = items behaviour rest (after_outcome (result behaviour k x)) p (no_of k) (end_of_line (no_of k)) in
        followed_both (ran behaviour k x v rest p) later _
        (ran_followed k x v rest p later (enter_in rest (after_outcome (result behaviour k x)) p (no_of k) (end_of_line (no_of k))))
        (followed_right later (ran behaviour k x v rest p) later
        (items_followed rest (after_outcome (result behaviour k x)) p (no_of k) (end_of_line (no_of k))))
    items_followed (step k rest) (skips f) p t v = stored_first v (no_of k) (Failure f) _ (items_followed rest (skips f) p (no_of k) v)
    items_followed (step k rest) (raise f) p t v = stored_first v (no_of k) (Failure f) _
        (followed_append _ _ (ran_all_followed (errbacks_of k) (id_input (no_of k)) v) (items_followed rest (skips f) p (no_of k) v))
    items_followed (group_end g ms) x p t v = items_all_followed ms x (in_group g) v
    items_followed (chord_end g ms body) x p t v =
        followed_append _ _ (items_all_followed ms x (header_place x g ms body p) v)
        (items_followed body (joined x (outs behaviour ms x)) p 0 (body_event x ms g v))

    pub items_all_followed : (ms : Lines) (x : LineFlow) (p : Place) (v : Event) → Followed (items_all behaviour ms x p v) (items_all behaviour ms x p v)
    items_all_followed no_lines x p v = λ e m i. elim i [ ]
    items_all_followed (and_line m ms) x p v = followed_append _ _ (items_followed m x p 0 v) (items_all_followed ms x p v)
