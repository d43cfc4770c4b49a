-- A message depends only on the answers of those tasks whose messages carry it.
use Rattle.std.proofs.Common.{◌≡◌, ◌∙◌, ◌⊎◌, ℕ, Bool, true, false, List, [], ◌∷◌, ◌++◌, refl, ap, subst, inl, inr}
use Rattle.canvas_task.specs.Apply.{Behaviour}
use Rattle.canvas_task.specs.declared.outcome.Outcome.{Outcome}
use Rattle.canvas_task.specs.declared.outcome.Outcome.TheVariants.{Success, Failure}
use Rattle.canvas_semantics.specs.Tree.{Call, Task, task, Tasks, no_tasks, and_task}
use Rattle.canvas_semantics.specs.FileOrder.{LineIn, LinesIn, EndsInTask}
use Rattle.canvas_semantics.specs.Line.{Line, stop, step, group_end, chord_end, Lines, no_lines, and_line, no_of, members}
use Rattle.canvas_semantics.specs.PlacedLine.{PPlace, p_nowhere, p_group, p_chord, bare, all_bare, bare_task, bare_tasks}
use Rattle.canvas_rewrite.specs.FrozenView.{PCarried}
use Rattle.canvas_rewrite.specs.Planned.{IsPlan}
use Rattle.canvas_rewrite.proofs.InOrder.{plan_in_order}
use Rattle.canvas_envelope.specs.Among.{In}
use Rattle.canvas_envelope.specs.Content.{Content, number_of}
use Rattle.canvas_effects.specs.Effects.{outcome_of, part_of, header_flow}
use Rattle.canvas_effects.specs.Events.{Event, start, end_of_line, EventJobs, labelled, flow_outcome, group_flow, header_place, body_event, chosen, input_of_success, message_of, outcome_with, errbacks_in, out, outs, ran, ran_all, events_in_file, items_all}
use Rattle.canvas_effects.specs.Flowing.{Input, no_input, number_input, id_input, LineFlow, run, skips, raise, after_outcome}
use Rattle.canvas_effects.specs.Job.{Job, store, publish, part}
use Rattle.canvas_effects.specs.Placing.{last_task, last_at, placed}
use Rattle.canvas_ran.specs.CallLaws.{HasTask, HasTasks, HasPlace, HasLine, HasLines, Carries, GiveTheSame}

abbrev AJob : Type 0
AJob = Job Content PCarried Outcome

no_store : {c : Content} {t : ℕ} {o : Outcome} → ◌≡◌ {A = AJob} (publish c) (store t o) → ⊥
no_store e = cc

no_part : {c : Content} {g t : ℕ} {d : PCarried} → ◌≡◌ {A = AJob} (publish c) (part g t d) → ⊥
no_part e = cc

either : {A B C : Type 0} → (A → C) → (B → C) → A ⊎ B → C
either f g (inl a) = f a
either f g (inr b) = g b

-- ---- lists

in_parts : {X : Type 0} (x : X) (xs ys : List X) → In x (xs ++ ys) → In x xs ⊎ In x ys
in_parts x [] ys i = inr i
in_parts x (z ∷ xs) ys (inl e) = inl (inl e)
in_parts x (z ∷ xs) ys (inr i) = go (in_parts x xs ys i)
  where
    go : In x xs ⊎ In x ys → In x (z ∷ xs) ⊎ In x ys
    go (inl j) = inl (inr j)
    go (inr j) = inr j

in_first : {X : Type 0} (x : X) (xs ys : List X) → In x xs → In x (xs ++ ys)
in_first x [] ys i = absurd i
in_first x (z ∷ xs) ys (inl e) = inl e
in_first x (z ∷ xs) ys (inr i) = inr (in_first x xs ys i)

in_second : {X : Type 0} (x : X) (xs ys : List X) → In x ys → In x (xs ++ ys)
in_second x [] ys i = i
in_second x (z ∷ xs) ys i = inr (in_second x xs ys i)

-- ---- who publishes

abbrev Publishes : Event → Content → EventJobs → Type 0
Publishes w c js = In (w, publish c) js

abbrev number_in : Event × AJob → ℕ
number_in (v, publish m) = number_of m.own
number_in (v, store t o) = 0
number_in (v, part g t d) = 0

no_stored : {w v : Event} {c : Content} {t : ℕ} {o : Outcome} → ◌≡◌ {A = Event × AJob} (w, publish c) (v, store t o) → ⊥
no_stored e = no_store (ap (λ x. x.1) e)

no_parts : (w v : Event) (c : Content) (p : PPlace) (k : ℕ) → Publishes w c (labelled v (part_of p k)) → ⊥
no_parts w v c p_nowhere k i = i
no_parts w v c (p_group g) k i = i
no_parts w v c (p_chord g n b) k (inl e) = no_part (ap (λ x. x.1) e)
no_parts w v c (p_chord g n b) k (inr i) = i

in_chosen : {X : Type 0} (x : X) (o : Outcome) (xs ys : List X) → In x (chosen o xs ys) → In x xs ⊎ In x ys
in_chosen x (Success n) xs ys i = inl i
in_chosen x (Failure f) xs ys i = inr i

module _ (b : Behaviour) (w : Event) (c : Content) where
  -- what is published is the message of a task that is there
  mutual
    ran_has : (t : Task) (x : Input) (v : Event) (rest : Line) (p : PPlace) → Publishes w c (ran b t x v rest p)
        → HasTask (number_of c.own) (bare_task t)
    ran_has (task k call ls es) x v rest p (inl e) = inl (ap number_in e)
    ran_has (task k call ls es) x v rest p (inr (inl e)) = absurd (no_stored e)
    ran_has (task k call ls es) x v rest p (inr (inr i)) =
        let o : Outcome = outcome_of b (message_of (task k call ls es) x v rest p) in
        either (λ j. inr (inl (all_have ls (input_of_success o) (end_of_line k) j)))
        (λ j. inr (inr (inl (all_have es (id_input k) (end_of_line k) j))))
        (in_chosen (w, publish c) o (ran_all b ls (input_of_success o) (end_of_line k))
        (ran_all b es (id_input k) (end_of_line k)) i)

    all_have : (ts : Tasks) (x : Input) (v : Event) → Publishes w c (ran_all b ts x v)
        → HasTasks (number_of c.own) (bare_tasks ts)
    all_have no_tasks x v i = absurd i
    all_have (and_task t ts) x v i =
        either (λ j. inl (ran_has t x v stop p_nowhere j)) (λ j. inr (all_have ts x v j))
        (in_parts (w, publish c) (ran b t x v stop p_nowhere) (ran_all b ts x v) i)

  errbacks_have : (t : Task) (x : Input) (v : Event) → Publishes w c (ran_all b (errbacks_in t) x v)
      → HasTask (number_of c.own) (bare_task t)
  errbacks_have (task k call ls es) x v i = inr (inr (inl (all_have es x v i)))

  mutual
    line_has : (l : Line) (x : LineFlow) (p : PPlace) (k : ℕ) (v : Event) → Publishes w c (events_in_file b l x p k v)
        → HasLine (number_of c.own) (bare l)
    line_has stop x p k v i = absurd (no_parts w v c p k i)
    line_has (step t rest) (run x) p k v i =
        let flow : LineFlow = after_outcome (outcome_with b t x) in
        either (λ j. inl (ran_has t x v rest p j)) (λ j. inr (line_has rest flow p (no_of t) (end_of_line (no_of t)) j))
        (in_parts (w, publish c) (ran b t x v rest p) (events_in_file b rest flow p (no_of t) (end_of_line (no_of t))) i)
    line_has (step t rest) (skips f) p k v (inl e) = absurd (no_stored e)
    line_has (step t rest) (skips f) p k v (inr i) = inr (line_has rest (skips f) p (no_of t) v i)
    line_has (step t rest) (raise f) p k v (inl e) = absurd (no_stored e)
    line_has (step t rest) (raise f) p k v (inr i) =
        either (λ j. inl (errbacks_have t (id_input (no_of t)) v j)) (λ j. inr (line_has rest (skips f) p (no_of t) v j))
        (in_parts (w, publish c) (ran_all b (errbacks_in t) (id_input (no_of t)) v)
        (events_in_file b rest (skips f) p (no_of t) v) i)
    line_has (group_end g ms) x p k v i = items_have ms x (p_group g) v i
    line_has (chord_end g ms body) x p k v i =
        let flow : LineFlow = group_flow x (outs b ms x) in
        either (λ j. inl (items_have ms x (header_place x g ms body p) v j)) (λ j. inr (line_has body flow p 0 (body_event x ms g v) j))
        (in_parts (w, publish c) (items_all b ms x (header_place x g ms body p) v)
        (events_in_file b body flow p 0 (body_event x ms g v)) i)

    items_have : (ms : Lines) (x : LineFlow) (p : PPlace) (v : Event) → Publishes w c (items_all b ms x p v)
        → HasLines (number_of c.own) (all_bare ms)
    items_have no_lines x p v i = absurd i
    items_have (and_line m ms) x p v i =
        either (λ j. inl (line_has m x p 0 v j)) (λ j. inr (items_have ms x p v j))
        (in_parts (w, publish c) (events_in_file b m x p 0 v) (items_all b ms x p v) i)

-- ---- the tasks in lines with places

task_placed : (t : Task) (p : PPlace) (rest : Line) (n : ℕ) → HasTask n (bare_task t) → HasTask n (last_at p (bare_task t) (bare rest))
task_placed (task k call ls es) p rest n (inl e) = inl e
task_placed (task k call ls es) p rest n (inr (inl h)) = inr (inl h)
task_placed (task k call ls es) p rest n (inr (inr (inl h))) = inr (inr (inl h))
task_placed (task k call ls es) p rest n (inr (inr (inr h))) = absurd h

line_placed : (l : Line) (p : PPlace) (n : ℕ) → HasLine n (bare l) → HasLine n (placed p (bare l))
line_placed stop p n h = absurd h
line_placed (step t rest) p n (inl h) = inl (task_placed t p rest n h)
line_placed (step t rest) p n (inr h) = inr (line_placed rest p n h)
line_placed (group_end g ms) p n h = h
line_placed (chord_end g ms body) p n (inl h) = inl h
line_placed (chord_end g ms body) p n (inr h) = inr (line_placed body p n h)

mutual
  -- a line that ends in a task has its place there
  place_there : (l : Line) (p : PPlace) (n : ℕ) → EndsInTask false l → HasPlace n p → HasLine n (placed p (bare l))
  place_there stop p n e h = absurd (cc)
  place_there (step t rest) p n e h = place_behind t rest p n e h
  place_there (group_end g ms) p n e h = absurd e
  place_there (chord_end g ms body) p n e h = inr (place_there body p n e h)

  place_behind : (t : Task) (rest : Line) (p : PPlace) (n : ℕ) → EndsInTask true rest → HasPlace n p
      → HasLine n (placed p (bare (step t rest)))
  place_behind (task k call ls es) stop p n e h = inl (inr (inr (inr h)))
  place_behind t (step u rest) p n e h = inr (place_behind u rest p n e h)
  place_behind t (group_end g ms) p n e h = absurd e
  place_behind t (chord_end g ms body) p n e h = inr (inr (place_there body p n e h))

-- ---- what the message of a task on a line carries

carries_rest : (t : Task) (x : Input) (v : Event) (rest : Line) (p : PPlace) (n : ℕ) → HasLine n (bare rest)
    → Carries (message_of t x v rest p) n
carries_rest (task k call ls es) x v rest p n h = inr (inr (inr (line_placed rest p n h)))

carries_place : (t : Task) (x : Input) (v : Event) (rest : Line) (p : PPlace) (n : ℕ) → EndsInTask true rest → HasPlace n p
    → Carries (message_of t x v rest p) n
carries_place (task k call ls es) x v stop p n e h = inr (inr (inl h))
carries_place (task k call ls es) x v (step u rest) p n e h = inr (inr (inr (place_behind u rest p n e h)))
carries_place t x v (group_end g ms) p n e h = absurd e
carries_place (task k call ls es) x v (chord_end g ms body) p n e h = inr (inr (inr (inr (place_there body p n e h))))

-- ---- exceptions, which no answer changes

abbrev Excepts : LineFlow → Type 0
Excepts (run x) = ⊥
Excepts (skips f) = Unit {0}
Excepts (raise f) = Unit {0}

fails_first : (k : ℕ) (x : LineFlow) (es : List (ℕ × Outcome)) → Excepts x → Excepts (header_flow ((k, flow_outcome x) ∷ es))
fails_first k (run x) es h = absurd h
fails_first k (skips f) es h = tt
fails_first k (raise f) es h = tt

module _ (b : Behaviour) where
  mutual
    excepted : (l : Line) (x : LineFlow) → Excepts x → Excepts (out b l x)
    excepted stop x h = h
    excepted (step t rest) (run x) h = absurd h
    excepted (step t rest) (skips f) h = excepted rest (skips f) tt
    excepted (step t rest) (raise f) h = excepted rest (skips f) tt
    excepted (group_end g ms) x h = h
    excepted (chord_end g ms body) x h = excepted body (group_flow x (outs b ms x)) (behind_header ms x h)

    behind_header : (ms : Lines) (x : LineFlow) → Excepts x → Excepts (group_flow x (outs b ms x))
    behind_header ms (run x) h = absurd h
    behind_header ms (skips f) h = tt
    behind_header no_lines (raise f) h = tt
    behind_header (and_line m ms) (raise f) h =
        fails_first (last_task 0 (bare m)) (out b m (raise f)) (outs b ms (raise f)) (excepted m (raise f) tt)

-- ---- two behaviours

module _ (one other : Behaviour) (n : ℕ) where
  -- they agree on what is published and carries task n
  abbrev Agree : EventJobs → Type 0
  Agree js = (v : Event) (d : Content) → Publishes v d js → Carries d n → outcome_of one d ≡ outcome_of other d

  agree_first : (xs ys : EventJobs) → Agree (xs ++ ys) → Agree xs
  agree_first xs ys h v d i = h v d (in_first (v, publish d) xs ys i)

  agree_second : (xs ys : EventJobs) → Agree (xs ++ ys) → Agree ys
  agree_second xs ys h v d i = h v d (in_second (v, publish d) xs ys i)

  agree_more : (x : Event × AJob) (ys : EventJobs) → Agree (x ∷ ys) → Agree ys
  agree_more x ys h v d i = h v d (inr i)

  -- the task at the head of a line answers the same
  same_answer : (t : Task) (x : Input) (v : Event) (rest : Line) (p : PPlace) → Agree (ran one t x v rest p)
      → Carries (message_of t x v rest p) n → outcome_with one t x ≡ outcome_with other t x
  same_answer (task k call ls es) x v rest p h i = h v (message_of (task k call ls es) x v rest p) (inl refl) i

  -- what goes out of a line is the same where its messages carry task n, or an exception flows in
  abbrev Kept : PPlace → LineFlow → Type 0
  Kept p x = HasPlace n p ⊎ Excepts x

  kept_body : (ms : Lines) (x : LineFlow) (p : PPlace) → Kept p x → Kept p (group_flow x (outs one ms x))
  kept_body ms x p (inl i) = inl i
  kept_body ms x p (inr i) = inr (behind_header one ms x i)

  kept_header : (g : ℕ) (ms : Lines) (body : Line) (x : LineFlow) (p : PPlace) → EndsInTask false body → Kept p x
      → Kept (header_place x g ms body p) x
  kept_header g ms body (run x) p e (inl i) = inl (place_there body p n e i)
  kept_header g ms body (run x) p e (inr i) = absurd i
  kept_header g ms body (skips f) p e i = inr tt
  kept_header g ms body (raise f) p e i = inr tt

  mutual
    same_out : (table : ℕ → List ℕ) (ends : Bool) (l : Line) (x : LineFlow) (p : PPlace) (k : ℕ) (v : Event) (low high : ℕ) → EndsInTask ends l
        → LineIn table l low high → Kept p x → Agree (events_in_file one l x p k v) → out one l x ≡ out other l x
    same_out table ends stop x p k v low high e r kept h = refl
    same_out table ends (step t rest) (run x) p k v low high e (middle, m, r) (inl i) h =
        let mine : LineFlow = after_outcome (outcome_with one t x) in
        let answer = same_answer t x v rest p
        (agree_first (ran one t x v rest p) (events_in_file one rest mine p (no_of t) (end_of_line (no_of t))) h)
        (carries_place t x v rest p n e i) in
        same_out table true rest mine p (no_of t) (end_of_line (no_of t)) middle high e r (inl i)
        (agree_second (ran one t x v rest p) (events_in_file one rest mine p (no_of t) (end_of_line (no_of t))) h)
        ∙ ap (λ o. out other rest (after_outcome o)) answer
    same_out table ends (step t rest) (run x) p k v low high e r (inr i) h = absurd i
    same_out table ends (step t rest) (skips f) p k v low high e (middle, m, r) kept h =
        same_out table true rest (skips f) p (no_of t) v middle high e r (inr tt)
        (agree_more (v, store (no_of t) (Failure f)) (events_in_file one rest (skips f) p (no_of t) v) h)
    same_out table ends (step t rest) (raise f) p k v low high e (middle, m, r) kept h =
        same_out table true rest (skips f) p (no_of t) v middle high e r (inr tt)
        (agree_second (ran_all one (errbacks_in t) (id_input (no_of t)) v) (events_in_file one rest (skips f) p (no_of t) v)
        (agree_more (v, store (no_of t) (Failure f)) (ran_all one (errbacks_in t) (id_input (no_of t)) v
        ++ events_in_file one rest (skips f) p (no_of t) v) h))
    same_out table ends (group_end g ms) x p k v low high e r kept h = absurd e
    same_out table ends (chord_end g ms body) x p k v low high e (middle, ms_in, body_in, same) kept h =
        let items : EventJobs = items_all one ms x (header_place x g ms body p) v in
        let mine : LineFlow = group_flow x (outs one ms x) in
        let inner : EventJobs = events_in_file one body mine p 0 (body_event x ms g v) in
        same_out table false body mine p 0 (body_event x ms g v) middle high e body_in (kept_body ms x p kept) (agree_second items inner h)
        ∙ ap (λ es. out other body (group_flow x es))
        (same_outs table ms x (header_place x g ms body p) v low middle ms_in (kept_header g ms body x p e kept) (agree_first items inner h))

    same_outs : (table : ℕ → List ℕ) (ms : Lines) (x : LineFlow) (p : PPlace) (v : Event) (low high : ℕ) → LinesIn table ms low high
        → Kept p x → Agree (items_all one ms x p v) → outs one ms x ≡ outs other ms x
    same_outs table no_lines x p v low high r kept h = refl
    same_outs table (and_line m ms) x p v low high (middle, m_in, e, r) kept h =
        let own : EventJobs = events_in_file one m x p 0 v in
        let more : EventJobs = items_all one ms x p v in
        (λ i. (last_task 0 (bare m), flow_outcome (same_out table false m x p 0 v low middle e m_in kept (agree_first own more h) i))
        ∷ same_outs table ms x p v middle high r kept (agree_second own more h) i)

  -- ---- the message itself

  module _ (w : Event) (c : Content) (its : number_of c.own ≡ n) where
    -- the links or the error callbacks of a task, by what it answers
    abbrev Chosen : Behaviour → Tasks → Tasks → ℕ → Outcome → EventJobs
    Chosen b ls es k o = chosen o (ran_all b ls (input_of_success o) (end_of_line k)) (ran_all b es (id_input k) (end_of_line k))

    carries_chosen : (k : ℕ) (call : Call) (ls es : Tasks) (x : Input) (v : Event) (rest : Line) (p : PPlace) (o : Outcome)
        → Publishes w c (Chosen one ls es k o) → Carries (message_of (task k call ls es) x v rest p) n
    carries_chosen k call ls es x v rest p (Success z) j = inl (subst (λ q. HasTasks q (bare_tasks ls)) its
        (all_have one w c ls (number_input z) (end_of_line k) j))
    carries_chosen k call ls es x v rest p (Failure f) j = inr (inl (subst (λ q. HasTasks q (bare_tasks es)) its
        (all_have one w c es (id_input k) (end_of_line k) j)))

    -- callbacks give the same
    abbrev AllSame : Tasks → Type 0
    AllSame ts = (x : Input) (v : Event) → Publishes w c (ran_all one ts x v) → Agree (ran_all one ts x v)
        → Publishes w c (ran_all other ts x v)

    chosen_same : (k : ℕ) (ls es : Tasks) (o : Outcome) → AllSame ls → AllSame es → Publishes w c (Chosen one ls es k o)
        → Agree (Chosen one ls es k o) → Publishes w c (Chosen other ls es k o)
    chosen_same k ls es (Success z) links errbacks j a = links (number_input z) (end_of_line k) j a
    chosen_same k ls es (Failure f) links errbacks j a = errbacks (id_input k) (end_of_line k) j a

    mutual
      ran_same : (t : Task) (x : Input) (v : Event) (rest : Line) (p : PPlace) → Publishes w c (ran one t x v rest p)
          → Agree (ran one t x v rest p) → Publishes w c (ran other t x v rest p)
      ran_same (task k call ls es) x v rest p (inl e) h = inl e
      ran_same (task k call ls es) x v rest p (inr (inl e)) h = absurd (no_stored e)
      ran_same (task k call ls es) x v rest p (inr (inr i)) h =
          let m : Content = message_of (task k call ls es) x v rest p in
          let mine : Outcome = outcome_of one m in
          inr (inr (subst (λ o. Publishes w c (Chosen other ls es k o))
          (h v m (inl refl) (carries_chosen k call ls es x v rest p mine i))
          (chosen_same k ls es mine (λ y u. all_same ls y u) (λ y u. all_same es y u) i (λ u d j. h u d (inr (inr j))))))

      all_same : (ts : Tasks) (x : Input) (v : Event) → Publishes w c (ran_all one ts x v) → Agree (ran_all one ts x v)
          → Publishes w c (ran_all other ts x v)
      all_same no_tasks x v i h = absurd i
      all_same (and_task t ts) x v i h =
          let first : EventJobs = ran one t x v stop p_nowhere in
          let second : EventJobs = ran_all one ts x v in
          either (λ j. in_first (w, publish c) (ran other t x v stop p_nowhere) (ran_all other ts x v)
          (ran_same t x v stop p_nowhere j (agree_first first second h)))
          (λ j. in_second (w, publish c) (ran other t x v stop p_nowhere) (ran_all other ts x v)
          (all_same ts x v j (agree_second first second h)))
          (in_parts (w, publish c) first second i)

    here_it_is : (l : Line) (x : LineFlow) (p : PPlace) (k : ℕ) (v : Event) → Publishes w c (events_in_file one l x p k v) → HasLine n (bare l)
    here_it_is l x p k v i = subst (λ q. HasLine q (bare l)) its (line_has one w c l x p k v i)

    -- the place of a header, after which the message is published, or an exception flows
    header_kept : (g : ℕ) (ms : Lines) (body : Line) (x : LineFlow) (p : PPlace) → HasLine n (bare body) → Kept (header_place x g ms body p) x
    header_kept g ms body (run x) p h = inl (line_placed body p n h)
    header_kept g ms body (skips f) p h = inr tt
    header_kept g ms body (raise f) p h = inr tt

    mutual
      line_same : (table : ℕ → List ℕ) (l : Line) (x : LineFlow) (p : PPlace) (k : ℕ) (v : Event) (low high : ℕ) → LineIn table l low high
          → Publishes w c (events_in_file one l x p k v) → Agree (events_in_file one l x p k v)
          → Publishes w c (events_in_file other l x p k v)
      line_same table stop x p k v low high r i h = i
      line_same table (step t rest) (run x) p k v low high (middle, m, r) i h =
          let flow : LineFlow = after_outcome (outcome_with one t x) in
          let first : EventJobs = ran one t x v rest p in
          let second : EventJobs = events_in_file one rest flow p (no_of t) (end_of_line (no_of t)) in
          let behind : EventJobs = events_in_file other rest (after_outcome (outcome_with other t x)) p (no_of t) (end_of_line (no_of t)) in
          either (λ j. in_first (w, publish c) (ran other t x v rest p) behind (ran_same t x v rest p j (agree_first first second h)))
          (λ j. in_second (w, publish c) (ran other t x v rest p) behind
          (subst (λ o. Publishes w c (events_in_file other rest (after_outcome o) p (no_of t) (end_of_line (no_of t))))
          (same_answer t x v rest p (agree_first first second h) (carries_rest t x v rest p n
          (here_it_is rest flow p (no_of t) (end_of_line (no_of t)) j)))
          (line_same table rest flow p (no_of t) (end_of_line (no_of t)) middle high r j (agree_second first second h))))
          (in_parts (w, publish c) first second i)
      line_same table (step t rest) (skips f) p k v low high (middle, m, r) (inl e) h = absurd (no_stored e)
      line_same table (step t rest) (skips f) p k v low high (middle, m, r) (inr i) h =
          inr (line_same table rest (skips f) p (no_of t) v middle high r i (agree_more (v, store (no_of t) (Failure f))
          (events_in_file one rest (skips f) p (no_of t) v) h))
      line_same table (step t rest) (raise f) p k v low high r (inl e) h = absurd (no_stored e)
      line_same table (step t rest) (raise f) p k v low high (middle, m, r) (inr i) h =
          let first : EventJobs = ran_all one (errbacks_in t) (id_input (no_of t)) v in
          let second : EventJobs = events_in_file one rest (skips f) p (no_of t) v in
          let agreed : Agree (first ++ second) = agree_more (v, store (no_of t) (Failure f)) (first ++ second) h in
          let called : EventJobs = ran_all other (errbacks_in t) (id_input (no_of t)) v in
          let behind : EventJobs = events_in_file other rest (skips f) p (no_of t) v in
          inr (either (λ j. in_first (w, publish c) called behind
          (all_same (errbacks_in t) (id_input (no_of t)) v j (agree_first first second agreed)))
          (λ j. in_second (w, publish c) called behind
          (line_same table rest (skips f) p (no_of t) v middle high r j (agree_second first second agreed)))
          (in_parts (w, publish c) first second i))
      line_same table (group_end g ms) x p k v low high (r, same) i h = items_same table ms x (p_group g) v low high r i h
      line_same table (chord_end g ms body) x p k v low high (middle, ms_in, body_in, same) i h =
          let hp : PPlace = header_place x g ms body p in
          let flow : LineFlow = group_flow x (outs one ms x) in
          let first : EventJobs = items_all one ms x hp v in
          let second : EventJobs = events_in_file one body flow p 0 (body_event x ms g v) in
          let behind : EventJobs = events_in_file other body (group_flow x (outs other ms x)) p 0 (body_event x ms g v) in
          either (λ j. in_first (w, publish c) (items_all other ms x hp v) behind
          (items_same table ms x hp v low middle ms_in j (agree_first first second h)))
          (λ j. in_second (w, publish c) (items_all other ms x hp v) behind
          (subst (λ os. Publishes w c (events_in_file other body (group_flow x os) p 0 (body_event x ms g v)))
          (same_outs table ms x hp v low middle ms_in (header_kept g ms body x p
          (here_it_is body flow p 0 (body_event x ms g v) j)) (agree_first first second h))
          (line_same table body flow p 0 (body_event x ms g v) middle high body_in j (agree_second first second h))))
          (in_parts (w, publish c) first second i)

      items_same : (table : ℕ → List ℕ) (ms : Lines) (x : LineFlow) (p : PPlace) (v : Event) (low high : ℕ) → LinesIn table ms low high
          → Publishes w c (items_all one ms x p v) → Agree (items_all one ms x p v) → Publishes w c (items_all other ms x p v)
      items_same table no_lines x p v low high r i h = absurd i
      items_same table (and_line m ms) x p v low high (middle, m_in, e, r) i h =
          let first : EventJobs = events_in_file one m x p 0 v in
          let second : EventJobs = items_all one ms x p v in
          either (λ j. in_first (w, publish c) (events_in_file other m x p 0 v) (items_all other ms x p v)
          (line_same table m x p 0 v low middle m_in j (agree_first first second h)))
          (λ j. in_second (w, publish c) (events_in_file other m x p 0 v) (items_all other ms x p v)
          (items_same table ms x p v middle high r j (agree_second first second h)))
          (in_parts (w, publish c) first second i)

pub give_the_same : (one other : Behaviour) (l : Line) → IsPlan l → GiveTheSame one other l
give_the_same one other l plan v c i h =
    line_same one other (number_of c.own) v c refl (members l) l (run no_input) p_nowhere 0 start 1 _ (plan_in_order l plan) i h
