-- What the proof has as a rest and the place of its end, a message has with the place on its line's last task: the effects and the evaluation are the same.
use Rattle.std.proofs.Common.{◌≡◌, ℕ, Bool, true, false, List, [], ◌∷◌, ◌++◌, map, Option, Some, None, refl, sym, ap, ap₂, ◌∙◌, arith}
use Rattle.std.proofs.lemmas.List.{map-append}
use Rattle.std.specs.Prelude.{ℤ}
use Rattle.canvas_task.specs.Apply.{Behaviour}
use Rattle.canvas_task.specs.declared.outcome.Fault.{Fault}
use Rattle.canvas_task.specs.declared.outcome.Fault.TheVariants as fault
use Rattle.canvas_task.specs.declared.outcome.Outcome.{Outcome}
use Rattle.canvas_task.specs.declared.outcome.Outcome.TheVariants.{Success, Failure}
use Rattle.canvas_semantics.specs.Tree.{Task, task, Tasks, no_tasks, and_task}
use Rattle.canvas_semantics.specs.Evaluation as eval
use Rattle.canvas_semantics.specs.FileOrder.{EndsInTask}
use Rattle.canvas_semantics.specs.Line.{Line, stop, step, group_end, chord_end, Lines, no_lines, and_line, no_of}
use Rattle.canvas_rewrite.specs.FrozenView.{PCarried}
use Rattle.canvas_semantics.specs.PlacedLine.{PTask, p_task, PPlace, p_nowhere, p_group, p_chord, PLine, p_stop, p_step, p_group_end, p_chord_end, bare, all_bare, bare_task, bare_tasks}
use Rattle.canvas_envelope.specs.Content.{Content, line, number_of, call_of, links_of, errbacks_of, place_of}
use Rattle.canvas_effects.specs.Effects as effects
use Rattle.canvas_effects.specs.Events as events
use Rattle.canvas_effects.specs.Events.{Event, parent_of, flow_outcome, chosen, end_of_line, running}
use Rattle.canvas_envelope.specs.Fits.{how_many}
use Rattle.canvas_effects.specs.Flowing.{Input, number_input, list_input, id_input, LineFlow, run, skips, raise, after_outcome}
use Rattle.canvas_effects.specs.Job.{Job, store, publish, part}
use Rattle.canvas_effects.specs.Placing.{place_before, last_at, placed, end_place, last_task}
use Rattle.canvas_runs.proofs.Plans.Effects.{Jobs, failed, header_fault, members_place, when_empty, at_stop, message, callbacks, enter, enter_all, called}
use Rattle.canvas_runs.proofs.Plans.Evaluation.{Items, labelled, joined, header_place, body_event, result, out, outs, ran, ran_all, items, items_all}
use Rattle.canvas_runs.proofs.Plans.Messages.{Place, nowhere, in_group, in_chord, Carried, carried, errbacks_of as its_errbacks, lines_length, last_from, last_of, Message, header, joined_number}

-- ---- places, messages and jobs

abbrev chord_place : ℕ → PCarried → PPlace
chord_place g c = p_chord g c.size c.body

abbrev mutual
  pub put : Place → PPlace
  put nowhere = p_nowhere
  put (in_group g) = p_group g
  put (in_chord g c) = chord_place g (p_carried c)

  pub p_carried : Carried → PCarried
  p_carried (carried n body q) = record { size = n; body = placed (put q) (bare body) }

abbrev pub content : Message → Content
content m =
    record {
      parent = m.parent;
      own = p_task m.no m.call (bare_tasks m.links) (bare_tasks m.errbacks) (place_before (bare m.rest) p_nowhere (put m.place));
      rest = placed (put m.place) (bare m.rest);
    }

abbrev pub sent : Job Message Carried Outcome → Job Content PCarried Outcome
sent (store t o) = store t o
sent (publish m) = publish (content m)
sent (part g t c) = part g t (p_carried c)

abbrev pub all_sent : Jobs → effects.Jobs
all_sent js = map sent js

-- ---- lines

number_bare : (t : Task) → number_of (bare_task t) ≡ no_of t
number_bare (task k call ls es) = refl

pub last_bare : (l : Line) (k : ℕ) → last_task k (bare l) ≡ last_from k l
last_bare stop k = refl
last_bare (step t l) k = ap (λ n. last_task n (bare l)) (number_bare t) ∙ last_bare l (no_of t)
last_bare (group_end g ms) k = refl
last_bare (chord_end g ms b) k = last_bare b 0

pub many_bare : (ms : Lines) → how_many (all_bare ms) ≡ lines_length ms
many_bare no_lines = refl
many_bare (and_line m ms) = omega (arith, many_bare ms)

mutual
  fault_bare : (l : Line) (f : Fault) → effects.fault_at_end (bare l) f ≡ failed l f
  fault_bare stop f = refl
  fault_bare (step t l) f = refl
  fault_bare (group_end g ms) f = refl
  fault_bare (chord_end g ms b) f = ap (effects.fault_at_end (bare b)) (behind_bare ms f) ∙ fault_bare b (header_fault ms f)

  pub behind_bare : (ms : Lines) (f : Fault) → effects.fault_behind (all_bare ms) f ≡ header_fault ms f
  behind_bare no_lines f = refl
  behind_bare (and_line m ms) f = ap₂ (λ k g. fault.Chord k (eval.why_of g)) (last_bare m 0) (fault_bare m f)

-- a header that runs hands its members this place
header_put : (g : ℕ) (m : Line) (ms : Lines) (body : Line) (p : Place)
    → p_chord g (how_many (all_bare (and_line m ms))) (placed (put p) (bare body)) ≡ put (members_place g (and_line m ms) body p)
header_put g m ms body p = ap (λ n. p_chord g n (placed (put p) (bare body))) (many_bare (and_line m ms))

-- ---- what flows into a line

calls_sent : (ts : Tasks) (x : Input) (u : Option ℕ) → effects.callbacks (bare_tasks ts) x u ≡ all_sent (callbacks ts x u)
calls_sent no_tasks x u = refl
calls_sent (and_task (task k call ls es) ts) x u = ap (λ js. publish (content (message (task k call ls es) x u stop nowhere)) ∷ js) (calls_sent ts x u)

part_sent : (p : Place) (k : ℕ) → effects.part_of (put p) k ≡ all_sent (at_stop p k)
part_sent nowhere k = refl
part_sent (in_group g) k = refl
part_sent (in_chord g c) k = refl

joined_sent : (xs ys : effects.Jobs) (js ks : Jobs) → xs ≡ all_sent js → ys ≡ all_sent ks → xs ++ ys ≡ all_sent (js ++ ks)
joined_sent xs ys js ks e f = ap₂ (λ a b. a ++ b) e f ∙ sym (map-append sent js ks)

empty_sent : (ms : Lines) (xs : effects.Jobs) (js : Jobs) → xs ≡ all_sent js → effects.when_empty (all_bare ms) xs ≡ all_sent (when_empty ms js)
empty_sent no_lines xs js e = e
empty_sent (and_line m ms) xs js e = refl

members_sent : (g : ℕ) (ms : Lines) (body : Line) (p : Place) (x : LineFlow) (u : Option ℕ)
    → effects.enter_all (all_bare ms) x (put (members_place g ms body p)) u ≡ all_sent (enter_all ms x (members_place g ms body p) u)
    → effects.enter_all (all_bare ms) x (p_chord g (how_many (all_bare ms)) (placed (put p) (bare body))) u
    ≡ all_sent (enter_all ms x (members_place g ms body p) u)
members_sent g no_lines body p x u e = refl
members_sent g (and_line m ms) body p x u e = ap (λ q. effects.enter_all (all_bare (and_line m ms)) x q u) (header_put g m ms body p) ∙ e

mutual
  pub enter_sent : (l : Line) (x : LineFlow) (p : Place) (k : ℕ) (u : Option ℕ) → effects.enter (bare l) x (put p) k u ≡ all_sent (enter l x p k u)
  enter_sent stop x p k u = part_sent p k
  enter_sent (step (task n call ls es) rest) (run x) p k u = refl
  enter_sent (step (task n call ls es) rest) (skips f) p k u = ap (λ js. store n (Failure f) ∷ js) (enter_sent rest (skips f) p n u)
  enter_sent (step (task n call ls es) rest) (raise f) p k u =
      ap (λ js. store n (Failure f) ∷ js)
      (joined_sent (effects.callbacks (bare_tasks es) (id_input n) u) (effects.enter (bare rest) (skips f) (put p) n u) (callbacks es (id_input n) u)
      (enter rest (skips f) p n u)
      (calls_sent es (id_input n) u) (enter_sent rest (skips f) p n u))
  enter_sent (group_end g ms) x p k u = enter_all_sent ms x (in_group g) u
  enter_sent (chord_end g ms body) (run x) p k u =
      joined_sent (effects.enter_all (all_bare ms) (run x) (p_chord g (how_many (all_bare ms)) (placed (put p) (bare body))) u)
      (effects.when_empty (all_bare ms) (effects.enter (bare body) (run (list_input [])) (put p) 0 u)) (enter_all ms (run x) (members_place g ms body p) u)
      (when_empty ms (enter body (run (list_input [])) p 0 u))
      (members_sent g ms body p (run x) u (enter_all_sent ms (run x) (members_place g ms body p) u))
      (empty_sent ms _ (enter body (run (list_input [])) p 0 u) (enter_sent body (run (list_input [])) p 0 u))
  enter_sent (chord_end g ms body) (skips f) p k u =
      joined_sent (effects.enter_all (all_bare ms) (skips f) p_nowhere u) (effects.enter (bare body) (skips f) (put p) 0 u) (enter_all ms (skips f) nowhere u)
      (enter body (skips f) p 0 u)
      (enter_all_sent ms (skips f) nowhere u) (enter_sent body (skips f) p 0 u)
  enter_sent (chord_end g ms body) (raise f) p k u =
      joined_sent (effects.enter_all (all_bare ms) (raise f) p_nowhere u) (effects.enter (bare body) (raise (effects.fault_behind (all_bare ms) f)) (put p) 0 u)
      (enter_all ms (raise f) nowhere u) (enter body (raise (header_fault ms f)) p 0 u) (enter_all_sent ms (raise f) nowhere u)
      (ap (λ e. effects.enter (bare body) (raise e) (put p) 0 u) (behind_bare ms f) ∙ enter_sent body (raise (header_fault ms f)) p 0 u)

  pub enter_all_sent : (ms : Lines) (x : LineFlow) (p : Place) (u : Option ℕ) → effects.enter_all (all_bare ms) x (put p) u ≡ all_sent (enter_all ms x p u)
  enter_all_sent no_lines x p u = refl
  enter_all_sent (and_line m ms) x p u =
      joined_sent (effects.enter (bare m) x (put p) 0 u) (effects.enter_all (all_bare ms) x (put p) u) (enter m x p 0 u) (enter_all ms x p u)
      (enter_sent m x p 0 u) (enter_all_sent ms x p u)

-- ---- the place that a line has is overwritten

before_twice : (l : PLine) (own p q : PPlace) → place_before (placed q l) (place_before l own q) p ≡ place_before l own p
before_twice p_stop own p q = refl
before_twice (p_step t l) own p q = refl
before_twice (p_group_end g ms) own p q = refl
before_twice (p_chord_end g ms b) own p q = refl

last_twice : (t : PTask) (l : PLine) (p q : PPlace) → last_at p (last_at q t l) (placed q l) ≡ last_at p t l
last_twice t l p q = ap (λ w. p_task (number_of t) (call_of t) (links_of t) (errbacks_of t) w) (before_twice l (place_of t) p q)

pub placed_twice : (l : PLine) (p q : PPlace) → placed p (placed q l) ≡ placed p l
placed_twice p_stop p q = refl
placed_twice (p_step t l) p q = ap₂ p_step (last_twice t l p q) (placed_twice l p q)
placed_twice (p_group_end g ms) p q = refl
placed_twice (p_chord_end g ms b) p q = ap (p_chord_end g ms) (placed_twice b p q)

pub enter_placed : (l : PLine) (x : LineFlow) (p q : PPlace) (k : ℕ) (u : Option ℕ) → effects.enter (placed q l) x p k u ≡ effects.enter l x p k u
enter_placed p_stop x p q k u = refl
enter_placed (p_step t l) (run x) p q k u = ap₂ (λ w r. publish (effects.message u w x r) ∷ []) (last_twice t l p q) (placed_twice l p q)
enter_placed (p_step t l) (skips f) p q k u = ap (λ js. store (number_of t) (Failure f) ∷ js) (enter_placed l (skips f) p q (number_of t) u)
enter_placed (p_step t l) (raise f) p q k u =
    ap (λ js. store (number_of t) (Failure f) ∷ (effects.callbacks (errbacks_of t) (id_input (number_of t)) u ++ js))
    (enter_placed l (skips f) p q (number_of t) u)
enter_placed (p_group_end g ms) x p q k u = refl
enter_placed (p_chord_end g ms b) (run x) p q k u =
    ap₂ (λ r js. effects.enter_all ms (run x) (p_chord g (how_many ms) r) u ++ effects.when_empty ms js) (placed_twice b p q)
    (enter_placed b (run (list_input [])) p q 0 u)
enter_placed (p_chord_end g ms b) (skips f) p q k u = ap (λ js. effects.enter_all ms (skips f) p_nowhere u ++ js) (enter_placed b (skips f) p q 0 u)
enter_placed (p_chord_end g ms b) (raise f) p q k u =
    ap (λ js. effects.enter_all ms (raise f) p_nowhere u ++ js) (enter_placed b (raise (effects.fault_behind ms f)) p q 0 u)

-- ---- and it is read back

mutual
  end_given : (p : PPlace) (l : Line) → EndsInTask false l → end_place (placed p (bare l)) ≡ p
  end_given p stop e = absurd (let bad : false ≡ true = e in cc)
  end_given p (step t l) e = end_behind p (bare_task t) l e
  end_given p (group_end g ms) e = elim e [ ]
  end_given p (chord_end g ms b) e = end_given p b e

  end_behind : (p : PPlace) (t : PTask) (l : Line) → EndsInTask true l → end_place (p_step (last_at p t (bare l)) (placed p (bare l))) ≡ p
  end_behind p t stop e = refl
  end_behind p t (step u l) e = end_behind p (bare_task u) l e
  end_behind p t (group_end g ms) e = elim e [ ]
  end_behind p t (chord_end g ms b) e = end_given p b e

mutual
  none_given : (l : Line) → end_place (placed p_nowhere (bare l)) ≡ p_nowhere
  none_given stop = refl
  none_given (step t l) = none_behind (bare_task t) l
  none_given (group_end g ms) = refl
  none_given (chord_end g ms b) = none_given b

  none_behind : (t : PTask) (l : Line) → end_place (p_step (last_at p_nowhere t (bare l)) (placed p_nowhere (bare l))) ≡ p_nowhere
  none_behind t stop = refl
  none_behind t (step u l) = none_behind (bare_task u) l
  none_behind t (group_end g ms) = refl
  none_behind t (chord_end g ms b) = none_given b

-- a line after a task, or that isn't empty, whose end goes to a group or chord ends in a task
abbrev pub EndsAt : Bool → Place → Line → Type 0
EndsAt behind nowhere l = Unit {0}
EndsAt behind (in_group g) l = EndsInTask behind l
EndsAt behind (in_chord g c) l = EndsInTask behind l

own_bare : Message → PTask
own_bare m = p_task m.no m.call (bare_tasks m.links) (bare_tasks m.errbacks) p_nowhere

pub end_of_body : (p : Place) (l : Line) → EndsAt false p l → end_place (placed (put p) (bare l)) ≡ put p
end_of_body nowhere l e = none_given l
end_of_body (in_group g) l e = end_given (p_group g) l e
end_of_body (in_chord g c) l e = end_given (put (in_chord g c)) l e

end_by : (m : Message) (p : Place) → m.place ≡ p → EndsAt true p m.rest → end_place (line (content m)) ≡ put p
unfolding own_bare
end_by m nowhere e h =
    ap (λ q. end_place (p_step (last_at (put q) (own_bare m) (bare m.rest)) (placed (put q) (bare m.rest)))) e ∙ none_behind (own_bare m) m.rest
end_by m (in_group g) e h =
    ap (λ q. end_place (p_step (last_at (put q) (own_bare m) (bare m.rest)) (placed (put q) (bare m.rest)))) e ∙ end_behind (p_group g) (own_bare m) m.rest h
end_by m (in_chord g c) e h =
    ap (λ q. end_place (p_step (last_at (put q) (own_bare m) (bare m.rest)) (placed (put q) (bare m.rest)))) e
    ∙ end_behind (put (in_chord g c)) (own_bare m) m.rest h

pub end_of_message : (m : Message) → EndsAt true m.place m.rest → end_place (line (content m)) ≡ put m.place
end_of_message m h = end_by m m.place refl h

-- ---- the jobs of a message's end, and of a completed header, before they are put in order

called_sent : (links errbacks : Tasks) (k : ℕ) (o : Outcome)
    → effects.called (bare_tasks links) (bare_tasks errbacks) k o ≡ all_sent (called links errbacks k o)
called_sent links errbacks k (Success n) = calls_sent links (number_input n) (Some k)
called_sent links errbacks k (Failure f) = calls_sent errbacks (id_input k) (Some k)

pub ended_sent : (m : Message) (o : Outcome) → EndsAt true m.place m.rest
    → effects.called (bare_tasks m.links) (bare_tasks m.errbacks) m.no o ++ effects.enter (content m).rest (after_outcome o) (end_place (line (content m))) m.no
    (Some m.no)
    ≡ all_sent (called m.links m.errbacks m.no o ++ enter m.rest (after_outcome o) m.place m.no (Some m.no))
ended_sent m o h =
    joined_sent _ _ (called m.links m.errbacks m.no o) (enter m.rest (after_outcome o) m.place m.no (Some m.no)) (called_sent m.links m.errbacks m.no o)
    (ap (λ p. effects.enter (content m).rest (after_outcome o) p m.no (Some m.no)) (end_of_message m h)
    ∙ (enter_placed (bare m.rest) (after_outcome o) (put m.place) (put m.place) m.no (Some m.no)
    ∙ enter_sent m.rest (after_outcome o) m.place m.no (Some m.no)))

-- what a header's outcomes give
behind_number : (n : ℤ) (x : eval.Flow) → effects.into_body (eval.in_front n x) ≡ joined_number n (effects.into_body x)
behind_number n eval.nothing = refl
behind_number n (eval.num m) = refl
behind_number n (eval.list ns) = refl
behind_number n (eval.id k) = refl
behind_number n (eval.skip f) = refl
behind_number n (eval.raised f) = refl

pub header_same : (es : List (ℕ × Outcome)) → effects.header_flow es ≡ header es
header_same [] = refl
header_same ((t, Success n) ∷ es) = behind_number n (eval.gathered (map (λ e. (e.0, Some e.1)) es)) ∙ ap (joined_number n) (header_same es)
header_same ((t, Failure f) ∷ es) = refl

pub completed_sent : (n : ℕ) (body : Line) (q : Place) (es : List (ℕ × Outcome)) → EndsAt false q body
    → effects.enter (placed (put q) (bare body)) (effects.header_flow es) (end_place (placed (put q) (bare body))) 0 None
    ≡ all_sent (enter body (header es) q 0 None)
completed_sent n body q es h =
    ap₂ (λ x p. effects.enter (placed (put q) (bare body)) x p 0 None) (header_same es) (end_of_body q body h)
    ∙ (enter_placed (bare body) (header es) (put q) (put q) 0 None ∙ enter_sent body (header es) q 0 None)

-- ---- evaluation with events

abbrev pub both_sent : Event × Job Message Carried Outcome → Event × Job Content PCarried Outcome
both_sent i = (i.0, sent i.1)

abbrev pub items_of : Items → events.EventJobs
items_of is = map both_sent is

items_joined : (xs ys : events.EventJobs) (is js : Items) → xs ≡ items_of is → ys ≡ items_of js → xs ++ ys ≡ items_of (is ++ js)
items_joined xs ys is js e f = ap₂ (λ a b. a ++ b) e f ∙ sym (map-append both_sent is js)

stop_items : (p : Place) (k : ℕ) (v : Event) → events.labelled v (effects.part_of (put p) k) ≡ items_of (labelled v (at_stop p k))
stop_items nowhere k v = refl
stop_items (in_group g) k v = refl
stop_items (in_chord g c) k v = refl

module _ (behaviour : Behaviour) where
  result_same : (t : Task) (x : Input) → events.outcome_with behaviour t x ≡ result behaviour t x
  result_same (task k call ls es) x = refl

errbacks_same : (t : Task) → events.errbacks_in t ≡ its_errbacks t
errbacks_same (task k call ls es) = refl

joined_same : (x : LineFlow) (es : List (ℕ × Outcome)) → events.group_flow x es ≡ joined x es
joined_same (run x) es = header_same es
joined_same (skips f) es = refl
joined_same (raise f) [] = refl
joined_same (raise f) (e ∷ es) = header_same (e ∷ es)

module _ (behaviour : Behaviour) where
  head_same : (m : Line) (ms : Lines) (x : LineFlow) → last_task 0 (bare m) ≡ last_of m → events.out behaviour m x ≡ out behaviour m x
      → events.outs behaviour ms x ≡ outs behaviour ms x → events.outs behaviour (and_line m ms) x ≡ outs behaviour (and_line m ms) x
  head_same m ms x e f r = ap₂ (λ k y. (k, flow_outcome y) ∷ events.outs behaviour ms x) e f ∙ ap (λ es. (last_of m, flow_outcome (out behaviour m x)) ∷ es) r

  mutual
    pub out_same : (l : Line) (x : LineFlow) → events.out behaviour l x ≡ out behaviour l x
    out_same stop x = refl
    out_same (step t rest) (run x) = ap (λ o. events.out behaviour rest (after_outcome o)) (result_same behaviour t x)
        ∙ out_same rest (after_outcome (result behaviour t x))
    out_same (step t rest) (skips f) = out_same rest (skips f)
    out_same (step t rest) (raise f) = out_same rest (skips f)
    out_same (group_end g ms) x = refl
    out_same (chord_end g ms body) x = ap (events.out behaviour body) (joined_same x (events.outs behaviour ms x) ∙ ap (joined x) (outs_same ms x))
        ∙ out_same body (joined x (outs behaviour ms x))

    pub outs_same : (ms : Lines) (x : LineFlow) → events.outs behaviour ms x ≡ outs behaviour ms x
    outs_same no_lines x = refl
    outs_same (and_line m ms) x = head_same m ms x (last_bare m 0) (out_same m x) (outs_same ms x)

chosen_same : (o : Outcome) (xs ys : events.EventJobs) (is js : Items) → xs ≡ items_of is → ys ≡ items_of js → chosen o xs ys ≡ items_of (chosen o is js)
chosen_same (Success n) xs ys is js e f = e
chosen_same (Failure n) xs ys is js e f = f

module _ (behaviour : Behaviour) where
  mutual
    ran_sent : (t : Task) (x : Input) (v : Event) (rest : Line) (p : Place) → events.ran behaviour t x v rest (put p) ≡ items_of (ran behaviour t x v rest p)
    ran_sent (task k call ls es) x v rest p =
        let m : Message = message (task k call ls es) x (parent_of v) rest p in
        let o : Outcome = result behaviour (task k call ls es) x in
        ap (λ is. (v, publish (content m)) ∷ (running k, store k o) ∷ is)
        (chosen_same o _ _ (ran_all behaviour ls (events.input_of_success o) (end_of_line k)) (ran_all behaviour es (id_input k) (end_of_line k))
        (ran_all_sent ls (events.input_of_success o) (end_of_line k)) (ran_all_sent es (id_input k) (end_of_line k)))

    ran_all_sent : (ts : Tasks) (x : Input) (v : Event) → events.ran_all behaviour ts x v ≡ items_of (ran_all behaviour ts x v)
    ran_all_sent no_tasks x v = refl
    ran_all_sent (and_task t ts) x v =
        items_joined (events.ran behaviour t x v stop p_nowhere) (events.ran_all behaviour ts x v) (ran behaviour t x v stop nowhere) (ran_all behaviour ts x v)
        (ran_sent t x v stop nowhere) (ran_all_sent ts x v)

event_same : (x : LineFlow) (ms : Lines) (g : ℕ) (v : Event) → events.body_event x ms g v ≡ body_event x ms g v
event_same (run x) no_lines g v = refl
event_same (run x) (and_line m ms) g v = refl
event_same (skips f) ms g v = refl
event_same (raise f) ms g v = refl

module _ (behaviour : Behaviour) where
  -- where a header's members go
  place_same : (x : LineFlow) (g : ℕ) (ms : Lines) (body : Line) (p : Place) (v : Event)
      → events.items_all behaviour ms x (put (header_place x g ms body p)) v ≡ items_of (items_all behaviour ms x (header_place x g ms body p) v)
      → events.items_all behaviour ms x (events.header_place x g ms body (put p)) v ≡ items_of (items_all behaviour ms x (header_place x g ms body p) v)
  place_same (run x) g no_lines body p v e = refl
  place_same (run x) g (and_line m ms) body p v e = ap (λ q. events.items_all behaviour (and_line m ms) (run x) q v) (header_put g m ms body p) ∙ e
  place_same (skips f) g ms body p v e = e
  place_same (raise f) g ms body p v e = e

  mutual
    pub items_sent : (l : Line) (x : LineFlow) (p : Place) (k : ℕ) (v : Event)
        → events.events_in_file behaviour l x (put p) k v ≡ items_of (items behaviour l x p k v)
    items_sent stop x p k v = stop_items p k v
    items_sent (step t rest) (run x) p k v =
        items_joined (events.ran behaviour t x v rest (put p))
        (events.events_in_file behaviour rest (after_outcome (events.outcome_with behaviour t x)) (put p) (no_of t) (end_of_line (no_of t)))
        (ran behaviour t x v rest p)
        (items behaviour rest (after_outcome (result behaviour t x)) p (no_of t) (end_of_line (no_of t))) (ran_sent behaviour t x v rest p)
        (ap (λ o. events.events_in_file behaviour rest (after_outcome o) (put p) (no_of t) (end_of_line (no_of t))) (result_same behaviour t x)
        ∙ items_sent rest (after_outcome (result behaviour t x)) p (no_of t) (end_of_line (no_of t)))
    items_sent (step t rest) (skips f) p k v = ap (λ is. (v, store (no_of t) (Failure f)) ∷ is) (items_sent rest (skips f) p (no_of t) v)
    items_sent (step t rest) (raise f) p k v =
        ap (λ is. (v, store (no_of t) (Failure f)) ∷ is)
        (items_joined (events.ran_all behaviour (events.errbacks_in t) (id_input (no_of t)) v)
        (events.events_in_file behaviour rest (skips f) (put p) (no_of t) v) (ran_all behaviour (its_errbacks t) (id_input (no_of t)) v)
        (items behaviour rest (skips f) p (no_of t) v)
        (ap (λ es. events.ran_all behaviour es (id_input (no_of t)) v) (errbacks_same t) ∙ ran_all_sent behaviour (its_errbacks t) (id_input (no_of t)) v)
        (items_sent rest (skips f) p (no_of t) v))
    items_sent (group_end g ms) x p k v = items_all_sent ms x (in_group g) v
    items_sent (chord_end g ms body) x p k v =
        items_joined (events.items_all behaviour ms x (events.header_place x g ms body (put p)) v)
        (events.events_in_file behaviour body (events.group_flow x (events.outs behaviour ms x)) (put p) 0 (events.body_event x ms g v))
        (items_all behaviour ms x (header_place x g ms body p) v) (items behaviour body (joined x (outs behaviour ms x)) p 0 (body_event x ms g v))
        (place_same x g ms body p v (items_all_sent ms x (header_place x g ms body p) v))
        (ap₂ (λ y w. events.events_in_file behaviour body y (put p) 0 w) (joined_same x (events.outs behaviour ms x) ∙ ap (joined x) (outs_same behaviour ms x))
        (event_same x ms g v) ∙ items_sent body (joined x (outs behaviour ms x)) p 0 (body_event x ms g v))

    pub items_all_sent : (ms : Lines) (x : LineFlow) (p : Place) (v : Event)
        → events.items_all behaviour ms x (put p) v ≡ items_of (items_all behaviour ms x p v)
    items_all_sent no_lines x p v = refl
    items_all_sent (and_line m ms) x p v =
        items_joined (events.events_in_file behaviour m x (put p) 0 v) (events.items_all behaviour ms x (put p) v) (items behaviour m x p 0 v)
        (items_all behaviour ms x p v) (items_sent m x p 0 v) (items_all_sent ms x p v)
