-- What a worker does of a message or a header that a book knows: each store is of a task that it knows, and the part is that of a chord's member, whose
-- task is the one that ended or is stored before.
use Rattle.std.proofs.Common.{⊎_elim, ◌≡◌, ◌⊎◌, ◌∙◌, ℕ, Bool, true, false, true≢false, List, [], ◌∷◌, ◌++◌, Option, Some, None, refl, sym, ap, inl, inr}
use Rattle.std.proofs.lemmas.Bool.{and_parts}
use Rattle.std.specs.Prelude.{◌&&◌, IsTrue}
use Rattle.canvas_task.specs.declared.outcome.Outcome.{Outcome}
use Rattle.canvas_task.specs.declared.outcome.Outcome.TheVariants.{Success, Failure}
use Rattle.canvas_rewrite.specs.FrozenView.{PCarried}
use Rattle.canvas_semantics.specs.PlacedLine.{PTask, p_task, PTasks, no_p_tasks, and_p_task, PPlace, p_nowhere, p_group, p_chord, PLine, p_stop, p_step, p_group_end, p_chord_end, PLines, no_p_lines, and_p_line}
use Rattle.canvas_envelope.specs.Content.{Content, line, number_of, links_of, errbacks_of}
use Rattle.canvas_effects.specs.Effects.{Jobs, callbacks, part_of, fault_behind, when_empty, enter, enter_all, called, header_flow}
use Rattle.canvas_history.specs.Lists.{In, Each}
use Rattle.canvas_envelope.specs.Fits.{how_many}
use Rattle.canvas_effects.specs.Flowing.{Input, number_input, list_input, id_input, LineFlow, run, skips, raise, after_outcome}
use Rattle.canvas_effects.specs.Job.{Job, store, publish, part}
use Rattle.canvas_effects.specs.Placing.{last_at, placed, end_place, last_task}
use Rattle.canvas_effects.proofs.FitsOn.{all_true}
use Rattle.canvas_runs.specs.Book.{Book, has_size, task_known, tasks_known, place_known, line_known, members_known, parent_known, message_known}
use Rattle.canvas_runs.proofs.Lists.Words.{each_append, in_left, in_right}
use Rattle.canvas_core.specs.SeatRights.{Carries}

-- a store of the task is among the jobs
abbrev pub StoredIn : Jobs → ℕ → Type 0
StoredIn js d = (o : Outcome) × In (store d o) js

-- or the task is k
abbrev pub Behind : ℕ → Jobs → ℕ → Type 0
Behind k js d = (d ≡ k) ⊎ StoredIn js d

stored_here : (n : ℕ) (o : Outcome) (js : Jobs) (d : ℕ) → Behind n js d → StoredIn (store n o ∷ js) d
stored_here n o js d (inl e) = (o, inl (ap (λ y. store y o) e))
stored_here n o js d (inr s) = (s.0, inr s.1)

stored_left : (js ks : Jobs) (d : ℕ) → StoredIn js d → StoredIn (js ++ ks) d
stored_left js ks d s = (s.0, in_left js ks (store d s.0) s.1)

stored_right : (js ks : Jobs) (d : ℕ) → StoredIn ks d → StoredIn (js ++ ks) d
stored_right js ks d s = (s.0, in_right js ks (store d s.0) s.1)

-- what the end of a message's task does, and what completes a header, in file order
abbrev pub ended_jobs : Content → Outcome → Jobs
ended_jobs c o =
    called (links_of c.own) (errbacks_of c.own) (number_of c.own) o ++ enter c.rest (after_outcome o) (end_place (line c)) (number_of c.own)
    (Some (number_of c.own))

abbrev pub body_jobs : PCarried → List (ℕ × Outcome) → Jobs
body_jobs c es = enter c.body (header_flow es) (end_place c.body) 0 None

module _ (book : Book) where
  -- ---- where lines end

  -- the last task of a line is a member of its place
  end_known : (l : PLine) (k : ℕ) → line_known book l ≡ true → place_known book (last_task k l) (end_place l) ≡ true
  end_known p_stop k h = refl
  end_known (p_step (p_task n call ls es p) p_stop) k h =
      let own = (and_parts (task_known book (p_task n call ls es p)) true h).0 in
      (and_parts (book.knows n && tasks_known book ls && tasks_known book es) (place_known book n p) own).1
  end_known (p_step t (p_step u l)) k h = end_known (p_step u l) (number_of t) (and_parts (task_known book t) (line_known book (p_step u l)) h).1
  end_known (p_step t (p_group_end g ms)) k h = refl
  end_known (p_step t (p_chord_end g ms b)) k h =
      end_known (p_chord_end g ms b) (number_of t) (and_parts (task_known book t) (line_known book (p_chord_end g ms b)) h).1
  end_known (p_group_end g ms) k h = refl
  end_known (p_chord_end g ms b) k h = end_known b 0 (and_parts (has_size (how_many ms) (book.size g) && members_known book g ms) (line_known book b) h).1

  last_known : (t : PTask) (rest : PLine) (p : PPlace) → task_known book t ≡ true → place_known book (last_task (number_of t) rest) p ≡ true
      → task_known book (last_at p t rest) ≡ true
  last_known (p_task n call ls es own) p_stop p h q =
      let before : Bool = book.knows n && tasks_known book ls && tasks_known book es in
      all_true before (place_known book n p) (and_parts before (place_known book n own) h).0 q
  last_known (p_task n call ls es own) (p_step u l) p h q = h
  last_known (p_task n call ls es own) (p_group_end g ms) p h q = h
  last_known (p_task n call ls es own) (p_chord_end g ms b) p h q = h

  placed_known : (l : PLine) (p : PPlace) (k : ℕ) → line_known book l ≡ true → place_known book (last_task k l) p ≡ true → line_known book (placed p l) ≡ true
  placed_known p_stop p k h q = refl
  placed_known (p_step t rest) p k h q =
      let parts = and_parts (task_known book t) (line_known book rest) h in
      all_true (task_known book (last_at p t rest)) (line_known book (placed p rest)) (last_known t rest p parts.0 q)
      (placed_known rest p (number_of t) parts.1 q)
  placed_known (p_group_end g ms) p k h q = h
  placed_known (p_chord_end g ms b) p k h q =
      let before : Bool = has_size (how_many ms) (book.size g) && members_known book g ms in
      let parts = and_parts before (line_known book b) h in
      all_true before (line_known book (placed p b)) parts.0 (placed_known b p 0 parts.1 q)

  number_known : (t : PTask) → task_known book t ≡ true → IsTrue (book.knows (number_of t))
  number_known (p_task n call ls es p) h =
      let ends = (and_parts (book.knows n && tasks_known book ls && tasks_known book es) (place_known book n p) h).0 in
      let links = (and_parts (book.knows n && tasks_known book ls) (tasks_known book es) ends).0 in
      (and_parts (book.knows n) (tasks_known book ls) links).0

  pub own_known : (c : Content) → message_known book c ≡ true → IsTrue (book.knows (number_of c.own))
  own_known c h = number_known c.own
      (and_parts (task_known book c.own) (line_known book c.rest) (and_parts (parent_known book c.parent) (line_known book (line c)) h).1).0

  -- ---- jobs

  -- Q says of which tasks a part may be
  abbrev pub Known : (ℕ → Type 0) → Job Content PCarried Outcome → Type 0
  Known Q (store t o) = IsTrue (book.knows t)
  Known Q (publish m) = Unit {0}
  Known Q (part g t c) = IsTrue (book.is_member g t) × Carries book g c × Q t

  callbacks_known : (Q : ℕ → Type 0) (ts : PTasks) (x : Input) (u : Option ℕ) → Each (Known Q) (callbacks ts x u)
  callbacks_known Q no_p_tasks x u = tt
  callbacks_known Q (and_p_task t ts) x u = (tt, callbacks_known Q ts x u)

  called_known : (Q : ℕ → Type 0) (links errbacks : PTasks) (k : ℕ) (o : Outcome) → Each (Known Q) (called links errbacks k o)
  called_known Q links errbacks k (Success n) = callbacks_known Q links (number_input n) (Some k)
  called_known Q links errbacks k (Failure f) = callbacks_known Q errbacks (id_input k) (Some k)

  part_known : (p : PPlace) (k : ℕ) → place_known book k p ≡ true → Each (Known (Behind k (part_of p k))) (part_of p k)
  part_known p_nowhere k q = tt
  part_known (p_group g) k q = tt
  part_known (p_chord g n body) k q =
      let parts = and_parts (book.is_member g k && has_size n (book.size g)) (line_known book body) q in
      let first = and_parts (book.is_member g k) (has_size n (book.size g)) parts.0 in
      ((first.0, (first.1, parts.1), inl refl), tt)

  empty_known : (ms : PLines) (js : Jobs) → Each (Known (StoredIn js)) js → Each (Known (StoredIn (when_empty ms js))) (when_empty ms js)
  empty_known no_p_lines js h = h
  empty_known (and_p_line m ms) js h = tt

  module _ (none : (g : ℕ) → book.is_member g 0 ≡ false) where
    -- a part may be of other tasks, too; none is of task 0
    known_more : (Q R : ℕ → Type 0) (js : Jobs) → ((d : ℕ) → (d ≡ 0 → ⊥) → Q d → R d) → Each (Known Q) js → Each (Known R) js
    known_more Q R [] f h = tt
    known_more Q R (store t o ∷ js) f h = (h.0, known_more Q R js f h.1)
    known_more Q R (publish m ∷ js) f h = (tt, known_more Q R js f h.1)
    known_more Q R (part g t c ∷ js) f h =
        ((h.0.0, h.0.1, f t (λ e. true≢false (sym h.0.0 ∙ (ap (book.is_member g) e ∙ none g))) h.0.2), known_more Q R js f h.1)

    both_known : (js ks : Jobs) → Each (Known (StoredIn js)) js → Each (Known (StoredIn ks)) ks → Each (Known (StoredIn (js ++ ks))) (js ++ ks)
    both_known js ks a b =
        each_append (Known (StoredIn (js ++ ks))) js ks (known_more (StoredIn js) (StoredIn (js ++ ks)) js (λ d z s. stored_left js ks d s) a)
        (known_more (StoredIn ks) (StoredIn (js ++ ks)) ks (λ d z s. stored_right js ks d s) b)

    -- no task precedes the line
    alone_known : (js : Jobs) → Each (Known (Behind 0 js)) js → Each (Known (StoredIn js)) js
    alone_known js h = known_more (Behind 0 js) (StoredIn js) js (λ d z s. ⊎_elim (λ e. absurd (z e)) (λ y. y) s) h

    any_known : (k : ℕ) (js : Jobs) → Each (Known (StoredIn js)) js → Each (Known (Behind k js)) js
    any_known k js h = known_more (StoredIn js) (Behind k js) js (λ d z s. inr s) h

    -- after jobs that return no part
    after_known : (k n : ℕ) (o : Outcome) (cs js : Jobs) → Each (Known (Behind k (store n o ∷ (cs ++ js)))) cs → Each (Known (Behind n js)) js
        → Each (Known (Behind k (store n o ∷ (cs ++ js)))) (cs ++ js)
    after_known k n o cs js a b =
        each_append (Known (Behind k (store n o ∷ (cs ++ js)))) cs js a
        (known_more (Behind n js) (Behind k (store n o ∷ (cs ++ js))) js
        (λ d z s. inr (stored_here n o (cs ++ js) d (⊎_elim (λ e. inl e) (λ y. inr (stored_right cs js d y)) s))) b)

    mutual
      enter_known : (l : PLine) (x : LineFlow) (p : PPlace) (k : ℕ) (u : Option ℕ) → line_known book l ≡ true → place_known book (last_task k l) p ≡ true
          → Each (Known (Behind k (enter l x p k u))) (enter l x p k u)
      enter_known p_stop x p k u h q = part_known p k q
      enter_known (p_step t rest) (run x) p k u h q = (tt, tt)
      enter_known (p_step t rest) (skips f) p k u h q =
          let parts = and_parts (task_known book t) (line_known book rest) h in (
            number_known t parts.0,
            after_known k (number_of t) (Failure f) [] (enter rest (skips f) p (number_of t) u) tt
                (enter_known rest (skips f) p (number_of t) u parts.1 q),
          )
      enter_known (p_step t rest) (raise f) p k u h q =
          let parts = and_parts (task_known book t) (line_known book rest) h in (
            number_known t parts.0,
            after_known k (number_of t) (Failure f) (callbacks (errbacks_of t) (id_input (number_of t)) u) (enter rest (skips f) p (number_of t) u)
                (callbacks_known _ (errbacks_of t) (id_input (number_of t)) u) (enter_known rest (skips f) p (number_of t) u parts.1 q),
          )
      enter_known (p_group_end g ms) x p k u h q = any_known k (enter_all ms x (p_group g) u) (all_known g ms x (p_group g) u h (λ n i. i))
      enter_known (p_chord_end g ms body) (run x) p k u h q =
          let parts = and_parts (has_size (how_many ms) (book.size g) && members_known book g ms) (line_known book body) h in
          let first = and_parts (has_size (how_many ms) (book.size g)) (members_known book g ms) parts.0 in
          let js : Jobs = enter_all ms (run x) (p_chord g (how_many ms) (placed p body)) u in
          let ks : Jobs = enter body (run (list_input [])) p 0 u in
          any_known k (js ++ when_empty ms ks) (both_known js (when_empty ms ks)
          (all_known g ms (run x) (p_chord g (how_many ms) (placed p body)) u first.1 (λ n i.
          all_true (book.is_member g n && has_size (how_many ms) (book.size g)) (line_known book (placed p body))
          (all_true (book.is_member g n) (has_size (how_many ms) (book.size g)) i first.0) (placed_known body p 0 parts.1 q)))
          (empty_known ms ks (alone_known ks (enter_known body (run (list_input [])) p 0 u parts.1 q))))
      enter_known (p_chord_end g ms body) (skips f) p k u h q =
          let parts = and_parts (has_size (how_many ms) (book.size g) && members_known book g ms) (line_known book body) h in
          let first = and_parts (has_size (how_many ms) (book.size g)) (members_known book g ms) parts.0 in
          let js : Jobs = enter_all ms (skips f) p_nowhere u in
          let ks : Jobs = enter body (skips f) p 0 u in
          any_known k (js ++ ks) (both_known js ks (all_known g ms (skips f) p_nowhere u first.1 (λ n i. refl))
          (alone_known ks (enter_known body (skips f) p 0 u parts.1 q)))
      enter_known (p_chord_end g ms body) (raise f) p k u h q =
          let parts = and_parts (has_size (how_many ms) (book.size g) && members_known book g ms) (line_known book body) h in
          let first = and_parts (has_size (how_many ms) (book.size g)) (members_known book g ms) parts.0 in
          let js : Jobs = enter_all ms (raise f) p_nowhere u in
          let ks : Jobs = enter body (raise (fault_behind ms f)) p 0 u in
          any_known k (js ++ ks) (both_known js ks (all_known g ms (raise f) p_nowhere u first.1 (λ n i. refl))
          (alone_known ks (enter_known body (raise (fault_behind ms f)) p 0 u parts.1 q)))

      all_known : (g : ℕ) (ms : PLines) (x : LineFlow) (p : PPlace) (u : Option ℕ) → members_known book g ms ≡ true
          → ((n : ℕ) → book.is_member g n ≡ true → place_known book n p ≡ true)
          → Each (Known (StoredIn (enter_all ms x p u))) (enter_all ms x p u)
      all_known g no_p_lines x p u h f = tt
      all_known g (and_p_line m ms) x p u h f =
          let parts = and_parts (book.is_member g (last_task 0 m) && line_known book m) (members_known book g ms) h in
          let first = and_parts (book.is_member g (last_task 0 m)) (line_known book m) parts.0 in
          both_known (enter m x p 0 u) (enter_all ms x p u) (alone_known (enter m x p 0 u) (enter_known m x p 0 u first.1 (f (last_task 0 m) first.0)))
          (all_known g ms x p u parts.1 f)

    -- ---- effects

    pub ended_known : (c : Content) (o : Outcome) → message_known book c ≡ true → Each (Known (Behind (number_of c.own) (ended_jobs c o))) (ended_jobs c o)
    ended_known c o h =
        let k : ℕ = number_of c.own in
        let js : Jobs = called (links_of c.own) (errbacks_of c.own) k o in
        let ks : Jobs = enter c.rest (after_outcome o) (end_place (line c)) k (Some k) in
        let whole = (and_parts (parent_known book c.parent) (line_known book (line c)) h).1 in
        let rest = (and_parts (task_known book c.own) (line_known book c.rest) whole).1 in
        each_append (Known (Behind k (js ++ ks))) js ks (called_known (Behind k (js ++ ks)) (links_of c.own) (errbacks_of c.own) k o)
        (known_more (Behind k ks) (Behind k (js ++ ks)) ks (λ d z s. ⊎_elim (λ e. inl e) (λ y. inr (stored_right js ks d y)) s)
        (enter_known c.rest (after_outcome o) (end_place (line c)) k (Some k) rest (end_known (line c) 0 whole)))

    pub body_known : (c : PCarried) (es : List (ℕ × Outcome)) → line_known book c.body ≡ true → Each (Known (StoredIn (body_jobs c es))) (body_jobs c es)
    body_known c es h = alone_known (body_jobs c es) (enter_known c.body (header_flow es) (end_place c.body) 0 None h (end_known c.body 0 h))
