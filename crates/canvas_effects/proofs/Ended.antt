-- The effect of the end of a task, and of that of a header's members, by the walks.
use Rattle.std.proofs.Common.{◌≡◌, ◌∙◌, ℕ, Bool, true, false, List, [], ◌∷◌, ◌++◌, map, Option, Some, None, refl, sym, ap, ap₂, append-nil, rules, All}
use Rattle.std.specs.List.{list_all}
use Rattle.std.proofs.lemmas.List.Elements.{All-head, All-tail}
use Rattle.canvas_task.specs.Numbers.{in_range}
use Rattle.canvas_task.specs.Apply.{IsInRange}
use Rattle.canvas_effects.proofs.FitsOn.{all_true}
use Rattle.std.specs.Prelude.{ℤ, ◌&&◌, not, nat_le}
use Rattle.canvas_task.specs.declared.outcome.Fault.{Fault}
use Rattle.canvas_task.specs.declared.outcome.Fault.TheVariants as fault
use Rattle.canvas_task.specs.declared.outcome.Outcome.{Outcome}
use Rattle.canvas_task.specs.declared.outcome.Outcome.TheVariants.{Success, Failure}
use Rattle.canvas_values.proofs.ComposedLemmas.{both}
use Rattle.canvas_semantics.specs.Evaluation as eval
use Rattle.canvas_semantics.specs.PlacedLine.{PTask, PPlace, p_nowhere, p_group, p_chord, PLine, p_stop, p_step, p_group_end, p_chord_end, PLines, no_p_lines, and_p_line}
use Rattle.canvas_rewrite.specs.FrozenView.{PCarried, p_task_view, p_line_view}
use Rattle.canvas_rewrite.specs.declared.frozen.Carried as block
use Rattle.canvas_rewrite.specs.declared.frozen.Carried.{Carried, out-Carried}
use Rattle.canvas_rewrite.specs.declared.frozen.FrozenTask.{FrozenTask, out-FrozenTask}
use Rattle.canvas_effects.specs.Carrying.{is_whole, carried_ok, place_stands}
use Rattle.canvas_envelope.specs.Content.{Content, line, number_of, links_of, errbacks_of, place_of, call_of}
use Rattle.canvas_effects.specs.Effects.{Jobs, Effect, Part, message, callbacks, called, part_of, enter, enter_all, effect_of, stores_in, messages_in, part_in, after, body_after, into_body}
use Rattle.canvas_envelope.specs.MessageView.{carried_view, place_seen}
use Rattle.canvas_envelope.specs.Fits.{parent_ok, line_ok, members_ok, line_reach, how_many, fits}
use Rattle.canvas_effects.specs.Flowing.{Input, number_input, list_input, id_input, run, skips, raise, after_outcome}
use Rattle.canvas_effects.specs.Ordered.{in_order}
use Rattle.canvas_envelope.specs.steps.Parts.{is_stop}
use Rattle.canvas_effects.specs.Placing.{last_at, placed, end_place, last_task}
use Rattle.canvas_effects.specs.steps.Walks.{last_of, started, skipped, raised_stores, raised_messages, part_at_end, first_failure, successes}
use Rattle.canvas_effects.proofs.Copied.{place_there}
use Rattle.canvas_effects.proofs.Entered.{stores_on, messages_on, part_on, called_part, back_stores, back_part, place_stores, place_messages, no_part_on, no_store_on, skipped_so, skip_quiet, raised_stores_so, raised_messages_so}
use Rattle.canvas_effects.proofs.Standing.{as_it_stands, Stepped, first_stepped, rest_whole, place_whole, place_last, place_never, whole_ok, member_first, member_others}
use Rattle.canvas_effects.proofs.Walked.{number_seen, last_number}

-- ---- lines that are started store nothing, and return nothing where they have an element

mutual
  run_stores : (l : PLine) (x : Input) (p : PPlace) (k : ℕ) (u : Option ℕ) → stores_in (enter l (run x) p k u) ≡ []
  run_stores p_stop x p k u = place_stores p k
  run_stores (p_step t l) x p k u = refl
  run_stores (p_group_end g ms) x p k u = run_all_stores ms x (p_group g) u
  run_stores (p_chord_end g no_p_lines b) x p k u = run_stores b (list_input []) p 0 u
  run_stores (p_chord_end g (and_p_line m ms) b) x p k u =
      no_store_on (enter_all (and_p_line m ms) (run x) (p_chord g (how_many (and_p_line m ms)) (placed p b)) u) []
      (run_all_stores (and_p_line m ms) x (p_chord g (how_many (and_p_line m ms)) (placed p b)) u) refl

  run_all_stores : (ms : PLines) (x : Input) (p : PPlace) (u : Option ℕ) → stores_in (enter_all ms (run x) p u) ≡ []
  run_all_stores no_p_lines x p u = refl
  run_all_stores (and_p_line m ms) x p u = no_store_on (enter m (run x) p 0 u) (enter_all ms (run x) p u) (run_stores m x p 0 u) (run_all_stores ms x p u)

mutual
  run_part : (last : Bool) (l : PLine) (x : Input) (p : PPlace) (k : ℕ) (u : Option ℕ) → line_ok last l ≡ true → part_in (enter l (run x) p k u) ≡ None
  run_part last p_stop x p k u ok = absurd cc
  run_part last (p_step t l) x p k u ok = refl
  run_part last (p_group_end g ms) x p k u ok = run_all_part ms x (p_group g) u (both _ (members_ok ms) ok).1
  run_part last (p_chord_end g no_p_lines b) x p k u ok = run_part last b (list_input []) p 0 u (both _ (line_ok last b) ok).1
  run_part last (p_chord_end g (and_p_line m ms) b) x p k u ok =
      let q = both _ (line_ok last b) ok in
      no_part_on (enter_all (and_p_line m ms) (run x) (p_chord g (how_many (and_p_line m ms)) (placed p b)) u) []
      (run_all_part (and_p_line m ms) x (p_chord g (how_many (and_p_line m ms)) (placed p b)) u (both _ (members_ok (and_p_line m ms)) q.0).1) refl

  run_all_part : (ms : PLines) (x : Input) (p : PPlace) (u : Option ℕ) → members_ok ms ≡ true → part_in (enter_all ms (run x) p u) ≡ None
  run_all_part no_p_lines x p u ok = refl
  run_all_part (and_p_line m ms) x p u ok =
      no_part_on (enter m (run x) p 0 u) (enter_all ms (run x) p u) (run_part false m x p 0 u (member_first m ms ok).ok)
      (run_all_part ms x p u (member_others m ms ok))

-- the task before matters only for a part
run_any : (l : PLine) (x : Input) (p : PPlace) (k : ℕ) (u : Option ℕ) → messages_in (enter l (run x) p k u) ≡ started l x p u
run_any p_stop x p k u = place_messages p k ∙ sym (place_messages p 0)
run_any (p_step t l) x p k u = refl
run_any (p_group_end g ms) x p k u = refl
run_any (p_chord_end g ms b) x p k u = refl

-- ---- parts of lines that are skipped, or in which an exception is raised

mutual
  skip_part_none : (l : PLine) (f : Fault) (p : PPlace) (k : ℕ) (u : Option ℕ) → ((j : ℕ) → part_of p j ≡ []) → part_in (enter l (skips f) p k u) ≡ None
  skip_part_none p_stop f p k u h = ap part_in (h k)
  skip_part_none (p_step t l) f p k u h = skip_part_none l f p (number_of t) u h
  skip_part_none (p_group_end g ms) f p k u h = skip_all_none ms f (p_group g) u (λ j. refl)
  skip_part_none (p_chord_end g ms b) f p k u h =
      no_part_on (enter_all ms (skips f) p_nowhere u) (enter b (skips f) p 0 u) (skip_all_none ms f p_nowhere u (λ j. refl)) (skip_part_none b f p 0 u h)

  skip_all_none : (ms : PLines) (f : Fault) (p : PPlace) (u : Option ℕ) → ((j : ℕ) → part_of p j ≡ []) → part_in (enter_all ms (skips f) p u) ≡ None
  skip_all_none no_p_lines f p u h = refl
  skip_all_none (and_p_line m ms) f p u h =
      no_part_on (enter m (skips f) p 0 u) (enter_all ms (skips f) p u) (skip_part_none m f p 0 u h) (skip_all_none ms f p u h)

skip_part : (l : PLine) (f : Fault) (k : ℕ) (u : Option ℕ) → part_in (enter l (skips f) (end_place l) k u) ≡ part_in (part_of (end_place l) (last_task k l))
skip_part p_stop f k u = refl
skip_part (p_step t p_stop) f k u = refl
skip_part (p_step t (p_step v l)) f k u = skip_part (p_step v l) f (number_of t) u
skip_part (p_step t (p_group_end g ms)) f k u = skip_part (p_group_end g ms) f (number_of t) u
skip_part (p_step t (p_chord_end g ms b)) f k u = skip_part (p_chord_end g ms b) f (number_of t) u
skip_part (p_group_end g ms) f k u = skip_all_none ms f (p_group g) u (λ j. refl)
skip_part (p_chord_end g ms b) f k u =
    part_on (enter_all ms (skips f) p_nowhere u) (enter b (skips f) (end_place b) 0 u) (skip_all_none ms f p_nowhere u (λ j. refl)) ∙ skip_part b f 0 u

mutual
  raise_part_none : (l : PLine) (f : Fault) (p : PPlace) (k : ℕ) (u : Option ℕ) → ((j : ℕ) → part_of p j ≡ []) → part_in (enter l (raise f) p k u) ≡ None
  raise_part_none p_stop f p k u h = ap part_in (h k)
  raise_part_none (p_step t l) f p k u h =
      no_part_on (callbacks (errbacks_of t) (id_input (number_of t)) u) (enter l (skips f) p (number_of t) u)
      (called_part (errbacks_of t) (id_input (number_of t)) u) (skip_part_none l f p (number_of t) u h)
  raise_part_none (p_group_end g ms) f p k u h = raise_all_none ms f (p_group g) u (λ j. refl)
  raise_part_none (p_chord_end g ms b) f p k u h =
      no_part_on (enter_all ms (raise f) p_nowhere u) (enter b (raise _) p 0 u) (raise_all_none ms f p_nowhere u (λ j. refl)) (raise_part_none b _ p 0 u h)

  raise_all_none : (ms : PLines) (f : Fault) (p : PPlace) (u : Option ℕ) → ((j : ℕ) → part_of p j ≡ []) → part_in (enter_all ms (raise f) p u) ≡ None
  raise_all_none no_p_lines f p u h = refl
  raise_all_none (and_p_line m ms) f p u h =
      no_part_on (enter m (raise f) p 0 u) (enter_all ms (raise f) p u) (raise_part_none m f p 0 u h) (raise_all_none ms f p u h)

raise_step : (t : PTask) (l : PLine) (f : Fault) (k : ℕ) (u : Option ℕ)
    → part_in (callbacks (errbacks_of t) (id_input (number_of t)) u ++ enter l (skips f) (end_place l) (number_of t) u)
    ≡ part_in (part_of (end_place l) (last_task (number_of t) l))
raise_step t l f k u =
    part_on (callbacks (errbacks_of t) (id_input (number_of t)) u) (enter l (skips f) (end_place l) (number_of t) u)
    (called_part (errbacks_of t) (id_input (number_of t)) u) ∙ skip_part l f (number_of t) u

raise_part : (l : PLine) (f : Fault) (k : ℕ) (u : Option ℕ) → part_in (enter l (raise f) (end_place l) k u) ≡ part_in (part_of (end_place l) (last_task k l))
raise_part p_stop f k u = refl
raise_part (p_step t p_stop) f k u =
    part_on (callbacks (errbacks_of t) (id_input (number_of t)) u) (part_of (place_of t) (number_of t)) (called_part (errbacks_of t) (id_input (number_of t)) u)
raise_part (p_step t (p_step v l)) f k u = raise_step t (p_step v l) f k u
raise_part (p_step t (p_group_end g ms)) f k u = raise_step t (p_group_end g ms) f k u
raise_part (p_step t (p_chord_end g ms b)) f k u = raise_step t (p_chord_end g ms b) f k u
raise_part (p_group_end g ms) f k u = raise_all_none ms f (p_group g) u (λ j. refl)
raise_part (p_chord_end g ms b) f k u =
    part_on (enter_all ms (raise f) p_nowhere u) (enter b (raise _) (end_place b) 0 u) (raise_all_none ms f p_nowhere u (λ j. refl)) ∙ raise_part b _ 0 u

-- ---- effects by their parts

pub effect_is : (js : Jobs) (ss : List (ℕ × Outcome)) (ms : List Content) (p : Option Part) → ss ≡ stores_in js → ms ≡ messages_in js → p ≡ part_in js
    → record { stores = in_order (λ e. e.0) ss; messages = in_order (λ m. number_of m.own) ms; part = p } ≡ effect_of js
effect_is js ss ms p hs hm hp =
    let Goal : List (ℕ × Outcome) → List Content → Option Part → Effect =
    λ a b c. record { stores = in_order (λ e. e.0) a; messages = in_order (λ m. number_of m.own) b; part = c } in
    ap (λ a. Goal a ms p) hs ∙ ap (λ b. Goal (stores_in js) b p) hm ∙ ap (Goal (stores_in js) (messages_in js)) hp

-- a body
pub body_started : (l : PLine) (x : Input) (ss : List (ℕ × Outcome)) (old ms : List Content) (p : Option Part) → is_whole l ≡ true → ss ≡ [] → old ≡ []
    → ms ≡ old ++ started l x (end_place l) None → p ≡ None
    → record { stores = in_order (λ e. e.0) ss; messages = in_order (λ m. number_of m.own) ms; part = p } ≡ effect_of (enter l (run x) (end_place l) 0 None)
body_started l x ss old ms p ok hs ho hm hp =
    effect_is (enter l (run x) (end_place l) 0 None) ss ms p (hs ∙ sym (run_stores l x (end_place l) 0 None))
    (hm ∙ ap (λ xs. xs ++ started l x (end_place l) None) ho)
    (hp ∙ sym (run_part true l x (end_place l) 0 None (whole_ok l ok)))

pub body_raised : (l : PLine) (f : Fault) (olds ss : List (ℕ × Outcome)) (old ms : List Content) (p : Option Part) → olds ≡ [] → ss ≡ olds ++ raised_stores f l
    → old ≡ [] → ms ≡ old ++ raised_messages f l → p ≡ part_at_end l
    → record { stores = in_order (λ e. e.0) ss; messages = in_order (λ m. number_of m.own) ms; part = p } ≡ effect_of (enter l (raise f) (end_place l) 0 None)
body_raised l f olds ss old ms p hos hs ho hm hp =
    effect_is (enter l (raise f) (end_place l) 0 None) ss ms p
    (hs ∙ ap (λ xs. xs ++ raised_stores f l) hos ∙ sym (raised_stores_so l f (end_place l) 0 None))
    (hm ∙ ap (λ xs. xs ++ raised_messages f l) ho ∙ sym (raised_messages_so l f (end_place l) 0 None))
    (hp ∙ sym (raise_part l f 0 None))

-- ---- the end of a message's task

pub fits_whole : (c : Content) → fits c ≡ true → is_whole (line c) ≡ true
fits_whole c ok =
    let p = both (parent_ok c.parent && not (call_of c.own).immutable && line_ok true (line c)) (nat_le (line_reach 0 (line c)) 32) ok in
    let q = both (parent_ok c.parent && not (call_of c.own).immutable) (line_ok true (line c)) p.0 in
    ap₂ (λ a b. a && b) q.1 p.1

pub own_stepped : (c : Content) → fits c ≡ true → Stepped c.own
own_stepped c ok = first_stepped c.own c.rest (fits_whole c ok)

pub rest_stands : (c : Content) (l : PLine) → fits c ≡ true → c.rest ≡ l → is_stop l ≡ false → is_whole l ≡ true
rest_stands c l ok same h = rest_whole c.own l h (ap (λ r. is_whole (p_step c.own r)) (sym same) ∙ fits_whole c ok)

pub own_place_stands : (c : Content) → fits c ≡ true → c.rest ≡ p_stop → place_stands (place_of c.own) ≡ true
own_place_stands c ok same = place_whole (p_step c.own p_stop) (ap (λ r. is_whole (p_step c.own r)) (sym same) ∙ fits_whole c ok)

end_behind : (t : PTask) (l : PLine) → is_stop l ≡ false → end_place (p_step t l) ≡ end_place l
end_behind t p_stop h = absurd cc
end_behind t (p_step u l) h = refl
end_behind t (p_group_end g ms) h = refl
end_behind t (p_chord_end g ms b) h = refl

last_behind : (k : ℕ) (l : PLine) → is_whole l ≡ true → last_of l ≡ last_of l → part_in (part_of (end_place l) (last_task k l)) ≡ part_at_end l
last_behind k p_stop ok h = absurd cc
last_behind k (p_step t l) ok h = refl
last_behind k (p_group_end g ms) ok h = refl
last_behind k (p_chord_end g ms b) ok h = refl

abbrev Done : Content → List (ℕ × Outcome) → List Content → Option Part → Outcome → Type 0
Done c ss ms p o = record { stores = in_order (λ e. e.0) ss; messages = in_order (λ m. number_of m.own) ms; part = p } ≡ after c o

abbrev back : Content → Outcome → Jobs
back c o = called (links_of c.own) (errbacks_of c.own) (number_of c.own) o

-- the jobs after the callbacks
ended : (c : Content) (o : Outcome) (more : Jobs) (ss : List (ℕ × Outcome)) (ms : List Content) (p : Option Part) → after c o ≡ effect_of (back c o ++ more)
    → ss ≡ stores_in more → ms ≡ messages_in (back c o) ++ messages_in more → p ≡ part_in more → Done c ss ms p o
ended c o more ss ms p is hs hm hp =
    effect_is (back c o ++ more) ss ms p
    (hs ∙ sym (stores_on (back c o) more ∙ ap (λ xs. xs ++ stores_in more) (back_stores (links_of c.own) (errbacks_of c.own) (number_of c.own) o)))
    (hm ∙ sym (messages_on (back c o) more))
    (hp ∙ sym (part_on (back c o) more (back_part (links_of c.own) (errbacks_of c.own) (number_of c.own) o)))
    ∙ sym is

followed : (c : Content) (l : PLine) (o : Outcome) → c.rest ≡ l → is_stop l ≡ false
    → after c o ≡ effect_of (back c o ++ enter l (after_outcome o) (end_place l) (number_of c.own) (Some (number_of c.own)))
followed c l o same h =
    let k : ℕ = number_of c.own in
    ap (λ r. effect_of (back c o ++ enter r (after_outcome o) (end_place (p_step c.own r)) k (Some k))) same
    ∙ ap (λ q. effect_of (back c o ++ enter l (after_outcome o) q k (Some k))) (end_behind c.own l h)

-- on a success, where something follows
pub succeeded : (c : Content) (l : PLine) (n : ℤ) (ss : List (ℕ × Outcome)) (one ms : List Content) (p : Option Part) → fits c ≡ true → c.rest ≡ l
    → is_stop l ≡ false
    → ss ≡ [] → one ≡ messages_in (called (links_of c.own) (errbacks_of c.own) (number_of c.own) (Success n))
    → ms ≡ one ++ started l (number_input n) (end_place l) (Some (number_of c.own)) → p ≡ None → Done c ss ms p (Success n)
succeeded c l n ss one ms p ok same h hs h1 hm hp =
    let k : ℕ = number_of c.own in
    ended c (Success n) (enter l (run (number_input n)) (end_place l) k (Some k)) ss ms p (followed c l (Success n) same h)
    (hs ∙ sym (run_stores l (number_input n) (end_place l) k (Some k)))
    (hm ∙ ap₂ (λ a b. a ++ b) h1 (sym (run_any l (number_input n) (end_place l) k (Some k))))
    (hp ∙ sym (run_part true l (number_input n) (end_place l) k (Some k) (whole_ok l (rest_stands c l ok same h))))

-- where that is a task, it takes over what it carries
pub next_begun : (u : Option ℕ) (t : PTask) (l : PLine) (x : Input) → message u t x l ∷ [] ≡ started (p_step t l) x (end_place (p_step t l)) u
next_begun u t l x =
    let there : p_step (last_at (end_place (p_step t l)) t l) (placed (end_place (p_step t l)) l) ≡ p_step t l = as_it_stands (p_step t l) in
    let own : last_at (end_place (p_step t l)) t l ≡ t = cc in
    let rest : placed (end_place (p_step t l)) l ≡ l = cc in
    sym (ap₂ (λ v r. message u v x r ∷ []) own rest)

pub handed : (old new : List Content) (m : Content) (u : Option ℕ) (t : PTask) (l line : PLine) (x : Input) → line ≡ p_step t l → m ≡ message u t x l
    → new ≡ old ++ m ∷ [] → new ≡ old ++ started line x (end_place line) u
handed old new m u t l line x same made pushed =
    pushed ∙ ap (λ y. old ++ y ∷ []) made ∙ ap (λ ms. old ++ ms) (next_begun u t l x) ∙ ap (λ z. old ++ started z x (end_place z) u) (sym same)

-- on a failure, where something follows
pub failed : (c : Content) (l : PLine) (f : Fault) (olds ss : List (ℕ × Outcome)) (ms : List Content) (p : Option Part) → fits c ≡ true → c.rest ≡ l
    → is_stop l ≡ false
    → olds ≡ [] → ss ≡ olds ++ skipped f l → ms ≡ messages_in (called (links_of c.own) (errbacks_of c.own) (number_of c.own) (Failure f))
    → p ≡ part_at_end l → Done c ss ms p (Failure f)
failed c l f olds ss ms p ok same h hos hs hm hp =
    let k : ℕ = number_of c.own in
    ended c (Failure f) (enter l (skips f) (end_place l) k (Some k)) ss ms p (followed c l (Failure f) same h)
    (hs ∙ ap (λ xs. xs ++ skipped f l) hos ∙ sym (skipped_so l f (end_place l) k (Some k)))
    (hm ∙ sym (ap (λ xs. messages_in (back c (Failure f)) ++ xs) (skip_quiet l f (end_place l) k (Some k)) ∙ append-nil (messages_in (back c (Failure f)))))
    (hp ∙ sym (skip_part l f k (Some k) ∙ last_behind k l (rest_stands c l ok same h) refl))

-- and where nothing does
pub ended_last : (c : Content) (o : Outcome) (ss : List (ℕ × Outcome)) (ms : List Content) (p : Option Part) → c.rest ≡ p_stop
    → ss ≡ [] → ms ≡ messages_in (called (links_of c.own) (errbacks_of c.own) (number_of c.own) o)
    → p ≡ part_in (part_of (place_of c.own) (number_of c.own)) → Done c ss ms p o
ended_last c o ss ms p same hs hm hp =
    let k : ℕ = number_of c.own in
    ended c o (part_of (place_of c.own) k) ss ms p
    (ap (λ r. effect_of (back c o ++ enter r (after_outcome o) (end_place (p_step c.own r)) k (Some k))) same)
    (hs ∙ sym (place_stores (place_of c.own) k))
    (hm ∙ sym (ap (λ xs. messages_in (back c o) ++ xs) (place_messages (place_of c.own) k) ∙ append-nil (messages_in (back c o))))
    hp

-- ---- the end of a line

pub last_there_place : (l : PLine) (t : FrozenTask) → Some (p_task_view t) ≡ last_of l → place_seen (out-FrozenTask t).place ≡ end_place l
last_there_place l t h = sym (place_there t) ∙ sym (place_last l (p_task_view t) (sym h))

pub last_there_part : (l : PLine) (t : FrozenTask) → Some (p_task_view t) ≡ last_of l
    → part_in (part_of (place_seen (out-FrozenTask t).place) (out-FrozenTask t).no) ≡ part_at_end l
last_there_part l t h = ap₂ (λ q n. part_in (part_of q n)) (last_there_place l t h) (sym (number_seen t) ∙ sym (last_number 0 l (p_task_view t) (sym h)))

pub no_end_part : (l : PLine) → None ≡ last_of l → None ≡ part_at_end l
no_end_part l h = sym (ap (λ q. part_in (part_of q (last_task 0 l))) (place_never l (sym h)))

-- ---- headers

gathered_failed : (es : List (ℕ × Outcome)) (f : Fault) → first_failure es ≡ Some f → eval.gathered (map (λ e. (e.0, Some e.1)) es) ≡ eval.raised f
gathered_failed [] f h = absurd cc
gathered_failed ((k, Success n) ∷ es) f h = ap (eval.in_front n) (gathered_failed es f h)
gathered_failed ((k, Failure g) ∷ es) f h = let same : fault.Chord k (eval.why_of g) ≡ f = cc in ap eval.raised same

gathered_all : (es : List (ℕ × Outcome)) → first_failure es ≡ None → eval.gathered (map (λ e. (e.0, Some e.1)) es) ≡ eval.list (successes es)
gathered_all [] h = refl
gathered_all ((k, Success n) ∷ es) h = ap (eval.in_front n) (gathered_all es h)
gathered_all ((k, Failure g) ∷ es) h = absurd cc

pub carried_seen : (c : Carried) → carried_view c ≡ record { size = (out-Carried c).size; body = p_line_view (out-Carried c).body.value }
carried_seen c = search (rules, block.the_lemmas)

pub body_stands : (c : PCarried) → carried_ok c ≡ true → is_whole c.body ≡ true
body_stands c ok = grind rules

pub after_failed : (c : PCarried) (es : List (ℕ × Outcome)) (f : Fault) → Some f ≡ first_failure es
    → effect_of (enter c.body (raise f) (end_place c.body) 0 None) ≡ body_after c es
after_failed c es f h = ap (λ x. effect_of (enter c.body x (end_place c.body) 0 None)) (sym (ap into_body (gathered_failed es f (sym h))))

pub after_all : (c : PCarried) (es : List (ℕ × Outcome)) (ns : List ℤ) → None ≡ first_failure es → ns ≡ successes es
    → effect_of (enter c.body (run (list_input ns)) (end_place c.body) 0 None) ≡ body_after c es
after_all c es ns h hn =
    ap (λ x. effect_of (enter c.body (run (list_input x)) (end_place c.body) 0 None)) hn
    ∙ ap (λ x. effect_of (enter c.body x (end_place c.body) 0 None)) (sym (ap into_body (gathered_all es (sym h))))

-- the numbers of outcomes in range are in range
successes_fit : (es : List (ℕ × Outcome)) → All (λ e. IsInRange e.1) es → list_all in_range (successes es) ≡ true
successes_fit [] h = refl
successes_fit ((k, Success n) ∷ es) h =
    all_true (in_range n) (list_all in_range (successes es)) (All-head (λ e. IsInRange e.1) (k, Success n) es h)
    (successes_fit es (All-tail (λ e. IsInRange e.1) (k, Success n) es h))
successes_fit ((k, Failure f) ∷ es) h = successes_fit es (All-tail (λ e. IsInRange e.1) (k, Failure f) es h)

pub numbers_fit : (es : List (ℕ × Outcome)) (ns : List ℤ) → ns ≡ successes es → All (λ e. IsInRange e.1) es → list_all in_range ns ≡ true
numbers_fit es ns same h = ap (list_all in_range) same ∙ successes_fit es h
