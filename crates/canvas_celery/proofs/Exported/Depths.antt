-- Signatures that haven't started nest no deeper than JSON is read: each level of a line that fits takes four levels of JSON at most.
use Rattle.std.proofs.Common.{◌≡◌, ℕ, ◌≤◌, ◌+◌, ◌*◌, max, List, [], ◌∷◌, ◌++◌, reverse, Bool, true, false, refl, sym, subst, arith}
use Rattle.std.specs.Prelude.{codes, ◌&&◌, not}
use Rattle.std.proofs.lemmas.List.{reverse-append}
use Rattle.serde_json.specs.Data.{Data, Items, no_items, item, Members, depth, items_depth, members_depth}
use Rattle.canvas_values.specs.Writing.{member_unless_empty}
use Rattle.canvas_sig.proofs.CleanWire.{args_depth, kwargs_depth}
use Rattle.canvas_values.proofs.ComposedLemmas.{both}
use Rattle.canvas_semantics.specs.Tree.{Call}
use Rattle.canvas_semantics.specs.Line.{in_group}
use Rattle.canvas_semantics.specs.PlacedLine.{PTask, p_task, PTasks, no_p_tasks, and_p_task, PPlace, p_nowhere, p_group, p_chord, PLine, p_stop, p_step, p_group_end, p_chord_end, PLines, no_p_lines, and_p_line, strip}
use Rattle.canvas_envelope.specs.Fits.{is_task_number, size_ok, task_ok, tasks_ok, place_ok, line_ok, members_ok, task_reach, tasks_reach, place_reach, line_reach, greatest_reach, members_reach}
use Rattle.canvas_codec.proofs.RoundTrip.{task_parts, chord_parts}
use Rattle.canvas_celery.specs.Signatures.{Naming, task_id, Sig, sig_wire, each_wire, own_option, place_options, first_wire, behind, carried_wire, member_wire, group_sig, task_sig, tasks_wire, body_at, elements, members_wire}
use Rattle.canvas_celery.specs.steps.Elements.{has_more}
use Rattle.canvas_celery.proofs.Exported.SignaturesBack.{greatest_low}

-- ---- one signature

list_depth : (k : List ℕ) (ds : Items) (more : Members) → members_depth (member_unless_empty k ds more) ≤ max (1 + items_depth ds) (members_depth more)
list_depth k no_items more = omega arith
list_depth k (item d ds) more = omega arith

sig_depth : (ch : Items) (s : Sig) → depth s.kind ≡ 0
    → depth (sig_wire ch s) ≤ 2 + max (1 + items_depth ch) (max (items_depth s.args) (max (members_depth s.kwargs) (members_depth s.options)))
sig_depth ch s h = omega (arith, h, list_depth (codes "chain") ch s.options)

-- the option `chain` is three levels deeper
chained_depth : (ch : Items) (s : Sig) → depth (sig_wire ch s) ≤ max (depth (sig_wire no_items s)) (3 + items_depth ch)
chained_depth ch s = omega (arith, list_depth (codes "chain") ch s.options)

abbrev from_links : Data → Items → Items → Members
from_links id l e = member_unless_empty (codes "link") l (member_unless_empty (codes "link_error") e (own_option id))

links_within : (n : Naming) (k : ℕ) (l e : Items) → members_depth (from_links (task_id n k) l e) ≤ 1 + max (items_depth l) (items_depth e)
links_within n k l e =
    omega
    (arith, list_depth (codes "link") l (member_unless_empty (codes "link_error") e (own_option (task_id n k))), list_depth (codes "link_error") e (own_option (task_id n k)))

place_within : (n : Naming) (k : ℕ) (p : PPlace) (b : Data) (more : Members) → members_depth (place_options n k p b more) ≤ max (depth b) (members_depth more)
place_within n k p_nowhere b more = omega arith
place_within n k (p_group g) b more = omega arith
place_within n k (p_chord g size body) b more = omega arith

task_within : (n : Naming) (k : ℕ) (call : Call) (links errbacks : PTasks) (place : PPlace)
    → depth (sig_wire no_items (task_sig n (p_task k call links errbacks place)))
    ≤ 2 + max (depth (body_at n place)) (1 + max (items_depth (tasks_wire n links)) (items_depth (tasks_wire n errbacks)))
task_within n k call links errbacks place =
    let l = tasks_wire n links in
    let e = tasks_wire n errbacks in
    omega (
      arith,
      sig_depth no_items (task_sig n (p_task k call links errbacks place)) refl,
      args_depth call.args,
      kwargs_depth call.kwargs,
      place_within n k place (body_at n place) (from_links (task_id n k) l e),
      links_within n k l e,
    )

-- ---- several

abbrev deep : List Sig → ℕ
deep ss = items_depth (each_wire ss)

first_within : (ss : List Sig) → depth (first_wire ss) ≤ deep ss
first_within [] = omega arith
first_within (s ∷ ss) = omega arith

behind_within : (ss : List Sig) → deep (behind ss) ≤ deep ss
behind_within [] = omega arith
behind_within (s ∷ ss) = omega arith

deep_end : (ss : List Sig) (s : Sig) → deep (ss ++ s ∷ []) ≤ max (deep ss) (depth (sig_wire no_items s))
deep_end [] s = omega arith
deep_end (t ∷ ss) s = omega (arith, deep_end ss s)

pub deep_reversed : (ss : List Sig) → deep (reverse ss) ≤ deep ss
deep_reversed [] = omega arith
deep_reversed (s ∷ ss) = subst (λ ts. deep ts ≤ deep (s ∷ ss)) (sym (reverse-append (s ∷ []) ss)) (omega (arith, deep_end (reverse ss) s, deep_reversed ss))

carried_within : (ss : List Sig) → depth (carried_wire ss) ≤ max (deep ss) (3 + deep (behind ss))
carried_within [] = omega arith
carried_within (s ∷ ss) = omega (arith, chained_depth (each_wire (reverse ss)) s, deep_reversed ss)

member_within : (ss : List Sig) → depth (member_wire ss) ≤ 3 + deep ss
member_within [] = omega arith
member_within (s ∷ []) = omega arith
member_within (s ∷ t ∷ ss) = omega arith

group_within : (n : Naming) (g : ℕ) (ms : Items) → depth (sig_wire no_items (group_sig n g ms)) ≤ 3 + items_depth ms
group_within n g ms = omega (arith, sig_depth no_items (group_sig n g ms) refl)

-- a chord, with what follows it
chord_within : (n : Naming) (g : ℕ) (ms : PLines) (b : PLine)
    → deep (elements n (p_chord_end g ms b)) ≤ max (2 + deep (elements n b)) (3 + items_depth (members_wire n ms))
chord_within n g ms b = omega (arith, first_within (elements n b), behind_within (elements n b))

-- ---- bounds of numbers

chord_low : (d f m c c' r : ℕ) → d ≤ max (2 + f) (3 + m) → f + c + 1 ≤ 4 * c' → c + 1 ≤ c' → m + c' + 1 ≤ max (c' + 1) (4 * r) → d + c + 3 ≤ 4 * (1 + max c' r)
chord_low d f m c c' r h a b e = omega (arith, h, a, b, e)

wrapped_low : (d f m c c' r : ℕ) → d ≤ max (2 + f) (3 + m) → f + c + 2 ≤ 4 * c' → c + 2 ≤ c' → m + c' + 1 ≤ max (c' + 1) (4 * r)
    → 3 + d + c + 1 ≤ 4 * (1 + max c' r)
wrapped_low d f m c c' r h a b e = omega (arith, h, a, b, e)

-- ---- links have no places: three levels each

no_place : (g : ℕ) → place_ok false (p_group g) ≡ true → ⊥
no_place g h = absurd cc

no_chord : (g size : ℕ) (body : PLine) → place_ok false (p_chord g size body) ≡ true → ⊥
no_chord g size body h = absurd cc

mutual
  link_depth : (n : Naming) (c : ℕ) (t : PTask) → task_ok false t ≡ true → depth (sig_wire no_items (task_sig n t)) ≤ 3 * task_reach 0 t
  link_depth n c (p_task k call links errbacks p_nowhere) ok =
      let p = task_parts false k call links errbacks p_nowhere ok in
      omega (arith, task_within n k call links errbacks p_nowhere, links_depth n links p.linked, links_depth n errbacks p.failing)
  link_depth n c (p_task k call links errbacks (p_group g)) ok =
      let p = task_parts false k call links errbacks (p_group g) ok in
      absurd (no_place g p.placed)
  link_depth n c (p_task k call links errbacks (p_chord g size body)) ok =
      let p = task_parts false k call links errbacks (p_chord g size body) ok in
      absurd (no_chord g size body p.placed)

  links_depth : (n : Naming) (ts : PTasks) → tasks_ok ts ≡ true → items_depth (tasks_wire n ts) ≤ 3 * tasks_reach ts
  links_depth n no_p_tasks ok = omega arith
  links_depth n (and_p_task t ts) ok = let p = both (task_ok false t) (tasks_ok ts) ok in omega (arith, link_depth n 0 t p.0, links_depth n ts p.1)

own_low : (c : ℕ) (d : ℕ) (t : PTask) → d ≤ 3 * task_reach 0 t → d + c + 1 ≤ 4 * task_reach c t
own_low c d (p_task k call links errbacks place) h = omega (arith, h)

own_reach : (c : ℕ) (t : PTask) → c + 1 ≤ task_reach c t
own_reach c (p_task k call links errbacks place) = omega arith

-- ---- lines of members: what the last task will carry counts too

one_behind : (n : Naming) (l : PLine) → has_more l ≡ false → behind (elements n l) ≡ []
one_behind n p_stop h = refl
one_behind n (p_step t p_stop) h = refl
one_behind n (p_step t (p_step u l)) h = absurd cc
one_behind n (p_step t (p_group_end g ms)) h = absurd cc
one_behind n (p_step t (p_chord_end g ms b)) h = absurd cc
one_behind n (p_group_end g ms) h = refl
one_behind n (p_chord_end g ms b) h = one_behind n b h

one_alone : (ss : List Sig) → behind ss ≡ [] → depth (member_wire ss) ≤ deep ss
one_alone [] h = omega arith
one_alone (s ∷ []) h = omega arith
one_alone (s ∷ t ∷ ss) h = absurd cc

record Low (n : Naming) (c : ℕ) (l : PLine) : Type 0 where
  reach : c + 1 ≤ greatest_reach c l
  some : deep (elements n l) + c + 1 ≤ 4 * greatest_reach c l
  wide : has_more l ≡ true → (deep (elements n l) + c + 2 ≤ 4 * line_reach c l) × (c + 2 ≤ line_reach c l)
  member : depth (member_wire (elements n l)) + c + 1 ≤ 4 * line_reach c l

-- a task in front of others
stepped : (n : Naming) (c : ℕ) (t : PTask) (l : PLine) → greatest_reach c (p_step t l) ≡ max (task_reach 0 t) (greatest_reach c l)
    → line_reach c (p_step t l) ≡ 1 + max (task_reach 0 t) (greatest_reach c l) → depth (sig_wire no_items (task_sig n t)) ≤ 3 * task_reach 0 t → Low n c l
    → Low n c (p_step t l)
stepped n c t l g r d low =
    let some : deep (elements n (p_step t l)) + c + 1 ≤ 4 * greatest_reach c (p_step t l) = omega (arith, g, d, low.reach, low.some) in
    record {
      reach = omega (arith, g, low.reach);
      some = some;
      wide = λ h. (omega (arith, g, r, some), omega (arith, g, r, low.reach));
      member = omega (arith, g, r, some, member_within (elements n (p_step t l)));
    }

chord_member : (n : Naming) (c g : ℕ) (ms : PLines) (b : PLine) (more : Bool) → has_more b ≡ more → Low n c b
    → items_depth (members_wire n ms) + line_reach c b + 1 ≤ max (line_reach c b + 1) (4 * members_reach (line_reach c b) ms)
    → depth (member_wire (elements n (p_chord_end g ms b))) + c + 1 ≤ 4 * line_reach c (p_chord_end g ms b)
chord_member n c g ms b true is low few =
    let w = low.wide is in
    omega (
      arith,
      wrapped_low (deep (elements n (p_chord_end g ms b))) (deep (elements n b)) (items_depth (members_wire n ms)) c (line_reach c b)
          (members_reach (line_reach c b) ms) (chord_within n g ms b) w.0 w.1 few,
      member_within (elements n (p_chord_end g ms b)),
    )
chord_member n c g ms b false is low few =
    omega (
      arith,
      chord_low (deep (elements n (p_chord_end g ms b))) (deep (elements n b)) (items_depth (members_wire n ms)) c (line_reach c b)
          (members_reach (line_reach c b) ms) (chord_within n g ms b)
          (omega (arith, low.some, greatest_low c b)) (omega (arith, low.reach, greatest_low c b)) few,
      one_alone (elements n (p_chord_end g ms b)) (one_behind n b is),
    )

chord_bounds : (n : Naming) (c g : ℕ) (ms : PLines) (b : PLine) → Low n c b
    → items_depth (members_wire n ms) + line_reach c b + 1 ≤ max (line_reach c b + 1) (4 * members_reach (line_reach c b) ms) → Low n c (p_chord_end g ms b)
chord_bounds n c g ms b low few =
    let some =
    chord_low (deep (elements n (p_chord_end g ms b))) (deep (elements n b)) (items_depth (members_wire n ms)) c (line_reach c b)
    (members_reach (line_reach c b) ms) (chord_within n g ms b)
    (omega (arith, low.some, greatest_low c b)) (omega (arith, low.reach, greatest_low c b)) few in
    record {
      reach = omega (arith, low.reach, greatest_low c b);
      some = omega (arith, some);
      wide = λ h. (omega (arith, some), omega (arith, low.reach, greatest_low c b));
      member = chord_member n c g ms b (has_more b) refl low few;
    }

not_true : (b : Bool) → not b ≡ true → b ≡ false
not_true true h = absurd cc
not_true false h = refl

mutual
  low : (n : Naming) (c : ℕ) (l : PLine) → line_ok false l ≡ true → in_group (strip l) ≡ false → Low n c l
  low n c p_stop ok out = absurd cc
  low n c (p_step t p_stop) ok out =
      let d = own_low c (depth (sig_wire no_items (task_sig n t))) t (link_depth n 0 t ok) in
      record { reach = own_reach c t; some = omega (arith, d); wide = λ h. absurd cc; member = d }
  low n c (p_step t (p_step u l)) ok out =
      let p = both (task_ok false t) (line_ok false (p_step u l)) ok in
      stepped n c t (p_step u l) refl refl (link_depth n 0 t p.0) (low n c (p_step u l) p.1 out)
  low n c (p_step t (p_group_end g ms)) ok out = absurd cc
  low n c (p_step t (p_chord_end g ms b)) ok out =
      let p = both (task_ok false t) (line_ok false (p_chord_end g ms b)) ok in
      stepped n c t (p_chord_end g ms b) refl refl (link_depth n 0 t p.0) (low n c (p_chord_end g ms b) p.1 out)
  low n c (p_group_end g ms) ok out = absurd cc
  low n c (p_chord_end g ms b) ok out =
      let p = chord_parts false g ms b ok in
      chord_bounds n c g ms b (low n c b p.body out) (members_low n (line_reach c b) ms p.members)

  members_low : (n : Naming) (c : ℕ) (ms : PLines) → members_ok ms ≡ true → items_depth (members_wire n ms) + c + 1 ≤ max (c + 1) (4 * members_reach c ms)
  members_low n c no_p_lines ok = omega arith
  members_low n c (and_p_line m ms) ok =
      let p = both (line_ok false m && not (in_group (strip m))) (members_ok ms) ok in
      let q = both (line_ok false m) (not (in_group (strip m))) p.0 in
      omega (arith, (low n c m q.0 (not_true (in_group (strip m)) q.1)).member, members_low n c ms p.1)

-- ---- lines that may have a place at their end

pub record High (n : Naming) (l : PLine) : Type 0 where
  pub some : deep (elements n l) ≤ 4 * greatest_reach 0 l
  pub carried : depth (carried_wire (elements n l)) ≤ 4 * line_reach 0 l

last_high : (n : Naming) (t : PTask) → depth (sig_wire no_items (task_sig n t)) ≤ 4 * task_reach 0 t → High n (p_step t p_stop)
last_high n t d = record { some = omega (arith, d); carried = omega (arith, d, carried_within (elements n (p_step t p_stop)), own_reach 0 t) }

step_high : (n : Naming) (t : PTask) (l : PLine) → greatest_reach 0 (p_step t l) ≡ max (task_reach 0 t) (greatest_reach 0 l)
    → line_reach 0 (p_step t l) ≡ 1 + max (task_reach 0 t) (greatest_reach 0 l) → depth (sig_wire no_items (task_sig n t)) ≤ 3 * task_reach 0 t → High n l
    → High n (p_step t l)
step_high n t l g r d high =
    let e = high.some in
    record
    { some = omega (arith, g, d, e); carried = omega (arith, r, d, e, carried_within (elements n (p_step t l)), behind_within (elements n (p_step t l))) }

group_high : (n : Naming) (g : ℕ) (ms : PLines) → items_depth (members_wire n ms) + 0 + 1 ≤ max (0 + 1) (4 * members_reach 0 ms) → High n (p_group_end g ms)
group_high n g ms few =
    let e : deep (elements n (p_group_end g ms)) ≤ 4 * greatest_reach 0 (p_group_end g ms) = omega (arith, group_within n g (members_wire n ms), few) in
    record { some = e; carried = omega (arith, e, carried_within (elements n (p_group_end g ms))) }

chord_high : (n : Naming) (g : ℕ) (ms : PLines) (b : PLine)
    → items_depth (members_wire n ms) + line_reach 0 b + 1 ≤ max (line_reach 0 b + 1) (4 * members_reach (line_reach 0 b) ms)
    → High n b → High n (p_chord_end g ms b)
chord_high n g ms b few high =
    let f = high.some in
    let e : deep (elements n (p_chord_end g ms b)) ≤ 4 * greatest_reach 0 (p_chord_end g ms b) =
    omega (arith, chord_within n g ms b, few, f, greatest_low 0 b) in
    record { some = e; carried = omega (arith, e, carried_within (elements n (p_chord_end g ms b)), behind_within (elements n b), f, greatest_low 0 b) }

mutual
  pub carried_low : (n : Naming) (last : Bool) (p : PPlace) → place_ok last p ≡ true → depth (body_at n p) ≤ 4 * place_reach p
  carried_low n last p_nowhere ok = omega arith
  carried_low n last (p_group g) ok = omega arith
  carried_low n last (p_chord g size body) ok = (line_low n body (both (last && is_task_number g && size_ok size) (line_ok true body) ok).1).carried

  pub line_low : (n : Naming) (l : PLine) → line_ok true l ≡ true → High n l
  line_low n p_stop ok = absurd cc
  line_low n (p_step t p_stop) ok = last_high n t (last_low n t ok)
  line_low n (p_step t (p_step u l)) ok =
      let p = both (task_ok false t) (line_ok true (p_step u l)) ok in
      step_high n t (p_step u l) refl refl (link_depth n 0 t p.0) (line_low n (p_step u l) p.1)
  line_low n (p_step t (p_group_end g ms)) ok =
      let p = both (task_ok false t) (line_ok true (p_group_end g ms)) ok in
      step_high n t (p_group_end g ms) refl refl (link_depth n 0 t p.0) (line_low n (p_group_end g ms) p.1)
  line_low n (p_step t (p_chord_end g ms b)) ok =
      let p = both (task_ok false t) (line_ok true (p_chord_end g ms b)) ok in
      step_high n t (p_chord_end g ms b) refl refl (link_depth n 0 t p.0) (line_low n (p_chord_end g ms b) p.1)
  line_low n (p_group_end g ms) ok = group_high n g ms (members_low n 0 ms (both (is_task_number g) (members_ok ms) ok).1)
  line_low n (p_chord_end g ms b) ok =
      let p = chord_parts true g ms b ok in
      chord_high n g ms b (members_low n (line_reach 0 b) ms p.members) (line_low n b p.body)

  last_low : (n : Naming) (t : PTask) → task_ok true t ≡ true → depth (sig_wire no_items (task_sig n t)) ≤ 4 * task_reach 0 t
  last_low n (p_task k call links errbacks place) ok =
      let p = task_parts true k call links errbacks place ok in
      omega
      (arith, task_within n k call links errbacks place, carried_low n true place p.placed, links_depth n links p.linked, links_depth n errbacks p.failing)

pub callbacks_low : (n : Naming) (ts : PTasks) → tasks_ok ts ≡ true → items_depth (tasks_wire n ts) ≤ 3 * tasks_reach ts
callbacks_low n ts ok = links_depth n ts ok
