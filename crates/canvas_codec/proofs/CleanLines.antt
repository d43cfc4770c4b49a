-- Frozen signatures are written as values that are read again as they were written, three levels of JSON each.
use Rattle.std.proofs.Common.{◌≡◌, ℕ, ◌≤◌, ◌<◌, ◌^◌, ◌*◌, ◌+◌, max, List, Bool, true, false, Some, None, Option, refl, arith}
use Rattle.std.specs.Prelude.{codes, ◌&&◌, nat_lt, nat_le, not}
use Rattle.std.proofs.lemmas.Bool.{leb-true}
use Rattle.serde_json.specs.Data.{Data, null, boolean, number, string, array, object, Items, no_items, item, Members, no_members, member, depth, items_depth, members_depth}
use Rattle.canvas_sig.specs.steps.Clean.{IsAbove, behind_members, IsClean, AreClean, MembersClean}
use Rattle.canvas_semantics.specs.Tree.{Call}
use Rattle.canvas_values.specs.Writing.{args_wire, kwargs_wire, member_unless_empty, tasks_member, chord_members}
use Rattle.canvas_sig.proofs.CleanWire.{args_clean, above_behind, kwargs_clean, all_above, args_depth, kwargs_depth}
use Rattle.canvas_values.proofs.ComposedLemmas.{both}
use Rattle.canvas_semantics.specs.Line.{in_group}
use Rattle.canvas_semantics.specs.PlacedLine.{PTask, p_task, PTasks, no_p_tasks, and_p_task, PPlace, p_nowhere, p_group, p_chord, PLine, p_stop, p_step, p_group_end, p_chord_end, PLines, no_p_lines, and_p_line, strip}
use Rattle.canvas_envelope.specs.Fits.{is_task_number, size_ok, task_ok, tasks_ok, place_ok, line_ok, members_ok, task_reach, tasks_reach, place_reach, line_reach, greatest_reach, members_reach, most_members}
use Rattle.canvas_envelope.specs.Wire.{task_id, place_id, member_unless_null, frozen_wire, task_options, call_wire, chain_wire, group_options, group_wire, chord_wire, task_wire, tasks_wire, carried_wire, line_wire, elements_wire, members_wire}
use Rattle.canvas_codec.proofs.RoundTrip.{task_parts, chord_parts}

-- ---- optional members, after the earlier ones

null_clean : (before : Members) (k : List ℕ) (d : Data) (more : Members) → IsAbove k before → IsClean d → MembersClean before more
    → MembersClean (behind_members before k d) more
    → MembersClean before (member_unless_null k d more)
null_clean before k null more above clean without with_it = without
null_clean before k (boolean b) more above clean without with_it = (above, clean, with_it)
null_clean before k (number n) more above clean without with_it = (above, clean, with_it)
null_clean before k (string s) more above clean without with_it = (above, clean, with_it)
null_clean before k (array ds) more above clean without with_it = (above, clean, with_it)
null_clean before k (object ms) more above clean without with_it = (above, clean, with_it)

list_clean : (before : Members) (k : List ℕ) (ds : Items) (more : Members) → IsAbove k before → AreClean ds → MembersClean before more
    → MembersClean (behind_members before k (array ds)) more
    → MembersClean before (member_unless_empty k ds more)
list_clean before k no_items more above clean without with_it = without
list_clean before k (item d ds) more above clean without with_it = (above, clean, with_it)

abbrev id_member : ℕ → Members
id_member k = member (codes "task_id") (task_id k) no_members

-- each later name is above those before
errbacks_clean : (before : Members) (k : ℕ) (e : Items) → AreClean e → IsAbove (codes "link_error") before → IsAbove (codes "task_id") before
    → MembersClean before (member_unless_empty (codes "link_error") e (id_member k))
errbacks_clean before k e clean a b =
    list_clean before (codes "link_error") e (id_member k) a clean (b, tt, tt) (above_behind (codes "task_id") (codes "link_error") (array e) before b refl, tt, tt)

links_clean : (before : Members) (k : ℕ) (l e : Items) → AreClean l → AreClean e → IsAbove (codes "link") before → IsAbove (codes "link_error") before → IsAbove (codes "task_id") before
    → MembersClean before (member_unless_empty (codes "link") l (member_unless_empty (codes "link_error") e (id_member k)))
links_clean before k l e cl ce a b c =
    list_clean before (codes "link") l _ a cl (errbacks_clean before k e ce b c)
    (errbacks_clean (behind_members before (codes "link") (array l)) k e ce (above_behind (codes "link_error") (codes "link") (array l) before b refl) (above_behind (codes "task_id") (codes "link") (array l) before c refl))

group_clean : (before : Members) (k : ℕ) (l e : Items) (g : Data) → AreClean l → AreClean e → IsClean g → IsAbove (codes "group_id") before → IsAbove (codes "link") before
    → IsAbove (codes "link_error") before → IsAbove (codes "task_id") before
    → MembersClean before (member_unless_null (codes "group_id") g (member_unless_empty (codes "link") l (member_unless_empty (codes "link_error") e (id_member k))))
group_clean before k l e g cl ce cg z a b c =
    null_clean before (codes "group_id") g _ z cg (links_clean before k l e cl ce a b c)
    (links_clean (behind_members before (codes "group_id") g) k l e cl ce (above_behind (codes "link") (codes "group_id") g before a refl) (above_behind (codes "link_error") (codes "group_id") g before b refl)
    (above_behind (codes "task_id") (codes "group_id") g before c refl))

options_clean : (k : ℕ) (l e : Items) (g c : Data) → AreClean l → AreClean e → IsClean g → IsClean c → MembersClean no_members (task_options k l e g c)
options_clean k l e g c cl ce cg cc =
    null_clean no_members (codes "chord") c _ tt cc (group_clean no_members k l e g cl ce cg tt tt tt tt)
    (group_clean (behind_members no_members (codes "chord") c) k l e g cl ce cg (refl, tt) (refl, tt) (refl, tt) (refl, tt))

-- ---- signatures

small : (n : ℕ) → size_ok n ≡ true → n ≤ most_members
small n h = leb-true n most_members (both (nat_lt 0 n) (nat_le n most_members) h).1

-- the size that a body says
abbrev pub SizeOk : Option ℕ → Type 0
SizeOk None = Unit {0}
SizeOk (Some n) = n ≤ most_members

wide : (n : ℕ) → n ≤ most_members → n < 2 ^ 64
wide n h = omega (arith, h)

frozen_clean : (size : Option ℕ) (args : Items) (immutable : Bool) (kwargs options : Members) (kind : Data) (name : List ℕ) → SizeOk size → AreClean args
    → MembersClean no_members kwargs
    → MembersClean no_members options → IsClean kind → IsClean (frozen_wire size args immutable kwargs options kind name)
frozen_clean None args immutable kwargs options kind name s a k o kd = (
  tt,
  a,
  (
    (refl, tt),
    tt,
    (
      (refl, (refl, tt)),
      k,
      ((refl, (refl, (refl, tt))), o, ((refl, (refl, (refl, (refl, tt)))), kd, ((refl, (refl, (refl, (refl, (refl, tt))))), tt, tt))),
    ),
  ),
)
frozen_clean (Some n) args immutable kwargs options kind name s a k o kd = (
  tt,
  a,
  (
    (refl, tt),
    wide n s,
    (
      (refl, (refl, tt)),
      tt,
      (
        (refl, (refl, (refl, tt))),
        k,
        ((refl, (refl, (refl, (refl, tt)))), o, ((refl, (refl, (refl, (refl, (refl, tt))))), kd, ((refl, (refl, (refl, (refl, (refl, (refl, tt)))))), tt, tt))),
      ),
    ),
  ),
)

pub place_id_clean : (p : PPlace) → IsClean (place_id p)
place_id_clean p_nowhere = tt
place_id_clean (p_group g) = tt
place_id_clean (p_chord g size body) = tt

chain_clean : (size : Option ℕ) (ds : Items) → SizeOk size → AreClean ds → IsClean (chain_wire size ds)
chain_clean size ds s clean = frozen_clean size no_items false (tasks_member ds) no_members (string (codes "chain")) (codes "celery.chain") s tt (tt, clean, tt) tt tt

grouped_clean : (size : Option ℕ) (g : ℕ) (ds : Items) → SizeOk size → AreClean ds → IsClean (group_wire size g ds)
grouped_clean size g ds s clean = frozen_clean size no_items false (tasks_member ds) (group_options g) (string (codes "group")) (codes "celery.group") s tt (tt, clean, tt) (tt, tt, tt) tt

chord_clean : (size : Option ℕ) (g : ℕ) (ds : Items) (b : Data) → SizeOk size → AreClean ds → IsClean b → IsClean (chord_wire size g ds b)
chord_clean size g ds b s clean body =
    frozen_clean size no_items false (chord_members b ds) (group_options g) (string (codes "chord")) (codes "celery.chord") s tt (tt, body, ((refl, tt), clean, tt)) (tt, tt, tt) tt

mutual
  pub task_clean : (last : Bool) (size : Option ℕ) (t : PTask) → SizeOk size → task_ok last t ≡ true → IsClean (task_wire size t)
  task_clean last size (p_task k call links errbacks place) s ok =
      let p = task_parts last k call links errbacks place ok in
      frozen_clean size (args_wire call.args) call.immutable (kwargs_wire call.kwargs) _ null call.name s (args_clean call.args p.called.args)
      (kwargs_clean no_members call.kwargs p.called.kwargs p.called.ordered (all_above call.kwargs))
      (options_clean k (tasks_wire links) (tasks_wire errbacks) (place_id place) (carried_wire place) (tasks_clean links p.linked)
      (tasks_clean errbacks p.failing) (place_id_clean place) (carried_clean last place p.placed)) tt

  pub tasks_clean : (ts : PTasks) → tasks_ok ts ≡ true → AreClean (tasks_wire ts)
  tasks_clean no_p_tasks ok = tt
  tasks_clean (and_p_task t ts) ok = let p = both (task_ok false t) (tasks_ok ts) ok in (task_clean false None t tt p.0, tasks_clean ts p.1)

  pub carried_clean : (last : Bool) (p : PPlace) → place_ok last p ≡ true → IsClean (carried_wire p)
  carried_clean last p_nowhere ok = tt
  carried_clean last (p_group g) ok = tt
  carried_clean last (p_chord g size body) ok =
      let p = both (last && is_task_number g && size_ok size) (line_ok true body) ok in
      line_clean true (Some size) body (small size (both (last && is_task_number g) (size_ok size) p.0).1) p.1

  line_clean : (last : Bool) (size : Option ℕ) (l : PLine) → SizeOk size → line_ok last l ≡ true → IsClean (line_wire size l)
  line_clean last size p_stop s ok = absurd cc
  line_clean last size (p_step t p_stop) s ok = task_clean last size t s ok
  line_clean last size (p_step t (p_step u l)) s ok =
      let p = both (task_ok false t) (line_ok last (p_step u l)) ok in
      chain_clean size (item (task_wire None t) (elements_wire (p_step u l))) s (task_clean false None t tt p.0, elements_clean last (p_step u l) p.1)
  line_clean last size (p_step t (p_group_end g ms)) s ok =
      let p = both (task_ok false t) (line_ok last (p_group_end g ms)) ok in
      chain_clean size (item (task_wire None t) (elements_wire (p_group_end g ms))) s
      (task_clean false None t tt p.0, elements_clean last (p_group_end g ms) p.1)
  line_clean last size (p_step t (p_chord_end g ms b)) s ok =
      let p = both (task_ok false t) (line_ok last (p_chord_end g ms b)) ok in
      chain_clean size (item (task_wire None t) (elements_wire (p_chord_end g ms b))) s
      (task_clean false None t tt p.0, elements_clean last (p_chord_end g ms b) p.1)
  line_clean last size (p_group_end g ms) s ok = grouped_clean size g (members_wire ms) s (members_clean ms (both (is_task_number g) (members_ok ms) ok).1)
  line_clean last size (p_chord_end g ms b) s ok =
      let p = chord_parts last g ms b ok in
      chord_clean size g (members_wire ms) (line_wire None b) s (members_clean ms p.members) (line_clean last None b tt p.body)

  pub elements_clean : (last : Bool) (l : PLine) → line_ok last l ≡ true → AreClean (elements_wire l)
  elements_clean last p_stop ok = absurd cc
  elements_clean last (p_step t p_stop) ok = (task_clean last None t tt ok, tt)
  elements_clean last (p_step t (p_step u l)) ok =
      let p = both (task_ok false t) (line_ok last (p_step u l)) ok in
      (task_clean false None t tt p.0, elements_clean last (p_step u l) p.1)
  elements_clean last (p_step t (p_group_end g ms)) ok =
      let p = both (task_ok false t) (line_ok last (p_group_end g ms)) ok in
      (task_clean false None t tt p.0, elements_clean last (p_group_end g ms) p.1)
  elements_clean last (p_step t (p_chord_end g ms b)) ok =
      let p = both (task_ok false t) (line_ok last (p_chord_end g ms b)) ok in
      (task_clean false None t tt p.0, elements_clean last (p_chord_end g ms b) p.1)
  elements_clean last (p_group_end g ms) ok = (grouped_clean None g (members_wire ms) tt (members_clean ms (both (is_task_number g) (members_ok ms) ok).1), tt)
  elements_clean last (p_chord_end g ms b) ok =
      let p = chord_parts last g ms b ok in
      (chord_clean None g (members_wire ms) (line_wire None b) tt (members_clean ms p.members) (line_clean last None b tt p.body), tt)

  members_clean : (ms : PLines) → members_ok ms ≡ true → AreClean (members_wire ms)
  members_clean no_p_lines ok = tt
  members_clean (and_p_line m ms) ok =
      let p = both (line_ok false m && not (in_group (strip m))) (members_ok ms) ok in
      (line_clean false None m tt (both (line_ok false m) (not (in_group (strip m))) p.0).0, members_clean ms p.1)

-- ---- each signature takes three levels of JSON at most

null_depth : (k : List ℕ) (d : Data) (more : Members) → members_depth (member_unless_null k d more) ≤ max (depth d) (members_depth more)
null_depth k null more = omega arith
null_depth k (boolean b) more = omega arith
null_depth k (number n) more = omega arith
null_depth k (string s) more = omega arith
null_depth k (array ds) more = omega arith
null_depth k (object ms) more = omega arith

list_depth : (k : List ℕ) (ds : Items) (more : Members) → members_depth (member_unless_empty k ds more) ≤ max (1 + items_depth ds) (members_depth more)
list_depth k no_items more = omega arith
list_depth k (item d ds) more = omega arith

options_depth : (k : ℕ) (l e : Items) (g c : Data)
    → members_depth (task_options k l e g c) ≤ max (max (depth c) (depth g)) (1 + max (items_depth l) (items_depth e))
options_depth k l e g c =
    omega (
      arith,
      null_depth (codes "chord") c (member_unless_null (codes "group_id") g (member_unless_empty (codes "link") l (member_unless_empty (codes "link_error") e (id_member k)))),
      null_depth (codes "group_id") g (member_unless_empty (codes "link") l (member_unless_empty (codes "link_error") e (id_member k))),
      list_depth (codes "link") l (member_unless_empty (codes "link_error") e (id_member k)),
      list_depth (codes "link_error") e (id_member k),
    )

frozen_depth : (size : Option ℕ) (args : Items) (immutable : Bool) (kwargs options : Members) (kind : Data) (name : List ℕ) → depth kind ≡ 0
    → depth (frozen_wire size args immutable kwargs options kind name) ≤ 2 + max (items_depth args) (max (members_depth kwargs) (members_depth options))
frozen_depth None args immutable kwargs options kind name h = omega (arith, h)
frozen_depth (Some n) args immutable kwargs options kind name h = omega (arith, h)

pub place_id_depth : (p : PPlace) → depth (place_id p) ≡ 0
place_id_depth p_nowhere = refl
place_id_depth (p_group g) = refl
place_id_depth (p_chord g size body) = refl

chain_depth : (size : Option ℕ) (ds : Items) → depth (chain_wire size ds) ≤ 3 + items_depth ds
chain_depth size ds = omega (arith, frozen_depth size no_items false (tasks_member ds) no_members (string (codes "chain")) (codes "celery.chain") refl)

group_depth : (size : Option ℕ) (g : ℕ) (ds : Items) → depth (group_wire size g ds) ≤ 3 + items_depth ds
group_depth size g ds = omega (arith, frozen_depth size no_items false (tasks_member ds) (group_options g) (string (codes "group")) (codes "celery.group") refl)

chord_depth : (size : Option ℕ) (g : ℕ) (ds : Items) (b : Data) → depth (chord_wire size g ds b) ≤ 3 + max (depth b) (items_depth ds)
chord_depth size g ds b = omega (arith, frozen_depth size no_items false (chord_members b ds) (group_options g) (string (codes "chord")) (codes "celery.chord") refl)

task_level : (size : Option ℕ) (k n : ℕ) (call : Call) (l e : Items) (place : PPlace) → items_depth l ≤ 3 + 3 * n → items_depth e ≤ 3 + 3 * n
    → depth (carried_wire place) ≤ 3 + 3 * n
    → depth (call_wire size call (task_options k l e (place_id place) (carried_wire place))) ≤ 3 + 3 * (1 + n)
task_level size k n call l e place hl he hc =
    let o = task_options k l e (place_id place) (carried_wire place) in
    omega (
      arith,
      frozen_depth size (args_wire call.args) call.immutable (kwargs_wire call.kwargs) o null call.name refl,
      args_depth call.args,
      kwargs_depth call.kwargs,
      options_depth k l e (place_id place) (carried_wire place),
      place_id_depth place,
      hl,
      he,
      hc,
    )

mutual
  pub task_depth : (c : ℕ) (size : Option ℕ) (t : PTask) → depth (task_wire size t) ≤ 3 + 3 * task_reach c t
  task_depth c size (p_task k call links errbacks place) =
      let n = max (max c (place_reach place)) (max (tasks_reach links) (tasks_reach errbacks)) in
      task_level size k n call (tasks_wire links) (tasks_wire errbacks) place (omega (arith, tasks_depth links)) (omega (arith, tasks_depth errbacks))
      (omega (arith, carried_depth place))

  pub tasks_depth : (ts : PTasks) → items_depth (tasks_wire ts) ≤ 3 + 3 * tasks_reach ts
  tasks_depth no_p_tasks = omega arith
  tasks_depth (and_p_task t ts) = omega (arith, task_depth 0 None t, tasks_depth ts)

  pub carried_depth : (p : PPlace) → depth (carried_wire p) ≤ 3 + 3 * place_reach p
  carried_depth p_nowhere = omega arith
  carried_depth (p_group g) = omega arith
  carried_depth (p_chord g size body) = line_depth 0 (Some size) body

  line_depth : (c : ℕ) (size : Option ℕ) (l : PLine) → depth (line_wire size l) ≤ 3 + 3 * line_reach c l
  line_depth c size p_stop = omega (arith, chain_depth size no_items)
  line_depth c size (p_step t p_stop) = task_depth c size t
  line_depth c size (p_step t (p_step u l)) =
      omega (arith, chain_depth size (item (task_wire None t) (elements_wire (p_step u l))), task_depth 0 None t, elements_depth c (p_step u l))
  line_depth c size (p_step t (p_group_end g ms)) =
      omega (arith, chain_depth size (item (task_wire None t) (elements_wire (p_group_end g ms))), task_depth 0 None t, elements_depth c (p_group_end g ms))
  line_depth c size (p_step t (p_chord_end g ms b)) =
      omega (arith, chain_depth size (item (task_wire None t) (elements_wire (p_chord_end g ms b))), task_depth 0 None t, elements_depth c (p_chord_end g ms b))
  line_depth c size (p_group_end g ms) = omega (arith, group_depth size g (members_wire ms), members_depth_of 0 ms)
  line_depth c size (p_chord_end g ms b) =
      omega (arith, chord_depth size g (members_wire ms) (line_wire None b), line_depth c None b, members_depth_of (line_reach c b) ms)

  pub elements_depth : (c : ℕ) (l : PLine) → items_depth (elements_wire l) ≤ 3 + 3 * greatest_reach c l
  elements_depth c p_stop = omega arith
  elements_depth c (p_step t p_stop) = omega (arith, task_depth c None t)
  elements_depth c (p_step t (p_step u l)) = omega (arith, task_depth 0 None t, elements_depth c (p_step u l))
  elements_depth c (p_step t (p_group_end g ms)) = omega (arith, task_depth 0 None t, elements_depth c (p_group_end g ms))
  elements_depth c (p_step t (p_chord_end g ms b)) = omega (arith, task_depth 0 None t, elements_depth c (p_chord_end g ms b))
  elements_depth c (p_group_end g ms) = omega (arith, group_depth None g (members_wire ms), members_depth_of 0 ms)
  elements_depth c (p_chord_end g ms b) =
      omega (arith, chord_depth None g (members_wire ms) (line_wire None b), line_depth c None b, members_depth_of (line_reach c b) ms)

  members_depth_of : (c : ℕ) (ms : PLines) → items_depth (members_wire ms) ≤ 3 + 3 * members_reach c ms
  members_depth_of c no_p_lines = omega arith
  members_depth_of c (and_p_line m ms) = omega (arith, line_depth c None m, members_depth_of c ms)
