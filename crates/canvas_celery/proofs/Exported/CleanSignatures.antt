-- Signatures that haven't started are written as values that are read again as they were written.
use Rattle.std.proofs.Common.{◌≡◌, ℕ, ◌<◌, ◌≤◌, ◌==◌, ◌^◌, List, [], ◌∷◌, ◌++◌, reverse, length, Bool, true, false, refl, sym, subst, arith}
use Rattle.std.specs.Prelude.{suc, codes, ◌&&◌, not, if◌then◌else◌}
use Rattle.std.proofs.lemmas.List.{reverse-append}
use Rattle.serde_json.specs.Data.{Data, string, array, Items, no_items, item, Members, member, no_members}
use Rattle.canvas_sig.specs.steps.Clean.{IsAbove, behind_members, IsClean, AreClean, MembersClean}
use Rattle.canvas_values.specs.Writing.{member_unless_empty, tasks_member, chord_members}
use Rattle.canvas_sig.proofs.CleanWire.{args_clean, above_behind, kwargs_clean, all_above}
use Rattle.canvas_values.proofs.ComposedLemmas.{both}
use Rattle.canvas_semantics.specs.Line.{in_group}
use Rattle.canvas_semantics.specs.PlacedLine.{PTask, p_task, PTasks, no_p_tasks, and_p_task, PPlace, p_nowhere, p_group, p_chord, PLine, p_stop, p_step, p_group_end, p_chord_end, PLines, no_p_lines, and_p_line, strip}
use Rattle.canvas_envelope.specs.Fits.{is_task_number, size_ok, task_ok, tasks_ok, place_ok, line_ok, members_ok}
use Rattle.canvas_codec.proofs.RoundTrip.{task_parts, chord_parts}
use Rattle.canvas_celery.specs.Signatures.{Naming, task_id, group_id, index_of, index_wire, Sig, sig_wire, each_wire, own_option, place_options, first_wire, behind, carried_wire, chain_wire, member_wire, group_sig, chord_sigs, task_sig, tasks_wire, body_at, elements, members_wire}

-- ---- places among members

step_small : (b : Bool) (i m : ℕ) → i ≤ m → (if b then 0 else suc i) ≤ suc m
step_small true i m h = omega arith
step_small false i m h = omega (arith, h)

index_small : (k : ℕ) (xs : List ℕ) → index_of k xs ≤ length xs
index_small k [] = omega arith
index_small k (x ∷ xs) = step_small (x == k) (index_of k xs) (length xs) (index_small k xs)

-- groups have fewer members than JSON's numbers go
abbrev pub IsBounded : Naming → Type 0
IsBounded n = (g : ℕ) → length (n.lasts g) < 2 ^ 64

pub index_clean : (n : Naming) → IsBounded n → (g k : ℕ) → IsClean (index_wire n g k)
index_clean n h g k = let low : length (n.lasts g) < 2 ^ 64 = h g in omega (arith, low, index_small k (n.lasts g))

-- ---- options: each later name is above those before

list_clean : (before : Members) (k : List ℕ) (ds : Items) (more : Members) → IsAbove k before → AreClean ds → MembersClean before more
    → MembersClean (behind_members before k (array ds)) more
    → MembersClean before (member_unless_empty k ds more)
list_clean before k no_items more above clean without with_it = without
list_clean before k (item d ds) more above clean without with_it = (above, clean, with_it)

abbrev from_errbacks : Data → Items → Members
from_errbacks id e = member_unless_empty (codes "link_error") e (own_option id)

abbrev from_links : Data → Items → Items → Members
from_links id l e = member_unless_empty (codes "link") l (from_errbacks id e)

-- names that may come after those before
record Above (before : Members) : Type 0 where
  chord : IsAbove (codes "chord") before
  group : IsAbove (codes "group_id") before
  index : IsAbove (codes "group_index") before
  link : IsAbove (codes "link") before
  errback : IsAbove (codes "link_error") before
  id : IsAbove (codes "task_id") before

errbacks_clean : (before : Members) (id : Data) (e : Items) → IsClean id → AreClean e → IsAbove (codes "link_error") before → IsAbove (codes "task_id") before
    → MembersClean before (from_errbacks id e)
errbacks_clean before id e i clean a b =
    list_clean before (codes "link_error") e (own_option id) a clean (b, i, tt)
    (above_behind (codes "task_id") (codes "link_error") (array e) before b refl, i, tt)

links_clean : (before : Members) (id : Data) (l e : Items) → IsClean id → AreClean l → AreClean e → IsAbove (codes "link") before
    → IsAbove (codes "link_error") before
    → IsAbove (codes "task_id") before → MembersClean before (from_links id l e)
links_clean before id l e i cl ce a b c =
    list_clean before (codes "link") l (from_errbacks id e) a cl (errbacks_clean before id e i ce b c)
    (errbacks_clean (behind_members before (codes "link") (array l)) id e i ce (above_behind (codes "link_error") (codes "link") (array l) before b refl) (above_behind (codes "task_id") (codes "link") (array l) before c refl))

-- with the two members that name a group
grouped_clean : (before : Members) (g x id : Data) (l e : Items) → IsClean g → IsClean x → IsClean id → AreClean l → AreClean e
    → IsAbove (codes "group_id") before → IsAbove (codes "group_index") before
    → IsAbove (codes "link") before → IsAbove (codes "link_error") before → IsAbove (codes "task_id") before
    → MembersClean before (member (codes "group_id") g (member (codes "group_index") x (from_links id l e)))
grouped_clean before g x id l e cg cx i cl ce y z a b c =
    let named = behind_members before (codes "group_id") g in (
      y,
      cg,
      (
        above_behind (codes "group_index") (codes "group_id") g before z refl,
        cx,
        links_clean (behind_members named (codes "group_index") x) id l e i cl ce
            (above_behind (codes "link") (codes "group_index") x named (above_behind (codes "link") (codes "group_id") g before a refl) refl)
            (above_behind (codes "link_error") (codes "group_index") x named (above_behind (codes "link_error") (codes "group_id") g before b refl) refl)
            (above_behind (codes "task_id") (codes "group_index") x named (above_behind (codes "task_id") (codes "group_id") g before c refl) refl),
      ),
    )

placed_clean : (before : Members) (n : Naming) (k : ℕ) (p : PPlace) (b : Data) (l e : Items) → IsBounded n → Above before → IsClean b → AreClean l → AreClean e
    → MembersClean before (place_options n k p b (from_links (task_id n k) l e))
placed_clean before n k p_nowhere b l e h up cb cl ce = links_clean before (task_id n k) l e tt cl ce up.link up.errback up.id
placed_clean before n k (p_group g) b l e h up cb cl ce =
    grouped_clean before (group_id n g) (index_wire n g k) (task_id n k) l e tt (index_clean n h g k) tt cl ce up.group up.index up.link up.errback up.id
placed_clean before n k (p_chord g size body) b l e h up cb cl ce = (
  up.chord,
  cb,
  grouped_clean (behind_members before (codes "chord") b) (group_id n g) (index_wire n g k) (task_id n k) l e tt (index_clean n h g k) tt cl ce
      (above_behind (codes "group_id") (codes "chord") b before up.group refl) (above_behind (codes "group_index") (codes "chord") b before up.index refl)
      (above_behind (codes "link") (codes "chord") b before up.link refl) (above_behind (codes "link_error") (codes "chord") b before up.errback refl)
      (above_behind (codes "task_id") (codes "chord") b before up.id refl),
)

-- ---- signatures, with anything in their option `chain`

abbrev SigClean : Sig → Type 0
SigClean s = (ch : Items) → AreClean ch → IsClean (sig_wire ch s)

abbrev SigsClean : List Sig → Type 0
SigsClean [] = Unit {0}
SigsClean (s ∷ ss) = SigClean s × SigsClean ss

sig_clean : (ch : Items) (s : Sig) → AreClean s.args → MembersClean no_members s.kwargs
    → MembersClean no_members (member_unless_empty (codes "chain") ch s.options) → IsClean s.kind
    → IsClean (sig_wire ch s)
sig_clean ch s a k o kd = (
  tt,
  a,
  (
    (refl, tt),
    tt,
    ((refl, (refl, tt)), k, ((refl, (refl, (refl, tt))), o, ((refl, (refl, (refl, (refl, tt)))), kd, ((refl, (refl, (refl, (refl, (refl, tt))))), tt, tt)))),
  ),
)

-- the option of a group or chord
own_clean : (ch : Items) (id : Data) → IsClean id → AreClean ch → MembersClean no_members (member_unless_empty (codes "chain") ch (own_option id))
own_clean ch id i c = list_clean no_members (codes "chain") ch (own_option id) tt c (tt, i, tt) ((refl, tt), i, tt)

group_clean : (n : Naming) (g : ℕ) (ms : Items) → AreClean ms → SigClean (group_sig n g ms)
group_clean n g ms c ch h = sig_clean ch (group_sig n g ms) tt (tt, c, tt) (own_clean ch (group_id n g) tt h) tt

-- ---- several

pub each_clean : (ss : List Sig) → SigsClean ss → AreClean (each_wire ss)
each_clean [] h = tt
each_clean (s ∷ ss) h = (h.0 no_items tt, each_clean ss h.1)

end_clean : (ss : List Sig) (s : Sig) → SigsClean ss → SigClean s → SigsClean (ss ++ s ∷ [])
end_clean [] s h k = (k, tt)
end_clean (t ∷ ss) s h k = (h.0, end_clean ss s h.1 k)

pub reversed_clean : (ss : List Sig) → SigsClean ss → SigsClean (reverse ss)
reversed_clean [] h = tt
reversed_clean (s ∷ ss) h = subst SigsClean (sym (reverse-append (s ∷ []) ss)) (end_clean (reverse ss) s (reversed_clean ss h.1) h.0)

first_clean : (ss : List Sig) → SigsClean ss → IsClean (first_wire ss)
first_clean [] h = tt
first_clean (s ∷ ss) h = h.0 no_items tt

behind_clean : (ss : List Sig) → SigsClean ss → SigsClean (behind ss)
behind_clean [] h = tt
behind_clean (s ∷ ss) h = h.1

carried_clean : (ss : List Sig) → SigsClean ss → IsClean (carried_wire ss)
carried_clean [] h = tt
carried_clean (s ∷ ss) h = h.0 (each_wire (reverse ss)) (each_clean (reverse ss) (reversed_clean ss h.1))

chain_clean : (ss : List Sig) → SigsClean ss → IsClean (chain_wire ss)
chain_clean ss h =
    sig_clean no_items
    (record { args = no_items; immutable = false; kwargs = tasks_member (each_wire ss); options = no_members; kind = string (codes "chain"); name = codes "celery.chain" })
    tt (tt, each_clean ss h, tt) tt tt

member_clean : (ss : List Sig) → SigsClean ss → IsClean (member_wire ss)
member_clean [] h = tt
member_clean (s ∷ []) h = h.0 no_items tt
member_clean (s ∷ t ∷ ss) h = chain_clean (s ∷ t ∷ ss) h

chord_clean : (n : Naming) (g : ℕ) (ms : Items) (b : List Sig) → AreClean ms → SigsClean b → SigsClean (chord_sigs n g ms b)
chord_clean n g ms b c h = (
  λ ch a. sig_clean ch
      (record { args = no_items; immutable = false; kwargs = chord_members (first_wire b) ms; options = own_option (group_id n g); kind = string (codes "chord"); name = codes "celery.chord" })
      tt (tt, first_clean b h, ((refl, tt), c, tt)) (own_clean ch (group_id n g) tt a) tt,
  behind_clean b h,
)

first_above : Above no_members
first_above = record { chord = tt; group = tt; index = tt; link = tt; errback = tt; id = tt }

chain_above : (ch : Items) → Above (member (codes "chain") (array ch) no_members)
chain_above ch = record { chord = (refl, tt); group = (refl, tt); index = (refl, tt); link = (refl, tt); errback = (refl, tt); id = (refl, tt) }

-- ---- lines

module _ (n : Naming) (bounded : IsBounded n) where
  mutual
    pub task_clean : (last : Bool) (t : PTask) → task_ok last t ≡ true → SigClean (task_sig n t)
    task_clean last (p_task k call links errbacks place) ok ch h =
        let p = task_parts last k call links errbacks place ok in
        let l = tasks_wire n links in
        let e = tasks_wire n errbacks in
        let b = body_at n place in
        let cb = place_clean last place p.placed in
        let cl = tasks_clean links p.linked in
        let ce = tasks_clean errbacks p.failing in
        sig_clean ch (task_sig n (p_task k call links errbacks place)) (args_clean call.args p.called.args)
        (kwargs_clean no_members call.kwargs p.called.kwargs p.called.ordered (all_above call.kwargs))
        (list_clean no_members (codes "chain") ch (place_options n k place b (from_links (task_id n k) l e)) tt h (placed_clean no_members n k place b l e bounded first_above cb cl ce)
        (placed_clean (member (codes "chain") (array ch) no_members) n k place b l e bounded (chain_above ch) cb cl ce)) tt

    pub tasks_clean : (ts : PTasks) → tasks_ok ts ≡ true → AreClean (tasks_wire n ts)
    tasks_clean no_p_tasks ok = tt
    tasks_clean (and_p_task t ts) ok = let p = both (task_ok false t) (tasks_ok ts) ok in (task_clean false t p.0 no_items tt, tasks_clean ts p.1)

    pub place_clean : (last : Bool) (p : PPlace) → place_ok last p ≡ true → IsClean (body_at n p)
    place_clean last p_nowhere ok = tt
    place_clean last (p_group g) ok = tt
    place_clean last (p_chord g size body) ok =
        carried_clean (elements n body) (line_clean true body (both (last && is_task_number g && size_ok size) (line_ok true body) ok).1)

    pub line_clean : (last : Bool) (l : PLine) → line_ok last l ≡ true → SigsClean (elements n l)
    line_clean last p_stop ok = tt
    line_clean last (p_step t p_stop) ok = (task_clean last t ok, tt)
    line_clean last (p_step t (p_step u l)) ok =
        let p = both (task_ok false t) (line_ok last (p_step u l)) ok in (task_clean false t p.0, line_clean last (p_step u l) p.1)
    line_clean last (p_step t (p_group_end g ms)) ok =
        let p = both (task_ok false t) (line_ok last (p_group_end g ms)) ok in (task_clean false t p.0, line_clean last (p_group_end g ms) p.1)
    line_clean last (p_step t (p_chord_end g ms b)) ok =
        let p = both (task_ok false t) (line_ok last (p_chord_end g ms b)) ok in (task_clean false t p.0, line_clean last (p_chord_end g ms b) p.1)
    line_clean last (p_group_end g ms) ok = (group_clean n g (members_wire n ms) (members_clean ms (both (is_task_number g) (members_ok ms) ok).1), tt)
    line_clean last (p_chord_end g ms b) ok =
        let p = chord_parts last g ms b ok in chord_clean n g (members_wire n ms) (elements n b) (members_clean ms p.members) (line_clean last b p.body)

    members_clean : (ms : PLines) → members_ok ms ≡ true → AreClean (members_wire n ms)
    members_clean no_p_lines ok = tt
    members_clean (and_p_line m ms) ok =
        let p = both (line_ok false m && not (in_group (strip m))) (members_ok ms) ok in
        (member_clean (elements n m) (line_clean false m (both (line_ok false m) (not (in_group (strip m))) p.0).0), members_clean ms p.1)
