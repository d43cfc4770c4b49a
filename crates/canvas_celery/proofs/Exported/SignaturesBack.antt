-- Signatures that haven't started are read again, but for the sizes of chords.
use Rattle.std.proofs.Common.{◌≡◌, ◌∙◌, ℕ, zero, suc, ◌≤◌, ◌+◌, ◌*◌, List, [], ◌∷◌, ◌++◌, map, reverse, length, Bool, true, false, nat_cmp, Less, Greater, refl, sym, ap, ap₂, arith}
use Rattle.std.specs.Prelude.{codes, ◌&&◌, not, if◌then◌else◌}
use Rattle.std.specs.Cmp.Lexicographic.{slice_cmp}
use Rattle.std.proofs.lemmas.List.{reverse-reverse, reverse-append}
use Rattle.serde_json.specs.Data.{Data, null, object, Items, no_items, item, Members}
use Rattle.canvas_values.specs.Fields.{field, items, listed, is_null}
use Rattle.canvas_values.specs.Writing.{member_unless_empty}
use Rattle.canvas_values.proofs.ComposedLemmas.{both}
use Rattle.canvas_values.proofs.FittingCalls.{CallFits}
use Rattle.canvas_sig.proofs.RoundTrip.{list_or_null}
use Rattle.canvas_semantics.specs.Tree.{Call}
use Rattle.canvas_semantics.specs.Line.{in_group}
use Rattle.canvas_semantics.specs.PlacedLine.{PTask, p_task, PTasks, no_p_tasks, and_p_task, PPlace, p_nowhere, p_group, p_chord, PLine, p_stop, p_step, p_group_end, p_chord_end, PLines, no_p_lines, and_p_line, strip}
use Rattle.canvas_rewrite.specs.FrozenView.{p_tasks_of, p_lines_of}
use Rattle.canvas_envelope.specs.Fits.{is_task_number, size_ok, task_ok, tasks_ok, place_ok, line_ok, members_ok, task_reach, tasks_reach, place_reach, line_reach, greatest_reach, members_reach}
use Rattle.canvas_envelope.specs.FrozenGrammar.{is_chain}
use Rattle.canvas_codec.proofs.RoundTrip.{task_parts, chord_parts}
use Rattle.canvas_celery.specs.Signatures.{Naming, task_id, group_id, Sig, sig_wire, each_wire, own_option, place_options, first_wire, behind, carried_wire, member_wire, task_sig, tasks_wire, body_at, elements, members_wire}
use Rattle.canvas_celery.specs.MessageReading.{group_number, carried_elements, place_from, task_from, member_elements, task_within, line_within}
use Rattle.canvas_celery.specs.Sizeless.{sizeless_task, sizeless_tasks, sizeless_place, sizeless_line, sizeless_lines}
use Rattle.canvas_celery.proofs.Exported.Named.{task_number_back, group_number_back, call_back}

-- ---- options: a look-up passes members of other names

list_passed : (k j : List ℕ) (ds : Items) (more : Members) → slice_cmp nat_cmp k j ≡ Greater
    → field k (object (member_unless_empty j ds more)) ≡ field k (object more)
list_passed k j no_items more h = refl
list_passed k j (item d ds) more h = rw h refl

list_before : (k j : List ℕ) (ds : Items) (more : Members) → slice_cmp nat_cmp k j ≡ Less
    → field k (object (member_unless_empty j ds more)) ≡ field k (object more)
list_before k j no_items more h = refl
list_before k j (item d ds) more h = rw h refl

abbrev from_errbacks : Data → Items → Members
from_errbacks id e = member_unless_empty (codes "link_error") e (own_option id)

abbrev from_links : Data → Items → Items → Members
from_links id l e = member_unless_empty (codes "link") l (from_errbacks id e)

links_passed : (k : List ℕ) (id : Data) (l e : Items) → slice_cmp nat_cmp k (codes "link") ≡ Less → slice_cmp nat_cmp k (codes "link_error") ≡ Less
    → field k (object (from_links id l e)) ≡ field k (object (own_option id))
links_passed k id l e a b = list_before k (codes "link") l (from_errbacks id e) a ∙ list_before k (codes "link_error") e (own_option id) b

link_there : (id : Data) (l e : Items) → field (codes "link") (object (from_links id l e)) ≡ list_or_null l
link_there id no_items e = list_before (codes "link") (codes "link_error") e (own_option id) refl
link_there id (item d ds) e = refl

errbacks_at : (id : Data) (e : Items) → field (codes "link_error") (object (from_errbacks id e)) ≡ list_or_null e
errbacks_at id no_items = refl
errbacks_at id (item d ds) = refl

errbacks_there : (id : Data) (l e : Items) → field (codes "link_error") (object (from_links id l e)) ≡ list_or_null e
errbacks_there id l e = list_passed (codes "link_error") (codes "link") l (from_errbacks id e) refl ∙ errbacks_at id e

id_there : (id : Data) (l e : Items) → field (codes "task_id") (object (from_links id l e)) ≡ id
id_there id l e =
    list_passed (codes "task_id") (codes "link") l (from_errbacks id e) refl ∙ list_passed (codes "task_id") (codes "link_error") e (own_option id) refl

-- the group or chord that a place names
abbrev pub place_id : Naming → PPlace → Data
place_id n p_nowhere = null
place_id n (p_group g) = group_id n g
place_id n (p_chord g size body) = group_id n g

-- the options of a task after `chain`
abbrev placed : Naming → ℕ → PPlace → Items → Items → Members
placed n k p l e = place_options n k p (body_at n p) (from_links (task_id n k) l e)

-- what the look-ups of a task's options find
record Found (n : Naming) (k : ℕ) (p : PPlace) (l e : Items) (ms : Members) : Type 0 where
  id : field (codes "task_id") (object ms) ≡ task_id n k
  group : field (codes "group_id") (object ms) ≡ place_id n p
  body : field (codes "chord") (object ms) ≡ body_at n p
  links : field (codes "link") (object ms) ≡ list_or_null l
  errbacks : field (codes "link_error") (object ms) ≡ list_or_null e

found_at : (n : Naming) (k : ℕ) (p : PPlace) (l e : Items) → Found n k p l e (placed n k p l e)
found_at n k p_nowhere l e =
    record {
      id = id_there (task_id n k) l e;
      group = links_passed (codes "group_id") (task_id n k) l e refl refl;
      body = links_passed (codes "chord") (task_id n k) l e refl refl;
      links = link_there (task_id n k) l e;
      errbacks = errbacks_there (task_id n k) l e;
    }
found_at n k (p_group g) l e =
    record {
      id = id_there (task_id n k) l e;
      group = refl;
      body = links_passed (codes "chord") (task_id n k) l e refl refl;
      links = link_there (task_id n k) l e;
      errbacks = errbacks_there (task_id n k) l e;
    }
found_at n k (p_chord g size body) l e =
    record {
      id = id_there (task_id n k) l e;
      group = refl;
      body = refl;
      links = link_there (task_id n k) l e;
      errbacks = errbacks_there (task_id n k) l e;
    }

found : (n : Naming) (k : ℕ) (p : PPlace) (l e ch : Items) → Found n k p l e (member_unless_empty (codes "chain") ch (placed n k p l e))
found n k p l e ch =
    let f = found_at n k p l e in
    let more = placed n k p l e in
    record {
      id = list_passed (codes "task_id") (codes "chain") ch more refl ∙ f.id;
      group = list_passed (codes "group_id") (codes "chain") ch more refl ∙ f.group;
      body = list_passed (codes "chord") (codes "chain") ch more refl ∙ f.body;
      links = list_passed (codes "link") (codes "chain") ch more refl ∙ f.links;
      errbacks = list_passed (codes "link_error") (codes "chain") ch more refl ∙ f.errbacks;
    }

-- the identifier of a group or chord that hasn't started
own_id : (id : Data) (ch : Items) → field (codes "task_id") (object (member_unless_empty (codes "chain") ch (own_option id))) ≡ id
own_id id ch = list_passed (codes "task_id") (codes "chain") ch (own_option id) refl

pub listed_of : (ds : Items) → listed (list_or_null ds) ≡ items ds
listed_of no_items = refl
listed_of (item d ds) = refl

-- ---- elements of a line

abbrev plain : Sig → Data
plain s = sig_wire no_items s

-- the first with what follows it in its option `chain`
abbrev pub wires : Items → List Sig → List Data
wires ch [] = []
wires ch (s ∷ ss) = sig_wire ch s ∷ map (sig_wire no_items) ss

abbrev Filled : List Sig → Type 0
Filled [] = ⊥
Filled (s ∷ ss) = Unit {0}

filled : (n : Naming) (last : Bool) (l : PLine) → line_ok last l ≡ true → Filled (elements n l)
filled n last p_stop ok = absurd cc
filled n last (p_step t l) ok = tt
filled n last (p_group_end g ms) ok = tt
filled n last (p_chord_end g ms b) ok = tt

-- no element is a chain, or has the option `chain` by itself
abbrev Plain : List Sig → Type 0
Plain [] = Unit {0}
Plain (s ∷ ss) = (field (codes "chain") (object s.options) ≡ null) × (is_chain (sig_wire no_items s) ≡ false)

no_chain : (n : Naming) (k : ℕ) (p : PPlace) (l e : Items) → field (codes "chain") (object (placed n k p l e)) ≡ null
no_chain n k p_nowhere l e = links_passed (codes "chain") (task_id n k) l e refl refl
no_chain n k (p_group g) l e = links_passed (codes "chain") (task_id n k) l e refl refl
no_chain n k (p_chord g size body) l e = links_passed (codes "chain") (task_id n k) l e refl refl

are_plain : (n : Naming) (l : PLine) → Plain (elements n l)
are_plain n p_stop = tt
are_plain n (p_step (p_task k call links errbacks place) l) = (no_chain n k place (tasks_wire n links) (tasks_wire n errbacks), refl)
are_plain n (p_group_end g ms) = (refl, refl)
are_plain n (p_chord_end g ms b) = (refl, refl)

chain_there : (ch : Items) (more : Members) → field (codes "chain") (object more) ≡ null
    → field (codes "chain") (object (member_unless_empty (codes "chain") ch more)) ≡ list_or_null ch
chain_there no_items more h = h
chain_there (item d ds) more h = refl

pub each_items : (ss : List Sig) → items (each_wire ss) ≡ map (sig_wire no_items) ss
each_items [] = refl
each_items (s ∷ ss) = ap (λ ds. sig_wire no_items s ∷ ds) (each_items ss)

last_first : {A : Type 0} (x : A) (xs : List A) → reverse (x ∷ xs) ≡ reverse xs ++ x ∷ []
last_first x xs = reverse-append (x ∷ []) xs

map_end : {A B : Type 0} (f : A → B) (xs : List A) (x : A) → map f (xs ++ x ∷ []) ≡ map f xs ++ f x ∷ []
map_end f [] x = refl
map_end f (y ∷ xs) x = ap (λ ys. f y ∷ ys) (map_end f xs x)

map_reversed : {A B : Type 0} (f : A → B) (xs : List A) → reverse (map f xs) ≡ map f (reverse xs)
map_reversed f [] = refl
map_reversed f (x ∷ xs) =
    last_first (f x) (map f xs) ∙ ap (λ ys. ys ++ f x ∷ []) (map_reversed f xs) ∙ sym (map_end f (reverse xs) x) ∙ sym (ap (map f) (last_first x xs))

-- a list written with the last first, reversed
pub turned : (ss : List Sig) → reverse (items (each_wire (reverse ss))) ≡ map (sig_wire no_items) ss
turned ss =
    ap (λ ds. reverse ds) (each_items (reverse ss))
    ∙ (map_reversed (sig_wire no_items) (reverse ss) ∙ ap (map (sig_wire no_items)) (reverse-reverse ss))

behind_back : (ss : List Sig) → reverse (listed (list_or_null (each_wire (reverse ss)))) ≡ map (sig_wire no_items) ss
behind_back ss = ap (λ ds. reverse ds) (listed_of (each_wire (reverse ss))) ∙ turned ss

abbrev chained : List Sig → Items
chained ss = each_wire (reverse (behind ss))

carried_split : (ss : List Sig) → Filled ss → Plain ss → carried_elements (carried_wire ss) ≡ wires (chained ss) ss
carried_split [] h p = absurd h
carried_split (s ∷ ss) h p =
    ap (λ ds. sig_wire (each_wire (reverse ss)) s ∷ ds) (ap (λ d. reverse (listed d)) (chain_there (each_wire (reverse ss)) s.options p.0) ∙ behind_back ss)

carried_some : (ss : List Sig) → Filled ss → is_null (carried_wire ss) ≡ false
carried_some [] h = absurd h
carried_some (s ∷ ss) h = refl

member_split : (ss : List Sig) → Filled ss → Plain ss → member_elements (member_wire ss) ≡ wires no_items ss
member_split [] h p = absurd h
member_split (s ∷ []) h p = rw (p.1) refl
member_split (s ∷ t ∷ ss) h p = each_items (s ∷ t ∷ ss)

rejoined : (ss : List Sig) → Filled ss → first_wire ss ∷ map (sig_wire no_items) (behind ss) ≡ wires no_items ss
rejoined [] h = absurd h
rejoined (s ∷ ss) h = refl

pub greatest_low : (c : ℕ) (l : PLine) → greatest_reach c l ≤ line_reach c l
greatest_low c p_stop = omega arith
greatest_low c (p_step t p_stop) = omega arith
greatest_low c (p_step t (p_step u l)) = omega arith
greatest_low c (p_step t (p_group_end g ms)) = omega arith
greatest_low c (p_step t (p_chord_end g ms b)) = omega arith
greatest_low c (p_group_end g ms) = omega arith
greatest_low c (p_chord_end g ms b) = omega arith

-- ---- lines

module _ (n : Naming) (whole : length n.run ≡ 22) where
  place_named : (m : ℕ) (g size : ℕ) (body : PLine) (ss : List Sig) → is_task_number g ≡ true → Filled ss → Plain ss
      → line_within m (wires (chained ss) ss) ≡ sizeless_line body
      → place_from (line_within m) (group_id n g) (carried_wire ss) ≡ p_chord g 0 (sizeless_line body)
  place_named m g size body ss here h p is =
      ap (λ b. if b then p_group (group_number (group_id n g)) else p_chord (group_number (group_id n g)) 0
      (line_within m (carried_elements (carried_wire ss)))) (carried_some ss h)
      ∙ ap₂ (λ i l. p_chord i 0 l) (group_number_back n.run g whole here) (ap (line_within m) (carried_split ss h p) ∙ is)

  assembled : (m k : ℕ) (call : Call) (links errbacks : PTasks) (place : PPlace) (ch : Items) → CallFits call → is_task_number k ≡ true
      → p_tasks_of (map (task_within m) (items (tasks_wire n links))) ≡ sizeless_tasks links
      → p_tasks_of (map (task_within m) (items (tasks_wire n errbacks))) ≡ sizeless_tasks errbacks
      → place_from (line_within m) (place_id n place) (body_at n place) ≡ sizeless_place place
      → task_from (task_within m) (line_within m) (sig_wire ch (task_sig n (p_task k call links errbacks place)))
      ≡ sizeless_task (p_task k call links errbacks place)
  assembled m k call links errbacks place ch fits here ls es at =
      let l = tasks_wire n links in
      let e = tasks_wire n errbacks in
      let f = found n k place l e ch in
      let options = placed n k place l e in
      rw (
        f.id,
        task_number_back n.run k whole here,
        call_back ch call options fits,
        f.links,
        listed_of l,
        ls,
        f.errbacks,
        listed_of e,
        es,
        f.group,
        f.body,
        at,
      ) refl

  mutual
    pub task_back : (m c : ℕ) (last : Bool) (t : PTask) (ch : Items) → task_ok last t ≡ true → 2 * task_reach c t ≤ m
        → task_within m (sig_wire ch (task_sig n t)) ≡ sizeless_task t
    task_back zero c last (p_task k call links errbacks place) ch ok low = absurd (omega arith)
    task_back (suc m) c last (p_task k call links errbacks place) ch ok low =
        let p = task_parts last k call links errbacks place ok in
        assembled m k call links errbacks place ch p.called p.here (tasks_back m links p.linked (omega arith)) (tasks_back m errbacks p.failing (omega arith))
        (place_back m last place p.placed (omega arith))

    pub tasks_back : (m : ℕ) (ts : PTasks) → tasks_ok ts ≡ true → 2 * tasks_reach ts ≤ m
        → p_tasks_of (map (task_within m) (items (tasks_wire n ts))) ≡ sizeless_tasks ts
    tasks_back m no_p_tasks ok low = refl
    tasks_back m (and_p_task t ts) ok low =
        let p = both (task_ok false t) (tasks_ok ts) ok in
        ap₂ and_p_task (task_back m 0 false t no_items p.0 (omega (arith, low))) (tasks_back m ts p.1 (omega (arith, low)))

    pub place_back : (m : ℕ) (last : Bool) (p : PPlace) → place_ok last p ≡ true → 1 + 2 * place_reach p ≤ m
        → place_from (line_within m) (place_id n p) (body_at n p) ≡ sizeless_place p
    place_back m last p_nowhere ok low = refl
    place_back m last (p_group g) ok low = ap p_group (group_number_back n.run g whole (both last (is_task_number g) ok).1)
    place_back m last (p_chord g size body) ok low =
        let p = both (last && is_task_number g && size_ok size) (line_ok true body) ok in
        let here = (both last (is_task_number g) (both (last && is_task_number g) (size_ok size) p.0).0).1 in
        place_named m g size body (elements n body) here (filled n true body p.1) (are_plain n body)
        (line_back m 0 true body (chained (elements n body)) p.1 (omega (arith, low, greatest_low 0 body)))

    pub line_back : (m c : ℕ) (last : Bool) (l : PLine) (ch : Items) → line_ok last l ≡ true → 1 + 2 * greatest_reach c l ≤ m
        → line_within m (wires ch (elements n l)) ≡ sizeless_line l
    line_back zero c last l ch ok low = absurd (omega (arith, low))
    line_back (suc m) c last p_stop ch ok low = absurd cc
    line_back (suc m) c last (p_step (p_task k call links errbacks place) p_stop) ch ok low =
        ap (λ u. p_step u p_stop) (task_back m c last (p_task k call links errbacks place) ch ok (omega arith))
    line_back (suc m) c last (p_step (p_task k call links errbacks place) (p_step u l)) ch ok low =
        let p = both (task_ok false (p_task k call links errbacks place)) (line_ok last (p_step u l)) ok in
        ap₂ p_step (task_back m 0 false (p_task k call links errbacks place) ch p.0 (omega arith))
        (line_back (suc m) c last (p_step u l) no_items p.1 (omega arith))
    line_back (suc m) c last (p_step (p_task k call links errbacks place) (p_group_end g ms)) ch ok low =
        let p = both (task_ok false (p_task k call links errbacks place)) (line_ok last (p_group_end g ms)) ok in
        ap₂ p_step (task_back m 0 false (p_task k call links errbacks place) ch p.0 (omega arith))
        (line_back (suc m) c last (p_group_end g ms) no_items p.1 (omega arith))
    line_back (suc m) c last (p_step (p_task k call links errbacks place) (p_chord_end g ms b)) ch ok low =
        let p = both (task_ok false (p_task k call links errbacks place)) (line_ok last (p_chord_end g ms b)) ok in
        ap₂ p_step (task_back m 0 false (p_task k call links errbacks place) ch p.0 (omega arith))
        (line_back (suc m) c last (p_chord_end g ms b) no_items p.1 (omega arith))
    line_back (suc m) c last (p_group_end g ms) ch ok low =
        let p = both (is_task_number g) (members_ok ms) ok in
        rw (own_id (group_id n g) ch, group_number_back n.run g whole p.0, members_back m 0 ms p.1 (omega arith)) refl
    line_back (suc m) c last (p_chord_end g ms b) ch ok low =
        let p = chord_parts last g ms b ok in
        rw (
          own_id (group_id n g) ch,
          group_number_back n.run g whole p.here,
          members_back m (line_reach c b) ms p.members (omega arith),
          rejoined (elements n b) (filled n last b p.body),
          line_back m c last b no_items p.body (omega (arith, greatest_low c b)),
        ) refl

    members_back : (m c : ℕ) (ms : PLines) → members_ok ms ≡ true → 1 + 2 * members_reach c ms ≤ m
        → p_lines_of (map (λ x. line_within m (member_elements x)) (items (members_wire n ms))) ≡ sizeless_lines ms
    members_back m c no_p_lines ok low = refl
    members_back m c (and_p_line x ms) ok low =
        let p = both (line_ok false x && not (in_group (strip x))) (members_ok ms) ok in
        let q = both (line_ok false x) (not (in_group (strip x))) p.0 in
        ap₂ and_p_line
        (ap (line_within m) (member_split (elements n x) (filled n false x q.0) (are_plain n x))
        ∙ line_back m c false x no_items q.0 (omega (arith, low, greatest_low c x)))
        (members_back m c ms p.1 (omega (arith, low)))

pub in_order : (ss : List Sig) → wires no_items ss ≡ map (sig_wire no_items) ss
in_order [] = refl
in_order (s ∷ ss) = refl
