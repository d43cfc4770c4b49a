-- The tokens of signatures that haven't started, by their parts.
use Rattle.std.proofs.Common.{◌≡◌, ◌∙◌, ℕ, Bool, true, false, List, [], ◌∷◌, ◌++◌, reverse, refl, sym, ap, append_assoc, append-nil}
use Rattle.std.specs.Prelude.{codes}
use Rattle.std.proofs.lemmas.List.{reverse-append}
use Rattle.json.specs.Token.{Token, key, begin_array, begin_object, end_object, end_array}
use Rattle.serde_json.specs.Data.{Data, string, array, Items, no_items, item, Members}
use Rattle.canvas_semantics.specs.Tree.{Call}
use Rattle.canvas_semantics.specs.PlacedLine.{PTask, p_task, PTasks, PPlace, p_nowhere, p_group, p_chord, PLine, p_stop, p_step, p_group_end, p_chord_end}
use Rattle.canvas_values.specs.Writing.{tasks_member, chord_members, member_unless_empty}
use Rattle.canvas_values.specs.steps.Tokens.{data_tokens, rest_tokens, rest_members, front_tokens, flag_tokens, kwargs_tokens, kind_tokens, name_tokens, link_tokens, member_tokens, opening_tokens, closing_tokens}
use Rattle.canvas_rewrite.specs.FrozenView.{p_tasks_of}
use Rattle.canvas_envelope.specs.Content.{call_of}
use Rattle.canvas_envelope.specs.Wire.{list_or_null}
use Rattle.canvas_envelope.specs.steps.Tokens.{named_tokens, links_tokens, list_tokens}
use Rattle.canvas_celery.specs.Signatures.{Naming, task_id, Sig, sig_wire, each_wire, own_option, place_options, task_sig, tasks_wire, body_at, chord_sigs, elements, members_wire, behind, first_wire, carried_wire, member_wire, chain_wire}
use Rattle.canvas_celery.specs.steps.Elements as part
use Rattle.canvas_celery.specs.steps.Elements.{sig_front, call_front, sig_rest, sig_tokens, first_front, first_rest, each_tokens, task_sigs, has_more, chord_option, group_options}

-- ---- one signature

empty_member : (k : List ℕ) (ds : Items) (more : Members) → rest_members (member_unless_empty k ds more) ≡ link_tokens k ds ++ rest_members more
empty_member k no_items more = refl
empty_member k (item d ds) more = simp append_assoc

regroup : (f g w l r e : List Token)
    → f ++ (g ++ (w ++ ((key (codes "options") ∷ begin_object ∷ (l ++ r)) ++ e)))
    ≡ ((f ++ (g ++ w)) ++ key (codes "options") ∷ begin_object ∷ []) ++ (l ++ (r ++ e))
regroup f g w l r e = simp append_assoc

abbrev around : Sig → List Token → List Token
around s x =
    front_tokens s.args ++ (flag_tokens s.immutable ++ (kwargs_tokens s.kwargs
    ++ ((key (codes "options") ∷ begin_object ∷ x) ++ (kind_tokens s.kind ++ name_tokens s.name))))

pub sig_parts : (chain : Items) (s : Sig) → sig_front s ++ (link_tokens (codes "chain") chain ++ sig_rest s) ≡ data_tokens (sig_wire chain s)
sig_parts chain s =
    sym (ap (around s) (empty_member (codes "chain") chain s.options)
    ∙ regroup (front_tokens s.args) (flag_tokens s.immutable) (kwargs_tokens s.kwargs) (link_tokens (codes "chain") chain) (rest_members s.options)
    (kind_tokens s.kind ++ name_tokens s.name))

pub sig_whole : (s : Sig) → sig_front s ++ sig_rest s ≡ sig_tokens s
sig_whole s = sig_parts no_items s

-- ---- several

pub each-append : (xs ys : List Sig) → each_tokens (xs ++ ys) ≡ each_tokens xs ++ each_tokens ys
each-append [] ys = refl
each-append (x ∷ xs) ys = ap (λ r. sig_tokens x ++ r) (each-append xs ys) ∙ sym (append_assoc (sig_tokens x) (each_tokens xs) (each_tokens ys))

pub each_items : (ss : List Sig) → each_tokens ss ++ end_array ∷ [] ≡ rest_tokens (each_wire ss)
each_items [] = refl
each_items (s ∷ ss) = append_assoc (sig_tokens s) (each_tokens ss) (end_array ∷ []) ∙ ap (λ r. sig_tokens s ++ r) (each_items ss)

pub tasks_items : (n : Naming) (ts : List PTask) → each_tokens (task_sigs n ts) ++ end_array ∷ [] ≡ rest_tokens (tasks_wire n (p_tasks_of ts))
tasks_items n [] = refl
tasks_items n (t ∷ ts) = append_assoc (sig_tokens (task_sig n t)) (each_tokens (task_sigs n ts)) (end_array ∷ [])
    ∙ ap (λ r. sig_tokens (task_sig n t) ++ r) (tasks_items n ts)

pub each_reversed : (xs ys : List Sig) → each_tokens (reverse ys) ++ each_tokens (reverse xs) ≡ each_tokens (reverse (xs ++ ys))
each_reversed xs ys = sym (ap each_tokens (reverse-append xs ys) ∙ each-append (reverse ys) (reverse xs))

pub one_reversed : (s : Sig) (ss : List Sig) → each_tokens (reverse ss) ++ sig_tokens s ≡ each_tokens (reverse (s ∷ ss))
one_reversed s ss = ap (λ r. each_tokens (reverse ss) ++ r) (sym (append-nil (sig_tokens s))) ∙ each_reversed (s ∷ []) ss

-- ---- what follows the first

abbrev pub has_two : List Sig → Bool
has_two [] = false
has_two (s ∷ []) = false
has_two (s ∷ t ∷ ss) = true

kept : (n : Naming) (g : ℕ) (ms : Items) (ss : List Sig) → has_two (chord_sigs n g ms ss) ≡ has_two ss
kept n g ms [] = refl
kept n g ms (t ∷ []) = refl
kept n g ms (t ∷ u ∷ ss) = refl

pub two_elements : (n : Naming) (l : PLine) → has_two (elements n l) ≡ has_more l
two_elements n p_stop = refl
two_elements n (p_step t p_stop) = refl
two_elements n (p_step t (p_step u l)) = refl
two_elements n (p_step t (p_group_end g ms)) = refl
two_elements n (p_step t (p_chord_end g ms b)) = refl
two_elements n (p_group_end g ms) = refl
two_elements n (p_chord_end g ms b) = kept n g (members_wire n ms) (elements n b) ∙ two_elements n b

some_items : (k : List ℕ) (xs : List Sig) (s : Sig) → member_tokens k (each_wire (xs ++ s ∷ [])) ≡ link_tokens k (each_wire (xs ++ s ∷ []))
some_items k [] s = refl
some_items k (x ∷ xs) s = refl

linked : (k : List ℕ) (s : Sig) (ss : List Sig) → member_tokens k (each_wire (reverse (s ∷ ss))) ≡ link_tokens k (each_wire (reverse (s ∷ ss)))
linked k s ss =
    ap (λ xs. member_tokens k (each_wire xs)) (reverse-append (s ∷ []) ss)
    ∙ (some_items k (reverse ss) s ∙ sym (ap (λ xs. link_tokens k (each_wire xs)) (reverse-append (s ∷ []) ss)))

pub linked_behind : (k : List ℕ) (ss : List Sig) → has_two ss ≡ true → member_tokens k (each_wire (reverse (behind ss)))
    ≡ link_tokens k (each_wire (reverse (behind ss)))
linked_behind k [] h = absurd cc
linked_behind k (s ∷ []) h = absurd cc
linked_behind k (s ∷ t ∷ ss) h = linked k t ss

pub none_behind : (k : List ℕ) (ss : List Sig) → has_two ss ≡ false → link_tokens k (each_wire (reverse (behind ss))) ≡ []
none_behind k [] h = refl
none_behind k (s ∷ []) h = refl
none_behind k (s ∷ t ∷ ss) h = absurd cc

pub chain_member : (ss : List Sig) → has_two ss ≡ true → data_tokens (chain_wire ss) ≡ data_tokens (member_wire ss)
chain_member [] h = absurd cc
chain_member (s ∷ []) h = absurd cc
chain_member (s ∷ t ∷ ss) h = refl

pub lone_member : (ss : List Sig) → has_two ss ≡ false → data_tokens (first_wire ss) ≡ data_tokens (member_wire ss)
lone_member [] h = refl
lone_member (s ∷ []) h = refl
lone_member (s ∷ t ∷ ss) h = absurd cc

-- ---- lists that may be null

some_listed : (xs : List Sig) (s : Sig) → data_tokens (array (each_wire (xs ++ s ∷ []))) ≡ data_tokens (list_or_null (each_wire (xs ++ s ∷ [])))
some_listed [] s = refl
some_listed (x ∷ xs) s = refl

pub listed_back : (s : Sig) (ss : List Sig) → data_tokens (array (each_wire (reverse (s ∷ ss)))) ≡ data_tokens (list_or_null (each_wire (reverse (s ∷ ss))))
listed_back s ss =
    ap (λ xs. data_tokens (array (each_wire xs))) (reverse-append (s ∷ []) ss)
    ∙ (some_listed (reverse ss) s ∙ sym (ap (λ xs. data_tokens (list_or_null (each_wire xs))) (reverse-append (s ∷ []) ss)))

-- ---- those of an end, of which there is one at least

abbrev pub is_some : List Sig → Bool
is_some [] = false
is_some (s ∷ ss) = true

pub first_whole : (ss : List Sig) → is_some ss ≡ true → first_front ss ++ first_rest ss ≡ data_tokens (first_wire ss)
first_whole [] h = absurd cc
first_whole (s ∷ ss) h = sig_whole s

pub first_carried : (ss : List Sig) → is_some ss ≡ true
    → (first_front ss ++ link_tokens (codes "chain") (each_wire (reverse (behind ss)))) ++ first_rest ss ≡ data_tokens (carried_wire ss)
first_carried [] h = absurd cc
first_carried (s ∷ ss) h = append_assoc (sig_front s) (link_tokens (codes "chain") (each_wire (reverse ss))) (sig_rest s)
    ∙ sig_parts (each_wire (reverse ss)) s

pub first_then : (ss : List Sig) → is_some ss ≡ true → data_tokens (first_wire ss) ++ each_tokens (behind ss) ≡ each_tokens ss
first_then [] h = absurd cc
first_then (s ∷ ss) h = refl

pub first_last : (ss : List Sig) → is_some ss ≡ true → each_tokens (reverse (behind ss)) ++ data_tokens (first_wire ss) ≡ each_tokens (reverse ss)
first_last [] h = absurd cc
first_last (s ∷ ss) h = one_reversed s ss

-- ---- tasks

apart : (a b c d e : List Token) → a ++ (b ++ (c ++ (d ++ e))) ≡ ((a ++ b) ++ (c ++ d)) ++ e
apart a b c d e = simp append_assoc

place_part : (n : Naming) (k : ℕ) (p : PPlace) (more : Members) → rest_members (place_options n k p (body_at n p) more)
    ≡ chord_option n p ++ (group_options n k p ++ rest_members more)
place_part n k p_nowhere more = refl
place_part n k (p_group g) more = refl
place_part n k (p_chord g size body) more = refl

pub options_of : (n : Naming) (k : ℕ) (call : Call) (links errbacks : PTasks) (p : PPlace)
    → ((chord_option n p ++ group_options n k p) ++ links_tokens (tasks_wire n links) (tasks_wire n errbacks))
    ++ (named_tokens (codes "task_id") (task_id n k) ++ end_object ∷ [])
    ≡ rest_members (task_sig n (p_task k call links errbacks p)).options
options_of n k call links errbacks p =
    let own : Members = own_option (task_id n k) in
    let errors : Members = member_unless_empty (codes "link_error") (tasks_wire n errbacks) own in
    let callbacks : Members = member_unless_empty (codes "link") (tasks_wire n links) errors in
    let l : List Token = link_tokens (codes "link") (tasks_wire n links) in
    sym (place_part n k p callbacks
    ∙ (ap (λ x. chord_option n p ++ (group_options n k p ++ x)) (empty_member (codes "link") (tasks_wire n links) errors)
    ∙ (ap (λ x. chord_option n p ++ (group_options n k p ++ (l ++ x))) (empty_member (codes "link_error") (tasks_wire n errbacks) own)
    ∙ apart (chord_option n p) (group_options n k p) l (link_tokens (codes "link_error") (tasks_wire n errbacks)) (rest_members own))))

pub task_whole : (n : Naming) (t : PTask) → call_front (call_of t) ++ sig_rest (task_sig n t) ≡ sig_tokens (task_sig n t)
task_whole n (p_task k call links errbacks p) = sig_whole (task_sig n (p_task k call links errbacks p))

pub task_carried : (n : Naming) (t : PTask) (ss : List Sig)
    → (call_front (call_of t) ++ link_tokens (codes "chain") (each_wire (reverse ss))) ++ sig_rest (task_sig n t)
    ≡ data_tokens (sig_wire (each_wire (reverse ss)) (task_sig n t))
task_carried n (p_task k call links errbacks p) ss = first_carried (task_sig n (p_task k call links errbacks p) ∷ ss) refl

-- ---- chains, and the front of a group or chord

pub chain_written : (x : List Token) (ss : List Sig) → x ++ end_array ∷ [] ≡ rest_tokens (each_wire ss)
    → (((((opening_tokens ++ key (codes "tasks") ∷ []) ++ begin_array ∷ []) ++ x) ++ end_array ∷ []) ++ end_object ∷ [])
    ++ closing_tokens (string (codes "chain")) (codes "celery.chain")
    ≡ data_tokens (chain_wire ss)
chain_written x ss e = ap (λ y. (((opening_tokens ++ key (codes "tasks") ∷ begin_array ∷ []) ++ y) ++ end_object ∷ [])
    ++ closing_tokens (string (codes "chain")) (codes "celery.chain")) e

pub members_ended : (k : List ℕ) (ms : Items) → ((member_tokens k ms ++ end_object ∷ []) ++ key (codes "options") ∷ []) ++ begin_object ∷ []
    ≡ member_tokens k ms ++ end_object ∷ key (codes "options") ∷ begin_object ∷ []
members_ended k ms = append_assoc (member_tokens k ms ++ end_object ∷ []) (key (codes "options") ∷ []) (begin_object ∷ [])
    ∙ append_assoc (member_tokens k ms) (end_object ∷ []) (key (codes "options") ∷ begin_object ∷ [])

pub group_framed : (ms : Items) → opening_tokens ++ (member_tokens (codes "tasks") ms ++ end_object ∷ key (codes "options") ∷ begin_object ∷ [])
    ≡ part.front_tokens no_items false (tasks_member ms)
group_framed ms = ap (λ x. opening_tokens ++ key (codes "tasks") ∷ begin_array ∷ x)
    (sym (append_assoc (rest_tokens ms) (end_object ∷ []) (key (codes "options") ∷ begin_object ∷ [])))

pub chord_framed : (b : Data) (ms : Items)
    → ((opening_tokens ++ key (codes "body") ∷ []) ++ data_tokens b)
    ++ (member_tokens (codes "header") ms ++ end_object ∷ key (codes "options") ∷ begin_object ∷ [])
    ≡ part.front_tokens no_items false (chord_members b ms)
chord_framed b ms =
    ap (λ x. opening_tokens ++ key (codes "body") ∷ x)
    (ap (λ x. data_tokens b ++ key (codes "header") ∷ begin_array ∷ x)
    (sym (append_assoc (rest_tokens ms) (end_object ∷ []) (key (codes "options") ∷ begin_object ∷ [])))
    ∙ sym (append_assoc (data_tokens b) (list_tokens (codes "header") ms) (key (codes "options") ∷ begin_object ∷ [])))
