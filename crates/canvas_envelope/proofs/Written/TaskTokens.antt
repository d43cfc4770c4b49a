-- The tokens of a frozen signature, by its parts.
use Rattle.std.proofs.Common.{◌≡◌, ◌∙◌, ℕ, Bool, true, false, arith, List, [], ◌∷◌, ◌++◌, map, length, ◌==◌, Option, Some, None, refl, sym, ap, ap₂, append_assoc, subst}
use Rattle.std.specs.Prelude.{codes, Result}
use Rattle.std.proofs.lemmas.Bool.Decides.{nat_tests}
use Rattle.json.specs.Written.{Written}
use Rattle.json.specs.Token.{Token, key, begin_object, end_object}
use Rattle.serde_json.specs.Data.{Data, null, boolean, number, string, array, object, Items, no_items, item, Members, no_members, member}
use Rattle.canvas_task.specs.declared.arg.Arg.{Arg}
use Rattle.canvas_values.specs.Writing.{args_wire, kwargs_wire, member_unless_empty, tasks_member, chord_members}
use Rattle.canvas_values.specs.steps.Tokens.{data_tokens, rest_members, front_tokens, flag_tokens, kwargs_tokens, Appends, link_tokens, member_tokens, kind_tokens, name_tokens, closing_tokens}
use Rattle.canvas_semantics.specs.PlacedLine.{PTask, p_task, PPlace, PLine, PLines, p_stop, p_step, p_group_end, p_chord_end}
use Rattle.canvas_rewrite.specs.FrozenView.{p_tasks_of, p_lines_of, p_task_view, p_line_view, p_end_view}
use Rattle.canvas_rewrite.specs.declared.frozen.FrozenTask.{FrozenTask, out-FrozenTask}
use Rattle.canvas_rewrite.specs.declared.frozen.FrozenLine.{FrozenLine}
use Rattle.canvas_rewrite.specs.declared.frozen.FrozenEnd.{FrozenEnd, out-FrozenEnd}
use Rattle.canvas_rewrite.specs.declared.frozen.Place.{Place, out-Place}
use Rattle.canvas_rewrite.specs.declared.frozen.Carried.{Carried, out-Carried}
use Rattle.canvas_envelope.specs.steps.Tokens.{members_of_end, group_of_end, size_tokens, start_tokens, call_tokens, unless_null, links_tokens, task_front, task_behind, opening_tokens, group_closing, list_tokens, named_tokens}
use Rattle.canvas_envelope.specs.Content.{place_of}
use Rattle.canvas_envelope.specs.MessageView.{place_view, place_seen}
use Rattle.canvas_envelope.specs.Wire.{group_options, task_id, group_id, place_id, member_unless_null, frozen_wire, task_options, chain_wire, group_wire, chord_wire, task_wire, tasks_wire, carried_wire, line_wire, members_wire}
use Rattle.canvas_envelope.proofs.Seen.{task_seen, group_place, chord_place, end_none, end_some}

-- ---- options

null_member : (k : List ℕ) (d : Data) (more : Members) → rest_members (member_unless_null k d more) ≡ unless_null k d ++ rest_members more
null_member k null more = refl
null_member k (boolean b) more = refl
null_member k (number n) more = refl
null_member k (string s) more = refl
null_member k (array ds) more = refl
null_member k (object ms) more = refl

empty_member : (k : List ℕ) (ds : Items) (more : Members) → rest_members (member_unless_empty k ds more) ≡ link_tokens k ds ++ rest_members more
empty_member k no_items more = refl
empty_member k (item d ds) more = simp append_assoc

options_are : (k : ℕ) (links errbacks : Items) (group chord : Data) → rest_members (task_options k links errbacks group chord)
    ≡ unless_null (codes "chord") chord ++ (unless_null (codes "group_id") group ++ (links_tokens links errbacks ++ (named_tokens (codes "task_id") (task_id k) ++ end_object ∷ [])))
options_are k links errbacks group chord =
    let own : Members = member (codes "task_id") (task_id k) no_members in
    let errors : Members = member_unless_empty (codes "link_error") errbacks own in
    let callbacks : Members = member_unless_empty (codes "link") links errors in
    let grouped : Members = member_unless_null (codes "group_id") group callbacks in
    let c : List Token = unless_null (codes "chord") chord in
    let g : List Token = unless_null (codes "group_id") group in
    let l : List Token = link_tokens (codes "link") links in
    let e : List Token = link_tokens (codes "link_error") errbacks in
    null_member (codes "chord") chord grouped
    ∙ ap (λ x. c ++ x) (null_member (codes "group_id") group callbacks)
    ∙ ap (λ x. c ++ (g ++ x)) (
    empty_member (codes "link") links errors
    ∙ ap (λ x. l ++ x) (empty_member (codes "link_error") errbacks own)
    ∙ sym (append_assoc l e (rest_members own)))

-- ---- tasks

joined : (a s f w o k : List Token) → a ++ (s ++ (f ++ (w ++ (o ++ k)))) ≡ ((a ++ s) ++ (f ++ w)) ++ (o ++ k)
joined a s f w o k = simp append_assoc

frozen_tokens : (size : Option ℕ) (args : Items) (i : Bool) (kwargs options : Members) (kind : Data) (name : List ℕ)
    → data_tokens (frozen_wire size args i kwargs options kind name)
    ≡ call_tokens size args i kwargs ++ ((key (codes "options") ∷ begin_object ∷ rest_members options) ++ (kind_tokens kind ++ name_tokens name))
frozen_tokens None args i kwargs options kind name = joined (front_tokens args) [] (flag_tokens i) (kwargs_tokens kwargs) (key (codes "options") ∷ begin_object ∷ rest_members options) (kind_tokens kind ++ name_tokens name)
frozen_tokens (Some n) args i kwargs options kind name = joined (front_tokens args) (size_tokens (Some n)) (flag_tokens i) (kwargs_tokens kwargs) (key (codes "options") ∷ begin_object ∷ rest_members options) (kind_tokens kind ++ name_tokens name)

pub task_parts : (size : Option ℕ) (t : PTask)
    → data_tokens (task_wire size t) ≡ task_front size t ++ (unless_null (codes "chord") (carried_wire (place_of t)) ++ task_behind t)
task_parts size (p_task k call links errbacks p) =
    let c : List Token = call_tokens size (args_wire call.args) call.immutable (kwargs_wire call.kwargs) in
    let z : List Token = kind_tokens null ++ name_tokens call.name in
    frozen_tokens size (args_wire call.args) call.immutable (kwargs_wire call.kwargs)
    (task_options k (tasks_wire links) (tasks_wire errbacks) (place_id p) (carried_wire p)) null call.name
    ∙ ap (λ x. c ++ ((key (codes "options") ∷ begin_object ∷ x) ++ z)) (options_are k (tasks_wire links) (tasks_wire errbacks) (place_id p) (carried_wire p))
    ∙ apart c (unless_null (codes "chord") (carried_wire p)) (unless_null (codes "group_id") (place_id p)) (links_tokens (tasks_wire links) (tasks_wire errbacks))
    (named_tokens (codes "task_id") (task_id k) ++ end_object ∷ []) z (key (codes "options")) begin_object
  where
    apart : (c d g l m z : List Token) (x y : Token)
        → c ++ ((x ∷ y ∷ (d ++ (g ++ (l ++ m)))) ++ z) ≡ (c ++ x ∷ y ∷ []) ++ (d ++ (g ++ (l ++ (m ++ z))))
    apart c d g l m z x y = simp append_assoc

pub front_is : (size : Option ℕ) (t : FrozenTask) (a : List Arg) (w : List (List ℕ × Arg)) → a ≡ (out-FrozenTask t).args → w ≡ (out-FrozenTask t).kwargs
    → (((start_tokens size (args_wire a) ++ flag_tokens (out-FrozenTask t).immutable) ++ kwargs_tokens (kwargs_wire w)) ++ key (codes "options") ∷ [])
    ++ begin_object ∷ [] ≡ task_front size (p_task_view t)
front_is size t a w ha hw =
    together (start_tokens size (args_wire a)) (flag_tokens (out-FrozenTask t).immutable) (kwargs_tokens (kwargs_wire w)) (key (codes "options")) begin_object
    ∙ ap₂ (λ x y. call_tokens size (args_wire x) (out-FrozenTask t).immutable (kwargs_wire y) ++ key (codes "options") ∷ begin_object ∷ []) ha hw
    ∙ sym (ap (task_front size) (task_seen t))
  where
    together : (s f w : List Token) (x y : Token) → (((s ++ f) ++ w) ++ x ∷ []) ++ y ∷ [] ≡ (s ++ (f ++ w)) ++ x ∷ y ∷ []
    together s f w x y = simp append_assoc

abbrev of_tasks : List FrozenTask → Items
of_tasks ts = tasks_wire (p_tasks_of (map p_task_view ts))

-- the part of a task after the body that its place carries
abbrev behind_by : PPlace → (links errbacks : Items) → ℕ → List ℕ → List Token
behind_by p links errbacks k name =
    unless_null (codes "group_id") (place_id p)
    ++ (links_tokens links errbacks ++ ((named_tokens (codes "task_id") (task_id k) ++ end_object ∷ []) ++ (kind_tokens null ++ name_tokens name)))

pub behind_is : (t : FrozenTask) (ls es : List FrozenTask) (n : List ℕ) → ls ≡ (out-FrozenTask t).links → es ≡ (out-FrozenTask t).errbacks
    → n ≡ (out-FrozenTask t).name
    → (((unless_null (codes "group_id") (place_id (place_seen (out-FrozenTask t).place)) ++ link_tokens (codes "link") (of_tasks ls))
    ++ link_tokens (codes "link_error") (of_tasks es)) ++ (named_tokens (codes "task_id") (task_id (out-FrozenTask t).no) ++ end_object ∷ []))
    ++ (kind_tokens null ++ name_tokens n) ≡ task_behind (p_task_view t)
behind_is t ls es n hl he hn =
    let p : PPlace = place_seen (out-FrozenTask t).place in
    let k : ℕ = (out-FrozenTask t).no in
    together (unless_null (codes "group_id") (place_id p)) (link_tokens (codes "link") (of_tasks ls)) (link_tokens (codes "link_error") (of_tasks es))
    (named_tokens (codes "task_id") (task_id k) ++ end_object ∷ []) (kind_tokens null ++ name_tokens n)
    ∙ ap₂ (λ x y. behind_by p (of_tasks x) (of_tasks y) k n) hl he
    ∙ ap (λ x. behind_by p (of_tasks (out-FrozenTask t).links) (of_tasks (out-FrozenTask t).errbacks) k x) hn
    ∙ sym (ap task_behind (task_seen t))
  where
    together : (a b c d e : List Token) → (((a ++ b) ++ c) ++ d) ++ e ≡ a ++ ((b ++ c) ++ (d ++ e))
    together a b c d e = simp append_assoc

pub task_written : (size : Option ℕ) (t : FrozenTask)
    → (task_front size (p_task_view t) ++ unless_null (codes "chord") (carried_wire (place_seen (out-FrozenTask t).place))) ++ task_behind (p_task_view t)
    ≡ data_tokens (task_wire size (p_task_view t))
task_written size t =
    let f : List Token = task_front size (p_task_view t) in
    let b : List Token = task_behind (p_task_view t) in
    append_assoc f (unless_null (codes "chord") (carried_wire (place_seen (out-FrozenTask t).place))) b
    ∙ ap (λ p. f ++ (unless_null (codes "chord") (carried_wire p) ++ b)) (sym (ap place_of (task_seen t)))
    ∙ sym (task_parts size (p_task_view t))

-- ---- places

pub line_shown : (k : List ℕ) (size : Option ℕ) (l : PLine) → unless_null k (line_wire size l) ≡ named_tokens k (line_wire size l)
line_shown k size p_stop = refl
line_shown k size (p_step (p_task n call links errbacks place) p_stop) = refl
line_shown k size (p_step t (p_step u l)) = refl
line_shown k size (p_step t (p_group_end g ms)) = refl
line_shown k size (p_step t (p_chord_end g ms b)) = refl
line_shown k size (p_group_end g ms) = refl
line_shown k size (p_chord_end g ms b) = refl

pub no_place : (o : Option Place) → o ≡ None → unless_null (codes "chord") (carried_wire (place_seen o)) ≡ []
no_place o there = ap (λ x. unless_null (codes "chord") (carried_wire (place_seen x))) there

pub no_chord : (o : Option Place) (p : Place) → o ≡ Some p → (out-Place p).chord ≡ None → unless_null (codes "chord") (carried_wire (place_seen o)) ≡ []
no_chord o p there e =
    ap (λ x. unless_null (codes "chord") (carried_wire (place_seen x))) there
    ∙ ap (λ x. unless_null (codes "chord") (carried_wire x)) (group_place p e)

pub a_chord : (o : Option Place) (p : Place) (c : Carried) → o ≡ Some p → (out-Place p).chord ≡ Some c
    → named_tokens (codes "chord") (line_wire (Some (out-Carried c).size) (p_line_view (out-Carried c).body.value)) ≡ unless_null (codes "chord") (carried_wire (place_seen o))
a_chord o p c there e =
    sym (
    ap (λ x. unless_null (codes "chord") (carried_wire (place_seen x))) there
    ∙ ap (λ x. unless_null (codes "chord") (carried_wire x)) (chord_place p c e)
    ∙ line_shown (codes "chord") (Some (out-Carried c).size) (p_line_view (out-Carried c).body.value))

named_by : (p : Place) (o : Option Carried) → (out-Place p).chord ≡ o → place_id (place_view p) ≡ group_id (out-Place p).group
named_by p None e = ap place_id (group_place p e)
named_by p (Some c) e = ap place_id (chord_place p c e)

pub a_group : (o : Option Place) (p : Place) → o ≡ Some p
    → named_tokens (codes "group_id") (group_id (out-Place p).group) ≡ unless_null (codes "group_id") (place_id (place_seen o))
a_group o p there =
    sym (
    ap (λ x. unless_null (codes "group_id") (place_id (place_seen x))) there
    ∙ ap (unless_null (codes "group_id")) (named_by p (out-Place p).chord refl))

-- ---- chains, groups and chords

inside : (s f a l x : List Token) → (s ++ (f ++ a)) ++ (l ++ x) ≡ (s ++ (f ++ (a ++ l))) ++ x
inside s f a l x = simp append_assoc

abbrev ending : Members → Data → List ℕ → List Token
ending options kind name = (key (codes "options") ∷ begin_object ∷ rest_members options) ++ (kind_tokens kind ++ name_tokens name)

framed : (size : Option ℕ) (kwargs options : Members) (kind : Data) (name : List ℕ)
    → opening_tokens size ++ (rest_members kwargs ++ ending options kind name) ≡ data_tokens (frozen_wire size no_items false kwargs options kind name)
framed size kwargs options kind name =
    inside (start_tokens size no_items) (flag_tokens false) (key (codes "kwargs") ∷ begin_object ∷ []) (rest_members kwargs) (ending options kind name)
    ∙ sym (frozen_tokens size no_items false kwargs options kind name)

pub chain_tokens : (size : Option ℕ) (ds : Items) → opening_tokens size ++ (list_tokens (codes "tasks") ds ++ closing_tokens (string (codes "chain")) (codes "celery.chain")) ≡ data_tokens (chain_wire size ds)
chain_tokens size ds = framed size (tasks_member ds) no_members (string (codes "chain")) (codes "celery.chain")

group_tokens : (size : Option ℕ) (g : ℕ) (ms : Items)
    → opening_tokens size ++ (list_tokens (codes "tasks") ms ++ group_closing g (string (codes "group")) (codes "celery.group")) ≡ data_tokens (group_wire size g ms)
group_tokens size g ms = framed size (tasks_member ms) (group_options g) (string (codes "group")) (codes "celery.group")

pub chord_tokens : (size : Option ℕ) (g : ℕ) (ms : Items) (b : Data)
    → opening_tokens size ++ (named_tokens (codes "body") b ++ (list_tokens (codes "header") ms ++ group_closing g (string (codes "chord")) (codes "celery.chord"))) ≡ data_tokens (chord_wire size g ms b)
chord_tokens size g ms b =
    ap (λ x. opening_tokens size ++ x) (sym (append_assoc (named_tokens (codes "body") b) (list_tokens (codes "header") ms) (group_closing g (string (codes "chord")) (codes "celery.chord"))))
    ∙ framed size (chord_members b ms) (group_options g) (string (codes "chord")) (codes "celery.chord")

abbrev rest_of_end : List ℕ → List ℕ → List ℕ → PLine → List Token
rest_of_end name kind type_name e = list_tokens name (members_wire (members_of_end e)) ++ group_closing (group_of_end e) (string kind) type_name

pub chord_written : (size : Option ℕ) (t : FrozenEnd) (b : FrozenLine) → (out-FrozenEnd t).body ≡ Some b
    → ((opening_tokens size ++ key (codes "body") ∷ []) ++ data_tokens (line_wire None (p_line_view b)))
    ++ rest_of_end (codes "header") (codes "chord") (codes "celery.chord") (p_end_view t)
    ≡ data_tokens (line_wire size (p_end_view t))
chord_written size t b e =
    let body : Data = line_wire None (p_line_view b) in
    let ms : PLines = p_lines_of (map p_line_view (out-FrozenEnd t).members) in
    let P : PLine → Type 0 = λ x. opening_tokens size ++ (named_tokens (codes "body") body ++ rest_of_end (codes "header") (codes "chord") (codes "celery.chord") x)
    ≡ data_tokens (line_wire size x) in
    together (opening_tokens size) (data_tokens body) (rest_of_end (codes "header") (codes "chord") (codes "celery.chord") (p_end_view t)) (key (codes "body"))
    ∙ subst P (sym (end_some t b e)) (chord_tokens size (out-FrozenEnd t).group (members_wire ms) body)
  where
    together : (o d r : List Token) (x : Token) → ((o ++ x ∷ []) ++ d) ++ r ≡ o ++ ((x ∷ d) ++ r)
    together o d r x = simp append_assoc

pub group_written : (size : Option ℕ) (t : FrozenEnd) → (out-FrozenEnd t).body ≡ None
    → opening_tokens size ++ rest_of_end (codes "tasks") (codes "group") (codes "celery.group") (p_end_view t) ≡ data_tokens (line_wire size (p_end_view t))
group_written size t e =
    let ms : PLines = p_lines_of (map p_line_view (out-FrozenEnd t).members) in
    let P : PLine → Type 0 = λ x. opening_tokens size ++ rest_of_end (codes "tasks") (codes "group") (codes "celery.group") x ≡ data_tokens (line_wire size x) in
    subst P (sym (end_none t e)) (group_tokens size (out-FrozenEnd t).group (members_wire ms))

rest_by : (t : FrozenEnd) (o : Option FrozenLine) → (out-FrozenEnd t).body ≡ o
    → (p_lines_of (map p_line_view (out-FrozenEnd t).members) ≡ members_of_end (p_end_view t)) × ((out-FrozenEnd t).group ≡ group_of_end (p_end_view t))
rest_by t None e = (sym (ap members_of_end (end_none t e)), sym (ap group_of_end (end_none t e)))
rest_by t (Some b) e = (sym (ap members_of_end (end_some t b e)), sym (ap group_of_end (end_some t b e)))

pub rest_written : (t : FrozenEnd) (ls : List FrozenLine) (name : List ℕ) (kind : Data) (type_name : List ℕ) → ls ≡ (out-FrozenEnd t).members
    → list_tokens name (members_wire (p_lines_of (map p_line_view ls))) ++ group_closing (out-FrozenEnd t).group kind type_name
    ≡ list_tokens name (members_wire (members_of_end (p_end_view t))) ++ group_closing (group_of_end (p_end_view t)) kind type_name
rest_written t ls name kind type_name same =
    let seen = rest_by t (out-FrozenEnd t).body refl in
    ap₂ (λ ms g. list_tokens name (members_wire ms) ++ group_closing g kind type_name) (ap (λ xs. p_lines_of (map p_line_view xs)) same ∙ seen.0) seen.1

pub opened : (s f a b : List Token) → ((s ++ f) ++ a) ++ b ≡ s ++ (f ++ (a ++ b))
opened s f a b = simp append_assoc

-- ---- links

pub no_link : (k : List ℕ) (ts : List FrozenTask) → (length ts == 0) ≡ true → link_tokens k (tasks_wire (p_tasks_of (map p_task_view ts))) ≡ []
no_link k [] h = refl
no_link k (t ∷ ts) h = absurd (grind (arith, nat_tests))

pub some_link : (k : List ℕ) (ts : List FrozenTask) → (length ts == 0) ≡ false
    → link_tokens k (tasks_wire (p_tasks_of (map p_task_view ts))) ≡ member_tokens k (tasks_wire (p_tasks_of (map p_task_view ts)))
some_link k [] h = absurd cc
some_link k (t ∷ ts) h = refl

-- ---- what was written, said otherwise

pub alike : {E : Type 0} (r : Result (Unit {0}) E) (old new : Written) (ts us : List Token) → ts ≡ us → Appends r old new ts → Appends r old new us
alike r old new ts us e h = let P : List Token → Type 0 = λ x. Appends r old new x in subst P e h
