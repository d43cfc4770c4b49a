-- Reading gives the first fault in file order, or the canvas that the value spells.
use Rattle.std.proofs.Common.{◌≡◌, ℕ, zero, suc, List, [], ◌∷◌, ◌++◌, map, Bool, true, false, Option, Some, None, Result, Ok, refl, sym, ap, ap₂, subst, ◌∙◌}
use Rattle.std.specs.Prelude.{codes, not, ◌&&◌, ◌||◌}
use Rattle.std.specs.List.{list_all}
use Rattle.serde_json.specs.Data.{Data, null, boolean, number, string, array, object, no_items, item}
use Rattle.canvas_values.specs.declared.fault.SigFault.{SigFault}
use Rattle.canvas_values.specs.declared.fault.SigFault.TheVariants.{NotSignature, BadArgs, BadNumber, OnCanvas, TooDeep}
use Rattle.canvas_values.specs.declared.primitive.Primitive.{Primitive}
use Rattle.canvas_values.specs.declared.primitive.Primitive.TheVariants as kind
use Rattle.canvas_task.specs.Text.{Text}
use Rattle.canvas_values.specs.Fields.{field, subtype, args, kwargs, tasks, header, body, link, link_error, items, listed, as_list, object_members, is_null, is_list, is_true, is_empty, is_list_or_null, is_object_or_null, is_link}
use Rattle.canvas_semantics.specs.Tree.{Task, task, Tree, one, chain, group, chord, Trees}
use Rattle.canvas_values.specs.SignatureView.{tasks_of, trees_of}
use Rattle.canvas_values.specs.Answers.{◌>>=◌, ◌or_else◌, unless, fault_if, judged, in_turn}
use Rattle.canvas_values.specs.Grammar.{argument_of, arg_reading, named_reading, kind_ok, numbers_ok, args_ok, is_group, not_signature, bad_members, bad_args, bad_number, on_canvas, primitive_of, fault_as, own_fault, members_in}
use Rattle.canvas_values.specs.steps.Reading.{task_with, task_reading, header_reading, tree_as, tree_reading}
use Rattle.canvas_values.specs.Refusals.{first_fault, in_kwargs, named_of, spelled_call, task_within, header_of, tree_from, tree_within}

-- ---- arguments that are of their kinds and in range

both : (a b : Bool) → (a && b) ≡ true → (a ≡ true) × (b ≡ true)
both true b h = (refl, h)
both false b h = absurd cc

arg_is : (d : Data) → kind_ok d ≡ true → numbers_ok d ≡ true → arg_reading d ≡ Ok (argument_of d)
arg_is d k h = rw (k, h) refl

args_are : (ds : List Data) → list_all kind_ok ds ≡ true → list_all numbers_ok ds ≡ true → in_turn arg_reading ds ≡ Ok (map argument_of ds)
args_are [] k h = refl
args_are (d ∷ ds) k h =
    let p = both _ _ k in let q = both _ _ h in
    rw (arg_is d p.0 q.0, args_are ds p.1 q.1) refl

named_are : (es : List (Text × Data)) → list_all kind_ok (map (λ e. e.1) es) ≡ true → list_all numbers_ok (map (λ e. e.1) es) ≡ true
    → in_turn named_reading es ≡ Ok (map named_of es)
named_are [] k h = refl
named_are (e ∷ es) k h =
    let p = both _ _ k in let q = both _ _ h in
    rw (arg_is e.1 p.0 q.0, named_are es p.1 q.1) refl

-- ---- what no fault says

pub quiet : (b : Bool) (e : SigFault) (o : Option SigFault) → (fault_if b e or_else o) ≡ None → (b ≡ false) × (o ≡ None)
quiet true e o h = absurd cc
quiet false e o h = (refl, h)

pub neither : (a b : Bool) → (a || b) ≡ false → (a ≡ false) × (b ≡ false)
neither true b h = absurd cc
neither false b h = (refl, h)

pub back : (a : Bool) → not a ≡ false → a ≡ true
back true h = refl
back false h = absurd cc

pub record Fine (linked : Bool) (p : Primitive) (d : Data) : Type 0 where
  pub its_members : bad_members p d ≡ false
  pub numbers : bad_number p d ≡ false
  pub placed : on_canvas linked p d ≡ false

pub fine : (linked : Bool) (p : Primitive) (d : Data) → fault_as linked d (Some p) ≡ None → Fine linked p d
fine linked p d h =
    let a = quiet (bad_args p d) BadArgs _ h in
    let b = quiet (bad_number p d) BadNumber _ a.1 in
    let c = quiet (on_canvas linked p d) OnCanvas _ b.1 in
    let outside = not (is_list_or_null (args d)) || not (is_object_or_null (kwargs d)) || not (is_object_or_null (field (codes "options") d)) || not (is_link (link d)) || not (is_link (link_error d)) in
    record { its_members = (neither outside (bad_members p d) a.0).1; numbers = b.0; placed = c.0 }

-- a link or error callback without a fault of its own is a task
pub only_task : (d : Data) (o : Option Primitive) → fault_as true d o ≡ None → o ≡ Some kind.Task
only_task d None h = absurd cc
only_task d (Some kind.Task) h = refl
only_task d (Some kind.Chain) h = let clash : true ≡ false = (fine true kind.Chain d h).placed in absurd cc
only_task d (Some kind.Group) h = let clash : true ≡ false = (fine true kind.Group d h).placed in absurd cc
only_task d (Some kind.Chord) h = let clash : true ≡ false = (fine true kind.Chord d h).placed in absurd cc

-- ---- faults and values side by side

joined : {B : Type 0} (p q : Option SigFault) (x : B) (xs : List B) → (judged p x >>= λ y. judged q xs >>= λ ys. Ok (y ∷ ys)) ≡ judged (p or_else q) (x ∷ xs)
joined (Some e) q x xs = refl
joined None (Some e) x xs = refl
joined None None x xs = refl

judged_each : {B : Type 0} (f : Data → Result B SigFault) (g : Data → Option SigFault) (h : Data → B) → ((d : Data) → f d ≡ judged (g d) (h d))
    → (ds : List Data) → in_turn f ds ≡ judged (first_fault g ds) (map h ds)
judged_each f g h is [] = refl
judged_each f g h is (d ∷ ds) = rw (is d, judged_each f g h is ds) (joined (g d) (first_fault g ds) (h d) (map h ds))

judged_map : {A B : Type 0} (p : Option SigFault) (x : A) (f : A → B) → (judged p x >>= λ y. Ok (f y)) ≡ judged p (f x)
judged_map (Some e) x f = refl
judged_map None x f = refl

two : {A B C : Type 0} (p q : Option SigFault) (x : A) (y : B) (f : A → B → C)
    → (judged p x >>= λ a. judged q y >>= λ b. Ok (f a b)) ≡ judged (p or_else q) (f x y)
two (Some e) q x y f = refl
two None (Some e) x y f = refl
two None None x y f = refl

or_nothing : (p : Option SigFault) → (p or_else None) ≡ p
or_nothing (Some e) = refl
or_nothing None = refl

first_of_both : (g : Data → Option SigFault) (ds : List Data) (d : Data) → first_fault g (ds ++ d ∷ []) ≡ (first_fault g ds or_else g d)
first_of_both g [] d = or_nothing (g d)
first_of_both g (e ∷ ds) d = ap (λ o. g e or_else o) (first_of_both g ds d) ∙ regroup (g e) (first_fault g ds) (g d)
  where
    regroup : (p q r : Option SigFault) → (p or_else (q or_else r)) ≡ ((p or_else q) or_else r)
    regroup (Some e) q r = refl
    regroup None q r = refl

-- ---- one signature

-- the faults in links, then in error callbacks
abbrev in_links : (Data → Option SigFault) → Data → Option SigFault
in_links q d = first_fault q (as_list (link d)) or_else first_fault q (as_list (link_error d))

abbrev task_from : (Data → Task) → Data → Task
task_from t d = task 0 (spelled_call d) (tasks_of (map t (as_list (link d)))) (tasks_of (map t (as_list (link_error d))))

task_level : (g : Data → Result Task SigFault) (q : Data → Option SigFault) (t : Data → Task) → ((d : Data) → g d ≡ judged (q d) (t d))
    → (linked : Bool) (d : Data) → fault_as linked d (Some kind.Task) ≡ None → task_with g d ≡ judged (in_links q d) (task_from t d)
task_level g q t is linked d h =
    let clean = fine linked kind.Task d h in
    let kinds = both _ _ (back (args_ok kind_ok d) clean.its_members) in
    let numbers = both _ _ (back (args_ok numbers_ok d) clean.numbers) in
    rw (
      args_are (listed (args d)) kinds.0 numbers.0,
      named_are (object_members (kwargs d)) kinds.1 numbers.1,
      judged_each g q t is (as_list (link d)),
      judged_each g q t is (as_list (link_error d)),
    )
    (two (first_fault q (as_list (link d))) (first_fault q (as_list (link_error d))) (map t (as_list (link d))) (map t (as_list (link_error d)))
    (λ links errbacks. task 0 (spelled_call d) (tasks_of links) (tasks_of errbacks)))

linked_level : (g : Data → Result Task SigFault) (k q : Data → Option SigFault) (t : Data → Task) → ((d : Data) → g d ≡ judged (q d) (t d))
    → (d : Data) (o : Option SigFault) → own_fault true d ≡ o
    → unless o (task_with g d) ≡ judged (o or_else (first_fault k (in_kwargs (primitive_of (subtype d)) d) or_else in_links q d)) (task_from t d)
linked_level g k q t is d (Some e) h = refl
linked_level g k q t is d None h =
    let own = (quiet (not_signature d) NotSignature (fault_as true d (primitive_of (subtype d))) h).1 in
    let kind_is = only_task d (primitive_of (subtype d)) own in
    subst (λ p. task_with g d ≡ judged (first_fault k (in_kwargs p d) or_else in_links q d) (task_from t d)) (sym kind_is)
    (task_level g q t is true d (subst (λ p. fault_as true d p ≡ None) kind_is own))

none_in : (d : Data) → is_empty d ≡ true → as_list d ≡ []
none_in null h = refl
none_in (array no_items) h = refl
none_in (array (item d ds)) h = absurd cc
none_in (boolean b) h = absurd cc
none_in (number n) h = absurd cc
none_in (string s) h = absurd cc
none_in (object ms) h = absurd cc

-- a chain, group or chord without a fault of its own has no links
no_links : (q : Data → Option SigFault) (d : Data)
    → (false || not (is_empty (args d)) || is_true (field (codes "immutable") d) || not (is_empty (link d)) || not (is_empty (link_error d))) ≡ false → in_links q d ≡ None
no_links q d h =
    let a = neither (false || not (is_empty (args d)) || is_true (field (codes "immutable") d) || not (is_empty (link d))) (not (is_empty (link_error d))) h in
    let b = neither (false || not (is_empty (args d)) || is_true (field (codes "immutable") d)) (not (is_empty (link d))) a.0 in
    let links = none_in (link d) (back (is_empty (link d)) b.1) in
    let errbacks = none_in (link_error d) (back (is_empty (link_error d)) a.1) in
    ap₂ (λ xs ys. first_fault q xs or_else first_fault q ys) links errbacks

header_judged : (f : Data → Result Tree SigFault) (k : Data → Option SigFault) (c : Data → Tree) → ((d : Data) → f d ≡ judged (k d) (c d))
    → (d : Data) → (is_list d || is_group d) ≡ true → header_reading f d ≡ judged (first_fault k (as_list d)) (header_of c d)
header_judged f k c is (array ds) h = rw (judged_each f k c is (items ds)) (judged_map (first_fault k (items ds)) (map c (items ds)) trees_of)
header_judged f k c is (object ms) h =
    rw (is (object ms)) (judged_map (k (object ms)) (c (object ms)) members_in
    ∙ ap (λ o. judged o (members_in (c (object ms)))) (sym (or_nothing (k (object ms)))))
header_judged f k c is null h = absurd cc
header_judged f k c is (boolean b) h = absurd cc
header_judged f k c is (number n) h = absurd cc
header_judged f k c is (string s) h = absurd cc

listed_level : (f : Data → Result Tree SigFault) (k : Data → Option SigFault) (c : Data → Tree) → ((d : Data) → f d ≡ judged (k d) (c d))
    → (make : Trees → Tree) (ds : List Data) (rest : Option SigFault) → rest ≡ None
    → (in_turn f ds >>= λ ts. Ok (make (trees_of ts))) ≡ judged (first_fault k ds or_else rest) (make (trees_of (map c ds)))
listed_level f k c is make ds rest h =
    rw (judged_each f k c is ds) (judged_map (first_fault k ds) (map c ds) (λ ts. make (trees_of ts))
    ∙ ap (λ o. judged o (make (trees_of (map c ds)))) (sym (ap (λ r. first_fault k ds or_else r) h ∙ or_nothing (first_fault k ds))))

chord_level : (f : Data → Result Tree SigFault) (k : Data → Option SigFault) (c : Data → Tree) → ((d : Data) → f d ≡ judged (k d) (c d))
    → (d : Data) → (is_list (header d) || is_group (header d)) ≡ true → (rest : Option SigFault) → rest ≡ None
    → (header_reading f (header d) >>= λ ts. f (body d) >>= λ t. Ok (chord 0 ts t))
    ≡ judged (first_fault k (as_list (header d) ++ body d ∷ []) or_else rest) (chord 0 (header_of c (header d)) (c (body d)))
chord_level f k c is d h rest none =
    rw (header_judged f k c is (header d) h, is (body d)) (two (first_fault k (as_list (header d))) (k (body d)) (header_of c (header d)) (c (body d)) (chord 0)
    ∙ ap (λ o. judged o (chord 0 (header_of c (header d)) (c (body d))))
    (sym (ap (λ r. first_fault k (as_list (header d) ++ body d ∷ []) or_else r) none ∙ or_nothing (first_fault k (as_list (header d) ++ body d ∷ []))
    ∙ first_of_both k (as_list (header d)) (body d))))

kind_level : (g : Data → Result Task SigFault) (q : Data → Option SigFault) (t : Data → Task) → ((d : Data) → g d ≡ judged (q d) (t d))
    → (f : Data → Result Tree SigFault) (k : Data → Option SigFault) (c : Data → Tree) → ((d : Data) → f d ≡ judged (k d) (c d))
    → (d : Data) (p : Option Primitive) → fault_as false d p ≡ None
    → tree_as g f p d ≡ judged (first_fault k (in_kwargs p d) or_else in_links q d) (tree_from (task_from t d) c p d)
kind_level g q t gs f k c fs d None h = absurd cc
kind_level g q t gs f k c fs d (Some kind.Task) h = rw (task_level g q t gs false d h) (judged_map (in_links q d) (task_from t d) one)
kind_level g q t gs f k c fs d (Some kind.Chain) h =
    listed_level f k c fs chain (listed (tasks d)) (in_links q d) (no_links q d (fine false kind.Chain d h).placed)
kind_level g q t gs f k c fs d (Some kind.Group) h =
    listed_level f k c fs (group 0) (listed (tasks d)) (in_links q d) (no_links q d (fine false kind.Group d h).placed)
kind_level g q t gs f k c fs d (Some kind.Chord) h =
    let clean = fine false kind.Chord d h in
    let there = back (is_list (header d) || is_group (header d))
    (neither (not (is_list (header d) || is_group (header d))) (is_null (body d)) clean.its_members).0 in
    chord_level f k c fs d there (in_links q d) (no_links q d clean.placed)

tree_level : (g : Data → Result Task SigFault) (q : Data → Option SigFault) (t : Data → Task) → ((d : Data) → g d ≡ judged (q d) (t d))
    → (f : Data → Result Tree SigFault) (k : Data → Option SigFault) (c : Data → Tree) → ((d : Data) → f d ≡ judged (k d) (c d))
    → (d : Data) (o : Option SigFault) → own_fault false d ≡ o
    → unless o (tree_as g f (primitive_of (subtype d)) d)
    ≡ judged (o or_else (first_fault k (in_kwargs (primitive_of (subtype d)) d) or_else in_links q d))
    (tree_from (task_from t d) c (primitive_of (subtype d)) d)
tree_level g q t gs f k c fs d (Some e) h = refl
tree_level g q t gs f k c fs d None h =
    kind_level g q t gs f k c fs d (primitive_of (subtype d)) (quiet (not_signature d) NotSignature (fault_as false d (primitive_of (subtype d))) h).1

-- ---- as far as a counter goes

abbrev pub fault_left : ℕ → Bool → Data → Option SigFault
fault_left zero linked d = Some TooDeep
fault_left (suc n) linked d =
    own_fault linked d or_else first_fault (fault_left n false) (in_kwargs (primitive_of (subtype d)) d)
    or_else first_fault (fault_left n true) (as_list (link d)) or_else first_fault (fault_left n true) (as_list (link_error d))

task_judged : (n : ℕ) (d : Data) → task_reading n d ≡ judged (fault_left n true d) (task_within n d)
task_judged zero d = refl
task_judged (suc n) d = linked_level (task_reading n) (fault_left n false) (fault_left n true) (task_within n) (task_judged n) d (own_fault true d) refl

-- the order of refusals, and what is read where there is none
pub tree_judged : (n : ℕ) (d : Data) → tree_reading n d ≡ judged (fault_left n false d) (tree_within n d)
tree_judged zero d = refl
tree_judged (suc n) d =
    tree_level (task_reading n) (fault_left n true) (task_within n) (task_judged n) (tree_reading n) (fault_left n false) (tree_within n) (tree_judged n) d
    (own_fault false d) refl
