-- Where a text of JSON is refused, a signature has the refusal.
use Rattle.std.proofs.Common.{◌≡◌, ◌≢◌, ℕ, suc, ◌<◌, ◌≤◌, Bool, true, false, Option, Some, None, IsSome, is_some, Err, find, option_and_then, length, refl, sym, ap, ap₂, subst, ◌∙◌, arith}
use Rattle.std.specs.Prelude.{if◌then◌else◌, nat_lt, ◌||◌}
use Rattle.std.proofs.lemmas.Bool.{le-ltb}
use Rattle.serde_json.specs.Data.{Data, depth}
use Rattle.canvas_semantics.specs.Bounds.{most_tasks, most_groups, nests_group, is_too_deep as is_tree_too_deep, is_too_many}
use Rattle.canvas_semantics.specs.Tree.{Tree, count, count_groups}
use Rattle.canvas_task.specs.Text.{Text}
use Rattle.canvas_values.specs.Answers.{◌or_else◌, fault_if, judged}
use Rattle.canvas_values.specs.CanvasText.{most_bytes, json_of, canvas_reading, json_canvas, text_reading}
use Rattle.canvas_values.specs.Fields.{subtype}
use Rattle.canvas_values.specs.Grammar.{not_signature, bad_args, bad_number, on_canvas, frozen, empty_chain, fault_as, own_fault, primitive_of}
use Rattle.canvas_values.specs.LimitRefusals.{tree_fault}
use Rattle.canvas_values.specs.Refusals.{signature_fault, tree_said, tree_within}
use Rattle.canvas_values.specs.declared.fault.SigFault.{SigFault}
use Rattle.canvas_values.specs.declared.fault.SigFault.TheVariants as fault
use Rattle.canvas_values.specs.declared.primitive.Primitive.{Primitive}
use Rattle.canvas_values.proofs.Depth.{fault_enough, tree_enough}
use Rattle.canvas_values.proofs.Law.{fault_left}
use Rattle.canvas_check.specs.declared.finding.Spot.{Spot}
use Rattle.canvas_check.specs.declared.finding.Spot.TheVariants as spot
use Rattle.canvas_check.specs.Finding.{StandsAt, IsFoundAs}
use Rattle.canvas_check.specs.FileOrder.{Sighted, sighted_within, signatures}
use Rattle.canvas_check.specs.Limits.{most_levels, is_nested, is_task, is_counted_group, past, too_deep, is_too_deep, place_of}
use Rattle.canvas_check.specs.Placed.{EachHasPlace, WholeIsTooLarge}
use Rattle.canvas_check.specs.Refused.{refusal_of, first_refused}
use Rattle.canvas_check.proofs.Counting.{number, is_found, none_past}
use Rattle.canvas_check.proofs.FirstFault.{first_refusal}
use Rattle.canvas_check.proofs.Found.{low_enough}
use Rattle.canvas_check.proofs.Levels.{deep_enough}
use Rattle.canvas_check.proofs.Measures.{tasks_seen, groups_seen}
use Rattle.canvas_check.proofs.Nested.{nested_seen}

-- ---- which refusals a signature has of its own

abbrev IsOwn : SigFault → Type 0
IsOwn fault.TooLarge = ⊥
IsOwn fault.NotJson = ⊥
IsOwn fault.Memory = ⊥
IsOwn fault.NestedGroup = ⊥
IsOwn fault.TooDeep = ⊥
IsOwn fault.TooMany = ⊥
IsOwn e = Unit {0}

own_or : (b : Bool) (here : SigFault) (rest : Option SigFault) (e : SigFault) → IsOwn here → (rest ≡ Some e → IsOwn e)
    → (fault_if b here or_else rest) ≡ Some e → IsOwn e
own_or true here rest e own more h = let same : here ≡ e = cc in subst IsOwn same own
own_or false here rest e own more h = more h

own_last : (b : Bool) (here e : SigFault) → IsOwn here → fault_if b here ≡ Some e → IsOwn e
own_last true here e own h = let same : here ≡ e = cc in subst IsOwn same own
own_last false here e own h = absurd cc

own_as : (linked : Bool) (d : Data) (p : Option Primitive) (e : SigFault) → fault_as linked d p ≡ Some e → IsOwn e
own_as linked d None e h = let same : fault.UnknownPrimitive ≡ e = cc in subst IsOwn same tt
own_as linked d (Some p) e h =
    own_or (bad_args p d) fault.BadArgs _ e tt (
    own_or (bad_number p d) fault.BadNumber _ e tt (
    own_or (on_canvas linked p d) fault.OnCanvas _ e tt (own_or (frozen d) fault.Frozen _ e tt (own_last (empty_chain p d) fault.EmptyChain e tt))
    )
    ) h

is_own : (linked : Bool) (d : Data) (e : SigFault) → own_fault linked d ≡ Some e → IsOwn e
is_own linked d e h = own_or (not_signature d) fault.NotSignature _ e tt (own_as linked d (primitive_of (subtype d)) e) h

refused_first : (o : Option Sighted) (e : SigFault) → option_and_then refusal_of o ≡ Some e → IsOwn e × IsSome o
refused_first None e h = absurd cc
refused_first (Some s) e h = (is_own s.is_linked s.signature e h, refl)

-- a refusal that is a signature's own has as its place the first signature with one
own_placed : (d : Data) (e : SigFault) → IsOwn e → IsSome (first_refused d) → IsSome (place_of e d)
own_placed d fault.TooLarge own some = absurd own
own_placed d fault.NotJson own some = absurd own
own_placed d fault.Memory own some = absurd own
own_placed d fault.NestedGroup own some = absurd own
own_placed d fault.TooDeep own some = absurd own
own_placed d fault.TooMany own some = absurd own
own_placed d fault.NotSignature own some = some
own_placed d fault.UnknownPrimitive own some = some
own_placed d fault.BadArgs own some = some
own_placed d fault.BadNumber own some = some
own_placed d fault.OnCanvas own some = some
own_placed d fault.Frozen own some = some
own_placed d fault.EmptyChain own some = some

-- ---- what goes past a limit

-- what is so of a canvas with this refusal
abbrev Says : (nests many : Bool) → SigFault → Type 0
Says nests many fault.NestedGroup = nests ≡ true
Says nests many fault.TooDeep = Unit {0}
Says nests many fault.TooMany = many ≡ true
Says nests many e = ⊥

says : (nests deep many : Bool) (e : SigFault)
    → (if nests then Some fault.NestedGroup else (if deep then Some fault.TooDeep else (if many then Some fault.TooMany else None))) ≡ Some e
    → Says nests many e
says true deep many e h = let same : fault.NestedGroup ≡ e = cc in subst (Says true many) same refl
says false true many e h = let same : fault.TooDeep ≡ e = cc in subst (Says false many) same tt
says false false true e h = let same : fault.TooMany ≡ e = cc in subst (Says false true) same refl
says false false false e h = absurd cc

-- a signature and those in it: as deep as the value is, and one level more
pub record Levels (d : Data) : Type 0 where
  pub fine : fault_left (suc (depth d)) false d ≡ None
  pub spelled : tree_within (suc (depth d)) d ≡ tree_said d
  pub listed : sighted_within (suc (depth d)) false d ≡ signatures d

levels : (d : Data) → signature_fault d ≡ None → Levels d
levels d h = record {
  fine = fault_enough (suc (depth d)) d (omega arith) ∙ h;
  spelled = tree_enough (suc (depth d)) d (omega arith);
  listed = deep_enough (suc (depth d)) d (omega arith);
}

nested_placed : (d : Data) → depth d ≤ most_levels → signature_fault d ≡ None → nests_group (tree_said d) ≡ true → IsSome (find is_nested (signatures d))
nested_placed d low none is =
    let l = levels d none in
    is_found is_nested (signatures d)
    (subst (λ xs. 0 < number is_nested xs) l.listed (nested_seen most_levels (depth d) low d l.fine (ap nests_group l.spelled ∙ is)))

unless_none : {A : Type 0} (o : Option A) → (o ≡ None → ⊥) → IsSome o
unless_none None h = absurd (h refl)
unless_none (Some x) h = refl

not_many : (c : Tree) → count c ≤ most_tasks → count_groups c ≤ most_groups → is_too_many c ≡ false
not_many c tasks groups = ap₂ (λ x y. x || y) (le-ltb most_tasks (count c) tasks) (le-ltb most_groups (count_groups c) groups)

at_most : (a b c : ℕ) → a ≤ b → b ≤ c → a ≤ c
at_most a b c h k = omega arith

few : (d : Data) → signature_fault d ≡ None → past most_tasks most_groups (signatures d) ≡ None → is_too_many (tree_said d) ≡ false
few d none nowhere =
    let l = levels d none in
    let within = none_past most_tasks most_groups (signatures d) nowhere in
    let its_tasks = subst (λ xs. count (tree_within (suc (depth d)) d) ≤ number is_task xs) l.listed (tasks_seen (depth d) d l.fine) in
    let its_groups = subst (λ xs. count_groups (tree_within (suc (depth d)) d) ≤ number is_counted_group xs) l.listed (groups_seen (depth d) d l.fine) in
    not_many (tree_said d)
    (subst (λ c. count c ≤ most_tasks) l.spelled (at_most _ _ _ its_tasks within.0))
    (subst (λ c. count_groups c ≤ most_groups) l.spelled (at_most _ _ _ its_groups within.1))

many_placed : (d : Data) → signature_fault d ≡ None → is_too_many (tree_said d) ≡ true → IsSome (past most_tasks most_groups (signatures d))
many_placed d none is =
    unless_none (past most_tasks most_groups (signatures d)) (λ nowhere. let clash : true ≡ false = sym is ∙ few d none nowhere in absurd cc)

deep_placed : (d : Data) (o : Option Sighted) → IsSome (too_deep d o)
deep_placed d None = refl
deep_placed d (Some s) = refl

limit_placed : (d : Data) (e : SigFault) → depth d ≤ most_levels → signature_fault d ≡ None → Says (nests_group (tree_said d)) (is_too_many (tree_said d)) e
    → IsSome (place_of e d)
limit_placed d fault.NestedGroup low none is = nested_placed d low none is
limit_placed d fault.TooDeep low none is = deep_placed d (find is_too_deep (signatures d))
limit_placed d fault.TooMany low none is = many_placed d none is
limit_placed d fault.TooLarge low none is = absurd is
limit_placed d fault.NotJson low none is = absurd is
limit_placed d fault.Memory low none is = absurd is
limit_placed d fault.NotSignature low none is = absurd is
limit_placed d fault.UnknownPrimitive low none is = absurd is
limit_placed d fault.BadArgs low none is = absurd is
limit_placed d fault.BadNumber low none is = absurd is
limit_placed d fault.OnCanvas low none is = absurd is
limit_placed d fault.Frozen low none is = absurd is
limit_placed d fault.EmptyChain low none is = absurd is

-- ---- a text

refused_by : (f : Option SigFault) (c : Tree) (e : SigFault) → judged f c ≡ Err e → f ≡ Some e
refused_by None c e h = absurd cc
refused_by (Some x) c e h = let same : x ≡ e = cc in ap Some same

canvas_refused : (b : Bool) (o : Option Data) (d : Data) (e : SigFault) → e ≢ fault.TooLarge → o ≡ Some d
    → (if b then Err fault.TooLarge else json_canvas o) ≡ Err e → canvas_reading d ≡ Err e
canvas_refused true o d e other is h = let same : fault.TooLarge ≡ e = cc in absurd (other (sym same))
canvas_refused false None d e other is h = absurd cc
canvas_refused false (Some x) d e other is h = let same : x ≡ d = cc in subst (λ y. canvas_reading y ≡ Err e) same h

either_placed : (d : Data) (e : SigFault) (f : Option SigFault) → depth d ≤ most_levels → signature_fault d ≡ f → (f or_else tree_fault (tree_said d)) ≡ Some e
    → IsSome (place_of e d)
either_placed d e None low is h =
    limit_placed d e low is (says (nests_group (tree_said d)) (is_tree_too_deep (tree_said d)) (is_too_many (tree_said d)) e h)
either_placed d e (Some x) low is h =
    let first = refused_first (first_refused d) e (first_refusal d ∙ is ∙ h) in
    own_placed d e first.0 first.1

pub each_placed : EachHasPlace
each_placed e other bytes d json h =
    let refused = canvas_refused (nat_lt most_bytes (length bytes)) (json_of bytes) d e other json h in
    either_placed d e (signature_fault d) (low_enough bytes d json) refl
    (refused_by (signature_fault d or_else tree_fault (tree_said d)) (tree_said d) e refused)

-- no text of JSON is named as a whole
never_whole : (bytes : Text) (e : SigFault) (at : Spot) → e ≢ fault.TooLarge → text_reading bytes ≡ Err e → StandsAt bytes e at → at ≡ spot.Text → ⊥
never_whole bytes e spot.Text other h (d, json, nowhere) is =
    let there = each_placed e other bytes d json h in
    let clash : true ≡ false = sym there ∙ ap is_some nowhere in cc
never_whole bytes e (spot.Json line column) other h stands is = cc
never_whole bytes e (spot.Signature steps) other h stands is = cc

found_whole : (bytes : Text) (e : SigFault) (at : Spot) → text_reading bytes ≡ Err e → IsFoundAs bytes e at → at ≡ spot.Text → e ≡ fault.TooLarge
found_whole bytes fault.TooLarge at h found is = refl
found_whole bytes fault.NotJson at h found is = absurd (never_whole bytes fault.NotJson at (λ same. cc) h found is)
found_whole bytes fault.Memory at h found is = absurd (never_whole bytes fault.Memory at (λ same. cc) h found is)
found_whole bytes fault.NestedGroup at h found is = absurd (never_whole bytes fault.NestedGroup at (λ same. cc) h found is)
found_whole bytes fault.TooDeep at h found is = absurd (never_whole bytes fault.TooDeep at (λ same. cc) h found is)
found_whole bytes fault.TooMany at h found is = absurd (never_whole bytes fault.TooMany at (λ same. cc) h found is)
found_whole bytes fault.NotSignature at h found is = absurd (never_whole bytes fault.NotSignature at (λ same. cc) h found is)
found_whole bytes fault.UnknownPrimitive at h found is = absurd (never_whole bytes fault.UnknownPrimitive at (λ same. cc) h found is)
found_whole bytes fault.BadArgs at h found is = absurd (never_whole bytes fault.BadArgs at (λ same. cc) h found is)
found_whole bytes fault.BadNumber at h found is = absurd (never_whole bytes fault.BadNumber at (λ same. cc) h found is)
found_whole bytes fault.OnCanvas at h found is = absurd (never_whole bytes fault.OnCanvas at (λ same. cc) h found is)
found_whole bytes fault.Frozen at h found is = absurd (never_whole bytes fault.Frozen at (λ same. cc) h found is)
found_whole bytes fault.EmptyChain at h found is = absurd (never_whole bytes fault.EmptyChain at (λ same. cc) h found is)

pub whole_text : WholeIsTooLarge
whole_text bytes f found is = found_whole bytes f.fault f.spot found.0 found.1 is
