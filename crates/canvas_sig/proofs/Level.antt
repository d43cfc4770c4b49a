-- One level of reading.
use Rattle.std.proofs.Common.{◌≡◌, ◌≢◌, ℕ, zero, suc, ◌-◌, ◌≤◌, length, drop, List, [], ◌∷◌, ◌++◌, map, Result, Ok, Err, refl, sym, ap, subst, ◌∙◌, arith}
use Rattle.std.specs.Prelude.{codes}
use Rattle.std.proofs.lemmas.List.{map_push, append-nil, drop_all}
use Rattle.serde_json.specs.Data.{Data}
use Rattle.canvas_values.specs.declared.fault.SigFault.{SigFault}
use Rattle.canvas_values.specs.declared.fault.SigFault.TheVariants.{Memory}
use Rattle.canvas_values.specs.Fields.{field, args, kwargs, link, link_error, listed, object_members, as_list, text_of, is_true}
use Rattle.canvas_values.specs.Answers.{◌>>=◌, Fails, in_turn}
use Rattle.canvas_values.specs.Grammar.{arg_reading, named_reading}
use Rattle.canvas_values.specs.steps.Reading.{task_with, linked_with, task_reading, tree_with, tree_reading}
use Rattle.canvas_semantics.specs.Tree.{Task}
use Rattle.canvas_values.specs.SignatureView.{task_view}
use Rattle.canvas_values.specs.declared.task_sig.TaskSig.{TaskSig}
use Rattle.canvas_values.specs.declared.task_sig.TaskSig.TheViews.{roll-TaskSig}
use Rattle.canvas_values.specs.declared.task_sig.TaskSig.TheOpen.{TaskSig-F}
use Rattle.canvas_sig.proofs.Each.{onto, next_read}
use Rattle.canvas_values.proofs.Views as seen

pub task_level_below : (n : ℕ) (d : Data) → n ≢ 0 → task_reading n d ≡ linked_with (task_reading (n - 1)) d
task_level_below zero d h = absurd (h refl)
task_level_below (suc n) d h = let e : suc n - 1 ≡ n = omega arith in ap (λ m. linked_with (task_reading m) d) (sym e)

pub tree_level_below : (n : ℕ) (d : Data) → n ≢ 0 → tree_reading n d ≡ tree_with (task_reading (n - 1)) (tree_reading (n - 1)) d
tree_level_below zero d h = absurd (h refl)
tree_level_below (suc n) d h = let e : suc n - 1 ≡ n = omega arith in ap (λ m. tree_with (task_reading m) (tree_reading m) d) (sym e)

pub fails_with : {Y : Type 0} (e : SigFault) (r : Result Y SigFault) → r ≡ Err e → Fails e r
fails_with Memory r h = tt
fails_with e r h = h

-- a task whose parts were read
pub made : (f : Data → Result Task SigFault) (d : Data) (r : TaskSig-F TaskSig)
    → in_turn arg_reading (listed (args d)) ≡ Ok r.args
    → in_turn named_reading (object_members (kwargs d)) ≡ Ok r.kwargs
    → in_turn f (as_list (link d)) ≡ Ok (map task_view r.links)
    → in_turn f (as_list (link_error d)) ≡ Ok (map task_view r.errbacks)
    → text_of (field (codes "task") d) ≡ r.name
    → is_true (field (codes "immutable") d) ≡ r.immutable
    → task_with f d ≡ Ok (task_view (roll-TaskSig r))
made f d r a k l e n i = rw (a, k, l, e, n, i) (ap Ok (sym (seen.made r.name r.args r.kwargs r.immutable r.links r.errbacks)))

-- one more was read, and seen by a view
pub next_seen : {X Y : Type 0} (view : X → Y) (f : Data → Result Y SigFault) (xs new : List X) (x : X) (d : Data) (left now : List Data)
    → new ≡ xs ++ x ∷ [] → f d ≡ Ok (view x) → left ≡ d ∷ now → onto (map view xs) (in_turn f left) ≡ onto (map view new) (in_turn f now)
next_seen view f xs new x d left now pushed read next =
    next_read f (map view xs) (map view new) (view x) d left now (ap (map view) pushed ∙ map_push view xs x) read next

pub fails_first : {A B : Type 0} (e : SigFault) (r : Result A SigFault) (g : A → Result B SigFault) → Fails e r → Fails e (r >>= g)
fails_first Memory r g h = tt
fails_first e r g h = ap (λ x. x >>= g) h

pub fails_behind : {A B : Type 0} (e : SigFault) (r : Result A SigFault) (x : A) (g : A → Result B SigFault) → r ≡ Ok x → Fails e (g x)
    → Fails e (r >>= g)
fails_behind e r x g is h = subst (λ y. Fails e (y >>= g)) (sym is) h

-- reading stops at one that fails
pub stops_seen : {X Y : Type 0} (view : X → Y) (f : Data → Result Y SigFault) (xs : List X) (e : SigFault) (d : Data) (left now : List Data)
    → Fails e (f d) → left ≡ d ∷ now → Fails e (onto (map view xs) (in_turn f left))
stops_seen view f xs e d left now fails next =
    subst (λ ds. Fails e (onto (map view xs) (in_turn f ds))) (sym next) (fails_first e _ _ (fails_first e _ _ fails))

nothing_before : {Y : Type 0} (r : Result (List Y) SigFault) → r ≡ onto [] r
nothing_before (Ok ys) = refl
nothing_before (Err e) = refl

-- before the first, nothing was read
pub none_seen : {X Y : Type 0} (view : X → Y) (f : Data → Result Y SigFault) (ds : List Data) (new : List X) → new ≡ []
    → in_turn f ds ≡ onto (map view new) (in_turn f ds)
none_seen view f ds new none = nothing_before (in_turn f ds) ∙ ap (λ xs. onto (map view xs) (in_turn f ds)) (sym none)

-- after the last, all was read
pub all_seen : {X Y Z : Type 0} (view : X → Y) (see : Z → Data) (f : Data → Result Y SigFault) (new : List X) (vs : List Z) (i : ℕ)
    → length vs ≤ i → onto (map view new) (in_turn f (map see (drop i vs))) ≡ Ok (map view new)
all_seen view see f new vs i past =
    ap (λ xs. onto (map view new) (in_turn f (map see xs))) (drop_all i vs past) ∙ ap Ok (append-nil (map view new))
