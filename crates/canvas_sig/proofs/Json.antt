-- The argument that a JSON list spells.
use Rattle.std.proofs.Common.{◌≡◌, ℕ, ◌+◌, ◌<◌, length, get_or, drop, arith, List, [], ◌∷◌, map, Vec, Global, refl, sym, ap, ◌∙◌}
use Rattle.std.specs.List.{list_all}
use Rattle.std.specs.Prelude.{true, Result, Ok, Err, IfErr, IsTrue}
use Rattle.serde_json.specs.Data.{array}
use Rattle.serde_json.specs.Data.{Data}
use Rattle.serde_json.specs.View.{view, items_of}
use Rattle.serde_json.specs.declared.value.Value.{Value, Array}
use Rattle.serde_json.proofs.Views.{view-Array}
use Rattle.canvas_task.specs.declared.arg.Arg.{Arg}
use Rattle.canvas_values.specs.declared.fault.SigFault.{SigFault}
use Rattle.canvas_values.specs.declared.fault.SigFault.TheVariants.{Memory}
use Rattle.canvas_values.specs.steps.Reading.{list_reading, arg_steps}
use Rattle.canvas_values.specs.Grammar.{takes_memory}
use Rattle.canvas_values.specs.Fields.{items, is_number}
use Rattle.canvas_sig.proofs.Each.{next_of}

pub items-items_of : (ds : List Data) → items (items_of ds) ≡ ds
items-items_of [] = refl
items-items_of (d ∷ ds) = ap (λ es. d ∷ es) (items-items_of ds)

pub array_arg : (v : Value) (vs : Vec Value Global) → v ≡ Array vs → arg_steps (view v) ≡ list_reading (map view vs.items)
array_arg v vs is = ap (λ x. arg_steps (view x)) is ∙ ap arg_steps (view-Array vs) ∙ ap list_reading (items-items_of (map view vs.items))

-- ---- memory

list_takes : (vs : List Value) → 0 < length vs → list_all is_number (map view vs) ≡ true → takes_memory (array (items_of (map view vs))) ≡ true
list_takes [] some h = absurd (omega arith)
list_takes (v ∷ vs) some h = ap (list_all is_number) (items-items_of (map view (v ∷ vs))) ∙ h

-- a list that asked for memory, as the value that it is of
pub array_takes : (v : Value) (vs : Vec Value Global) (xs : List Value) (r : Result Arg SigFault) → v ≡ Array vs → xs ≡ vs.items
    → IfErr r (λ e. e ≡ Memory → (0 < length xs) × IsTrue (list_all is_number (map view xs))) → IfErr r (λ e. e ≡ Memory → IsTrue (takes_memory (view v)))
array_takes v vs xs (Ok a) is same h = tt
array_takes v vs xs (Err e) is same h =
    λ memory. let p = h memory in
    ap (λ x. takes_memory (view x)) is ∙ ap takes_memory (view-Array vs) ∙ ap (λ ys. takes_memory (array (items_of (map view ys)))) (sym same)
    ∙ list_takes xs p.0 p.1

-- ---- a list's loop

pub next_item : (xs : List Value) (i : ℕ) (x d : Value) → i < length xs → get_or xs i d ≡ x → map view (drop i xs) ≡ view x ∷ map view (drop (i + 1) xs)
next_item = next_of view
