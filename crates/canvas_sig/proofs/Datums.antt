-- The data of a list and of an object that were parsed.
use Rattle.std.proofs.Math.Dec.{eqb-suc-zero}
use Rattle.std.proofs.Common.{◌≡◌, ℕ, ◌+◌, ◌<◌, length, get_or, drop, List, [], ◌∷◌, map, Bor, refl, sym, ap, ◌∙◌}
use Rattle.std.specs.List.{list_all}
use Rattle.std.specs.Prelude.{◌==◌}
use Rattle.serde_json.specs.Data.{array}
use Rattle.serde_json.specs.Data.{Data}
use Rattle.serde_json.specs.View.{items_of}
use Rattle.canvas_sig.specs.Datum.{view, members_view, seen}
use Rattle.canvas_sig.specs.declared.datum.Datum.{Datum}
use Rattle.canvas_sig.specs.declared.datum.Datum as datum
use Rattle.canvas_sig.proofs.Each.{next_of}
use Rattle.canvas_sig.proofs.Parsed.{Named, view-List, view-Object}
use Rattle.canvas_values.specs.steps.Reading.{list_reading, arg_steps}
use Rattle.canvas_values.specs.Grammar.{named_reading, kind_ok, numbers_ok, number_ok}
use Rattle.canvas_values.specs.Answers.{in_turn}
use Rattle.canvas_values.specs.Fields.{items, entries, listed, as_list, object_members as members, is_number, is_empty, contents}

pub items-items_of : (ds : List Data) → items (items_of ds) ≡ ds
items-items_of [] = refl
items-items_of (d ∷ ds) = ap (λ es. d ∷ es) (items-items_of ds)

pub array_items : (v : Datum) (vs : Bor (List Datum)) → v ≡ datum.List vs → listed (view v) ≡ map view vs.now
array_items v vs is = ap (λ x. listed (view x)) is ∙ ap listed (view-List vs) ∙ items-items_of (map view vs.now)

pub array_list : (v : Datum) (vs : Bor (List Datum)) → v ≡ datum.List vs → as_list (view v) ≡ map view vs.now
array_list v vs is = ap (λ x. as_list (view x)) is ∙ ap as_list (view-List vs) ∙ items-items_of (map view vs.now)

entries-members_view : (es : List Named) → entries (members_view es) ≡ seen es
entries-members_view [] = refl
entries-members_view (e ∷ es) = ap (λ xs. (e.0.now, view e.1) ∷ xs) (entries-members_view es)

pub object_members : (v : Datum) (m : Bor (List Named)) → v ≡ datum.Object m → members (view v) ≡ seen m.now
object_members v m is = ap (λ x. members (view x)) is ∙ ap members (view-Object m) ∙ entries-members_view m.now

pub array_arg : (v : Datum) (vs : Bor (List Datum)) → v ≡ datum.List vs → arg_steps (view v) ≡ list_reading (map view vs.now)
array_arg v vs is = ap (λ x. arg_steps (view x)) is ∙ ap arg_steps (view-List vs) ∙ ap list_reading (items-items_of (map view vs.now))

pub object_kwargs : (v : Datum) (m : Bor (List Named)) → v ≡ datum.Object m → in_turn named_reading (members (view v)) ≡ in_turn named_reading (seen m.now)
object_kwargs v m is = ap (in_turn named_reading) (object_members v m is)

pub array_kind_ok : (v : Datum) (vs : Bor (List Datum)) → v ≡ datum.List vs → kind_ok (view v) ≡ list_all is_number (map view vs.now)
array_kind_ok v vs is = ap (λ x. kind_ok (view x)) is ∙ ap kind_ok (view-List vs) ∙ ap (list_all is_number) (items-items_of (map view vs.now))

pub array_numbers_ok : (v : Datum) (vs : Bor (List Datum)) → v ≡ datum.List vs → numbers_ok (view v) ≡ list_all number_ok (map view vs.now)
array_numbers_ok v vs is = ap (λ x. numbers_ok (view x)) is ∙ ap numbers_ok (view-List vs) ∙ ap (list_all number_ok) (items-items_of (map view vs.now))

pub object_contents : {B : Type 0} (f : List Data → B) (v : Datum) (m : Bor (List Named)) → v ≡ datum.Object m
    → f (contents (view v)) ≡ f (map (λ e. e.1) (seen m.now))
object_contents f v m is = ap (λ xs. f (map (λ e. e.1) xs)) (object_members v m is)

pub next_item : (xs : List Datum) (i : ℕ) (x d : Datum) → i < length xs → get_or xs i d ≡ x → map view (drop i xs) ≡ view x ∷ map view (drop (i + 1) xs)
next_item = next_of view

empty_items : (vs : List Datum) → is_empty (array (items_of (map view vs))) ≡ (length vs == 0)
empty_items [] = refl
empty_items (v ∷ vs) = sym (eqb-suc-zero (length vs))

pub array_is_empty : (v : Datum) (vs : Bor (List Datum)) → v ≡ datum.List vs → is_empty (view v) ≡ (length vs.now == 0)
array_is_empty v vs is = ap (λ x. is_empty (view x)) is ∙ ap is_empty (view-List vs) ∙ empty_items vs.now
