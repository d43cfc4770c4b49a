-- Names of a plan's tasks that are looked at one by one, and none of which begins as a place does.
use Rattle.std.proofs.Common.{◌≡◌, ◌<◌, ◌≤◌, ◌+◌, ◌∙◌, ℕ, Bool, true, false, List, [], Option, Some, None, All, take, length, get_or, sym, ap, subst, add-one}
use Rattle.std.specs.Prelude.{slice_get, option_map}
use Rattle.std.proofs.lemmas.List.{take_all}
use Rattle.std.proofs.lemmas.List.Elements.{All-more}
use Rattle.std.proofs.lemmas.Option.{slice_get-get_or}
use Rattle.canvas_task.specs.Text.{Text}
use Rattle.canvas_semantics.specs.Line.{name_at}
use Rattle.canvas_celery.specs.Places.{is_marked}
use Rattle.canvas_celery.specs.steps.Filling.{is_marked_name}

-- ---- one name after the other

abbrev pub Unmarked : List Text → Type 0
Unmarked ns = All (λ s. is_marked s ≡ false) ns

at_place : (ns : List Text) (i t : ℕ) (found : Option Text) → t ≡ i + 1 → found ≡ name_at ns t → found ≡ slice_get ns i
at_place ns i t found is named = named ∙ ap (name_at ns) (is ∙ add-one i)

at_name : (ns : List Text) (i : ℕ) (found : Option Text) (b : Bool) → found ≡ Some (get_or ns i []) → b ≡ is_marked_name found → b ≡ false
    → is_marked (get_or ns i []) ≡ false
at_name ns i found b is test fails = sym (ap is_marked_name is) ∙ sym test ∙ fails

pub one_more : (ns : List Text) (i t : ℕ) (found : Option Text) (b : Bool) → t ≡ i + 1 → found ≡ name_at ns t → b ≡ is_marked_name found → b ≡ false
    → i < length ns → Unmarked (take i ns) → Unmarked (take (i + 1) ns)
one_more ns i t found b is named test fails inside had =
    let there : found ≡ Some (get_or ns i []) = at_place ns i t found is named ∙ slice_get-get_or ns i [] inside in
    All-more (λ s. is_marked s ≡ false) ns i [] inside had (at_name ns i found b there test fails)

-- what is returned in the midst of them is a name
pub found_one : {Y : Type 0} {X : Type 0} (f : X → Text) (o : Option X) (b : Bool) → b ≡ is_marked_name (option_map f o) → b ≡ true → o ≡ None → Y
found_one f None b test here none = let apart : false ≡ true = sym test ∙ here in cc
found_one f (Some x) b test here none = cc

pub all_unmarked : (ns : List Text) (i : ℕ) → length ns ≤ i → Unmarked (take i ns) → Unmarked ns
all_unmarked ns i long had = subst Unmarked (take_all i ns long) had
