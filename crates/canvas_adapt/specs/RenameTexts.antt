-- Other names for tasks as texts, as #3=shop.ship. The rules are this project's own.
use Rattle.std.specs.Prelude.{◌≡◌, ℕ, List, [], ◌∷◌, ◌++◌, string_bytes}
use Rattle.std.specs.Str.Parse.{IsNumeral, digits_value}
use Rattle.canvas_task.specs.Text.{Text}
use Rattle.canvas_adapt.specs.declared.renames.Rename.{Rename}

-- decimal digits, without a sign
abbrev pub IsNumberText : Text → ℕ → Type 0
IsNumberText digits k = IsNumeral 10 digits × (digits_value 10 digits ≡ k)

-- 35 is `#`, and 61 is `=`
abbrev pub IsRenameText : Text → Rename → Type 0
IsRenameText text r =
    (digits : Text) × (text ≡ 35 ∷ digits ++ 61 ∷ string_bytes r.name) × IsNumberText digits r.task

-- each text gives its name
abbrev pub AreRenameTexts : List Text → List Rename → Type 0
AreRenameTexts [] [] = Unit {0}
AreRenameTexts (text ∷ texts) (r ∷ rs) = IsRenameText text r × AreRenameTexts texts rs
AreRenameTexts texts rs = ⊥
