-- The bytes read from a file that the words name. `-` is the program's input, whose bytes may be
-- known (`remaining` of std's `Read`). std says nothing about the bytes of any other file.
use Rattle.std.specs.Prelude.{◌≡◌, ℕ, ◌+◌, Option, IfSome, codes, take}
use Rattle.canvas_task.specs.Text.{Text}
use Rattle.canvas_values.specs.CanvasText.{most_bytes}

abbrev pub IsRead : (most : ℕ) → (file : Text) → (input : Option Text) → Text → Type 0
IsRead most file input bytes = file ≡ codes "-" → IfSome input (λ xs. bytes ≡ take most xs)

-- the bytes of a canvas, up to one more than the longest has, so that a longer one shows
abbrev pub IsCanvasRead : (file : Text) → (input : Option Text) → Text → Type 0
IsCanvasRead file input bytes = IsRead (most_bytes + 1) file input bytes
