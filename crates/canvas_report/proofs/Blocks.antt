-- No byte of a text as a page has it is one that HTML would read as its own.
use Rattle.std.proofs.Common.{◌≡◌, ◌≢◌, ◌==◌, ℕ, Bool, true, false, List, [], ◌∷◌, ◌++◌, refl, arith, codes, if◌then◌else◌}
use Rattle.std.specs.List.{All}
use Rattle.std.proofs.lemmas.List.Elements.{All-append, All-cons, All-nil}
use Rattle.canvas_task.specs.Text.{Text}
use Rattle.canvas_report.specs.Page.{escaped, escaped_byte}

abbrev pub Safe : ℕ → Type 0
Safe b = (b ≢ 60) × (b ≢ 62) × (b ≢ 38)

none : All Safe []
none = All-nil Safe

also : (b : ℕ) (bs : List ℕ) → Safe b → All Safe bs → All Safe (b ∷ bs)
also = All-cons Safe

unlike : (b c : ℕ) → (b == c) ≡ false → b ≢ c
unlike b c h = grind arith

harmless : (b : ℕ) → (b == 60) ≡ false → (b == 62) ≡ false → (b == 38) ≡ false → Safe b
harmless b l g a = (unlike b 60 l, unlike b 62 g, unlike b 38 a)

-- `\u00` and two more
numbered : (x y : ℕ) → Safe x → Safe y → All Safe (codes "\\u00" ++ x ∷ y ∷ [])
numbered x y hx hy =
    also 92 (117 ∷ 48 ∷ 48 ∷ x ∷ y ∷ []) (harmless 92 refl refl refl)
    (also 117 (48 ∷ 48 ∷ x ∷ y ∷ []) (harmless 117 refl refl refl)
    (also 48 (48 ∷ x ∷ y ∷ []) (harmless 48 refl refl refl)
    (also 48 (x ∷ y ∷ []) (harmless 48 refl refl refl)
    (also x (y ∷ []) hx (also y [] hy none)))))

safe_byte_by : (b : ℕ) (l g a : Bool) → (b == 60) ≡ l → (b == 62) ≡ g → (b == 38) ≡ a
    → All Safe (if l then codes "\\u003c" else if g then codes "\\u003e" else if a then codes "\\u0026" else b ∷ [])
safe_byte_by b true g a hl hg ha = numbered 51 99 (harmless 51 refl refl refl) (harmless 99 refl refl refl)
safe_byte_by b false true a hl hg ha = numbered 51 101 (harmless 51 refl refl refl) (harmless 101 refl refl refl)
safe_byte_by b false false true hl hg ha = numbered 50 54 (harmless 50 refl refl refl) (harmless 54 refl refl refl)
safe_byte_by b false false false hl hg ha = also b [] (harmless b hl hg ha) none

pub safe : (text : Text) → All Safe (escaped text)
safe [] = none
safe (b ∷ bs) =
    All-append Safe (escaped_byte b) (escaped bs) (safe_byte_by b (b == 60) (b == 62) (b == 38) refl refl refl) (safe bs)
