-- A text is its bytes.
use Rattle.std.specs.Prelude.{ℕ, List}

abbrev pub Text : Type 0
Text = List ℕ
