-- Names of tasks: printable ASCII without spaces. The rule is this project's own.
use Rattle.std.specs.Prelude.{ℕ, Bool, ◌&&◌, List, length, nat_le}
use Rattle.std.specs.List.{list_all}

-- a byte from `!` to `~`
abbrev pub printable : ℕ → Bool
printable b = nat_le 33 b && nat_le b 126

-- 1 to 128 printable bytes
abbrev pub name_ok : List ℕ → Bool
name_ok text = nat_le 1 (length text) && nat_le (length text) 128 && list_all printable text
