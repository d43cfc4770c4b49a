use Rattle.std.proofs.Common.{◌≡◌, ◌++◌, flat_map, string_bytes, take}
use Rattle.canvas_check.specs.Shown.{shown_char}
use Rattle.canvas_check.proofs.shown.push_chars.Given as goal

abbrev pub invariant-loop-c : goal.invariant-loop-c
invariant-loop-c l =
    string_bytes l.shown ≡ string_bytes l.fn.shown ++ flat_map shown_char (take l.c-index l.characters)
