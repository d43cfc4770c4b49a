-- The tables that a plan keeps in addition to its line. The line determines all of them.
use Rattle.std.specs.Prelude.{◌≡◌, ℕ, Bool, List}
use Rattle.canvas_semantics.specs.Line.{GroupEntry, count_line, line_groups, group_entries, ends_of, in_group, names}
use Rattle.canvas_semantics.specs.PlacedLine.{bare}
use Rattle.canvas_rewrite.specs.FrozenView.{p_line_view, line_in}
use Rattle.canvas_rewrite.specs.Planned.{IsPlan}
use Rattle.canvas_rewrite.specs.Utf8.{IsUtf8Line}
use Rattle.canvas_rewrite.specs.declared.frozen.FrozenLine.{FrozenLine}

pub record Keeps (line : FrozenLine) (tasks count : ℕ) (its_names : List (List ℕ))
    (groups : List GroupEntry) (ends : List ℕ) (list : Bool) : Type 0 where
  -- nothing in the line has a place
  pub placeless : p_line_view line ≡ bare (line_in line)
  pub planned : IsPlan (line_in line)
  pub utf8 : IsUtf8Line (line_in line)
  pub counted : tasks ≡ count_line (line_in line)
  pub groups_counted : count ≡ line_groups (line_in line)
  pub named : its_names ≡ names (line_in line)
  pub grouped : groups ≡ group_entries (line_in line)
  pub ended : ends ≡ ends_of (line_in line)
  pub listed : list ≡ in_group (line_in line)
