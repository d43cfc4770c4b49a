-- The position of a signature: its input, its neighbours in its line, and whether a failed header's
-- exception is raised in it (Celery user guide, Canvas: chains, groups, chords, error handling).
use Rattle.std.specs.Prelude.{ℕ, Bool, true, false, ◌||◌, ◌&&◌, ◌==◌, nat_lt}
use Rattle.canvas_check.specs.declared.position.Input.{Input}
use Rattle.canvas_check.specs.declared.position.Input.TheVariants.{Nothing, Number, Numbers}
use Rattle.canvas_check.specs.declared.position.Position.{Position}

abbrev pub is_number : Input → Bool
is_number Number = true
is_number i = false

abbrev pub is_numbers : Input → Bool
is_numbers Numbers = true
is_numbers i = false

-- a whole canvas, which starts with no input
abbrev pub start : Position
start =
    record {
      input = Nothing;
      is_behind_task = false;
      is_followed = false;
      is_in_header = false;
      is_body = false;
      begins_body = false;
    }

-- the exception of a failed header is raised in it
abbrev pub takes_failure : Position → Bool
takes_failure s = s.is_body || s.begins_body

-- an element with n elements after it
abbrev pub before : ℕ → Position → Position
before n s = record s { is_followed = s.is_followed || nat_lt 0 n }

-- the elements of a chain; the first of them begins it
abbrev pub of_elements : Position → Position
of_elements s = record s { is_body = false; begins_body = takes_failure s }

-- the next element, after one with this output: after a group it is a chord's body
abbrev pub behind : Input → Position → Position
behind i s =
    record s {
      input = i;
      is_behind_task = is_number i;
      is_body = is_numbers i;
      begins_body = false;
    }

-- a member of a group, or of a header
abbrev pub of_member : Bool → Position → Position
of_member is_header s =
    record {
      input = s.input;
      is_behind_task = false;
      is_followed = false;
      is_in_header = s.is_in_header || is_header;
      is_body = false;
      begins_body = takes_failure s;
    }

-- The body of a chord with n members in its header. With none, the body takes the chord's input.
abbrev pub of_body : ℕ → Position → Position
of_body n s =
    record s {
      input = Numbers;
      is_behind_task = false;
      is_body = s.is_body || nat_lt 0 n;
      begins_body = (n == 0) && takes_failure s;
    }

-- a link or an error callback
abbrev pub of_callback : Input → Position
of_callback i = record start { input = i }
