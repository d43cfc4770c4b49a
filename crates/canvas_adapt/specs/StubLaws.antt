-- The calls that stubs leave unchanged, and the reading of written stubs.
use Rattle.std.specs.Prelude.{◌≡◌, Bool, true, List, [], None, Ok}
use Rattle.canvas_task.specs.Text.{Text}
use Rattle.canvas_task.specs.Apply.{Behaviour}
use Rattle.canvas_task.specs.Name.{name_ok}
use Rattle.canvas_task.specs.Numbers.{in_range}
use Rattle.canvas_adapt.specs.declared.stubs.stub.Does.{Does}
use Rattle.canvas_adapt.specs.declared.stubs.stub.Does.TheVariants.{Gives}
use Rattle.canvas_adapt.specs.declared.stubs.stub.Stub.{Stub}
use Rattle.canvas_adapt.specs.Stubs.{any_name, stub_of, stubs_behaviour}
use Rattle.canvas_adapt.specs.StubTexts.{stub_reading, stub_text}

-- whether a number of a stub is one that a task may answer
abbrev pub in_bounds : Does → Bool
in_bounds (Gives n) = in_range n
in_bounds does = true

-- a stub that has a text
pub record IsWritable (s : Stub) : Type 0 where
  pub named : name_ok s.name ≡ true
  pub bounded : in_bounds s.does ≡ true

pub record StubLaws : Type 0 where
  -- no stubs change nothing
  pub none : (tasks : Behaviour) → stubs_behaviour [] tasks ≡ tasks
  -- a name without a stub behaves as it does without stubs, if there is no stub `*`
  pub others : (stubs : List Stub) (tasks : Behaviour) (name : Text)
      → stub_of name stubs ≡ None → stub_of any_name stubs ≡ None
      → stubs_behaviour stubs tasks name ≡ tasks name
  -- a written stub is read back: a number in decimals, an exception by its name in a report
  pub written : (s : Stub) → IsWritable s → stub_reading (stub_text s) ≡ Ok s
