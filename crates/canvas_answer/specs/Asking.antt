-- How canvases are run, besides the tasks that answer their calls.
use Rattle.std.specs.Prelude.{Bool, List}
use Rattle.canvas_adapt.specs.declared.renames.Rename.{Rename}
use Rattle.canvas_adapt.specs.declared.stubs.stub.Stub.{Stub}
use Rattle.canvas_answer.specs.declared.errors.OtherError.{OtherError}
use Rattle.canvas_answer.specs.declared.setting.Setting.{Setting}
use Rattle.canvas_answer.specs.declared.stubs.Answers.{Answers}

pub record Asking : Type 0 where
  -- whether a canvas is adapted first
  pub adapts : Bool
  -- the answers of tasks by their names
  pub stubs : List Stub
  -- the classes of the exceptions for which NotRegistered is raised in a run
  pub errors : List OtherError
  -- the names that the tasks with a numbered stub have in a run
  pub renames : List Rename

abbrev pub asking : Setting → Asking
asking s =
    record {
      adapts = s.adapts;
      stubs = s.stubs.now;
      errors = s.errors.now;
      renames = s.renames.now;
    }

abbrev pub asked_of : (adapts : Bool) → Answers → Asking
asked_of adapts answers =
    record {
      adapts = adapts;
      stubs = answers.stubs.items;
      errors = answers.errors.items;
      renames = answers.renames.items;
    }
