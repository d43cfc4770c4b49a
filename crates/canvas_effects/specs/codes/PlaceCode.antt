-- The encoding of a place, as the message of a task with it, and of what it carries, so that a type
-- may have these as its value.
use Rattle.std.specs.Prelude.{ℕ, zero, false, [], Option, Some, None, refl}
use Rattle.std.specs.Coded.{Coded, code_by}
use Rattle.canvas_rewrite.specs.FrozenView.{PCarried}
use Rattle.canvas_semantics.specs.PlacedLine.{p_task, no_p_tasks, PPlace, p_nowhere, p_stop}
use Rattle.canvas_envelope.specs.Content.{Content, place_of}
use Rattle.canvas_envelope.specs.codes.ContentCode.{content_code}

abbrev of_place : PPlace → Content
of_place p =
    record {
      parent = None;
      own = p_task 0 (record { name = []; args = []; kwargs = []; immutable = false }) no_p_tasks
          no_p_tasks p;
      rest = p_stop;
    }

abbrev to_place : Content → PPlace
to_place c = place_of c.own

abbrev pub place_code : Coded PPlace
place_code = code_by Content content_code of_place to_place (λ p. refl)

-- the carried size and body, as a message of no task
abbrev of_carried : PCarried → Content
of_carried c =
    record {
      parent = Some c.size;
      own = p_task 0 (record { name = []; args = []; kwargs = []; immutable = false })
          no_p_tasks no_p_tasks p_nowhere;
      rest = c.body;
    }

abbrev or_none : Option ℕ → ℕ
or_none None = zero
or_none (Some n) = n

abbrev to_carried : Content → PCarried
to_carried m = record { size = or_none m.parent; body = m.rest }

abbrev pub carried_code : Coded PCarried
carried_code = code_by Content content_code of_carried to_carried (λ c. refl)
