-- The walks of a line, each by itself: the messages of a line that starts, the stores of one that
-- is skipped, and both of one in which an exception is raised.
use Rattle.std.specs.Prelude.{ℕ, Bool, true, false, List, [], ◌∷◌, ◌++◌, map, Option, Some, None, Box, ℤ}
use Rattle.std.specs.declared.alloc.Global.{Global}
use Rattle.canvas_task.specs.declared.outcome.Fault.{Fault}
use Rattle.canvas_task.specs.declared.outcome.Fault.TheVariants as fault
use Rattle.canvas_task.specs.declared.outcome.Outcome.{Outcome}
use Rattle.canvas_task.specs.declared.outcome.Outcome.TheVariants.{Success, Failure}
use Rattle.canvas_semantics.specs.Evaluation.{why_of}
use Rattle.canvas_rewrite.specs.declared.frozen.FrozenEnd.{FrozenEnd}
use Rattle.canvas_rewrite.specs.FrozenView.{p_end_view}
use Rattle.canvas_semantics.specs.PlacedLine.{PTask, PPlace, p_nowhere, p_group, p_chord, PLine, p_stop, p_step, p_group_end, p_chord_end}
use Rattle.canvas_envelope.specs.Content.{Content, number_of}
use Rattle.canvas_effects.specs.Effects.{message, enter, stores_in, messages_in, part_in, part_of, Part}
use Rattle.canvas_envelope.specs.Fits.{how_many}
use Rattle.canvas_effects.specs.Flowing.{Input, no_input, number_input, list_input, id_input, run, skips, raise}
use Rattle.canvas_effects.specs.Placing.{last_at, placed, end_place, last_task}
use Rattle.canvas_effects.specs.declared.input.Input as the_input
use Rattle.canvas_effects.specs.declared.input.Input.TheVariants as given

-- ---- the values of the code

abbrev pub input_seen : the_input.Input → Input
input_seen given.Nothing = no_input
input_seen (given.Number n) = number_input n
input_seen (given.Numbers ns) = list_input ns
input_seen (given.Ident k) = id_input k

-- the end of a line
abbrev pub tail_seen : Option (Box FrozenEnd Global) → PLine
tail_seen None = p_stop
tail_seen (Some e) = p_end_view e.value

-- whether a task comes first on a line
abbrev pub begins_with_task : PLine → Bool
begins_with_task p_stop = false
begins_with_task (p_step t l) = true
begins_with_task (p_group_end g ms) = false
begins_with_task (p_chord_end g ms body) = false

-- ---- places

-- a task with another place
abbrev pub at_place : PPlace → PTask → PTask
at_place p t = last_at p t p_stop

-- the message of a line's first task; the line's end goes to p
abbrev pub first_message : Option ℕ → PTask → Input → PPlace → PLine → Content
first_message u t x p rest = message u (last_at p t rest) x (placed p rest)

-- the place of the ends of a group's or chord's members; the end of the whole goes to p
abbrev pub member_place : PLine → PPlace → PPlace
member_place (p_group_end g ms) p = p_group g
member_place (p_chord_end g ms body) p = p_chord g (how_many ms) (placed p body)
member_place l p = p

-- the last task, or None if the line ends in a group
abbrev pub last_of : PLine → Option PTask
last_of p_stop = None
last_of (p_step t p_stop) = Some t
last_of (p_step t rest) = last_of rest
last_of (p_group_end g ms) = None
last_of (p_chord_end g ms body) = last_of body

-- the part that the end of a line returns
abbrev pub part_at_end : PLine → Option Part
part_at_end l = part_in (part_of (end_place l) (last_task 0 l))

-- ---- walks

abbrev pub called_back : Input → Option ℕ → List PTask → List Content
called_back x u ts = map (λ t. message u t x p_stop) ts

abbrev pub started : PLine → Input → PPlace → Option ℕ → List Content
started l x p u = messages_in (enter l (run x) p 0 u)

abbrev pub all_started : List PLine → Input → PPlace → Option ℕ → List Content
all_started [] x p u = []
all_started (l ∷ ls) x p u = started l x p u ++ all_started ls x p u

abbrev pub skipped_tasks : Fault → List PTask → List (ℕ × Outcome)
skipped_tasks f ts = map (λ t. (number_of t, Failure f)) ts

abbrev pub skipped : Fault → PLine → List (ℕ × Outcome)
skipped f l = stores_in (enter l (skips f) p_nowhere 0 None)

abbrev pub all_skipped : Fault → List PLine → List (ℕ × Outcome)
all_skipped f [] = []
all_skipped f (l ∷ ls) = skipped f l ++ all_skipped f ls

abbrev pub raised_stores : Fault → PLine → List (ℕ × Outcome)
raised_stores f l = stores_in (enter l (raise f) p_nowhere 0 None)

abbrev pub all_raised_stores : Fault → List PLine → List (ℕ × Outcome)
all_raised_stores f [] = []
all_raised_stores f (l ∷ ls) = raised_stores f l ++ all_raised_stores f ls

abbrev pub raised_messages : Fault → PLine → List Content
raised_messages f l = messages_in (enter l (raise f) p_nowhere 0 None)

abbrev pub all_raised_messages : Fault → List PLine → List Content
all_raised_messages f [] = []
all_raised_messages f (l ∷ ls) = raised_messages f l ++ all_raised_messages f ls

-- ---- headers

-- the exception of the first member that failed
abbrev pub first_failure : List (ℕ × Outcome) → Option Fault
first_failure [] = None
first_failure ((k, Success n) ∷ es) = first_failure es
first_failure ((k, Failure f) ∷ es) = Some (fault.Chord k (why_of f))

-- the numbers of the members that succeeded
abbrev pub successes : List (ℕ × Outcome) → List ℤ
successes [] = []
successes ((k, Success n) ∷ es) = n ∷ successes es
successes ((k, Failure f) ∷ es) = successes es
