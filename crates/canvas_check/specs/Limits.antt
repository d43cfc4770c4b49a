-- The first signature of a text, in file order, that exceeds a limit of whole canvases. The limits
-- are this project's own.
use Rattle.std.specs.Prelude.{ℕ, zero, suc, ◌+◌, ◌-◌, Bool, true, false, not, ◌&&◌, List, [], ◌∷◌, length, Option, Some, None, nat_lt, ◌==◌, find, count_by, slice_get, is_some, if◌then◌else◌}
use Rattle.serde_json.specs.Data.{Data}
use Rattle.canvas_semantics.specs.Bounds.{most_nesting, most_tasks, most_groups}
use Rattle.canvas_values.specs.Fields.{subtype, tasks, body, listed}
use Rattle.canvas_values.specs.Grammar.{primitive_of}
use Rattle.canvas_values.specs.declared.primitive.Primitive.{Primitive}
use Rattle.canvas_values.specs.declared.primitive.Primitive.TheVariants as kind
use Rattle.canvas_values.specs.declared.fault.SigFault.{SigFault}
use Rattle.canvas_values.specs.declared.fault.SigFault.TheVariants as fault
use Rattle.canvas_check.specs.FileOrder.{Sighted, itself, signatures}
use Rattle.canvas_check.specs.Refused.{first_refused}
use Rattle.canvas_check.specs.declared.step.Field.{Field}
use Rattle.canvas_check.specs.declared.step.Field.TheVariants as field
use Rattle.canvas_check.specs.declared.step.Step.{Step}

-- the kind of a signature
abbrev pub kind_of : Data → Option Primitive
kind_of d = primitive_of (subtype d)

-- ---- depth: 1 at the top, one more in a signature; a header's group signature adds none

abbrev pub is_group_step : Field → Option ℕ → Bool
is_group_step field.Header None = true
is_group_step f i = false

abbrev pub goes_deeper : Step → Bool
goes_deeper s = not (is_group_step s.field s.index)

abbrev pub level : List Step → ℕ
level steps = 1 + count_by goes_deeper steps

abbrev pub is_too_deep : Sighted → Bool
is_too_deep s = nat_lt most_nesting (level s.steps)

-- ---- nested groups

-- a member of a group, or of a header
abbrev pub is_member_step : Field → Option ℕ → Bool
is_member_step field.Members i = true
is_member_step field.Header i = is_some i
is_member_step f i = false

abbrev pub steps_to_member : Option Step → Bool
steps_to_member None = false
steps_to_member (Some s) = is_member_step s.field s.index

abbrev pub last_of : {A : Type 0} → List A → Option A
last_of xs = slice_get xs (length xs - 1)

-- Whether the line of a signature ends in a group. The number bounds how deep it descends; JSON
-- that can be read nests less deep than 128 levels.
abbrev pub in_some : (Data → Bool) → Option Data → Bool
in_some f None = false
in_some f (Some d) = f d

abbrev pub ends_where : (Data → Bool) → Option Primitive → Data → Bool
ends_where f (Some kind.Group) d = true
ends_where f (Some kind.Chain) d = in_some f (last_of (listed (tasks d)))
ends_where f (Some kind.Chord) d = f (body d)
ends_where f p d = false

abbrev pub ends_in_group : ℕ → Data → Bool
ends_in_group zero d = false
ends_in_group (suc n) d = ends_where (ends_in_group n) (kind_of d) d

abbrev pub most_levels : ℕ
most_levels = 128

abbrev pub is_nested : Sighted → Bool
is_nested s = steps_to_member (last_of s.steps) && ends_in_group most_levels s.signature

-- ---- numbers

abbrev pub is_task_kind : Option Primitive → Bool
is_task_kind (Some kind.Task) = true
is_task_kind p = false

-- a group or chord; a header's group signature isn't counted in addition to its chord
abbrev pub is_group_kind : Option Primitive → Bool
is_group_kind (Some kind.Group) = true
is_group_kind (Some kind.Chord) = true
is_group_kind p = false

abbrev pub is_header_group : Option Step → Bool
is_header_group None = false
is_header_group (Some s) = is_group_step s.field s.index

abbrev pub is_task : Sighted → Bool
is_task s = is_task_kind (kind_of s.signature)

abbrev pub is_counted_group : Sighted → Bool
is_counted_group s =
    is_group_kind (kind_of s.signature) && not (is_header_group (last_of s.steps))

-- the first that exceeds t tasks or g groups and chords
abbrev pub past : (tasks groups : ℕ) → List Sighted → Option Sighted
past t g [] = None
past t g (s ∷ ss) =
    if is_task s then (if t == 0 then Some s else past (t - 1) g ss)
    else (if is_counted_group s then (if g == 0 then Some s else past t (g - 1) ss)
    else past t g ss)

-- ---- the place of a refusal

-- Signatures nested too deep in a message of the run are those of the whole canvas, which is the
-- first to exceed that limit.
abbrev pub too_deep : Data → Option Sighted → Option Sighted
too_deep d None = Some (itself false d)
too_deep d (Some s) = Some s

-- the first signature that has a refusal, or that exceeds a limit
abbrev pub place_of : SigFault → Data → Option Sighted
place_of fault.TooLarge d = None
place_of fault.NotJson d = None
place_of fault.Memory d = None
place_of fault.NestedGroup d = find is_nested (signatures d)
place_of fault.TooDeep d = too_deep d (find is_too_deep (signatures d))
place_of fault.TooMany d = past most_tasks most_groups (signatures d)
place_of f d = first_refused d
