-- The signatures of a text, each with the steps that lead to it, in file order: a signature before
-- those nested in it, and these in the order tasks; header, body; link, link_error (Celery user
-- guide, Canvas). A header that is written as a group signature is a signature of its own.
use Rattle.std.specs.Prelude.{ℕ, zero, suc, Bool, true, false, List, [], ◌∷◌, ◌++◌, map, Option, Some, None}
use Rattle.serde_json.specs.Data.{Data, null, array, depth}
use Rattle.canvas_values.specs.Fields.{subtype, tasks, header, body, link, link_error, items, listed}
use Rattle.canvas_values.specs.Grammar.{primitive_of}
use Rattle.canvas_values.specs.declared.primitive.Primitive.{Primitive}
use Rattle.canvas_values.specs.declared.primitive.Primitive.TheVariants as kind
use Rattle.canvas_check.specs.declared.step.Field.{Field}
use Rattle.canvas_check.specs.declared.step.Field.TheVariants as field
use Rattle.canvas_check.specs.declared.step.Step.{Step}

-- a signature of a text, and whether it is a link or an error callback
pub record Sighted : Type 0 where
  pub steps : List Step
  pub is_linked : Bool
  pub signature : Data

-- the items of a list, the first with this index
abbrev pub from_index : Field → ℕ → List Data → List (Step × Data)
from_index f i [] = []
from_index f i (d ∷ ds) =
    (record { field = f; index = Some i }, d) ∷ from_index f (suc i) ds

-- one signature; null is none
abbrev pub one_in : Field → Data → List (Step × Data)
one_in f null = []
one_in f d = (record { field = f; index = None }, d) ∷ []

-- a list of signatures, one signature, or null for none
abbrev pub some_in : Field → Data → List (Step × Data)
some_in f (array ds) = from_index f 0 (items ds)
some_in f d = one_in f d

-- the signatures in the keyword arguments
abbrev pub in_kwargs : Option Primitive → Data → List (Step × Data)
in_kwargs (Some kind.Chain) d = from_index field.Elements 0 (listed (tasks d))
in_kwargs (Some kind.Group) d = from_index field.Members 0 (listed (tasks d))
in_kwargs (Some kind.Chord) d = some_in field.Header (header d) ++ one_in field.Body (body d)
in_kwargs p d = []

-- a signature with these steps before its own
abbrev pub behind : List Step → Sighted → Sighted
behind steps s = record s { steps = steps ++ s.steps }

-- the signatures that a function gives for each, with the step to it in front
abbrev pub in_each : (Data → List Sighted) → List (Step × Data) → List Sighted
in_each f [] = []
in_each f (e ∷ es) = map (behind (e.0 ∷ [])) (f e.1) ++ in_each f es

abbrev pub itself : Bool → Data → Sighted
itself is_linked d = record { steps = []; is_linked = is_linked; signature = d }

-- the signatures nested in a signature, given a function for each of them
abbrev pub inside : (Bool → Data → List Sighted) → Data → List Sighted
inside f d =
    in_each (f false) (in_kwargs (primitive_of (subtype d)) d)
    ++ (in_each (f true) (some_in field.Links (link d))
    ++ in_each (f true) (some_in field.Errbacks (link_error d)))

-- The number bounds how deep arrays and objects nest in the value: at 0 it contains no signatures.
abbrev pub sighted_within : ℕ → Bool → Data → List Sighted
sighted_within zero is_linked d = itself is_linked d ∷ []
sighted_within (suc n) is_linked d = itself is_linked d ∷ inside (sighted_within n) d

-- all of them, with the value's depth as the bound, which leaves none out
unfoldable pub signatures : Data → List Sighted
signatures d = sighted_within (depth d) false d
