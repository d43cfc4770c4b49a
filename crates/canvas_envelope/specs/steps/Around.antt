-- The parts of a line's text before and after the text of the body that its end carries.
--    line_before, line_behind    of a line
--    last_before, last_behind    of its last element
use Rattle.std.specs.Prelude.{ℕ, Bool, true, false, List, [], ◌∷◌, ◌++◌, Option, None, codes}
use Rattle.json.specs.Token.{Token, key}
use Rattle.serde_json.specs.Data.{Data, null, string}
use Rattle.canvas_semantics.specs.PlacedLine.{PTask, PPlace, p_nowhere, p_group, p_chord, PLine, p_stop, p_step, p_group_end, p_chord_end, PLines}
use Rattle.canvas_envelope.specs.Content.{place_of}
use Rattle.canvas_envelope.specs.Wire.{task_wire, line_wire, members_wire}
use Rattle.canvas_envelope.specs.steps.Tokens.{task_front, task_behind, opening_tokens, group_closing, list_tokens, chain_before, chain_behind}

abbrev pub is_carrying : PPlace → Bool
is_carrying p_nowhere = false
is_carrying (p_group g) = false
is_carrying (p_chord g size body) = true

-- whether the end of a line carries a body
abbrev pub carries : PLine → Bool
carries p_stop = false
carries (p_step t p_stop) = is_carrying (place_of t)
carries (p_step t l) = carries l
carries (p_group_end g ms) = false
carries (p_chord_end g ms b) = carries b

-- all tasks of a line but its last element
abbrev pub front_tasks : PLine → List PTask
front_tasks p_stop = []
front_tasks (p_step t p_stop) = []
front_tasks (p_step t l) = t ∷ front_tasks l
front_tasks (p_group_end g ms) = []
front_tasks (p_chord_end g ms b) = []

-- the last element of a line
abbrev pub last_wire : PLine → Data
last_wire p_stop = null
last_wire (p_step t p_stop) = task_wire None t
last_wire (p_step t l) = last_wire l
last_wire (p_group_end g ms) = line_wire None (p_group_end g ms)
last_wire (p_chord_end g ms b) = line_wire None (p_chord_end g ms b)

-- ---- before

abbrev pub task_before : (size : Option ℕ) → PTask → List Token
task_before size t = task_front size t ++ key (codes "chord") ∷ []

abbrev pub chord_before : (size : Option ℕ) → List Token
chord_before size = opening_tokens size ++ key (codes "body") ∷ []

abbrev mutual
  pub line_before : Option ℕ → PLine → List Token
  line_before size p_stop = []
  line_before size (p_step t p_stop) = task_before size t
  line_before size (p_step t l) = chain_before size (t ∷ front_tasks l) ++ last_before l
  line_before size (p_group_end g ms) = []
  line_before size (p_chord_end g ms b) = chord_before size ++ line_before None b

  pub last_before : PLine → List Token
  last_before p_stop = []
  last_before (p_step t p_stop) = task_before None t
  last_before (p_step t l) = last_before l
  last_before (p_group_end g ms) = []
  last_before (p_chord_end g ms b) = chord_before None ++ line_before None b

-- ---- after

abbrev pub chord_behind : (number : ℕ) → PLines → List Token
chord_behind g ms =
    list_tokens (codes "header") (members_wire ms)
    ++ group_closing g (string (codes "chord")) (codes "celery.chord")

abbrev mutual
  pub line_behind : PLine → List Token
  line_behind p_stop = []
  line_behind (p_step t p_stop) = task_behind t
  line_behind (p_step t l) = last_behind l ++ chain_behind
  line_behind (p_group_end g ms) = []
  line_behind (p_chord_end g ms b) = line_behind b ++ chord_behind g ms

  pub last_behind : PLine → List Token
  last_behind p_stop = []
  last_behind (p_step t p_stop) = task_behind t
  last_behind (p_step t l) = last_behind l
  last_behind (p_group_end g ms) = []
  last_behind (p_chord_end g ms b) = line_behind b ++ chord_behind g ms
