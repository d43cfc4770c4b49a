-- The texts that messages share (Celery's task message protocol, version 2: `chain` and `chord` in
-- the embed of a body). They are kept with the values that they encode, so that each is written
-- once.
--    AreEnds       the ends of the text of a line's rest, and of the text of what is left of it
--                  each time that a task is taken
--    SaysCarried   the text of the body that a place carries; a text nested in it is that of what
--                  the end of the body carries
use Rattle.std.specs.Prelude.{◌≡◌, ◌≤◌, ℕ, false, List, [], ◌∷◌, ◌++◌, length, map, take, reverse, Option, Some, None, IfSome, string_bytes}
use Rattle.std.specs.Str.{IsUtf8}
use Rattle.serde_json.specs.Data.{Items, no_items}
use Rattle.serde_json.specs.Written.{compact_text, items_text}
use Rattle.canvas_semantics.specs.PlacedLine.{PPlace, p_nowhere, p_group, p_chord, PLine, p_stop, p_step, p_group_end, p_chord_end}
use Rattle.canvas_envelope.specs.Content.{end_place}
use Rattle.canvas_envelope.specs.Wire.{elements_wire, line_wire, onto_reversed}
use Rattle.canvas_envelope.specs.declared.nested_text.CarriedText.{CarriedText}
use Rattle.canvas_envelope.specs.declared.nested_text.Ring.{Ring}
use Rattle.canvas_envelope.specs.declared.texts.Head.{Head}
use Rattle.canvas_envelope.specs.declared.texts.LineText.{LineText}
use Rattle.canvas_envelope.specs.declared.texts.Texts.{Texts}
use Rattle.canvas_envelope.specs.Unplaced.{AreUnplaced}

-- the text of the items of a list, without its brackets
abbrev pub IsListed : List ℕ → Items → Type 0
IsListed text ds = text ++ 93 ∷ [] ≡ items_text false ds

-- the rest of a line, the last element first
abbrev pub backwards : PLine → Items
backwards l = onto_reversed (elements_wire l) no_items

-- the rest of a line when its next task is taken
abbrev pub after_next : PLine → PLine
after_next p_stop = p_stop
after_next (p_step t l) = l
after_next (p_group_end g ms) = p_stop
after_next (p_chord_end g ms b) = p_stop

-- With the head, the first e bytes of the text are the text of the line, and those up to the next
-- of the ends are the text of the rest.
abbrev pub AreEnds : (head text ends : List ℕ) → PLine → Type 0
AreEnds head text [] l = Unit {0}
AreEnds head text (e ∷ es) l =
    (e ≤ length text) × IsUtf8 (take e text) × IsListed (head ++ take e text) (backwards l)
    × AreEnds head text es (after_next l)

-- ---- the text of a carried body

-- the text before and the text after another text
abbrev pub ring_view : Ring → List ℕ × List ℕ
ring_view r = (string_bytes r.before.value, string_bytes r.behind.value)

-- a text with others around it, the outermost first
abbrev pub ringed : List (List ℕ × List ℕ) → List ℕ → List ℕ
ringed [] core = core
ringed (r ∷ rs) core = r.0 ++ (ringed rs core ++ r.1)

abbrev pub rings_of : CarriedText → List (List ℕ × List ℕ)
rings_of t = map ring_view t.rings.items

abbrev pub core_of : CarriedText → List ℕ
core_of t = string_bytes t.core.value

abbrev pub carried_bytes : CarriedText → List ℕ
carried_bytes t = ringed (rings_of t) (core_of t)

-- a place that carries nothing has no text
abbrev pub SaysText : (text : List ℕ) → PPlace → Type 0
SaysText text p_nowhere = Unit {0}
SaysText text (p_group g) = Unit {0}
SaysText text (p_chord g size body) = text ≡ compact_text (line_wire (Some size) body)

-- the place of the end of the body that a place carries
abbrev pub inner_place : PPlace → PPlace
inner_place p_nowhere = p_nowhere
inner_place (p_group g) = p_nowhere
inner_place (p_chord g size body) = end_place body

abbrev pub SaysRinged : List (List ℕ × List ℕ) → List ℕ → PPlace → Type 0
SaysRinged [] core p = SaysText core p
SaysRinged (r ∷ rs) core p =
    SaysText (ringed (r ∷ rs) core) p × SaysRinged rs core (inner_place p)

abbrev pub SaysCarried : CarriedText → PPlace → Type 0
SaysCarried t p = SaysRinged (rings_of t) (core_of t) p

-- ---- the contents of a message

abbrev pub head_text : Option Head → List ℕ
head_text None = []
head_text (Some h) = string_bytes h.before ++ carried_bytes h.carried.value

abbrev pub elements_head : LineText → List ℕ
elements_head t = head_text t.text.value.head

abbrev pub elements_own : LineText → List ℕ
elements_own t = string_bytes t.text.value.own

abbrev pub IsLineText : LineText → PLine → Type 0
IsLineText t l = AreEnds (elements_head t) (elements_own t) (reverse t.ends.items) l

-- the place of the end of a line that begins with a task at a place
abbrev pub place_behind : PPlace → PLine → PPlace
place_behind own p_stop = own
place_behind own (p_step t l) = end_place (p_step t l)
place_behind own (p_group_end g ms) = end_place (p_group_end g ms)
place_behind own (p_chord_end g ms b) = end_place (p_chord_end g ms b)

-- the known texts of a task at a place, and of the rest of its line
pub record AreTexts (texts : Texts) (place : PPlace) (rest : PLine) : Type 0 where
  pub line : IfSome texts.line (λ t. IsLineText t rest)
  pub carried : IfSome texts.carried
      (λ t. SaysCarried t.value (place_behind place rest))
  pub unplaced : AreUnplaced texts.unplaced rest
