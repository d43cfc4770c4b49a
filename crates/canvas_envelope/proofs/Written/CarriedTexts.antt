-- The texts of carried bodies.
use Rattle.std.proofs.Common.{◌≡◌, ◌∙◌, ℕ, true, List, [], ◌∷◌, Some, Ok, Err, sym, subst}
use Rattle.std.specs.Prelude.{IfOk, Result}
use Rattle.json.specs.Print.{print}
use Rattle.serde_json.specs.Written.{compact_text}
use Rattle.canvas_semantics.specs.PlacedLine.{p_chord, PLine}
use Rattle.canvas_rewrite.specs.FrozenView.{p_line_view}
use Rattle.canvas_rewrite.specs.declared.frozen.Carried.{Carried, out-Carried}
use Rattle.canvas_rewrite.specs.declared.frozen.Place.{Place, out-Place}
use Rattle.canvas_envelope.specs.Content.{end_place}
use Rattle.canvas_envelope.specs.MessageView.{place_view}
use Rattle.canvas_envelope.specs.SharedTexts.{SaysCarried, SaysRinged, carried_bytes, core_of, rings_of}
use Rattle.canvas_envelope.specs.Wire.{carried_wire, line_wire}
use Rattle.canvas_envelope.specs.declared.nested_text.CarriedText.{CarriedText}
use Rattle.canvas_envelope.proofs.Seen.{chord_place}
use Rattle.canvas_envelope.specs.steps.Around.{carries, line_before, line_behind}
use Rattle.canvas_envelope.proofs.Written.AroundTexts.{says_all, body_around}

-- one with no other in it, and one around another
pub alone_says : (t : CarriedText) (g size : ℕ) (l : PLine) → rings_of t ≡ [] → core_of t ≡ compact_text (line_wire (Some size) l)
    → SaysCarried t (p_chord g size l)
alone_says t g size l none is = subst (λ rs. SaysRinged rs (core_of t) (p_chord g size l)) (sym none) is

pub around_says : (t inner : CarriedText) (g size : ℕ) (l : PLine) (before behind : List ℕ) → rings_of t ≡ (before, behind) ∷ rings_of inner
    → core_of t ≡ core_of inner → carries l ≡ true → SaysCarried inner (end_place l)
    → before ≡ print (line_before (Some size) l) → behind ≡ 44 ∷ print (line_behind l) → SaysCarried t (p_chord g size l)
around_says t inner g size l before behind ringed same h said is_before is_behind =
    subst (λ rs. SaysRinged rs (core_of t) (p_chord g size l)) (sym ringed)
    (subst (λ core. SaysRinged ((before, behind) ∷ rings_of inner) core (p_chord g size l)) (sym same)
    (body_around size l (rings_of inner) (core_of inner) before behind h said is_before is_behind, said))

-- what a call that makes one answers
pub alone_made : {E : Type 0} (r : Result CarriedText E) (text : List ℕ) (size : ℕ) (l : PLine) → text ≡ compact_text (line_wire (Some size) l)
    → IfOk r (λ t. rings_of t ≡ []) → IfOk r (λ t. core_of t ≡ text) → IfOk r (λ t. (g : ℕ) → SaysCarried t (p_chord g size l))
alone_made (Ok t) text size l is rings core = λ g. alone_says t g size l rings (core ∙ is)
alone_made (Err e) text size l is rings core = tt

pub around_made : {E : Type 0} (r : Result CarriedText E) (inner : CarriedText) (size : ℕ) (l : PLine) (before behind : List ℕ) → carries l ≡ true
    → SaysCarried inner (end_place l) → before ≡ print (line_before (Some size) l) → behind ≡ 44 ∷ print (line_behind l)
    → IfOk r (λ t. rings_of t ≡ (before, behind) ∷ rings_of inner) → IfOk r (λ t. core_of t ≡ core_of inner)
    → IfOk r (λ t. (g : ℕ) → SaysCarried t (p_chord g size l))
around_made (Ok t) inner size l before behind h said is_before is_behind rings core =
    λ g. around_says t inner g size l before behind rings core h said is_before is_behind
around_made (Err e) inner size l before behind h said is_before is_behind rings core = tt

module _ (p : Place) (c : Carried) (e : (out-Place p).chord ≡ Some c) where
  pub says_place : (t : CarriedText) → ((g : ℕ) → SaysCarried t (p_chord g (out-Carried c).size (p_line_view (out-Carried c).body.value)))
      → SaysCarried t (place_view p)
  says_place t h = subst (SaysCarried t) (sym (chord_place p c e)) (h (out-Place p).group)

  pub says_bytes : (t : CarriedText) → SaysCarried t (place_view p) → carried_bytes t ≡ compact_text (carried_wire (place_view p))
  says_bytes t h =
      subst (λ q. SaysCarried t q → carried_bytes t ≡ compact_text (carried_wire q)) (sym (chord_place p c e)) (says_all (rings_of t) (core_of t) _) h
