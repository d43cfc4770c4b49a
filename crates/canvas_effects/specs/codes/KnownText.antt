-- The text of a chord's body, if it is known; and that knowing it is a proposition.
use Rattle.std.specs.Prelude.{ℕ, List, [], ◌∷◌, Option, Some, None, IfSome}
use Rattle.std.specs.Coded.{codes}
use Rattle.std.specs.Global.{Global}
use Rattle.std.specs.declared.sync.Arc.{Arc}
use Rattle.canvas_envelope.specs.declared.nested_text.CarriedText.{CarriedText}
use Rattle.std.proofs.Props.{props}
use Rattle.canvas_semantics.specs.PlacedLine.{PPlace, p_nowhere, p_group, p_chord}
use Rattle.canvas_rewrite.specs.FrozenView.{PCarried}
use Rattle.canvas_effects.specs.Carrying.{carrying_place}
use Rattle.canvas_envelope.specs.SharedTexts.{SaysText, SaysRinged, SaysCarried, ringed, rings_of, core_of, inner_place}

abbrev pub Known : Type 0
Known = Option (Arc CarriedText Global)

-- a known text is that of the body
abbrev pub SaysBody : Known → PCarried → Type 0
SaysBody o c = IfSome o (λ t. SaysCarried t.value (carrying_place c))

says_text : (text : List ℕ) (p : PPlace) → IsProp (SaysText text p)
says_text text p_nowhere = Prim.hlevel props
says_text text (p_group g) = Prim.hlevel props
says_text text (p_chord g size body) = Prim.hlevel (props, codes)

says_ringed : (rings : List (List ℕ × List ℕ)) (core : List ℕ) (p : PPlace)
    → IsProp (SaysRinged rings core p)
says_ringed [] core p = says_text core p
says_ringed (r ∷ rs) core p =
    let outer = says_text (ringed (r ∷ rs) core) p in
    let inner = says_ringed rs core (inner_place p) in
    Prim.hlevel (props, outer, inner)

pub known_prop : (o : Known) (c : PCarried) → IsProp (SaysBody o c)
known_prop None c = Prim.hlevel props
known_prop (Some t) c = says_ringed (rings_of t.value) (core_of t.value) (carrying_place c)
