-- The tokens that are still to come from a source.
use Rattle.std.specs.Prelude.{◌≡◌, ◌∷◌, List, Option, Some, None, IfSome, MatchOption, unwrap_or}
use Rattle.json.specs.Token.{Token}
use Rattle.json.specs.Json.{after_end_array}
use Rattle.json.specs.Reader.{tokens_at}
use Rattle.canvas_sig.specs.declared.place.Place.TheVariants.{Failed}
use Rattle.canvas_sig.specs.declared.source.Source.TheInside.{Inside}
use Rattle.canvas_sig.specs.steps.Place.{as_kit}
use Rattle.canvas_sig.specs.steps.Plain.{IsSettled}

abbrev pub source_view : Inside → List Token
source_view a = unwrap_or a.reader (tokens_at (as_kit a.place) a.rest.now)

pub record IsSource (a : Inside) : Type 0 where
  pub settled : IsSettled a.place a.rest.now
  pub handed : IfSome a.reader (λ _. a.place ≡ Failed)

-- the first of the tokens `old` is an item's, or None if it closes the array
abbrev pub Item : List Token → Option Token → List Token → Type 0
Item old r new =
    MatchOption r (after_end_array old ≡ Some new)
    (λ t. (after_end_array old ≡ None) × (old ≡ t ∷ new))
