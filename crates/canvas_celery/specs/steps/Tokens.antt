-- The tokens of JSON that headers are written as.
use Rattle.std.specs.Prelude.{ℕ, List, ◌++◌, codes}
use Rattle.json.specs.Token.{Token}
use Rattle.serde_json.specs.Data.{null}
use Rattle.canvas_semantics.specs.PlacedLine.{PPlace, p_nowhere, p_group, p_chord}
use Rattle.canvas_envelope.specs.steps.Tokens.{named_tokens}
use Rattle.canvas_celery.specs.Signatures.{Naming, group_id, index_wire}

-- the members `group` and `group_index`
abbrev pub header_place : Naming → ℕ → PPlace → List Token
header_place n k p_nowhere =
    named_tokens (codes "group") null ++ named_tokens (codes "group_index") null
header_place n k (p_group g) =
    named_tokens (codes "group") (group_id n g)
    ++ named_tokens (codes "group_index") (index_wire n g k)
header_place n k (p_chord g size body) =
    named_tokens (codes "group") (group_id n g)
    ++ named_tokens (codes "group_index") (index_wire n g k)
