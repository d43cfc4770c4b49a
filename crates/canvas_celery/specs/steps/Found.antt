-- The value that a look-up in an object found.
use Rattle.std.specs.Prelude.{Option, option_map, unwrap_or}
use Rattle.std.specs.Borrow.{Bor}
use Rattle.serde_json.specs.Data.{Data, null}
use Rattle.serde_json.specs.View.{view}
use Rattle.serde_json.specs.declared.value.Value.{Value}

abbrev pub value_at : Option (Bor Value) → Data
value_at o = unwrap_or (option_map (λ v. view v.now) o) null
