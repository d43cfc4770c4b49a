-- The places of reading, as in the reader of `json`.
use Rattle.json.specs.declared.reader.Place as reader
use Rattle.json.specs.declared.reader.Place.TheVariants as kit
use Rattle.canvas_sig.specs.declared.place.Place.{Place}
use Rattle.canvas_sig.specs.declared.place.Place.TheVariants.{Fresh, AfterValue, AfterComma, Failed}

abbrev pub as_kit : Place → reader.Place
as_kit Fresh = kit.Fresh
as_kit AfterValue = kit.AfterValue
as_kit AfterComma = kit.AfterComma
as_kit Failed = kit.Failed
