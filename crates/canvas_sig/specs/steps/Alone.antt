-- The values of a single token.
use Rattle.std.specs.Prelude.{Option, Some, None, option_map}
use Rattle.json.specs.Token.{Token}
use Rattle.serde_json.specs.Data.{Data, null, boolean, number, string}
use Rattle.serde_json.specs.Read.{number_of}

-- the value of a single token, or None if it opens a value or is none
abbrev pub alone : Token → Option Data
alone (Token.string s) = Some (string s)
alone (Token.number s) = option_map number (number_of s)
alone (Token.boolean b) = Some (boolean b)
alone Token.null = Some null
alone t = None
