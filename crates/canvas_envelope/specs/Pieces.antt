-- An envelope in a queue of one process: a letter has only what differs from message to message,
-- and these definitions add what is the same in each. Properties, headers and body are those of
-- Celery's task message protocol, version 2.
--     joined p         the envelope
--     embed_text e     the end of its body
use Rattle.std.specs.Prelude.{ℕ, ◌-◌, List, ◌++◌, take, drop, Option, Some, None, codes, string_bytes}
use Rattle.canvas_envelope.specs.SharedTexts.{carried_bytes, head_text}
use Rattle.canvas_envelope.specs.declared.embed.Embed.{Embed}
use Rattle.canvas_envelope.specs.declared.envelope.Envelope.{Envelope}
use Rattle.canvas_envelope.specs.declared.pieces.LinePiece.{LinePiece}
use Rattle.canvas_envelope.specs.declared.pieces.Piece.{Piece}
use Rattle.canvas_envelope.specs.declared.pieces.Piece.TheVariants as pieces
use Rattle.canvas_envelope.specs.declared.pieces.Pieces.{Pieces}
use Rattle.canvas_envelope.specs.declared.pieces.LetterTexts.{LetterTexts}
use Rattle.canvas_envelope.specs.declared.pieces.LetterTexts.TheVariants as texts

-- ---- the end of a body

-- the head, and a prefix of the text after it
abbrev pub line_piece_text : LinePiece → List ℕ
line_piece_text p = head_text p.text.value.head ++ take p.end (string_bytes p.text.value.own)

abbrev pub following_text : Option Piece → List ℕ
following_text None = codes "\"chain\":null,\"chord\":null"
following_text (Some (pieces.Line p)) =
    codes "\"chain\":[" ++ (line_piece_text p ++ codes "],\"chord\":null")
following_text (Some (pieces.Carried t)) =
    codes "\"chain\":null,\"chord\":" ++ carried_bytes t.value

abbrev pub list_text : Option (List ℕ) → List ℕ
list_text None = codes "null"
list_text (Some text) = text

abbrev pub embed_text : Embed → List ℕ
embed_text e =
    codes ",{\"callbacks\":" ++ (list_text e.links ++ (codes "," ++ (following_text e.following
    ++ (codes ",\"errbacks\":" ++ (list_text e.errbacks ++ codes "}]")))))

-- ---- properties and headers

abbrev pub properties_around : (id : List ℕ) → List ℕ
properties_around id =
    codes "{\"content_encoding\":\"utf-8\",\"content_type\":\"application/json\","
    ++ (codes "\"correlation_id\":" ++ (id ++ codes "}"))

abbrev pub headers_around : (group id parent name : List ℕ) → List ℕ
headers_around group id parent name =
    codes "{\"group\":" ++ (group ++ (codes ",\"id\":" ++ (id
    ++ (codes ",\"lang\":\"rs\",\"parent_id\":" ++ (parent
    ++ (codes ",\"root_id\":\"00000000-0000-8000-8000-000000000001\",\"task\":" ++ (name
    ++ codes "}")))))))

-- ---- envelopes

-- the own text between two of its ends
abbrev pub own_between : (start end : ℕ) → Pieces → List ℕ
own_between start end p = take (end - start) (drop start p.own)

abbrev pub body_text : Pieces → List ℕ
body_text p = take p.front_end p.own ++ embed_text p.embed

abbrev pub joined : Pieces → Envelope
joined p =
    record {
      properties = properties_around (own_between p.group_end p.id_end p);
      headers =
          headers_around (own_between p.front_end p.group_end p)
          (own_between p.group_end p.id_end p) (own_between p.id_end p.parent_end p)
          (drop p.parent_end p.own);
      body = body_text p;
    }

abbrev pub envelope_seen : LetterTexts → Envelope
envelope_seen (texts.Whole e) = e
envelope_seen (texts.Pieced p) = joined p
