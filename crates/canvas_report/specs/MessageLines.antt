-- A message as a line of JSON (RFC 8259): the three texts of Celery's task message protocol,
-- version 2, each as a text; null for one that isn't UTF-8.
use Rattle.std.specs.Prelude.{if◌then◌else◌, List, ℕ, codes}
use Rattle.std.specs.Str.{is_utf8}
use Rattle.serde_json.specs.Data.{Data, null, string, object, no_members, member}

abbrev pub text_wire : List ℕ → Data
text_wire bytes = if is_utf8 bytes then string bytes else null

abbrev pub message_wire : (properties headers body : List ℕ) → Data
message_wire properties headers body =
    object (member (codes "body") (text_wire body)
    (member (codes "headers") (text_wire headers)
    (member (codes "properties") (text_wire properties) no_members)))
