-- The start of a plan some of whose arguments are places, which have values. They are filled in in
-- the body of each message. No task's name can be mistaken for a place, and no identifier begins as
-- one does, so only arguments are places.
use Rattle.std.specs.Prelude.{◌≡◌, false, List, map, Option, Some, option_map}
use Rattle.std.specs.List.{All}
use Rattle.base64.specs.GeneralPurpose.{encode_of}
use Rattle.base64.specs.Engines.{standard}
use Rattle.json.specs.Json.{Json}
use Rattle.json.specs.Print.{print}
use Rattle.json.specs.Tree.{json_tokens}
use Rattle.serde_json.specs.Data.{Data, string}
use Rattle.serde_json.specs.Written.{compact_text, outline}
use Rattle.canvas_task.specs.Text.{Text}
use Rattle.canvas_semantics.specs.Line.{Line, names}
use Rattle.canvas_semantics.specs.PlacedLine.{bare}
use Rattle.canvas_envelope.specs.Content.{Content}
use Rattle.canvas_effects.specs.Effects.{first_messages}
use Rattle.canvas_celery.specs.Envelope.{body_wire, envelope_wire}
use Rattle.canvas_celery.specs.ExportView.{naming_of}
use Rattle.canvas_celery.specs.Places.{filled, is_marked}
use Rattle.canvas_celery.specs.Resp.{resp}
use Rattle.canvas_celery.specs.Setting.{Setting}
use Rattle.canvas_celery.specs.Signatures.{Naming}
use Rattle.canvas_celery.specs.Start.{start}
use Rattle.canvas_celery.specs.Starting.{starting}
use Rattle.canvas_celery.specs.Values.{AreValues}

-- a JSON value as a text, with a value in each place
abbrev pub filled_text : List Json → Data → Option Text
filled_text vs d = option_map (λ j. print (json_tokens j)) (filled vs (outline d))

-- like `message_text`, with another body
abbrev pub filled_message : List Json → Naming → (queue : Text) → Content → Option Text
filled_message vs n queue c =
    option_map (λ body. compact_text (envelope_wire n queue (string (encode_of standard body)) c))
    (filled_text vs (body_wire n c))

abbrev pub AreUnmarked : (names : List Text) → Type 0
AreUnmarked names = All (λ s. is_marked s ≡ false) names

pub record IsFilledStart (values run : Text) (s : Setting) (l : Line) (bytes : Text) : Type 0 where
  pub list : List Json
  pub listed : AreValues values list
  pub named : AreUnmarked (names l)
  pub texts : List Text
  pub filled : map (λ t. Some t) texts
      ≡ map (filled_message list (naming_of run l) s.queue) (first_messages l)
  pub starts : bytes ≡ resp (start run s (starting (bare l)) texts)
