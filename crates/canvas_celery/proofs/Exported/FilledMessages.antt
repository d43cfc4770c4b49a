-- The text of a message whose body has its values.
use Rattle.std.proofs.Common.{◌≡◌, ◌∙◌, List, Option, Some, None, sym, ap, subst}
use Rattle.std.specs.Prelude.{option_map, Result, Ok, Err, IfOk}
use Rattle.base64.specs.GeneralPurpose.{encode_of}
use Rattle.base64.specs.Engines.{standard}
use Rattle.json.specs.Json.{Json}
use Rattle.json.specs.Lex.{tokens}
use Rattle.json.specs.Print.{print}
use Rattle.json.specs.Token.{Token}
use Rattle.json.specs.Tree.{json_tokens}
use Rattle.serde_json.specs.Data.{Data, string}
use Rattle.serde_json.specs.Written.{compact_text, outline}
use Rattle.canvas_values.specs.steps.Tokens.{data_tokens}
use Rattle.canvas_task.specs.Text.{Text}
use Rattle.canvas_envelope.specs.Content.{Content}
use Rattle.canvas_celery.specs.Envelope.{body_wire, envelope_wire}
use Rattle.canvas_celery.specs.FilledStart.{filled_text, filled_message}
use Rattle.canvas_celery.specs.Places.{filled}
use Rattle.canvas_celery.specs.Signatures.{Naming}
use Rattle.canvas_celery.specs.steps.Filling.{AreGood, tokens_filled}
use Rattle.canvas_celery.proofs.Exported.FilledTokens.{filled_whole, json_good}

pub good_body : (d : Data) (bytes : Text) → tokens bytes ≡ data_tokens d → AreGood (tokens bytes)
good_body d bytes read = subst AreGood (sym read) (json_good (outline d))

printed : (o : Option Json) (ts : List Token) → option_map json_tokens o ≡ Some ts → option_map (λ j. print (json_tokens j)) o ≡ Some (print ts)
printed None ts e = cc
printed (Some j) ts e = let same : json_tokens j ≡ ts = cc in ap (λ us. Some (print us)) same

pub body_filled : (vs : List Json) (d : Data) (bytes text : Text) (ts : List Token) → tokens bytes ≡ data_tokens d
    → tokens_filled vs (tokens bytes) ≡ Some ts → text ≡ print ts → filled_text vs d ≡ Some text
body_filled vs d bytes text ts read made is =
    printed (filled vs (outline d)) ts (sym (filled_whole vs (outline d)) ∙ ap (tokens_filled vs) (sym read) ∙ made) ∙ ap (λ x. Some x) (sym is)

-- the same of a text that may not be there
pub body_made : {X E : Type 0} (f : X → Text) (r : Result X E) (vs : List Json) (d : Data) (bytes : Text) → tokens bytes ≡ data_tokens d
    → IfOk r (λ x. (ts : List Token) × (tokens_filled vs (tokens bytes) ≡ Some ts) × (f x ≡ print ts)) → IfOk r (λ x. filled_text vs d ≡ Some (f x))
body_made f (Ok x) vs d bytes read made = body_filled vs d bytes (f x) made.0 read made.1 made.2
body_made f (Err e) vs d bytes read made = tt

pub message_filled : (vs : List Json) (n : Naming) (queue : Text) (c : Content) (body text : Text) → filled_text vs (body_wire n c) ≡ Some body
    → text ≡ compact_text (envelope_wire n queue (string (encode_of standard body)) c) → filled_message vs n queue c ≡ Some text
message_filled vs n queue c body text made is =
    ap (option_map (λ b. compact_text (envelope_wire n queue (string (encode_of standard b)) c))) made ∙ ap (λ x. Some x) (sym is)
