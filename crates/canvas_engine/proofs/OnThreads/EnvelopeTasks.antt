-- The header `id` of an envelope that opens names its message's task.
use Rattle.std.proofs.Common.{◌≡◌, ◌∙◌, ℕ, Bool, true, false, List, [], ◌∷◌, Option, Some, None, Result, Ok, Err, refl, sym, ap}
use Rattle.std.specs.Prelude.{◌||◌, codes, is_none, if◌then◌else◌}
use Rattle.std.specs.Option.{option_and_then, unwrap_or}
use Rattle.std.proofs.lemmas.Bool.{or_parts}
use Rattle.serde_json.specs.Data.{Data, null}
use Rattle.canvas_values.specs.CanvasText.{json_of}
use Rattle.canvas_values.specs.Fields.{field}
use Rattle.canvas_envelope.specs.Content.{Content, number_of}
use Rattle.canvas_envelope.specs.EnvelopeContent.{json_in, content_in, content_said}
use Rattle.canvas_envelope.specs.EnvelopeFaults.{first_of, not_json, bad_id, not_version_2, bad_content_type, bad_body, bad_args, bad_embed, refusals, envelope_fault, Says}
use Rattle.canvas_envelope.specs.FrozenGrammar.{task_of}
use Rattle.canvas_envelope.specs.declared.envelope.Envelope.{Envelope}
use Rattle.canvas_envelope.specs.declared.fault.MessageFault.{MessageFault}
use Rattle.canvas_envelope.specs.declared.fault.MessageFault.TheVariants.{NotJson, NotVersion2, BadId, BadContentType, BadBody, BadArgs, BadEmbed}
use Rattle.canvas_task.specs.Text.{Text}
use Rattle.canvas_runs.specs.Book.{Book, message_known}
use Rattle.canvas_runs.specs.Worker.{known_one, read_envelope, opened}
use Rattle.canvas_runs.proofs.Envelopes.Readings.{reading_says}
use Rattle.canvas_engine.specs.Headline.{task_in}

-- what the book knows was read
known_read : (book : Book) (x : Result Content MessageFault) (c : Content) → known_one book x ≡ Some c → x ≡ Ok c
known_read book (Ok d) c e = go (message_known book d) e
  where
    go : (b : Bool) → (if b then Some d else None) ≡ Some c → ◌≡◌ {A = Result Content MessageFault} (Ok d) (Ok c)
    go true e = let same : d ≡ c = cc in ap Ok same
    go false e = absurd (cc)
known_read book (Err f) c e = absurd (cc)

-- no row before the first that holds
row_off : (b : Bool) (f : MessageFault) (rows : List (Bool × MessageFault)) → first_of ((b, f) ∷ rows) ≡ None → (b ≡ false) × (first_of rows ≡ None)
row_off true f rows e = absurd (cc)
row_off false f rows e = (refl, e)

some_there : {A : Type 0} (x : Option A) → is_none x ≡ false → (a : A) × (x ≡ Some a)
some_there None e = absurd (cc)
some_there (Some a) e = (a, refl)

-- of headers that are JSON and name a task
its_number : (h b : Data) (j : ℕ) → task_of (field (codes "id") h) ≡ Some j → number_of (content_in h b).own ≡ j
its_number h b j e = ap (λ x. unwrap_or x 0) e

-- the refusals from that of an identifier on, and those after it
abbrev behind_id : (p h b : Data) → List (Bool × MessageFault)
behind_id p h b = (bad_content_type p, BadContentType) ∷ (bad_body b, BadBody) ∷ (bad_args b, BadArgs) ∷ (bad_embed h b, BadEmbed) ∷ []

abbrev from_id : (p h b : Data) → List (Bool × MessageFault)
from_id p h b = (bad_id p h, BadId) ∷ behind_id p h b

named_by : (p h b : Text) (c : Content) → Says p h b c → option_and_then (λ d. task_of (field (codes "id") d)) (json_of h) ≡ Some (number_of c.own)
unfolding envelope_fault content_said
named_by p h b c (fault, said) =
    let json = row_off (not_json p || not_json h || not_json b) NotJson (refusals (json_in p) (json_in h) (json_in b)) fault in
    let version = row_off (not_version_2 (json_in h)) NotVersion2 (from_id (json_in p) (json_in h) (json_in b)) json.1 in
    let id = row_off (bad_id (json_in p) (json_in h)) BadId (behind_id (json_in p) (json_in h) (json_in b)) version.1 in
    let value = some_there (json_of h) (or_parts (not_json p) (not_json h) (or_parts (not_json p || not_json h) (not_json b) json.0).0).1 in
    let bad = or_parts _ _ (or_parts _ _ (or_parts _ _ id.0).0).0 in
    let number = some_there (task_of (field (codes "id") (json_in h))) bad.0 in
    let whole : json_in h ≡ value.0 = ap (λ x. unwrap_or x null) value.1 in
    ap (option_and_then (λ d. task_of (field (codes "id") d))) value.1
    ∙ (ap (λ d. task_of (field (codes "id") d)) (sym whole)
    ∙ (number.1 ∙ ap Some (sym (its_number (json_in h) (json_in b) number.0 number.1) ∙ ap (λ (d : Content). number_of d.own) said)))

pub opened_names : (book : Book) (e : Envelope) (c : Content) → opened book e ≡ Some c → task_in e ≡ Some (number_of c.own)
opened_names book e c opens =
    named_by e.properties e.headers e.body c (reading_says e.properties e.headers e.body c (known_read book (read_envelope e) c opens))
