-- Which messages are read back from their envelopes, and that an envelope of no texts is none's.
use Rattle.std.proofs.Common.{◌≡◌, ◌∙◌, ℕ, Bool, true, false, List, [], Option, Some, None, Ok, refl, sym, ap, ap₂, subst}
use Rattle.std.specs.Prelude.{◌&&◌, ◌||◌, not, if◌then◌else◌, is_none}
use Rattle.std.specs.Str.{IsUtf8, is_utf8}
use Rattle.std.proofs.lemmas.Str.{IsUtf8-from_is_utf8}
use Rattle.serde_json.specs.Data.{Data}
use Rattle.serde_json.specs.Read.{read}
use Rattle.serde_json.proofs.OnLiterals.{serde_json_on_literals}
use Rattle.canvas_envelope.specs.Content.{Content}
use Rattle.canvas_envelope.specs.EnvelopeFaults.{envelope_fault, Says, first_of, refusals, not_json, not_version_2, bad_id, bad_content_type, bad_body, bad_args, bad_embed}
use Rattle.canvas_envelope.specs.EnvelopeContent.{json_in, content_in, content_said}
use Rattle.canvas_envelope.specs.Fits.{fits}
use Rattle.canvas_envelope.specs.declared.envelope.Envelope.{Envelope}
use Rattle.canvas_envelope.specs.declared.fault.MessageFault.{MessageFault}
use Rattle.canvas_envelope.specs.declared.fault.MessageFault.TheVariants.{NotJson, NotVersion2, BadId, BadContentType, BadBody, BadArgs, BadEmbed}
use Rattle.canvas_codec.proofs.EnvelopeBack.{envelope_back}
use Rattle.canvas_codec.proofs.EnvelopeLaw.{envelope_judged}
use Rattle.canvas_runs.proofs.Envelopes.Readings.{reading_says, says_reading}
use Rattle.canvas_runs.specs.Worker.{sealed, read_envelope}
use Rattle.canvas_core.specs.EnvelopeWorker.{said, blank, is_sendable, envelope_of}

-- ---- the texts of an envelope that nothing refuses

not_first : (b : Bool) (e : MessageFault) (o : Option MessageFault) → (if b then Some e else o) ≡ None → (b ≡ false) × (o ≡ None)
not_first true e o h = absurd cc
not_first false e o h = (refl, h)

neither : (a b c : Bool) → (a || b || c) ≡ false → (a ≡ false) × ((b ≡ false) × (c ≡ false))
neither false false false h = (refl, (refl, refl))
neither true b c h = absurd cc
neither false true c h = absurd cc
neither false false true h = absurd cc

all_json : (p h b : List ℕ) → envelope_fault p h b ≡ None → (not_json p ≡ false) × ((not_json h ≡ false) × (not_json b ≡ false))
unfolding envelope_fault
all_json p h b none = neither (not_json p) (not_json h) (not_json b)
    (not_first (not_json p || not_json h || not_json b) NotJson (first_of (refusals (json_in p) (json_in h) (json_in b))) none).0

utf8_by : (b : Bool) (o : Option Data) → is_none (if b then o else None) ≡ false → b ≡ true
utf8_by true o h = refl
utf8_by false o h = absurd cc

utf8 : (text : List ℕ) → not_json text ≡ false → IsUtf8 text
utf8 text h = IsUtf8-from_is_utf8 text (utf8_by (is_utf8 text) (read text) h)

last_false : (a b : Bool) → (a || not b) ≡ false → b ≡ true
last_false a true h = refl
last_false true false h = absurd cc
last_false false false h = absurd cc

-- what an envelope says that nothing refuses
all_fits : (p h b : List ℕ) (c : Content) → Says p h b c → fits c ≡ true
unfolding envelope_fault content_said
all_fits p h b c says =
    let d : Data = json_in p in
    let e : Data = json_in h in
    let f : Data = json_in b in
    let after_json = (not_first (not_json p || not_json h || not_json b) NotJson (first_of (refusals d e f)) says.0).1 in
    let after_version = (not_first (not_version_2 e) NotVersion2 _ after_json).1 in
    let after_id = (not_first (bad_id d e) BadId _ after_version).1 in
    let after_type = (not_first (bad_content_type d) BadContentType _ after_id).1 in
    let after_body = (not_first (bad_body f) BadBody _ after_type).1 in
    let after_args = (not_first (bad_args f) BadArgs _ after_body).1 in
    let no_embed = (not_first (bad_embed e f) BadEmbed None after_args).0 in
    ap fits (sym says.1) ∙ last_false _ (fits (content_in e f)) no_embed

-- ---- messages

both : (a b : Bool) → (a && b) ≡ true → (a ≡ true) × (b ≡ true)
both true true h = (refl, refl)
both true false h = absurd cc
both false b h = absurd cc

none_is : {A : Type 0} (o : Option A) → is_none o ≡ true → o ≡ None
none_is None h = refl
none_is (Some x) h = absurd cc

pub sendable_back : (c : Content) → is_sendable c ≡ true → read_envelope (sealed c) ≡ Ok c
sendable_back c h =
    let parts = both (fits c) _ h in
    let json = all_json (sealed c).properties (sealed c).headers (sealed c).body (none_is _ parts.1) in
    sym (envelope_judged (sealed c).properties (sealed c).headers (sealed c).body)
    ∙ envelope_back c (sealed c).properties (sealed c).headers (sealed c).body parts.0 refl refl refl (utf8 _ json.0) (utf8 _ json.1.0) (utf8 _ json.1.1)

-- ---- no texts

nothing_read : read [] ≡ None
unfolding serde_json_on_literals
nothing_read = refl

no_text : (b : Bool) (o : Option Data) → o ≡ None → is_none (if b then o else None) ≡ true
no_text true o none = ap is_none none
no_text false o none = refl

never : (b : Bool) → b ≡ true → b ≡ false → ⊥
never true is wrong = absurd cc
never false is wrong = absurd cc

blank_is_none : (c : Content) → read_envelope blank ≡ Ok c → ⊥
blank_is_none c h = never (not_json []) (no_text (is_utf8 []) (read []) nothing_read) (all_json [] [] [] (reading_says [] [] [] c h).0).0

-- ---- the envelope of a content

envelope_by : (c : Content) (b : Bool) → is_sendable c ≡ b → read_envelope (envelope_of c) ≡ Ok (said (envelope_of c))
    → (envelope_of c ≡ sealed c) × (read_envelope (sealed c) ≡ Ok c)
envelope_by c true is h = (ap (λ b. if b then sealed c else blank) is, sendable_back c is)
envelope_by c false is h =
    let gone : envelope_of c ≡ blank = ap (λ b. if b then sealed c else blank) is in
    absurd (blank_is_none (said blank) (subst (λ e. read_envelope e ≡ Ok (said e)) gone h))

-- one that can be read is the content's, and reads as it
pub envelope_so : (c : Content) → read_envelope (envelope_of c) ≡ Ok (said (envelope_of c)) → (envelope_of c ≡ sealed c) × (read_envelope (sealed c) ≡ Ok c)
envelope_so c h = envelope_by c (is_sendable c) refl h

pub said_of : (e : Envelope) (c : Content) → read_envelope e ≡ Ok c → said e ≡ c
said_of e c h = (reading_says e.properties e.headers e.body c h).1

-- what was written for a message
pub written : (c : Content) (e : Envelope) → e ≡ sealed c → Says e.properties e.headers e.body c → (e ≡ envelope_of c) × (read_envelope e ≡ Ok (said e))
written c e is says =
    let ok = all_fits e.properties e.headers e.body c says in
    let none : envelope_fault (sealed c).properties (sealed c).headers (sealed c).body ≡ None =
    subst (λ x. envelope_fault x.properties x.headers x.body ≡ None) is says.0 in
    let sendable : is_sendable c ≡ true = rw (ok, none) refl in
    (is ∙ sym (ap (λ b. if b then sealed c else blank) sendable), says_reading e.properties e.headers e.body c says ∙ ap Ok (sym says.1))

pub written_texts : (c : Content) (e : Envelope) → e.properties ≡ (sealed c).properties → e.headers ≡ (sealed c).headers → e.body ≡ (sealed c).body
    → Says e.properties e.headers e.body c → (e ≡ envelope_of c) × (read_envelope e ≡ Ok (said e))
written_texts c e is_p is_h is_b says =
    written c e (ap (λ p. record { properties = p; headers = e.headers; body = e.body }) is_p
    ∙ ap₂ (λ h b. record { properties = (sealed c).properties; headers = h; body = b }) is_h is_b) says
