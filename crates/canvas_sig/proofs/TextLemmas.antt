-- The first refusal of a text, and of the JSON value of one, from what reading gave.
use Rattle.std.proofs.Common.{◌≡◌, ◌≢◌, ◌≤◌, ℕ, suc, Bool, true, false, Option, Some, None, Result, Ok, Err, refl, sym, ap, ap₂, ◌∙◌, arith}
use Rattle.std.specs.Prelude.{if◌then◌else◌, length, nat_lt, IfOk, IfErr, MatchResult}
use Rattle.serde_json.specs.Data.{Data}
use Rattle.serde_json.specs.Read.{max_depth, read as read_json}
use Rattle.std.specs.Str.{is_utf8}
use Rattle.canvas_values.specs.declared.fault.SigFault.{SigFault}
use Rattle.canvas_values.specs.declared.fault.SigFault.TheVariants.{TooLarge, NotJson, Memory}
use Rattle.canvas_values.specs.CanvasText.{most_bytes, json_of, canvas_reading, json_canvas, text_reading}
use Rattle.canvas_values.specs.steps.Reading.{json_reading, tree_reading}
use Rattle.canvas_values.specs.Refusals.{signature_fault, tree_said}
use Rattle.canvas_task.specs.Text.{Text}
use Rattle.canvas_values.specs.LimitRefusals.{tree_fault}
use Rattle.canvas_values.specs.Answers.{◌>>=◌, ◌or_else◌, fault_if, judged, unless, Fails}
use Rattle.canvas_semantics.specs.Tree.{Tree}
use Rattle.canvas_values.specs.Writable.{IsCanvas}
use Rattle.serde_json.proofs.Nesting.{depth-read}
use Rattle.canvas_values.proofs.Depth.{fault_enough, tree_enough}
use Rattle.canvas_values.proofs.Law.{tree_judged}
use Rattle.canvas_values.proofs.Fits.{is_canvas as of_fits}
use Rattle.canvas_sig.proofs.Fitting.{fits_read}

judged_ok : {A : Type 0} (o : Option SigFault) (x t : A) → judged o x ≡ Ok t → (o ≡ None) × (x ≡ t)
judged_ok None x t h = (refl, cc)
judged_ok (Some e) x t h = absurd cc

judged_err : {A : Type 0} (o : Option SigFault) (x : A) (e : SigFault) → judged o x ≡ Err e → o ≡ Some e
judged_err None x e h = absurd cc
judged_err (Some f) x e h = let same : f ≡ e = cc in ap Some same

read_json_of : (b : Bool) (o : Option Data) (d : Data) → (if b then o else None) ≡ Some d → o ≡ Some d
read_json_of true o d h = h
read_json_of false o d h = absurd cc

-- the JSON of a text nests no deeper than the counter goes
signature_judged : (bytes : Text) (d : Data) → json_of bytes ≡ Some d → tree_reading (suc max_depth) d ≡ judged (signature_fault d) (tree_said d)
signature_judged bytes d json =
    let low = depth-read bytes d (read_json_of (is_utf8 bytes) (read_json bytes) d json) in
    tree_judged (suc max_depth) d ∙ ap₂ judged (fault_enough (suc max_depth) d (omega (arith, low))) (tree_enough (suc max_depth) d (omega (arith, low)))

-- if reading gave a tree, only the limits of a canvas may refuse it
limits_decide : (text : Text) (d : Data) (t : Tree) → json_of text ≡ Some d → tree_reading (suc max_depth) d ≡ Ok t
    → canvas_reading d ≡ judged (tree_fault t) t
limits_decide text d t json h =
    let p = judged_ok (signature_fault d) (tree_said d) t (sym (signature_judged text d json) ∙ h) in
    rw (p.0, p.1) refl

pub is_canvas : (text : Text) (d : Data) (t : Tree) → json_of text ≡ Some d → tree_reading (suc max_depth) d ≡ Ok t → tree_fault t ≡ None → IsCanvas t
is_canvas text d t json h limits =
    of_fits t (fits_read text (suc max_depth) d t (read_json_of (is_utf8 text) (read_json text) d json) h) limits

-- what the limits gave of what was read is what the value spells
pub limits_read : (text : Text) (d : Data) (t : Tree) (r : Result Tree SigFault) → json_of text ≡ Some d → tree_reading (suc max_depth) d ≡ Ok t
    → IfOk r (λ c. (tree_fault t ≡ None) × (c ≡ t)) → IfErr r (λ e. tree_fault t ≡ Some e)
    → MatchResult r (λ c. canvas_reading d ≡ Ok c) (λ e. e ≢ Memory → canvas_reading d ≡ Err e)
limits_read text d t (Ok c) json h ok err = limits_decide text d t json h ∙ ap (λ f. judged f t) ok.0 ∙ ap Ok (sym ok.1)
limits_read text d t (Err e) json h ok err = λ other. limits_decide text d t json h ∙ ap (λ f. judged f t) err

canvas_later : (d : Data) (e : SigFault) → signature_fault d ≡ Some e → canvas_reading d ≡ Err e
canvas_later d e h = ap (λ f. judged (f or_else tree_fault (tree_said d)) (tree_said d)) h

value_refused : (text : Text) (d : Data) (e : SigFault) → json_of text ≡ Some d → tree_reading (suc max_depth) d ≡ Err e → canvas_reading d ≡ Err e
value_refused text d e json h = canvas_later d e (judged_err (signature_fault d) (tree_said d) e (sym (signature_judged text d json) ∙ h))

pub fails_refused : (text : Text) (d : Data) (e : SigFault) → json_of text ≡ Some d → Fails e (tree_reading (suc max_depth) d) → e ≢ Memory
    → canvas_reading d ≡ Err e
fails_refused text d Memory json h other = absurd (other refl)
fails_refused text d e json h other = value_refused text d e json h

-- ---- texts

pub not_longer : (n m : ℕ) → n ≤ m → nat_lt m n ≡ false
not_longer n m h = grind (arith, h)

json_given : (o : Option Data) (d : Data) → json_reading o ≡ Ok d → o ≡ Some d
json_given None d h = absurd cc
json_given (Some x) d h = cc

-- the value that was parsed is that of the text
pub parsed : (text : Text) (d : Data) → json_reading (json_of text) ≡ Ok d → json_of text ≡ Some d
parsed text d h = json_given (json_of text) d h

short_text : (text : Text) → nat_lt most_bytes (length text) ≡ false → text_reading text ≡ json_canvas (json_of text)
short_text text short = ap (λ b. if b then Err TooLarge else json_canvas (json_of text)) short

pub too_large : (text : Text) → nat_lt most_bytes (length text) ≡ true → text_reading text ≡ Err TooLarge
too_large text large = ap (λ b. if b then Err TooLarge else json_canvas (json_of text)) large

-- what the value of a short text spells the text spells
pub text_says : (text : Text) (d : Data) (r : Result Tree SigFault) → nat_lt most_bytes (length text) ≡ false → json_of text ≡ Some d
    → MatchResult r (λ c. canvas_reading d ≡ Ok c) (λ e. e ≢ Memory → canvas_reading d ≡ Err e)
    → MatchResult r (λ c. text_reading text ≡ Ok c) (λ e. e ≢ Memory → text_reading text ≡ Err e)
text_says text d (Ok c) short json h = short_text text short ∙ ap json_canvas json ∙ h
text_says text d (Err e) short json h = λ other. short_text text short ∙ ap json_canvas json ∙ h other

json_refused : (o : Option Data) (e : SigFault) → Fails e (json_reading o) → e ≢ Memory → json_canvas o ≡ Err e
json_refused o Memory h other = absurd (other refl)
json_refused None e h other = let same : NotJson ≡ e = cc in ap Err same
json_refused (Some d) e h other = absurd cc

-- a short text that is no JSON
pub text_refused : (text : Text) (e : SigFault) → nat_lt most_bytes (length text) ≡ false → Fails e (json_reading (json_of text)) → e ≢ Memory
    → text_reading text ≡ Err e
text_refused text e short h other = short_text text short ∙ json_refused (json_of text) e h other

pub holds_at_memory : {A P : Type 0} (r : Result A SigFault) → P → IfErr r (λ e. e ≡ Memory → P)
holds_at_memory (Ok x) p = tt
holds_at_memory (Err e) p = λ is. p
