-- The line of a message, piece by piece.
use Rattle.std.proofs.Common.{◌≡◌, ◌∙◌, [], ◌++◌, Result, Ok, Err, Bool, true, false, refl, sym, ap, append_assoc}
use Rattle.std.specs.Prelude.{OnOk, codes, if◌then◌else◌}
use Rattle.std.specs.Str.{IsUtf8, is_utf8}
use Rattle.std.proofs.lemmas.Str.{is_utf8-from_IsUtf8, IsUtf8-from_is_utf8}
use Rattle.json.specs.Print.{quoted}
use Rattle.serde_json.proofs.OnLiterals.{serde_json_on_literals}
use Rattle.serde_json.specs.Data.{null, string}
use Rattle.serde_json.specs.Written.{compact_text}
use Rattle.canvas_task.specs.Text.{Text}
use Rattle.canvas_report.specs.MessageLines.{text_wire, message_wire}

pub a_text : (bytes : Text) → IsUtf8 bytes → quoted bytes ≡ compact_text (text_wire bytes)
a_text bytes h = sym (ap (λ b. compact_text (if b then string bytes else null)) (is_utf8-from_IsUtf8 bytes h))

not_true : (b : Bool) → (b ≡ true → ⊥) → b ≡ false
not_true true h = absurd (h refl)
not_true false h = refl

pub no_text : (bytes : Text) → (IsUtf8 bytes → ⊥) → codes "null" ≡ compact_text (text_wire bytes)
unfolding serde_json_on_literals
no_text bytes h =
    sym (ap (λ b. compact_text (if b then string bytes else null)) (not_true (is_utf8 bytes) (λ e. h (IsUtf8-from_is_utf8 bytes e))))

around : (o b h s p t e n : Text) → ((o ++ b) ++ (h ++ s)) ++ (p ++ t) ++ (e ++ n) ≡ (o ++ (b ++ (h ++ (s ++ (p ++ (t ++ e)))))) ++ n
around o b h s p t e n = simp append_assoc

pub whole_line : (properties headers body t0 t1 t2 t3 t4 : Text) → t0 ≡ []
    → t1 ≡ t0 ++ (codes "{\"body\":" ++ compact_text (text_wire body)) → t2 ≡ t1 ++ (codes ",\"headers\":" ++ compact_text (text_wire headers))
    → t3 ≡ t2 ++ (codes ",\"properties\":" ++ compact_text (text_wire properties)) → t4 ≡ t3 ++ codes "}\n"
    → t4 ≡ compact_text (message_wire properties headers body) ++ codes "\n"
unfolding serde_json_on_literals
whole_line properties headers body t0 t1 t2 t3 t4 e0 e1 e2 e3 e4 =
    let b : Text = codes "{\"body\":" ++ compact_text (text_wire body) in
    let h : Text = codes ",\"headers\":" ++ compact_text (text_wire headers) in
    let p : Text = codes ",\"properties\":" ++ compact_text (text_wire properties) in
    e4 ∙ ap (λ x. x ++ codes "}\n") (e3 ∙ ap (λ x. x ++ p) (e2 ∙ ap (λ x. x ++ h) (e1 ∙ ap (λ x. x ++ b) e0)))
    ∙ around (codes "{\"body\":") (compact_text (text_wire body)) (codes ",\"headers\":") (compact_text (text_wire headers)) (codes ",\"properties\":")
    (compact_text (text_wire properties)) (codes "}") (codes "\n")

pub text_ok : {E : Type 0} (r : Result (Unit {0}) E) (old new a b : Text) → a ≡ b → OnOk r (new ≡ old ++ a) → OnOk r (new ≡ old ++ b)
text_ok (Ok x) old new a b e h = h ∙ ap (λ x. old ++ x) e
text_ok (Err x) old new a b e h = tt
