-- Lines of messages, one after the other, as they are printed.
use Rattle.std.proofs.Common.{◌≡◌, ◌∙◌, ℕ, ◌+◌, ◌<◌, List, [], ◌∷◌, ◌++◌, drop, length, get_or, append-nil, refl, sym, ap, chars, codes, flat_map, IsUtf8}
use Rattle.std.proofs.lemmas.Grind.{flat_map-append}
use Rattle.std.proofs.lemmas.List.{get_or_default}
use Rattle.std.proofs.lemmas.Str.{chars-append}
use Rattle.serde_json.specs.Written.{compact_text}
use Rattle.canvas_task.proofs.Turns.{put_on}
use Rattle.canvas_task.specs.Text.{Text}
use Rattle.canvas_envelope.specs.declared.envelope.Envelope.{Envelope}
use Rattle.canvas_report.specs.MessageLines.{message_wire}
use Rattle.canvas_answer.specs.Letters.{message_lines}
use Rattle.canvas_answer.specs.Printing.{printed, printed_char}

one_line : (e : Envelope) (es : List Envelope) → message_lines (e ∷ es) ≡ message_lines (e ∷ []) ++ message_lines es
one_line e es =
    ap (λ xs. xs ++ message_lines es) (sym (append-nil (compact_text (message_wire e.properties e.headers e.body) ++ codes "\n")))

printed-append : (xs ys : Text) → IsUtf8 xs → printed (xs ++ ys) ≡ printed xs ++ printed ys
printed-append xs ys u = ap (flat_map printed_char) (chars-append xs ys u) ∙ flat_map-append printed_char (chars xs) (chars ys)

-- one message's line more
pub next_line : (es : List Envelope) (i : ℕ) (e d : Envelope) (bytes all : Text) → i < length es → get_or es i d ≡ e → IsUtf8 (message_lines (e ∷ []))
    → bytes ++ printed (message_lines (drop i es)) ≡ all
    → (bytes ++ printed (message_lines (e ∷ []))) ++ printed (message_lines (drop (i + 1) es)) ≡ all
next_line es i e d bytes all h is utf8 kept =
    let later = message_lines (drop (i + 1) es) in
    put_on (λ xs. printed (message_lines xs)) es i e (printed (message_lines (e ∷ []))) bytes (bytes ++ printed (message_lines (e ∷ []))) all h
    (sym is ∙ get_or_default es i d e h)
    (ap printed (one_line e (drop (i + 1) es)) ∙ printed-append (message_lines (e ∷ [])) later utf8) kept refl
