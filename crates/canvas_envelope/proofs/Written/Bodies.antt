-- The text of a body, of which a piece is shared.
use Rattle.std.proofs.Common.{◌≡◌, ◌∙◌, ℕ, List, [], ◌++◌, true, map, Option, Some, None, refl, ap, append_assoc}
use Rattle.std.specs.Prelude.{codes}
use Rattle.std.specs.Str.{IsUtf8}
use Rattle.std.proofs.lemmas.Str.{IsUtf8-append}
use Rattle.json.proofs.Printed.Utf8.{are_ascii, IsUtf8-are_ascii}
use Rattle.serde_json.proofs.OnLiterals.{serde_json_on_literals}
use Rattle.serde_json.specs.Data.{Data, null, array, object, Items, item, no_items}
use Rattle.serde_json.specs.Written.{compact_text}
use Rattle.canvas_task.specs.declared.arg.Arg.{Arg}
use Rattle.canvas_values.specs.Writing.{args_wire, kwargs_wire}
use Rattle.canvas_semantics.specs.PlacedLine.{PLine}
use Rattle.canvas_rewrite.specs.FrozenView.{p_tasks_of, p_task_view}
use Rattle.canvas_rewrite.specs.declared.frozen.FrozenTask.{FrozenTask}
use Rattle.canvas_rewrite.specs.declared.frozen.FrozenLine.{FrozenLine}
use Rattle.canvas_rewrite.specs.declared.frozen.Place.{Place}
use Rattle.canvas_envelope.specs.MessageView.{content, place_seen}
use Rattle.canvas_envelope.specs.Pieces.{embed_text, following_text, line_piece_text, list_text}
use Rattle.canvas_envelope.specs.Wire.{tasks_wire, carried_wire, list_or_null, body_wire}
use Rattle.canvas_envelope.specs.SharedTexts.{IsListed, backwards, carried_bytes}
use Rattle.canvas_envelope.specs.declared.nested_text.CarriedText.{CarriedText}
use Rattle.canvas_envelope.specs.declared.embed.Embed.{Embed}
use Rattle.canvas_envelope.specs.declared.pieces.LinePiece.{LinePiece}
use Rattle.canvas_envelope.specs.steps.Lines.{followed_by}
use Rattle.canvas_envelope.specs.steps.Texts.{args_text, embed_of, onward_text}
use Rattle.canvas_envelope.proofs.Written.KnownTexts.{embed_written}

-- ---- what follows

between : (o l c d : List ℕ) → o ++ (l ++ (c ++ d)) ≡ o ++ ((l ++ c) ++ d)
between o l c d = simp append_assoc

pub line_onward : (text : List ℕ) (ds : Items) → IsListed text ds
    → codes "\"chain\":[" ++ (text ++ codes "],\"chord\":null") ≡ onward_text (array ds) null
unfolding serde_json_on_literals
line_onward text ds listed =
    between (codes "\"chain\":[") text (codes "]") (codes ",\"chord\":null")
    ∙ ap (λ x. codes "\"chain\":[" ++ (x ++ codes ",\"chord\":null")) listed

pub body_onward : (text : List ℕ) (d : Data) → text ≡ compact_text d → codes "\"chain\":null,\"chord\":" ++ text ≡ onward_text null d
unfolding serde_json_on_literals
body_onward text d is = ap (λ x. codes "\"chain\":null,\"chord\":" ++ x) is

pub nothing_onward : codes "\"chain\":null,\"chord\":null" ≡ onward_text null null
unfolding serde_json_on_literals
nothing_onward = refl

-- ---- UTF-8

literal : (text : List ℕ) → are_ascii text ≡ true → IsUtf8 text
literal text low = IsUtf8-are_ascii text low

pub null_utf8 : IsUtf8 (codes "null")
null_utf8 = literal (codes "null") refl

pub nothing_utf8 : IsUtf8 (codes "\"chain\":null,\"chord\":null")
nothing_utf8 = literal (codes "\"chain\":null,\"chord\":null") refl

pub line_utf8 : (text : List ℕ) → IsUtf8 text → IsUtf8 (codes "\"chain\":[" ++ (text ++ codes "],\"chord\":null"))
line_utf8 text h =
    IsUtf8-append _ _ (literal (codes "\"chain\":[") refl) (IsUtf8-append _ _ h (literal (codes "],\"chord\":null") refl))

pub body_utf8 : (text : List ℕ) → IsUtf8 text → IsUtf8 (codes "\"chain\":null,\"chord\":" ++ text)
body_utf8 text h = IsUtf8-append _ _ (literal (codes "\"chain\":null,\"chord\":") refl) h

pub embed_utf8 : (e : Embed) → IsUtf8 (list_text e.links) → IsUtf8 (following_text e.following) → IsUtf8 (list_text e.errbacks) → IsUtf8 (embed_text e)
embed_utf8 e links following errbacks =
    IsUtf8-append _ _ (literal (codes ",{\"callbacks\":") refl) (IsUtf8-append _ _ links (IsUtf8-append _ _ (literal (codes ",") refl)
    (IsUtf8-append _ _ following (IsUtf8-append _ _ (literal (codes ",\"errbacks\":") refl) (IsUtf8-append _ _ errbacks (literal (codes "}]") refl))))))

-- ---- a body by its parts

abbrev pub callbacks : List FrozenTask → Data
callbacks ts = list_or_null (tasks_wire (p_tasks_of (map p_task_view ts)))

abbrev text_of : List Arg → List (List ℕ × Arg) → List FrozenTask → List FrozenTask → Data → Data → List ℕ
text_of args kwargs links errbacks chain chord =
    compact_text (array (item (array (args_wire args)) (item (object (kwargs_wire kwargs))
    (item (embed_of (callbacks links) chain chord (callbacks errbacks)) no_items))))

pub by_parts : (u : Option ℕ) (k : ℕ) (n : List ℕ) (x xs : List Arg) (w ws : List (List ℕ × Arg)) (l ls e es : List FrozenTask) (p : Option Place)
    (r : Option FrozenLine) (rest : PLine) (b : Embed) (front opened : List ℕ)
    → front ≡ opened ++ args_text (args_wire x) (kwargs_wire w) → opened ≡ []
    → list_text b.links ≡ compact_text (callbacks l) → list_text b.errbacks ≡ compact_text (callbacks e)
    → following_text b.following ≡ onward_text (list_or_null (backwards rest)) (carried_wire (place_seen p)) → x ≡ xs → w ≡ ws → l ≡ ls → e ≡ es
    → front ++ embed_text b ≡ compact_text (body_wire (followed_by (content u k n xs ws ls es p r) rest))
by_parts u k n x xs w ws l ls e es p r rest b front opened opening none links errbacks following xx ww ll ee =
    let chain = list_or_null (backwards rest) in
    let chord = carried_wire (place_seen p) in
    ap (λ f. f ++ embed_text b) (opening ∙ ap (λ o. o ++ args_text (args_wire x) (kwargs_wire w)) none)
    ∙ embed_written (args_wire x) (kwargs_wire w) (callbacks l) chain chord (callbacks e) b links following errbacks
    ∙ ap (λ y. text_of y w l e chain chord) xx ∙ ap (λ y. text_of xs y l e chain chord) ww ∙ ap (λ y. text_of xs ws y e chain chord) ll
    ∙ ap (λ y. text_of xs ws ls y chain chord) ee
