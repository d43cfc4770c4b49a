-- The texts of light messages, by the pieces that they are written in.
use Rattle.std.proofs.Common.{◌≡◌, ◌∙◌, ℕ, zero, suc, ℤ, pos, negsuc, Bool, true, false, List, [], ◌∷◌, ◌++◌, ◌<◌, ◌≤◌, arith, Option, Some, None, Ok, Err, refl, sym, ap, subst, append_assoc}
use Rattle.std.specs.Prelude.{codes, decimal, Result, if◌then◌else◌}
use Rattle.std.specs.Fmt.{signed_decimal}
use Rattle.std.proofs.lemmas.Bool.Decides.{nat_tests}
use Rattle.json.specs.Print.{escape, escape_byte}
use Rattle.json.proofs.Printed.Strings.{escape_byte_plain}
use Rattle.serde_json.proofs.OnLiterals.{serde_json_on_literals}
use Rattle.serde_json.specs.Data.{Data, null, string, array, object, Items, no_items, item, Members, no_members, member}
use Rattle.serde_json.specs.Find.{of_integer}
use Rattle.serde_json.specs.Written.{compact_text, items_text, number_text}
use Rattle.uuid.specs.Text.{by_index, hex_digit, nibble, digit_place, is_hyphen_place, hyphen, lower, hyphenated_text}
use Rattle.uuid.proofs.TextLemmas.{nibble_small}
use Rattle.canvas_task.specs.Identifiers.{identifier, task_mark, group_mark, task_text, group_text}
use Rattle.canvas_envelope.specs.declared.embed.Embed.{Embed}
use Rattle.canvas_envelope.specs.Pieces.{embed_text, following_text, list_text}
use Rattle.canvas_envelope.specs.Wire.{frozen_wire, group_id, place_id}
use Rattle.canvas_envelope.specs.MessageView.{place_view}
use Rattle.canvas_envelope.proofs.Seen.{group_place, chord_place}
use Rattle.canvas_rewrite.specs.declared.frozen.Place.{Place, out-Place}
use Rattle.canvas_rewrite.specs.declared.frozen.Carried.{Carried}
use Rattle.canvas_envelope.specs.steps.Texts.{Adds, name_text, size_text, flag_text, call_text, own_text, args_text, embed_of, onward_text}

-- ---- one piece after the other

pub then_ok : {E : Type 0} (r : Result (Unit {0}) E) (old mid new a b all : List ℕ) → mid ≡ old ++ a → Adds r mid new b → a ++ b ≡ all → Adds r old new all
then_ok (Ok x) old mid new a b all first second is = second ∙ ap (λ xs. xs ++ b) first ∙ append_assoc old a b ∙ ap (λ xs. old ++ xs) is
then_ok (Err e) old mid new a b all first second is = tt

pub then_text : (old mid new a b : List ℕ) → mid ≡ old ++ a → new ≡ mid ++ b → new ≡ old ++ (a ++ b)
then_text old mid new a b first second = second ∙ ap (λ xs. xs ++ b) first ∙ append_assoc old a b

pub alike_text : {E : Type 0} (r : Result (Unit {0}) E) (old new a b : List ℕ) → a ≡ b → Adds r old new a → Adds r old new b
alike_text r old new a b e h = let P : List ℕ → Type 0 = λ x. Adds r old new x in subst P e h

pub four : (a b c d : List ℕ) → ((a ++ b) ++ c) ++ d ≡ a ++ (b ++ (c ++ d))
four a b c d = simp append_assoc

-- ---- numbers, and texts with nothing to escape

pub number_is : (z : ℤ) → number_text (of_integer z) ≡ signed_decimal z
number_is (pos n) = refl
number_is (negsuc n) = refl

pub plain_alone : (x : ℕ) → 32 ≤ x → (x ≡ 34 → ⊥) → (x ≡ 92 → ⊥) → escape_byte x ≡ x ∷ []
plain_alone x low quote slash = escape_byte_plain x quote slash low

pub plain_next : (x : ℕ) (r : List ℕ) → escape_byte x ≡ x ∷ [] → escape r ≡ r → escape (x ∷ r) ≡ x ∷ r
plain_next x r own rest = ap (λ xs. xs ++ escape r) own ∙ ap (λ xs. x ∷ xs) rest

-- ---- identifiers

digit_plain : (d : ℕ) → d < 16 → escape_byte (hex_digit lower d) ≡ hex_digit lower d ∷ []
digit_plain d small = escape_byte_plain (hex_digit lower d) (λ e. grind (arith, nat_tests)) (λ e. grind (arith, nat_tests)) (grind (arith, nat_tests))

place_plain : (b : Bool) (x : ℕ) → escape_byte x ≡ x ∷ [] → escape_byte (if b then hyphen else x) ≡ (if b then hyphen else x) ∷ []
unfolding serde_json_on_literals
place_plain true x own = refl
place_plain false x own = own

escape_append : (xs ys : List ℕ) → escape (xs ++ ys) ≡ escape xs ++ escape ys
escape_append [] ys = refl
escape_append (x ∷ xs) ys = ap (λ l. escape_byte x ++ l) (escape_append xs ys) ∙ sym (append_assoc (escape_byte x) (escape xs) (escape ys))

all_plain : (n : ℕ) (f : ℕ → ℕ) → ((k : ℕ) → escape_byte (f k) ≡ f k ∷ []) → escape (by_index n f) ≡ by_index n f
unfolding by_index
all_plain zero f own = refl
all_plain (suc n) f own =
    escape_append (by_index n f) (f n ∷ []) ∙ ap (λ xs. xs ++ escape (f n ∷ [])) (all_plain n f own)
    ∙ ap (λ xs. by_index n f ++ xs) (plain_next (f n) [] (own n) refl)

hyphenated_plain : (xs : List ℕ) → escape (hyphenated_text lower xs) ≡ hyphenated_text lower xs
hyphenated_plain xs =
    all_plain 36 (λ k. if is_hyphen_place k then hyphen else hex_digit lower (nibble xs (digit_place k)))
    (λ k. place_plain (is_hyphen_place k) (hex_digit lower (nibble xs (digit_place k)))
    (digit_plain (nibble xs (digit_place k)) (nibble_small xs (digit_place k))))

pub task_plain : (k : ℕ) → escape (task_text k) ≡ task_text k
task_plain k = hyphenated_plain (identifier task_mark k)

pub group_plain : (g : ℕ) → escape (group_text g) ≡ group_text g
group_plain g = hyphenated_plain (identifier group_mark g)

-- ---- identifiers between quotes

abbrev quote : List ℕ
quote = 34 ∷ []

-- the group or chord of a place
pub placed : (p : Place) → place_id (place_view p) ≡ group_id (out-Place p).group
placed p = by_chord p (out-Place p).chord refl
  where
    by_chord : (p : Place) (o : Option Carried) → (out-Place p).chord ≡ o → place_id (place_view p) ≡ group_id (out-Place p).group
    by_chord p None e = ap place_id (group_place p e)
    by_chord p (Some c) e = ap place_id (chord_place p c e)

-- ---- whole texts

call : (o a s d f k p q i b t n e : List ℕ)
    → (((o ++ (a ++ (s ++ d))) ++ (f ++ k)) ++ ((p ++ q) ++ (i ++ (q ++ (b ++ t))))) ++ (n ++ e) ≡ o
    ++ (a ++ (s ++ (d ++ (f ++ (k ++ ((p ++ ((q ++ (i ++ q)) ++ b)) ++ (t ++ (n ++ e))))))))
call o a s d f k p q i b t n e = simp append_assoc

call_written : (size : ℕ) (args : Items) (flag : List ℕ) (kwargs : Members) (i name : List ℕ) → escape i ≡ i
    → ((size_text size args ++ (flag ++ compact_text (object kwargs))) ++ own_text i) ++ name_text name
    ≡ codes "{\"args\":[" ++ (items_text false args ++ (codes ",\"chord_size\":" ++ (decimal size ++ (flag ++ (compact_text (object kwargs)
    ++ ((codes ",\"options\":{\"task_id\":" ++ ((quote ++ (escape i ++ quote)) ++ codes "}")) ++ (codes ",\"subtask_type\":null,\"task\":" ++ (compact_text (string name) ++ codes "}"))))))))
call_written size args flag kwargs i name plain =
    call (codes "{\"args\":[") (items_text false args) (codes ",\"chord_size\":") (decimal size) flag (compact_text (object kwargs)) (codes ",\"options\":{\"task_id\":") quote i (codes "}")
    (codes ",\"subtask_type\":null,\"task\":") (compact_text (string name)) (codes "}")
    ∙ ap (λ x. codes "{\"args\":[" ++ (items_text false args ++ (codes ",\"chord_size\":" ++ (decimal size ++ (flag ++ (compact_text (object kwargs)
    ++ ((codes ",\"options\":{\"task_id\":" ++ ((quote ++ (x ++ quote)) ++ codes "}")) ++ (codes ",\"subtask_type\":null,\"task\":" ++ (compact_text (string name) ++ codes "}")))))))))
    (sym plain)

pub task_written : (size : ℕ) (args : Items) (immutable : Bool) (kwargs : Members) (i name : List ℕ) → escape i ≡ i
    → (call_text size args immutable kwargs ++ own_text i) ++ name_text name
    ≡ compact_text (frozen_wire (Some size) args immutable kwargs (member (codes "task_id") (string i) no_members) null name)
unfolding serde_json_on_literals
task_written size args true kwargs i name plain = call_written size args (flag_text true) kwargs i name plain
task_written size args false kwargs i name plain = call_written size args (flag_text false) kwargs i name plain

end : (o a s k p b m h n d c e r y z : List ℕ)
    → (o ++ (a ++ (s ++ k))) ++ (p ++ (b ++ (m ++ ((h ++ (n ++ (d ++ c))) ++ (e ++ (r ++ (y ++ z)))))))
    ≡ o ++ (a ++ (s ++ (k ++ ((p ++ (b ++ ((m ++ h) ++ (n ++ (d ++ (c ++ (e ++ (r ++ y)))))))) ++ z))))
end o a s k p b m h n d c e r y z = simp append_assoc

-- a body by its arguments and its end
pub embed_written : (args : Items) (kwargs : Members) (callbacks chain chord errbacks : Data) (e : Embed) → list_text e.links ≡ compact_text callbacks
    → following_text e.following ≡ onward_text chain chord → list_text e.errbacks ≡ compact_text errbacks
    → args_text args kwargs ++ embed_text e
    ≡ compact_text (array (item (array args) (item (object kwargs) (item (embed_of callbacks chain chord errbacks) no_items))))
unfolding serde_json_on_literals
embed_written args kwargs callbacks chain chord errbacks e links following errs =
    let text : List ℕ → List ℕ → List ℕ → List ℕ = λ l f r.
    args_text args kwargs ++ (codes ",{\"callbacks\":" ++ (l ++ (codes "," ++ (f ++ (codes ",\"errbacks\":" ++ (r ++ codes "}]")))))) in
    ap (λ l. text l (following_text e.following) (list_text e.errbacks)) links ∙ ap (λ f. text (compact_text callbacks) f (list_text e.errbacks)) following
    ∙ ap (text (compact_text callbacks) (onward_text chain chord)) errs
    ∙ end (codes "[[") (items_text false args) (codes ",") (compact_text (object kwargs)) (codes ",{\"callbacks\":") (compact_text callbacks) (codes ",")
    (codes "\"chain\":") (compact_text chain) (codes ",\"chord\":") (compact_text chord) (codes ",\"errbacks\":") (compact_text errbacks) (codes "}") (codes "]")
