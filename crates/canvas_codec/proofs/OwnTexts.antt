-- The parts of a letter's own text, and the properties and headers that are made of them.
use Rattle.std.proofs.Common.{◌≡◌, ◌∙◌, ℕ, List, [], ◌∷◌, ◌++◌, ◌<◌, ◌+◌, ◌-◌, length, take, drop, true, String, Global, Option, Some, None, refl, sym, ap, subst, arith, append_assoc}
use Rattle.std.proofs.Math.Seq.{drop-append_seam, take-append_seam}
use Rattle.std.proofs.lemmas.List.{length-append}
use Rattle.std.proofs.lemmas.Str.{IsUtf8-append, IsUtf8-drop}
use Rattle.std.specs.List.{slice_index}
use Rattle.std.specs.Prelude.{codes, string_bytes}
use Rattle.std.specs.Str.{IsUtf8, IsCharBoundary}
use Rattle.std.specs.String.{string_len}
use Rattle.json.proofs.Printed.Utf8.{are_ascii, IsUtf8-are_ascii, IsUtf8-quoted}
use Rattle.serde_json.proofs.OnLiterals.{serde_json_on_literals}
use Rattle.serde_json.specs.Data.{string}
use Rattle.serde_json.specs.Written.{compact_text}
use Rattle.uuid.specs.Text.{by_index}
use Rattle.canvas_task.specs.Identifiers.{task_text, group_text}
use Rattle.canvas_semantics.specs.PlacedLine.{PPlace, p_nowhere, p_group, p_chord}
use Rattle.canvas_envelope.specs.Content.{Content, call_of, number_of, place_of}
use Rattle.canvas_envelope.specs.Pieces.{headers_around, properties_around}
use Rattle.canvas_envelope.specs.Wire.{task_id, place_id, parent_id, headers_wire, properties_wire}
use Rattle.canvas_codec.proofs.Utf8Messages.{task_text_utf8, group_text_utf8}

first_part : (all xs ys : List ℕ) (n : ℕ) → n ≡ length xs → all ≡ xs ++ ys → take n all ≡ xs
first_part all xs ys n is both = ap (λ k. take k all) is ∙ ap (take (length xs)) both ∙ take-append_seam xs ys

last_part : (all xs ys : List ℕ) (n : ℕ) → n ≡ length xs → all ≡ xs ++ ys → drop n all ≡ ys
last_part all xs ys n is both = ap (λ k. drop k all) is ∙ ap (drop (length xs)) both ∙ drop-append_seam xs ys

middle_part : (all xs ys zs : List ℕ) (n m : ℕ) → n ≡ length xs → m ≡ length (xs ++ ys) → all ≡ (xs ++ ys) ++ zs
    → take (m - n) (drop n all) ≡ ys
middle_part all xs ys zs n m is next whole =
    let long = length-append xs ys in
    first_part (drop n all) ys zs (m - n) (omega (arith, is, next, long)) (last_part all xs (ys ++ zs) n is (whole ∙ append_assoc xs ys zs))

-- ---- the five parts of a letter's own text

front_apart : (f g i p n : List ℕ) → (((f ++ g) ++ i) ++ p) ++ n ≡ f ++ (((g ++ i) ++ p) ++ n)
front_apart f g i p n = simp append_assoc

after_group : (x i p n : List ℕ) → ((x ++ i) ++ p) ++ n ≡ x ++ ((i ++ p) ++ n)
after_group x i p n = simp append_assoc

-- a text with its parts, and where they end
pub record IsInParts (all f g i p n : List ℕ) (ends_f ends_g ends_i ends_p : ℕ) : Type 0 where
  pub whole : all ≡ (((f ++ g) ++ i) ++ p) ++ n
  pub front : ends_f ≡ length f
  pub group : ends_g ≡ length (f ++ g)
  pub id : ends_i ≡ length ((f ++ g) ++ i)
  pub parent : ends_p ≡ length (((f ++ g) ++ i) ++ p)

pub front_part : (all f g i p n : List ℕ) (w x y z : ℕ) → IsInParts all f g i p n w x y z → take w all ≡ f
front_part all f g i p n w x y z h = first_part all f _ w h.front (h.whole ∙ front_apart f g i p n)

pub group_part : (all f g i p n : List ℕ) (w x y z : ℕ) → IsInParts all f g i p n w x y z → take (x - w) (drop w all) ≡ g
group_part all f g i p n w x y z h = middle_part all f g _ w x h.front h.group (h.whole ∙ after_group (f ++ g) i p n)

pub id_part : (all f g i p n : List ℕ) (w x y z : ℕ) → IsInParts all f g i p n w x y z → take (y - x) (drop x all) ≡ i
id_part all f g i p n w x y z h = middle_part all (f ++ g) i _ x y h.group h.id (h.whole ∙ append_assoc ((f ++ g) ++ i) p n)

pub parent_part : (all f g i p n : List ℕ) (w x y z : ℕ) → IsInParts all f g i p n w x y z → take (z - y) (drop y all) ≡ p
parent_part all f g i p n w x y z h = middle_part all ((f ++ g) ++ i) p n y z h.id h.parent h.whole

pub name_part : (all f g i p n : List ℕ) (w x y z : ℕ) → IsInParts all f g i p n w x y z → drop z all ≡ n
name_part all f g i p n w x y z h = last_part all (((f ++ g) ++ i) ++ p) n z h.parent h.whole

-- ---- properties and headers

pub properties_said : (c : Content) → properties_around (compact_text (task_id (number_of c.own))) ≡ compact_text (properties_wire c)
unfolding serde_json_on_literals
properties_said c = refl

root_known : compact_text (task_id 1) ≡ codes "\"00000000-0000-8000-8000-000000000001\""
unfolding serde_json_on_literals by_index
root_known = refl

pub headers_said : (c : Content)
    → headers_around (compact_text (place_id (place_of c.own))) (compact_text (task_id (number_of c.own))) (compact_text (parent_id c.parent))
    (compact_text (string (call_of c.own).name)) ≡ compact_text (headers_wire c)
unfolding serde_json_on_literals
headers_said c =
    ap (λ root. codes "{\"group\":" ++ (compact_text (place_id (place_of c.own)) ++ (codes ",\"id\":" ++ (compact_text (task_id (number_of c.own))
    ++ (codes ",\"lang\":\"rs\",\"parent_id\":" ++ (compact_text (parent_id c.parent) ++ (codes ",\"root_id\":" ++ (root ++ (codes ",\"task\":"
    ++ (compact_text (string (call_of c.own).name) ++ codes "}")))))))))) (sym root_known)

pub headers_alike : (g h i j p q n m : List ℕ) → g ≡ h → i ≡ j → p ≡ q → n ≡ m → headers_around g i p n ≡ headers_around h j q m
headers_alike g h i j p q n m a b c d =
    ap (λ x. headers_around x i p n) a ∙ ap (λ x. headers_around h x p n) b ∙ ap (λ x. headers_around h j x n) c ∙ ap (headers_around h j q) d

-- ---- UTF-8

at_seam : (xs ys : List ℕ) (y : ℕ) → slice_index (xs ++ y ∷ ys) (length xs) ≡ y
at_seam [] ys y = refl
at_seam (x ∷ xs) ys y = at_seam xs ys y

-- a character begins where a part does that begins with one of ASCII
boundary : (xs ys : List ℕ) (y : ℕ) → y < 128 → IsCharBoundary (xs ++ y ∷ ys) (length xs)
boundary xs ys y low =
    (omega (arith, length-append xs (y ∷ ys)), λ inside high. let here = at_seam xs ys y in omega (arith, here, high, low))

-- what comes last is UTF-8 if the whole is, and it begins with one of ASCII
pub last_utf8 : (xs ys : List ℕ) (y : ℕ) → y < 128 → IsUtf8 (xs ++ y ∷ ys) → IsUtf8 (y ∷ ys)
last_utf8 xs ys y low utf8 = subst IsUtf8 (drop-append_seam xs (y ∷ ys)) (IsUtf8-drop (xs ++ y ∷ ys) (length xs) utf8 (boundary xs ys y low))

literal : (text : List ℕ) → are_ascii text ≡ true → IsUtf8 text
literal text low = IsUtf8-are_ascii text low

id_utf8 : (k : ℕ) → IsUtf8 (compact_text (task_id k))
id_utf8 k = IsUtf8-quoted (task_text k) (task_text_utf8 k)

parent_utf8 : (u : Option ℕ) → IsUtf8 (compact_text (parent_id u))
parent_utf8 None = literal (codes "null") refl
parent_utf8 (Some k) = id_utf8 k

place_utf8 : (p : PPlace) → IsUtf8 (compact_text (place_id p))
place_utf8 p_nowhere = literal (codes "null") refl
place_utf8 (p_group g) = IsUtf8-quoted (group_text g) (group_text_utf8 g)
place_utf8 (p_chord g size body) = IsUtf8-quoted (group_text g) (group_text_utf8 g)

around_id : (id : List ℕ) → IsUtf8 id → IsUtf8 (properties_around id)
around_id id h =
    IsUtf8-append _ _ (literal (codes "{\"content_encoding\":\"utf-8\",\"content_type\":\"application/json\",") refl)
    (IsUtf8-append _ _ (literal (codes "\"correlation_id\":") refl) (IsUtf8-append _ _ h (literal (codes "}") refl)))

around_names : (group id parent name : List ℕ) → IsUtf8 group → IsUtf8 id → IsUtf8 parent → IsUtf8 name
    → IsUtf8 (headers_around group id parent name)
around_names group id parent name g i p n =
    IsUtf8-append _ _ (literal (codes "{\"group\":") refl) (IsUtf8-append _ _ g (IsUtf8-append _ _ (literal (codes ",\"id\":") refl)
    (IsUtf8-append _ _ i (IsUtf8-append _ _ (literal (codes ",\"lang\":\"rs\",\"parent_id\":") refl) (IsUtf8-append _ _ p
    (IsUtf8-append _ _ (literal (codes ",\"root_id\":\"00000000-0000-8000-8000-000000000001\",\"task\":") refl)
    (IsUtf8-append _ _ n (literal (codes "}") refl))))))))

pub properties_utf8 : (c : Content) → IsUtf8 (compact_text (properties_wire c))
properties_utf8 c = subst IsUtf8 (properties_said c) (around_id _ (id_utf8 (number_of c.own)))

pub headers_utf8 : (c : Content) → IsUtf8 (compact_text (string (call_of c.own).name)) → IsUtf8 (compact_text (headers_wire c))
headers_utf8 c name =
    subst IsUtf8 (headers_said c) (around_names _ _ _ _ (place_utf8 (place_of c.own)) (id_utf8 (number_of c.own)) (parent_utf8 c.parent) name)

pub text_length : (t : String Global) (n : ℕ) → n ≡ string_len t → n ≡ length (string_bytes t)
text_length t n is = omega (arith, is, t.bytes.ok.0)
