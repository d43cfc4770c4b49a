-- The compact text of data whose texts are UTF-8 is UTF-8.
use Rattle.std.proofs.Common.{◌≡◌, ℕ, suc, List, [], ◌∷◌, Bool, true, false, refl, arith, pos}
use Rattle.std.specs.Prelude.{negsuc}
use Rattle.std.specs.Str.{IsUtf8}
use Rattle.std.proofs.lemmas.Fmt.{IsAscii-decimal}
use Rattle.std.proofs.lemmas.Str.{IsUtf8-append, IsUtf8-nil, IsUtf8-from_ascii}
use Rattle.json.specs.Print.{quoted}
use Rattle.json.proofs.Printed.Utf8.{are_ascii, IsUtf8-are_ascii, IsUtf8-quoted, IsUtf8-boolean}
use Rattle.serde_json.specs.Data.{Num, unsigned, negative, float, Data, null, boolean, number, string, array, object, Items, no_items, item, Members, no_members, member}
use Rattle.serde_json.specs.Written.{number_text, comma_if, compact_text, items_text, members_text}
use Rattle.canvas_sig.specs.steps.Clean.{IsWholeNumber, behind_members, IsClean, AreClean, MembersClean}

abbrev mutual
  pub IsUtf8Data : Data → Type 0
  IsUtf8Data null = Unit {0}
  IsUtf8Data (boolean b) = Unit {0}
  IsUtf8Data (number n) = Unit {0}
  IsUtf8Data (string s) = IsUtf8 s
  IsUtf8Data (array ds) = AreUtf8Items ds
  IsUtf8Data (object ms) = AreUtf8Members ms

  pub AreUtf8Items : Items → Type 0
  AreUtf8Items no_items = Unit {0}
  AreUtf8Items (item d ds) = IsUtf8Data d × AreUtf8Items ds

  pub AreUtf8Members : Members → Type 0
  AreUtf8Members no_members = Unit {0}
  AreUtf8Members (member k d ms) = IsUtf8 k × IsUtf8Data d × AreUtf8Members ms

-- one byte of ASCII in front
behind : (x : ℕ) (xs : List ℕ) → are_ascii (x ∷ []) ≡ true → IsUtf8 xs → IsUtf8 (x ∷ xs)
behind x xs low h = IsUtf8-append (x ∷ []) xs (IsUtf8-are_ascii (x ∷ []) low) h

number_utf8 : (n : Num) → IsWholeNumber n → IsUtf8 (number_text n)
number_utf8 (unsigned n) h = IsUtf8-from_ascii _ (IsAscii-decimal n h)
number_utf8 (negative (pos n)) h = elim h [ ]
number_utf8 (negative (negsuc n)) h = behind 45 _ refl (IsUtf8-from_ascii _ (IsAscii-decimal (suc n) (omega arith)))
number_utf8 (float x) h = elim h [ ]

comma_utf8 : (later : Bool) → IsUtf8 (comma_if later)
comma_utf8 true = IsUtf8-are_ascii (44 ∷ []) refl
comma_utf8 false = IsUtf8-nil

mutual
  pub compact_utf8 : (d : Data) → IsClean d → IsUtf8Data d → IsUtf8 (compact_text d)
  compact_utf8 null c h = IsUtf8-are_ascii _ refl
  compact_utf8 (boolean b) c h = IsUtf8-boolean b
  compact_utf8 (number n) c h = number_utf8 n c
  compact_utf8 (string s) c h = IsUtf8-quoted s h
  compact_utf8 (array ds) c h = behind 91 _ refl (items_utf8 false ds c h)
  compact_utf8 (object ms) c h = behind 123 _ refl (members_utf8 false no_members ms c h)

  items_utf8 : (later : Bool) (ds : Items) → AreClean ds → AreUtf8Items ds → IsUtf8 (items_text later ds)
  items_utf8 later no_items c h = IsUtf8-are_ascii (93 ∷ []) refl
  items_utf8 later (item d ds) c h =
      IsUtf8-append _ _ (comma_utf8 later) (IsUtf8-append _ _ (compact_utf8 d c.0 h.0) (items_utf8 true ds c.1 h.1))

  members_utf8 : (later : Bool) (before ms : Members) → MembersClean before ms → AreUtf8Members ms
      → IsUtf8 (members_text later ms)
  members_utf8 later before no_members c h = IsUtf8-are_ascii (125 ∷ []) refl
  members_utf8 later before (member k d ms) c h =
      IsUtf8-append _ _ (comma_utf8 later)
      (IsUtf8-append (quoted k) _ (IsUtf8-quoted k h.0)
      (behind 58 _ refl (IsUtf8-append _ _ (compact_utf8 d c.1 h.1)
      (members_utf8 true (behind_members before k d) ms c.2 h.2))))
