-- The text of a clean value reads as it.
use Rattle.std.proofs.Common.{◌≡◌, ℕ, pos, negsuc, List, Some, option_map, refl, sym, ap, ◌∙◌}
use Rattle.serde_json.specs.Data.{Num, unsigned, negative, float, Data, null, boolean, number, string, array, object, Items, no_items, item, Members, no_members, member, put}
use Rattle.serde_json.specs.Read.{number_of, of_json, of_items, of_members}
use Rattle.serde_json.specs.Written.{number_text, outline, items_outline, members_outline}
use Rattle.serde_json.proofs.Numbers.{number_of-decimal, number_of-negative}
use Rattle.canvas_sig.specs.steps.Clean.{IsWholeNumber, IsAbove, IsClean, AreClean, MembersClean, behind_members}

number_again : (n : Num) → IsWholeNumber n → number_of (number_text n) ≡ Some n
number_again (unsigned n) h = number_of-decimal n h
number_again (negative (pos n)) h = absurd h
number_again (negative (negsuc n)) h = number_of-negative n h
number_again (float x) h = absurd h

put_behind : (k : List ℕ) (d : Data) (ms : Members) → IsAbove k ms → put k d ms ≡ behind_members ms k d
put_behind k d no_members h = refl
put_behind k d (member l e ms) h = rw (h.0) (ap (member l e) (put_behind k d ms h.1))

-- all of them, after the earlier ones
abbrev join : Members → Members → Members
join no_members more = more
join (member k d ms) more = member k d (join ms more)

join_behind : (before : Members) (k : List ℕ) (d : Data) (more : Members) → join (behind_members before k d) more ≡ join before (member k d more)
join_behind no_members k d more = refl
join_behind (member l e ms) k d more = ap (member l e) (join_behind ms k d more)

join_nothing : (ms : Members) → join ms no_members ≡ ms
join_nothing no_members = refl
join_nothing (member k d ms) = ap (member k d) (join_nothing ms)

mutual
  pub read_again : (d : Data) → IsClean d → of_json (outline d) ≡ Some d
  read_again null h = refl
  read_again (boolean b) h = refl
  read_again (number n) h = ap (option_map number) (number_again n h)
  read_again (string s) h = refl
  read_again (array ds) h = ap (option_map array) (items_again ds h)
  read_again (object ms) h = ap (option_map object) (members_again no_members ms h)

  items_again : (ds : Items) → AreClean ds → of_items (items_outline ds) ≡ Some ds
  items_again no_items h = refl
  items_again (item d ds) h = rw (read_again d h.0, items_again ds h.1) refl

  members_again : (before ms : Members) → MembersClean before ms → of_members (members_outline ms) before ≡ Some (join before ms)
  members_again before no_members h = ap Some (sym (join_nothing before))
  members_again before (member k d ms) h =
      rw (read_again d h.1, put_behind k d before h.0) (members_again (behind_members before k d) ms h.2 ∙ ap Some (join_behind before k d ms))
