-- Values that read back as they were written: whole numbers of 64 bits, and members in the order of
-- their names.
use Rattle.std.specs.Prelude.{◌≡◌, ℕ, ◌<◌, ◌^◌, pos, negsuc, List}
use Rattle.std.specs.Ordering.{nat_cmp}
use Rattle.std.specs.declared.cmp.Ordering.TheVariants.{Greater}
use Rattle.std.specs.Cmp.Lexicographic.{slice_cmp}
use Rattle.serde_json.specs.Data.{Num, unsigned, negative, float, Data, null, boolean, number, string, array, object, Items, no_items, item, Members, no_members, member}

abbrev pub IsWholeNumber : Num → Type 0
IsWholeNumber (unsigned n) = n < 2 ^ 64
IsWholeNumber (negative (pos n)) = ⊥
IsWholeNumber (negative (negsuc n)) = n < 2 ^ 63
IsWholeNumber (float x) = ⊥

-- k is above each name
abbrev pub IsAbove : List ℕ → Members → Type 0
IsAbove k no_members = Unit {0}
IsAbove k (member l d ms) = (slice_cmp nat_cmp k l ≡ Greater) × IsAbove k ms

-- appends a member to the others
abbrev pub behind_members : Members → List ℕ → Data → Members
behind_members no_members k d = member k d no_members
behind_members (member l e ms) k d = member l e (behind_members ms k d)

abbrev mutual
  pub IsClean : Data → Type 0
  IsClean null = Unit {0}
  IsClean (boolean b) = Unit {0}
  IsClean (number n) = IsWholeNumber n
  IsClean (string s) = Unit {0}
  IsClean (array ds) = AreClean ds
  IsClean (object ms) = MembersClean no_members ms

  pub AreClean : Items → Type 0
  AreClean no_items = Unit {0}
  AreClean (item d ds) = IsClean d × AreClean ds

  -- after the earlier members, in their order
  pub MembersClean : Members → Members → Type 0
  MembersClean before no_members = Unit {0}
  MembersClean before (member k d ms) =
      IsAbove k before × IsClean d × MembersClean (behind_members before k d) ms
