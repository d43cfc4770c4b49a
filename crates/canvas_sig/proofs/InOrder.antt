-- In a value that was read, each object has its members in the order of their names.
use Rattle.std.proofs.Common.{◌≡◌, ℕ, List, [], ◌∷◌, nat_cmp, Ordering, Less, Equal, Greater, Option, Some, None, refl, ap, subst, ◌∙◌}
use Rattle.std.specs.Prelude.{option_map, option_and_then, unwrap_or}
use Rattle.std.specs.Cmp.Lexicographic.{slice_cmp}
use Rattle.std.specs.Ordering.{ordering_reverse, match_ordering}
use Rattle.std.proofs.lemmas.Cmp.{nat_list_cmp_total}
use Rattle.json.specs.Json as json
use Rattle.json.specs.Lex.{tokens}
use Rattle.serde_json.specs.Data.{Data, null, boolean, number, string, array, object, Items, no_items, item, Members, no_members, member, put}
use Rattle.serde_json.specs.Find.{get_member}
use Rattle.serde_json.specs.Read.{number_of, of_json, of_items, of_members, read, max_depth}
use Rattle.canvas_values.specs.Fields.{field, items, as_list, listed}

-- k is below each name
abbrev pub IsBefore : List ℕ → Members → Type 0
IsBefore k no_members = Unit {0}
IsBefore k (member l d ms) = (slice_cmp nat_cmp k l ≡ Less) × IsBefore k ms

abbrev mutual
  pub IsSorted : Data → Type 0
  IsSorted null = Unit {0}
  IsSorted (boolean b) = Unit {0}
  IsSorted (number n) = Unit {0}
  IsSorted (string s) = Unit {0}
  IsSorted (array ds) = AreSorted ds
  IsSorted (object ms) = MembersSorted ms

  pub AreSorted : Items → Type 0
  AreSorted no_items = Unit {0}
  AreSorted (item d ds) = IsSorted d × AreSorted ds

  pub MembersSorted : Members → Type 0
  MembersSorted no_members = Unit {0}
  MembersSorted (member k d ms) = IsBefore k ms × IsSorted d × MembersSorted ms

-- ---- a member that is put in its place

pub before_all : (k l : List ℕ) (ms : Members) → slice_cmp nat_cmp k l ≡ Less → IsBefore l ms → IsBefore k ms
before_all k l no_members low h = tt
before_all k l (member j d ms) low h = (nat_list_cmp_total.trans k l j low h.0, before_all k l ms low h.1)

pub after_flip : (k l : List ℕ) → slice_cmp nat_cmp k l ≡ Greater → slice_cmp nat_cmp l k ≡ Less
after_flip k l h = nat_list_cmp_total.antisymm l k ∙ ap ordering_reverse h

before_placed : (j : List ℕ) (o : Ordering) (k l : List ℕ) (d e : Data) (ms : Members) → slice_cmp nat_cmp j k ≡ Less → IsBefore j (member l e ms)
    → IsBefore j (put k d ms)
    → IsBefore j (match_ordering o (member k d (member l e ms)) (member l d ms) (member l e (put k d ms)))
before_placed j Less k l d e ms low h more = (low, h)
before_placed j Equal k l d e ms low h more = h
before_placed j Greater k l d e ms low h more = (h.0, more)

pub before_put : (j k : List ℕ) (d : Data) (ms : Members) → slice_cmp nat_cmp j k ≡ Less → IsBefore j ms → IsBefore j (put k d ms)
before_put j k d no_members low h = (low, tt)
before_put j k d (member l e ms) low h = before_placed j (slice_cmp nat_cmp k l) k l d e ms low h (before_put j k d ms low h.1)

sorted_placed : (o : Ordering) (k l : List ℕ) (d e : Data) (ms : Members) → slice_cmp nat_cmp k l ≡ o → IsSorted d → MembersSorted (member l e ms)
    → MembersSorted (put k d ms)
    → MembersSorted (match_ordering o (member k d (member l e ms)) (member l d ms) (member l e (put k d ms)))
sorted_placed Less k l d e ms is sorted h more = ((is, before_all k l ms is h.0), sorted, h)
sorted_placed Equal k l d e ms is sorted h more = (h.0, sorted, h.2)
sorted_placed Greater k l d e ms is sorted h more = (before_put l k d ms (after_flip k l is) h.0, h.1, more)

sorted_put : (k : List ℕ) (d : Data) (ms : Members) → IsSorted d → MembersSorted ms → MembersSorted (put k d ms)
sorted_put k d no_members sorted h = (tt, sorted, tt)
sorted_put k d (member l e ms) sorted h = sorted_placed (slice_cmp nat_cmp k l) k l d e ms refl sorted h (sorted_put k d ms sorted h.2)

-- ---- values that were read

some_map : {A B : Type 0} (f : A → B) (o : Option A) (y : B) → option_map f o ≡ Some y → (x : A) × (o ≡ Some x) × (f x ≡ y)
some_map f None y h = absurd cc
some_map f (Some x) y h = (x, refl, cc)

some_then : {A B : Type 0} (f : A → Option B) (o : Option A) (y : B) → option_and_then f o ≡ Some y → (x : A) × (o ≡ Some x) × (f x ≡ Some y)
some_then f None y h = absurd cc
some_then f (Some x) y h = (x, refl, h)

same_some : {A : Type 0} (x y : A) → Some x ≡ Some y → x ≡ y
same_some x y h = cc

number_sorted : (s : List ℕ) (d : Data) → option_map number (number_of s) ≡ Some d → IsSorted d
number_sorted s d h =
    let found = some_map number (number_of s) d h in
    subst IsSorted found.2 tt

mutual
  json_sorted : (j : json.Json) (d : Data) → of_json j ≡ Some d → IsSorted d
  json_sorted json.null d h = subst IsSorted (same_some null d h) tt
  json_sorted (json.boolean b) d h = subst IsSorted (same_some (boolean b) d h) tt
  json_sorted (json.number s) d h = number_sorted s d h
  json_sorted (json.string s) d h = subst IsSorted (same_some (string s) d h) tt
  json_sorted (json.array js) d h =
      let found = some_map array (of_items js) d h in
      subst IsSorted found.2 (items_sorted js found.0 found.1)
  json_sorted (json.object ms) d h =
      let found = some_map object (of_members ms no_members) d h in
      subst IsSorted found.2 (members_sorted ms no_members found.0 tt found.1)

  items_sorted : (js : json.Items) (ds : Items) → of_items js ≡ Some ds → AreSorted ds
  items_sorted json.no_items ds h = subst AreSorted (same_some no_items ds h) tt
  items_sorted (json.item j js) ds h =
      let first = some_then (λ d. option_map (item d) (of_items js)) (of_json j) ds h in
      let more = some_map (item first.0) (of_items js) ds first.2 in
      subst AreSorted more.2 (json_sorted j first.0 first.1, items_sorted js more.0 more.1)

  members_sorted : (js : json.Members) (found ms : Members) → MembersSorted found → of_members js found ≡ Some ms → MembersSorted ms
  members_sorted json.no_members found ms h is = subst MembersSorted (same_some found ms is) h
  members_sorted (json.member k j js) found ms h is =
      let first = some_then (λ d. of_members js (put k d found)) (of_json j) ms is in
      members_sorted js (put k first.0 found) ms (sorted_put k first.0 found (json_sorted j first.0 first.1) h) first.2

pub read_sorted : (text : List ℕ) (d : Data) → read text ≡ Some d → IsSorted d
read_sorted text d h =
    let found = some_then of_json (option_and_then (λ p. json.if_last p.0 p.1) (json.value max_depth (tokens text))) d h in
    json_sorted found.0 d found.2

-- ---- the contents of the members

abbrev pub AllSorted : List Data → Type 0
AllSorted [] = Unit {0}
AllSorted (d ∷ ds) = IsSorted d × AllSorted ds

pub all_items : (ds : Items) → AreSorted ds → AllSorted (items ds)
all_items no_items h = tt
all_items (item d ds) h = (h.0, all_items ds h.1)

pub all_in_list : (d : Data) → IsSorted d → AllSorted (as_list d)
all_in_list null h = tt
all_in_list (boolean b) h = (tt, tt)
all_in_list (number n) h = (tt, tt)
all_in_list (string s) h = (tt, tt)
all_in_list (array ds) h = all_items ds h
all_in_list (object ms) h = (h, tt)

pub all_listed : (d : Data) → IsSorted d → AllSorted (listed d)
all_listed null h = tt
all_listed (boolean b) h = tt
all_listed (number n) h = tt
all_listed (string s) h = tt
all_listed (array ds) h = all_items ds h
all_listed (object ms) h = tt

either_sorted : (o : Ordering) (more : Option Data) (e : Data) → IsSorted e → IsSorted (unwrap_or more null)
    → IsSorted (unwrap_or (match_ordering o more (Some e) more) null)
either_sorted Less more e one rest = rest
either_sorted Equal more e one rest = one
either_sorted Greater more e one rest = rest

member_sorted : (k : List ℕ) (ms : Members) → MembersSorted ms → IsSorted (unwrap_or (get_member k ms) null)
member_sorted k no_members h = tt
member_sorted k (member l e ms) h = either_sorted (slice_cmp nat_cmp k l) (get_member k ms) e h.1 (member_sorted k ms h.2)

pub field_sorted : (k : List ℕ) (d : Data) → IsSorted d → IsSorted (field k d)
field_sorted k null h = tt
field_sorted k (boolean b) h = tt
field_sorted k (number n) h = tt
field_sorted k (string s) h = tt
field_sorted k (array ds) h = tt
field_sorted k (object ms) h = member_sorted k ms h
