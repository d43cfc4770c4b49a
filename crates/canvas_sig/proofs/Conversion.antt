-- What the grammar reads, as data: a value, and the turns of a list's and an object's loop.
use Rattle.std.proofs.Common.{◌≡◌, ℕ, zero, suc, ◌-◌, ◌<◌, ◌≤◌, List, [], ◌∷◌, length, Option, Some, None, option_map, option_and_then, refl, ap, ◌∙◌}
use Rattle.json.specs.Token.{Token}
use Rattle.json.specs.Json as json
use Rattle.json.specs.Json.{Parse, parse_map, after_end_array, read_key, items_step, members_step, items, members}
use Rattle.json.proofs.Grammar.{items_end, items_more, members_end, members_no_key, members_more}
use Rattle.serde_json.specs.Data.{Data, array, object, no_items, item, Members, no_members, put}
use Rattle.serde_json.specs.Read.{of_json, of_items, of_members, converted}

-- ---- parts of what was converted

abbrev pub given_or : {A : Type 0} → A → Option A → A
given_or a None = a
given_or a (Some b) = b

with_rest : {B : Type 0} (s r : List Token) (o : Option B) (b : B) → option_map {U = B × List Token} (λ y. (y, s)) o ≡ Some (b, r) → (s ≡ r) × (o ≡ Some b)
with_rest s r None b e = absurd (cc)
with_rest s r (Some y) b e = let pair = ap (given_or (y, s)) e in (ap (λ p. p.1) pair, ap (λ p. Some p.0) pair)

no_rest : {B : Type 0} (s : List Token) (o : Option B) → option_map {U = B × List Token} (λ y. (y, s)) o ≡ None → o ≡ None
no_rest s None e = refl
no_rest s (Some y) e = absurd (cc)

-- what was read, of what was converted
pub was_read : {A B : Type 0} (f : A → Option B) (o : Option (A × List Token)) (b : B) (r : List Token) → converted f o ≡ Some (b, r)
    → (a : A) × (o ≡ Some (a, r)) × (f a ≡ Some b)
was_read f None b r e = absurd (cc)
was_read f (Some p) b r e = let parts = with_rest p.1 r (f p.0) b e in (p.0, ap (λ s. Some (p.0, s)) parts.0, parts.1)

through : {A B C : Type 0} (f : A → Option B) (g : B → C) (s : List Token) (o : Option B)
    → option_map (λ c. (c, s)) (option_map g o) ≡ parse_map g (option_map (λ b. (b, s)) o)
through f g s None = refl
through f g s (Some b) = refl

pub of_array : (o : Option (json.Items × List Token)) → converted of_json (parse_map json.array o) ≡ parse_map array (converted of_items o)
of_array None = refl
of_array (Some p) = through of_items array p.1 (of_items p.0)

pub of_object : (o : Option (json.Members × List Token))
    → converted of_json (parse_map json.object o) ≡ parse_map object (converted (λ ms. of_members ms no_members) o)
of_object None = refl
of_object (Some p) = through (λ ms. of_members ms no_members) object p.1 (of_members p.0 no_members)

pub nothing_before : {A : Type 0} (o : Option (A × List Token)) → o ≡ parse_map (λ a. a) o
nothing_before None = refl
nothing_before (Some p) = refl

-- ---- a list's loop

first_item : (j : json.Json) (d : Data) → of_json j ≡ Some d → (o : Option (json.Items × List Token))
    → converted of_items (parse_map (json.item j) o) ≡ parse_map (item d) (converted of_items o)
first_item j d e None = refl
first_item j d e (Some p) = rw e (through of_items (item d) p.1 (of_items p.0))

bad_item : (j : json.Json) → of_json j ≡ None → (o : Option (json.Items × List Token)) → converted of_items (parse_map (json.item j) o) ≡ None
bad_item j e None = refl
bad_item j e (Some p) = rw e

module _ (p : Parse json.Json) where
  pub item_read : (n : ℕ) (ts r : List Token) (d : Data) → 0 < n → after_end_array ts ≡ None → converted of_json (p ts) ≡ Some (d, r)
      → converted of_items (items p n ts) ≡ parse_map (item d) (converted of_items (items p (n - 1) r))
  item_read n ts r d some going e =
      let read = was_read of_json (p ts) d r e in
      ap (converted of_items) (items_more p n ts r read.0 some going read.1) ∙ first_item read.0 d read.2 (items p (n - 1) r)

  no_items_read : (more : Parse json.Items) (o : Option (json.Json × List Token)) → converted of_json o ≡ None
      → converted of_items (option_and_then (λ q. parse_map (json.item q.0) (more q.1)) o) ≡ None
  no_items_read more None e = refl
  no_items_read more (Some q) e = bad_item q.0 (no_rest q.1 (of_json q.0) e) (more q.1)

  pub item_refused : (n : ℕ) (ts : List Token) → after_end_array ts ≡ None → converted of_json (p ts) ≡ None → converted of_items (items p n ts) ≡ None
  unfolding items
  item_refused zero ts going e = refl
  item_refused (suc n) ts going e = ap (λ o. converted of_items (items_step p (items p n) ts o)) going ∙ no_items_read (items p n) (p ts) e

  pub items_over : (n : ℕ) (ts r : List Token) → length ts ≤ n → after_end_array ts ≡ Some r → converted of_items (items p n ts) ≡ Some (no_items, r)
  items_over n ts r enough e = ap (converted of_items) (items_end p n ts r enough e)

-- ---- an object's loop, after the members that were already inserted

module _ (old : Members) where
  first_member : (k : List ℕ) (j : json.Json) (d : Data) → of_json j ≡ Some d → (o : Option (json.Members × List Token))
      → converted (λ ms. of_members ms old) (parse_map (json.member k j) o) ≡ converted (λ ms. of_members ms (put k d old)) o
  first_member k j d e None = refl
  first_member k j d e (Some p) = rw e

  bad_member : (k : List ℕ) (j : json.Json) → of_json j ≡ None → (o : Option (json.Members × List Token))
      → converted (λ ms. of_members ms old) (parse_map (json.member k j) o) ≡ None
  bad_member k j e None = refl
  bad_member k j e (Some p) = rw e

  module _ (p : Parse json.Json) where
    pub member_read : (n : ℕ) (k : List ℕ) (ts s r : List Token) (d : Data) → 0 < n → read_key ts ≡ Some (Some k, s) → converted of_json (p s) ≡ Some (d, r)
        → converted (λ ms. of_members ms old) (members p n ts) ≡ converted (λ ms. of_members ms (put k d old)) (members p (n - 1) r)
    member_read n k ts s r d some key e =
        let read = was_read of_json (p s) d r e in
        ap (converted (λ ms. of_members ms old)) (members_more p n k ts s r read.0 some key read.1) ∙ first_member k read.0 d read.2 (members p (n - 1) r)

    no_members_read : (k : List ℕ) (more : Parse json.Members) (o : Option (json.Json × List Token)) → converted of_json o ≡ None
        → converted (λ ms. of_members ms old) (option_and_then (λ q. parse_map (json.member k q.0) (more q.1)) o) ≡ None
    no_members_read k more None e = refl
    no_members_read k more (Some q) e = bad_member k q.0 (no_rest q.1 (of_json q.0) e) (more q.1)

    pub member_refused : (n : ℕ) (k : List ℕ) (ts s : List Token) → read_key ts ≡ Some (Some k, s) → converted of_json (p s) ≡ None
        → converted (λ ms. of_members ms old) (members p n ts) ≡ None
    unfolding members
    member_refused zero k ts s key e = refl
    member_refused (suc n) k ts s key e = rw key (no_members_read k (members p n) (p s) e)

    pub key_refused : (n : ℕ) (ts : List Token) → read_key ts ≡ None → converted (λ ms. of_members ms old) (members p n ts) ≡ None
    key_refused n ts e = ap (converted (λ ms. of_members ms old)) (members_no_key p n ts e)

    pub members_over : (n : ℕ) (ts r : List Token) → length ts ≤ n → read_key ts ≡ Some (None, r)
        → converted (λ ms. of_members ms old) (members p n ts) ≡ Some (old, r)
    members_over n ts r enough e = ap (converted (λ ms. of_members ms old)) (members_end p n ts r enough e)

-- ---- a whole text

abbrev pub whole : Option (json.Json × List Token) → Option Data
whole o = option_and_then of_json (option_and_then (λ p. json.if_last p.0 p.1) o)

pub whole_read : (o : Option (json.Json × List Token)) (d : Data) → converted of_json o ≡ Some (d, []) → whole o ≡ Some d
whole_read o d e = let read = was_read of_json o d [] e in ap whole read.1 ∙ read.2

pub more_left : (o : Option (json.Json × List Token)) (d : Data) (t : Token) (r : List Token) → converted of_json o ≡ Some (d, t ∷ r) → whole o ≡ None
more_left o d t r e = ap whole (was_read of_json o d (t ∷ r) e).1

pub whole_refused : (o : Option (json.Json × List Token)) → converted of_json o ≡ None → whole o ≡ None
whole_refused None e = refl
whole_refused (Some (j, [])) e = no_rest [] (of_json j) e
whole_refused (Some (j, t ∷ r)) e = refl
