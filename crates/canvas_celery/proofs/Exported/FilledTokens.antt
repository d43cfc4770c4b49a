-- Values filled into tokens are those of the JSON value that they are filled into.
use Rattle.std.proofs.Common.{◌≡◌, ◌<◌, ◌^◌, ◌∙◌, ℕ, zero, suc, true, List, [], ◌∷◌, ◌++◌, Option, Some, None, length, get_or, append_assoc, append-nil, refl, sym, ap, subst, arith, map, decimal}
use Rattle.std.specs.Prelude.{option_map, option_and_then, slice_get, if◌then◌else◌}
use Rattle.std.specs.Str.{bytes_eq}
use Rattle.std.specs.Str.Parse.{digits_value}
use Rattle.std.proofs.lemmas.Fmt.{decimal_is_IsNumeral}
use Rattle.std.proofs.lemmas.List.{length-map, get_or-map}
use Rattle.std.proofs.lemmas.Option.{slice_get-get_or}
use Rattle.std.proofs.lemmas.Slice.Eq.{bytes_eq-Decides}
use Rattle.json.specs.Json.{Json, null, boolean, number, string, array, object, Items, no_items, item, Members, no_members, member}
use Rattle.json.specs.Token as token
use Rattle.json.specs.Token.{Token}
use Rattle.json.specs.Tree.{json_tokens, items_tokens, members_tokens, HasNumbers, ItemsHaveNumbers}
use Rattle.json.specs.Value as view
use Rattle.canvas_celery.specs.Places.{number_in, value_at, told_by, filled, filled_items, filled_members}
use Rattle.canvas_celery.specs.Values.{listed}
use Rattle.canvas_celery.specs.steps.Filling.{AreGood, HaveNumbers, token_filled, tokens_filled}

-- ---- the value of a place

number_read : (k : ℕ) → k < 2 ^ 64 → number_in (decimal k) ≡ Some k
number_read k h =
    let value : digits_value 10 (decimal k) ≡ k = (decimal_is_IsNumeral k h).1 in
    let same : bytes_eq (decimal k) (decimal k) ≡ true = (bytes_eq-Decides (decimal k) (decimal k)).1 refl in
    ap (λ n. if bytes_eq (decimal k) (decimal n) then Some n else None) value ∙ ap (λ b. if b then Some k else None) same

pub value_read : {X : Type 0} (f : X → Json) (xs : List X) (text : List ℕ) (k : ℕ) (x d : X) → k < 2 ^ 64 → text ≡ 126 ∷ decimal k
    → k < length xs → x ≡ get_or xs k d → value_at (map f xs) text ≡ Some (f x)
value_read f xs text k x d small is inside got =
    ap (value_at (map f xs)) is ∙ ap (option_and_then (slice_get (map f xs))) (number_read k small)
    ∙ slice_get-get_or (map f xs) k (f d) (subst (λ n. k < n) (sym (length-map xs f)) inside)
    ∙ ap (λ y. Some y) (get_or-map f xs k d (f d) inside ∙ ap f (sym got))

pub number_kept : {X : Type 0} (f : X → Json) (xs : List X) (k : ℕ) (x d : X) → HaveNumbers (map f xs) → k < length xs → x ≡ get_or xs k d
    → HasNumbers (f x)
number_kept f [] k x d h inside got = absurd (omega (arith, inside))
number_kept f (y ∷ ys) zero x d h inside got = subst (λ z. HasNumbers (f z)) (sym got) h.0
number_kept f (y ∷ ys) (suc k) x d h inside got = number_kept f ys k x d h.1 (omega (arith, inside)) got

-- the items of a value
pub items_kept : (vs : List Json) → listed (view.items_of vs) ≡ vs
items_kept [] = refl
items_kept (v ∷ vs) = ap (λ xs. v ∷ xs) (items_kept vs)

pub numbers_kept : (vs : List Json) → ItemsHaveNumbers (view.items_of vs) → HaveNumbers vs
numbers_kept [] h = tt
numbers_kept (v ∷ vs) h = (h.0, numbers_kept vs h.1)

-- ---- one token after the other

-- what is done, and the tokens that are left, give all that is made
abbrev pub Left : List Json → (whole done left : List Token) → Type 0
Left vs whole done left = (ws : List Token) → tokens_filled vs left ≡ Some ws → tokens_filled vs whole ≡ Some (done ++ ws)

then_more : (vs : List Json) (t : Token) (rest us ws : List Token) → token_filled vs t ≡ Some us → tokens_filled vs rest ≡ Some ws
    → tokens_filled vs (t ∷ rest) ≡ Some (us ++ ws)
then_more vs t rest us ws made more =
    ap (option_and_then (λ xs. option_map (λ ys. xs ++ ys) (tokens_filled vs rest))) made ∙ ap (option_map (λ ys. us ++ ys)) more

pub next_token : (vs : List Json) (whole done after left rest us : List Token) (t : Token) → left ≡ t ∷ rest → token_filled vs t ≡ Some us
    → after ≡ done ++ us → Left vs whole done left → Left vs whole after rest
next_token vs whole done after left rest us t is made pushed had ws more =
    had (us ++ ws) (ap (tokens_filled vs) is ∙ then_more vs t rest us ws made more)
    ∙ ap (λ xs. Some xs) (sym (append_assoc done us ws) ∙ ap (λ xs. xs ++ ws) (sym pushed))

pub last_token : (vs : List Json) (whole done left : List Token) → left ≡ [] → Left vs whole done left → tokens_filled vs whole ≡ Some done
last_token vs whole done left none had = had [] (ap (tokens_filled vs) none) ∙ ap (λ xs. Some xs) (append-nil done)

-- ---- a value's tokens

abbrev fills_then : {X : Type 0} → (X → List Token) → Option X → Option (List Token) → Option (List Token)
fills_then f o p = option_and_then (λ x. option_map (λ ws. f x ++ ws) p) o

string_case : (o : Option Json) (p : Option (List Token))
    → option_and_then (λ us. option_map (λ ws. us ++ ws) p) (option_map json_tokens o) ≡ fills_then json_tokens o p
string_case None p = refl
string_case (Some j) p = refl

array_case : (o : Option Items) (p : Option (List Token))
    → option_map (λ ws. token.begin_array ∷ ws) (fills_then items_tokens o p) ≡ fills_then json_tokens (option_map array o) p
array_case None p = refl
array_case (Some js) None = refl
array_case (Some js) (Some ws) = refl

object_case : (o : Option Members) (p : Option (List Token))
    → option_map (λ ws. token.begin_object ∷ ws) (fills_then members_tokens o p) ≡ fills_then json_tokens (option_map object o) p
object_case None p = refl
object_case (Some ms) None = refl
object_case (Some ms) (Some ws) = refl

item_case : (o : Option Json) (q : Option Items) (p : Option (List Token))
    → fills_then json_tokens o (fills_then items_tokens q p) ≡ fills_then items_tokens (option_and_then (λ d. option_map (item d) q) o) p
item_case None q p = refl
item_case (Some d) None p = refl
item_case (Some d) (Some js) None = refl
item_case (Some d) (Some js) (Some ws) = ap (λ xs. Some xs) (sym (append_assoc (json_tokens d) (items_tokens js) ws))

member_case : (k : List ℕ) (o : Option Json) (q : Option Members) (p : Option (List Token))
    → option_map (λ ws. token.key k ∷ ws) (fills_then json_tokens o (fills_then members_tokens q p))
    ≡ fills_then members_tokens (option_and_then (λ d. option_map (member k d) q) o) p
member_case k None q p = refl
member_case k (Some d) None p = refl
member_case k (Some d) (Some ms) None = refl
member_case k (Some d) (Some ms) (Some ws) = ap (λ xs. Some (token.key k ∷ xs)) (sym (append_assoc (json_tokens d) (members_tokens ms) ws))

one_token : (t : Token) (p : Option (List Token)) → option_map (λ ws. (t ∷ []) ++ ws) p ≡ option_map (λ ws. t ∷ ws) p
one_token t p = refl

module _ (vs : List Json) where
  mutual
    value_filled : (j : Json) (rest : List Token) → tokens_filled vs (json_tokens j ++ rest) ≡ fills_then json_tokens (filled vs j) (tokens_filled vs rest)
    value_filled null rest = refl
    value_filled (boolean b) rest = refl
    value_filled (number s) rest = refl
    value_filled (string s) rest = string_case (told_by vs s) (tokens_filled vs rest)
    value_filled (array js) rest =
        ap (option_map (λ ws. token.begin_array ∷ ws)) (items_filled js rest) ∙ array_case (filled_items vs js) (tokens_filled vs rest)
    value_filled (object ms) rest =
        ap (option_map (λ ws. token.begin_object ∷ ws)) (members_filled ms rest) ∙ object_case (filled_members vs ms) (tokens_filled vs rest)

    items_filled : (js : Items) (rest : List Token)
        → tokens_filled vs (items_tokens js ++ rest) ≡ fills_then items_tokens (filled_items vs js) (tokens_filled vs rest)
    items_filled no_items rest = refl
    items_filled (item j js) rest =
        ap (tokens_filled vs) (append_assoc (json_tokens j) (items_tokens js) rest) ∙ value_filled j (items_tokens js ++ rest)
        ∙ ap (fills_then json_tokens (filled vs j)) (items_filled js rest) ∙ item_case (filled vs j) (filled_items vs js) (tokens_filled vs rest)

    members_filled : (ms : Members) (rest : List Token)
        → tokens_filled vs (members_tokens ms ++ rest) ≡ fills_then members_tokens (filled_members vs ms) (tokens_filled vs rest)
    members_filled no_members rest = refl
    members_filled (member k j ms) rest =
        ap (λ ts. option_map (λ ws. token.key k ∷ ws) (tokens_filled vs ts)) (append_assoc (json_tokens j) (members_tokens ms) rest)
        ∙ ap (option_map (λ ws. token.key k ∷ ws))
        (value_filled j (members_tokens ms ++ rest) ∙ ap (fills_then json_tokens (filled vs j)) (members_filled ms rest))
        ∙ member_case k (filled vs j) (filled_members vs ms) (tokens_filled vs rest)

whole : (o : Option Json) → fills_then json_tokens o (Some []) ≡ option_map json_tokens o
whole None = refl
whole (Some j) = ap (λ xs. Some xs) (append-nil (json_tokens j))

pub filled_whole : (vs : List Json) (j : Json) → tokens_filled vs (json_tokens j) ≡ option_map json_tokens (filled vs j)
filled_whole vs j = ap (tokens_filled vs) (sym (append-nil (json_tokens j))) ∙ value_filled vs j [] ∙ whole (filled vs j)

-- ---- no token is bad

good_both : (ts us : List Token) → AreGood ts → AreGood us → AreGood (ts ++ us)
good_both [] us h k = k
good_both (t ∷ ts) us h k = (h.0, good_both ts us h.1 k)

mutual
  pub json_good : (j : Json) → AreGood (json_tokens j)
  json_good null = (λ e. cc, tt)
  json_good (boolean b) = (λ e. cc, tt)
  json_good (number s) = (λ e. cc, tt)
  json_good (string s) = (λ e. cc, tt)
  json_good (array js) = (λ e. cc, items_good js)
  json_good (object ms) = (λ e. cc, members_good ms)

  items_good : (js : Items) → AreGood (items_tokens js)
  items_good no_items = (λ e. cc, tt)
  items_good (item j js) = good_both (json_tokens j) (items_tokens js) (json_good j) (items_good js)

  members_good : (ms : Members) → AreGood (members_tokens ms)
  members_good no_members = (λ e. cc, tt)
  members_good (member k j ms) = (λ e. cc, good_both (json_tokens j) (members_tokens ms) (json_good j) (members_good ms))
