-- The turns of a loop over a list, of which those from place i on are left.
use Rattle.std.proofs.Common.{◌≡◌, ◌∙◌, ◌+◌, ◌<◌, ◌≤◌, ℕ, List, [], ◌∷◌, ◌++◌, drop, length, get_or, ap, sym, append_assoc, append-nil}
use Rattle.std.proofs.lemmas.List.{drop_more, drop_all}

-- a turn's item is the first of those that are left
pub item_first : {X : Type 0} (xs : List X) (i : ℕ) (x : X) → i < length xs → x ≡ get_or xs i x → drop i xs ≡ x ∷ drop (i + 1) xs
item_first xs i x inside is = drop_more xs i x inside ∙ ap (λ w. w ∷ drop (i + 1) xs) (sym is)

-- what those that are left give, by the first of them, and where there is none
module _ {X Y : Type 0} (gives : List X → Y) (xs : List X) (i : ℕ) where
  pub by_first : (x : X) (found all : Y) → drop i xs ≡ x ∷ drop (i + 1) xs → gives (x ∷ drop (i + 1) xs) ≡ found → gives (drop i xs) ≡ all → found ≡ all
  by_first x found all is first kept = sym (ap gives is ∙ first) ∙ kept

  pub by_none : (found all : Y) → length xs ≤ i → gives [] ≡ found → gives (drop i xs) ≡ all → found ≡ all
  by_none found all past none kept = sym (ap gives (drop_all i xs past) ∙ none) ∙ kept

-- one part more is put, of what is to be put
pub put_part : {Y : Type 0} (before part after rest more all : List Y) → after ≡ before ++ part → rest ≡ part ++ more → before ++ rest ≡ all
    → after ++ more ≡ all
put_part before part after rest more all put split kept =
    ap (λ ys. ys ++ more) put ∙ append_assoc before part more ∙ ap (λ ys. before ++ ys) (sym split) ∙ kept

-- a loop that appends what each item gives: one turn more, and its end
module _ {X Y : Type 0} (gives : List X → List Y) (xs : List X) (i : ℕ) where
  pub put_on : (x : X) (here before after all : List Y) → i < length xs → x ≡ get_or xs i x
      → gives (x ∷ drop (i + 1) xs) ≡ here ++ gives (drop (i + 1) xs) → before ++ gives (drop i xs) ≡ all → after ≡ before ++ here
      → after ++ gives (drop (i + 1) xs) ≡ all
  put_on x here before after all inside is turn kept put =
      put_part before here after (gives (drop i xs)) (gives (drop (i + 1) xs)) all put (ap gives (item_first xs i x inside is) ∙ turn) kept

  -- if the loop's result has an end of its own, which is appended after the last turn
  pub put_end : (before after all : List Y) → length xs ≤ i → before ++ gives (drop i xs) ≡ all → after ≡ before ++ gives [] → after ≡ all
  put_end before after all past kept put = put ∙ ap (λ ys. before ++ ys) (sym (ap gives (drop_all i xs past))) ∙ kept

  pub put_all : (now all : List Y) → length xs ≤ i → gives [] ≡ [] → now ++ gives (drop i xs) ≡ all → now ≡ all
  put_all now all past none kept = put_end now now all past kept (sym (append-nil now) ∙ ap (λ ys. now ++ ys) (sym none))
