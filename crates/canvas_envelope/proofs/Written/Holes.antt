-- The printed text before and after a value.
use Rattle.std.proofs.Common.{◌≡◌, ◌∙◌, ℕ, Bool, true, false, cond, List, [], ◌∷◌, ◌++◌, refl, sym, ap, ap₂, append_assoc}
use Rattle.json.specs.Token.{Token}
use Rattle.json.specs.Print.{begins, ends, print, print_from, separator, token_text}
use Rattle.serde_json.specs.Data.{Data, null, boolean, number, string, array, object, Items, no_items, item, Members, no_members, member}
use Rattle.serde_json.specs.Written.{compact_text}
use Rattle.serde_json.proofs.Texts.{print-outline}
use Rattle.canvas_values.specs.steps.Tokens.{data_tokens, rest_tokens, rest_members}

-- whether these tokens leave a value just ended
abbrev pub after : Bool → List Token → Bool
after s [] = s
after s (t ∷ ts) = after (ends t) ts

pub after_both : (s : Bool) (a b : List Token) → after s (a ++ b) ≡ after (after s a) b
after_both s [] b = refl
after_both s (t ∷ ts) b = after_both (ends t) ts b

regroup : (s t p q : List ℕ) → s ++ (t ++ (p ++ q)) ≡ (s ++ (t ++ p)) ++ q
regroup s t p q = simp append_assoc

print_both : (s : Bool) (a b : List Token) → print_from s (a ++ b) ≡ print_from s a ++ print_from (after s a) b
unfolding print_from
print_both s [] b = refl
print_both s (t ∷ ts) b =
    ap (λ x. separator s t ++ (token_text t ++ x)) (print_both (ends t) ts b)
    ∙ regroup (separator s t) (token_text t) (print_from (ends t) ts) (print_from (after (ends t) ts) b)

mutual
  value_ends : (s : Bool) (d : Data) → after s (data_tokens d) ≡ true
  value_ends s null = refl
  value_ends s (boolean b) = refl
  value_ends s (number n) = refl
  value_ends s (string x) = refl
  value_ends s (array ds) = items_end false ds
  value_ends s (object ms) = members_end false ms

  items_end : (s : Bool) (ds : Items) → after s (rest_tokens ds) ≡ true
  items_end s no_items = refl
  items_end s (item d ds) = after_both s (data_tokens d) (rest_tokens ds) ∙ items_end (after s (data_tokens d)) ds

  members_end : (s : Bool) (ms : Members) → after s (rest_members ms) ≡ true
  members_end s no_members = refl
  members_end s (member k d ms) = after_both false (data_tokens d) (rest_members ms) ∙ members_end (after false (data_tokens d)) ms

-- whether a value or a member begins
abbrev pub starts : List Token → Bool
starts [] = false
starts (t ∷ ts) = begins t

pub starts_both : (a b : List Token) → starts a ≡ true → starts (a ++ b) ≡ true
starts_both [] b h = absurd cc
starts_both (t ∷ ts) b h = h

comma_first : (b : List Token) → starts b ≡ true → print_from true b ≡ 44 ∷ print b
unfolding print_from
comma_first [] h = absurd cc
comma_first (t ∷ ts) h = ap (λ x. cond x (44 ∷ []) [] ++ (token_text t ++ print_from (ends t) ts)) h

pub text_around : (whole d : Data) (a b : List Token) → data_tokens whole ≡ a ++ (data_tokens d ++ b) → after false a ≡ false → starts b ≡ true
    → compact_text whole ≡ print a ++ (compact_text d ++ 44 ∷ print b)
text_around whole d a b is opens more =
    sym (print-outline whole) ∙ ap print is ∙ print_both false a (data_tokens d ++ b)
    ∙ ap (λ s. print a ++ print_from s (data_tokens d ++ b)) opens
    ∙ ap (λ x. print a ++ x)
    (print_both false (data_tokens d) b
    ∙ ap₂ (λ x y. x ++ y) (print-outline d) (ap (λ s. print_from s b) (value_ends false d) ∙ comma_first b more))
