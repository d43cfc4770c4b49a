-- The parts of a text around its last `=`.
use Rattle.std.proofs.Common.{◌≡◌, ℕ, zero, suc, ◌+◌, ◌-◌, ◌<◌, ◌≤◌, ⊎_elim, ◌∷◌, ◌++◌, length, get_or, take, drop, [], Bor, MatchOption, Option, Some, None, refl, ap, sym, ◌∙◌, arith, length-append, take-append-drop, eq-eqb, ne_eqb}
use Rattle.std.proofs.Math.Seq.{get_or-append-add, get_or-append_seam, take-append_seam}
use Rattle.std.proofs.lemmas.Bool.{cases_eq}
use Rattle.std.proofs.lemmas.Str.Pattern.{NoCharPasses-char, drop_at_char}
use Rattle.std.specs.Option.{option_map}
use Rattle.std.specs.Path.{rfind_below, rsplit_once}
use Rattle.std.specs.Str.Pattern.{RFindsChar}
use Rattle.canvas_task.specs.Text.{Text}
use Rattle.canvas_adapt.specs.StubTexts.{split_text}

-- no byte of a text is `=`
abbrev pub Lacks : Text → Type 0
Lacks text = (i : ℕ) → i < length text → get_or text i 0 ≡ 61 → ⊥

none_below : (text : Text) (n : ℕ) → ((i : ℕ) → i < n → get_or text i 0 ≡ 61 → ⊥)
    → rfind_below 61 text n ≡ None
none_below text zero h = refl
none_below text (suc n) h =
    rw (ne_eqb (get_or text n 0) 61 (h n (omega arith))) (none_below text n (λ i l. h i (omega arith)))

last_below : (text : Text) (k n : ℕ) → k < n → get_or text k 0 ≡ 61
    → ((i : ℕ) → k < i → i < n → get_or text i 0 ≡ 61 → ⊥) → rfind_below 61 text n ≡ Some k
last_below text k zero l at h = absurd (omega arith)
last_below text k (suc n) l at h = ⊎_elim
    (λ e. rw (eq-eqb (get_or text n 0) 61 (ap (λ i. get_or text i 0) (sym e) ∙ at)) (ap (λ i. Some i) (sym e)))
    (λ other. rw (ne_eqb (get_or text n 0) 61 (h n (omega arith) (omega arith)))
    (last_below text k n (omega arith) at (λ i a b. h i a (omega arith))))
    (cases_eq k n)

later : (name word : Text) → Lacks word → (i : ℕ) → length name < i → i < length (name ++ 61 ∷ word)
    → get_or (name ++ 61 ∷ word) i 0 ≡ 61 → ⊥
later name word last i more within at =
    let k = (i - length name) - 1 in
    let there : length name + suc k ≡ i = omega arith in
    last k (omega (arith, length-append name (61 ∷ word))) (sym (get_or-append-add name (61 ∷ word) (suc k) 0)
    ∙ ap (λ j. get_or (name ++ 61 ∷ word) j 0) there ∙ at)

-- a text has the parts around an `=` that none follows
pub split_back : (name word : Text) → Lacks word → split_text (name ++ 61 ∷ word) ≡ Some (name, word)
unfolding rsplit_once
split_back name word last =
    let text = name ++ 61 ∷ word in
    let found = last_below text (length name) (length text) (omega (arith, length-append name (61 ∷ word)))
    (get_or-append_seam name 61 word 0) (later name word last) in
    let first = take-append_seam name (61 ∷ word) in
    let second : drop (length name + 1) text ≡ word =
    ap (λ i. drop i text) {x = length name + 1} {y = suc (length name)} (omega arith) ∙ past name in
    rw found (λ i. Some (first i, second i))
  where
    past : (bs : Text) → drop (suc (length bs)) (bs ++ 61 ∷ word) ≡ word
    past [] = refl
    past (b ∷ bs) = past bs

-- what `rsplit_once` says, as the text's parts
pub split_or_not : (text : Text) (r : Option (Bor Text × Bor Text))
    → MatchOption r (RFindsChar 61 text None) (λ x. (i : ℕ) × (j : ℕ) × RFindsChar 61 text (Some (i, j))
    × (x.0.now ≡ take i text) × (x.1.now ≡ drop j text) × (i ≤ j) × (length x.0.now ≡ i)
    × (length x.1.now + j ≡ length text))
    → option_map (λ x. (x.0.now, x.1.now)) r ≡ split_text text
unfolding rsplit_once
split_or_not text None h = sym (ap (option_map (λ i. (take i text, drop (i + 1) text)))
    (none_below text (length text) (λ i l. NoCharPasses-char 61 text i h (omega arith) l)))
split_or_not text (Some x) h =
    let i = h.0 in
    let j = h.1 in
    let last : Lacks (drop j text) = λ k l. NoCharPasses-char 61 (drop j text) k h.2.0 (omega arith) l in
    let cut : text ≡ take i text ++ 61 ∷ drop j text = sym (take-append-drop i text)
    ∙ ap (λ l. take i text ++ l) (drop_at_char 61 text i j h.2.1 (omega arith)) in
    (λ t. Some (h.3 t, h.4 t)) ∙ sym (split_back (take i text) (drop j text) last) ∙ ap split_text (sym cut)
