-- Words of a command, one after the other.
use Rattle.std.proofs.Common.{◌≡◌, ◌∙◌, ℕ, suc, ◌+◌, ◌<◌, List, [], ◌∷◌, ◌++◌, length, drop, get_or, refl, sym, ap, arith, append_assoc, append-nil, length-append, map, Option, Some, None}
use Rattle.std.proofs.lemmas.List.{get_or_default}
use Rattle.std.specs.Prelude.{Result, Ok, Err, OnOk, codes}
use Rattle.canvas_task.specs.Text.{Text}
use Rattle.canvas_task.proofs.Turns.{put_on}
use Rattle.canvas_celery.specs.Resp.{header_bytes, word_bytes, words_bytes, command_bytes}
use Rattle.canvas_celery.specs.Script.{database_words}

pub words-append : (us vs : List Text) → words_bytes (us ++ vs) ≡ words_bytes us ++ words_bytes vs
words-append [] vs = refl
words-append (a ∷ us) vs = ap (λ x. word_bytes a ++ x) (words-append us vs) ∙ sym (append_assoc (word_bytes a) (words_bytes us) (words_bytes vs))

-- some words, and some more
pub then_words : (o n m : Text) (us vs : List Text) → n ≡ o ++ words_bytes us → m ≡ n ++ words_bytes vs → m ≡ o ++ words_bytes (us ++ vs)
then_words o n m us vs first second =
    second ∙ (ap (λ x. x ++ words_bytes vs) first ∙ (append_assoc o (words_bytes us) (words_bytes vs) ∙ ap (λ x. o ++ x) (sym (words-append us vs))))

pub first_word : (o m w : Text) → m ≡ o ++ word_bytes w → m ≡ o ++ words_bytes (w ∷ [])
first_word o m w h = h ∙ ap (λ x. o ++ x) (sym (append-nil (word_bytes w)))

pub then_word : (o n m : Text) (us : List Text) (w : Text) → n ≡ o ++ words_bytes us → m ≡ n ++ word_bytes w → m ≡ o ++ words_bytes (us ++ w ∷ [])
then_word o n m us w first second = then_words o n m us (w ∷ []) first (first_word n m w second)

pub last_word : {E : Type 0} (r : Result (Unit {0}) E) (o n m : Text) (us : List Text) (w : Text) → n ≡ o ++ words_bytes us → OnOk r (m ≡ n ++ word_bytes w)
    → OnOk r (m ≡ o ++ words_bytes (us ++ w ∷ []))
last_word (Ok x) o n m us w first second = then_word o n m us w first second
last_word (Err x) o n m us w first second = tt

-- one word more of a list
pub next_word : {X : Type 0} (g : X → Text) (xs : List X) (i : ℕ) (x d : X) (out new old : Text) → i < length xs → get_or xs i d ≡ x
    → new ≡ out ++ word_bytes (g x)
    → out ++ words_bytes (map g (drop i xs)) ≡ old ++ words_bytes (map g xs) → new ++ words_bytes (map g (drop (i + 1) xs)) ≡ old ++ words_bytes (map g xs)
next_word g xs i x d out new old h is written kept =
    put_on (λ ys. words_bytes (map g ys)) xs i x (word_bytes (g x)) out new (old ++ words_bytes (map g xs)) h (sym is ∙ get_or_default xs i d x h) refl
    kept written

-- a whole command: its head, and then its words
pub command_of : (o n m : Text) (k : ℕ) (words : List Text) → k ≡ length words → n ≡ o ++ header_bytes (codes "*") k → m ≡ n ++ words_bytes words
    → m ≡ o ++ command_bytes words
command_of o n m k words count head rest =
    rest ∙ (ap (λ y. y ++ words_bytes words) (head ∙ ap (λ j. o ++ header_bytes (codes "*") j) count)
    ∙ append_assoc o (header_bytes (codes "*") (length words)) (words_bytes words))

-- some words, texts that are to come, and a last word
pub before_texts : (n m : Text) (us texts : List Text) (w : Text) → m ≡ n ++ words_bytes us
    → m ++ (words_bytes texts ++ word_bytes w) ≡ n ++ words_bytes ((us ++ texts) ++ w ∷ [])
before_texts n m us texts w h =
    sym (append_assoc m (words_bytes texts) (word_bytes w))
    ∙ then_word n (m ++ words_bytes texts) ((m ++ words_bytes texts) ++ word_bytes w) (us ++ texts) w
    (then_words n m (m ++ words_bytes texts) us texts h refl) refl

pub length-map : {X Y : Type 0} (g : X → Y) (xs : List X) → length (map g xs) ≡ length xs
length-map g [] = refl
length-map g (x ∷ xs) = ap (λ n. suc n) (length-map g xs)

-- ---- the script's command, by the parts in which it is written

pub five_lengths : (a b c d e : List Text) (w : Text) → length (((((a ++ b) ++ c) ++ d) ++ e) ++ w ∷ []) ≡ length a + length b + length c + length d + length e
    + 1
five_lengths a b c d e w =
    simp (length-append {A = Text}) (omega arith)

pub in_order : (a b c d e : List Text) (w : Text) → ((((a ++ b) ++ c) ++ d) ++ e) ++ w ∷ [] ≡ a ++ (b ++ (c ++ (d ++ (e ++ w ∷ []))))
in_order a b c d e w = simp append_assoc

-- the same word, said otherwise
pub word_as : (n m v w : Text) → v ≡ w → n ≡ m ++ word_bytes v → n ≡ m ++ word_bytes w
word_as n m v w e h = h ∙ ap (λ x. m ++ word_bytes x) e

pub ok_word_as : {E : Type 0} (r : Result (Unit {0}) E) (n m v w : Text) → v ≡ w → OnOk r (n ≡ m ++ word_bytes v) → OnOk r (n ≡ m ++ word_bytes w)
ok_word_as (Ok x) n m v w e h = word_as n m v w e h
ok_word_as (Err x) n m v w e h = tt

pub counted_all : (a b c d e : List Text) (w : Text) (s t : ℕ) → length a ≡ 5 → length b ≡ s → length c ≡ 3 → length d ≡ s → length e ≡ t
    → s + s + t + 9 ≡ length (((((a ++ b) ++ c) ++ d) ++ e) ++ w ∷ [])
counted_all a b c d e w s t ha hb hc hd he =
    let all : length (((((a ++ b) ++ c) ++ d) ++ e) ++ w ∷ []) ≡ length a + length b + length c + length d + length e + 1 = five_lengths a b c d e w in
    omega (arith, all, ha, hb, hc, hd, he)

pub three_settings : (e : Text) (d : Option (ℕ × ℕ)) → length (e ∷ database_words d) ≡ 3
three_settings e None = refl
three_settings e (Some d) = refl
