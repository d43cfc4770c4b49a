-- What `resp` writes reads back, and nothing else reads.
use Rattle.std.proofs.Common.{◌≡◌, ◌∙◌, ℕ, zero, suc, ◌+◌, ◌^◌, ◌<◌, ◌≤◌, ◌==◌, Bool, true, false, nat_eq, arith, List, [], ◌∷◌, ◌++◌, length, take, drop, Option, Some, None, refl, sym, ap, ap₂, subst, append_assoc, length-append}
use Rattle.std.specs.Prelude.{decimal, if◌then◌else◌}
use Rattle.std.specs.Char.{digit_value}
use Rattle.std.specs.Str.Parse.{AllDigits, digits_value}
use Rattle.std.specs.Cmp.Lexicographic.{pointwise, same_text}
use Rattle.std.proofs.Math.Nat.{le_refl}
use Rattle.std.proofs.Math.Seq.{drop-append_seam, take-append_seam}
use Rattle.std.proofs.lemmas.Bool.{eqb-true, eq-eqb}
use Rattle.std.proofs.lemmas.Cmp.{nat_list_eq_equiv}
use Rattle.std.proofs.lemmas.Fmt.{decimal_is_IsNumeral}
use Rattle.std.proofs.lemmas.List.{take-append-drop, length-take-le, length-drop}
use Rattle.canvas_task.specs.Text.{Text}
use Rattle.canvas_celery.specs.Resp.{header_bytes, word_bytes, words_bytes, command_bytes, resp}
use Rattle.canvas_celery.specs.Reading.{◌>>=◌, before_end, from_end, behind_end, number_in, read_header, read_word, read_words, read_command, read_within, read}

-- ---- what a step of reading says

if_some : {A : Type 0} (t : Bool) (o : Option A) (y : A) → (if t then o else None) ≡ Some y → (t ≡ true) × (o ≡ Some y)
if_some true o y h = (refl, h)
if_some false o y h = absurd cc

pub bound : {A B : Type 0} (o : Option A) (f : A → Option B) (y : B) → (o >>= f) ≡ Some y → (x : A) × (o ≡ Some x) × (f x ≡ Some y)
bound None f y h = absurd cc
bound (Some x) f y h = (x, refl, h)

-- ---- lines

tested : (d : ℕ) (t : Bool) → (d == 13) ≡ t → digit_value d < 10 → t ≡ false
tested d false e h = refl
tested d true e h = let no : digit_value 13 < 10 = subst (λ x. digit_value x < 10) (eqb-true d 13 e) h in absurd (omega arith)

ended : (ds more : Text) → AllDigits 10 ds → (before_end (ds ++ 13 ∷ more) ≡ ds) × (from_end (ds ++ 13 ∷ more) ≡ 13 ∷ more)
ended [] more h = (refl, refl)
ended (d ∷ ds) more h =
    let other : (d == 13) ≡ false = tested d (d == 13) refl h.0 in
    let rest = ended ds more h.1 in (
      ap (λ t. if t then [] else d ∷ before_end (ds ++ 13 ∷ more)) other
          ∙ ap (λ x. d ∷ x) rest.0,
      ap (λ t. if t then d ∷ (ds ++ 13 ∷ more) else from_end (ds ++ 13 ∷ more)) other ∙ rest.1,
    )

cut : (b : ℕ) (bs front back : Text) (t : Bool) → bs ≡ front ++ back → b ∷ bs ≡ (if t then [] else b ∷ front) ++ (if t then b ∷ bs else back)
cut b bs front back true h = refl
cut b bs front back false h = ap (λ x. b ∷ x) h

joined : (bs : Text) → bs ≡ before_end bs ++ from_end bs
joined [] = refl
joined (b ∷ bs) = cut b bs (before_end bs) (from_end bs) (b == 13) (joined bs)

end_was : (bs more : Text) → behind_end bs ≡ Some more → bs ≡ 13 ∷ 10 ∷ more
end_was [] more h = absurd cc
end_was (a ∷ []) more h = absurd cc
end_was (a ∷ b ∷ bs) more h =
    let first = if_some (a == 13) (if b == 10 then Some bs else None) more h in
    let second = if_some (b == 10) (Some bs) more first.1 in
    let is : a ≡ 13 = eqb-true a 13 first.0 in
    let so : b ≡ 10 = eqb-true b 10 second.0 in
    let rest : bs ≡ more = cc (second.1) in
    ap₂ (λ x y. x ∷ y ∷ bs) is so ∙ ap (λ x. 13 ∷ 10 ∷ x) rest

number_there : (n : ℕ) → n < 2 ^ 64 → number_in (decimal n) ≡ Some n
number_there n h =
    let value = (decimal_is_IsNumeral n h).1 in
    ap (λ v. if pointwise nat_eq (decimal v) (decimal n) then Some v else None) value
    ∙ ap (λ t. if t then Some n else None) (nat_list_eq_equiv.refl (decimal n))

number_was : (ds : Text) (n : ℕ) → number_in ds ≡ Some n → decimal n ≡ ds
number_was ds n h =
    let said = if_some (pointwise nat_eq (decimal (digits_value 10 ds)) ds) (Some (digits_value 10 ds)) n h in
    let value : digits_value 10 ds ≡ n = cc (said.1) in
    ap decimal (sym value) ∙ same_text (decimal (digits_value 10 ds)) ds (sym said.0)

header_reads : (mark n : ℕ) (more : Text) → n < 2 ^ 64 → read_header mark (mark ∷ (decimal n ++ 13 ∷ 10 ∷ more)) ≡ Some (n, more)
header_reads mark n more h =
    let bs : Text = decimal n ++ 13 ∷ 10 ∷ more in
    let line = ended (decimal n) (10 ∷ more) (decimal_is_IsNumeral n h).0.1 in
    let F : Bool → Text → Text → Option (ℕ × Text) = λ t ds rest. if t then (number_in ds >>= λ k. behind_end rest >>= λ m. Some (k, m)) else None in
    ap (λ t. F t (before_end bs) (from_end bs)) (eq-eqb mark mark refl)
    ∙ (ap₂ (λ ds rest. F true ds rest) line.0 line.1 ∙ ap (λ o. o >>= λ k. behind_end (13 ∷ 10 ∷ more) >>= λ m. Some (k, m)) (number_there n h))

header_was : (mark : ℕ) (bs : Text) (h : ℕ × Text) → read_header mark bs ≡ Some h → bs ≡ mark ∷ (decimal h.0 ++ 13 ∷ 10 ∷ h.1)
header_was mark [] h e = absurd cc
header_was mark (b ∷ bs) h e =
    let tried = if_some (b == mark) (number_in (before_end bs) >>= λ n. behind_end (from_end bs) >>= λ more. Some (n, more)) h e in
    let number = bound (number_in (before_end bs)) (λ n. behind_end (from_end bs) >>= λ more. Some (n, more)) h tried.1 in
    let rest = bound (behind_end (from_end bs)) (λ more. Some (number.0, more)) h number.2 in
    let is : (number.0, rest.0) ≡ h = cc (rest.2) in
    ap (λ x. x ∷ bs) (eqb-true b mark tried.0)
    ∙ (ap (λ x. mark ∷ x) (joined bs ∙ ap₂ (λ x y. x ++ y) (sym (number_was (before_end bs) number.0 number.1)) (end_was (from_end bs) rest.0 rest.1))
    ∙ ap (λ p. mark ∷ (decimal p.0 ++ 13 ∷ 10 ∷ p.1)) is)

header_split : (mark n : ℕ) (more : Text) → header_bytes (mark ∷ []) n ++ more ≡ mark ∷ (decimal n ++ 13 ∷ 10 ∷ more)
header_split mark n more = ap (λ x. mark ∷ x) (append_assoc (decimal n) (13 ∷ 10 ∷ []) more)

-- ---- words

word_split : (w more : Text) → word_bytes w ++ more ≡ 36 ∷ (decimal (length w) ++ 13 ∷ 10 ∷ (w ++ 13 ∷ 10 ∷ more))
word_split w more =
    append_assoc (header_bytes (36 ∷ []) (length w)) (w ++ 13 ∷ 10 ∷ []) more
    ∙ (header_split 36 (length w) ((w ++ 13 ∷ 10 ∷ []) ++ more) ∙ ap (λ x. 36 ∷ (decimal (length w) ++ 13 ∷ 10 ∷ x)) (append_assoc w (13 ∷ 10 ∷ []) more))

word_reads : (w more : Text) → length w < 2 ^ 64 → read_word (word_bytes w ++ more) ≡ Some (w, more)
word_reads w more h =
    ap read_word (word_split w more)
    ∙ (ap (λ o. o >>= λ p. behind_end (drop p.0 p.1) >>= λ m. Some (take p.0 p.1, m)) (header_reads 36 (length w) (w ++ 13 ∷ 10 ∷ more) h)
    ∙ ap₂ (λ d t. behind_end d >>= λ m. Some (t, m)) (drop-append_seam w (13 ∷ 10 ∷ more)) (take-append_seam w (13 ∷ 10 ∷ more)))

reaches : (n : ℕ) (bs more : Text) → drop n bs ≡ 13 ∷ 10 ∷ more → n ≤ length bs
reaches n bs more h = omega (arith, length-drop n bs, ap length h)

word_was : (bs : Text) (w : Text × Text) → read_word bs ≡ Some w → bs ≡ word_bytes w.0 ++ w.1
word_was bs w e =
    let head = bound (read_header 36 bs) (λ h. behind_end (drop h.0 h.1) >>= λ more. Some (take h.0 h.1, more)) w e in
    let n : ℕ = head.0.0 in
    let rest : Text = head.0.1 in
    let end = bound (behind_end (drop n rest)) (λ more. Some (take n rest, more)) w head.2 in
    let more : Text = end.0 in
    let is : (take n rest, more) ≡ w = cc (end.2) in
    let behind : drop n rest ≡ 13 ∷ 10 ∷ more = end_was (drop n rest) more end.1 in
    let enough : n ≤ length rest = reaches n rest more behind in
    let long : length (take n rest) ≡ n = length-take-le n rest enough in
    header_was 36 bs head.0 head.1
    ∙ (ap₂ (λ k r. 36 ∷ (decimal k ++ 13 ∷ 10 ∷ r)) (sym long) (sym (take-append-drop n rest) ∙ ap (λ x. take n rest ++ x) behind)
    ∙ (sym (word_split (take n rest) more) ∙ ap (λ p. word_bytes p.0 ++ p.1) is))

-- ---- commands

long_word : (w more : Text) → length w + length more + 1 ≤ length (word_bytes w ++ more)
long_word w more =
    omega (arith, ap length (word_split w more), length-append (decimal (length w)) (13 ∷ 10 ∷ (w ++ 13 ∷ 10 ∷ more)), length-append w (13 ∷ 10 ∷ more))

words_reads : (ws : List Text) (more : Text) → length (words_bytes ws) < 2 ^ 64 → read_words (length ws) (words_bytes ws ++ more) ≡ Some (ws, more)
words_reads [] more h = refl
words_reads (w ∷ ws) more h =
    let long : length w + length (words_bytes ws) + 1 ≤ length (word_bytes w ++ words_bytes ws) = long_word w (words_bytes ws) in
    ap (read_words (suc (length ws))) (append_assoc (word_bytes w) (words_bytes ws) more)
    ∙ (ap (λ o. o >>= λ p. read_words (length ws) p.1 >>= λ q. Some (p.0 ∷ q.0, q.1)) (word_reads w (words_bytes ws ++ more) (omega (arith, long)))
    ∙ ap (λ o. o >>= λ q. Some (w ∷ q.0, q.1)) (words_reads ws more (omega (arith, long))))

words_was : (n : ℕ) (bs : Text) (ws : List Text × Text) → read_words n bs ≡ Some ws → (bs ≡ words_bytes ws.0 ++ ws.1) × (length ws.0 ≡ n)
words_was zero bs ws e = let is : ([], bs) ≡ ws = cc (e) in (ap (λ p. words_bytes p.0 ++ p.1) is, ap (λ p. length p.0) (sym is))
words_was (suc n) bs ws e =
    let first = bound (read_word bs) (λ w. read_words n w.1 >>= λ q. Some (w.0 ∷ q.0, q.1)) ws e in
    let w : Text = first.0.0 in
    let rest : Text = first.0.1 in
    let others = bound (read_words n rest) (λ q. Some (w ∷ q.0, q.1)) ws first.2 in
    let is : (w ∷ others.0.0, others.0.1) ≡ ws = cc (others.2) in
    let so = words_was n rest others.0 others.1 in (
      word_was bs first.0 first.1
          ∙ (ap (λ x. word_bytes w ++ x) so.0 ∙ (sym (append_assoc (word_bytes w) (words_bytes others.0.0) others.0.1)
          ∙ ap (λ p. words_bytes p.0 ++ p.1) is)),
      ap (λ p. length p.0) (sym is) ∙ ap (λ k. suc k) so.1,
    )

pub many_bytes : (ws : List Text) → length ws ≤ length (words_bytes ws)
many_bytes [] = omega arith
many_bytes (w ∷ ws) = omega (arith, many_bytes ws, long_word w (words_bytes ws))

command_split : (c : List Text) (more : Text) → command_bytes c ++ more ≡ 42 ∷ (decimal (length c) ++ 13 ∷ 10 ∷ (words_bytes c ++ more))
command_split c more = append_assoc (header_bytes (42 ∷ []) (length c)) (words_bytes c) more ∙ header_split 42 (length c) (words_bytes c ++ more)

command_reads : (c : List Text) (more : Text) → length (command_bytes c) < 2 ^ 64 → read_command (command_bytes c ++ more) ≡ Some (c, more)
command_reads c more h =
    let long : length (command_bytes c) ≡ length (header_bytes (42 ∷ []) (length c)) + length (words_bytes c) = length-append
    (header_bytes (42 ∷ []) (length c)) (words_bytes c) in
    let few = many_bytes c in
    ap read_command (command_split c more)
    ∙ (ap (λ o. o >>= λ p. read_words p.0 p.1) (header_reads 42 (length c) (words_bytes c ++ more) (omega (arith, long, few, h)))
    ∙ words_reads c more (omega (arith, long, h)))

command_was : (bs : Text) (c : List Text × Text) → read_command bs ≡ Some c → bs ≡ command_bytes c.0 ++ c.1
command_was bs c e =
    let head = bound (read_header 42 bs) (λ h. read_words h.0 h.1) c e in
    let so = words_was head.0.0 head.0.1 c head.2 in
    header_was 42 bs head.0 head.1 ∙ (ap₂ (λ k r. 42 ∷ (decimal k ++ 13 ∷ 10 ∷ r)) (sym so.1) so.0 ∙ sym (command_split c.0 c.1))

commands_read : (n : ℕ) (cs : List (List Text)) → length (resp cs) ≤ n → length (resp cs) < 2 ^ 64 → read_within n (resp cs) ≡ Some cs
commands_read n [] le lt = refl
commands_read zero (c ∷ cs) le lt = absurd (omega arith)
commands_read (suc n) (c ∷ cs) le lt =
    let long : length (command_bytes c ++ resp cs) ≡ length (command_bytes c) + length (resp cs) = length-append (command_bytes c) (resp cs) in
    let some : 1 ≤ length (command_bytes c) = omega arith in
    ap (λ o. o >>= λ p. read_within n p.1 >>= λ ds. Some (p.0 ∷ ds)) (command_reads c (resp cs) (omega (arith, long, lt)))
    ∙ ap (λ o. o >>= λ ds. Some (c ∷ ds)) (commands_read n cs (omega (arith, long, some, le)) (omega (arith, long, lt)))

within_was : (n : ℕ) (bs : Text) (cs : List (List Text)) → read_within n bs ≡ Some cs → bs ≡ resp cs
within_was n [] cs e = let is : [] ≡ cs = cc (e) in ap resp is
within_was zero (b ∷ bs) cs e = absurd cc
within_was (suc n) (b ∷ bs) cs e =
    let first = bound (read_command (b ∷ bs)) (λ c. read_within n c.1 >>= λ ds. Some (c.0 ∷ ds)) cs e in
    let others = bound (read_within n first.0.1) (λ ds. Some (first.0.0 ∷ ds)) cs first.2 in
    let is : first.0.0 ∷ others.0 ≡ cs = cc (others.2) in
    command_was (b ∷ bs) first.0 first.1 ∙ (ap (λ x. command_bytes first.0.0 ++ x) (within_was n first.0.1 others.0 others.1) ∙ ap resp is)

pub read_back : (cs : List (List Text)) → length (resp cs) < 2 ^ 64 → read (resp cs) ≡ Some cs
read_back cs h = commands_read (length (resp cs)) cs (le_refl (length (resp cs))) h

pub nothing_else : (bs : Text) (cs : List (List Text)) → read bs ≡ Some cs → bs ≡ resp cs
nothing_else bs cs e = within_was (length bs) bs cs e
