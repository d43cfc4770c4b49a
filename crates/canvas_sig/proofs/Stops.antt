-- Where the plain bytes of a text stop, seen sixteen at a time through the mask of those that stop it.
use Rattle.std.proofs.Common.{◌≡◌, ℕ, ◌+◌, ◌*◌, ◌%◌, ◌^◌, ◌<◌, ◌≤◌, ltb, Bool, true, false, not, cond, eqb, List, [], ◌∷◌, map, length, drop, replicate, refl, sym, ap, ap₂, ◌∙◌, arith, w8, Fits}
use Rattle.std.proofs.lemmas.Simd.{zip2_splat, zip2_of_maps, mask_l-mod, chunk-drop, length-chunk, leading_from_mask_l, trailing_mask_l}
use Rattle.std.proofs.lemmas.List.{length-map}
use Rattle.std.proofs.lemmas.List.Folds.{prefix_len-append}
use Rattle.std.proofs.lemmas.List.Sums.{prefix_len-le-length}
use Rattle.std.proofs.lemmas.Bool.{agree_below_at, eq-eqb, ne_eqb}
use Rattle.std.specs.List.{prefix_len}
use lib.Bits.{bit_or}
use lib.Count.{count_trailing_zeros}
use lib.Lanes.{chunk, zip2, mask_l, top, Each1}
use Rattle.json.specs.Run.{is_stop, is_plain}

-- ---- the three tests of a vector

abbrev hit : ℕ → ℕ → ℕ
hit a b = cond (eqb a b) 255 0

abbrev below : ℕ → ℕ → ℕ
below a b = cond (ltb a b) 255 0

abbrev lane : ℕ → ℕ
lane x = bit_or (bit_or (hit x 34) (hit x 92)) (below x 32)

each_byte : (v : List ℕ) → Each1 (Fits w8) v → map (top 7) (map lane v) ≡ map is_stop v
each_byte [] fits = refl
each_byte (x ∷ xs) fits = ap₂ (λ a b. a ∷ b) (agree_below_at (λ y. top 7 (lane y)) is_stop 256 x refl fits.0.fits) (each_byte xs fits.1)

pub stop_mask : (v : List ℕ) → length v ≡ 16 → Each1 (Fits w8) v
    → mask_l (map (top 7) (zip2 bit_or (zip2 bit_or (zip2 hit v (replicate 16 34)) (zip2 hit v (replicate 16 92))) (zip2 below v (replicate 16 32)))) % 2 ^ 64
    ≡ mask_l (map is_stop v)
stop_mask v long fits =
    let equal = zip2_of_maps bit_or _ _ v (zip2_splat hit v 16 34 long) (zip2_splat hit v 16 92 long) in
    let tests = zip2_of_maps bit_or _ _ v equal (zip2_splat below v 16 32 long) in
    ap (λ l. mask_l l % 2 ^ 64) (ap (map (top 7)) tests ∙ each_byte v fits) ∙ mask_l-mod (map is_stop v) 64 (omega (arith, length-map v is_stop))

-- ---- sixteen bytes of a text

none_stops : (b : Bool) (n l m : ℕ) → n ≤ l → cond (not b) (1 + n) 0 ≡ 1 + l → (n ≡ l → m ≡ 0) → cond b 1 0 + 2 * m ≡ 0
none_stops true n l m le e ih = let no : ⊥ = omega arith in absurd no
none_stops false n l m le e ih = let z = ih (omega arith) in omega arith

all_plain : (xs : List ℕ) → prefix_len is_plain xs ≡ length xs → mask_l (map is_stop xs) ≡ 0
all_plain [] e = refl
all_plain (x ∷ xs) e = none_stops (is_stop x) _ (length xs) _ (prefix_len-le-length is_plain xs) (omega arith) (all_plain xs)

split : (d : List ℕ) (i : ℕ) → prefix_len is_plain (drop i d)
    ≡ cond (eqb (prefix_len is_plain (chunk i 16 d)) (length (chunk i 16 d))) (length (chunk i 16 d) + prefix_len is_plain (drop (i + 16) d))
    (prefix_len is_plain (chunk i 16 d))
split d i = ap (prefix_len is_plain) (chunk-drop i 16 d) ∙ prefix_len-append is_plain (chunk i 16 d) (drop (i + 16) d)

pub run_through : (d : List ℕ) (i : ℕ) → i + 16 ≤ length d → mask_l (map is_stop (chunk i 16 d)) ≡ 0
    → prefix_len is_plain (drop i d) ≡ 16 + prefix_len is_plain (drop (i + 16) d)
run_through d i room none =
    let c = chunk i 16 d in
    split d i ∙ ap (λ b. cond b (length c + prefix_len is_plain (drop (i + 16) d)) (prefix_len is_plain c)) (eq-eqb _ _ (leading_from_mask_l is_stop c none))
    ∙ ap (λ k. k + prefix_len is_plain (drop (i + 16) d)) (length-chunk i 16 d room)

pub run_stops : (d : List ℕ) (i : ℕ) → i + 16 ≤ length d → 0 < mask_l (map is_stop (chunk i 16 d))
    → prefix_len is_plain (drop i d) ≡ count_trailing_zeros 64 (mask_l (map is_stop (chunk i 16 d)))
run_stops d i room some =
    let c = chunk i 16 d in
    split d i
    ∙ ap (λ b. cond b (length c + prefix_len is_plain (drop (i + 16) d)) (prefix_len is_plain c))
    (ne_eqb _ _ (λ (e : prefix_len is_plain c ≡ length c). omega (arith, all_plain c e)))
    ∙ sym (trailing_mask_l is_stop 64 c (omega (arith, length-chunk i 16 d room)) some)
