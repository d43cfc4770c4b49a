use Rattle.std.proofs.Common.{◌≡◌, ◌/◌, ◌%◌, ◌^◌, ℕ, get_or, ap}
use Rattle.canvas_celery.specs.steps.Digits.{number_digits}
use Rattle.canvas_celery.proofs.Collected.Digits.{none_some, top_byte, byte, fits, second_fits, third_fits, two_fit, three_fit, four_fit, of_bytes}
use Rattle.canvas_celery.proofs.results.named.number_of.Goals as goal

pub overflow_mul-result : goal.overflow_mul-result
overflow_mul-result c = fits _ c.in_ok-first-in-len8.ensures.below

pub overflow_mul-result-in-len8 : goal.overflow_mul-result-in-len8
overflow_mul-result-in-len8 c = second_fits _ c.in_ok-second-in-len8.ensures.below

pub overflow_add-result : goal.overflow_add-result
overflow_add-result c = two_fit _ _ c.in_ok-first-in-len8.ensures.below c.in_ok-second-in-len8.ensures.below

pub overflow_mul-result-in-len8-2 : goal.overflow_mul-result-in-len8-2
overflow_mul-result-in-len8-2 c = third_fits _ c.in_ok-third-in-len8.ensures.below

pub overflow_add-result-in-len8 : goal.overflow_add-result-in-len8
overflow_add-result-in-len8 c =
    three_fit _ _ _ c.in_ok-first-in-len8.ensures.below c.in_ok-second-in-len8.ensures.below c.in_ok-third-in-len8.ensures.below

pub overflow_add-result-in-len8-2 : goal.overflow_add-result-in-len8-2
overflow_add-result-in-len8-2 c =
    four_fit _ _ _ _ c.in_ok-first-in-len8.ensures.below c.in_ok-second-in-len8.ensures.below c.in_ok-third-in-len8.ensures.below
    c.in_ok-last-in-len8.ensures.below

pub returns-in_err-first-in-len8 : goal.returns-in_err-first-in-len8
returns-in_err-first-in-len8 c k small e =
    let at : (i : ℕ) → get_or c.args.digits.now i 0 ≡ get_or (number_digits k) i 0 = λ i. ap (λ t. get_or t i 0) e in
    absurd (none_some _ (c.in_err-first-in-len8.ensures.reads (k / 2 ^ 24) (top_byte k small) (at 0) (at 1)))

pub returns-in_err-second-in-len8 : goal.returns-in_err-second-in-len8
returns-in_err-second-in-len8 c k small e =
    let at : (i : ℕ) → get_or c.args.digits.now i 0 ≡ get_or (number_digits k) i 0 = λ i. ap (λ t. get_or t i 0) e in
    absurd (none_some _ (c.in_err-second-in-len8.ensures.reads (k / 2 ^ 16 % 256) (byte (k / 2 ^ 16)) (at 2) (at 3)))

pub returns-in_err-third-in-len8 : goal.returns-in_err-third-in-len8
returns-in_err-third-in-len8 c k small e =
    let at : (i : ℕ) → get_or c.args.digits.now i 0 ≡ get_or (number_digits k) i 0 = λ i. ap (λ t. get_or t i 0) e in
    absurd (none_some _ (c.in_err-third-in-len8.ensures.reads (k / 2 ^ 8 % 256) (byte (k / 2 ^ 8)) (at 4) (at 5)))

pub returns-in_err-last-in-len8 : goal.returns-in_err-last-in-len8
returns-in_err-last-in-len8 c k small e =
    let at : (i : ℕ) → get_or c.args.digits.now i 0 ≡ get_or (number_digits k) i 0 = λ i. ap (λ t. get_or t i 0) e in
    absurd (none_some _ (c.in_err-last-in-len8.ensures.reads (k % 256) (byte k) (at 6) (at 7)))

pub returns-in_ok-last-in-len8 : goal.returns-in_ok-last-in-len8
returns-in_ok-last-in-len8 c k small e =
    let at : (i : ℕ) → get_or c.args.digits.now i 0 ≡ get_or (number_digits k) i 0 = λ i. ap (λ t. get_or t i 0) e in
    of_bytes k c.in_ok-first-in-len8.first c.in_ok-second-in-len8.second c.in_ok-third-in-len8.third c.in_ok-last-in-len8.last
    (c.in_ok-first-in-len8.ensures.reads (k / 2 ^ 24) (top_byte k small) (at 0) (at 1))
    (c.in_ok-second-in-len8.ensures.reads (k / 2 ^ 16 % 256) (byte (k / 2 ^ 16)) (at 2) (at 3))
    (c.in_ok-third-in-len8.ensures.reads (k / 2 ^ 8 % 256) (byte (k / 2 ^ 8)) (at 4) (at 5))
    (c.in_ok-last-in-len8.ensures.reads (k % 256) (byte k) (at 6) (at 7))
