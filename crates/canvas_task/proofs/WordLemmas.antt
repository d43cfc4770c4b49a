-- The word of an outcome encodes it.
use Rattle.std.proofs.Common.{◌≡◌, ◌≢◌, ℕ, ◌+◌, ◌*◌, ◌/◌, ◌%◌, ◌^◌, ◌<◌, ◌≤◌, Some, None, true, refl, sym, ap, ◌∙◌, arith}
use Rattle.std.proofs.lemmas.Grind.{common_steps}
use Rattle.std.specs.Prelude.{ℤ, option_map}
use Rattle.std.proofs.lemmas.Nat.{div-mul-add, mod-mul-add}
use Rattle.canvas_task.specs.Numbers.{in_range}
use Rattle.canvas_task.specs.declared.outcome.Kind.{Kind}
use Rattle.canvas_task.specs.declared.outcome.Kind.TheVariants.{BadCall, ZeroDivision, Overflow, NotRegistered}
use Rattle.canvas_task.specs.declared.outcome.Why.{Why}
use Rattle.canvas_task.specs.declared.outcome.Why.TheVariants as why
use Rattle.canvas_task.specs.declared.outcome.Fault.TheVariants.{Plain, Chord}
use Rattle.canvas_task.specs.declared.outcome.Outcome.{Outcome}
use Rattle.canvas_task.specs.declared.outcome.Outcome.TheVariants.{Success, Failure}
use Rattle.canvas_task.specs.Words.{FitsAWord, why_code, why_of_code, failure_of_word, word, outcome_named}

plain_back : (kind : Kind) → outcome_named (word (Failure (Plain kind))) ≡ Some (Failure (Plain kind))
plain_back BadCall = refl
plain_back ZeroDivision = refl
plain_back Overflow = refl
plain_back NotRegistered = refl

why_back : (w : Why) → why_of_code (why_code w) ≡ Some w
why_back (why.Plain BadCall) = refl
why_back (why.Plain ZeroDivision) = refl
why_back (why.Plain Overflow) = refl
why_back (why.Plain NotRegistered) = refl
why_back why.Chord = refl

why_low : (w : Why) → why_code w < 16
why_low (why.Plain BadCall) = omega arith
why_low (why.Plain ZeroDivision) = omega arith
why_low (why.Plain Overflow) = omega arith
why_low (why.Plain NotRegistered) = omega arith
why_low why.Chord = omega arith

success_back : (n : ℤ) → in_range n ≡ true → outcome_named (word (Success n)) ≡ Some (Success n)
success_back n h = grind (arith, common_steps)

-- the word of a failed header, by its two parts
parts : (dep code : ℕ) → 1 ≤ dep → dep < 2 ^ 32 → outcome_named (2 ^ 63 + 16 * dep + code) ≡ option_map Failure (failure_of_word ((16 * dep + code) / 16) ((16 * dep + code) % 16))
parts dep code low high = grind (arith, common_steps)

chord_back : (dep : ℕ) (w : Why) → 1 ≤ dep → dep < 2 ^ 32 → outcome_named (word (Failure (Chord dep w))) ≡ Some (Failure (Chord dep w))
chord_back dep w low high =
    let turned : 16 * dep + why_code w ≡ dep * 16 + why_code w = omega arith in
    parts dep (why_code w) low high
    ∙ ap (λ r. option_map Failure (failure_of_word (r / 16) (r % 16))) turned
    ∙ rw (div-mul-add dep 16 (why_code w) (why_low w), mod-mul-add dep 16 (why_code w) (why_low w)) (grind (arith, common_steps, why_back w))

word_back : (o : Outcome) → FitsAWord o → outcome_named (word o) ≡ Some o
word_back (Success n) h = success_back n h
word_back (Failure (Plain kind)) h = plain_back kind
word_back (Failure (Chord dep w)) h = chord_back dep w h.0 h.1

-- a number that encodes nothing is no outcome's word
pub no_word : (found : ℕ) → outcome_named found ≡ None → (o : Outcome) → FitsAWord o → word o ≢ found
no_word found none o held same = let clash : Some o ≡ None = sym (word_back o held) ∙ ap outcome_named same ∙ none in absurd cc
