-- One level of reading.
use Rattle.std.proofs.Common.{◌≡◌, ◌≢◌, ℕ, zero, suc, ◌-◌, refl, sym, ap, arith}
use Rattle.std.specs.Prelude.{if◌then◌else◌, true, false}
use Rattle.serde_json.specs.Data.{Data}
use Rattle.canvas_values.specs.Fields.{listed, tasks, subtype}
use Rattle.canvas_values.specs.Answers.{unless}
use Rattle.canvas_values.specs.Grammar.{own_fault, primitive_of}
use Rattle.canvas_codec.specs.steps.FrozenReading.{task_as, step_as, last_as, elements_with, link_reading, step_reading, last_reading, line_reading}
use Rattle.canvas_envelope.specs.FrozenGrammar.{is_chain}

pub link_level_below : (n : ℕ) (d : Data) → n ≢ 0 → link_reading n d ≡ task_as true (link_reading (n - 1)) (line_reading (n - 1)) d
link_level_below zero d h = absurd (h refl)
link_level_below (suc n) d h = let e : suc n - 1 ≡ n = omega arith in ap (λ m. task_as true (link_reading m) (line_reading m) d) (sym e)

pub step_level_below : (n : ℕ) (d : Data) → n ≢ 0 → step_reading n d ≡ step_as (link_reading (n - 1)) (line_reading (n - 1)) (primitive_of (subtype d)) d
step_level_below zero d h = absurd (h refl)
step_level_below (suc n) d h = let e : suc n - 1 ≡ n = omega arith in ap (λ m. step_as (link_reading m) (line_reading m) (primitive_of (subtype d)) d) (sym e)

pub last_level_below : (n : ℕ) (d : Data) → n ≢ 0 → last_reading n d ≡ last_as (link_reading (n - 1)) (line_reading (n - 1)) (primitive_of (subtype d)) d
last_level_below zero d h = absurd (h refl)
last_level_below (suc n) d h = let e : suc n - 1 ≡ n = omega arith in ap (λ m. last_as (link_reading m) (line_reading m) (primitive_of (subtype d)) d) (sym e)

pub line_level_below : (n : ℕ) (d : Data) → n ≢ 0
    → line_reading n d ≡ (if is_chain d then unless (own_fault false d) (elements_with (step_reading (n - 1)) (last_reading (n - 1)) (listed (tasks d)))
    else last_as (link_reading (n - 1)) (line_reading (n - 1)) (primitive_of (subtype d)) d)
line_level_below zero d h = absurd (h refl)
line_level_below (suc n) d h =
    let e : suc n - 1 ≡ n = omega arith in
    ap (λ m. if is_chain d then unless (own_fault false d) (elements_with (step_reading m) (last_reading m) (listed (tasks d)))
    else last_as (link_reading m) (line_reading m) (primitive_of (subtype d)) d) (sym e)
