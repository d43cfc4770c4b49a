-- Messages that are sealed portion by portion.
use Rattle.std.proofs.Common.{◌≡◌, ◌∙◌, List, [], ◌∷◌, ◌++◌, map, sym, ap, subst, append_assoc}
use Rattle.std.proofs.lemmas.List.{map-append}
use Rattle.canvas_history.specs.Lists.{Each}
use Rattle.canvas_envelope.specs.Content.{Content}
use Rattle.canvas_envelope.specs.declared.envelope.Envelope.{Envelope}
use Rattle.canvas_effects.specs.Portions.{together}
use Rattle.canvas_runs.specs.Worker.{sealed}
use Rattle.canvas_runs.proofs.Lists.Words.{each_append}

pub portion_sealed : (old new : List Envelope) (ms : List Content) (left others : List (List Content)) (all : List Envelope)
    → old ++ map sealed (together left) ≡ all → left ≡ ms ∷ others → new ≡ old ++ map sealed ms
    → new ++ map sealed (together others) ≡ all
portion_sealed old new ms left others all h split made =
    ap (λ es. es ++ map sealed (together others)) made ∙ append_assoc old (map sealed ms) (map sealed (together others))
    ∙ ap (λ es. old ++ es) (sym (map-append sealed ms (together others))) ∙ ap (λ l. old ++ map sealed (together l)) (sym split) ∙ h

pub portion_read : (P : Content → Type 0) (left : List (List Content)) (ms : List Content) (others : List (List Content)) {Q : Type 0}
    → (Each P (together left) → Q) → left ≡ ms ∷ others → Each P ms → Each P (together others) → Q
portion_read P left ms others h split here there = h (subst (λ l. Each P (together l)) (sym split) (each_append P ms (together others) here there))

-- ---- one message of a portion

pub message_sealed : (old new : List Envelope) (e : Envelope) (m : Content) (left others : List Content) (all : List Envelope)
    → old ++ map sealed left ≡ all → left ≡ m ∷ others → new ≡ old ++ e ∷ [] → e ≡ sealed m → new ++ map sealed others ≡ all
message_sealed old new e m left others all h split made is =
    ap (λ es. es ++ map sealed others) made ∙ append_assoc old (e ∷ []) (map sealed others)
    ∙ ap (λ d. old ++ d ∷ map sealed others) is ∙ ap (λ l. old ++ map sealed l) (sym split) ∙ h

pub message_read : (P : Content → Type 0) (left : List Content) (m : Content) (others : List Content) {Q : Type 0}
    → (Each P left → Q) → left ≡ m ∷ others → P m → Each P others → Q
message_read P left m others h split here there = h (subst (Each P) (sym split) (here, there))
