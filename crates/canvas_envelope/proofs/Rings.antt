-- Texts in texts.
use Rattle.std.proofs.Common.{◌≡◌, ◌∙◌, ◌<◌, ◌+◌, ℕ, List, [], ◌∷◌, ◌++◌, map, length, get_or, drop, refl, ap}
use Rattle.std.proofs.lemmas.List.{map_push}
use Rattle.canvas_task.proofs.Turns.{put_on}
use Rattle.canvas_envelope.specs.declared.nested_text.Ring.{Ring}
use Rattle.canvas_envelope.specs.SharedTexts.{ring_view}

-- one more turn of a loop that shares
pub ring_on : (xs : List Ring) (i : ℕ) (x copy : Ring) (before after : List Ring) (all : List (List ℕ × List ℕ)) → i < length xs → x ≡ get_or xs i x
    → ring_view copy ≡ ring_view x → map ring_view before ++ map ring_view (drop i xs) ≡ all → after ≡ before ++ copy ∷ []
    → map ring_view after ++ map ring_view (drop (i + 1) xs) ≡ all
ring_on xs i x copy before after all lt is same so_far pushed =
    put_on (map ring_view) xs i x (ring_view x ∷ []) (map ring_view before) (map ring_view after) all lt is refl so_far
    (ap (map ring_view) pushed ∙ map_push ring_view before copy ∙ ap (λ y. map ring_view before ++ y ∷ []) same)
