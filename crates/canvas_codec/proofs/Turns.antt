-- One more turn of a loop over a list that reads, and its end.
use Rattle.std.proofs.Common.{◌≡◌, ◌∙◌, ◌<◌, ◌≤◌, ◌+◌, ℕ, List, [], ◌∷◌, ◌++◌, map, length, get_or, drop, Result, Ok, sym, ap, append-nil}
use Rattle.std.proofs.lemmas.List.{drop_all, map_push}
use Rattle.serde_json.specs.Data.{Data}
use Rattle.canvas_task.proofs.Turns.{item_first}
use Rattle.canvas_sig.specs.Datum.{view}
use Rattle.canvas_sig.specs.declared.datum.Datum.{Datum}
use Rattle.canvas_values.specs.declared.fault.SigFault.{SigFault}
use Rattle.canvas_values.specs.Answers.{in_turn}
use Rattle.canvas_sig.proofs.Each.{onto, one_more}

-- a loop that reads one value after the other
module _ {T B : Type 0} (seen : T → B) (f : Data → Result B SigFault) (vs : List Datum) where
  pub read_on : (i : ℕ) (v : Datum) (x : T) (before after : List T) → i < length vs → v ≡ get_or vs i v → f (view v) ≡ Ok (seen x)
      → in_turn f (map view vs) ≡ onto (map seen before) (in_turn f (map view (drop i vs))) → after ≡ before ++ x ∷ []
      → in_turn f (map view vs) ≡ onto (map seen after) (in_turn f (map view (drop (i + 1) vs)))
  read_on i v x before after lt is read so_far pushed =
      let rest : List Data = map view (drop (i + 1) vs) in
      so_far
      ∙ ap (λ xs. onto (map seen before) (in_turn f (map view xs))) (item_first vs i v lt is)
      ∙ one_more f (map seen before) (view v) rest (seen x) read
      ∙ ap (λ ys. onto ys (in_turn f rest)) (sym (ap (map seen) pushed ∙ map_push seen before x))

  pub read_all : (i : ℕ) (now : List T) → length vs ≤ i → in_turn f (map view vs) ≡ onto (map seen now) (in_turn f (map view (drop i vs)))
      → in_turn f (map view vs) ≡ Ok (map seen now)
  read_all i now past so_far =
      so_far ∙ ap (λ xs. onto (map seen now) (in_turn f (map view xs))) (drop_all i vs past) ∙ ap Ok (append-nil (map seen now))
