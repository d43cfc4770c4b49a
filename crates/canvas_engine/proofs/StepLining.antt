-- The lines of steps, one after the other.
use Rattle.std.proofs.Common.{◌≡◌, ◌<◌, ◌≤◌, ◌+◌, ℕ, zero, suc, List, [], ◌∷◌, ◌++◌, map, drop, length, get_or, Result, Ok, Err, OnOk, refl, sym, ap, ◌∙◌, append_assoc, append-nil}
use Rattle.std.specs.Prelude.{slice_set}
use Rattle.std.proofs.lemmas.List.{at_drop_all}
use Rattle.canvas_task.proofs.Turns.{item_first}
use Rattle.canvas_task.specs.Text.{Text}
use Rattle.canvas_semantics.specs.Line.{Line}
use Rattle.canvas_report.specs.declared.row.Row.{Row}
use Rattle.canvas_engine.specs.declared.by_turns.notes.Step.{Step}
use Rattle.canvas_engine.specs.StepLines.{did_text, held_after, held_by, steps_text, worker_text}

-- ---- pieces that are added one after the other

pub add : (before x y : Text) {mid after : Text} → mid ≡ before ++ x → after ≡ mid ++ y → after ≡ before ++ (x ++ y)
add before x y m h = h ∙ ap (λ t. t ++ y) m ∙ append_assoc before x y

pub onto : {E : Type 0} (r : Result (Unit {0}) E) (before after x y : Text) {mid : Text} → mid ≡ before ++ x → OnOk r (after ≡ mid ++ y)
    → OnOk r (after ≡ before ++ (x ++ y))
onto (Ok u) before after x y m h = add before x y m h
onto (Err e) before after x y m h = tt

-- ---- what workers hold

pub map_set : {A B : Type 0} (f : A → B) (xs : List A) (i : ℕ) (x : A) → map f (slice_set xs i x) ≡ slice_set (map f xs) i (f x)
map_set f [] i x = refl
map_set f (y ∷ ys) zero x = refl
map_set f (y ∷ ys) (suc i) x = ap (λ zs. f y ∷ zs) (map_set f ys i x)

-- ---- steps

module _ (l : Line) (rows : List Row) (steps : List Step) (i : ℕ) (before : Text) (held : List Text) (all : Text)
    (so_far : before ++ steps_text l rows held (drop i steps) ≡ all) where
  pub lines_all : length steps ≤ i → before ≡ all
  lines_all past =
      sym (append-nil before) ∙ sym (at_drop_all (λ ss. before ++ steps_text l rows held ss) steps i past) ∙ so_far

  pub lines_on : (s : Step) → i < length steps → s ≡ get_or steps i s → (told after : Text) (held' : List Text)
      → told ≡ before ++ did_text l rows (held_by held s.worker) s.did → after ≡ told ++ worker_text s.worker
      → held' ≡ held_after held s.worker s.did
      → after ++ steps_text l rows held' (drop (i + 1) steps) ≡ all
  lines_on s inside is told after held' put ends holds =
      let d = did_text l rows (held_by held s.worker) s.did in
      let w = worker_text s.worker in
      let rest : List Step = drop (i + 1) steps in
      ap (λ t. t ++ steps_text l rows held' rest) (ends ∙ ap (λ t. t ++ w) put ∙ append_assoc before d w)
      ∙ ap (λ h. (before ++ (d ++ w)) ++ steps_text l rows h rest) holds
      ∙ append_assoc before (d ++ w) (steps_text l rows (held_after held s.worker s.did) rest)
      ∙ ap (λ ss. before ++ steps_text l rows held ss) (sym (item_first steps i s inside is)) ∙ so_far
