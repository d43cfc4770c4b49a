-- What starts stores nothing and returns nothing.
use Rattle.std.proofs.Common.{◌≡◌, ℕ, [], ◌∷◌, ◌++◌, Option, refl, ap, ◌∙◌, inl, inr}
use Rattle.canvas_semantics.specs.Line.{Line, stop, step, group_end, chord_end, Lines, no_lines, and_line}
use Rattle.canvas_history.specs.Lists.{In, Each}
use Rattle.canvas_effects.specs.Flowing.{Input, list_input, run}
use Rattle.canvas_effects.specs.Job.{store, publish, part}
use Rattle.canvas_runs.proofs.Plans.Backing.{picked-append}
use Rattle.canvas_runs.proofs.Plans.Canvas.{messages_of}
use Rattle.canvas_runs.proofs.Plans.Effects.{Jobs, at_stop, members_place, enter, enter_all, when_empty, picked, only_store, only_publish}
use Rattle.canvas_runs.proofs.Plans.Messages.{Place, nowhere, in_group, in_chord, Message}
use Rattle.canvas_runs.proofs.Plans.Trees.{AJob}

abbrev pub NoStores : Jobs → Type 0
NoStores js = picked only_store js ≡ []

stores_both : (xs ys : Jobs) → NoStores xs → NoStores ys → NoStores (xs ++ ys)
stores_both xs ys a b = picked-append only_store xs ys ∙ (ap (λ l. l ++ picked only_store ys) a ∙ b)

stop_stores : (p : Place) (t : ℕ) → NoStores (at_stop p t)
stop_stores nowhere t = refl
stop_stores (in_group g) t = refl
stop_stores (in_chord g c) t = refl

empty_stores : (ms : Lines) (js : Jobs) → NoStores js → NoStores (when_empty ms js)
empty_stores no_lines js n = n
empty_stores (and_line m ms) js n = refl

mutual
  pub run_stores : (l : Line) (x : Input) (p : Place) (t : ℕ) (u : Option ℕ) → NoStores (enter l (run x) p t u)
  run_stores stop x p t u = stop_stores p t
  run_stores (step k rest) x p t u = refl
  run_stores (group_end g ms) x p t u = run_all_stores ms x (in_group g) u
  run_stores (chord_end g ms body) x p t u =
      stores_both (enter_all ms (run x) (members_place g ms body p) u) (when_empty ms (enter body (run (list_input [])) p 0 u))
      (run_all_stores ms x (members_place g ms body p) u) (empty_stores ms (enter body (run (list_input [])) p 0 u) (run_stores body (list_input []) p 0 u))

  run_all_stores : (ms : Lines) (x : Input) (p : Place) (u : Option ℕ) → NoStores (enter_all ms (run x) p u)
  run_all_stores no_lines x p u = refl
  run_all_stores (and_line m ms) x p u = stores_both (enter m (run x) p 0 u) (enter_all ms (run x) p u) (run_stores m x p 0 u) (run_all_stores ms x p u)

pub messages_publish : (P : AJob → Type 0) (js : Jobs) → ((m : Message) → In m (messages_of js) → P (publish m)) → Each P (picked only_publish js)
messages_publish P [] f = tt
messages_publish P (store t o ∷ js) f = messages_publish P js f
messages_publish P (publish m ∷ js) f = (f m (inl refl), messages_publish P js (λ n i. f n (inr i)))
messages_publish P (part g t c ∷ js) f = messages_publish P js f
