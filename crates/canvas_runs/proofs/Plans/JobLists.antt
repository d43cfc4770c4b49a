-- Lists of jobs: what holds of each job of a list holds of each that its script has.
use Rattle.std.proofs.Common.{◌≡◌, ℕ, ◌+◌, Bool, true, false, List, [], ◌∷◌, ◌++◌, map, refl, ap, inl, inr}
use Rattle.std.specs.Prelude.{if◌then◌else◌, nat_lt}
use Rattle.canvas_task.specs.declared.outcome.Outcome.{Outcome}
use Rattle.canvas_rewrite.specs.FrozenView.{PCarried}
use Rattle.canvas_envelope.specs.Content.{Content, number_of}
use Rattle.canvas_effects.specs.Effects as effects
use Rattle.canvas_effects.specs.Effects.{effect_of, script, stores_in, messages_in, part_in, part_jobs}
use Rattle.canvas_history.specs.Lists.{In, Each}
use Rattle.canvas_effects.specs.Job.{Job, store, publish, part}
use Rattle.canvas_effects.specs.Ordered.{put, in_order}
use Rattle.canvas_runs.proofs.Plans.Carrying.{sent, all_sent}
use Rattle.canvas_runs.proofs.Plans.Effects.{Jobs}
use Rattle.canvas_runs.proofs.Lists.Words.{each_append}

pub each_sent : (P : Job Content PCarried Outcome → Type 0) (js : Jobs) → Each (λ j. P (sent j)) js → Each P (all_sent js)
each_sent P [] a = tt
each_sent P (j ∷ js) a = (a.0, each_sent P js a.1)

each_map : {A B : Type 0} (f : A → B) (P : B → Type 0) (xs : List A) → Each (λ x. P (f x)) xs → Each P (map f xs)
each_map f P [] a = tt
each_map f P (x ∷ xs) a = (a.0, each_map f P xs a.1)

pub in_map : {A B : Type 0} (f : A → B) (xs : List A) (y : B) → In y (map f xs) → (x : A) × (y ≡ f x) × In x xs
in_map f [] y i = elim i [ ]
in_map f (x ∷ xs) y (inl e) = (x, e, inl refl)
in_map f (x ∷ xs) y (inr i) = let r = in_map f xs y i in (r.0, r.1, inr r.2)

pub map_in : {A B : Type 0} (f : A → B) (xs : List A) (x : A) → In x xs → In (f x) (map f xs)
map_in f [] x i = elim i [ ]
map_in f (y ∷ xs) x (inl e) = inl (ap f e)
map_in f (y ∷ xs) x (inr i) = inr (map_in f xs x i)

module _ {A : Type 0} (key : A → ℕ) (P : A → Type 0) where
  each_put : (x : A) (xs : List A) → P x → Each P xs → Each P (put key x xs)
  each_put x [] p a = (p, tt)
  each_put x (y ∷ ys) p a = go (nat_lt (key y) (key x)) (each_put x ys p a.1)
    where
      go : (b : Bool) → Each P (put key x ys) → Each P (if b then y ∷ put key x ys else x ∷ y ∷ ys)
      go true r = (a.0, r)
      go false r = (p, a)

  each_in_order : (xs : List A) → Each P xs → Each P (in_order key xs)
  each_in_order [] a = tt
  each_in_order (x ∷ xs) a = each_put x (in_order key xs) a.0 (each_in_order xs a.1)

module _ (P : Job Content PCarried Outcome → Type 0) where
  stores_each : (js : effects.Jobs) → Each P js → Each (λ e. P (store e.0 e.1)) (stores_in js)
  stores_each [] a = tt
  stores_each (store t o ∷ js) a = (a.0, stores_each js a.1)
  stores_each (publish m ∷ js) a = stores_each js a.1
  stores_each (part g t c ∷ js) a = stores_each js a.1

  messages_each : (js : effects.Jobs) → Each P js → Each (λ m. P (publish m)) (messages_in js)
  messages_each [] a = tt
  messages_each (store t o ∷ js) a = messages_each js a.1
  messages_each (publish m ∷ js) a = (a.0, messages_each js a.1)
  messages_each (part g t c ∷ js) a = messages_each js a.1

  part_each : (js : effects.Jobs) → Each P js → Each P (part_jobs (part_in js))
  part_each [] a = tt
  part_each (store t o ∷ js) a = part_each js a.1
  part_each (publish m ∷ js) a = part_each js a.1
  part_each (part g t c ∷ js) a = (a.0, tt)

  -- what holds of each job holds of the script
  pub each_script : (js : effects.Jobs) → Each P js → Each P (script (effect_of js))
  each_script js a =
      each_append P (map (λ s. store s.0 s.1) (effect_of js).stores) (map (λ m. publish m) (effect_of js).messages ++ part_jobs (effect_of js).part)
      (each_map (λ s. store s.0 s.1) P (effect_of js).stores (each_in_order (λ e. e.0) (λ e. P (store e.0 e.1)) (stores_in js) (stores_each js a)))
      (each_append P (map (λ m. publish m) (effect_of js).messages) (part_jobs (effect_of js).part)
      (each_map (λ m. publish m) P (effect_of js).messages (each_in_order (λ m. number_of m.own) (λ m. P (publish m)) (messages_in js) (messages_each js a)))
      (part_each js a))
