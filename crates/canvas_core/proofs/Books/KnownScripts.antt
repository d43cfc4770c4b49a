-- The script of what a book knows: its stores and its part are those of the jobs, and its part is due by the store of its task.
use Rattle.std.proofs.Common.{⊎_elim, ◌≡◌, ◌⊎◌, ◌∙◌, ℕ, Bool, true, false, true≢false, eqb, List, [], ◌∷◌, ◌++◌, map, Option, Some, None, refl, sym, inl, inr}
use Rattle.std.proofs.lemmas.Bool.{eq-eqb}
use Rattle.std.specs.Prelude.{IsTrue, if◌then◌else◌, nat_lt}
use Rattle.canvas_task.specs.declared.outcome.Outcome.{Outcome}
use Rattle.canvas_envelope.specs.Content.{Content}
use Rattle.canvas_effects.specs.Effects.{Jobs, Part, stores_in, part_in, part_jobs, script, effect_of}
use Rattle.canvas_history.specs.Lists.{In, Each, firsts}
use Rattle.canvas_effects.specs.Job.{store, publish, part}
use Rattle.canvas_effects.specs.Ordered.{put, in_order}
use Rattle.canvas_history.specs.declared.stored.Stored.{Stored}
use Rattle.canvas_history.specs.declared.stored.Stored.TheVariants.{First}
use Rattle.canvas_history.specs.Table.{MayReturn}
use Rattle.canvas_history.specs.Roster.{Roster}
use Rattle.canvas_runs.specs.Book.{Book, book_on}
use Rattle.canvas_runs.specs.Core.{is_due}
use Rattle.canvas_runs.specs.Following.{Seat}
use Rattle.canvas_core.specs.EnvelopeWorker.{enclosed}
use Rattle.canvas_core.specs.Scripts as scripts
use Rattle.canvas_core.specs.SeatRights.{Carries, InBook, MayReturnDue}
use Rattle.canvas_core.proofs.Books.KnownJobs.{Known, StoredIn}

abbrev Stores : Type 0
Stores = List (ℕ × Outcome)

-- ---- in order

abbrev placed_at : ℕ × Outcome → Stores → Stores
placed_at x ys = put (λ e. e.0) x ys

abbrev sorted : Stores → Stores
sorted xs = in_order (λ e. e.0) xs

each_by : (P : ℕ × Outcome → Type 0) (b : Bool) (xs ys : Stores) → Each P xs → Each P ys → Each P (if b then xs else ys)
each_by P true xs ys a c = a
each_by P false xs ys a c = c

each_put : (P : ℕ × Outcome → Type 0) (x : ℕ × Outcome) (ys : Stores) → P x → Each P ys → Each P (placed_at x ys)
each_put P x [] h a = (h, tt)
each_put P x (y ∷ ys) h a = each_by P (nat_lt y.0 x.0) (y ∷ placed_at x ys) (x ∷ y ∷ ys) (a.0, each_put P x ys h a.1) (h, a)

each_sorted : (P : ℕ × Outcome → Type 0) (xs : Stores) → Each P xs → Each P (sorted xs)
each_sorted P [] a = tt
each_sorted P (x ∷ xs) a = each_put P x (sorted xs) a.0 (each_sorted P xs a.1)

in_by : (d : ℕ) (b : Bool) (x y : ℕ × Outcome) (ys zs : Stores) → (In d (firsts (x ∷ ys)) → In d (firsts zs)) → In d (firsts (x ∷ y ∷ ys))
    → In d (firsts (if b then y ∷ zs else x ∷ y ∷ ys))
in_by d false x y ys zs f i = i
in_by d true x y ys zs f (inl e) = inr (f (inl e))
in_by d true x y ys zs f (inr (inl e)) = inl e
in_by d true x y ys zs f (inr (inr i)) = inr (f (inr i))

in_put : (d : ℕ) (x : ℕ × Outcome) (ys : Stores) → In d (firsts (x ∷ ys)) → In d (firsts (placed_at x ys))
in_put d x [] i = i
in_put d x (y ∷ ys) i = in_by d (nat_lt y.0 x.0) x y ys (placed_at x ys) (in_put d x ys) i

in_sorted : (d : ℕ) (xs : Stores) → In d (firsts xs) → In d (firsts (sorted xs))
in_sorted d [] i = i
in_sorted d (x ∷ xs) (inl e) = in_put d x (sorted xs) (inl e)
in_sorted d (x ∷ xs) (inr i) = in_put d x (sorted xs) (inr (in_sorted d xs i))

-- ---- stores and parts of jobs

stored_in : (d : ℕ) (js : Jobs) → StoredIn js d → In d (firsts (stores_in js))
stored_in d [] s = elim s.1 [ ]
stored_in d (store t w ∷ js) (o, inl e) = inl cc
stored_in d (store t w ∷ js) (o, inr i) = inr (stored_in d js (o, i))
stored_in d (publish m ∷ js) (o, inl e) = absurd cc
stored_in d (publish m ∷ js) (o, inr i) = stored_in d js (o, i)
stored_in d (part g t c ∷ js) (o, inl e) = absurd cc
stored_in d (part g t c ∷ js) (o, inr i) = stored_in d js (o, i)

-- ---- scripts

abbrev sent : Stores → List Content → Option Part → scripts.EnvelopeJobs
sent es ms o = map enclosed (map (λ s. store s.0 s.1) es ++ (map (λ m. publish m) ms ++ part_jobs o))

sent_due : (t : ℕ) (es : Stores) (ms : List Content) (p : Part) → is_due t (sent es ms (Some p)) ≡ eqb t p.task
sent_due t [] [] p = refl
sent_due t [] (m ∷ ms) p = sent_due t [] ms p
sent_due t (e ∷ es) ms p = sent_due t es ms p

module _ (book : Book) where
  abbrev IsTask : ℕ × Outcome → Type 0
  IsTask e = IsTrue (book.knows e.0)

  abbrev PartKnown : (ℕ → Type 0) → Option Part → Type 0
  PartKnown Q None = Unit {0}
  PartKnown Q (Some p) = IsTrue (book.is_member p.chord p.task) × Carries book p.chord p.carried × Q p.task

  tasks_in : (Q : ℕ → Type 0) (js : Jobs) → Each (Known book Q) js → Each IsTask (stores_in js)
  tasks_in Q [] h = tt
  tasks_in Q (store t o ∷ js) h = (h.0, tasks_in Q js h.1)
  tasks_in Q (publish m ∷ js) h = tasks_in Q js h.1
  tasks_in Q (part g t c ∷ js) h = tasks_in Q js h.1

  part_in_known : (Q : ℕ → Type 0) (js : Jobs) → Each (Known book Q) js → PartKnown Q (part_in js)
  part_in_known Q [] h = tt
  part_in_known Q (store t o ∷ js) h = part_in_known Q js h.1
  part_in_known Q (publish m ∷ js) h = part_in_known Q js h.1
  part_in_known Q (part g t c ∷ js) h = h.0

  sent_known : (Q : ℕ → Type 0) (es : Stores) (ms : List Content) (o : Option Part) → Each IsTask es → PartKnown Q o → InBook book (sent es ms o)
  sent_known Q [] [] None a h = tt
  sent_known Q [] [] (Some p) a h = (h.0, h.1, tt)
  sent_known Q [] (m ∷ ms) o a h = sent_known Q [] ms o tt h
  sent_known Q (e ∷ es) ms o a h = (a.0, sent_known Q es ms o a.1 h)

  pub script_known : (Q : ℕ → Type 0) (js : Jobs) → Each (Known book Q) js → InBook book (map enclosed (script (effect_of js)))
  script_known Q js h =
      sent_known Q (sorted (stores_in js)) (effect_of js).messages (part_in js) (each_sorted IsTask (stores_in js) (tasks_in Q js h)) (part_in_known Q js h)

module _ (plan : Roster) where
  -- the part's task is stored before, or its part may be returned
  abbrev PartMay : Seat → Stored → Stores → Option Part → Type 0
  PartMay s b es None = Unit {0}
  PartMay s b es (Some p) = In p.task (firsts es) ⊎ (b ≡ First → MayReturn plan s.seen s.name p.task)

  not_in : (s : Seat) (b : Stored) (p : Part) → PartMay s b [] (Some p) → b ≡ First → MayReturn plan s.seen s.name p.task
  not_in s b p (inl i) e = elim i [ ]
  not_in s b p (inr f) e = f e

  fewer : (s : Seat) (b : Stored) (e : ℕ × Outcome) (es : Stores) (ms : List Content) (o : Option Part) → PartMay s b (e ∷ es) o
      → is_due e.0 (sent es ms o) ≡ false → PartMay s b es o
  fewer s b e es ms None h n = tt
  fewer s b e es ms (Some p) (inl (inl same)) n = absurd (true≢false (sym (eq-eqb e.0 p.task (sym same)) ∙ (sym (sent_due e.0 es ms p) ∙ n)))
  fewer s b e es ms (Some p) (inl (inr i)) n = inl i
  fewer s b e es ms (Some p) (inr f) n = inr f

  sent_may : (s : Seat) (b : Stored) (es : Stores) (ms : List Content) (o : Option Part) → PartMay s b es o → MayReturnDue plan s b (sent es ms o)
  sent_may s b [] [] None h = tt
  sent_may s b [] [] (Some p) h = not_in s b p h
  sent_may s b [] (m ∷ ms) o h = sent_may s b [] ms o h
  sent_may s b (e ∷ es) ms o h = λ n. sent_may s b es ms o (fewer s b e es ms o h n)

  part_may : (s : Seat) (b : Stored) (Q : ℕ → Type 0) (es : Stores) (o : Option Part)
      → ((d : ℕ) → Q d → In d (firsts es) ⊎ (b ≡ First → MayReturn plan s.seen s.name d)) → PartKnown (book_on plan) Q o → PartMay s b es o
  part_may s b Q es None f h = tt
  part_may s b Q es (Some p) f h = f p.task h.2

  pub script_may : (s : Seat) (b : Stored) (Q : ℕ → Type 0) (js : Jobs) → ((d : ℕ) → Q d → StoredIn js d ⊎ (b ≡ First → MayReturn plan s.seen s.name d))
      → Each (Known (book_on plan) Q) js
      → MayReturnDue plan s b (map enclosed (script (effect_of js)))
  script_may s b Q js f h =
      sent_may s b (sorted (stores_in js)) (effect_of js).messages (part_in js)
      (part_may s b Q (sorted (stores_in js)) (part_in js) (λ d q. ⊎_elim (λ y. inl (in_sorted d (stores_in js) (stored_in d js y))) (λ g. inr g) (f d q))
      (part_in_known (book_on plan) Q js h))
