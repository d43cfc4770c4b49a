-- What is noted of a run by turns, one step after the other.
use Rattle.std.proofs.Common.{◌≡◌, ◌<◌, ◌≤◌, ◌+◌, length, drop, get_or, Option, Bool, Result, Ok, Err, OnOk, ℕ, List, [], ◌∷◌, ◌++◌, map, refl, sym, ap, ◌∙◌, subst, append_assoc, append-nil}
use Rattle.std.specs.Prelude.{filter, option_to_list}
use Rattle.std.proofs.lemmas.List.{map-append, at_drop_all}
use Rattle.std.proofs.lemmas.List.Elements.{filter-append}
use Rattle.canvas_task.proofs.Turns.{item_first}
use Rattle.canvas_effects.specs.Effects.{first_messages}
use Rattle.canvas_semantics.specs.Line.{Line}
use Rattle.canvas_envelope.specs.declared.envelope.Envelope.{Envelope}
use Rattle.canvas_history.specs.Queue as queue
use Rattle.canvas_history.specs.Roster.{Roster}
use Rattle.canvas_history.specs.Table.{Results}
use Rattle.canvas_runs.specs.Core as C
use Rattle.canvas_runs.specs.Worker.{sealed}
use Rattle.canvas_runs.specs.Turns.{Step}
use Rattle.canvas_core.specs.Asks.{Asked, Answer}
use Rattle.canvas_engine.specs.Noted.{did_seen, step_seen, opening_step, opening_steps}
use Rattle.canvas_engine.specs.Traced.{sent_by, sent_in, sent_after}
use Rattle.canvas_engine.specs.steps.Noting.{Noted, kept, publishes}
use Rattle.canvas_engine.specs.steps.TurnRuns.{AnswersNow, answer_now, step_now}
use Rattle.canvas_engine.specs.declared.by_turns.notes.Step as told
use Rattle.canvas_engine.specs.declared.by_turns.notes.Keeps.{Keeps}
use Rattle.canvas_engine.specs.declared.by_turns.notes.Keeps.TheVariants.{Nothing, Published, All}
use Rattle.canvas_engine.specs.declared.by_turns.notes.Notes.{Notes}

pub kept_nothing : (k : Keeps) → kept k [] ≡ []
kept_nothing Nothing = refl
kept_nothing Published = refl
kept_nothing All = refl

pub kept_more : (k : Keeps) (xs ys : List Step) → kept k xs ++ kept k ys ≡ kept k (xs ++ ys)
kept_more Nothing xs ys = refl
kept_more Published xs ys = sym (filter-append (λ x. publishes x.1.0) xs ys)
kept_more All xs ys = refl

pub noted_one : (s t : Notes) (x : told.Step) → t.keeps ≡ s.keeps → t.steps.items ≡ s.steps.items ++ x ∷ []
    → kept s.keeps (step_seen x ∷ []) ≡ step_seen x ∷ [] → Noted s (step_seen x ∷ []) t
noted_one s t x keeps added all =
    (keeps, ap (map step_seen) added ∙ map-append step_seen s.steps.items (x ∷ []) ∙ ap (λ ys. map step_seen s.steps.items ++ ys) (sym all))

pub noted_none : (s : Notes) (xs : List Step) → kept s.keeps xs ≡ [] → Noted s xs s
noted_none s xs none = (refl, sym (append-nil (map step_seen s.steps.items)) ∙ ap (λ ys. map step_seen s.steps.items ++ ys) (sym none))

module _ (l : Line) (xs : List Step) where
  pub noted_then : (x : Step) (b : Keeps) (s t : Notes) → s.keeps ≡ b → map step_seen s.steps.items ≡ kept b (opening_steps l ++ xs) → Noted s (x ∷ []) t
      → map step_seen t.steps.items ≡ kept b (opening_steps l ++ (xs ++ x ∷ []))
  noted_then x b s t keeps so_far noted =
      noted.1
      ∙ ap (λ k. map step_seen s.steps.items ++ kept k (x ∷ [])) keeps
      ∙ ap (λ es. es ++ kept b (x ∷ [])) so_far
      ∙ kept_more b (opening_steps l ++ xs) (x ∷ [])
      ∙ ap (kept b) (append_assoc (opening_steps l) xs (x ∷ []))

-- ---- one ask

pub on_ok : {T E P : Type 0} (r : Result T E) → P → OnOk r P
on_ok (Ok x) p = p
on_ok (Err e) p = tt

pub at_more : {T E : Type 0} (r : Result T E) (P : Bool → Type 0) (m : Bool) → OnOk r ((b : Bool) → P b) → OnOk r (P m)
at_more (Ok x) P m h = h m
at_more (Err e) P m h = tt

module _ (plan : Roster) (queued : List Envelope) (results : Results) (more : Bool) where
  -- what the queue and the table answer is what is noted
  pub said_now : (a : Asked) (r : Answer) → AnswersNow plan queued results more a r → answer_now plan queued results more a ≡ r
  said_now (C.to_queue c) (C.from_queue x) h = ap C.from_queue (sym h)
  said_now (C.to_table c) (C.from_table r) h = ap C.from_table (sym h)
  said_now C.rest (C.rested m) h = ap C.rested (sym h)
  said_now C.ack C.acked h = refl
  said_now a r h = elim h [ ]

  -- a step that is noted by its ask and its answer
  pub noted_as : (p : ℕ) (s t : Notes) (a b : Asked) (r : Answer) → a ≡ b → AnswersNow plan queued results more b r → Noted s ((p, (b, r)) ∷ []) t
      → Noted s (step_now p plan queued results more a ∷ []) t
  noted_as p s t a b r is answers noted =
      subst (λ z. Noted s (step_now p plan queued results more z ∷ []) t) (sym is)
      (subst (λ z. Noted s ((p, (b, z)) ∷ []) t) (sym (said_now b r answers)) noted)

-- ---- what was published

pub sent_more : (xs ys : List Step) → sent_in (xs ++ ys) ≡ sent_in xs ++ sent_in ys
sent_more [] ys = refl
sent_more (x ∷ xs) ys = ap (λ es. sent_by x.1.0 ++ es) (sent_more xs ys) ∙ sym (append_assoc (sent_by x.1.0) (sent_in xs) (sent_in ys))

sent_opening : (es : List Envelope) → sent_in (map opening_step es) ≡ es
sent_opening [] = refl
sent_opening (e ∷ es) = ap (λ ds. e ∷ ds) (sent_opening es)

-- a step that doesn't publish sends nothing
sent_one : (x : Step) (zs : List Step) → sent_in (filter (λ y. publishes y.1.0) zs) ≡ sent_in zs
    → sent_in (filter (λ y. publishes y.1.0) (x ∷ zs)) ≡ sent_in (x ∷ zs)
sent_one (p, (C.to_queue (queue.publish e), r)) zs h = ap (λ es. e ∷ es) h
sent_one (p, (C.to_queue queue.take, r)) zs h = h
sent_one (p, (C.to_queue (queue.redeliver e), r)) zs h = h
sent_one (p, (C.to_table c, r)) zs h = h
sent_one (p, (C.rest, r)) zs h = h
sent_one (p, (C.ack, r)) zs h = h
sent_one (p, (C.end, r)) zs h = h

sent_kept : (xs : List Step) → sent_in (filter (λ y. publishes y.1.0) xs) ≡ sent_in xs
sent_kept [] = refl
sent_kept (x ∷ xs) = sent_one x xs (sent_kept xs)

pub sent_noted : (l : Line) (xs ys : List Step) → ys ≡ kept Published (opening_steps l ++ xs) → sent_in ys ≡ sent_after l xs
sent_noted l xs ys are =
    ap sent_in are ∙ sent_kept (opening_steps l ++ xs) ∙ sent_more (opening_steps l) xs
    ∙ ap (λ es. es ++ sent_in xs) (sent_opening (map sealed (first_messages l)))

-- ---- the first messages, one after the other

module _ (letters : List Envelope) (i : ℕ) where
  -- those that were noted so far with those that are still to come
  abbrev pub Opened : Notes → Notes → Type 0
  Opened s t =
      (t.keeps ≡ s.keeps)
      × (map step_seen t.steps.items ++ kept s.keeps (map opening_step (drop i letters))
      ≡ map step_seen s.steps.items ++ kept s.keeps (map opening_step letters))

pub opened_on : (letters : List Envelope) (i : ℕ) (e : Envelope) → i < length letters → e ≡ get_or letters i e → (s t u : Notes) → Opened letters i s t
    → Noted t (opening_step e ∷ []) u → Opened letters (i + 1) s u
opened_on letters i e inside is s t u so_far noted =
    let rest : List Step = map opening_step (drop (i + 1) letters) in
    let keeps : t.keeps ≡ s.keeps = so_far.0 in (
      noted.0 ∙ keeps,
      ap (λ ys. ys ++ kept s.keeps rest) (noted.1 ∙ ap (λ k. map step_seen t.steps.items ++ kept k (opening_step e ∷ [])) keeps)
          ∙ append_assoc (map step_seen t.steps.items) (kept s.keeps (opening_step e ∷ [])) (kept s.keeps rest)
          ∙ ap (λ ys. map step_seen t.steps.items ++ ys) (kept_more s.keeps (opening_step e ∷ []) rest)
          ∙ ap (λ es. map step_seen t.steps.items ++ kept s.keeps (map opening_step es)) (sym (item_first letters i e inside is))
          ∙ so_far.1,
    )

pub opened_all : (letters : List Envelope) (i : ℕ) → length letters ≤ i → (s t : Notes) → Opened letters i s t → Noted s (map opening_step letters) t
opened_all letters i past s t so_far = (
  so_far.0,
  sym (append-nil (map step_seen t.steps.items)) ∙ ap (λ ys. map step_seen t.steps.items ++ ys) (sym (kept_nothing s.keeps))
      ∙ sym (at_drop_all (λ es. map step_seen t.steps.items ++ kept s.keeps (map opening_step es)) letters i past) ∙ so_far.1,
)

-- ---- the letters of steps, one after the other

pub letters_on : (before after : List Envelope) (x : told.Step) (left others : List told.Step) (own : Option Envelope) (all : List Envelope)
    → before ++ sent_in (map step_seen left) ≡ all → left ≡ x ∷ others → option_to_list own ≡ sent_by (did_seen x.did).0 → after ≡ before ++ option_to_list own
    → after ++ sent_in (map step_seen others) ≡ all
letters_on before after x left others own all so_far split is put =
    ap (λ es. es ++ sent_in (map step_seen others)) (put ∙ ap (λ es. before ++ es) is)
    ∙ append_assoc before (sent_by (did_seen x.did).0) (sent_in (map step_seen others))
    ∙ ap (λ xs. before ++ sent_in (map step_seen xs)) (sym split) ∙ so_far
