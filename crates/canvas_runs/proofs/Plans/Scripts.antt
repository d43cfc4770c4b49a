-- The script of an effect is its jobs by kind: stores and messages are in order already, and there is at most one part.
use Rattle.std.proofs.Common.{◌≡◌, ◌⊎◌, ℕ, suc, true, false, List, [], ◌∷◌, ◌++◌, map, Some, None, refl, sym, ap, ap₂, ◌∙◌, inl, inr, arith}
use Rattle.std.proofs.lemmas.List.{map-append}
use Rattle.canvas_task.specs.declared.outcome.Outcome.{Outcome}
use Rattle.canvas_semantics.specs.Line.{Line}
use Rattle.canvas_effects.proofs.NothingMoves.{Above, nothing_moves}
use Rattle.canvas_envelope.specs.Content.{Content, number_of}
use Rattle.canvas_effects.specs.Effects as effects
use Rattle.canvas_effects.specs.Effects.{effect_of, script, stores_in, messages_in, part_in, part_jobs}
use Rattle.canvas_effects.specs.Flowing.{run, no_input, after_outcome}
use Rattle.canvas_effects.specs.Job.{store, publish, part}
use Rattle.canvas_effects.specs.Ordered.{in_order}
use Rattle.canvas_runs.proofs.Plans.Backing.{Shape, NoParts, ended_shape, enter_shape}
use Rattle.canvas_runs.proofs.Plans.Canvas.{messages_of, called_rises}
use Rattle.canvas_runs.proofs.Plans.Carrying.{content, sent, all_sent, p_carried, EndsAt, ended_sent, completed_sent, enter_sent}
use Rattle.canvas_runs.proofs.Plans.Effects.{Jobs, called, enter, by_kind, picked, only_store, only_publish, only_part, after, body_after}
use Rattle.canvas_runs.proofs.Plans.FileOrder.{LineIn, Lands, Formed, FormedPart}
use Rattle.canvas_runs.proofs.Plans.Messages.{Place, nowhere, in_group, in_chord, Carried, carried, Message, header}
use Rattle.canvas_runs.proofs.Plans.Rising.{Rises, rises_lower, rises_append, job_key, enter_rises}

-- ---- in order

abbrev task_of : ℕ × Outcome → ℕ
task_of e = e.0

abbrev own_of : Content → ℕ
own_of m = number_of m.own

stores_above : (low : ℕ) (js : Jobs) (high : ℕ) → Rises (job_key false) low js high → Above task_of low (stores_in (all_sent js))
stores_above low [] high r = tt
stores_above low (store t o ∷ js) high r = (r.0, stores_above t js high (rises_lower (job_key false) t (suc t) js high (omega arith) r.1))
stores_above low (publish m ∷ js) high r = stores_above low js high r
stores_above low (part g t c ∷ js) high r = stores_above low js high r

messages_above : (low : ℕ) (js : Jobs) (high : ℕ) → Rises (job_key true) low js high → Above own_of low (messages_in (all_sent js))
messages_above low [] high r = tt
messages_above low (store t o ∷ js) high r = messages_above low js high r
messages_above low (publish m ∷ js) high r = (r.0, messages_above m.no js high (rises_lower (job_key true) m.no (suc m.no) js high (omega arith) r.1))
messages_above low (part g t c ∷ js) high r = messages_above low js high r

-- ---- by kind

stores_kind : (js : Jobs) → map (λ s. store s.0 s.1) (stores_in (all_sent js)) ≡ all_sent (picked only_store js)
stores_kind [] = refl
stores_kind (store t o ∷ js) = ap (λ ks. store t o ∷ ks) (stores_kind js)
stores_kind (publish m ∷ js) = stores_kind js
stores_kind (part g t c ∷ js) = stores_kind js

messages_kind : (js : Jobs) → map (λ m. publish m) (messages_in (all_sent js)) ≡ all_sent (picked only_publish js)
messages_kind [] = refl
messages_kind (store t o ∷ js) = messages_kind js
messages_kind (publish m ∷ js) = ap (λ ks. publish (content m) ∷ ks) (messages_kind js)
messages_kind (part g t c ∷ js) = messages_kind js

pub messages_sent : (js : Jobs) → messages_in (all_sent js) ≡ map content (messages_of js)
messages_sent [] = refl
messages_sent (store t o ∷ js) = messages_sent js
messages_sent (publish m ∷ js) = ap (λ ks. content m ∷ ks) (messages_sent js)
messages_sent (part g t c ∷ js) = messages_sent js

abbrev FewParts : Jobs → Type 0
FewParts js = NoParts js ⊎ ((g : ℕ) × (d : ℕ) × (c : Carried) × (picked only_part js ≡ part g d c ∷ []))

few : (behind : _) (t : ℕ) (js : Jobs) → Shape behind t js → FewParts js
few behind t js (inl n) = inl n
few behind t js (inr (g, d, c, e, h)) = inr (g, d, c, e)

cut : (g t h d : ℕ) (c e : Carried) (ks : Jobs) → ◌≡◌ {A = Jobs} (part g t c ∷ ks) (part h d e ∷ []) → ks ≡ []
cut g t h d c e ks s = cc

no_job : (g t : ℕ) (c : Carried) (ks : Jobs) → ◌≡◌ {A = Jobs} (part g t c ∷ ks) [] → ⊥
no_job g t c ks e = cc

parts_kind : (js : Jobs) → FewParts js → part_jobs (part_in (all_sent js)) ≡ all_sent (picked only_part js)
parts_kind [] f = refl
parts_kind (store t o ∷ js) f = parts_kind js f
parts_kind (publish m ∷ js) f = parts_kind js f
parts_kind (part g t c ∷ js) (inl n) = absurd (no_job g t c (picked only_part js) n)
parts_kind (part g t c ∷ js) (inr (h, d, e, s)) = ap (λ ks. part g t (p_carried c) ∷ all_sent ks) (sym (cut g t h d c e (picked only_part js) s))

pub script_kind : (js : Jobs) (low high : ℕ) → Rises (job_key false) low js high → Rises (job_key true) low js high → FewParts js
    → script (effect_of (all_sent js)) ≡ all_sent (by_kind js)
script_kind js low high stores messages parts =
    ap₂ (λ a b. map (λ s. store s.0 s.1) a ++ b) (nothing_moves task_of low (stores_in (all_sent js)) (stores_above low js high stores))
    (ap₂ (λ a b. map (λ m. publish m) a ++ b) (nothing_moves own_of low (messages_in (all_sent js)) (messages_above low js high messages))
    (parts_kind js parts))
    ∙ (ap₂ (λ a b. a ++ b) (stores_kind js) (ap (λ a. a ++ all_sent (picked only_part js)) (messages_kind js)
    ∙ sym (map-append sent (picked only_publish js) (picked only_part js)))
    ∙ sym (map-append sent (picked only_store js) (picked only_publish js ++ picked only_part js)))

-- ---- of messages and headers of a plan

module _ (members : ℕ → List ℕ) (limit : ℕ) where
  lands_end : (p : Place) (behind : _) (t : ℕ) (l : Line) → Lands members p behind t l → EndsAt behind p l
  lands_end nowhere behind t l s = tt
  lands_end (in_group g) behind t l s = s.0
  lands_end (in_chord g c) behind t l s = s.0

  abbrev end_jobs : Message → Outcome → Jobs
  end_jobs m o = called m.links m.errbacks m.no o ++ enter m.rest (after_outcome o) m.place m.no (Some m.no)

  pub ended_script : (m : Message) (o : Outcome) → Formed members limit m → script (effects.after (content m) o) ≡ all_sent (after m o)
  ended_script m o f =
      ap (λ js. script (effect_of js)) (ended_sent m o (lands_end m.place true m.no m.rest f.9))
      ∙ script_kind (end_jobs m o) (suc m.no) f.2 (rises false) (rises true) (few true m.no (end_jobs m o) (ended_shape members limit m o f))
    where
      rises : (b : _) → Rises (job_key b) (suc m.no) (end_jobs m o) f.2
      rises b = rises_append (job_key b) (suc m.no) f.1 f.2 (called m.links m.errbacks m.no o) (enter m.rest (after_outcome o) m.place m.no (Some m.no))
          (called_rises members b m o f.0 f.1 f.5 f.6) (enter_rises members b m.rest (after_outcome o) m.place m.no (Some m.no) f.1 f.2 f.7)

  pub completed_script : (g t : ℕ) (c : Carried) (es : List (ℕ × Outcome)) → FormedPart members limit g t c
      → script (effects.body_after (p_carried c) es) ≡ all_sent (body_after c es)
  completed_script g t (carried n body q) es (i, (from, upto, l, top, below, size, inside, behind, lands)) =
      ap (λ js. script (effect_of js)) (completed_sent n body q es (lands_end q false 0 body lands))
      ∙ script_kind (enter body (header es) q 0 None) from upto (enter_rises members false body (header es) q 0 None from upto inside)
      (enter_rises members true body (header es) q 0 None from upto inside)
      (few false 0 (enter body (header es) q 0 None) (enter_shape members body (header es) q 0 None from upto false lands inside))

  pub first_sent : (l : Line) → LineIn members l 1 limit → effects.first_messages l ≡ map content (messages_of (enter l (run no_input) nowhere 0 None))
  first_sent l n =
      let js : Jobs = enter l (run no_input) nowhere 0 None in
      ap (λ ks. in_order own_of (messages_in ks)) (enter_sent l (run no_input) nowhere 0 None)
      ∙ (nothing_moves own_of 1 (messages_in (all_sent js)) (messages_above 1 js limit (enter_rises members true l (run no_input) nowhere 0 None 1 limit n))
      ∙ messages_sent js)
