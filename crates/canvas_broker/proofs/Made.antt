-- What the calls of a pass tell of its own entries, and of an empty queue.
use Rattle.std.specs.Prelude.{slice_index_or}
use Rattle.std.proofs.Common.{◌≡◌, ℕ, List, [], ◌∷◌, ◌++◌, None, refl, sym, ap, ◌∙◌, subst, append_assoc, append-nil}
use Rattle.canvas_history.specs.Callers.{told, Adds}
use Rattle.canvas_history.specs.History.{calls, made_by}
use Rattle.canvas_history.proofs.CallerLaws.{AllBy, adds_all}
use Rattle.canvas_history.proofs.Histories.{In, legal_right}
use Rattle.canvas_broker.specs.declared.item.Item.TheVariants.{Mark}
use Rattle.canvas_history.specs.Queue.{take, QueueEntry, answer_of, next, May, IsLegal, queue_of, takes_of}
use Rattle.canvas_history.specs.Passes.{CallerAt, Stands, CouldStand, Took, Empties}
use Rattle.canvas_broker.specs.steps.Rule.{Splits, child, knowledge, view_of}
use Rattle.canvas_broker.specs.declared.view.View.{View}

module _ {E : Type 0} where
  takes_by : (p : ℕ) (es : List E) → AllBy p (takes_of p es)
  takes_by p [] = tt
  takes_by p (e ∷ es) = (refl, takes_by p es)

  answers_none : (s : List E) → answer_of s take ≡ None → s ≡ []
  answers_none [] h = refl
  answers_none (x ∷ s) h = cc

module _ {E : Type 0} where
  -- the new caller that a split has made, by the view of its pass
  pub child_is : (v w : View E) → (s : Splits v Mark w) → child w ≡ view_of (knowledge s.0 (s.0 ∷ []) w.knows.seen []) []
  child_is v w s = ap (λ qs. view_of (knowledge (slice_index_or qs 0 0) qs w.knows.seen []) []) s.1

module _ {I E : Type 0} where
  -- of a call
  pub stands_own : (p : CallerAt I E) (e : QueueEntry E) (p' : CallerAt I E) → In p.name p.mine → AllBy p.name (e ∷ []) → Stands p e p' → Adds p (e ∷ []) p'
  stands_own p e p' here by s = adds_all [] answer_of next May p (e ∷ []) p' here by s.3 s.4

  -- of a batch
  pub took_own : (p : CallerAt I E) (es : List E) (p' : CallerAt I E) → In p.name p.mine → Took p es p' → Adds p (takes_of p.name es) p'
  took_own p [] p' here t = ap (λ (c : CallerAt I E). made_by p.name (told c)) t ∙ sym (append-nil (made_by p.name (told p)))
  took_own p (e ∷ es) p' here t = adds_all [] answer_of next May p (takes_of p.name (e ∷ es)) p' here (takes_by p.name (e ∷ es)) t.3 t.4

  -- where no other caller was live, a take answered None says that what was seen replays to the empty queue
  pub empties : (p : CallerAt I E) → CouldStand p (calls p.name take None) → Empties p
  empties p m sole =
      let x = m.1 in
      let last : List (QueueEntry E) = calls p.name take None ∷ [] in
      let whole : m.0 ≡ told p ++ last = x.1 ∙ (ap (λ b. p.seen ++ (b ++ (p.owed ++ last))) (x.4 sole) ∙ sym (append_assoc p.seen p.owed last)) in
      answers_none (queue_of (told p)) (sym (legal_right [] answer_of next May [] (told p) last (subst (λ l. IsLegal l) whole x.3)).0.1)
