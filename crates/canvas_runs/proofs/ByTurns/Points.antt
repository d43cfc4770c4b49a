-- The task of a point: before a message's own store the envelope of the open script reads as that message.
use Rattle.std.proofs.Common.{◌≡◌, ℕ, cond, true, false, List, [], ◌∷◌, ◌++◌, Option, Some, None, refl, sym, ap, ◌∙◌, subst}
use Rattle.canvas_task.specs.Apply.{Behaviour}
use Rattle.canvas_semantics.specs.Line.{Line}
use Rattle.canvas_envelope.specs.Content.{Content, number_of}
use Rattle.canvas_effects.specs.Job.{store, publish, part}
use Rattle.canvas_envelope.specs.declared.envelope.Envelope.{Envelope}
use Rattle.canvas_history.specs.Table as table
use Rattle.canvas_history.specs.Queue as queue
use Rattle.canvas_runs.specs.Book.{book_of}
use Rattle.canvas_runs.specs.Calls.{AskedAndAnswered, scripts_of, held_by, held_after}
use Rattle.canvas_runs.specs.Core.{Ask, Reply, to_queue, from_queue, from_table, refused, rested, acked, taking, resting, owning, doing, reading, acking, ask, answered, Doing, settled, opens, owned, part_counted, all_read, is_due, Suits, IsCoreRun, left_after}
use Rattle.canvas_history.specs.Lists.{by}
use Rattle.canvas_runs.specs.declared.when.When.TheVariants.{Early}
use Rattle.canvas_runs.specs.Worker.{worker, opened}
use Rattle.canvas_runs.specs.Redeliveries.{message_in, point_of, point, comes_to}
use Rattle.canvas_runs.specs.TurnLaws.{ByTurns}
use Rattle.canvas_runs.specs.Turns.{Step, left, holds}
use Rattle.canvas_runs.proofs.ByTurns.Redeliveries.{is_owning, past_settled, past_owned, handed_owning, read_owning}
use Rattle.canvas_runs.proofs.ByTurns.TurnLaw.{holds as sound}

module _ (behaviour : Behaviour) (l : Line) where
  abbrev Owns : Doing (worker behaviour l) → Option Envelope → Type 0
  Owns (owning m) h = message_in l h ≡ Some m
  Owns s h = Unit {0}

  owns_other : (s : Doing (worker behaviour l)) (h : Option Envelope) → is_owning behaviour l 0 s ≡ false → Owns s h
  owns_other (owning m) h e = absurd (cc)
  owns_other s h e = tt

  owns_step : (s : Doing (worker behaviour l)) (h : Option Envelope) (r : Reply Envelope) → Suits (ask (worker behaviour l) s) r
      → Owns (answered (worker behaviour l) s r) (held_by h (ask (worker behaviour l) s) r)
  owns_step taking h (from_queue None) u = tt
  owns_step taking h (from_queue (Some e)) u = go (opened (book_of l) e) refl
    where
      go : (x : Option Content) → opened (book_of l) e ≡ x → Owns (opens (worker behaviour l) x) (Some e)
      go None q = tt
      go (Some m) q = q
  owns_step resting h (rested true) u = tt
  owns_step resting h (rested false) u = tt
  owns_step (owning m) h (from_table (table.was b)) u = owns_other (owned (worker behaviour l) m b) h (past_owned behaviour l 0 m b).0
  owns_step (doing (store t o ∷ js) b) h (from_table (table.was a)) u =
      owns_other (settled (worker behaviour l) js (cond (is_due t js) a b)) h (past_settled behaviour l 0 js (cond (is_due t js) a b)).0
  owns_step (doing (publish m ∷ js) b) h (from_queue None) u = owns_other (settled (worker behaviour l) js b) h (past_settled behaviour l 0 js b).0
  owns_step (doing (publish m ∷ js) b) h refused u = tt
  owns_step (doing (part g t c ∷ js) b) h (from_table (table.count i)) u =
      owns_other (part_counted (worker behaviour l) g c i) h (handed_owning behaviour l 0 g c i)
  owns_step (reading g c t fs) h (from_table (table.found (Some o))) u =
      owns_other (all_read (worker behaviour l) g c (fs ++ (t, o) ∷ [])) h (read_owning behaviour l 0 g c (fs ++ (t, o) ∷ []))
  owns_step (reading g c t fs) h (from_table (table.found None)) u = tt
  owns_step acking h acked u = tt
  owns_step s h r u = elim u [ ]

  owns_run : (s : Doing (worker behaviour l)) (h : Option Envelope) (ys : List (AskedAndAnswered Envelope)) → Owns s h
      → IsCoreRun (worker behaviour l) s (scripts_of ys) → Owns (left_after (worker behaviour l) s (scripts_of ys)) (held_after h ys)
  owns_run s h [] o c = o
  owns_run s h ((a, r) ∷ ys) o c = go a r (λ z k p q. owns_run z k ys p q) c
    where
      go : (a : Ask Envelope) (r : Reply Envelope)
          → ((z : Doing (worker behaviour l)) (k : Option Envelope) → Owns z k → IsCoreRun (worker behaviour l) z (scripts_of ys)
          → Owns (left_after (worker behaviour l) z (scripts_of ys)) (held_after k ys))
          → IsCoreRun (worker behaviour l) s (scripts_of ((a, r) ∷ ys))
          → Owns (left_after (worker behaviour l) s (scripts_of ((a, r) ∷ ys))) (held_after (held_by h a r) ys)
      go (to_queue (queue.redeliver e)) r f c = f s h o c
      go a r f c = f (answered (worker behaviour l) s r) (held_by h a r)
          (subst (λ b. Owns (answered (worker behaviour l) s r) (held_by h b r)) (sym c.0) (owns_step s h r (subst (λ b. Suits b r) c.0 c.1.0))) c.2

  -- so before a message's own store a worker has come to the early point of its task
  pub comes_early : (n : ℕ) (us : List ℕ) (xs : List Step) → ByTurns behaviour l n us xs → (p : ℕ) (m : Content) → left behaviour l xs p ≡ owning m
      → comes_to behaviour l xs p ≡ Some (number_of m.own, Early)
  comes_early n us xs t p m e =
      let own : Owns (left behaviour l xs p) (holds xs p) = owns_run taking None (by p xs) tt ((sound behaviour l n us xs t).lawful.core p) in
      let here : message_in l (holds xs p) ≡ Some m = subst (λ s. Owns s (holds xs p)) e own in
      ap (λ s. point l s (holds xs p)) e ∙ ap (point_of l Early) here
