-- A batch of takes keeps the rule.
use Rattle.std.proofs.Common.{◌≡◌, ℕ, zero, suc, ◌<◌, ◌≤◌, ◌+◌, List, [], ◌∷◌, ◌++◌, Some, length, set, drop, get_or, refl, sym, ap, ◌∙◌, subst, append_assoc, append-nil, arith}
use Rattle.std.proofs.lemmas.Bool.{false≢true}
use Rattle.std.proofs.lemmas.List.{drop_more, drop-set-lt}
use mathlib.Core.Option.{some, some-ne-none}
use lib.ListN.{get_elem?}
use Rattle.crossbeam_queue.specs.Fifo.{PopsMany}
use Rattle.crossbeam_queue.proofs.Lists.{set_again, set_here}
use Rattle.canvas_history.specs.History.{calls, live_from, split_off, Allowed}
use Rattle.canvas_history.proofs.Histories.{In}
use Rattle.canvas_broker.specs.declared.item.Item.{Item}
use Rattle.canvas_broker.specs.declared.item.Item.TheVariants.{Queued, Mark}
use Rattle.canvas_history.specs.Queue.{take, QueueEntry, answer_of, next, May, IsLegal, queue_of, takes_of}
use Rattle.canvas_broker.specs.steps.Rule.{envelopes, IsReady, IsKept, Kept, knowledge, view_of, TakesAll}
use Rattle.canvas_broker.specs.declared.view.View.{View}
use Rattle.canvas_broker.proofs.Joins.{orderly_left}
use Rattle.canvas_broker.proofs.RuleSteps.{sole_rest, tail_of, named_after, queue_after, calls_stay, orderly, caller_lives, unseen, adds}

pub first_rest : {A : Type 0} (xs : List A) → 0 < length xs → (x : A) × (ys : List A) × (xs ≡ x ∷ ys)
first_rest [] h = absurd (omega (arith, h))
first_rest (x ∷ xs) h = (x, xs, refl)

pub no_rest : {A : Type 0} (xs : List A) → length xs ≡ 0 → xs ≡ []
no_rest [] h = refl
no_rest (x ∷ xs) h = absurd (omega (arith, h))

-- a batch whose next item is read, and is written over
module _ {E : Type 0} (xs : List (Item E)) (i : ℕ) (x y : Item E) (inside : i < length xs) (is : x ≡ get_or xs i x) where
  read_on : envelopes (drop i xs) ≡ envelopes (x ∷ drop (i + 1) (set xs i y))
  read_on = ap envelopes (drop_more xs i x inside ∙ (λ j. sym is j ∷ sym (drop-set-lt (i + 1) xs i y (omega arith)) j))

  pub read_queued : (e : E) → x ≡ Queued e → envelopes (drop i xs) ≡ e ∷ envelopes (drop (i + 1) (set xs i y))
  read_queued e queued = read_on ∙ ap (λ z. envelopes (z ∷ drop (i + 1) (set xs i y))) queued

  pub read_mark : ((e : E) → x ≡ Queued e → ⊥) → envelopes (drop i xs) ≡ envelopes (drop (i + 1) (set xs i y))
  read_mark other = read_on ∙ skips x (drop (i + 1) (set xs i y)) other
    where
      skips : (z : Item E) (zs : List (Item E)) → ((e : E) → z ≡ Queued e → ⊥) → envelopes (z ∷ zs) ≡ envelopes zs
      skips Mark zs none = refl
      skips (Queued e) zs none = absurd (none e refl)

module _ {E : Type 0} where
  takes_append_owed : (owed : List (QueueEntry E)) (log : List (QueueEntry E)) (p : ℕ) (x : E) (es : List E)
      → (log ++ (owed ++ calls p take (Some x) ∷ [])) ++ takes_of p es ≡ log ++ (owed ++ takes_of p (x ∷ es))
  takes_append_owed owed log p x es =
      append_assoc log (owed ++ calls p take (Some x) ∷ []) (takes_of p es)
      ∙ ap (λ l. log ++ l) (append_assoc owed (calls p take (Some x) ∷ []) (takes_of p es))

  set_twice : (views : List (View E)) (i : ℕ) (v w : View E) → set (set views i v) i w ≡ set views i w
  set_twice [] i v w = refl
  set_twice (x ∷ xs) zero v w = refl
  set_twice (x ∷ xs) (suc i) v w = ap (λ l. x ∷ l) (set_twice xs i v w)

  below : (views : List (View E)) (i : ℕ) (v : View E) → get_elem? views i ≡ some v → i < length views
  below [] i v e = absurd (some-ne-none v (sym e))
  below (x ∷ xs) zero v e = omega arith
  below (x ∷ xs) (suc i) v e = let r = below xs i v e in omega (arith, r)

  -- one take, by a pass that may have seen less than all
  one_take : (x : E) (items : List (Item E)) (views : List (View E)) (log : List (QueueEntry E)) (owner : ℕ → ℕ)
      (kept : IsKept (Queued x ∷ items) views log owner) (pass : ℕ) (v : View E)
      → get_elem? views pass ≡ some v → IsReady v
      → IsKept items (set views pass
      (view_of (knowledge v.knows.name (live_from v.knows.mine v.knows.owed) (log ++ tail_of v (calls v.knows.name take (Some x))) []) []))
      (log ++ tail_of v (calls v.knows.name take (Some x))) owner
  one_take x items views log owner kept pass v at ready =
      let o = orderly (Queued x ∷ items) views log owner kept pass v at ready in
      let e : QueueEntry E = calls v.knows.name take (Some x) in
      let front : queue_of (log ++ v.knows.owed) ≡ x ∷ envelopes items = queue_after v log o ∙ kept.replays in
      let may : Allowed [] answer_of next May (log ++ v.knows.owed) e =
      (caller_lives (Queued x ∷ items) views log owner kept pass v at ready, sym (ap (λ s. answer_of s take) front), tt) in
      let names : split_off (log ++ tail_of v e) ≡ split_off log = named_after v log e o ∙ append-nil (split_off log) in
      adds (Queued x ∷ items) views log owner kept pass v at ready items e owner [] refl may
      (ap (λ s. next s take) kept.replays)
      (calls_stay v.knows.name take (Some x))
      (λ c i. subst (λ l. c ≤ length l) (sym names) (kept.numbered c (subst (λ l. In c l) names i)))
      (λ c i. absurd (false≢true i))
      (λ c i. refl)

  -- further takes, by a pass that has seen all
  more_takes : (xs items : List (Item E)) (views : List (View E)) (log : List (QueueEntry E)) (owner : ℕ → ℕ) (pass p : ℕ) (cs : List ℕ)
      → IsKept (xs ++ items) views log owner → get_elem? views pass ≡ some (view_of (knowledge p cs log []) []) → In p cs
      → (log' : List (QueueEntry E)) × (log' ≡ log ++ takes_of p (envelopes xs))
      × IsKept items (set views pass (view_of (knowledge p cs log' []) [])) log' owner
  more_takes [] items views log owner pass p cs kept at here =
      (log, sym (append-nil log), subst (λ l. IsKept items l log owner) (sym (set_again views pass (view_of (knowledge p cs log []) []) at)) kept)
  more_takes (Mark ∷ xs) items views log owner pass p cs kept at here =
      more_takes xs items views log owner pass p cs
      (record { legal = kept.legal; replays = kept.replays; numbered = kept.numbered; fits = kept.fits; begun = kept.begun; opened = kept.opened }) at here
  more_takes (Queued x ∷ xs) items views log owner pass p cs kept at here =
      let e : QueueEntry E = calls p take (Some x) in
      let v : View E = view_of (knowledge p cs log []) [] in
      let log₁ : List (QueueEntry E) = log ++ e ∷ [] in
      let w : View E = view_of (knowledge p cs log₁ []) [] in
      let one : IsKept (xs ++ items) (set views pass w) log₁ owner = one_take x (xs ++ items) views log owner kept pass v at (here, refl) in
      let rest = more_takes xs items (set views pass w) log₁ owner pass p cs one (set_here views pass w (below views pass v at)) here in (
        rest.0,
        rest.1 ∙ append_assoc log (e ∷ []) (takes_of p (envelopes xs)),
        subst (λ l. IsKept items l rest.0 owner) (set_twice views pass w (view_of (knowledge p cs rest.0 []) [])) rest.2,
      )

  many : (xs items : List (Item E)) (views : List (View E)) (log : List (QueueEntry E)) (owner : ℕ → ℕ) (pass : ℕ) (v : View E)
      → IsKept (xs ++ items) views log owner → get_elem? views pass ≡ some v → IsReady v
      → (w : View E) × Kept items (set views pass w) × TakesAll v xs w
  many [] items views log owner pass v kept at ready =
      (v, (log, owner, subst (λ l. IsKept items l log owner) (sym (set_again views pass v at)) kept), (refl, ready))
  many (Mark ∷ xs) items views log owner pass v kept at ready =
      many xs items views log owner pass v
      (record { legal = kept.legal; replays = kept.replays; numbered = kept.numbered; fits = kept.fits; begun = kept.begun; opened = kept.opened }) at ready
  many (Queued x ∷ xs) items views log owner pass v kept at ready =
      let p = v.knows.name in let cs = live_from v.knows.mine v.knows.owed in
      let e : QueueEntry E = calls p take (Some x) in
      let o = orderly (Queued x ∷ (xs ++ items)) views log owner kept pass v at ready in
      let log₁ : List (QueueEntry E) = log ++ tail_of v e in
      let w₁ : View E = view_of (knowledge p cs log₁ []) [] in
      let here : In p cs = orderly_left p v.knows.mine v.knows.owed o in
      let one : IsKept (xs ++ items) (set views pass w₁) log₁ owner = one_take x (xs ++ items) views log owner kept pass v at ready in
      let rest = more_takes xs items (set views pass w₁) log₁ owner pass p cs one (set_here views pass w₁ (below views pass v at)) here in
      let w : View E = view_of (knowledge p cs rest.0 []) [] in
      let f = (kept.fits pass v at).0 in
      let es : List (QueueEntry E) = takes_of p (x ∷ envelopes xs) in
      let whole : rest.0 ≡ log ++ (v.knows.owed ++ es) = rest.1 ∙ takes_append_owed v.knows.owed log p x (envelopes xs) in (
        w,
        (rest.0, owner, subst (λ l. IsKept items l rest.0 owner) (set_twice views pass w₁ w) rest.2),
        (
          (
            refl,
            refl,
            refl,
            refl,
            (
              f.0,
              whole ∙ (ap (λ l. l ++ (v.knows.owed ++ es)) f.1 ∙ append_assoc v.knows.seen f.0 (v.knows.owed ++ es)),
              unseen (Queued x ∷ (xs ++ items)) views log owner kept pass v at ready,
              rest.2.legal,
              sole_rest v.knows f.0 o ready.0 (unseen (Queued x ∷ (xs ++ items)) views log owner kept pass v at ready) (subst (λ l. IsLegal l) f.1 kept.legal),
            ),
          ),
          (here, refl),
        ),
      )

  pub takes_many : (pass n : ℕ) (v : View E) → IsReady v → PopsMany Kept pass v n (TakesAll v)
  takes_many pass n v ready xs items views size h at = many xs items views h.0 h.1 pass v h.2 at ready
