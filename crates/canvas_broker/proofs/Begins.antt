-- The first pass keeps the rule, and so does each new one.
use Rattle.std.proofs.Common.{◌≡◌, ◌≢◌, ℕ, ◌<◌, List, [], ◌∷◌, length, set, inl, refl, sym, ap, subst, ⊎_elim, arith}
use Rattle.std.proofs.lemmas.Bool.{false≢true}
use mathlib.Core.Option.{some}
use lib.ListN.{get_elem?, length-append}
use Rattle.std.proofs.lemmas.List.{length-set}
use Rattle.crossbeam_queue.specs.Fifo.{Forks, Admits}
use Rattle.crossbeam_queue.proofs.Lists.{at_set}
use Rattle.canvas_history.specs.History.{live, NoneBy}
use Rattle.canvas_history.proofs.Histories.{In, in_cases}
use Rattle.canvas_broker.specs.steps.Rule.{callers, Agrees, Kept, root, newcomer}
use Rattle.canvas_broker.specs.declared.view.View.{View}
use Rattle.canvas_broker.proofs.RuleSteps.{All, none_of_none, old_caller, all_set, at_push}

module _ {E : Type 0} where
  pub begins : Kept [] (newcomer {E = E} ∷ [])
  begins =
      let only : (j : ℕ) (u : View E) → get_elem? (newcomer ∷ []) j ≡ some u → newcomer ≡ u =
      λ j u e. ⊎_elim (λ (t : (j < 0) × (get_elem? [] j ≡ some u)). absurd (omega (arith, t.0))) (λ (t : (j ≡ 0) × (newcomer ≡ u)). t.1)
      (at_push [] newcomer u j e) in (
        [],
        λ c. 0,
        record {
          legal = tt;
          replays = refl;
          numbered = λ c i. absurd (false≢true i);
          fits = λ j u e. subst (λ (x : View E). Agrees [] (λ c. 0) j x) (only j u e) (
            ([], refl, tt),
            (λ c i. absurd (false≢true i)),
            (λ i. absurd (false≢true i)),
            tt,
            (λ c i. absurd (false≢true i)),
          );
          begun = λ _. (refl, λ j u e. ap (λ (x : View E). callers x) (sym (only j u e)));
          opened = omega arith;
        },
      )

  -- a new pass does no harm
  pub admits : Admits Kept (newcomer {E = E})
  admits items views h =
      let log = h.0 in let owner = h.1 in let kept = h.2 in (
        log,
        owner,
        record {
          legal = kept.legal;
          replays = kept.replays;
          numbered = kept.numbered;
          opened = let y = kept.opened in omega (arith, length-append views (newcomer {E = E} ∷ []));
          begun = λ e.
              let first : get_elem? views 0 ≡ some newcomer = ⊎_elim (λ (t : (0 < length views) × (get_elem? views 0 ≡ some newcomer)). t.1)
              (λ (t : (0 ≡ length views) × (newcomer ≡ newcomer)). let y = kept.opened in let x : 0 ≡ length views = t.0 in absurd (omega (arith, y, x)))
              (at_push views newcomer newcomer 0 e) in
              let b = kept.begun first in (
                b.0,
                λ j u e'. ⊎_elim (λ (t : (j < length views) × (get_elem? views j ≡ some u)). b.1 j u t.1)
                    (λ (t : (j ≡ length views) × (newcomer ≡ u)). ap (λ (x : View E). callers x) (sym t.1))
                    (at_push views newcomer u j e'),
              );
          fits = λ j u e. ⊎_elim (λ (t : (j < length views) × (get_elem? views j ≡ some u)). kept.fits j u t.1)
              (λ (t : (j ≡ length views) × (newcomer ≡ u)). subst (λ (x : View E). Agrees log owner j x) t.1
              ((log, refl, none_of_none log), (λ c i. absurd (false≢true i)), (λ i. absurd (false≢true i)), tt, (λ c i. absurd (false≢true i))))
              (at_push views newcomer u j e);
        },
      )

  -- the first pass becomes the first caller
  pub roots : Forks Kept 0 (newcomer {E = E}) root newcomer
  roots items views h at =
      let log = h.0 in let owner = h.1 in let kept = h.2 in let b = kept.begun at in
      let owner' : ℕ → ℕ = λ c. 0 in
      let vs : List (View E) = set views 0 root in
      let F : ℕ → View E → Type 0 = λ j u. Agrees log owner' j u in
      let old : All F vs = all_set F views 0 root (
        (log, refl, subst (λ l. NoneBy (0 ∷ []) l) (sym b.0) tt),
        (λ c i. (refl, subst (λ l. In c (live l)) (sym b.0) i)),
        (λ i. i),
        tt,
        (λ c i. ⊎_elim (λ (z : 0 ≡ c). inl (sym z)) (λ t. absurd (false≢true t)) (in_cases c 0 [] i)),
      )
      (λ j u apart e. let f = kept.fits j u e in (f.0, (λ c i. absurd (false≢true (subst (λ l. In c l) (b.1 j u e) i))), f.2, f.3, f.4)) in
      let size : length vs ≡ length views = length-set views 0 root in (
        log,
        owner',
        record {
          legal = kept.legal;
          replays = kept.replays;
          numbered = kept.numbered;
          opened = let y = kept.opened in omega (arith, size, length-append vs (newcomer {E = E} ∷ []));
          begun = λ e. absurd (⊎_elim
              (λ (t : (0 < length vs) × (get_elem? vs 0 ≡ some newcomer)). ⊎_elim (λ (s : (0 ≡ 0) × (root ≡ newcomer)). old_caller 0 root refl s.1)
              (λ (s : (0 ≢ 0) × (get_elem? views 0 ≡ some newcomer)). s.0 refl) (at_set views 0 0 root newcomer t.1))
              (λ (t : (0 ≡ length vs) × (newcomer ≡ newcomer)). let y = kept.opened in let x : 0 ≡ length vs = t.0 in omega (arith, y, x, size))
              (at_push vs newcomer newcomer 0 e));
          fits = λ j u e. ⊎_elim (λ (t : (j < length vs) × (get_elem? vs j ≡ some u)). old j u t.1)
              (λ (t : (j ≡ length vs) × (newcomer ≡ u)). subst (λ (x : View E). Agrees log owner' j x) t.1
              ((log, refl, none_of_none log), (λ c i. absurd (false≢true i)), (λ i. absurd (false≢true i)), tt, (λ c i. absurd (false≢true i))))
              (at_push vs newcomer u j e);
        },
      )

  pub roots_at : (pass : ℕ) (v : View E) → pass ≡ 0 → v ≡ newcomer → Forks Kept pass v root newcomer
  roots_at pass v z e = subst (λ (y : ℕ × View E). Forks Kept y.0 y.1 root newcomer) (λ i. (sym z i, sym e i)) roots
