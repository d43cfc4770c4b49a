-- What is left of following a core run where its acknowledgements are left aside: a list has its calls, takes perhaps earlier, and redeliveries anywhere.
use Rattle.std.proofs.Common.{◌≡◌, List, [], ◌∷◌, ◌++◌, map, Option, Some, None, refl, ap, subst, ◌∙◌}
use Rattle.canvas_history.specs.Queue as queue
use Rattle.canvas_runs.specs.Core.{Ask, Reply, to_queue, ack, from_queue, acked}
use Rattle.canvas_runs.specs.Calls.{QueueAnswered, CoreCall, makes, acknowledges, FollowsScripts, scripts_all, scripts_publish, scripts_list_take, scripts_core_take, scripts_again, scripts_ack, AskedAndAnswered, broker_call, broker_calls, core_call, core_calls}

pub data FollowsCore {E : Type 0} : List E → List (QueueAnswered E) → List (QueueAnswered E) → Type 0 where
  follows_all : {ts : List E} → FollowsCore ts [] []
  follows_publish : {ts : List E} {e : E} {cs ls : List (QueueAnswered E)} → FollowsCore ts cs ls
      → FollowsCore ts ((queue.publish e, None) ∷ cs) ((queue.publish e, None) ∷ ls)
  follows_list_take : {ts : List E} {t : E} {cs ls : List (QueueAnswered E)} → FollowsCore (ts ++ t ∷ []) cs ls → FollowsCore ts cs ((queue.take, Some t) ∷ ls)
  follows_core_take : {ts : List E} {t : E} {cs ls : List (QueueAnswered E)} → FollowsCore ts cs ls → FollowsCore (t ∷ ts) ((queue.take, Some t) ∷ cs) ls
  follows_again : {ts : List E} {e : E} {cs ls : List (QueueAnswered E)} → FollowsCore ts cs ls → FollowsCore ts cs ((queue.redeliver e, None) ∷ ls)

module _ {E : Type 0} where
  -- the calls without the acknowledgements
  abbrev pub unmarked : List (CoreCall E) → List (QueueAnswered E)
  unmarked [] = []
  unmarked (makes c ∷ cs) = c ∷ unmarked cs
  unmarked (acknowledges ∷ cs) = unmarked cs

  unmarked-append : (xs ys : List (CoreCall E)) → unmarked (xs ++ ys) ≡ unmarked xs ++ unmarked ys
  unmarked-append [] ys = refl
  unmarked-append (makes c ∷ xs) ys = ap (λ l. c ∷ l) (unmarked-append xs ys)
  unmarked-append (acknowledges ∷ xs) ys = unmarked-append xs ys

  unmarked-makes : (cs : List (QueueAnswered E)) → unmarked (map makes cs) ≡ cs
  unmarked-makes [] = refl
  unmarked-makes (c ∷ cs) = ap (λ l. c ∷ l) (unmarked-makes cs)

  accords : {h : Option E} {ts : List E} {cs : List (CoreCall E)} {ls : List (QueueAnswered E)} → FollowsScripts h ts cs ls → FollowsCore ts (unmarked cs) ls
  accords scripts_all = follows_all
  accords (scripts_publish f) = follows_publish (accords f)
  accords (scripts_list_take f) = follows_list_take (accords f)
  accords (scripts_core_take f) = follows_core_take (accords f)
  accords (scripts_again f) = follows_again (accords f)
  accords (scripts_ack f) = accords f

module _ {E : Type 0} where
  unmarked_call : (a : Ask E) (r : Reply E) → unmarked (core_call a r) ≡ broker_call a r
  unmarked_call (to_queue queue.take) (from_queue None) = refl
  unmarked_call (to_queue c) (from_queue x) = refl
  unmarked_call ack acked = refl
  unmarked_call a r = refl

  unmarked_calls : (xs : List (AskedAndAnswered E)) → unmarked (core_calls xs) ≡ broker_calls xs
  unmarked_calls [] = refl
  unmarked_calls (x ∷ xs) = unmarked-append (core_call x.0 x.1) (core_calls xs)
      ∙ (ap (λ l. l ++ unmarked (core_calls xs)) (unmarked_call x.0 x.1) ∙ ap (λ l. broker_call x.0 x.1 ++ l) (unmarked_calls xs))

  -- of a core run
  pub accords_run : {h : Option E} {ts : List E} {ls : List (QueueAnswered E)} (xs : List (AskedAndAnswered E)) → FollowsScripts h ts (core_calls xs) ls
      → FollowsCore ts (broker_calls xs) ls
  accords_run {h} {ts} {ls} xs f = subst (λ cs. FollowsCore ts cs ls) (unmarked_calls xs) (accords f)

  -- of a core run after some calls
  pub accords_behind : {h : Option E} {ts : List E} {ls : List (QueueAnswered E)} (cs : List (QueueAnswered E)) (xs : List (AskedAndAnswered E))
      → FollowsScripts h ts (map makes cs ++ core_calls xs) ls → FollowsCore ts (cs ++ broker_calls xs) ls
  accords_behind {h} {ts} {ls} cs xs f =
      subst (λ ds. FollowsCore ts ds ls) (unmarked-append (map makes cs) (core_calls xs)
      ∙ (ap (λ l. l ++ unmarked (core_calls xs)) (unmarked-makes cs) ∙ ap (λ l. cs ++ l) (unmarked_calls xs))) (accords f)
