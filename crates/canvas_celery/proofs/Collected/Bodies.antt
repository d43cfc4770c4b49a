-- What flows into a body, by the rows of outcomes of its header's last tasks.
use Rattle.std.proofs.Common.{◌≡◌, ◌∙◌, ◌-◌, ◌⊎◌, ℕ, List, [], ◌∷◌, ◌++◌, append_assoc, append-nil, Some, None, IsSome, ℤ, refl, sym, ap, subst}
use Rattle.canvas_task.specs.Apply.{Behaviour}
use Rattle.canvas_task.specs.declared.outcome.Fault.{Fault}
use Rattle.canvas_task.specs.declared.outcome.Outcome.TheVariants.{Success, Failure}
use Rattle.canvas_semantics.specs.Tree.{Trees}
use Rattle.canvas_semantics.specs.Evaluation.{Flow, nothing, num, list, id, skip, raised, State, Rows, passed_on, gathered, group_value, with_states, all_ends, member_rows}
use Rattle.canvas_celery.specs.Completed.{Keeps, HasRows, state_at}
use Rattle.canvas_celery.specs.Completing.{passed, gathered_on, gathered_from, into_body}
use Rattle.canvas_celery.specs.Looks.{Look, known, look_at}
use Rattle.canvas_celery.specs.declared.results.completing.Flow as flow
use Rattle.canvas_celery.specs.declared.results.completing.Flow.TheVariants.{Value, Skip, Raise, Pending}
use Rattle.canvas_celery.proofs.Collected.Flows.{IsValue, IsKnown, IsTold, Within, AllThere, listed, shown}
use Rattle.canvas_celery.proofs.Collected.Gathering.{of_row, of_value, of_raise, success_behind, failure_behind, skip_stays, raise_stays}
use Rattle.canvas_celery.proofs.Collected.Reached.{ends_listed}
use Rattle.canvas_celery.proofs.Collected.Shown.{shown_at}

pub known_kept : (way : flow.Flow) (old new : List State) (x : Flow) → Keeps old new → IsKnown old way x → IsKnown new way x
known_kept Value old new x keeps h = h
known_kept (Skip d) old new x keeps (f, at, e) = (f, keeps.stays (d - 1) (Failure f) at, e)
known_kept (Raise d) old new x keeps (f, at, e) = (f, keeps.stays (d - 1) (Failure f) at, e)
known_kept Pending old new x keeps h = tt

-- ---- out of a task

passed_by : (now s : List State) (k : ℕ) (x : Flow) (st : State) → state_at now k ≡ st → (state_at now k ≡ None) ⊎ (state_at now k ≡ state_at s k)
    → passed_on (state_at s k) ≡ x → IsKnown now (passed k (known st)) x
passed_by now s k x None at may e = tt
passed_by now s k x (Some (Success n)) at may e =
    let there : state_at s k ≡ Some (Success n) = of_row (state_at now k) (state_at s k) (Success n) may at in
    let out : num n ≡ x = sym (ap passed_on there) ∙ e in
    let P : Flow → Type 0 = λ y. IsValue y in
    subst P out tt
passed_by now s k x (Some (Failure f)) at may e =
    let there : state_at s k ≡ Some (Failure f) = of_row (state_at now k) (state_at s k) (Failure f) may at in
    let out : x ≡ skip f = sym e ∙ ap passed_on there in
    (f, at, out)

pub passed_known : (now s : List State) (k : ℕ) (x : Flow) → Within now s → passed_on (state_at s k) ≡ x
    → IsKnown now (passed k (look_at (shown now) k)) x
passed_known now s k x w e =
    let P : Look → Type 0 = λ y. IsKnown now (passed k y) x in
    subst P (sym (shown_at now k)) (passed_by now s k x (state_at now k) refl (w (k - 1)) e)

told_by : (k : ℕ) (st : State) → IsSome st → IsTold (passed k (known st))
told_by k None h = absurd cc
told_by k (Some (Success n)) h = tt
told_by k (Some (Failure f)) h = tt

pub passed_told : (now : List State) (k : ℕ) → IsSome (state_at now k) → IsTold (passed k (look_at (shown now) k))
passed_told now k h =
    let P : Look → Type 0 = λ y. IsTold (passed k y) in
    subst P (sym (shown_at now k)) (told_by k (state_at now k) h)

-- ---- out of the last tasks of a header

success_on : (way : flow.Flow) (now : List State) (es : Rows) (k : ℕ) (n : ℤ) → IsKnown now way (gathered es)
    → IsKnown now way (gathered (es ++ (k, Some (Success n)) ∷ []))
success_on Value now es k n h = success_behind es k n h
success_on (Skip d) now es k n (f, at, e) = (f, at, skip_stays es _ f e)
success_on (Raise d) now es k n (f, at, e) = (f, at, raise_stays es _ _ e)
success_on Pending now es k n h = tt

failure_on : (way : flow.Flow) (now : List State) (es : Rows) (k : ℕ) (f : Fault) → state_at now k ≡ Some (Failure f) → IsKnown now way (gathered es)
    → IsKnown now (gathered_on way (Skip k)) (gathered (es ++ (k, Some (Failure f)) ∷ []))
failure_on Value now es k f at h = (f, at, failure_behind es k f h)
failure_on (Skip d) now es k f at (g, there, e) = (g, there, skip_stays es _ g e)
failure_on (Raise d) now es k f at (g, there, e) = (g, there, raise_stays es _ _ e)
failure_on Pending now es k f at h = tt

gathered_by : (way : flow.Flow) (now s : List State) (es : Rows) (k : ℕ) (st : State) → state_at now k ≡ st
    → (state_at now k ≡ None) ⊎ (state_at now k ≡ state_at s k) → IsKnown now way (gathered es)
    → IsKnown now (gathered_on way (passed k (known st))) (gathered (es ++ (k, state_at s k) ∷ []))
gathered_by way now s es k None at may h = tt
gathered_by way now s es k (Some (Success n)) at may h =
    let there : state_at s k ≡ Some (Success n) = of_row (state_at now k) (state_at s k) (Success n) may at in
    let P : State → Type 0 = λ st. IsKnown now way (gathered (es ++ (k, st) ∷ [])) in
    subst P (sym there) (success_on way now es k n h)
gathered_by way now s es k (Some (Failure f)) at may h =
    let there : state_at s k ≡ Some (Failure f) = of_row (state_at now k) (state_at s k) (Failure f) may at in
    let P : State → Type 0 = λ st. IsKnown now (gathered_on way (Skip k)) (gathered (es ++ (k, st) ∷ [])) in
    subst P (sym there) (failure_on way now es k f at h)

gathered_known : (ks : List ℕ) (way : flow.Flow) (now s : List State) (es : Rows) → Within now s → IsKnown now way (gathered es)
    → IsKnown now (gathered_from way ks (shown now)) (gathered (es ++ listed s ks))
gathered_known [] way now s es w h = let P : Rows → Type 0 = λ fs. IsKnown now way (gathered fs) in subst P (sym (append-nil es)) h
gathered_known (k ∷ ks) way now s es w h =
    let P : Look → Type 0 = λ y. IsKnown now (gathered_on way (passed k y)) (gathered (es ++ (k, state_at s k) ∷ [])) in
    let one = subst P (sym (shown_at now k)) (gathered_by way now s es k (state_at now k) refl (w (k - 1)) h) in
    let Q : Rows → Type 0 = λ fs. IsKnown now (gathered_from (gathered_on way (passed k (look_at (shown now) k))) ks (shown now)) (gathered fs) in
    subst Q (append_assoc es ((k, state_at s k) ∷ []) (listed s ks))
    (gathered_known ks (gathered_on way (passed k (look_at (shown now) k))) now s (es ++ (k, state_at s k) ∷ []) w one)

step_told : (way : flow.Flow) (k : ℕ) (st : State) → IsTold way → IsSome st → IsTold (gathered_on way (passed k (known st)))
step_told way k None told h = absurd cc
step_told way k (Some (Success n)) told h = told
step_told Value k (Some (Failure f)) told h = tt
step_told (Skip d) k (Some (Failure f)) told h = tt
step_told (Raise d) k (Some (Failure f)) told h = tt
step_told Pending k (Some (Failure f)) told h = absurd told

gathered_told : (ks : List ℕ) (way : flow.Flow) (now : List State) → AllThere now ks → IsTold way → IsTold (gathered_from way ks (shown now))
gathered_told [] way now all told = told
gathered_told (k ∷ ks) way now all told =
    let P : Look → Type 0 = λ y. IsTold (gathered_on way (passed k y)) in
    let one = subst P (sym (shown_at now k)) (step_told way k (state_at now k) told all.0) in
    gathered_told ks (gathered_on way (passed k (look_at (shown now) k))) now all.1 one

-- ---- into a body

of_none : (x : Flow) → IsValue x → IsValue (group_value x [])
of_none nothing h = tt
of_none (num n) h = tt
of_none (list ns) h = tt
of_none (id k) h = tt
of_none (skip f) h = absurd h
of_none (raised f) h = absurd h

body_by : (ks : List ℕ) (way : flow.Flow) (now s : List State) (x : Flow) → Within now s → IsKnown now way x
    → IsKnown now (into_body way ks (shown now)) (group_value x (listed s ks))
body_by [] Value now s x w h = of_none x h
body_by [] (Skip d) now s x w (f, at, e) = (f, at, ap (λ y. group_value y []) e)
body_by [] (Raise d) now s x w (f, at, e) = (f, at, ap (λ y. group_value y []) e)
body_by [] Pending now s x w h = tt
body_by (k ∷ ks) Value now s x w h =
    let P : Flow → Type 0 = λ y. IsKnown now (gathered_from Value (k ∷ ks) (shown now)) y in
    subst P (sym (of_value x (listed s (k ∷ ks)) h)) (gathered_known (k ∷ ks) Value now s [] w tt)
body_by (k ∷ ks) (Skip d) now s x w (f, at, e) = (f, at, ap (λ y. group_value y (listed s (k ∷ ks))) e)
body_by (k ∷ ks) (Raise d) now s x w (f, at, e) =
    let P : Flow → Type 0 = λ y. IsKnown now (gathered_from Value (k ∷ ks) (shown now)) y in
    subst P (sym (of_raise x _ (k, state_at s k) (listed s ks) e)) (gathered_known (k ∷ ks) Value now s [] w tt)
body_by (k ∷ ks) Pending now s x w h = tt

pub body_known : (b : Behaviour) (ks : List ℕ) (way : flow.Flow) (now s : List State) (x : Flow) (h : Trees) → Within now s → IsKnown now way x
    → ks ≡ all_ends h → HasRows s (member_rows b h x)
    → IsKnown now (into_body way ks (shown now)) (group_value x (with_states (member_rows b h x) (all_ends h)))
body_known b ks way now s x h w told named has =
    let es : with_states (member_rows b h x) (all_ends h) ≡ listed s ks = ends_listed b s h x has ∙ ap (listed s) (sym named) in
    let P : Rows → Type 0 = λ fs. IsKnown now (into_body way ks (shown now)) (group_value x fs) in
    subst P (sym es) (body_by ks way now s x w told)

pub body_told : (ks : List ℕ) (way : flow.Flow) (now : List State) → AllThere now ks → IsTold way → IsTold (into_body way ks (shown now))
body_told [] Value now all told = tt
body_told [] (Skip d) now all told = tt
body_told [] (Raise d) now all told = tt
body_told [] Pending now all told = absurd told
body_told (k ∷ ks) Value now all told = gathered_told (k ∷ ks) Value now all tt
body_told (k ∷ ks) (Skip d) now all told = tt
body_told (k ∷ ks) (Raise d) now all told = gathered_told (k ∷ ks) Value now all tt
body_told (k ∷ ks) Pending now all told = absurd told
