-- What is foreseen of a task, by its fields.
use Rattle.std.proofs.Common.{◌≡◌, ap, ◌∙◌, sym, List, [], ◌∷◌, ◌++◌, map, length, refl, suc, ℕ, Result, OnOk, subst, append_assoc}
use Rattle.std.specs.declared.alloc.AllocError.{AllocError}
use Rattle.canvas_task.specs.Apply.{Behaviour}
use Rattle.canvas_values.specs.SignatureView.{view, task_view, tasks_of, trees_of}
use Rattle.canvas_values.specs.ComposedRefusals.{its_call}
use Rattle.canvas_values.specs.declared.task_sig.TaskSig.{TaskSig, out-TaskSig}
use Rattle.canvas_values.specs.declared.node.Node.{Node}
use Rattle.canvas_values.proofs.Views.{task_seen}
use Rattle.canvas_check.specs.Calls.{expected}
use Rattle.canvas_check.specs.Positions.{before, behind, of_callback}
use Rattle.canvas_check.specs.Foreseen.{of_task, task_told, tasks_told, told, elements_told, out_of, out_of_each, trees_count, tasks_count}
use Rattle.canvas_check.specs.declared.forecast.Forecast.{Forecast}
use Rattle.canvas_check.specs.declared.position.Position.{Position}
use Rattle.canvas_check.specs.declared.position.Input.{Input}
use Rattle.canvas_check.specs.declared.position.Input.TheVariants.{Number, Identifier}

pub task_is : (b : Behaviour) (t : TaskSig) (s : Position)
    → task_told b (task_view t) s
    ≡ of_task (expected b (its_call (task_view t)) s.input) (tasks_count (tasks_of (map task_view (out-TaskSig t).errbacks))) s
    ∷ tasks_told b (tasks_of (map task_view (out-TaskSig t).links)) (of_callback Number)
    ++ tasks_told b (tasks_of (map task_view (out-TaskSig t).errbacks)) (of_callback Identifier)
task_is b t s =
    let links = tasks_of (map task_view (out-TaskSig t).links) in
    let errbacks = tasks_of (map task_view (out-TaskSig t).errbacks) in
    ap (λ v. task_told b v s) (task_seen t)
    ∙ ap (λ c. of_task (expected b c s.input) (tasks_count errbacks) s
    ∷ tasks_told b links (of_callback Number) ++ tasks_told b errbacks (of_callback Identifier)) (sym (ap its_call (task_seen t)))

pub tasks_counted : (ts : List TaskSig) → tasks_count (tasks_of (map task_view ts)) ≡ length ts
tasks_counted [] = refl
tasks_counted (t ∷ ts) = ap suc (tasks_counted ts)

pub counted : (ns : List Node) → trees_count (trees_of (map view ns)) ≡ length ns
counted [] = refl
counted (n ∷ ns) = ap suc (counted ns)

-- ---- the forecasts so far, with those for a signature and its parts appended

pub ok_same : {X : Type 0} (r : Result (Unit {0}) AllocError) (x a b : List X) → a ≡ b → OnOk r (x ≡ a) → OnOk r (x ≡ b)
ok_same {X = X} r x a b e h = let P : List X → Type 0 = λ y. OnOk r (x ≡ y) in subst P e h

pub two : {X : Type 0} (before : List X) (x : X) (ys zs ys' zs' a b : List X) → a ≡ before ++ x ∷ [] → b ≡ a ++ ys → ys ≡ ys' → zs ≡ zs'
    → b ++ zs ≡ before ++ (x ∷ ys' ++ zs')
two before x ys zs ys' zs' a b ha hb hy hz =
    (λ i. (hb ∙ ap (λ w. w ++ ys) ha ∙ append_assoc before (x ∷ []) ys ∙ ap (λ w. before ++ (x ∷ w)) hy) i ++ hz i) ∙ append_assoc before (x ∷ ys') zs'

-- ---- one element, and then the others

elements_are : (b : Behaviour) (n : Node) (rest : List Node) (s : Position) (k : ℕ) → k ≡ length rest
    → elements_told b (trees_of (map view (n ∷ rest))) s
    ≡ told b (view n) (before k s) ++ elements_told b (trees_of (map view rest)) (behind (out_of (view n) s.input) s)
elements_are b n rest s k h =
    ap (λ m. told b (view n) (before m s) ++ elements_told b (trees_of (map view rest)) (behind (out_of (view n) s.input) s))
    (counted rest ∙ sym h)

next_position : (n : Node) (here at next : Position) (k : ℕ) (o : Input) → at ≡ before k here → o ≡ out_of (view n) at.input
    → next ≡ behind o here → next ≡ behind (out_of (view n) here.input) here
next_position n here at next k o ha ho hn = hn ∙ ap (λ i. behind i here) (ho ∙ ap (λ s. out_of (view n) s.input) ha)

pub step_told : (b : Behaviour) (l p : List Forecast) (n : Node) (ns rest : List Node) (here at next : Position) (k : ℕ) (o : Input)
    → ns ≡ n ∷ rest → k ≡ length rest → at ≡ before k here → o ≡ out_of (view n) at.input → next ≡ behind o here
    → p ≡ l ++ told b (view n) at
    → p ++ elements_told b (trees_of (map view rest)) next ≡ l ++ elements_told b (trees_of (map view ns)) here
step_told b l p n ns rest here at next k o hns hk ha ho hn hp =
    let E : List Node → Position → List Forecast = λ xs s. elements_told b (trees_of (map view xs)) s in
    ap (λ w. w ++ E rest next) hp ∙ append_assoc l (told b (view n) at) (E rest next)
    ∙ ap (λ w. l ++ w) (ap (λ s. told b (view n) s ++ E rest next) ha
    ∙ ap (λ s. told b (view n) (before k here) ++ E rest s) (next_position n here at next k o ha ho hn)
    ∙ sym (elements_are b n rest here k hk) ∙ ap (λ xs. E xs here) (sym hns))

pub step_out : (n : Node) (ns rest : List Node) (here at next : Position) (k : ℕ) (o : Input)
    → ns ≡ n ∷ rest → at ≡ before k here → o ≡ out_of (view n) at.input → next ≡ behind o here
    → out_of_each (trees_of (map view rest)) next.input ≡ out_of_each (trees_of (map view ns)) here.input
step_out n ns rest here at next k o hns ha ho hn =
    ap (λ s. out_of_each (trees_of (map view rest)) s.input) (next_position n here at next k o ha ho hn)
    ∙ ap (λ xs. out_of_each (trees_of (map view xs)) here.input) (sym hns)
