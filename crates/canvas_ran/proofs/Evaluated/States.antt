-- What the walk finds is what evaluating gives: the ends of a header have rows of their own among those of a plan.
use Rattle.std.proofs.Common.{◌≡◌, ◌∙◌, [], ◌∷◌, ◌++◌, Option, Some, refl, sym, ap, append-nil}
use Rattle.std.proofs.lemmas.List.{map-append}
use Rattle.canvas_task.specs.Apply.{Behaviour}
use Rattle.canvas_semantics.specs.Tree.{Task, task, Tasks, no_tasks, and_task, numbered}
use Rattle.canvas_semantics.specs.Evaluation.{Flow, nothing, State, Rows, state_of, with_states, state, to_links, to_errbacks, passed_on, group_value, task_rows, tasks_rows, eval, all_ends}
use Rattle.canvas_semantics.specs.Line.{Line, stop, step, group_end, chord_end, Lines, no_lines, and_line, members_of, ends_of, all_ends_of, tree_of}
use Rattle.canvas_semantics.specs.States.{states}
use Rattle.canvas_semantics.proofs.EndLemmas.{ends_of_tree}
use Rattle.canvas_semantics.proofs.Numbered.{tree_numbered}
use Rattle.canvas_semantics.proofs.RowNumbers.{states_in, states_listed}
use Rattle.canvas_rewrite.specs.Planned.{IsPlan}
use Rattle.canvas_ran.specs.Ran.{header_out}
use Rattle.canvas_ran.proofs.RanLaw.{Holds, holds_left, holds_right, same_states, line_rows, all_rows, members_there, plan_holds}
use Rattle.canvas_ran.specs.steps.Walked.{task_states, tasks_states, line_ends, lines_ends, line_states, lines_states}

module _ (behaviour : Behaviour) where
  mutual
    task_right : (t : Task) (x : Option Flow) → task_states behaviour t x ≡ states_in (task_rows behaviour t x)
    task_right (task k call ls es) x =
        let s : State = state behaviour call x in
        ap (λ ss. s ∷ ss) ((λ i. tasks_right ls (to_links s) i ++ tasks_right es (to_errbacks k x s) i)
        ∙ sym (map-append (λ r. r.1) (tasks_rows behaviour ls (to_links s)) (tasks_rows behaviour es (to_errbacks k x s))))

    tasks_right : (ts : Tasks) (x : Option Flow) → tasks_states behaviour ts x ≡ states_in (tasks_rows behaviour ts x)
    tasks_right no_tasks x = refl
    tasks_right (and_task t ts) x =
        (λ i. task_right t x i ++ tasks_right ts x i) ∙ sym (map-append (λ r. r.1) (task_rows behaviour t x) (tasks_rows behaviour ts x))

  module _ (w : Rows) where
    of_header : (ms : Lines) (x : Flow) → Holds w (all_rows behaviour ms x)
        → with_states w (all_ends_of ms) ≡ with_states (all_rows behaviour ms x) (all_ends (members_of ms))
    of_header ms x h =
        same_states w (all_rows behaviour ms x) (all_ends_of ms) h (members_there behaviour ms x)
        ∙ ap (with_states (all_rows behaviour ms x)) (ends_of_tree (group_end 0 ms))

    mutual
      ends_right : (l : Line) (x : Flow) → Holds w (line_rows behaviour l x) → line_ends behaviour l x ≡ with_states w (ends_of l)
      ends_right stop x h = refl
      ends_right (step (task k call ls es) stop) x h = ap (λ s. (k, s) ∷ []) (sym h.0)
      ends_right (step (task k call ls es) (step u l)) x h =
          let out : Flow = passed_on (state behaviour call (Some x)) in
          ends_right (step u l) out (holds_right w (task_rows behaviour (task k call ls es) (Some x)) (line_rows behaviour (step u l) out) h)
      ends_right (step (task k call ls es) (group_end g ms)) x h =
          let out : Flow = passed_on (state behaviour call (Some x)) in
          ends_right (group_end g ms) out
          (holds_right w (task_rows behaviour (task k call ls es) (Some x)) (line_rows behaviour (group_end g ms) out) h)
      ends_right (step (task k call ls es) (chord_end g ms b)) x h =
          let out : Flow = passed_on (state behaviour call (Some x)) in
          ends_right (chord_end g ms b) out
          (holds_right w (task_rows behaviour (task k call ls es) (Some x)) (line_rows behaviour (chord_end g ms b) out) h)
      ends_right (group_end g ms) x h = all_right ms x (holds_left w (all_rows behaviour ms x) [] h)
      ends_right (chord_end g ms b) x h =
          let out : Flow = header_out behaviour ms x in
          let all : Holds w (all_rows behaviour ms x ++ line_rows behaviour b out) =
          holds_left w (all_rows behaviour ms x ++ line_rows behaviour b out) [] h in
          let header : Holds w (all_rows behaviour ms x) = holds_left w (all_rows behaviour ms x) (line_rows behaviour b out) all in
          let comes : group_value x (lines_ends behaviour ms x) ≡ out = ap (group_value x) (all_right ms x header ∙ of_header ms x header) in
          ap (λ y. line_ends behaviour b y) comes
          ∙ ends_right b out (holds_right w (all_rows behaviour ms x) (line_rows behaviour b out) all)

      all_right : (ms : Lines) (x : Flow) → Holds w (all_rows behaviour ms x) → lines_ends behaviour ms x ≡ with_states w (all_ends_of ms)
      all_right no_lines x h = refl
      all_right (and_line m ms) x h =
          let first = ends_right m x (holds_left w (line_rows behaviour m x) (all_rows behaviour ms x) h) in
          let others = all_right ms x (holds_right w (line_rows behaviour m x) (all_rows behaviour ms x) h) in
          (λ i. first i ++ others i) ∙ sym (map-append (λ k. (k, state_of k w)) (ends_of m) (all_ends_of ms))

    -- what flows into the body of a header
    into : (ms : Lines) (x : Flow) → Holds w (all_rows behaviour ms x) → group_value x (lines_ends behaviour ms x) ≡ header_out behaviour ms x
    into ms x h = ap (group_value x) (all_right ms x h ∙ of_header ms x h)

    mutual
      states_right : (l : Line) (x : Flow) → Holds w (line_rows behaviour l x) → line_states behaviour l x ≡ states_in (line_rows behaviour l x)
      states_right stop x h = refl
      states_right (step (task k call ls es) rest) x h =
          let t : Task = task k call ls es in
          let out : Flow = passed_on (state behaviour call (Some x)) in
          let later = states_right rest out (holds_right w (task_rows behaviour t (Some x)) (line_rows behaviour rest out) h) in
          (λ i. task_right t (Some x) i ++ later i)
          ∙ sym (map-append (λ r. r.1) (task_rows behaviour t (Some x)) (line_rows behaviour rest out))
      states_right (group_end g ms) x h =
          members_right ms x (holds_left w (all_rows behaviour ms x) [] h) ∙ ap states_in (sym (append-nil (all_rows behaviour ms x)))
      states_right (chord_end g ms b) x h =
          let out : Flow = header_out behaviour ms x in
          let all : Holds w (all_rows behaviour ms x ++ line_rows behaviour b out) =
          holds_left w (all_rows behaviour ms x ++ line_rows behaviour b out) [] h in
          let header : Holds w (all_rows behaviour ms x) = holds_left w (all_rows behaviour ms x) (line_rows behaviour b out) all in
          let first = members_right ms x header in
          let comes = into ms x header in
          (λ i. first i ++ line_states behaviour b (comes i))
          ∙ ap (λ ss. states_in (all_rows behaviour ms x) ++ ss)
          (states_right b out (holds_right w (all_rows behaviour ms x) (line_rows behaviour b out) all))
          ∙ sym (map-append (λ r. r.1) (all_rows behaviour ms x) (line_rows behaviour b out))
          ∙ ap states_in (sym (append-nil (all_rows behaviour ms x ++ line_rows behaviour b out)))

      members_right : (ms : Lines) (x : Flow) → Holds w (all_rows behaviour ms x) → lines_states behaviour ms x ≡ states_in (all_rows behaviour ms x)
      members_right no_lines x h = refl
      members_right (and_line m ms) x h =
          let first = states_right m x (holds_left w (line_rows behaviour m x) (all_rows behaviour ms x) h) in
          let others = members_right ms x (holds_right w (line_rows behaviour m x) (all_rows behaviour ms x) h) in
          (λ i. first i ++ others i) ∙ sym (map-append (λ r. r.1) (line_rows behaviour m x) (all_rows behaviour ms x))

  pub plan_states : (l : Line) → IsPlan l → line_states behaviour l nothing ≡ states behaviour (tree_of l)
  plan_states l p =
      let tree : tree_of l ≡ numbered (tree_of l) = ap tree_of (sym p.numbered) ∙ tree_numbered l in
      states_right (line_rows behaviour l nothing) l nothing (plan_holds behaviour l p)
      ∙ ap (λ t. states_in (eval behaviour t nothing).rows) tree
      ∙ sym (states_listed behaviour (tree_of l))
      ∙ ap (states behaviour) (sym tree)
