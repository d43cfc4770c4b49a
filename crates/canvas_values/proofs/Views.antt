-- The data of a signature, from that of the signatures in it.
use Rattle.std.proofs.Common.{◌≡◌, ℕ, Bool, ap, ◌∙◌, sym, List, map, Box, Global, rules}
use Rattle.canvas_semantics.specs.Tree.{Task, task, one, chain, group, chord}
use Rattle.canvas_values.specs.SignatureView.{view, task_view, task_step, tasks_of, trees_of}
use Rattle.canvas_task.specs.declared.arg.Arg.{Arg}
use Rattle.canvas_values.specs.declared.task_sig.TaskSig as sig
use Rattle.canvas_values.specs.declared.task_sig.TaskSig.{TaskSig, out-TaskSig, roll-TaskSig}
use Rattle.canvas_values.specs.declared.node.Node as node
use Rattle.canvas_values.specs.declared.node.Node.{Node, Chain, Group, Chord}

pub task_seen : (s : TaskSig)
    → task_view s ≡ task 0 (record {
      name = (out-TaskSig s).name;
      args = (out-TaskSig s).args;
      kwargs = (out-TaskSig s).kwargs;
      immutable =
          (out-TaskSig s).immutable;
    })
    (tasks_of (map task_view (out-TaskSig s).links)) (tasks_of (map task_view (out-TaskSig s).errbacks))
task_seen s = sig.fold_out-TaskSig Task task_step s

-- the data of a signature, from its parts
abbrev pub parts : List ℕ → List Arg → List (List ℕ × Arg) → Bool → List Task → List Task → Task
parts n a k i ls es = task 0 (record { name = n; args = a; kwargs = k; immutable = i }) (tasks_of ls) (tasks_of es)

pub made : (n : List ℕ) (a : List Arg) (k : List (List ℕ × Arg)) (i : Bool) (ls es : List TaskSig)
    → task_view (roll-TaskSig (record { name = n; args = a; kwargs = k; immutable = i; links = ls; errbacks = es }))
    ≡ parts n a k i (map task_view ls) (map task_view es)
made n a k i ls es = search (rules, sig.the_lemmas)

same_parts : {n n' : List ℕ} {a a' : List Arg} {k k' : List (List ℕ × Arg)} {i i' : Bool} {ls ls' es es' : List Task}
    → n ≡ n' → a ≡ a' → k ≡ k' → i ≡ i' → ls ≡ ls' → es ≡ es' → parts n a k i ls es ≡ parts n' a' k' i' ls' es'
same_parts {n} {n'} {a} {a'} {k} {k'} {i} {i'} {ls} {ls'} {es} {es'} hn ha hk hi hl he =
    ap (λ x. parts x a k i ls es) hn ∙ ap (λ x. parts n' x k i ls es) ha ∙ ap (λ x. parts n' a' x i ls es) hk
    ∙ ap (λ x. parts n' a' k' x ls es) hi ∙ ap (λ x. parts n' a' k' i' x es) hl ∙ ap (λ x. parts n' a' k' i' ls' x) he

pub view-Task : (t : TaskSig) → view (node.Task t) ≡ one (task_view t)
view-Task t = search (rules, node.the_lemmas)

pub view-Chain : (ns : List Node) → view (Chain ns) ≡ chain (trees_of (map view ns))
view-Chain ns = search (rules, node.the_lemmas)

pub view-Group : (ns : List Node) → view (Group ns) ≡ group 0 (trees_of (map view ns))
view-Group ns = search (rules, node.the_lemmas)

pub view-Chord : (header : List Node) (body : Box Node Global) → view (Chord header body) ≡ chord 0 (trees_of (map view header)) (view body.value)
view-Chord header body = search (rules, node.the_lemmas)

-- a signature with the fields of another, its callbacks by their data
pub alike : (n : List ℕ) (a : List Arg) (k : List (List ℕ × Arg)) (i : Bool) (ls es : List TaskSig) (t : TaskSig)
    → n ≡ (out-TaskSig t).name → a ≡ (out-TaskSig t).args → k ≡ (out-TaskSig t).kwargs → i ≡ (out-TaskSig t).immutable
    → map task_view ls ≡ map task_view (out-TaskSig t).links → map task_view es ≡ map task_view (out-TaskSig t).errbacks
    → task_view (roll-TaskSig (record { name = n; args = a; kwargs = k; immutable = i; links = ls; errbacks = es })) ≡ task_view t
alike n a k i ls es t hn ha hk hi hl he = made n a k i ls es ∙ same_parts hn ha hk hi hl he ∙ sym (task_seen t)
