-- Texts of two normal lines, computed.
use Rattle.std.proofs.Common.{◌≡◌, ℕ, ℤ, pos, List, [], ◌∷◌, false, refl}
use Rattle.std.specs.Prelude.{codes}
use Rattle.std.specs.Fmt.{digits}
use Rattle.serde_json.specs.Written.{compact_text}
use Rattle.serde_json.proofs.OnLiterals.{serde_json_on_literals}
use Rattle.canvas_task.specs.declared.arg.Arg.{Arg}
use Rattle.canvas_task.specs.declared.arg.Arg.TheVariants as arg
use Rattle.canvas_semantics.specs.Tree.{task, no_tasks, Tree, one, chain, chord, Trees, no_trees, and_tree}
use Rattle.canvas_values.specs.Writing.{tree_wire}

abbrev calls : List ℕ → List Arg → Tree
calls name args = one (task 0 (record { name = name; args = args; kwargs = []; immutable = false }) no_tasks no_tasks)

abbrev both : Tree → Tree → Trees
both t u = and_tree t (and_tree u no_trees)

abbrev add : ℤ → ℤ → Tree
add x y = calls (codes "tasks.add") (arg.Num x ∷ arg.Num y ∷ [])

abbrev times : ℤ → Tree
times x = calls (codes "tasks.mul") (arg.Num x ∷ [])

chain_text : compact_text (tree_wire (chain (both (add (pos 1) (pos 1)) (times (pos 2)))))
    ≡ codes "{\"args\":[],\"immutable\":false,\"kwargs\":{\"tasks\":[{\"args\":[1,1],\"immutable\":false,\"kwargs\":{},\"options\":{},\"subtask_type\":null,\"task\":\"tasks.add\"},{\"args\":[2],\"immutable\":false,\"kwargs\":{},\"options\":{},\"subtask_type\":null,\"task\":\"tasks.mul\"}]},\"options\":{},\"subtask_type\":\"chain\",\"task\":\"celery.chain\"}"
unfolding serde_json_on_literals digits
chain_text = refl

chord_text : compact_text (tree_wire (chord 0 (both (add (pos 1) (pos 1)) (add (pos 2) (pos 2))) (chain (both (calls (codes "tasks.xsum") []) (times (pos 2))))))
    ≡ codes "{\"args\":[],\"immutable\":false,\"kwargs\":{\"body\":{\"args\":[],\"immutable\":false,\"kwargs\":{\"tasks\":[{\"args\":[],\"immutable\":false,\"kwargs\":{},\"options\":{},\"subtask_type\":null,\"task\":\"tasks.xsum\"},{\"args\":[2],\"immutable\":false,\"kwargs\":{},\"options\":{},\"subtask_type\":null,\"task\":\"tasks.mul\"}]},\"options\":{},\"subtask_type\":\"chain\",\"task\":\"celery.chain\"},\"header\":[{\"args\":[1,1],\"immutable\":false,\"kwargs\":{},\"options\":{},\"subtask_type\":null,\"task\":\"tasks.add\"},{\"args\":[2,2],\"immutable\":false,\"kwargs\":{},\"options\":{},\"subtask_type\":null,\"task\":\"tasks.add\"}]},\"options\":{},\"subtask_type\":\"chord\",\"task\":\"celery.chord\"}"
unfolding serde_json_on_literals digits
chord_text = refl
