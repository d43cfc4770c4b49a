-- The refusals of literal texts, and the canvases of others, computed.
use Rattle.std.proofs.Common.{◌≡◌, Ok, Err, [], ◌∷◌, List, ℕ, pos, true, false, refl}
use Rattle.std.specs.Prelude.{codes, neg_ℤ}
use Rattle.std.specs.Str.{is_utf8, chars}
use Rattle.serde_json.proofs.OnLiterals.{serde_json_on_literals}
use Rattle.canvas_values.specs.declared.fault.SigFault.TheVariants.{NotJson, NotSignature, UnknownPrimitive, BadArgs, BadNumber, OnCanvas, Frozen, EmptyChain, NestedGroup}
use Rattle.canvas_task.specs.declared.arg.Arg.{Arg}
use Rattle.canvas_task.specs.declared.arg.Arg.TheVariants as arg
use Rattle.canvas_semantics.specs.Tree.{Task, task, Tasks, no_tasks, and_task, one, chord, no_trees, and_tree}
use Rattle.canvas_values.specs.Refusals.{signature_fault, tree_said}
use Rattle.canvas_values.specs.CanvasText.{text_reading}

not_json : text_reading (codes "{") ≡ Err NotJson
unfolding serde_json_on_literals is_utf8 chars signature_fault tree_said
not_json = refl

not_utf8 : text_reading (123 ∷ 125 ∷ 255 ∷ []) ≡ Err NotJson
unfolding serde_json_on_literals is_utf8 chars signature_fault tree_said
not_utf8 = refl

trailing_text : text_reading (codes "{\"task\":\"x\"} 7") ≡ Err NotJson
unfolding serde_json_on_literals is_utf8 chars signature_fault tree_said
trailing_text = refl

not_an_object : text_reading (codes "[1]") ≡ Err NotSignature
unfolding serde_json_on_literals is_utf8 chars signature_fault tree_said
not_an_object = refl

no_name : text_reading (codes "{\"args\":[]}") ≡ Err NotSignature
unfolding serde_json_on_literals is_utf8 chars signature_fault tree_said
no_name = refl

empty_name : text_reading (codes "{\"task\":\"\"}") ≡ Err NotSignature
unfolding serde_json_on_literals is_utf8 chars signature_fault tree_said
empty_name = refl

name_with_a_space : text_reading (codes "{\"task\":\"a b\"}") ≡ Err NotSignature
unfolding serde_json_on_literals is_utf8 chars signature_fault tree_said
name_with_a_space = refl

immutable_number : text_reading (codes "{\"task\":\"x\",\"immutable\":1}") ≡ Err NotSignature
unfolding serde_json_on_literals is_utf8 chars signature_fault tree_said
immutable_number = refl

unknown : text_reading (codes "{\"task\":\"x\",\"subtask_type\":\"starmap\"}") ≡ Err UnknownPrimitive
unfolding serde_json_on_literals is_utf8 chars signature_fault tree_said
unknown = refl

no_kwargs : text_reading (codes "{\"task\":\"x\",\"subtask_type\":\"chain\"}") ≡ Err BadArgs
unfolding serde_json_on_literals is_utf8 chars signature_fault tree_said
no_kwargs = refl

no_body : text_reading (codes "{\"task\":\"x\",\"subtask_type\":\"chord\",\"kwargs\":{\"header\":[]}}") ≡ Err BadArgs
unfolding serde_json_on_literals is_utf8 chars signature_fault tree_said
no_body = refl

header_that_is_a_task : text_reading (codes "{\"task\":\"x\",\"subtask_type\":\"chord\",\"kwargs\":{\"header\":{\"task\":\"y\"},\"body\":{\"task\":\"z\"}}}") ≡ Err BadArgs
unfolding serde_json_on_literals is_utf8 chars signature_fault tree_said
header_that_is_a_task = refl

bad_later_argument : text_reading (codes "{\"task\":\"x\",\"args\":[1.5,null]}") ≡ Err BadArgs
unfolding serde_json_on_literals is_utf8 chars signature_fault tree_said
bad_later_argument = refl

link_number : text_reading (codes "{\"task\":\"x\",\"options\":{\"link\":3}}") ≡ Err BadArgs
unfolding serde_json_on_literals is_utf8 chars signature_fault tree_said
link_number = refl

bad_number : text_reading (codes "{\"task\":\"tasks.add\",\"args\":[1.5,1]}") ≡ Err BadNumber
unfolding serde_json_on_literals is_utf8 chars signature_fault tree_said
bad_number = refl

minus_zero : text_reading (codes "{\"task\":\"x\",\"args\":[-0]}") ≡ Err BadNumber
unfolding serde_json_on_literals is_utf8 chars signature_fault tree_said
minus_zero = refl

out_of_range : text_reading (codes "{\"task\":\"x\",\"args\":[1152921504606846977]}") ≡ Err BadNumber
unfolding serde_json_on_literals is_utf8 chars signature_fault tree_said
out_of_range = refl

least_out_of_range : text_reading (codes "{\"task\":\"x\",\"kwargs\":{\"a\":[-1152921504606846977]}}") ≡ Err BadNumber
unfolding serde_json_on_literals is_utf8 chars signature_fault tree_said
least_out_of_range = refl

arguments_of_a_chain : text_reading (codes "{\"task\":\"x\",\"subtask_type\":\"chain\",\"args\":[1],\"kwargs\":{\"tasks\":[{\"task\":\"y\"}]}}") ≡ Err OnCanvas
unfolding serde_json_on_literals is_utf8 chars signature_fault tree_said
arguments_of_a_chain = refl

immutable_group : text_reading (codes "{\"task\":\"x\",\"subtask_type\":\"group\",\"immutable\":true,\"kwargs\":{\"tasks\":[]}}") ≡ Err OnCanvas
unfolding serde_json_on_literals is_utf8 chars signature_fault tree_said
immutable_group = refl

link_on_a_group : text_reading (codes "{\"task\":\"x\",\"subtask_type\":\"group\",\"options\":{\"link\":{}},\"kwargs\":{\"tasks\":[]}}") ≡ Err OnCanvas
unfolding serde_json_on_literals is_utf8 chars signature_fault tree_said
link_on_a_group = refl

chain_in_a_link : text_reading (codes "{\"task\":\"x\",\"options\":{\"link\":[{\"task\":\"y\",\"subtask_type\":\"chain\",\"kwargs\":{\"tasks\":[]}}]}}") ≡ Err OnCanvas
unfolding serde_json_on_literals is_utf8 chars signature_fault tree_said
chain_in_a_link = refl

frozen_signature : text_reading (codes "{\"task\":\"x\",\"options\":{\"chord\":{}}}") ≡ Err Frozen
unfolding serde_json_on_literals is_utf8 chars signature_fault tree_said
frozen_signature = refl

frozen_header : text_reading (codes "{\"task\":\"x\",\"subtask_type\":\"chord\",\"kwargs\":{\"header\":{\"task\":\"y\",\"subtask_type\":\"group\",\"options\":{\"chord\":1},\"kwargs\":{\"tasks\":[7]}},\"body\":{\"task\":\"z\"}}}") ≡ Err Frozen
unfolding serde_json_on_literals is_utf8 chars signature_fault tree_said
frozen_header = refl

no_tasks_in_a_chain : text_reading (codes "{\"task\":\"x\",\"subtask_type\":\"chain\",\"kwargs\":{\"tasks\":[]}}") ≡ Err EmptyChain
unfolding serde_json_on_literals is_utf8 chars signature_fault tree_said
no_tasks_in_a_chain = refl

group_in_a_group : text_reading (codes "{\"task\":\"x\",\"subtask_type\":\"group\",\"kwargs\":{\"tasks\":[{\"task\":\"x\",\"subtask_type\":\"group\",\"kwargs\":{\"tasks\":[]}}]}}") ≡ Err NestedGroup
unfolding serde_json_on_literals is_utf8 chars signature_fault tree_said
group_in_a_group = refl

number_before_a_number : text_reading (codes "{\"task\":\"x\",\"subtask_type\":\"chain\",\"kwargs\":{\"tasks\":[{\"task\":\"y\",\"args\":[1.5]},7]}}") ≡ Err BadNumber
unfolding serde_json_on_literals is_utf8 chars signature_fault tree_said
number_before_a_number = refl

signature_before_a_nested_group : text_reading (codes "{\"task\":\"x\",\"subtask_type\":\"chain\",\"kwargs\":{\"tasks\":[7,{\"task\":\"x\",\"subtask_type\":\"group\",\"kwargs\":{\"tasks\":[{\"task\":\"x\",\"subtask_type\":\"group\",\"kwargs\":{\"tasks\":[]}}]}}]}}") ≡ Err NotSignature
unfolding serde_json_on_literals is_utf8 chars signature_fault tree_said
signature_before_a_nested_group = refl

outer_before_inner : text_reading (codes "{\"task\":\"x\",\"subtask_type\":\"chain\",\"args\":[1],\"kwargs\":{\"tasks\":[7]}}") ≡ Err OnCanvas
unfolding serde_json_on_literals is_utf8 chars signature_fault tree_said
outer_before_inner = refl

header_before_body : text_reading (codes "{\"task\":\"x\",\"subtask_type\":\"chord\",\"kwargs\":{\"header\":[{\"task\":\"y\",\"args\":[1.5]}],\"body\":7}}") ≡ Err BadNumber
unfolding serde_json_on_literals is_utf8 chars signature_fault tree_said
header_before_body = refl

link_before_link_error : text_reading (codes "{\"task\":\"x\",\"options\":{\"link_error\":7,\"link\":{\"task\":\"y\",\"args\":[true]}}}") ≡ Err BadArgs
unfolding serde_json_on_literals is_utf8 chars signature_fault tree_said
link_before_link_error = refl

last_member_of_a_name_counts : text_reading (codes "{\"task\":\"x\",\"args\":7,\"args\":[1.5]}") ≡ Err BadNumber
unfolding serde_json_on_literals is_utf8 chars signature_fault tree_said
last_member_of_a_name_counts = refl

plain : List ℕ → List Arg → Tasks → Task
plain name args links = task 0 (record { name = name; args = args; kwargs = []; immutable = false }) links no_tasks

task_alone : text_reading (codes "{\"task\":\"tasks.add\",\"args\":[2,2]}") ≡ Ok (one (plain (codes "tasks.add") (arg.Num (pos 2) ∷ arg.Num (pos 2) ∷ []) no_tasks))
unfolding serde_json_on_literals is_utf8 chars signature_fault tree_said plain
task_alone = refl

greatest_number : text_reading (codes "{\"task\":\"x\",\"args\":[1152921504606846976,-1152921504606846976]}") ≡ Ok (one (plain (codes "x") (arg.Num (pos 1152921504606846976) ∷ arg.Num (neg_ℤ (pos 1152921504606846976)) ∷ []) no_tasks))
unfolding serde_json_on_literals is_utf8 chars signature_fault tree_said plain
greatest_number = refl

null_members : text_reading (codes "{\"task\":\"x\",\"subtask_type\":null,\"args\":null,\"kwargs\":null,\"options\":null,\"immutable\":null}") ≡ Ok (one (plain (codes "x") [] no_tasks))
unfolding serde_json_on_literals is_utf8 chars signature_fault tree_said plain
null_members = refl

unknown_members : text_reading (codes "{\"task\":\"x\",\"chord_size\":7,\"options\":{\"task_id\":1,\"link\":null},\"kwargs\":{}}") ≡ Ok (one (plain (codes "x") [] no_tasks))
unfolding serde_json_on_literals is_utf8 chars signature_fault tree_said plain
unknown_members = refl

header_as_a_group : text_reading (codes "{\"task\":\"x\",\"subtask_type\":\"chord\",\"kwargs\":{\"kwargs\":7,\"header\":{\"task\":\"y\",\"subtask_type\":\"group\",\"kwargs\":{\"tasks\":[{\"task\":\"a\"},{\"task\":\"b\"}]}},\"body\":{\"task\":\"z\",\"options\":{\"link\":{\"task\":\"c\"}}}}}") ≡ Ok (chord 0 (and_tree (one (plain (codes "a") [] no_tasks)) (and_tree (one (plain (codes "b") [] no_tasks)) no_trees)) (one (plain (codes "z") [] (and_task (plain (codes "c") [] no_tasks) no_tasks))))
unfolding serde_json_on_literals is_utf8 chars signature_fault tree_said plain
header_as_a_group = refl

all_of_a_task : text_reading (codes "{\"immutable\":true,\"options\":{\"link_error\":[{\"task\":\"m\"},{\"task\":\"n\"}],\"link\":{\"task\":\"l\"}},\"kwargs\":{\"k\":4},\"args\":[1,[2,3],\"s\"],\"task\":\"t\"}")
    ≡ Ok (one (task 0 (record { name = codes "t"; args = arg.Num (pos 1) ∷ arg.List (pos 2 ∷ pos 3 ∷ []) ∷ arg.Text (codes "s") ∷ []; kwargs = (codes "k", arg.Num (pos 4)) ∷ []; immutable = true })
    (and_task (plain (codes "l") [] no_tasks) no_tasks) (and_task (plain (codes "m") [] no_tasks) (and_task (plain (codes "n") [] no_tasks) no_tasks))))
unfolding serde_json_on_literals is_utf8 chars signature_fault tree_said plain
all_of_a_task = refl
