-- What some canvases mean, computed.
use Rattle.std.proofs.Common.{◌≡◌, ℕ, true, false, List, [], ◌∷◌, Some, None, pos, negsuc, refl}
use Rattle.std.specs.Prelude.{codes}
use Rattle.uuid.proofs.OnLiterals.{uuid_on_literals}
use Rattle.std.specs.Fmt.{digits}
use Rattle.canvas_task.specs.declared.arg.Arg.{Arg}
use Rattle.canvas_task.specs.declared.arg.Arg.TheVariants as arg
use Rattle.canvas_task.specs.declared.outcome.Kind.TheVariants.{BadCall, ZeroDivision, Overflow, NotRegistered}
use Rattle.canvas_task.specs.declared.outcome.Why.TheVariants as why
use Rattle.canvas_task.specs.declared.outcome.Fault.TheVariants as fault
use Rattle.canvas_task.specs.declared.outcome.Outcome.TheVariants.{Success, Failure}
use Rattle.canvas_semantics.specs.Tree.{Task, task, Tasks, no_tasks, and_task, Tree, one, chain, group, chord, Trees, no_trees, and_tree}
use Rattle.canvas_semantics.specs.Evaluation.{State, meaning, result}
use Rattle.canvas_semantics.specs.NormalLine.{normal}
use Rattle.canvas_semantics.specs.Report.{report}
use Rattle.canvas_semantics.specs.Reach.{reach}
use Rattle.std.proofs.Common.{zero, suc, ◌+◌, ◌++◌}
use Rattle.canvas_task.specs.Builtin.{builtin_tasks}

-- ---- short forms

abbrev pub sig : List ℕ → List Arg → Tree
sig name args = one (task 0 (record { name = name; args = args; kwargs = []; immutable = false }) no_tasks no_tasks)

abbrev pub int : ℕ → Arg
int n = arg.Num (pos n)

abbrev pub add : ℕ → ℕ → Tree
add x y = sig (codes "tasks.add") (int x ∷ int y ∷ [])

abbrev pub add1 : ℕ → Tree
add1 x = sig (codes "tasks.add") (int x ∷ [])

abbrev pub mul1 : ℕ → Tree
mul1 x = sig (codes "tasks.mul") (int x ∷ [])

abbrev pub div : ℕ → ℕ → Tree
div x y = sig (codes "tasks.div") (int x ∷ int y ∷ [])

abbrev pub xsum : Tree
xsum = sig (codes "tasks.xsum") []

abbrev log_error : Task
log_error = task 0 (record { name = codes "tasks.log_error"; args = []; kwargs = []; immutable = false }) no_tasks no_tasks

abbrev pub trees : List Tree → Trees
trees [] = no_trees
trees (t ∷ ts) = and_tree t (trees ts)

abbrev ok : ℕ → State
ok n = Some (Success (pos n))

abbrev zd : State
zd = Some (Failure (fault.Plain ZeroDivision))

-- ---- canvases

one_task : meaning builtin_tasks (add 2 2) ≡ (1, ok 4) ∷ []
one_task = refl

chain_of_two : meaning builtin_tasks (chain (trees (add 4 4 ∷ mul1 8 ∷ []))) ≡ (1, ok 8) ∷ (2, ok 64) ∷ []
chain_of_two = refl

chord_with_an_empty_header : meaning builtin_tasks (chord 0 no_trees xsum) ≡ (1, ok 0) ∷ []
chord_with_an_empty_header = refl

abbrev with_failed_header : Tree
with_failed_header = chord 0 (trees (add 4 4 ∷ div 1 0 ∷ add 8 8 ∷ []))
    (one (task 0 (record { name = codes "tasks.xsum"; args = []; kwargs = []; immutable = false }) no_tasks (and_task log_error no_tasks)))

abbrev failed : ℕ → State
failed k = Some (Failure (fault.Chord k (why.Plain ZeroDivision)))

failed_header : meaning builtin_tasks with_failed_header ≡ (1, ok 8) ∷ (2, zd) ∷ (3, ok 16) ∷ (4, failed 2) ∷ (5, ok 4) ∷ []
unfolding uuid_on_literals digits
failed_header = refl

result_of_a_failed_header : result builtin_tasks with_failed_header ≡ (4, failed 2) ∷ []
unfolding uuid_on_literals digits
result_of_a_failed_header = refl

failure_skips_the_rest : meaning builtin_tasks (chain (trees (div 1 0 ∷ group 0 (trees (add1 1 ∷ add1 2 ∷ [])) ∷ xsum ∷ []))) ≡ (1, zd) ∷ (2, zd) ∷ (3, zd)
    ∷ (4, zd) ∷ []
failure_skips_the_rest = refl

chord_in_a_header : meaning builtin_tasks (chord 0 (trees (chord 0 (trees (div 1 0 ∷ [])) xsum ∷ add 1 1 ∷ [])) xsum)
    ≡ (1, zd) ∷ (2, failed 1) ∷ (3, ok 2) ∷ (4, Some (Failure (fault.Chord 2 why.Chord))) ∷ []
chord_in_a_header = refl

chord_with_a_follower : meaning builtin_tasks (chain (trees (chord 0 (trees (add 1 1 ∷ add 2 2 ∷ [])) xsum ∷ mul1 2 ∷ []))) ≡ (1, ok 2) ∷ (2, ok 4) ∷ (3, ok 6)
    ∷ (4, ok 12) ∷ []
chord_with_a_follower = refl

normal_line_of_a_chord_with_a_follower : normal (chain (trees (chord 0 (trees (add 1 1 ∷ add 2 2 ∷ [])) xsum ∷ mul1 2 ∷ [])))
    ≡ chain (trees (chord 0 (trees (chain (trees (add 1 1 ∷ [])) ∷ chain (trees (add 2 2 ∷ [])) ∷ [])) (chain (trees (xsum ∷ mul1 2 ∷ []))) ∷ []))
normal_line_of_a_chord_with_a_follower = refl

chord_after_a_failed_group : meaning builtin_tasks (chain (trees (group 0 (trees (div 1 0 ∷ [])) ∷ chord 0 (trees (add1 1 ∷ add1 2 ∷ [])) xsum ∷ [])))
    ≡ (1, zd) ∷ (2, failed 1) ∷ (3, failed 1) ∷ (4, Some (Failure (fault.Chord 2 why.Chord))) ∷ []
chord_after_a_failed_group = refl

quotient_rounded_down : meaning builtin_tasks (sig (codes "tasks.div") (arg.Num (negsuc 6) ∷ int 2 ∷ [])) ≡ (1, Some (Success (negsuc 3))) ∷ []
quotient_rounded_down = refl

report_of_a_chain : report builtin_tasks (chain (trees (add 4 4 ∷ mul1 8 ∷ [])))
    ≡ codes "00000000-0000-8000-8000-000000000001 tasks.add SUCCESS 8\n00000000-0000-8000-8000-000000000002 tasks.mul SUCCESS 64\nresult 64\n"
unfolding uuid_on_literals digits
report_of_a_chain = refl

report_of_a_failed_header : report builtin_tasks with_failed_header
    ≡ codes "00000000-0000-8000-8000-000000000001 tasks.add SUCCESS 8\n00000000-0000-8000-8000-000000000002 tasks.div FAILURE ZeroDivisionError\n00000000-0000-8000-8000-000000000003 tasks.add SUCCESS 16\n00000000-0000-8000-8000-000000000004 tasks.xsum FAILURE ChordError: Dependency 00000000-0000-8000-8000-000000000002 raised ZeroDivisionError\n00000000-0000-8000-8000-000000000005 tasks.log_error SUCCESS 4\nresult ChordError: Dependency 00000000-0000-8000-8000-000000000002 raised ZeroDivisionError\n"
unfolding uuid_on_literals digits
report_of_a_failed_header = refl

report_of_an_empty_group : report builtin_tasks (group 0 no_trees) ≡ codes "result []\n"
unfolding uuid_on_literals digits
report_of_an_empty_group = refl

abbrev fixed : ℕ → ℕ → Tree
fixed x y = one (task 0 (record { name = codes "tasks.add"; args = int x ∷ int y ∷ []; kwargs = []; immutable = true }) no_tasks no_tasks)

immutable_takes_no_input : meaning builtin_tasks (chain (trees (add 2 2 ∷ fixed 4 4 ∷ []))) ≡ (1, ok 4) ∷ (2, ok 8) ∷ []
immutable_takes_no_input = refl

-- ---- links and error callbacks

abbrev linked : List ℕ → List Arg → Tasks → Tasks → Task
linked name args links errbacks = task 0 (record { name = name; args = args; kwargs = []; immutable = false }) links errbacks

abbrev mul3 : Task
mul3 = linked (codes "tasks.mul") (int 3 ∷ []) no_tasks no_tasks

abbrev div0 : Task
div0 = linked (codes "tasks.div") (int 0 ∷ []) no_tasks no_tasks

links_of_a_task : meaning builtin_tasks (one (linked (codes "tasks.add") (int 1 ∷ int 1 ∷ []) (and_task mul3 (and_task div0 no_tasks)) no_tasks)) ≡ (1, ok 2) ∷ (2, ok 6) ∷ (3, zd) ∷ []
links_of_a_task = refl

links_of_a_failed_task : meaning builtin_tasks (one (linked (codes "tasks.div") (int 1 ∷ int 0 ∷ []) (and_task (linked (codes "tasks.ident") [] no_tasks no_tasks) no_tasks) no_tasks)) ≡ (1, zd) ∷ (2, None) ∷ []
links_of_a_failed_task = refl

product_out_of_range : meaning builtin_tasks (sig (codes "tasks.mul") (int 1152921504606846976 ∷ int 2 ∷ [])) ≡ (1, Some (Failure (fault.Plain Overflow))) ∷ []
product_out_of_range = refl

product_in_range : meaning builtin_tasks (sig (codes "tasks.mul") (int 1152921504606846976 ∷ int 1 ∷ [])) ≡ (1, ok 1152921504606846976) ∷ []
product_in_range = refl

group_after_a_failed_group : meaning builtin_tasks (chain (trees (group 0 (trees (div 1 0 ∷ []))
    ∷ group 0 (trees (one (linked (codes "tasks.add") (int 1 ∷ []) no_tasks (and_task log_error no_tasks)) ∷ mul1 2 ∷ [])) ∷ [])))
    ≡ (1, zd) ∷ (2, failed 1) ∷ (3, ok 2) ∷ (4, failed 1) ∷ []
unfolding uuid_on_literals
group_after_a_failed_group = refl

missing_argument : meaning builtin_tasks (sig (codes "tasks.add") (int 1 ∷ [])) ≡ (1, Some (Failure (fault.Plain BadCall))) ∷ []
missing_argument = refl

unknown_task : meaning builtin_tasks (sig (codes "nope") []) ≡ (1, Some (Failure (fault.Plain NotRegistered))) ∷ []
unknown_task = refl

-- n pairs of a group and a sum
abbrev pub pairs : ℕ → List Tree → List Tree
pairs zero first = []
pairs (suc n) first = group 0 (trees first) ∷ xsum ∷ pairs n (sig (codes "tasks.ident") [] ∷ [])

abbrev pub pairs_of : ℕ → Tree
pairs_of n = chain (trees (pairs n (sig (codes "tasks.ident") (int 1 ∷ []) ∷ [])))

ten_pairs : result builtin_tasks (pairs_of 10) ≡ (20, ok 1) ∷ []
ten_pairs = refl

reach_of_eleven_pairs : reach 0 (normal (pairs_of 11)) ≡ 33
reach_of_eleven_pairs = refl

abbrev pub times : {X : Type 0} → ℕ → X → List X
times zero x = []
times (suc n) x = x ∷ times n x

abbrev pub with_empty_groups : ℕ → Tree
with_empty_groups n = group 0 (trees (times n (chain (trees (times 29 (group 0 no_trees) ++ sig (codes "tasks.ident") (int 1 ∷ []) ∷ [])))))

reach_of_many_empty_groups : reach 0 (normal (with_empty_groups 35)) ≡ 31
reach_of_many_empty_groups = refl

-- a group of one hundred sums, then their sum
abbrev sums : ℕ → ℕ → List Tree
sums zero i = []
sums (suc n) i = add i i ∷ sums n (i + 1)

sum_of_a_hundred : result builtin_tasks (chain (trees (group 0 (trees (sums 100 0)) ∷ xsum ∷ []))) ≡ (101, ok 9900) ∷ []
sum_of_a_hundred = refl

-- chains round a task
abbrev pub nested : ℕ → Tree
nested zero = add 1 1
nested (suc n) = chain (trees (nested n ∷ []))
