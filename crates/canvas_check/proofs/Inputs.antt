-- What is foreseen of calls of built-in tasks is so of each value that comes in.
use Rattle.std.proofs.Common.{◌≡◌, Bool, true, false, List, [], ◌∷◌, ◌++◌, Option, Some, None, ℤ, pos, refl, ap, ◌∙◌, subst, arith}
use Rattle.std.specs.Prelude.{◌&&◌, if◌then◌else◌}
use Rattle.std.specs.List.{list_all, list_any}
use Rattle.std.specs.Str.{bytes_eq}
use Rattle.canvas_task.specs.Text.{Text}
use Rattle.canvas_task.specs.Identifiers.{task_named, task_text}
use Rattle.canvas_task.specs.Apply.{by_name, first_argument, either, filled, outcome}
use Rattle.canvas_task.specs.Own.{answer_given}
use Rattle.canvas_task.specs.Builtin.{Rule, of_two, of_one, of_list, of_id, meant, names_in, rule, answer_known, builtin_named, builtin_tasks}
use Rattle.canvas_task.specs.declared.arg.Arg.{Arg}
use Rattle.canvas_task.specs.declared.arg.Arg.TheVariants as arg
use Rattle.canvas_task.specs.declared.builtin.Builtin.{Builtin}
use Rattle.canvas_task.proofs.IdentifierLemmas.{task_back}
use Rattle.canvas_task.proofs.BuiltinLaw.{AnswersToAll, answers_to_all}
use Rattle.canvas_semantics.specs.Tree.{Call}
use Rattle.canvas_semantics.specs.Evaluation.{Flow, nothing, num, list, id, skip, raised, value}
use Rattle.canvas_check.specs.Calls.{is_type_error, is_unknown_outcome, some_task, fails_behind}
use Rattle.canvas_check.specs.BuiltinLaws.{IsUnknownToAll, FailsWhateverComes, kind_of}
use Rattle.canvas_check.specs.declared.position.Input.{Input}
use Rattle.canvas_check.specs.declared.position.Input.TheVariants.{Nothing, Number, Numbers, Identifier}
use Rattle.canvas_check.proofs.Rules.{bad, fits_fine}

-- ---- names

-- each task has a parameter, and so a call without arguments is a TypeError
none_given : (r : Rule) → is_unknown_outcome (outcome (meant r [] [])) ≡ false
none_given (of_two x y answer) = refl
none_given (of_one x answer) = refl
none_given (of_list x answer) = refl
none_given (of_id x answer) = refl

-- what is so and isn't
never : {b : Bool} → b ≡ false → b ≡ true → ⊥
never h k = cc

name_unknown : (o : Option Builtin) → is_unknown_outcome (answer_known o [] []) ≡ true
    → (args : List Arg) (named : List (Text × Arg)) → is_unknown_outcome (answer_known o args named) ≡ true
name_unknown None h args named = refl
name_unknown (Some task) h args named = absurd (never (none_given (rule task)) h)

pub unknown_to_all : IsUnknownToAll
unknown_to_all name h args named = name_unknown (builtin_named name) h args named

-- ---- a task whose first parameter gets this argument, and the others the rest

number_first : (r : Rule) → AnswersToAll r → (rest : List Arg) (n : ℤ) → bad r (Some (arg.Num (pos 0) ∷ rest)) ≡ true
    → bad r (Some (arg.Num n ∷ rest)) ≡ true
number_first (of_two x y f) fine [] n h = refl
number_first (of_two x y f) fine (arg.Num b ∷ []) n h = absurd (never (fits_fine (f (pos 0) b) (fine (pos 0) b)) h)
number_first (of_two x y f) fine (arg.Num b ∷ a ∷ rest) n h = refl
number_first (of_two x y f) fine (arg.List l ∷ rest) n h = refl
number_first (of_two x y f) fine (arg.Text s ∷ rest) n h = refl
number_first (of_one x f) fine [] n h = absurd (never (fits_fine (f (pos 0)) (fine (pos 0))) h)
number_first (of_one x f) fine (a ∷ rest) n h = refl
number_first (of_list x f) fine rest n h = refl
number_first (of_id x f) fine rest n h = refl

list_first : (r : Rule) → AnswersToAll r → (rest : List Arg) (ns : List ℤ) → bad r (Some (arg.List [] ∷ rest)) ≡ true
    → bad r (Some (arg.List ns ∷ rest)) ≡ true
list_first (of_two x y f) fine rest ns h = refl
list_first (of_one x f) fine rest ns h = refl
list_first (of_list x f) fine [] ns h = absurd (never (fits_fine (f []) (fine [])) h)
list_first (of_list x f) fine (a ∷ rest) ns h = refl
list_first (of_id x f) fine rest ns h = refl

pub some_task_named : task_named some_task ≡ Some 1
some_task_named = task_back 1 (omega arith) (omega arith)

text_first : (r : Rule) → AnswersToAll r → (rest : List Arg) (s : Text) → bad r (Some (arg.Text some_task ∷ rest)) ≡ true
    → bad r (Some (arg.Text s ∷ rest)) ≡ true
text_first (of_two x y f) fine rest s h = refl
text_first (of_one x f) fine rest s h = refl
text_first (of_list x f) fine rest s h = refl
text_first (of_id x f) fine [] s h =
    absurd (never (ap (λ o. is_type_error (outcome (answer_given f o))) some_task_named ∙ fits_fine (f 1) (fine 1)) h)
text_first (of_id x f) fine (a ∷ rest) s h = refl

-- ---- whether there is an argument for each parameter doesn't depend on the first of them

-- the rule says for the second argument what it says for the first
abbrev FailsAlike : Rule → Arg → Arg → Type 0
FailsAlike r a b = (rest : List Arg) → bad r (Some (a ∷ rest)) ≡ true → bad r (Some (b ∷ rest)) ≡ true

abbrev bound : Bool → Option Arg → Option (List Arg) → Arg → Option (List Arg)
bound known named rest a = if known then first_argument (either (Some a) named) rest else None

bound_alike : (r : Rule) (known : Bool) (named : Option Arg) (rest : Option (List Arg)) (a b : Arg) → FailsAlike r a b
    → bad r (bound known named rest a) ≡ true → bad r (bound known named rest b) ≡ true
bound_alike r false named rest a b alike h = h
bound_alike r true (Some other) rest a b alike h = h
bound_alike r true None None a b alike h = h
bound_alike r true None (Some rest) a b alike h = alike rest h

abbrev knows : Rule → List (Text × Arg) → Bool
knows r named = list_all (λ e. list_any (bytes_eq e.0) (names_in r)) named

rule_alike : (r : Rule) (args : List Arg) (named : List (Text × Arg)) (a b : Arg) → FailsAlike r a b
    → is_type_error (outcome (meant r (a ∷ args) named)) ≡ true → is_type_error (outcome (meant r (b ∷ args) named)) ≡ true
rule_alike (of_two x y f) args named a b alike h =
    bound_alike (of_two x y f) (knows (of_two x y f) named) (by_name x named) (filled (y ∷ []) args named) a b alike h
rule_alike (of_one x f) args named a b alike h =
    bound_alike (of_one x f) (knows (of_one x f) named) (by_name x named) (filled [] args named) a b alike h
rule_alike (of_list x f) args named a b alike h =
    bound_alike (of_list x f) (knows (of_list x f) named) (by_name x named) (filled [] args named) a b alike h
rule_alike (of_id x f) args named a b alike h =
    bound_alike (of_id x f) (knows (of_id x f) named) (by_name x named) (filled [] args named) a b alike h

known_alike : (o : Option Builtin) (args : List Arg) (named : List (Text × Arg)) (a b : Arg)
    → ((r : Rule) → AnswersToAll r → FailsAlike r a b)
    → is_type_error (answer_known o (a ∷ args) named) ≡ true → is_type_error (answer_known o (b ∷ args) named) ≡ true
known_alike None args named a b alike h = absurd cc
known_alike (Some task) args named a b alike h = rule_alike (rule task) args named a b (alike (rule task) (answers_to_all task)) h

-- ---- every input of a kind

first_true : (b c : Bool) → (b && c) ≡ true → b ≡ true
first_true true c h = refl
first_true false c h = absurd cc

behind_each : (call : Call) (i : Input) (x : Flow) → kind_of x ≡ Some i → fails_behind builtin_tasks call i ≡ true
    → is_type_error (builtin_tasks call.name (value x ++ call.args) call.kwargs) ≡ true
behind_each call i nothing k h =
    let same : i ≡ Nothing = cc in subst (λ j. fails_behind builtin_tasks call j ≡ true) same h
behind_each call i (num n) k h =
    let same : i ≡ Number = cc in
    known_alike (builtin_named call.name) call.args call.kwargs (arg.Num (pos 0)) (arg.Num n) (λ r fine rest. number_first r fine rest n)
    (first_true _ _ (subst (λ j. fails_behind builtin_tasks call j ≡ true) same h))
behind_each call i (list ns) k h =
    let same : i ≡ Numbers = cc in
    known_alike (builtin_named call.name) call.args call.kwargs (arg.List []) (arg.List ns) (λ r fine rest. list_first r fine rest ns)
    (first_true _ _ (subst (λ j. fails_behind builtin_tasks call j ≡ true) same h))
behind_each call i (id n) k h =
    let same : i ≡ Identifier = cc in
    known_alike (builtin_named call.name) call.args call.kwargs (arg.Text some_task) (arg.Text (task_text n))
    (λ r fine rest. text_first r fine rest (task_text n)) (subst (λ j. fails_behind builtin_tasks call j ≡ true) same h)
behind_each call i (skip f) k h = absurd cc
behind_each call i (raised f) k h = absurd cc

whether_immutable : (b : Bool) (call : Call) (i : Input) (x : Flow) → kind_of x ≡ Some i
    → fails_behind builtin_tasks call (if b then Nothing else i) ≡ true
    → is_type_error (builtin_tasks call.name (if b then call.args else value x ++ call.args) call.kwargs) ≡ true
whether_immutable true call i x k h = h
whether_immutable false call i x k h = behind_each call i x k h

pub fails_whatever : FailsWhateverComes
fails_whatever call i x k h = whether_immutable call.immutable call i x k h
