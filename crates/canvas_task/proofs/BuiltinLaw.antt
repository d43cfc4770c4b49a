-- The built-in tasks have names of their own, and a registry of just them answers as they do.
use Rattle.std.proofs.Common.{◌≡◌, ◌∙◌, ◌≤◌, ℕ, zero, suc, negsuc, Err, inl, inr, Bool, true, false, List, [], ◌∷◌, get_or, Option, Some, None, ℤ, pos, refl, sym, ap, subst, arith}
use Rattle.std.specs.Prelude.{if◌then◌else◌, ◌==◌, not}
use Rattle.std.specs.List.{list_all}
use Rattle.std.specs.Str.{bytes_eq}
use Rattle.std.proofs.lemmas.Option.{same_Some, none-some}
use Rattle.std.proofs.lemmas.Slice.Eq.{bytes_eq-Decides}
use Rattle.canvas_task.specs.Text.{Text}
use Rattle.canvas_task.specs.Apply.{Answer, outcome}
use Rattle.canvas_task.specs.Builtin.{Rule, of_two, of_one, of_list, of_id, quotient, rule, task_name, word, builtins, first_called, builtin_named, builtin_of_word, meaning, answer_known}
use Rattle.canvas_task.specs.Tasks.{NamedTask, behaviour_of, as_named, AreBuiltin, IsAmong, AreTheBuiltin, BuiltinAnswer}
use Rattle.canvas_task.specs.declared.arg.Arg.{Arg}
use Rattle.canvas_task.specs.declared.builtin.Builtin.{Builtin}
use Rattle.canvas_task.specs.declared.builtin.Builtin.TheVariants.{Add, Mul, Div, Xsum, Ident, LogError}
use Rattle.canvas_task.specs.declared.outcome.Outcome.{Outcome}
use Rattle.canvas_task.specs.declared.outcome.Outcome.TheVariants.{Failure}
use Rattle.canvas_task.specs.declared.outcome.Fault.TheVariants.{Plain}
use Rattle.canvas_task.specs.declared.outcome.Kind.TheVariants.{BadCall, NotRegistered}

-- ---- names

pub known : (task : Builtin) → builtin_named (task_name task) ≡ Some task
known Add = refl
known Mul = refl
known Div = refl
known Xsum = refl
known Ident = refl
known LogError = refl

pub known_word : (task : Builtin) → builtin_of_word (word task) ≡ Some task
known_word Add = refl
known_word Mul = refl
known_word Div = refl
known_word Xsum = refl
known_word Ident = refl
known_word LogError = refl

-- no word begins as a number does
pub word_begins : (task : Builtin) → 97 ≤ get_or (word task) 0 0
word_begins Add = omega arith
word_begins Mul = omega arith
word_begins Div = omega arith
word_begins Xsum = omega arith
word_begins Ident = omega arith
word_begins LogError = omega arith

-- no word has an `=`
pub no_equals : (task : Builtin) → list_all (λ b. not (b == 61)) (word task) ≡ true
no_equals Add = refl
no_equals Mul = refl
no_equals Div = refl
no_equals Xsum = refl
no_equals Ident = refl
no_equals LogError = refl

-- ---- what they answer

abbrev pub is_bad_call : Answer → Bool
is_bad_call (Err BadCall) = true
is_bad_call a = false

-- no TypeError is answered to what a task takes
abbrev pub AnswersToAll : Rule → Type 0
AnswersToAll (of_two x y answer) = (a b : ℤ) → is_bad_call (answer a b) ≡ false
AnswersToAll (of_one x answer) = (a : ℤ) → is_bad_call (answer a) ≡ false
AnswersToAll (of_list x answer) = (l : List ℤ) → is_bad_call (answer l) ≡ false
AnswersToAll (of_id x answer) = (k : ℕ) → is_bad_call (answer k) ≡ false

divides : (a b : ℤ) → is_bad_call (quotient a b) ≡ false
divides a (pos zero) = refl
divides a (pos (suc b)) = refl
divides a (negsuc b) = refl

pub answers_to_all : (task : Builtin) → AnswersToAll (rule task)
answers_to_all Add = λ a b. refl
answers_to_all Mul = λ a b. refl
answers_to_all Div = divides
answers_to_all Xsum = λ l. refl
answers_to_all Ident = λ a. refl
answers_to_all LogError = λ k. refl

-- ---- what was found by a name

-- it is called so
module _ (call : Builtin → Text) (name : Text) (task : Builtin) where
  here_or_later : (t : Builtin) (rest : Option Builtin) → (rest ≡ Some task → call task ≡ name)
      → (b : Bool) → bytes_eq (call t) name ≡ b → (if b then Some t else rest) ≡ Some task → call task ≡ name
  here_or_later t rest later true e h = ap call (sym (same_Some t task h)) ∙ (bytes_eq-Decides (call t) name).0 e
  here_or_later t rest later false e h = later h

  called_so : (ts : List Builtin) → first_called call name ts ≡ Some task → call task ≡ name
  called_so [] h = absurd (none-some task h)
  called_so (t ∷ ts) h = here_or_later t (first_called call name ts) (called_so ts) (bytes_eq (call t) name) refl h

pub name_known : (name : Text) (task : Builtin) → builtin_named name ≡ Some task → name ≡ task_name task
name_known name task h = sym (called_so task_name name task builtins h)

-- two that share a name are one
one_name : (k task : Builtin) → task_name k ≡ task_name task → k ≡ task
one_name k task same = same_Some k task (sym (known k) ∙ ap builtin_named same ∙ known task)

-- ---- lists of them

module _ (name : Text) (args : List Arg) (named : List (Text × Arg)) where
  abbrev answers : List NamedTask → Outcome
  answers ts = behaviour_of ts name args named

  own_answer : (k : Builtin) (ts : List NamedTask) → name ≡ task_name k → answers (as_named k ∷ ts) ≡ outcome (meaning k args named)
  own_answer k ts is = rw ((bytes_eq-Decides (task_name k) name).1 (sym is)) refl

  -- one that has another name is passed over
  passed : (k : Builtin) (ts : List NamedTask) → bytes_eq (task_name k) name ≡ false → answers (as_named k ∷ ts) ≡ answers ts
  passed k ts not_so = rw not_so refl

  -- the first of a list, where the rest answers so
  first : (task : Builtin) → name ≡ task_name task → (k : Builtin) (t : NamedTask) → t ≡ as_named k → (ts : List NamedTask) → (IsAmong (as_named task) ts → answers ts ≡ outcome (meaning task args named))
      → IsAmong (as_named task) (t ∷ ts) → (b : Bool) → bytes_eq (task_name k) name ≡ b → answers (as_named k ∷ ts) ≡ outcome (meaning task args named)
  first task is k t same ts rest there true e =
      let one : k ≡ task = one_name k task ((bytes_eq-Decides (task_name k) name).0 e ∙ is) in subst (λ j. answers (as_named j ∷ ts) ≡ outcome (meaning task args named)) (sym one) (own_answer task ts is)
  first task is k t same ts rest (inr after) false e = passed k ts e ∙ rest after
  first task is k t same ts rest (inl here) false e =
      let clash : true ≡ false = sym ((bytes_eq-Decides (task_name k) name).1 (ap (λ (u : NamedTask). u.name) (sym same ∙ here) ∙ sym is)) ∙ e in cc

  found : (task : Builtin) → name ≡ task_name task → (ts : List NamedTask) → AreBuiltin ts → IsAmong (as_named task) ts
      → answers ts ≡ outcome (meaning task args named)
  found task is [] of there = absurd there
  found task is (t ∷ ts) ((k, same), of) there =
      subst (λ u. answers (u ∷ ts) ≡ outcome (meaning task args named)) (sym same) (first task is k t same ts (found task is ts of) there (bytes_eq
      (task_name k) name) refl)

  none_first : builtin_named name ≡ None → (k : Builtin) (ts : List NamedTask) → answers ts ≡ Failure (Plain NotRegistered) → (b : Bool)
      → bytes_eq (task_name k) name ≡ b
      → answers (as_named k ∷ ts) ≡ Failure (Plain NotRegistered)
  none_first none k ts rest true e = absurd (none-some k (sym none ∙ ap builtin_named (sym ((bytes_eq-Decides (task_name k) name).0 e)) ∙ known k))
  none_first none k ts rest false e = passed k ts e ∙ rest

  missing : builtin_named name ≡ None → (ts : List NamedTask) → AreBuiltin ts → answers ts ≡ Failure (Plain NotRegistered)
  missing none [] of = refl
  missing none (t ∷ ts) ((k, same), of) =
      subst (λ u. answers (u ∷ ts) ≡ Failure (Plain NotRegistered)) (sym same) (none_first none k ts (missing none ts of) (bytes_eq (task_name k) name) refl)

  alike : (ts : List NamedTask) → AreTheBuiltin ts → (o : Option Builtin) → builtin_named name ≡ o → answers ts ≡ answer_known o args named
  alike ts are None e = missing e ts are.0
  alike ts are (Some task) e = found task (name_known name task e) ts are.0 (are.1 task)

pub builtin_answer : BuiltinAnswer
builtin_answer ts are = λ i name args named. alike name args named ts are (builtin_named name) refl i
