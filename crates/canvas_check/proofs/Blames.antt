-- A call of a built-in task is a TypeError exactly where something is wrong with a parameter, or where it has too many
-- positional arguments.
use Rattle.std.proofs.Common.{◌≡◌, ℕ, suc, Bool, true, false, List, [], ◌∷◌, ◌++◌, length, Option, Some, None, ℤ, pos, refl, ap, sym, ◌∙◌, arith}
use Rattle.std.specs.Prelude.{◌&&◌, ◌||◌, not, if◌then◌else◌, is_some, nat_lt}
use Rattle.std.specs.List.{list_all, list_any}
use Rattle.std.specs.Str.{bytes_eq}
use Rattle.std.proofs.lemmas.Bool.Decides.{nat_tests}
use Rattle.canvas_task.specs.Text.{Text}
use Rattle.canvas_task.specs.Identifiers.{task_named, task_text}
use Rattle.canvas_task.specs.Apply.{Answer, by_name, first_argument, either, filled, outcome}
use Rattle.canvas_task.specs.Own.{answer_given}
use Rattle.canvas_task.specs.Builtin.{Rule, of_two, of_one, of_list, of_id, names_in, kind_in, rule, parameters, taken}
use Rattle.canvas_task.specs.declared.arg.Arg.{Arg}
use Rattle.canvas_task.specs.declared.arg.Arg.TheVariants as arg
use Rattle.canvas_task.specs.declared.builtin.ArgKind.{ArgKind}
use Rattle.canvas_task.specs.declared.builtin.ArgKind.TheVariants as kind
use Rattle.canvas_task.specs.declared.builtin.Builtin.{Builtin}
use Rattle.canvas_task.proofs.BuiltinLaw.{AnswersToAll, answers_to_all, is_bad_call}
use Rattle.canvas_semantics.specs.Tree.{Call}
use Rattle.canvas_semantics.specs.Evaluation.{Flow, nothing, num, list, id, skip, raised, value}
use Rattle.canvas_check.specs.Calls.{is_type_error, some_task}
use Rattle.canvas_check.specs.BuiltinLaws.{kind_of}
use Rattle.canvas_check.specs.Parameters.{Blamed, fits, wrong_with, or_next, first_wrong, first_unknown, unknown_or, at_fault, blamed}
use Rattle.canvas_check.specs.ParameterLaws.{EachTypeErrorHasItsCause, BlamesTheSameWhateverComes, NamesATask}
use Rattle.canvas_check.specs.declared.parameter.Wrong.{Wrong}
use Rattle.canvas_check.specs.declared.parameter.Wrong.TheVariants.{OtherKind}
use Rattle.canvas_check.specs.declared.position.Input.{Input}
use Rattle.canvas_check.specs.declared.position.Input.TheVariants.{Nothing, Number, Numbers, Identifier}
use Rattle.canvas_check.proofs.Rules.{bad, bad_without, fits_fine, meant_filled}
use Rattle.canvas_check.proofs.Inputs.{some_task_named}

-- ---- a TypeError of arguments that fill the parameters: one that doesn't fit

-- there are arguments, and each fits
abbrev all_fit : (Arg → Bool) → Option (List Arg) → Bool
all_fit fit None = false
all_fit fit (Some args) = list_all fit args

abbrev BadUnlessFit : Rule → Option (List Arg) → Type 0
BadUnlessFit r o = bad r o ≡ not (all_fit (fits (kind_in r)) o)

-- of two parameters

two_each : (x y : Text) (f : ℤ → ℤ → Answer) → AnswersToAll (of_two x y f) → (a b : Arg) → BadUnlessFit (of_two x y f) (Some (a ∷ b ∷ []))
two_each x y f fine (arg.Num m) (arg.Num n) = fits_fine (f m n) (fine m n)
two_each x y f fine (arg.Num m) (arg.List l) = refl
two_each x y f fine (arg.Num m) (arg.Text s) = refl
two_each x y f fine (arg.List l) b = refl
two_each x y f fine (arg.Text s) b = refl

two_fill : (x y : Text) (f : ℤ → ℤ → Answer) → AnswersToAll (of_two x y f) → (a b : Option Arg)
    → BadUnlessFit (of_two x y f) (first_argument a (first_argument b (Some [])))
two_fill x y f fine None b = refl
two_fill x y f fine (Some a) None = refl
two_fill x y f fine (Some a) (Some b) = two_each x y f fine a b

two_left : (x y : Text) (f : ℤ → ℤ → Answer) (a b : Option Arg) → BadUnlessFit (of_two x y f) (first_argument a (first_argument b None))
two_left x y f None b = refl
two_left x y f (Some a) None = refl
two_left x y f (Some a) (Some b) = refl

of_two_fit : (x y : Text) (f : ℤ → ℤ → Answer) → AnswersToAll (of_two x y f) → (args : List Arg) (named : List (Text × Arg))
    → BadUnlessFit (of_two x y f) (filled (x ∷ y ∷ []) args named)
of_two_fit x y f fine [] named = two_fill x y f fine (either None (by_name x named)) (either None (by_name y named))
of_two_fit x y f fine (a ∷ []) named = two_fill x y f fine (either (Some a) (by_name x named)) (either None (by_name y named))
of_two_fit x y f fine (a ∷ b ∷ []) named = two_fill x y f fine (either (Some a) (by_name x named)) (either (Some b) (by_name y named))
of_two_fit x y f fine (a ∷ b ∷ c ∷ rest) named = two_left x y f (either (Some a) (by_name x named)) (either (Some b) (by_name y named))

-- of one parameter

one_each : (x : Text) (f : ℤ → Answer) → AnswersToAll (of_one x f) → (a : Arg) → BadUnlessFit (of_one x f) (Some (a ∷ []))
one_each x f fine (arg.Num n) = fits_fine (f n) (fine n)
one_each x f fine (arg.List l) = refl
one_each x f fine (arg.Text s) = refl

list_each : (x : Text) (f : List ℤ → Answer) → AnswersToAll (of_list x f) → (a : Arg) → BadUnlessFit (of_list x f) (Some (a ∷ []))
list_each x f fine (arg.Num n) = refl
list_each x f fine (arg.List l) = fits_fine (f l) (fine l)
list_each x f fine (arg.Text s) = refl

named_each : (f : ℕ → Answer) → ((k : ℕ) → is_bad_call (f k) ≡ false) → (o : Option ℕ)
    → is_type_error (outcome (answer_given f o)) ≡ not (is_some o && true)
named_each f fine None = refl
named_each f fine (Some k) = fits_fine (f k) (fine k)

id_each : (x : Text) (f : ℕ → Answer) → AnswersToAll (of_id x f) → (a : Arg) → BadUnlessFit (of_id x f) (Some (a ∷ []))
id_each x f fine (arg.Num n) = refl
id_each x f fine (arg.List l) = refl
id_each x f fine (arg.Text s) = named_each f fine (task_named s)

abbrev EachOne : Rule → Type 0
EachOne r = (a : Arg) → BadUnlessFit r (Some (a ∷ []))

one_fill : (r : Rule) → EachOne r → (a : Option Arg) → BadUnlessFit r (first_argument a (Some []))
one_fill r each None = bad_without r
one_fill r each (Some a) = each a

one_left : (r : Rule) (a : Option Arg) → BadUnlessFit r (first_argument a None)
one_left r None = bad_without r
one_left r (Some a) = bad_without r

of_one_fit : (r : Rule) (x : Text) → EachOne r → (args : List Arg) (named : List (Text × Arg)) → BadUnlessFit r (filled (x ∷ []) args named)
of_one_fit r x each [] named = one_fill r each (either None (by_name x named))
of_one_fit r x each (a ∷ []) named = one_fill r each (either (Some a) (by_name x named))
of_one_fit r x each (a ∷ b ∷ rest) named = one_left r (either (Some a) (by_name x named))

bad_unless_fit : (r : Rule) → AnswersToAll r → (args : List Arg) (named : List (Text × Arg)) → BadUnlessFit r (filled (names_in r) args named)
bad_unless_fit (of_two x y f) fine args named = of_two_fit x y f fine args named
bad_unless_fit (of_one x f) fine args named = of_one_fit (of_one x f) x (one_each x f fine) args named
bad_unless_fit (of_list x f) fine args named = of_one_fit (of_list x f) x (list_each x f fine) args named
bad_unless_fit (of_id x f) fine args named = of_one_fit (of_id x f) x (id_each x f fine) args named

-- ---- arguments that don't all fit: something is wrong with a parameter, or there are too many

abbrev slot_fits : (Arg → Bool) → Option Arg → Bool
slot_fits fit None = false
slot_fits fit (Some a) = fit a

if_fits : (b : Bool) (w : Wrong) → is_some (if b then None else Some w) ≡ not b
if_fits true w = refl
if_fits false w = refl

wrong_is : (fit : Arg → Bool) (g n : Option Arg) → is_some (wrong_with fit g n) ≡ not (slot_fits fit (either g n))
wrong_is fit None None = refl
wrong_is fit None (Some b) = if_fits (fit b) OtherKind
wrong_is fit (Some a) None = if_fits (fit a) OtherKind
wrong_is fit (Some a) (Some b) = refl

not_and : (b c : Bool) → not (b && c) ≡ (not b || not c)
not_and true c = refl
not_and false c = refl

or_true : (b : Bool) → (b || true) ≡ true
or_true true = refl
or_true false = refl

or_assoc : (a b c : Bool) → (a || (b || c)) ≡ ((a || b) || c)
or_assoc true b c = refl
or_assoc false b c = refl

one_more_fits : (fit : Arg → Bool) (a : Option Arg) (o : Option (List Arg))
    → not (all_fit fit (first_argument a o)) ≡ (not (slot_fits fit a) || not (all_fit fit o))
one_more_fits fit None o = refl
one_more_fits fit (Some a) None = sym (or_true (not (fit a)))
one_more_fits fit (Some a) (Some rest) = not_and (fit a) (list_all fit rest)

next_is : (p : Text) (w : Option Wrong) (o : Option Blamed) → is_some (or_next p w o) ≡ (is_some w || is_some o)
next_is p None o = refl
next_is p (Some w) o = refl

-- one parameter, and then the others
one_more : (fit : Arg → Bool) (p : Text) (g n : Option Arg) (rest : Option (List Arg)) (o : Option Blamed) (more : Bool)
    → not (all_fit fit rest) ≡ (is_some o || more)
    → not (all_fit fit (first_argument (either g n) rest)) ≡ (is_some (or_next p (wrong_with fit g n) o) || more)
one_more fit p g n rest o more h =
    one_more_fits fit (either g n) rest
    ∙ (λ i. (sym (wrong_is fit g n)) i || h i)
    ∙ or_assoc (is_some (wrong_with fit g n)) (is_some o) more
    ∙ ap (λ b. b || more) (sym (next_is p (wrong_with fit g n) o))

none_more : (n : ℕ) → nat_lt (suc n) 0 ≡ false
none_more n = grind (arith, nat_tests)

some_more : (n : ℕ) → nat_lt 0 (suc n) ≡ true
some_more n = grind (arith, nat_tests)

both_more : (m n : ℕ) → nat_lt (suc m) (suc n) ≡ nat_lt m n
both_more m n = grind (arith, nat_tests)

none_at_all : (m : ℕ) → nat_lt m 0 ≡ false
none_at_all m = grind (arith, nat_tests)

too_many_or_wrong : (fit : Arg → Bool) (ps : List Text) (args : List Arg) (named : List (Text × Arg))
    → not (all_fit fit (filled ps args named)) ≡ (is_some (first_wrong fit ps args named) || nat_lt (length ps) (length args))
too_many_or_wrong fit [] [] named = refl
too_many_or_wrong fit [] (a ∷ args) named = sym (some_more (length args))
too_many_or_wrong fit (p ∷ ps) (a ∷ args) named =
    one_more fit p (Some a) (by_name p named) (filled ps args named) (first_wrong fit ps args named) (nat_lt (length ps) (length args))
    (too_many_or_wrong fit ps args named)
    ∙ ap (λ b. is_some (first_wrong fit (p ∷ ps) (a ∷ args) named) || b) (sym (both_more (length ps) (length args)))
too_many_or_wrong fit (p ∷ ps) [] named =
    one_more fit p None (by_name p named) (filled ps [] named) (first_wrong fit ps [] named) (nat_lt (length ps) 0)
    (too_many_or_wrong fit ps [] named)
    ∙ ap (λ b. is_some (first_wrong fit (p ∷ ps) [] named) || b) (none_at_all (length ps) ∙ sym (none_more (length ps)))

-- ---- keywords that are no parameters

unknown_step : (b c : Bool) (k : Text) (o : Option Text) → is_some o ≡ not c → is_some (if b then o else Some k) ≡ not (b && c)
unknown_step true c k o h = h
unknown_step false c k o h = refl

unknown_is : (ps : List Text) (named : List (Text × Arg)) → is_some (first_unknown ps named) ≡ not (list_all (λ e. list_any (bytes_eq e.0) ps) named)
unknown_is ps [] = refl
unknown_is ps (e ∷ es) =
    unknown_step (list_any (bytes_eq e.0) ps) (list_all (λ d. list_any (bytes_eq d.0) ps) es) e.0 (first_unknown ps es) (unknown_is ps es)

whether_known : (r : Rule) (o : Option Text) (k : Bool) (rest : Option (List Arg)) (w : Option Blamed) (more : Bool)
    → is_some o ≡ not k → bad r rest ≡ (is_some w || more)
    → bad r (if k then rest else None) ≡ (is_some (unknown_or o w) || more)
whether_known r None true rest w more h g = g
whether_known r None false rest w more h g = absurd cc
whether_known r (Some p) true rest w more h g = absurd cc
whether_known r (Some p) false rest w more h g = bad_without r

pub has_its_cause : EachTypeErrorHasItsCause
has_its_cause t args named =
    let ps = parameters t in let fit = fits (taken t) in
    ap (λ a. is_type_error (outcome a)) (meant_filled (rule t) args named)
    ∙ whether_known (rule t) (first_unknown ps named) (list_all (λ e. list_any (bytes_eq e.0) ps) named) (filled ps args named)
    (first_wrong fit ps args named) (nat_lt (length ps) (length args)) (unknown_is ps named)
    (bad_unless_fit (rule t) (answers_to_all t) args named ∙ too_many_or_wrong fit ps args named)

-- ---- every input of a kind

wrong_alike : (fit : Arg → Bool) (a b : Arg) (n : Option Arg) → fit a ≡ fit b → wrong_with fit (Some a) n ≡ wrong_with fit (Some b) n
wrong_alike fit a b None h = let W : Bool → Option Wrong = λ c. if c then None else Some OtherKind in ap W h
wrong_alike fit a b (Some n) h = refl

first_alike : (fit : Arg → Bool) (ps : List Text) (args : List Arg) (named : List (Text × Arg)) (a b : Arg) → fit a ≡ fit b
    → first_wrong fit ps (a ∷ args) named ≡ first_wrong fit ps (b ∷ args) named
first_alike fit [] args named a b h = refl
first_alike fit (p ∷ ps) args named a b h =
    ap (λ w. or_next p w (first_wrong fit ps args named)) (wrong_alike fit a b (by_name p named) h)

fault_alike : (t : Builtin) (args : List Arg) (named : List (Text × Arg)) (a b : Arg) → fits (taken t) a ≡ fits (taken t) b
    → at_fault t (a ∷ args) named ≡ at_fault t (b ∷ args) named
fault_alike t args named a b h =
    ap (unknown_or (first_unknown (parameters t) named)) (first_alike (fits (taken t)) (parameters t) args named a b h)

numbers_alike : (k : ArgKind) (m n : ℤ) → fits k (arg.Num m) ≡ fits k (arg.Num n)
numbers_alike kind.Number m n = refl
numbers_alike kind.Numbers m n = refl
numbers_alike kind.TaskId m n = refl

lists_alike : (k : ArgKind) (ms ns : List ℤ) → fits k (arg.List ms) ≡ fits k (arg.List ns)
lists_alike kind.Number ms ns = refl
lists_alike kind.Numbers ms ns = refl
lists_alike kind.TaskId ms ns = refl

texts_alike : (k : ArgKind) (n : ℕ) → task_named (task_text n) ≡ Some n → fits k (arg.Text some_task) ≡ fits k (arg.Text (task_text n))
texts_alike kind.Number n h = refl
texts_alike kind.Numbers n h = refl
texts_alike kind.TaskId n h = ap is_some some_task_named ∙ sym (ap is_some h)

same_after : (t : Builtin) (call : Call) (i : Input) (x : Flow) → kind_of x ≡ Some i → NamesATask x
    → blamed t call.args call.kwargs i ≡ at_fault t (value x ++ call.args) call.kwargs
same_after t call i nothing k h = let same : i ≡ Nothing = cc in ap (blamed t call.args call.kwargs) same
same_after t call i (num n) k h =
    let same : i ≡ Number = cc in
    ap (blamed t call.args call.kwargs) same ∙ fault_alike t call.args call.kwargs (arg.Num (pos 0)) (arg.Num n) (numbers_alike (taken t) (pos 0) n)
same_after t call i (list ns) k h =
    let same : i ≡ Numbers = cc in
    ap (blamed t call.args call.kwargs) same ∙ fault_alike t call.args call.kwargs (arg.List []) (arg.List ns) (lists_alike (taken t) [] ns)
same_after t call i (id n) k h =
    let same : i ≡ Identifier = cc in
    ap (blamed t call.args call.kwargs) same ∙ fault_alike t call.args call.kwargs (arg.Text some_task) (arg.Text (task_text n)) (texts_alike (taken t) n h)
same_after t call i (skip f) k h = absurd cc
same_after t call i (raised f) k h = absurd cc

whether_immutable : (b : Bool) (t : Builtin) (call : Call) (i : Input) (x : Flow) → kind_of x ≡ Some i → NamesATask x
    → blamed t call.args call.kwargs (if b then Nothing else i) ≡ at_fault t (if b then call.args else value x ++ call.args) call.kwargs
whether_immutable true t call i x k h = refl
whether_immutable false t call i x k h = same_after t call i x k h

pub blames_the_same : BlamesTheSameWhateverComes
blames_the_same t call i x k h = whether_immutable call.immutable t call i x k h
