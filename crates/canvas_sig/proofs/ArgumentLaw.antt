-- Reading an argument gives its fault, or the argument that it spells.
use Rattle.std.proofs.Common.{◌≡◌, ℤ, List, [], ◌∷◌, map, Bool, true, false, Option, Some, None, Result, Ok, Err, refl, ap, subst, ◌∙◌}
use Rattle.std.specs.Prelude.{not, ◌&&◌, if◌then◌else◌}
use Rattle.std.specs.List.{list_all}
use Rattle.serde_json.specs.Data.{Data, null, boolean, number, string, array, object}
use Rattle.serde_json.specs.Find.{as_i64}
use Rattle.canvas_task.specs.Numbers.{in_range}
use Rattle.canvas_task.specs.declared.arg.Arg.{Arg}
use Rattle.canvas_task.specs.declared.arg.Arg.TheVariants as arg
use Rattle.canvas_values.specs.declared.fault.SigFault.{SigFault}
use Rattle.canvas_values.specs.declared.fault.SigFault.TheVariants.{BadArgs, BadNumber}
use Rattle.canvas_values.specs.Fields.{items, is_number}
use Rattle.canvas_values.specs.Answers.{◌>>=◌, ◌or_else◌, Gives, fault_if, judged, in_turn}
use Rattle.canvas_values.specs.Grammar.{some_in_range, number_ok, some_or_zero, whole_number, arg_reading}
use Rattle.canvas_values.specs.steps.Reading.{in_range_or_refused, number_reading, arg_steps}

judged_map : {A B : Type 0} (p : Option SigFault) (x : A) (f : A → B) → (judged p x >>= λ y. Ok (f y)) ≡ judged p (f x)
judged_map (Some e) x f = refl
judged_map None x f = refl

whole_by : (z : ℤ) (b : Bool) → (if b then Ok z else Err BadNumber) ≡ judged (fault_if (not b) BadNumber) z
whole_by z true = refl
whole_by z false = refl

whole_judged : (o : Option ℤ) → in_range_or_refused o ≡ judged (fault_if (not (some_in_range o)) BadNumber) (some_or_zero o)
whole_judged None = refl
whole_judged (Some z) = whole_by z (in_range z)

-- one number, then the others
then_others : (b c : Bool) (z : ℤ) (zs : List ℤ)
    → (judged (fault_if (not b) BadNumber) z >>= λ y. judged (fault_if (not c) BadNumber) zs >>= λ ys. Ok (y ∷ ys)) ≡ judged (fault_if (not (b && c)) BadNumber)
    (z ∷ zs)
then_others true true z zs = refl
then_others true false z zs = refl
then_others false c z zs = refl

all_numbers : (b c : Bool) → (b && c) ≡ true → (b ≡ true) × (c ≡ true)
all_numbers true c h = (refl, h)
all_numbers false c h = absurd cc

number_judged : (d : Data) → is_number d ≡ true → number_reading d ≡ judged (fault_if (not (number_ok d)) BadNumber) (whole_number d)
number_judged (number n) h = whole_judged (as_i64 n)
number_judged d h = absurd cc

numbers_judged : (ds : List Data) → list_all is_number ds ≡ true
    → in_turn number_reading ds ≡ judged (fault_if (not (list_all number_ok ds)) BadNumber) (map whole_number ds)
numbers_judged [] h = refl
numbers_judged (d ∷ ds) h =
    let p = all_numbers (is_number d) (list_all is_number ds) h in
    rw (number_judged d p.0, numbers_judged ds p.1) (then_others (number_ok d) (list_all number_ok ds) (whole_number d) (map whole_number ds))

list_by : (ds : List Data) (b : Bool) → list_all is_number ds ≡ b
    → (if b then (in_turn number_reading ds >>= λ ns. Ok (arg.List ns)) else Err BadArgs)
    ≡ judged (fault_if (not b) BadArgs or_else fault_if (not (list_all number_ok ds)) BadNumber) (arg.List (map whole_number ds))
list_by ds true h = ap (λ r. r >>= λ ns. Ok (arg.List ns)) (numbers_judged ds h)
    ∙ judged_map (fault_if (not (list_all number_ok ds)) BadNumber) (map whole_number ds) arg.List
list_by ds false h = refl

pub steps_judged : (d : Data) → arg_steps d ≡ arg_reading d
steps_judged (number n) =
    ap (λ r. r >>= λ z. Ok (arg.Num z)) (whole_judged (as_i64 n))
    ∙ judged_map (fault_if (not (some_in_range (as_i64 n))) BadNumber) (some_or_zero (as_i64 n)) arg.Num
steps_judged (string s) = refl
steps_judged (array ds) = list_by (items ds) (list_all is_number (items ds)) refl
steps_judged null = refl
steps_judged (boolean b) = refl
steps_judged (object ms) = refl

pub reads_so : (r : Result Arg SigFault) (d : Data) → Gives (λ a. a) r (arg_steps d) → Gives (λ a. a) r (arg_reading d)
reads_so r d h = subst (Gives (λ a. a) r) (steps_judged d) h
