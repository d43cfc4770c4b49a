-- Identifiers of a run, and calls, are read back from what they are written as.
use Rattle.std.proofs.Common.{◌≡◌, ◌∙◌, ℕ, true, List, [], ◌∷◌, length, map, Option, Some, None, Ok, refl, ap, ap₂}
use Rattle.std.specs.Prelude.{unwrap_or}
use Rattle.uuid.specs.Text.{by_index}
use Rattle.serde_json.specs.Data.{Items, Members, null, string}
use Rattle.canvas_task.specs.Text.{Text}
use Rattle.canvas_task.specs.Identifiers.{task_text, group_text, task_named, group_named}
use Rattle.canvas_task.specs.declared.arg.Arg.{Arg}
use Rattle.canvas_task.proofs.IdentifierLemmas as identifiers
use Rattle.canvas_values.specs.Answers.{judged}
use Rattle.canvas_values.specs.Fields.{items, entries}
use Rattle.canvas_values.specs.Grammar.{argument_of, arg_fault}
use Rattle.canvas_values.specs.Refusals.{named_of, spelled_call}
use Rattle.canvas_values.specs.Writing.{arg_wire, args_wire, kwargs_wire}
use Rattle.canvas_values.specs.declared.fault.SigFault.{SigFault}
use Rattle.canvas_values.proofs.FittingCalls.{ArgFits, ArgsFit, KwargsFit, CallFits}
use Rattle.canvas_sig.proofs.RoundTrip.{arg_back}
use Rattle.canvas_semantics.specs.Tree.{Call}
use Rattle.canvas_envelope.specs.Fits.{is_task_number}
use Rattle.canvas_codec.proofs.RoundTrip.{numbered}
use Rattle.canvas_celery.specs.Run.{run_task, run_group}
use Rattle.canvas_celery.proofs.Pieces.{in_run_seen}
use Rattle.canvas_celery.specs.Signatures.{sig_wire}
use Rattle.canvas_celery.specs.MessageReading.{without_run, task_of, task_number, group_number}

-- ---- identifiers

length-task_text : (k : ℕ) → length (task_text k) ≡ 36
unfolding by_index
length-task_text k = refl

length-group_text : (g : ℕ) → length (group_text g) ≡ 36
unfolding by_index
length-group_text g = refl

task_seen : (run : Text) (k : ℕ) → length run ≡ 22 → without_run (run_task run k) ≡ task_text k
unfolding by_index
task_seen run k h = ap without_run (in_run_seen run (task_text k) h (length-task_text k))

group_seen : (run : Text) (g : ℕ) → length run ≡ 22 → without_run (run_group run g) ≡ group_text g
unfolding by_index
group_seen run g h = ap without_run (in_run_seen run (group_text g) h (length-group_text g))

pub length-run_group : (run : Text) (g : ℕ) → length run ≡ 22 → length (run_group run g) ≡ 36
length-run_group run g h = ap (λ t. length t) (in_run_seen run (group_text g) h (length-group_text g))

pub task_back : (run : Text) (k : ℕ) → length run ≡ 22 → is_task_number k ≡ true → task_of (string (run_task run k)) ≡ Some k
task_back run k h ok = let p = numbered k ok in ap task_named (task_seen run k h) ∙ identifiers.task_back k p.0 p.1

pub task_number_back : (run : Text) (k : ℕ) → length run ≡ 22 → is_task_number k ≡ true → task_number (string (run_task run k)) ≡ k
task_number_back run k h ok = ap (λ o. unwrap_or o 0) (task_back run k h ok)

pub group_number_back : (run : Text) (g : ℕ) → length run ≡ 22 → is_task_number g ≡ true → group_number (string (run_group run g)) ≡ g
group_number_back run g h ok =
    let p = numbered g ok in
    ap (λ o. unwrap_or o 0) (ap group_named (group_seen run g h) ∙ identifiers.group_back g p.0 p.1)

-- ---- calls

judged_was : (f : Option SigFault) (x y : Arg) → judged f x ≡ Ok y → x ≡ y
judged_was None x y h = cc
judged_was (Some e) x y h = absurd cc

argument_back : (a : Arg) → ArgFits a → argument_of (arg_wire a) ≡ a
argument_back a h = judged_was (arg_fault (arg_wire a)) (argument_of (arg_wire a)) a (arg_back a h)

pub arguments_back : (args : List Arg) → ArgsFit args → map argument_of (items (args_wire args)) ≡ args
arguments_back [] h = refl
arguments_back (a ∷ args) h = ap₂ (λ x xs. x ∷ xs) (argument_back a h.0) (arguments_back args h.1)

pub named_back : (es : List (Text × Arg)) → KwargsFit es → map named_of (entries (kwargs_wire es)) ≡ es
named_back [] h = refl
named_back (e ∷ es) h = ap₂ (λ x xs. (e.0, x) ∷ xs) (argument_back e.1 h.0) (named_back es h.1)

-- a signature's call, with anything in its options
pub call_back : (chain : Items) (call : Call) (options : Members) → CallFits call
    → spelled_call (sig_wire chain
    (record { args = args_wire call.args; immutable = call.immutable; kwargs = kwargs_wire call.kwargs; options = options; kind = null; name = call.name }))
    ≡ call
call_back chain call options fits =
    ap₂ (λ xs ys. record { name = call.name; args = xs; kwargs = ys; immutable = call.immutable }) (arguments_back call.args fits.args)
    (named_back call.kwargs fits.kwargs)
