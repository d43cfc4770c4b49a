-- What the parser has of a command to which arguments or commands are added in turn.
use Rattle.std.proofs.Common.{◌≡◌, ◌∙◌, ◌++◌, ◌∷◌, ◌||◌, List, [], map, Bool, true, false, refl, sym, ap}
use Rattle.std.specs.List.{All}
use Rattle.std.proofs.lemmas.List.{append-nil, append_assoc}
use Rattle.std.proofs.lemmas.List.Elements.{All-head, All-tail}
use Rattle.clap.specs.Built.{AddsArg, AddsInTurn, AddsSubcommand}
use Rattle.clap.specs.Simple.{App, Shape, app_of, on_top, shape_of, with_rule}
use Rattle.clap.specs.Walk.{Rule, rule_of}
use Rattle.clap.specs.declared.builder.arg.Arg.{Arg}
use Rattle.clap.specs.declared.builder.command.Command.{Command}
use Rattle.clap.specs.declared.builder.command.Command.TheViews.{out-Command}

or_false : (b : Bool) → (b || false) ≡ b
or_false true = refl
or_false false = refl

-- ---- arguments

abbrev pub with_rules : App → List Rule → App
with_rules a rs = on_top (λ s. record s { rules = s.rules ++ rs }) a

none_more : (a : App) → a ≡ with_rules a []
none_more a = ap (λ rs. on_top (λ s. record s { rules = rs }) a) (sym (append-nil a.top.rules))

one_first : (a : App) (r : Rule) (rs : List Rule) → with_rules (with_rule a r) rs ≡ with_rules a (r ∷ rs)
one_first a r rs = ap (λ rs. on_top (λ s. record s { rules = rs }) a) (append_assoc a.top.rules (r ∷ []) rs)

pub args_added : (old new : Command) (xs : List Arg) → AddsInTurn AddsArg old xs new → All (λ a. a.global ≡ false) xs
    → app_of new ≡ with_rules (app_of old) (map rule_of xs)
args_added old new [] h local = sym (ap app_of h) ∙ none_more (app_of old)
args_added old new (x ∷ xs) (m, step, rest) local =
    args_added m new xs rest (All-tail (λ a. a.global ≡ false) x xs local)
    ∙ ap (λ a. with_rules a (map rule_of xs)) (step.shape (All-head (λ a. a.global ≡ false) x xs local))
    ∙ one_first (app_of old) (rule_of x) (map rule_of xs)

pub args_local : (old new : Command) (xs : List Arg) → AddsInTurn AddsArg old xs new → All (λ a. a.global ≡ false) xs
    → (out-Command new).has_globals ≡ (out-Command old).has_globals
args_local old new [] h local = sym (ap (λ c. (out-Command c).has_globals) h)
args_local old new (x ∷ xs) (m, step, rest) local =
    args_local m new xs rest (All-tail (λ a. a.global ≡ false) x xs local)
    ∙ step.globals ∙ ap (λ b. (out-Command old).has_globals || b) (All-head (λ a. a.global ≡ false) x xs local)
    ∙ or_false (out-Command old).has_globals

-- ---- commands

abbrev pub with_commands : App → List Shape → App
with_commands a [] = a
with_commands a (s ∷ ss) = record { top = record a.top { is_leaf = false }; subs = a.subs ++ s ∷ ss }

one_command : (a : App) (s : Shape) (ss : List Shape) → with_commands (record { top = record a.top { is_leaf = false }; subs = a.subs ++ s ∷ [] }) ss
    ≡ with_commands a (s ∷ ss)
one_command a s [] = refl
one_command a s (t ∷ ss) = ap (λ subs. record { top = record a.top { is_leaf = false }; subs = subs }) (append_assoc a.subs (s ∷ []) (t ∷ ss))

pub commands_added : (old new : Command) (cs : List Command) → AddsInTurn AddsSubcommand old cs new
    → All (λ c. (out-Command c).has_globals ≡ false) cs → app_of new ≡ with_commands (app_of old) (map shape_of cs)
commands_added old new [] h local = sym (ap app_of h)
commands_added old new (c ∷ cs) (m, step, rest) local =
    commands_added m new cs rest (All-tail (λ c. (out-Command c).has_globals ≡ false) c cs local)
    ∙ ap (λ a. with_commands a (map shape_of cs)) (step.shape (All-head (λ c. (out-Command c).has_globals ≡ false) c cs local))
    ∙ one_command (app_of old) (shape_of c) (map shape_of cs)
