-- The tokens of signatures that haven't started, by the parts in which they are written.
use Rattle.std.specs.Prelude.{ℕ, Bool, true, false, List, [], ◌∷◌, ◌++◌, map, codes}
use Rattle.json.specs.Token.{Token, begin_object, key}
use Rattle.serde_json.specs.Data.{Items, no_items, Members}
use Rattle.canvas_semantics.specs.Tree.{Call}
use Rattle.canvas_semantics.specs.PlacedLine.{PTask, PPlace, p_nowhere, p_group, p_chord, PLine, p_stop, p_step, p_group_end, p_chord_end}
use Rattle.canvas_values.specs.Writing.{args_wire, kwargs_wire}
use Rattle.canvas_values.specs.steps.Tokens.{data_tokens, rest_members, call_tokens, kind_tokens, name_tokens}
use Rattle.canvas_envelope.specs.steps.Tokens.{named_tokens}
use Rattle.canvas_celery.specs.Signatures.{Naming, group_id, index_wire, Sig, sig_wire, task_sig, elements, carried_wire}

-- ---- one signature

-- up to the brace that opens the options
abbrev pub front_tokens : (args : Items) → Bool → (kwargs : Members) → List Token
front_tokens args immutable kwargs =
    call_tokens args immutable kwargs ++ key (codes "options") ∷ begin_object ∷ []

abbrev pub sig_front : Sig → List Token
sig_front s = front_tokens s.args s.immutable s.kwargs

abbrev pub call_front : Call → List Token
call_front call = front_tokens (args_wire call.args) call.immutable (kwargs_wire call.kwargs)

-- from the options on, but for the option `chain`
abbrev pub sig_rest : Sig → List Token
sig_rest s = rest_members s.options ++ (kind_tokens s.kind ++ name_tokens s.name)

abbrev pub sig_tokens : Sig → List Token
sig_tokens s = data_tokens (sig_wire no_items s)

-- ---- the first of several

abbrev pub first_front : List Sig → List Token
first_front [] = []
first_front (s ∷ ss) = sig_front s

abbrev pub first_rest : List Sig → List Token
first_rest [] = []
first_rest (s ∷ ss) = sig_rest s

-- ---- several

abbrev pub each_tokens : List Sig → List Token
each_tokens [] = []
each_tokens (s ∷ ss) = sig_tokens s ++ each_tokens ss

abbrev pub task_sigs : Naming → List PTask → List Sig
task_sigs n ts = map (λ t. task_sig n t) ts

-- the group or chord that a line ends in, and what follows it
abbrev pub tail_sigs : Naming → PLine → List Sig
tail_sigs n p_stop = []
tail_sigs n (p_step t l) = tail_sigs n l
tail_sigs n (p_group_end g ms) = elements n (p_group_end g ms)
tail_sigs n (p_chord_end g ms b) = elements n (p_chord_end g ms b)

-- whether a line has more than one element
abbrev pub has_more : PLine → Bool
has_more p_stop = false
has_more (p_step t p_stop) = false
has_more (p_step t l) = true
has_more (p_group_end g ms) = false
has_more (p_chord_end g ms b) = has_more b

-- ---- the options that a place gives a task

abbrev pub chord_option : Naming → PPlace → List Token
chord_option n p_nowhere = []
chord_option n (p_group g) = []
chord_option n (p_chord g size body) =
    named_tokens (codes "chord") (carried_wire (elements n body))

abbrev pub group_options : Naming → ℕ → PPlace → List Token
group_options n k p_nowhere = []
group_options n k (p_group g) =
    named_tokens (codes "group_id") (group_id n g)
    ++ named_tokens (codes "group_index") (index_wire n g k)
group_options n k (p_chord g size body) =
    named_tokens (codes "group_id") (group_id n g)
    ++ named_tokens (codes "group_index") (index_wire n g k)
