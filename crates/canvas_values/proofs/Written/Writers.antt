-- Writing tokens one after the other.
use Rattle.std.proofs.Common.{◌≡◌, ℕ, ℤ, pos, negsuc, Bool, false, List, [], ◌∷◌, ◌++◌, map, length, ◌==◌, Vec, Global, refl, sym, ap, ◌∙◌, append_assoc}
use Rattle.std.specs.Prelude.{codes, Result, Ok, Err}
use Rattle.std.specs.Fmt.{signed_decimal}
use Rattle.json.specs.Written.{Written}
use Rattle.json.specs.Token.{Token, key, begin_array, end_object}
use Rattle.json.specs.Print.{print}
use Rattle.serde_json.proofs.Texts.{print-outline}
use Rattle.serde_json.proofs.Views.{view-Array}
use Rattle.serde_json.specs.declared.value.Value.{Value, Array}
use Rattle.serde_json.specs.View.{view, items_of}
use Rattle.serde_json.specs.Data.{Data, array, null, Items, no_items, item, no_members}
use Rattle.serde_json.specs.Find.{of_integer}
use Rattle.serde_json.specs.Written.{number_text, compact_text}
use Rattle.canvas_task.specs.declared.arg.Arg.{Arg}
use Rattle.canvas_semantics.specs.Tree.{Call, Task, task, Tasks}
use Rattle.canvas_values.specs.SignatureView.{task_view, tasks_of}
use Rattle.canvas_task.specs.declared.arg.Arg.TheVariants as arg
use Rattle.canvas_values.specs.Writing.{number_wire, numbers_wire, arg_wire, args_wire, kwargs_wire, task_wire, tasks_wire, options_wire, signature, tasks_member, chord_members}
use Rattle.canvas_values.specs.steps.Tokens.{Appends, data_tokens, rest_tokens, rest_members, call_tokens, links_wire, errbacks_wire, link_tokens, links_tokens, options_tokens, kind_tokens, name_tokens, opening_tokens, last_tokens, body_tokens}
use Rattle.canvas_values.specs.declared.task_sig.TaskSig.{TaskSig, out-TaskSig}
use Rattle.canvas_values.proofs.Views.{task_seen}

pub after_ok : {E : Type 0} (r : Result (Unit {0}) E) (old mid new : Written) (ts us all : List Token)
    → (mid.tokens ≡ old.tokens ++ ts) × (mid.before ≡ old.before)
    → Appends r mid new us → ts ++ us ≡ all → Appends r old new all
after_ok (Ok x) old mid new ts us all first second is =
    (second.0 ∙ ap (λ xs. xs ++ us) first.0 ∙ append_assoc old.tokens ts us ∙ ap (λ xs. old.tokens ++ xs) is, second.1 ∙ first.1)
after_ok (Err e) old mid new ts us all first second is = tt

-- the tokens written between two states of a writer
abbrev pub Stands : Written → Written → List Token → Type 0
Stands old new ts = (new.tokens ≡ old.tokens ++ ts) × (new.before ≡ old.before)

pub then_tokens : (old mid new : Written) (ts us : List Token) → Stands old mid ts → Stands mid new us → Stands old new (ts ++ us)
then_tokens old mid new ts us first second =
    (second.0 ∙ ap (λ xs. xs ++ us) first.0 ∙ append_assoc old.tokens ts us, second.1 ∙ first.1)

pub number_text_of : (z : ℤ) → number_text (of_integer z) ≡ signed_decimal z
number_text_of (pos n) = refl
number_text_of (negsuc n) = refl

-- ---- options

pub some_link : (k : List ℕ) (sigs : List TaskSig) → (length sigs == 0) ≡ false
    → link_tokens k (tasks_wire (tasks_of (map task_view sigs))) ≡ key k ∷ begin_array ∷ rest_tokens (tasks_wire (tasks_of (map task_view sigs)))
some_link k [] h = absurd cc
some_link k (s ∷ sigs) h = refl

two_links : (links errbacks : Items) → rest_members (options_wire links errbacks)
    ≡ (link_tokens (codes "link") links ++ link_tokens (codes "link_error") errbacks) ++ end_object ∷ []
two_links no_items no_items = refl
two_links no_items (item e es) = refl
two_links (item d ds) no_items = simp append_assoc
two_links (item d ds) (item e es) = simp append_assoc

pub options_are : (t : Task) → rest_members (options_wire (links_wire t) (errbacks_wire t)) ≡ links_tokens t ++ end_object ∷ []
options_are t = two_links (links_wire t) (errbacks_wire t)

pub links_are : (s : TaskSig) → links_tokens (task_view s)
    ≡ link_tokens (codes "link") (tasks_wire (tasks_of (map task_view (out-TaskSig s).links))) ++ link_tokens (codes "link_error") (tasks_wire (tasks_of (map task_view (out-TaskSig s).errbacks)))
links_are s = ap links_tokens (task_seen s)

-- ---- tasks

abbrev parts : List Arg → Bool → List (List ℕ × Arg) → Items → Items → List ℕ → List Token
parts args immutable kwargs links errbacks name =
    call_tokens (args_wire args) immutable (kwargs_wire kwargs) ++ (options_tokens (options_wire links errbacks) ++ (kind_tokens null ++ name_tokens name))

task_parts : (k : ℕ) (call : Call) (links errbacks : Tasks) → data_tokens (task_wire (task k call links errbacks))
    ≡ parts call.args call.immutable call.kwargs (tasks_wire links) (tasks_wire errbacks) call.name
task_parts k call links errbacks = simp append_assoc

pub task_tokens : (s : TaskSig) → data_tokens (task_wire (task_view s))
    ≡ parts (out-TaskSig s).args (out-TaskSig s).immutable (out-TaskSig s).kwargs (links_wire (task_view s)) (errbacks_wire (task_view s)) (out-TaskSig s).name
task_tokens s =
    let call : Call = record {
      name = (out-TaskSig s).name;
      args = (out-TaskSig s).args;
      kwargs = (out-TaskSig s).kwargs;
      immutable =
          (out-TaskSig s).immutable;
    } in
    ap (λ t. data_tokens (task_wire t)) (task_seen s) ∙ task_parts 0 call _ _
    ∙ ap (λ t. parts call.args call.immutable call.kwargs (links_wire t) (errbacks_wire t) call.name) (sym (task_seen s))

-- ---- chains, groups and chords

pub sequence_tokens : (ds : Items) (kind : Data) (name : List ℕ)
    → opening_tokens ++ last_tokens (codes "tasks") ds kind name ≡ data_tokens (signature no_items false (tasks_member ds) no_members kind name)
sequence_tokens ds kind name = simp append_assoc

pub chord_tokens : (body : Data) (header : Items) (kind : Data) (name : List ℕ)
    → body_tokens body ++ last_tokens (codes "header") header kind name ≡ data_tokens (signature no_items false (chord_members body header) no_members kind name)
chord_tokens body header kind name = simp append_assoc

-- ---- whole texts

pub whole_text : (d : Data) (start end : Written) (bytes : List ℕ) → start.before ≡ [] → start.tokens ≡ [] → Stands start end (data_tokens d)
    → bytes ≡ end.before ++ print end.tokens → bytes ≡ compact_text d
whole_text d start end bytes empty new written is =
    let before : end.before ≡ [] = written.1 ∙ empty in
    let tokens : end.tokens ≡ data_tokens d = written.0 ∙ ap (λ ts. ts ++ data_tokens d) new in
    is ∙ ap (λ xs. xs ++ print end.tokens) before ∙ ap print tokens ∙ print-outline d

-- ---- values

pub numbers_items : (ns : List ℤ) → items_of (map number_wire ns) ≡ numbers_wire ns
numbers_items [] = refl
numbers_items (n ∷ ns) = ap (item (number_wire n)) (numbers_items ns)

pub list_value : (vs : Vec Value Global) (ns : List ℤ) → map view vs.items ≡ map number_wire ns → view (Array vs) ≡ arg_wire (arg.List ns)
list_value vs ns same = view-Array vs ∙ ap (λ ds. array (items_of ds)) same ∙ ap array (numbers_items ns)
