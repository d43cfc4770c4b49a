-- The tokens of a signature's JSON.
use Rattle.std.specs.Prelude.{◌≡◌, ℕ, Bool, false, List, [], ◌∷◌, ◌++◌, OnOk, Result, codes}
use Rattle.json.specs.Token.{Token, begin_array, begin_object, end_object, key, string, boolean}
use Rattle.json.specs.Tree.{json_tokens, items_tokens, members_tokens}
use Rattle.json.specs.Written.{Written}
use Rattle.serde_json.specs.Data.{Data, Items, no_items, item, Members}
use Rattle.serde_json.specs.Written.{outline, items_outline, members_outline}
use Rattle.canvas_semantics.specs.Tree.{Task, task}
use Rattle.canvas_values.specs.Writing.{tasks_wire}

abbrev pub data_tokens : Data → List Token
data_tokens d = json_tokens (outline d)

-- the items of a list, up to the closing bracket
abbrev pub rest_tokens : Items → List Token
rest_tokens ds = items_tokens (items_outline ds)

-- the members of an object, up to the closing brace
abbrev pub rest_members : Members → List Token
rest_members ms = members_tokens (members_outline ms)

-- the tokens come after the earlier ones; the text before the first token is unchanged
abbrev pub Appends : {E : Type 0} → Result (Unit {0}) E → Written → Written → List Token → Type 0
Appends r old new ts = OnOk r ((new.tokens ≡ old.tokens ++ ts) × (new.before ≡ old.before))

-- ---- the parts of a signature

abbrev pub front_tokens : (args : Items) → List Token
front_tokens args = begin_object ∷ key (codes "args") ∷ begin_array ∷ rest_tokens args

abbrev pub flag_tokens : Bool → List Token
flag_tokens immutable = key (codes "immutable") ∷ boolean immutable ∷ []

abbrev pub kwargs_tokens : Members → List Token
kwargs_tokens kwargs = key (codes "kwargs") ∷ begin_object ∷ rest_members kwargs

-- a task up to the brace after its keyword arguments
abbrev pub call_tokens : (args : Items) → Bool → (kwargs : Members) → List Token
call_tokens args immutable kwargs =
    front_tokens args ++ (flag_tokens immutable ++ kwargs_tokens kwargs)

abbrev pub links_wire : Task → Items
links_wire (task k call links errbacks) = tasks_wire links

abbrev pub errbacks_wire : Task → Items
errbacks_wire (task k call links errbacks) = tasks_wire errbacks

-- a list of signatures, omitted if it is empty
abbrev pub link_tokens : List ℕ → Items → List Token
link_tokens k no_items = []
link_tokens k (item d ds) = key k ∷ begin_array ∷ rest_tokens (item d ds)

abbrev pub links_tokens : Task → List Token
links_tokens t =
    link_tokens (codes "link") (links_wire t) ++ link_tokens (codes "link_error") (errbacks_wire t)

abbrev pub options_tokens : Members → List Token
options_tokens options = key (codes "options") ∷ begin_object ∷ rest_members options

abbrev pub kind_tokens : Data → List Token
kind_tokens kind = key (codes "subtask_type") ∷ data_tokens kind

abbrev pub name_tokens : List ℕ → List Token
name_tokens name = key (codes "task") ∷ string name ∷ end_object ∷ []

-- ---- the parts of a chain, group or chord, around its keyword arguments

abbrev pub opening_tokens : List Token
opening_tokens =
    front_tokens no_items ++ (flag_tokens false ++ key (codes "kwargs") ∷ begin_object ∷ [])

abbrev pub closing_tokens : (kind : Data) → (name : List ℕ) → List Token
closing_tokens kind name =
    key (codes "options") ∷ begin_object ∷ end_object ∷ (kind_tokens kind ++ name_tokens name)

abbrev pub member_tokens : List ℕ → Items → List Token
member_tokens k ds = key k ∷ begin_array ∷ rest_tokens ds

-- a chain, group or chord from its last keyword argument to the end
abbrev pub last_tokens : List ℕ → Items → (kind : Data) → (name : List ℕ) → List Token
last_tokens k ds kind name = member_tokens k ds ++ end_object ∷ closing_tokens kind name

-- a chord up to the end of its body
abbrev pub body_tokens : Data → List Token
body_tokens body = opening_tokens ++ key (codes "body") ∷ data_tokens body
