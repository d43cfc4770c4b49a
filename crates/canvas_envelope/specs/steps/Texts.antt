-- The texts of light messages, by their parts.
use Rattle.std.specs.Prelude.{◌≡◌, ℕ, Bool, true, false, List, ◌++◌, OnOk, Result, codes, decimal}
use Rattle.serde_json.specs.Data.{Data, null, string, object, Items, Members, member, no_members}
use Rattle.serde_json.specs.Written.{compact_text, items_text}
use Rattle.canvas_semantics.specs.PlacedLine.{PTask, p_task, no_p_tasks, p_nowhere}
use Rattle.canvas_rewrite.specs.declared.frozen.FrozenTask.{FrozenTask, out-FrozenTask}

-- the text was appended
abbrev pub Adds : {E : Type 0} → Result (Unit {0}) E → (old new : List ℕ) → List ℕ → Type 0
Adds r old new text = OnOk r (new ≡ old ++ text)

-- the name, which comes last
abbrev pub name_text : (name : List ℕ) → List ℕ
name_text name = compact_text (string name) ++ codes "}"

-- ---- a task without callbacks and place

abbrev pub bare : FrozenTask → PTask
bare t =
    p_task (out-FrozenTask t).no
    (record {
      name = (out-FrozenTask t).name;
      args = (out-FrozenTask t).args;
      kwargs = (out-FrozenTask t).kwargs;
      immutable = (out-FrozenTask t).immutable;
    })
    no_p_tasks no_p_tasks p_nowhere

abbrev pub size_text : (size : ℕ) (args : Items) → List ℕ
size_text size args =
    codes "{\"args\":[" ++ (items_text false args ++ (codes ",\"chord_size\":" ++ decimal size))

abbrev pub flag_text : Bool → List ℕ
flag_text true = codes ",\"immutable\":true,\"kwargs\":"
flag_text false = codes ",\"immutable\":false,\"kwargs\":"

-- a task up to its options
abbrev pub call_text : (size : ℕ) (args : Items) → Bool → (kwargs : Members) → List ℕ
call_text size args immutable kwargs =
    size_text size args ++ (flag_text immutable ++ compact_text (object kwargs))

-- the options, and the part after them without the name
abbrev pub own_text : (id : List ℕ) → List ℕ
own_text id =
    codes ",\"options\":{\"task_id\":\"" ++ (id ++ codes "\"},\"subtask_type\":null,\"task\":")

-- ---- a body

-- the embed
abbrev pub embed_of : (callbacks chain chord errbacks : Data) → Data
embed_of callbacks chain chord errbacks =
    object (member (codes "callbacks") callbacks
    (member (codes "chain") chain
    (member (codes "chord") chord
    (member (codes "errbacks") errbacks no_members))))

abbrev pub args_text : (args : Items) (kwargs : Members) → List ℕ
args_text args kwargs =
    codes "[[" ++ (items_text false args ++ (codes "," ++ compact_text (object kwargs)))

-- the members `chain` and `chord` of the embed
abbrev pub onward_text : (chain chord : Data) → List ℕ
onward_text chain chord =
    codes "\"chain\":" ++ (compact_text chain ++ (codes ",\"chord\":" ++ compact_text chord))
