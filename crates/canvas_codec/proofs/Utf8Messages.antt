-- The three texts of a message whose names and arguments are UTF-8 are UTF-8.
use Rattle.std.proofs.Common.{◌≡◌, ℕ, List, [], ◌∷◌, Bool, true, false, Option, Some, None, refl}
use Rattle.std.specs.Prelude.{codes, ℤ}
use Rattle.std.specs.Str.{IsUtf8}
use Rattle.std.proofs.lemmas.Str.{IsUtf8-from_ascii}
use Rattle.json.proofs.Printed.Utf8.{are_ascii, IsUtf8-are_ascii}
use Rattle.serde_json.specs.Data.{Data, null, boolean, number, string, array, object, Items, no_items, item, Members, no_members}
use Rattle.serde_json.specs.Written.{compact_text}
use Rattle.canvas_task.specs.Identifiers.{task_text, group_text}
use Rattle.canvas_task.specs.declared.arg.Arg.{Arg}
use Rattle.canvas_task.specs.declared.arg.Arg.TheVariants as arg
use Rattle.canvas_semantics.specs.Tree.{Call}
use Rattle.canvas_semantics.specs.PlacedLine.{PTask, p_task, PTasks, no_p_tasks, and_p_task, PPlace, p_nowhere, p_group, p_chord, PLine, p_stop, p_step, p_group_end, p_chord_end, PLines, no_p_lines, and_p_line}
use Rattle.canvas_values.specs.Writing.{numbers_wire, arg_wire, args_wire, kwargs_wire, member_unless_empty, tasks_member, chord_members}
use Rattle.canvas_rewrite.specs.Utf8.{IsUtf8Arg, AreUtf8Args, AreUtf8Entries, IsUtf8Call}
use Rattle.canvas_envelope.specs.Content.{Content, number_of}
use Rattle.canvas_envelope.specs.Fits.{fits}
use Rattle.canvas_envelope.specs.Wire.{parent_id, place_id, member_unless_null, size_member, frozen_wire, task_options, call_wire, chain_wire, group_options, group_wire, chord_wire, task_wire, tasks_wire, carried_wire, line_wire, elements_wire, members_wire, onto_reversed, list_or_null, embed_wire, body_wire, headers_wire, properties_wire}
use Rattle.canvas_codec.proofs.CleanMessage.{texts}
use Rattle.canvas_envelope.proofs.Written.IdentifierTexts.{task_ascii, group_ascii}
use Rattle.canvas_codec.proofs.Utf8Data.{IsUtf8Data, AreUtf8Items, AreUtf8Members, compact_utf8}

-- ---- what a message carries

abbrev mutual
  pub IsUtf8PTask : PTask → Type 0
  IsUtf8PTask (p_task k call links errbacks place) =
      IsUtf8Call call × AreUtf8PTasks links × AreUtf8PTasks errbacks × IsUtf8Place place

  pub AreUtf8PTasks : PTasks → Type 0
  AreUtf8PTasks no_p_tasks = Unit {0}
  AreUtf8PTasks (and_p_task t ts) = IsUtf8PTask t × AreUtf8PTasks ts

  pub IsUtf8Place : PPlace → Type 0
  IsUtf8Place p_nowhere = Unit {0}
  IsUtf8Place (p_group g) = Unit {0}
  IsUtf8Place (p_chord g size body) = IsUtf8PLine body

  pub IsUtf8PLine : PLine → Type 0
  IsUtf8PLine p_stop = Unit {0}
  IsUtf8PLine (p_step t l) = IsUtf8PTask t × IsUtf8PLine l
  IsUtf8PLine (p_group_end g ms) = AreUtf8PLines ms
  IsUtf8PLine (p_chord_end g ms b) = AreUtf8PLines ms × IsUtf8PLine b

  pub AreUtf8PLines : PLines → Type 0
  AreUtf8PLines no_p_lines = Unit {0}
  AreUtf8PLines (and_p_line m ms) = IsUtf8PLine m × AreUtf8PLines ms

pub record IsUtf8Content (c : Content) : Type 0 where
  pub own : IsUtf8PTask c.own
  pub rest : IsUtf8PLine c.rest

-- ---- names and identifiers

ascii : (text : List ℕ) → are_ascii text ≡ true → IsUtf8 text
ascii text low = IsUtf8-are_ascii text low

pub task_text_utf8 : (k : ℕ) → IsUtf8 (task_text k)
task_text_utf8 k = IsUtf8-from_ascii _ (task_ascii k)

pub group_text_utf8 : (g : ℕ) → IsUtf8 (group_text g)
group_text_utf8 g = IsUtf8-from_ascii _ (group_ascii g)

parent_data : (u : Option ℕ) → IsUtf8Data (parent_id u)
parent_data None = tt
parent_data (Some k) = task_text_utf8 k

place_data : (p : PPlace) → IsUtf8Data (place_id p)
place_data p_nowhere = tt
place_data (p_group g) = group_text_utf8 g
place_data (p_chord g size body) = group_text_utf8 g

-- ---- arguments

numbers_data : (ns : List ℤ) → AreUtf8Items (numbers_wire ns)
numbers_data [] = tt
numbers_data (n ∷ ns) = (tt, numbers_data ns)

arg_data : (a : Arg) → IsUtf8Arg a → IsUtf8Data (arg_wire a)
arg_data (arg.Num n) h = tt
arg_data (arg.List ns) h = numbers_data ns
arg_data (arg.Text text) h = h

args_data : (args : List Arg) → AreUtf8Args args → AreUtf8Items (args_wire args)
args_data [] h = tt
args_data (a ∷ args) h = (arg_data a h.0, args_data args h.1)

kwargs_data : (es : List (List ℕ × Arg)) → AreUtf8Entries es → AreUtf8Members (kwargs_wire es)
kwargs_data [] h = tt
kwargs_data (e ∷ es) h = (h.0, arg_data e.1 h.1, kwargs_data es h.2)

-- ---- signatures

unless_null : (k : List ℕ) (d : Data) (more : Members) → IsUtf8 k → IsUtf8Data d → AreUtf8Members more
    → AreUtf8Members (member_unless_null k d more)
unless_null k null more name h after = after
unless_null k (boolean b) more name h after = (name, h, after)
unless_null k (number n) more name h after = (name, h, after)
unless_null k (string s) more name h after = (name, h, after)
unless_null k (array ds) more name h after = (name, h, after)
unless_null k (object ms) more name h after = (name, h, after)

unless_empty : (k : List ℕ) (ds : Items) (more : Members) → IsUtf8 k → AreUtf8Items ds → AreUtf8Members more
    → AreUtf8Members (member_unless_empty k ds more)
unless_empty k no_items more name h after = after
unless_empty k (item d ds) more name h after = (name, h, after)

size_data : (size : Option ℕ) (more : Members) → AreUtf8Members more → AreUtf8Members (size_member size more)
size_data None more h = h
size_data (Some n) more h = (ascii (codes "chord_size") refl, tt, h)

frozen_data : (size : Option ℕ) (args : Items) (immutable : Bool) (kwargs options : Members) (kind : Data)
    (name : List ℕ) → AreUtf8Items args → AreUtf8Members kwargs → AreUtf8Members options → IsUtf8Data kind → IsUtf8 name
    → IsUtf8Data (frozen_wire size args immutable kwargs options kind name)
frozen_data size args immutable kwargs options kind name a k o d n = (
  ascii (codes "args") refl,
  a,
  size_data size _ (
    ascii (codes "immutable") refl,
    tt,
    (
      ascii (codes "kwargs") refl,
      k,
      (ascii (codes "options") refl, o, (ascii (codes "subtask_type") refl, d, (ascii (codes "task") refl, n, tt))),
    ),
  ),
)

options_data : (k : ℕ) (links errbacks : Items) (group chord : Data) → AreUtf8Items links → AreUtf8Items errbacks
    → IsUtf8Data group → IsUtf8Data chord
    → AreUtf8Members (task_options k links errbacks group chord)
options_data k links errbacks group chord l e g c =
    unless_null (codes "chord") chord _ (ascii (codes "chord") refl) c
    (unless_null (codes "group_id") group _ (ascii (codes "group_id") refl) g
    (unless_empty (codes "link") links _ (ascii (codes "link") refl) l
    (unless_empty (codes "link_error") errbacks _ (ascii (codes "link_error") refl) e
    (ascii (codes "task_id") refl, task_text_utf8 k, tt))))

call_data : (size : Option ℕ) (call : Call) (options : Members) → IsUtf8Call call → AreUtf8Members options
    → IsUtf8Data (call_wire size call options)
call_data size call options h o =
    frozen_data size (args_wire call.args) call.immutable (kwargs_wire call.kwargs) options null call.name
    (args_data call.args h.args)
    (kwargs_data call.kwargs h.kwargs) o tt h.name

chain_data : (size : Option ℕ) (elements : Items) → AreUtf8Items elements → IsUtf8Data (chain_wire size elements)
chain_data size elements h =
    frozen_data size no_items false (tasks_member elements) no_members (string (codes "chain")) (codes "celery.chain")
    tt
    (ascii (codes "tasks") refl, h, tt) tt (ascii (codes "chain") refl) (ascii (codes "celery.chain") refl)

group_options_data : (g : ℕ) → AreUtf8Members (group_options g)
group_options_data g = (ascii (codes "group_id") refl, group_text_utf8 g, tt)

group_data : (size : Option ℕ) (g : ℕ) (members : Items) → AreUtf8Items members → IsUtf8Data (group_wire size g members)
group_data size g members h =
    frozen_data size no_items false (tasks_member members) (group_options g) (string (codes "group"))
    (codes "celery.group") tt
    (ascii (codes "tasks") refl, h, tt) (group_options_data g) (ascii (codes "group") refl)
    (ascii (codes "celery.group") refl)

chord_data : (size : Option ℕ) (g : ℕ) (header : Items) (body : Data) → AreUtf8Items header → IsUtf8Data body
    → IsUtf8Data (chord_wire size g header body)
chord_data size g header body h b =
    frozen_data size no_items false (chord_members body header) (group_options g) (string (codes "chord"))
    (codes "celery.chord") tt
    (ascii (codes "body") refl, b, (ascii (codes "header") refl, h, tt)) (group_options_data g)
    (ascii (codes "chord") refl)
    (ascii (codes "celery.chord") refl)

mutual
  task_data : (size : Option ℕ) (t : PTask) → IsUtf8PTask t → IsUtf8Data (task_wire size t)
  task_data size (p_task k call links errbacks place) h =
      call_data size call _ h.0
      (options_data k (tasks_wire links) (tasks_wire errbacks) (place_id place) (carried_wire place)
      (tasks_data links h.1) (tasks_data errbacks h.2)
      (place_data place) (carried_data place h.3))

  tasks_data : (ts : PTasks) → AreUtf8PTasks ts → AreUtf8Items (tasks_wire ts)
  tasks_data no_p_tasks h = tt
  tasks_data (and_p_task t ts) h = (task_data None t h.0, tasks_data ts h.1)

  carried_data : (p : PPlace) → IsUtf8Place p → IsUtf8Data (carried_wire p)
  carried_data p_nowhere h = tt
  carried_data (p_group g) h = tt
  carried_data (p_chord g size body) h = line_data (Some size) body h

  line_data : (size : Option ℕ) (l : PLine) → IsUtf8PLine l → IsUtf8Data (line_wire size l)
  line_data size p_stop h = chain_data size no_items tt
  line_data size (p_step t p_stop) h = task_data size t h.0
  line_data size (p_step t (p_step u l)) h =
      chain_data size (item (task_wire None t) (elements_wire (p_step u l)))
      (task_data None t h.0, elements_data (p_step u l) h.1)
  line_data size (p_step t (p_group_end g ms)) h =
      chain_data size (item (task_wire None t) (elements_wire (p_group_end g ms)))
      (task_data None t h.0, elements_data (p_group_end g ms) h.1)
  line_data size (p_step t (p_chord_end g ms b)) h =
      chain_data size (item (task_wire None t) (elements_wire (p_chord_end g ms b)))
      (task_data None t h.0, elements_data (p_chord_end g ms b) h.1)
  line_data size (p_group_end g ms) h = group_data size g (members_wire ms) (members_data ms h)
  line_data size (p_chord_end g ms b) h =
      chord_data size g (members_wire ms) (line_wire None b) (members_data ms h.0) (line_data None b h.1)

  elements_data : (l : PLine) → IsUtf8PLine l → AreUtf8Items (elements_wire l)
  elements_data p_stop h = tt
  elements_data (p_step t l) h = (task_data None t h.0, elements_data l h.1)
  elements_data (p_group_end g ms) h = (group_data None g (members_wire ms) (members_data ms h), tt)
  elements_data (p_chord_end g ms b) h =
      (chord_data None g (members_wire ms) (line_wire None b) (members_data ms h.0) (line_data None b h.1), tt)

  members_data : (ms : PLines) → AreUtf8PLines ms → AreUtf8Items (members_wire ms)
  members_data no_p_lines h = tt
  members_data (and_p_line m ms) h = (line_data None m h.0, members_data ms h.1)

-- ---- the three texts

reversed_data : (ds more : Items) → AreUtf8Items ds → AreUtf8Items more → AreUtf8Items (onto_reversed ds more)
reversed_data no_items more h k = k
reversed_data (item d ds) more h k = reversed_data ds (item d more) h.1 (h.0, k)

list_data : (ds : Items) → AreUtf8Items ds → IsUtf8Data (list_or_null ds)
list_data no_items h = tt
list_data (item d ds) h = h

abbrev as_content : Option ℕ → PTask → PLine → Content
as_content u t l = record { parent = u; own = t; rest = l }

embed_data : (u : Option ℕ) (t : PTask) (l : PLine) → IsUtf8PTask t → IsUtf8PLine l
    → IsUtf8Data (embed_wire (as_content u t l))
embed_data u (p_task k call links errbacks place) l h r = (
  ascii (codes "callbacks") refl,
  list_data (tasks_wire links) (tasks_data links h.1),
  (
    ascii (codes "chain") refl,
    list_data (onto_reversed (elements_wire l) no_items)
        (reversed_data (elements_wire l) no_items (elements_data l r) tt),
    (
      ascii (codes "chord") refl,
      carried_data place h.3,
      (ascii (codes "errbacks") refl, list_data (tasks_wire errbacks) (tasks_data errbacks h.2), tt),
    ),
  ),
)

body_data : (u : Option ℕ) (t : PTask) (l : PLine) → IsUtf8PTask t → IsUtf8PLine l
    → IsUtf8Data (body_wire (as_content u t l))
body_data u (p_task k call links errbacks place) l h r = (
  args_data call.args h.0.args,
  (kwargs_data call.kwargs h.0.kwargs, (embed_data u (p_task k call links errbacks place) l h r, tt)),
)

headers_data : (u : Option ℕ) (t : PTask) (l : PLine) → IsUtf8PTask t → IsUtf8Data (headers_wire (as_content u t l))
headers_data u (p_task k call links errbacks place) l h = (
  ascii (codes "group") refl,
  place_data place,
  (
    ascii (codes "id") refl,
    task_text_utf8 k,
    (
      ascii (codes "lang") refl,
      ascii (codes "rs") refl,
      (
        ascii (codes "parent_id") refl,
        parent_data u,
        (ascii (codes "root_id") refl, task_text_utf8 1, (ascii (codes "task") refl, h.0.name, tt)),
      ),
    ),
  ),
)

properties_data : (c : Content) → IsUtf8Data (properties_wire c)
properties_data c = (
  ascii (codes "content_encoding") refl,
  ascii (codes "utf-8") refl,
  (
    ascii (codes "content_type") refl,
    ascii (codes "application/json") refl,
    (ascii (codes "correlation_id") refl, task_text_utf8 (number_of c.own), tt),
  ),
)

pub record AreUtf8Texts (c : Content) : Type 0 where
  pub properties : IsUtf8 (compact_text (properties_wire c))
  pub headers : IsUtf8 (compact_text (headers_wire c))
  pub body : IsUtf8 (compact_text (body_wire c))

pub texts_utf8 : (c : Content) → fits c ≡ true → IsUtf8Content c → AreUtf8Texts c
texts_utf8 c ok h =
    let t = texts c ok in
    record {
      properties = compact_utf8 (properties_wire c) t.properties (properties_data c);
      headers = compact_utf8 (headers_wire c) t.headers (headers_data c.parent c.own c.rest h.own);
      body = compact_utf8 (body_wire c) t.body (body_data c.parent c.own c.rest h.own h.rest);
    }
