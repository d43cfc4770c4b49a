-- The members of a JSON value (RFC 8259); a missing one is null.
use Rattle.std.specs.Prelude.{Bool, true, false, ◌||◌, List, [], ◌∷◌, unwrap_or, map, codes}
use Rattle.serde_json.specs.Data.{Data, null, boolean, number, string, array, object, Items, no_items, item, Members, no_members, member}
use Rattle.serde_json.specs.Find.{get}
use Rattle.canvas_task.specs.Text.{Text}

abbrev pub field : Text → Data → Data
field k d = unwrap_or (get k d) null

-- ---- the members of a signature

abbrev pub subtype : Data → Data
subtype d = field (codes "subtask_type") d

abbrev pub args : Data → Data
args d = field (codes "args") d

abbrev pub kwargs : Data → Data
kwargs d = field (codes "kwargs") d

-- a member of the keyword arguments, and of the options
abbrev pub kwarg : Text → Data → Data
kwarg k d = field k (kwargs d)

abbrev pub option : Text → Data → Data
option k d = field k (field (codes "options") d)

abbrev pub tasks : Data → Data
tasks d = kwarg (codes "tasks") d

abbrev pub header : Data → Data
header d = kwarg (codes "header") d

abbrev pub body : Data → Data
body d = kwarg (codes "body") d

abbrev pub link : Data → Data
link d = option (codes "link") d

abbrev pub link_error : Data → Data
link_error d = option (codes "link_error") d

-- ---- the contents of a member

abbrev pub items : Items → List Data
items no_items = []
items (item d ds) = d ∷ items ds

abbrev pub entries : Members → List (Text × Data)
entries no_members = []
entries (member k d ms) = (k, d) ∷ entries ms

-- the elements of a list; null is the empty list
abbrev pub listed : Data → List Data
listed (array ds) = items ds
listed d = []

-- the elements of a list; null is the empty list, and a single value is a list of one
abbrev pub as_list : Data → List Data
as_list (array ds) = items ds
as_list null = []
as_list d = d ∷ []

abbrev pub object_members : Data → List (Text × Data)
object_members (object ms) = entries ms
object_members d = []

-- the values of an object's members
abbrev pub contents : Data → List Data
contents d = map (λ e. e.1) (object_members d)

abbrev pub text_of : Data → Text
text_of (string s) = s
text_of d = []

-- ---- kinds of values

abbrev pub is_null : Data → Bool
is_null null = true
is_null d = false

abbrev pub is_list : Data → Bool
is_list (array ds) = true
is_list d = false

abbrev pub is_object : Data → Bool
is_object (object ms) = true
is_object d = false

abbrev pub is_number : Data → Bool
is_number (number n) = true
is_number d = false

abbrev pub is_true : Data → Bool
is_true (boolean b) = b
is_true d = false

-- true, false or null
abbrev pub is_flag : Data → Bool
is_flag (boolean b) = true
is_flag null = true
is_flag d = false

abbrev pub is_list_or_null : Data → Bool
is_list_or_null d = is_list d || is_null d

abbrev pub is_object_or_null : Data → Bool
is_object_or_null d = is_object d || is_null d

-- a list of signatures, one signature, or null for none
abbrev pub is_link : Data → Bool
is_link d = is_list d || is_object d || is_null d

-- null, or a list of nothing
abbrev pub is_empty : Data → Bool
is_empty null = true
is_empty (array no_items) = true
is_empty d = false
