-- A start read back from its bytes: the number of members of the chords whose headers start, from
-- the keys that are set, and the messages in their order (Redis: SETEX, LPUSH; EVAL with the
-- script's keys and arguments).
use Rattle.std.specs.Prelude.{◌≡◌, ◌<◌, ◌^◌, ℕ, ◌-◌, true, if◌then◌else◌, List, [], ◌∷◌, ◌++◌, length, take, drop, Option, Some, codes}
use Rattle.std.specs.Str.{bytes_eq}
use Rattle.std.specs.Str.Parse.{digits_value}
use Rattle.serde_json.specs.Data.{string}
use Rattle.canvas_task.specs.Text.{Text}
use Rattle.canvas_envelope.specs.Content.{Content}
use Rattle.canvas_envelope.specs.Fits.{is_task_number}
use Rattle.canvas_celery.specs.Run.{piece}
use Rattle.canvas_celery.specs.Reading.{◌>>=◌, read}
use Rattle.canvas_celery.specs.MessageReading.{group_number, read_message}

-- the chord in the key of a size: its identifier ends two bytes before the end of the key
abbrev pub group_in : (key : Text) → ℕ
group_in key = group_number (string (piece (length key - 38) 36 key))

abbrev pub paired : (keys numbers : List Text) → List (ℕ × ℕ)
paired [] ns = []
paired (k ∷ ks) [] = []
paired (k ∷ ks) (n ∷ ns) = (group_in k, digits_value 10 n) ∷ paired ks ns

abbrev pub all_but_last : List Text → List Text
all_but_last ws = take (length ws - 1) ws

-- ---- the words of a script's command: how many keys there are, the keys, and the arguments

-- after the marker and the queue the keys of the sizes; after three arguments the sizes, then the
-- messages and one more
abbrev pub script_sizes : (keys : ℕ) → List Text → List (ℕ × ℕ)
script_sizes k ws = paired (drop 2 (take k ws)) (take (k - 2) (drop 3 (drop k ws)))

abbrev pub script_texts : (keys : ℕ) → List Text → List Text
script_texts k ws = all_but_last (drop (k - 2) (drop 3 (drop k ws)))

-- ---- one command, by its name and the words after that

abbrev pub set_size : List Text → List (ℕ × ℕ)
set_size (key ∷ expires ∷ size ∷ []) = (group_in key, digits_value 10 size) ∷ []
set_size ws = []

abbrev pub evaluated_sizes : List Text → List (ℕ × ℕ)
evaluated_sizes (script ∷ keys ∷ ws) = script_sizes (digits_value 10 keys) ws
evaluated_sizes ws = []

abbrev pub pushed_texts : List Text → List Text
pushed_texts [] = []
pushed_texts (queue ∷ texts) = texts

abbrev pub evaluated_texts : List Text → List Text
evaluated_texts (script ∷ keys ∷ ws) = script_texts (digits_value 10 keys) ws
evaluated_texts ws = []

abbrev pub sizes_in : List Text → List (ℕ × ℕ)
sizes_in [] = []
sizes_in (w ∷ ws) =
    if bytes_eq w (codes "SETEX") then set_size ws
    else (if bytes_eq w (codes "EVAL") then evaluated_sizes ws else [])

abbrev pub texts_in : List Text → List Text
texts_in [] = []
texts_in (w ∷ ws) =
    if bytes_eq w (codes "LPUSH") then pushed_texts ws
    else (if bytes_eq w (codes "EVAL") then evaluated_texts ws else [])

-- ---- all of them

abbrev pub all_sizes : List (List Text) → List (ℕ × ℕ)
all_sizes [] = []
all_sizes (c ∷ cs) = sizes_in c ++ all_sizes cs

abbrev pub all_texts : List (List Text) → List Text
all_texts [] = []
all_texts (c ∷ cs) = texts_in c ++ all_texts cs

abbrev pub read_messages : List Text → Option (List Content)
read_messages [] = Some []
read_messages (t ∷ ts) = read_message t >>= λ m. read_messages ts >>= λ ms. Some (m ∷ ms)

abbrev pub read_commands : List (List Text) → Option (List (ℕ × ℕ) × List Content)
read_commands cs = read_messages (all_texts cs) >>= λ ms. Some (all_sizes cs, ms)

abbrev pub read_export : (bytes : Text) → Option (List (ℕ × ℕ) × List Content)
read_export bytes = read bytes >>= read_commands

-- nothing if no task starts
abbrev pub started : (sizes : List (ℕ × ℕ)) → (messages : List Content)
    → List (ℕ × ℕ) × List Content
started sizes [] = ([], [])
started sizes (m ∷ ms) = (sizes, m ∷ ms)

-- numbers of chords, and sizes in 64 bits
abbrev pub AreNamed : List (ℕ × ℕ) → Type 0
AreNamed [] = Unit {0}
AreNamed (z ∷ zs) = (is_task_number z.0 ≡ true) × (z.1 < 2 ^ 64) × AreNamed zs
