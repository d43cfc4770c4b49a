-- The rules of adapting, for signatures as Celery writes them. Each rule names the part of Celery
-- 5.2 that it follows (celery/canvas.py). It isn't proved that the code follows them: a program
-- that computes the same rules on JSON is compared with the code on random canvases.
use Rattle.std.specs.Prelude.{ℕ, zero, suc, max, Bool, true, false, not, ◌&&◌, ◌||◌, if◌then◌else◌, List, [], ◌∷◌, ◌++◌, map, length, take, nat_lt, slice_get, Option, Some, None, codes}
use Rattle.std.specs.List.{list_all, list_any}
use Rattle.std.specs.Str.{bytes_eq}
use Rattle.serde_json.specs.Data.{Data, number, string, array}
use Rattle.canvas_task.specs.Text.{Text}
use Rattle.canvas_values.specs.Fields.{items}
use Rattle.canvas_values.specs.Grammar.{number_ok}

-- ---- signatures

-- the call of a task, and its JSON with null for each callback, by which tasks are compared
pub record Written : Type 0 where
  pub name : Text
  pub args : List Data
  pub kwargs : List (Text × Data)
  pub immutable : Bool
  pub json : Text

-- Any signature may have links and error callbacks. A header that is a list is the group of its
-- signatures. `calls` is a map, a starmap or chunks: a task's name, and the arguments of each call.
-- One with a link is no `calls`: it stays as it is.
mutual
  pub data Sig : Type 0 where
    task : Written → (links errbacks : Sigs) → Sig
    chain : (elements links errbacks : Sigs) → Sig
    group : (members links errbacks : Sigs) → Sig
    chord : (header body : Sig) → (links errbacks : Sigs) → Sig
    calls : (name : Text) → (items : List (List Data)) → (errbacks : Sigs) → Sig

  pub data Sigs : Type 0 where
    none : Sigs
    also : Sig → Sigs → Sigs

abbrev pub and_then : Sigs → Sigs → Sigs
and_then none after = after
and_then (also s ss) after = also s (and_then ss after)

abbrev pub turned_onto : Sigs → Sigs → Sigs
turned_onto none after = after
turned_onto (also s ss) after = turned_onto ss (also s after)

abbrev pub is_group : Sig → Bool
is_group (group ms ls es) = true
is_group s = false

-- ---- arguments

-- The project's own rule: a whole number within 2^60, a list of them, and a text are kept; any
-- other argument becomes its compact JSON, of which 32 bytes are shown, or 30 and `..`.
abbrev pub is_whole : Data → Bool
is_whole (number n) = number_ok (number n)
is_whole d = false

abbrev pub stays : Data → Bool
stays (string t) = true
stays (array ds) = list_all is_whole (items ds)
stays d = is_whole d

-- whether a byte is not the first of a character (RFC 3629)
abbrev pub goes_on : Option ℕ → Bool
goes_on None = false
goes_on (Some b) = nat_lt 127 b && nat_lt b 192

-- the characters that end within n bytes
abbrev pub cut : ℕ → Text → Text
cut zero t = []
cut (suc n) t = if goes_on (slice_get t (suc n)) then cut n t else take (suc n) t

abbrev pub shown : Text → Text
shown t = if nat_lt 32 (length t) then cut 30 t ++ 46 ∷ 46 ∷ [] else t

abbrev pub argument : (compact : Data → Text) → Data → Data
argument compact d = if stays d then d else string (shown (compact d))

abbrev pub called : (compact : Data → Text) → Written → Written
called compact w = record {
  name = w.name;
  args = map (argument compact) w.args;
  kwargs = map (λ e. (e.0, argument compact e.1)) w.kwargs;
  immutable = w.immutable;
  json = w.json;
}

-- the call of a map with one of its items takes no input
abbrev pub call_with : Text → List Data → Written
call_with name given =
    record { name = name; args = given; kwargs = []; immutable = true; json = [] }

-- ---- callbacks that are chains or groups

-- whether two tasks are written alike; other signatures never are
abbrev mutual
  pub same : Sig → Sig → Bool
  same (task v ls es) (task w ms bs) = bytes_eq v.json w.json && all_same ls ms && all_same es bs
  same s t = false

  pub all_same : Sigs → Sigs → Bool
  all_same none none = true
  all_same (also s ss) (also t ts) = same s t && all_same ss ts
  all_same ss ts = false

abbrev pub has : Sigs → Sig → Bool
has none s = false
has (also t ts) s = same t s || has ts s

-- error callbacks, followed by those of others that aren't among them (`Signature.link_error`)
abbrev pub and_new : Sigs → Sigs → Sigs
and_new own none = own
and_new own (also s ss) = and_new (if has own s then own else and_then own (also s none)) ss

-- The tasks that are started for a callback, and how many follow each other then. None if tasks
-- with callbacks can't express it: for more than 8, for a chord, or for a group that something
-- follows. A chain is its first task, whose link is the next, and so on (`Signature.link`,
-- `_chain.run`): the last one's links, and a group's members' links, are what comes next, and each
-- task gets the error callbacks around it (`_chain.prepare_steps`, `group.link_error`).
abbrev pub Started : Type 0
Started = Option (Sigs × ℕ)

abbrev pub one_task : Written → (links errbacks after alarms : Sigs) → ℕ → Started
one_task w ls es after alarms depth =
    if nat_lt depth 8
    then Some (also (task w (and_then ls after) (and_new es alarms)) none, suc depth)
    else None

abbrev pub beside : Started → Started → Started
beside (Some a) (Some b) = Some (and_then a.0 b.0, max a.1 b.1)
beside a b = None

abbrev pub is_last : Sigs → Bool
is_last none = true
is_last ss = false

abbrev pub then_start : Started → (Sigs × ℕ → Started) → Started
then_start None f = None
then_start (Some behind) f = f behind

-- an empty chain starts nothing
abbrev pub if_any : Sigs → Started → Started
if_any none found = None
if_any ss found = found

abbrev mutual
  pub started : (alarms : Sigs) → (is_followed : Bool) → Sig → Sigs × ℕ → Started
  started alarms followed (task w ls es) behind = one_task w ls es behind.0 alarms behind.1
  started alarms followed (chain xs ls es) behind =
      if_any xs (in_turn_started (and_then es alarms) followed xs (and_then ls behind.0, behind.1))
  started alarms true (group ms ls es) behind = None
  started alarms false (group ms ls es) behind =
      all_started (and_then es alarms) ms (and_then ls behind.0, behind.1)
  started alarms followed s behind = None

  pub in_turn_started : Sigs → Bool → Sigs → Sigs × ℕ → Started
  in_turn_started alarms followed none behind = Some behind
  in_turn_started alarms followed (also s ss) behind =
      then_start (in_turn_started alarms followed ss behind)
      (started alarms (followed || not (is_last ss)) s)

  pub all_started : Sigs → Sigs → Sigs × ℕ → Started
  all_started alarms none behind = Some (none, behind.1)
  all_started alarms (also s ss) behind =
      beside (started alarms false s behind) (all_started alarms ss behind)

abbrev pub are_immutable : Sigs → Bool
are_immutable none = true
are_immutable (also (task w ls es) ss) = w.immutable && are_immutable ss
are_immutable (also s ss) = false

-- A chain that is an error callback is called with three arguments, which only tasks that take no
-- input accept. The call of any other chain is a TypeError, and then Celery calls none of the error
-- callbacks.
abbrev pub is_called : (is_alarm : Bool) → Sig → Sigs → Bool
is_called true (chain xs ls es) tasks = are_immutable tasks
is_called alarm s tasks = true

abbrev pub tasks_or : Bool → Sig → Started → Sigs
tasks_or alarm s None = also s none
tasks_or alarm s (Some found) = if is_called alarm s found.0 then found.0 else also s none

abbrev pub as_tasks : (is_alarm : Bool) → Sig → Sigs
as_tasks alarm (task w ls es) = also (task w ls es) none
as_tasks alarm s = tasks_or alarm s (started none false s (none, 0))

abbrev mutual
  pub split : Sig → Sig
  split (task w ls es) = task w (callbacks false ls) (callbacks true es)
  split (chain xs ls es) = chain (split_all xs) (callbacks false ls) (callbacks true es)
  split (group ms ls es) = group (split_all ms) (callbacks false ls) (callbacks true es)
  split (chord h b ls es) = chord (split h) (split b) (callbacks false ls) (callbacks true es)
  split (calls name ds es) = calls name ds (callbacks true es)

  pub split_all : Sigs → Sigs
  split_all none = none
  split_all (also s ss) = also (split s) (split_all ss)

  pub callbacks : (is_alarm : Bool) → Sigs → Sigs
  callbacks alarm none = none
  callbacks alarm (also s ss) = and_then (as_tasks alarm (split s)) (callbacks alarm ss)

-- ---- the callbacks of chains, groups and chords

-- a callback as written and as adapted
pub data Inherited : Type 0 where
  nothing : Inherited
  given : (written adapted : Sig) → Inherited → Inherited

abbrev pub adapted_of : Inherited → Sigs
adapted_of nothing = none
adapted_of (given s t gs) = also t (adapted_of gs)

abbrev pub both_given : Inherited → Inherited → Inherited
both_given nothing gs = gs
both_given (given s t gs) hs = given s t (both_given gs hs)

-- the callbacks that aren't written among others
abbrev pub but : Sigs → Inherited → Inherited
but others nothing = nothing
but others (given s t gs) = if has others s then but others gs else given s t (but others gs)

-- callbacks, each with its adapted form; the first of those that are written alike
abbrev pub paired : Sigs → Sigs → Inherited
paired (also s ss) (also t ts) = given s t (paired ss ts)
paired ss ts = nothing

abbrev pub once : Sigs → Sigs → Sigs → Inherited
once known (also s ss) (also t ts) =
    if has known s then once known ss ts
    else given s t (once (and_then known (also s none)) ss ts)
once known ss ts = nothing

-- The context of a signature. If something follows a group it is a header, and Celery freezes the
-- signatures that it doesn't start itself.
pub record Around : Type 0 where
  pub links : Inherited
  pub errbacks : Inherited
  pub is_followed : Bool
  pub is_frozen : Bool

abbrev pub alone : (is_frozen : Bool) → Around
alone frozen =
    record { links = nothing; errbacks = nothing; is_followed = false; is_frozen = frozen }

abbrev pub as_frozen : Bool → Around → Around
as_frozen frozen a =
    record {
      links = a.links;
      errbacks = a.errbacks;
      is_followed = a.is_followed;
      is_frozen = frozen;
    }

-- a signature's own callbacks, each with its adapted form, come before those that it inherits
abbrev pub with_own : (links errbacks made_links made_errbacks : Sigs) → Around → Around
with_own ls es ls' es' a =
    record {
      links = both_given (paired ls ls') a.links;
      errbacks = both_given (once none es es') (but es a.errbacks);
      is_followed = a.is_followed;
      is_frozen = a.is_frozen;
    }

-- each element of a chain gets its error callbacks, and the last one its links (`_chain.run`)
abbrev pub for_element : (is_last : Bool) → Around → Around
for_element last a =
    record {
      links = if last then a.links else nothing;
      errbacks = a.errbacks;
      is_followed = a.is_followed || not last;
      is_frozen = true;
    }

-- a group that something follows is a header, which gets none (`_chain.prepare_steps`)
abbrev pub for_group : Around → Around
for_group a = if a.is_followed then alone a.is_frozen else a

-- ---- groups in groups

-- the members by which a group replaces a member: those of a group, and of a chain of one
abbrev mutual
  pub inner : Sig → Option Sigs
  inner (group ms ls es) = Some ms
  inner (chain xs ls es) = only_inner xs
  inner s = None

  pub only_inner : Sigs → Option Sigs
  only_inner (also s none) = inner s
  only_inner ss = None

-- The outer group replaces a group in it by its members (`maybe_unroll_group`). If Celery freezes
-- the outer group before it starts, as one in a chain or chord and not as the whole canvas, the
-- members of an inner one are reversed (`group._freeze_unroll`).
abbrev pub members_of : (is_turned : Bool) → Sig → Option Sigs → Sigs → Sigs
members_of turned s None rest = also s rest
members_of turned s (Some ms) rest = if turned then turned_onto ms rest else and_then ms rest

abbrev pub unrolled : (is_frozen : Bool) → (written adapted : Sigs) → Sigs
unrolled frozen (also s ss) (also t ts) =
    members_of (frozen && is_group s) t (inner t) (unrolled frozen ss ts)
unrolled frozen ss ts = none

-- ---- frozen signatures

-- The options that Celery writes into a signature in addition to its identifier
-- (`Signature.freeze`).
abbrev pub books : List Text
books =
    codes "chord" ∷ codes "chord_size" ∷ codes "group_id" ∷ codes "group_index" ∷ codes "parent_id"
    ∷ codes "reply_to" ∷ codes "root_id" ∷ []

abbrev pub is_book : Text → Bool
is_book k = list_any (bytes_eq k) books

abbrev pub is_identifier : Text × Data → Bool
is_identifier (k, string t) = bytes_eq k (codes "task_id")
is_identifier (k, d) = false

abbrev pub own_options : List (Text × Data) → List (Text × Data)
own_options [] = []
own_options (o ∷ os) =
    if is_book o.0 || bytes_eq o.0 (codes "task_id") then own_options os else o ∷ own_options os

-- The thawed options of a signature; the argument says whether a signature in it was frozen. The
-- options are removed only if the signature was itself started (`apply_async`, `freeze`), since a
-- user may have given it an identifier. A header that freezing made into a group is a list again.
-- Groups that Celery has unrolled stay so. The signatures above are those after this.
abbrev pub thawed : (are_inside : Bool) → List (Text × Data) → List (Text × Data)
thawed inside os =
    if list_any is_identifier os && (inside || list_any (λ o. is_book o.0) os) then own_options os
    else os

-- ---- canvases

module _ (compact : Data → Text) where
  -- a task's own callbacks, followed by those that it inherits and doesn't have yet
  abbrev pub given_task : Written → (links errbacks made_links made_errbacks : Sigs) → Around → Sig
  given_task w ls es ls' es' a =
      task (called compact w) (and_then ls' (adapted_of a.links))
      (and_then es' (adapted_of (but es a.errbacks)))

  -- the calls of a map, each with the callbacks that it inherits
  abbrev pub each_call : Around → Text → List (List Data) → Sigs
  each_call a name [] = none
  each_call a name (ds ∷ dss) =
      also (given_task (call_with name ds) none none none none a) (each_call a name dss)

  abbrev mutual
    pub adapt : Around → Sig → Sig
    adapt a (task w ls es) = given_task w ls es (each_callback ls) (each_callback es) a
    adapt a (chain xs ls es) =
        chain (elements (with_own ls es (each_callback ls) (each_callback es) a) xs) none none
    -- a group's callbacks go to each of its members (`group.link_error`, `group._apply_tasks`)
    adapt a (group ms ls es) =
        group (unrolled a.is_frozen ms (members (as_frozen false
        (with_own ls es (each_callback ls) (each_callback es) (for_group a))) ms)) none none
    -- a chord's go to its body (`_chord.link`, `_chord.link_error`)
    adapt a (chord h b ls es) =
        chord (adapt (alone true) h)
        (adapt (as_frozen true (with_own ls es (each_callback ls) (each_callback es) a)) b) none
        none
    -- the tasks `celery.map`, `celery.starmap` and `celery.chunks` (`xmap`, `xstarmap`, `chunks`)
    adapt a (calls name ds es) =
        group (each_call (with_own none es none (each_callback es) (for_group a)) name ds) none none

    -- callbacks inherit nothing; one that is no task is kept, and is refused
    pub each_callback : Sigs → Sigs
    each_callback none = none
    each_callback (also (task w ls es) ss) =
        also (task (called compact w) (each_callback ls) (each_callback es)) (each_callback ss)
    each_callback (also s ss) = also s (each_callback ss)

    pub elements : Around → Sigs → Sigs
    elements a none = none
    elements a (also s ss) = also (adapt (for_element (is_last ss) a) s) (elements a ss)

    pub members : Around → Sigs → Sigs
    members a none = none
    members a (also s ss) = also (adapt a s) (members a ss)

  -- A whole signature, adapted. One that can't be adapted is kept, and is refused: a callback that
  -- has no `Started` tasks, and arguments or `immutable` on a chain, group or chord (7 OnCanvas); a
  -- member that ends in a group after something else (10 NestedGroup); what is no signature.
  abbrev pub adapted : Sig → Sig
  adapted s = adapt (alone false) (split s)
