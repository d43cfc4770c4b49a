-- Reading step by step, as the code does: the message that three JSON texts encode, or the first
-- refusal. It is proved to be the definitions of refusals and of contents together.
use Rattle.std.specs.Prelude.{◌≡◌, ℕ, Bool, false, true, not, ◌&&◌, ◌||◌, ◌==◌, if◌then◌else◌, List, [], ◌∷◌, reverse, is_some, Option, Some, None, Result, Ok, Err, codes}
use Rattle.std.specs.Option.{option_and_then}
use Rattle.serde_json.specs.Data.{Data, array, no_items, item}
use Rattle.serde_json.specs.Find.{get}
use Rattle.canvas_task.specs.declared.arg.Arg.{Arg}
use Rattle.canvas_values.specs.CanvasText.{json_of}
use Rattle.canvas_task.specs.Text.{Text}
use Rattle.canvas_values.specs.Fields.{field, listed, object_members, text_of, is_null, is_list, is_object, is_list_or_null, is_object_or_null}
use Rattle.canvas_values.specs.Answers.{◌>>=◌, fault_if, unless, in_turn}
use Rattle.canvas_values.specs.Grammar.{arg_reading, named_reading, is_name, is_text}
use Rattle.canvas_values.specs.declared.fault.SigFault.{SigFault}
use Rattle.canvas_values.specs.declared.fault.SigFault.TheVariants.{BadArgs}
use Rattle.canvas_rewrite.specs.FrozenView.{p_tasks_of, p_steps}
use Rattle.canvas_semantics.specs.PlacedLine.{PTask, p_task, PPlace, PLine, p_stop}
use Rattle.canvas_envelope.specs.Content.{Content}
use Rattle.canvas_envelope.specs.Fits.{fits}
use Rattle.canvas_envelope.specs.FrozenGrammar.{task_of, group_of, levels}
use Rattle.canvas_codec.specs.steps.FrozenReading.{place_with, link_reading, step_reading, last_reading, line_reading}
use Rattle.canvas_envelope.specs.declared.fault.MessageFault.{MessageFault}
use Rattle.canvas_envelope.specs.declared.fault.MessageFault.TheVariants.{NotJson, NotVersion2, BadId, BadContentType, BadBody, BadArgs as bad_args, BadEmbed, Memory}

-- ---- results

-- A function returned what reading gives, seen by `view`, unless memory ran out.
abbrev pub Fails : {Y : Type 0} → MessageFault → Result Y MessageFault → Type 0
Fails Memory read = Unit {0}
Fails e read = read ≡ Err e

abbrev pub Gives : {X Y : Type 0} → (X → Y) → Result X MessageFault → Result Y MessageFault → Type 0
Gives view (Ok x) read = read ≡ Ok (view x)
Gives view (Err e) read = Fails e read

infixl 10 ◌so◌
abbrev pub ◌so◌ : {A B : Type 0} → Result A MessageFault → (A → Result B MessageFault)
    → Result B MessageFault
(Ok x) so f = f x
(Err e) so f = Err e

abbrev pub must : {A : Type 0} → Bool → MessageFault → Result A MessageFault → Result A MessageFault
must b e read = if b then read else Err e

abbrev pub some_or : {A : Type 0} → MessageFault → Option A → Result A MessageFault
some_or e None = Err e
some_or e (Some x) = Ok x

-- one refusal for any fault of a part
abbrev pub refused_as : {A : Type 0} → MessageFault → Result A SigFault → Result A MessageFault
refused_as e (Ok x) = Ok x
refused_as e (Err f) = Err e

-- ---- the headers and the properties

abbrev pub is_version_2 : (headers : Data) → Bool
is_version_2 h = is_object h && is_name (field (codes "task") h)

abbrev pub is_that_task : ℕ → Option ℕ → Bool
is_that_task k None = false
is_that_task k (Some j) = j == k

-- whether the correlation's identifier, if there is one, names the same task
abbrev pub correlates : ℕ → Option Data → Bool
correlates k None = true
correlates k (Some d) = is_that_task k (task_of d)

-- null, or a group's or chord's identifier
abbrev pub is_group_or_null : Data → Bool
is_group_or_null d = is_null d || is_some (group_of d)

abbrev pub ids_ok : (properties headers : Data) → ℕ → Bool
ids_ok p h k =
    is_group_or_null (field (codes "group") h) && is_object p
    && correlates k (get (codes "correlation_id") p)

-- the task, if all identifiers are valid
abbrev pub id_reading : (properties headers : Data) → Option ℕ
id_reading p h =
    option_and_then (λ k. if ids_ok p h k then Some k else None) (task_of (field (codes "id") h))

abbrev pub is_json : (properties : Data) → Bool
is_json p =
    is_text (codes "application/json") (field (codes "content_type") p)
    && is_text (codes "utf-8") (field (codes "content_encoding") p)

-- ---- the body: arguments, keyword arguments, and the embed

pub record BodyParts : Type 0 where
  pub args : Data
  pub kwargs : Data
  pub embed : Data

abbrev pub parts_of : Data → Option BodyParts
parts_of (array (item a (item k (item e no_items)))) =
    Some (record { args = a; kwargs = k; embed = e })
parts_of d = None

pub record GivenParts : Type 0 where
  pub args : List Arg
  pub kwargs : List (Text × Arg)

abbrev pub given_reading : (args kwargs : Data) → Result GivenParts SigFault
given_reading a k =
    unless (fault_if (not (is_list a) || not (is_object_or_null k)) BadArgs)
    (in_turn arg_reading (listed a) >>=
    λ args. in_turn named_reading (object_members k) >>=
    λ kwargs. Ok (record { args = args; kwargs = kwargs }))

-- the rest of the line, of which the last element comes first
abbrev pub chain_reading : List Data → Result PLine SigFault
chain_reading [] = Ok p_stop
chain_reading (d ∷ ds) =
    last_reading levels d >>= λ l. in_turn (step_reading levels) ds
    >>= λ ts. Ok (p_steps (reverse ts) l)

pub record Embed : Type 0 where
  pub links : List PTask
  pub errbacks : List PTask
  pub place : PPlace
  pub rest : PLine

abbrev pub embed_ok : Data → Bool
embed_ok e =
    is_object_or_null e && is_list_or_null (field (codes "callbacks") e)
    && is_list_or_null (field (codes "errbacks") e) && is_list_or_null (field (codes "chain") e)

-- The headers name the group of the message's own place.
abbrev pub embed_reading : (group : Data) → Data → Result Embed SigFault
embed_reading group e =
    unless (fault_if (not (embed_ok e)) BadArgs)
    (in_turn (link_reading levels) (listed (field (codes "callbacks") e)) >>= λ links.
    in_turn (link_reading levels) (listed (field (codes "errbacks") e)) >>= λ errbacks.
    place_with (line_reading levels) group (field (codes "chord") e) >>= λ place.
    chain_reading (listed (field (codes "chain") e)) >>= λ rest.
    Ok (record { links = links; errbacks = errbacks; place = place; rest = rest }))

-- ---- messages

-- Places, sizes and reach are checked last.
abbrev pub if_fits : Content → Result Content MessageFault
if_fits c = if fits c then Ok c else Err BadEmbed

abbrev pub content_of : (headers : Data) → ℕ → GivenParts → Embed → Content
content_of h k given embed =
    record {
      parent = task_of (field (codes "parent_id") h);
      own =
          p_task k (record {
            name = text_of (field (codes "task") h);
            args = given.args;
            kwargs = given.kwargs;
            immutable = false;
          })
          (p_tasks_of embed.links) (p_tasks_of embed.errbacks) embed.place;
      rest = embed.rest;
    }

-- The first refusal in this order decides.
abbrev pub message_reading : (properties headers body : Data) → Result Content MessageFault
message_reading p h b =
    must (is_version_2 h) NotVersion2
    (some_or BadId (id_reading p h) so λ k.
    must (is_json p) BadContentType
    (some_or BadBody (parts_of b) so λ parts.
    refused_as bad_args (given_reading parts.args parts.kwargs) so λ given.
    refused_as BadEmbed (embed_reading (field (codes "group") h) parts.embed) so λ embed.
    if_fits (content_of h k given embed)))

-- each text is one JSON value in UTF-8
abbrev pub json_reading : Text → Result Data MessageFault
json_reading text = some_or NotJson (json_of text)

abbrev pub envelope_reading : (properties headers body : Text) → Result Content MessageFault
envelope_reading p h b =
    json_reading p so λ p. json_reading h so λ h. json_reading b so λ b. message_reading p h b
