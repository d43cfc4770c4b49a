-- Tokens that were written, said otherwise.
use Rattle.std.proofs.Common.{◌≡◌, ◌∙◌, ℕ, append_assoc, List, [], ◌∷◌, ◌++◌, Option, Some, None, refl, sym, ap, subst, codes}
use Rattle.std.specs.Prelude.{Result, Ok, Err}
use Rattle.std.specs.Str.{IsUtf8}
use Rattle.json.specs.Lex.{tokens}
use Rattle.json.specs.Print.{print}
use Rattle.json.specs.Written.{Written}
use Rattle.json.specs.Token.{Token, begin_object, end_object, key, string}
use Rattle.serde_json.specs.Data.{Data, object, member, no_members}
use Rattle.serde_json.specs.Data as json
use Rattle.canvas_semantics.specs.PlacedLine.{PPlace, p_nowhere, p_group, p_chord}
use Rattle.canvas_rewrite.specs.declared.frozen.Carried.{Carried}
use Rattle.canvas_rewrite.specs.declared.frozen.Place.{Place, out-Place}
use Rattle.canvas_values.specs.steps.Tokens.{Appends, data_tokens}
use Rattle.canvas_values.proofs.Written.Writers.{Stands}
use Rattle.canvas_envelope.specs.MessageView.{place_view}
use Rattle.canvas_envelope.specs.steps.Tokens.{named_tokens}
use Rattle.canvas_envelope.proofs.Seen.{group_place, chord_place}
use Rattle.canvas_celery.specs.Signatures.{Naming, task_id, group_id, index_wire}
use Rattle.canvas_celery.specs.Envelope.{place_headers, parent_id}
use Rattle.canvas_celery.specs.steps.Tokens.{header_place}
use Rattle.canvas_celery.specs.steps.Elements.{group_options}

pub appends_as : {E : Type 0} (r : Result (Unit {0}) E) (old new : Written) (ts us : List Token) → ts ≡ us → Appends r old new ts → Appends r old new us
appends_as (Ok x) old new ts us same h = (h.0 ∙ ap (λ xs. old.tokens ++ xs) same, h.1)
appends_as (Err x) old new ts us same h = tt

place_by : (n : Naming) (k : ℕ) (p : Place) (o : Option Carried) → (out-Place p).chord ≡ o
    → named_tokens (codes "group") (group_id n (out-Place p).group) ++ named_tokens (codes "group_index") (index_wire n (out-Place p).group k)
    ≡ header_place n k (place_view p)
place_by n k p None e = sym (ap (λ x. header_place n k x) (group_place p e))
place_by n k p (Some c) e = sym (ap (λ x. header_place n k x) (chord_place p c e))

pub header_of : (n : Naming) (k : ℕ) (p : Place)
    → named_tokens (codes "group") (group_id n (out-Place p).group) ++ named_tokens (codes "group_index") (index_wire n (out-Place p).group k)
    ≡ header_place n k (place_view p)
header_of n k p = place_by n k p (out-Place p).chord refl

options_by : (n : Naming) (k : ℕ) (p : Place) (o : Option Carried) → (out-Place p).chord ≡ o
    → named_tokens (codes "group_id") (group_id n (out-Place p).group) ++ named_tokens (codes "group_index") (index_wire n (out-Place p).group k)
    ≡ group_options n k (place_view p)
options_by n k p None e = sym (ap (λ x. group_options n k x) (group_place p e))
options_by n k p (Some c) e = sym (ap (λ x. group_options n k x) (chord_place p c e))

pub options_of_place : (n : Naming) (k : ℕ) (p : Place)
    → named_tokens (codes "group_id") (group_id n (out-Place p).group) ++ named_tokens (codes "group_index") (index_wire n (out-Place p).group k)
    ≡ group_options n k (place_view p)
options_of_place n k p = options_by n k p (out-Place p).chord refl

-- ---- headers

abbrev pub headers_tokens : Naming → (own root : ℕ) → PPlace → Option ℕ → List ℕ → List Token
headers_tokens n k r p parent name =
    ((((((begin_object ∷ header_place n k p) ++ named_tokens (codes "id") (task_id n k)) ++ named_tokens (codes "lang") (json.string (codes "rs")))
    ++ named_tokens (codes "parent_id") (parent_id n parent)) ++ named_tokens (codes "root_id") (task_id n r)) ++ (key (codes "task") ∷ string name ∷ []))
    ++ (end_object ∷ [])

abbrev pub headers_of_parts : Naming → ℕ → PPlace → Option ℕ → List ℕ → Data
headers_of_parts n k p parent name =
    object (place_headers n k p
    (member (codes "id") (task_id n k)
    (member (codes "lang") (json.string (codes "rs"))
    (member (codes "parent_id") (parent_id n parent)
    (member (codes "root_id") (task_id n 1)
    (member (codes "task") (json.string name) no_members))))))

pub headers_written : (n : Naming) (k : ℕ) (p : PPlace) (parent : Option ℕ) (name : List ℕ)
    → headers_tokens n k 1 p parent name ≡ data_tokens (headers_of_parts n k p parent name)
headers_written n k p_nowhere None name = refl
headers_written n k p_nowhere (Some m) name = refl
headers_written n k (p_group g) None name = refl
headers_written n k (p_group g) (Some m) name = refl
headers_written n k (p_chord g size body) None name = refl
headers_written n k (p_chord g size body) (Some m) name = refl

-- ---- the envelope

abbrev pub envelope_of : (body headers properties : Data) → Data
envelope_of body headers properties =
    object (member (codes "body") body
    (member (codes "content-encoding") (json.string (codes "utf-8"))
    (member (codes "content-type") (json.string (codes "application/json"))
    (member (codes "headers") headers
    (member (codes "properties") properties no_members)))))

regroup : (h p e : List Token) → ((h ++ key (codes "properties") ∷ []) ++ p) ++ e ≡ h ++ key (codes "properties") ∷ (p ++ e)
regroup h p e = ap (λ x. x ++ e) (append_assoc h (key (codes "properties") ∷ []) p) ∙ append_assoc h (key (codes "properties") ∷ p) e

pub envelope_written : (body : List ℕ) (headers properties : Data)
    → (((((((begin_object ∷ named_tokens (codes "body") (json.string body)) ++ named_tokens (codes "content-encoding") (json.string (codes "utf-8")))
    ++ named_tokens (codes "content-type") (json.string (codes "application/json"))) ++ key (codes "headers") ∷ []) ++ data_tokens headers)
    ++ key (codes "properties") ∷ []) ++ data_tokens properties) ++ end_object ∷ []
    ≡ data_tokens (envelope_of (json.string body) headers properties)
envelope_written body headers properties =
    ap (λ x. begin_object ∷ (named_tokens (codes "body") (json.string body) ++ (named_tokens (codes "content-encoding") (json.string (codes "utf-8"))
    ++ (named_tokens (codes "content-type") (json.string (codes "application/json")) ++ key (codes "headers") ∷ x))))
    (regroup (data_tokens headers) (data_tokens properties) (end_object ∷ []))

-- ---- a whole text

whole_print : (end : Written) (bytes : List ℕ) → end.before ≡ [] → bytes ≡ end.before ++ print end.tokens → bytes ≡ print end.tokens
whole_print end bytes before is = is ∙ ap (λ xs. xs ++ print end.tokens) before

pub whole_tokens : (d : Data) (start end : Written) (bytes : List ℕ) → start.before ≡ [] → start.tokens ≡ [] → Stands start end (data_tokens d)
    → bytes ≡ end.before ++ print end.tokens → tokens (print end.tokens) ≡ end.tokens → tokens bytes ≡ data_tokens d
whole_tokens d start end bytes empty new written is back =
    ap tokens (whole_print end bytes (written.1 ∙ empty) is) ∙ back ∙ written.0 ∙ ap (λ ts. ts ++ data_tokens d) new

pub whole_utf8 : (d : Data) (start end : Written) (bytes : List ℕ) → start.before ≡ [] → Stands start end (data_tokens d)
    → bytes ≡ end.before ++ print end.tokens → IsUtf8 (print end.tokens) → IsUtf8 bytes
whole_utf8 d start end bytes empty written is good = subst IsUtf8 (sym (whole_print end bytes (written.1 ∙ empty) is)) good
