-- A value that is one token, and those that begin with one.
use Rattle.std.proofs.Common.{◌≡◌, ℕ, ◌-◌, ◌<◌, List, ◌∷◌, length, Some, None, option_map, Bor, refl, ap, ◌∙◌}
use Rattle.std.specs.Prelude as prelude
use Rattle.json.specs.Token.{Token}
use Rattle.json.specs.Reads.{token_of}
use Rattle.json.specs.declared.token.Token.{Token as Found}
use Rattle.json.specs.declared.token.Token.TheVariants.{BeginObject, EndObject, BeginArray, EndArray, Key, String, Number, Bool, Null, Bad}
use Rattle.json.specs.Json.{parse_map, items, members, value}
use Rattle.json.proofs.Grammar.{value_is, value-begin_array, value-begin_object}
use Rattle.serde_json.specs.Data.{Data, array, object, no_members}
use Rattle.serde_json.specs.Read.{of_json, of_items, of_members, converted}
use Rattle.canvas_sig.specs.steps.Alone.{alone}
use Rattle.canvas_sig.proofs.Conversion.{of_array, of_object}

pub read_alone : (left : ℕ) (t : Token) (r : List Token) (d : Data) → alone t ≡ Some d → converted of_json (value left (t ∷ r)) ≡ Some (d, r)
read_alone left (Token.string s) r d is = ap (converted of_json) (value_is left _) ∙ ap (option_map (λ b. (b, r))) is
read_alone left (Token.number s) r d is = ap (converted of_json) (value_is left _) ∙ ap (option_map (λ b. (b, r))) is
read_alone left (Token.boolean b) r d is = ap (converted of_json) (value_is left _) ∙ ap (option_map (λ b. (b, r))) is
read_alone left Token.null r d is = ap (converted of_json) (value_is left _) ∙ ap (option_map (λ b. (b, r))) is
read_alone left t r d is = absurd (cc)

-- a token that is no value by itself and opens none
pub refused_alone : (left : ℕ) (t : Found) (r : List Token) → alone (token_of t) ≡ None → (t ≡ BeginArray → ⊥) → (t ≡ BeginObject → ⊥)
    → converted of_json (value left (token_of t ∷ r)) ≡ None
refused_alone left BeginArray r none not_list not_object = absurd (not_list refl)
refused_alone left BeginObject r none not_list not_object = absurd (not_object refl)
refused_alone left (Number s) r none not_list not_object = ap (converted of_json) (value_is left _) ∙ ap (option_map (λ b. (b, r))) none
refused_alone left (String s) r none not_list not_object = absurd (cc)
refused_alone left (Bool b) r none not_list not_object = absurd (cc)
refused_alone left Null r none not_list not_object = absurd (cc)
refused_alone left EndArray r none not_list not_object = ap (converted of_json) (value_is left _)
refused_alone left EndObject r none not_list not_object = ap (converted of_json) (value_is left _)
refused_alone left (Key s) r none not_list not_object = ap (converted of_json) (value_is left _)
refused_alone left Bad r none not_list not_object = ap (converted of_json) (value_is left _)

pub not_alone : (t : Found) → (t ≡ Null → ⊥) → ((b : prelude.Bool) → t ≡ Bool b → ⊥) → ((s : Bor (List ℕ)) → t ≡ Number s → ⊥)
    → ((s : Bor (List ℕ)) → t ≡ String s → ⊥) → None ≡ alone (token_of t)
not_alone BeginArray not_null not_bool not_number not_string = refl
not_alone BeginObject not_null not_bool not_number not_string = refl
not_alone (Number s) not_null not_bool not_number not_string = absurd (not_number s refl)
not_alone (String s) not_null not_bool not_number not_string = absurd (not_string s refl)
not_alone (Bool b) not_null not_bool not_number not_string = absurd (not_bool b refl)
not_alone Null not_null not_bool not_number not_string = absurd (not_null refl)
not_alone EndArray not_null not_bool not_number not_string = refl
not_alone EndObject not_null not_bool not_number not_string = refl
not_alone (Key s) not_null not_bool not_number not_string = refl
not_alone Bad not_null not_bool not_number not_string = refl

pub refused_deep : (t : Token) (r : List Token) → alone t ≡ None → converted of_json (value 0 (t ∷ r)) ≡ None
refused_deep (Token.number s) r none = ap (converted of_json) (value_is 0 _) ∙ ap (option_map (λ b. (b, r))) none
refused_deep (Token.string s) r none = absurd (cc)
refused_deep (Token.boolean b) r none = absurd (cc)
refused_deep Token.null r none = absurd (cc)
refused_deep t r none = ap (converted of_json) (value_is 0 _)

pub list_opened : (left : ℕ) (t : Token) (r : List Token) → t ≡ Token.begin_array → 0 < left
    → converted of_json (value left (t ∷ r)) ≡ parse_map array (converted of_items (items (value (left - 1)) (length r) r))
list_opened left t r is some =
    ap (λ k. converted of_json (value left (k ∷ r))) is ∙ ap (converted of_json) (value-begin_array left r some)
    ∙ of_array (items (value (left - 1)) (length r) r)

pub object_opened : (left : ℕ) (t : Token) (r : List Token) → t ≡ Token.begin_object → 0 < left
    → converted of_json (value left (t ∷ r)) ≡ parse_map object (converted (λ ms. of_members ms no_members) (members (value (left - 1)) (length r) r))
object_opened left t r is some =
    ap (λ k. converted of_json (value left (k ∷ r))) is ∙ ap (converted of_json) (value-begin_object left r some)
    ∙ of_object (members (value (left - 1)) (length r) r)
