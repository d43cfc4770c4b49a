-- The pieces that bodies share.
use Rattle.std.proofs.Common.{◌≡◌, ◌∙◌, ℕ, arith, false, List, [], ◌∷◌, ◌++◌, map, take, String, Global, Option, Some, None, refl, sym, ap, subst}
use Rattle.std.specs.Prelude.{reverse, string_bytes}
use Rattle.std.specs.Str.{IsUtf8}
use Rattle.std.specs.String.{string_len}
use Rattle.std.proofs.lemmas.List.{reverse-append, take_all}
use Rattle.std.proofs.lemmas.Str.{IsUtf8-append, IsUtf8-nil, IsUtf8-string_bytes}
use Rattle.canvas_semantics.specs.PlacedLine.{PPlace, PLine, p_stop, p_step, p_group_end, p_chord_end}
use Rattle.canvas_envelope.specs.Content.{end_place}
use Rattle.canvas_envelope.specs.SharedTexts.{IsLineText, IsListed, backwards, carried_bytes, elements_head, elements_own, head_text, place_behind, ring_view, ringed}
use Rattle.canvas_envelope.specs.declared.nested_text.CarriedText.{CarriedText}
use Rattle.canvas_envelope.specs.declared.nested_text.Ring.{Ring}
use Rattle.canvas_envelope.specs.declared.texts.ElementsText.{ElementsText}
use Rattle.canvas_envelope.specs.declared.texts.Head.{Head}
use Rattle.canvas_envelope.specs.declared.texts.LineText.{LineText}
use Rattle.canvas_envelope.specs.steps.Parts.{is_stop}

ringed_utf8 : (rs : List Ring) (core : String Global) → IsUtf8 (ringed (map ring_view rs) (string_bytes core))
ringed_utf8 [] core = IsUtf8-string_bytes core
ringed_utf8 (r ∷ rs) core =
    IsUtf8-append _ _ (IsUtf8-string_bytes r.before.value) (IsUtf8-append _ _ (ringed_utf8 rs core) (IsUtf8-string_bytes r.behind.value))

pub carried_utf8 : (t : CarriedText) → IsUtf8 (carried_bytes t)
carried_utf8 t = ringed_utf8 t.rings.items t.core.value

pub head_utf8 : (h : Option Head) → IsUtf8 (head_text h)
head_utf8 None = IsUtf8-nil
head_utf8 (Some h) = IsUtf8-append _ _ (IsUtf8-string_bytes h.before) (carried_utf8 h.carried.value)

-- up to the last of the ends
known_piece : (t : LineText) (before : List ℕ) (e : ℕ) (l : PLine) → t.ends.items ≡ before ++ e ∷ [] → IsLineText t l
    → IsUtf8 (take e (elements_own t)) × IsListed (elements_head t ++ take e (elements_own t)) (backwards l)
known_piece t before e l is h =
    let ends : reverse t.ends.items ≡ e ∷ reverse before = ap reverse is ∙ reverse-append before (e ∷ []) in
    let there = rw ends at h in
    (there.1, there.2)

pub known_listed : (t : LineText) (before : List ℕ) (e : ℕ) (l : PLine) → t.ends.items ≡ before ++ e ∷ [] → IsLineText t l
    → IsListed (elements_head t ++ take e (elements_own t)) (backwards l)
known_listed t before e l is h = (known_piece t before e l is h).1

pub known_utf8 : (t : LineText) (before : List ℕ) (e : ℕ) (l : PLine) → t.ends.items ≡ before ++ e ∷ [] → IsLineText t l
    → IsUtf8 (elements_head t ++ take e (elements_own t))
known_utf8 t before e l is h = IsUtf8-append _ _ (head_utf8 t.text.value.head) (known_piece t before e l is h).0

-- all of a text
all_own : (s : String Global) (n : ℕ) → n ≡ string_len s → take n (string_bytes s) ≡ string_bytes s
all_own s n all = take_all n (string_bytes s) (omega (arith, all, s.bytes.ok.0))

pub whole_listed : (t : ElementsText) (n : ℕ) (l : PLine) → n ≡ string_len t.own → IsListed (head_text t.head ++ string_bytes t.own) (backwards l)
    → IsListed (head_text t.head ++ take n (string_bytes t.own)) (backwards l)
whole_listed t n l all h = subst (λ x. IsListed (head_text t.head ++ x) (backwards l)) (sym (all_own t.own n all)) h

pub whole_utf8 : (t : ElementsText) (n : ℕ) → n ≡ string_len t.own → IsUtf8 (head_text t.head ++ take n (string_bytes t.own))
whole_utf8 t n all = IsUtf8-append _ _ (head_utf8 t.head) (subst IsUtf8 (sym (all_own t.own n all)) (IsUtf8-string_bytes t.own))

-- where a line's end goes, where something follows
pub end_behind : (own : PPlace) (l : PLine) → is_stop l ≡ false → place_behind own l ≡ end_place l
end_behind own p_stop h = absurd cc
end_behind own (p_step u l) h = refl
end_behind own (p_group_end g ms) h = refl
end_behind own (p_chord_end g ms b) h = refl
