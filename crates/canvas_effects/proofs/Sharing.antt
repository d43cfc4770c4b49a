-- The texts that messages share, when what they carry goes on to other messages.
use Rattle.std.proofs.Common.{◌≡◌, ◌∙◌, ℕ, ◌+◌, arith, false, List, [], ◌∷◌, ◌++◌, Option, Some, None, Global, Vec, vec_len, length, refl, sym, ap, subst}
use Rattle.std.specs.Prelude.{reverse, option_to_list, IfSome, MatchOption}
use Rattle.std.specs.Option.{option_map}
use Rattle.std.specs.declared.sync.Arc.{Arc}
use Rattle.std.proofs.lemmas.List.{reverse-append}
use Rattle.canvas_rewrite.specs.FrozenView.{PCarried}
use Rattle.canvas_envelope.proofs.Seen.{chord_place}
use Rattle.canvas_envelope.specs.MessageView.{carried_view, place_view}
use Rattle.canvas_rewrite.specs.declared.frozen.Carried.{Carried}
use Rattle.canvas_rewrite.specs.declared.frozen.Place.{Place, out-Place}
use Rattle.canvas_effects.proofs.Ended.{carried_seen}
use Rattle.canvas_semantics.specs.PlacedLine.{PTask, PPlace, p_nowhere, p_chord, PLine, p_stop, p_step, p_group_end, p_chord_end}
use Rattle.canvas_envelope.specs.SharedTexts.{AreEnds, AreTexts, IsLineText, SaysRinged, SaysCarried, core_of, inner_place, place_behind, rings_of}
use Rattle.canvas_envelope.specs.Unplaced.{AreUnplaced}
use Rattle.canvas_envelope.specs.declared.texts.Texts.{Texts}
use Rattle.canvas_envelope.specs.declared.nested_text.CarriedText.{CarriedText}
use Rattle.canvas_envelope.specs.steps.Parts.{is_stop}
use Rattle.canvas_effects.specs.Placing.{placed, end_place}
use Rattle.canvas_effects.specs.Carrying.{carrying_place}

-- ---- of what a place carries

abbrev pub Known : Type 0
Known = Option (Arc CarriedText Global)

abbrev pub IsOf : Known → PPlace → Type 0
IsOf o p = IfSome o (λ t. SaysCarried t.value p)

pub of_same : (o : Known) (p q : PPlace) → p ≡ q → IsOf o p → IsOf o q
of_same o p q is h = subst (IsOf o) is h

-- the same text, shared once more
pub of_shared : (o same : Known) (p : PPlace) → option_map (λ t. t.value) same ≡ option_map (λ t. t.value) o → IsOf o p → IsOf same p
of_shared None None p is h = tt
of_shared None (Some s) p is h = absurd cc
of_shared (Some t) None p is h = tt
of_shared (Some t) (Some s) p is h =
    let value : s.value ≡ t.value = cc in
    subst (λ x. SaysCarried x p) (sym value) h

ringed_nowhere : (rs : List (List ℕ × List ℕ)) (core : List ℕ) → SaysRinged rs core p_nowhere
ringed_nowhere [] core = tt
ringed_nowhere (r ∷ rs) core = (tt, ringed_nowhere rs core)

nowhere : (t : CarriedText) → SaysCarried t p_nowhere
nowhere t = ringed_nowhere (rings_of t) (core_of t)

carries_on : (t : CarriedText) (p : PPlace) (l : PLine) → SaysCarried t p → SaysCarried t (end_place (placed p l))
carries_on t p p_stop h = nowhere t
carries_on t p (p_step u p_stop) h = h
carries_on t p (p_step u (p_step v l)) h = carries_on t p (p_step v l) h
carries_on t p (p_step u (p_group_end g ms)) h = nowhere t
carries_on t p (p_step u (p_chord_end g ms b)) h = carries_on t p b h
carries_on t p (p_group_end g ms) h = nowhere t
carries_on t p (p_chord_end g ms b) h = carries_on t p b h

-- of a task that others follow, where the end of the whole goes to p
carried_behind : (t : CarriedText) (p own : PPlace) (l : PLine) → is_stop l ≡ false → SaysCarried t p
    → SaysCarried t (place_behind own (placed p l))
carried_behind t p own p_stop stop h = absurd cc
carried_behind t p own (p_step u l) stop h = carries_on t p (p_step u l) h
carried_behind t p own (p_group_end g ms) stop h = nowhere t
carried_behind t p own (p_chord_end g ms b) stop h = carries_on t p b h

pub of_header : (o : Known) (p q : PPlace) (g n : ℕ) (l : PLine) → q ≡ p_chord g n (placed p l) → IsOf o p → IsOf o (inner_place q)
of_header None p q g n l is h = tt
of_header (Some t) p q g n l is h = subst (λ x. SaysCarried t.value (inner_place x)) (sym is) (carries_on t.value p l h)

-- which chord a place is of doesn't matter
any_ringed : (rs : List (List ℕ × List ℕ)) (core : List ℕ) (g h size : ℕ) (b : PLine) → SaysRinged rs core (p_chord g size b)
    → SaysRinged rs core (p_chord h size b)
any_ringed [] core g h size b is = is
any_ringed (r ∷ rs) core g h size b is = is

pub of_chord : (o : Known) (q : PPlace) (g : ℕ) (c : PCarried) → q ≡ p_chord g c.size c.body → IsOf o q → IsOf o (carrying_place c)
of_chord None q g c is h = tt
of_chord (Some t) q g c is h = any_ringed (rings_of t.value) (core_of t.value) g 0 c.size c.body (subst (SaysCarried t.value) is h)

pub of_carried : (o : Known) (p : Place) (c : Carried) → (out-Place p).chord ≡ Some c → IsOf o (place_view p) → IsOf o (carrying_place (carried_view c))
of_carried o p c e h =
    of_chord o (place_view p) (out-Place p).group (carried_view c)
    (chord_place p c e ∙ ap (λ z. p_chord (out-Place p).group z.size z.body) (sym (carried_seen c))) h

-- ---- of what follows on a line

pub place_at_end : (own : PPlace) (l : PLine) → is_stop l ≡ false → place_behind own l ≡ end_place l
place_at_end own p_stop h = absurd cc
place_at_end own (p_step u l) h = refl
place_at_end own (p_group_end g ms) h = refl
place_at_end own (p_chord_end g ms b) h = refl

-- where something follows, the place of the task itself doesn't matter
pub anywhere : (texts : Texts) (own : PPlace) (r l : PLine) → r ≡ l → is_stop l ≡ false → AreTexts texts own r → AreTexts texts p_nowhere l
anywhere texts own r l same h are = record {
  line = subst (λ z. IfSome texts.line (λ t. IsLineText t z)) same are.line;
  carried = of_same texts.carried _ _ (ap (place_behind own) same ∙ place_at_end own l h ∙ sym (place_at_end p_nowhere l h)) are.carried;
  unplaced = subst (AreUnplaced texts.unplaced) same are.unplaced;
}

pub next_end : (head text old new : List ℕ) (r : Option ℕ) (t : PTask) (l : PLine) → old ≡ new ++ option_to_list r → (r ≡ None → new ≡ [])
    → AreEnds head text (reverse old) (p_step t l) → AreEnds head text (reverse new) l
next_end head text old new None t l is none h = subst (λ es. AreEnds head text (reverse es) l) (sym (none refl)) tt
next_end head text old new (Some e) t l is none h =
    (subst (λ es. AreEnds head text es (p_step t l)) (ap reverse is ∙ reverse-append new (e ∷ [])) h).3

-- of what a message may hold
pub behind_all : (o : Known) (p own : PPlace) (l rest : PLine) → is_stop l ≡ false → rest ≡ placed p l → IsOf o p → IsOf o (place_behind own rest)
behind_all None p own l rest stop is h = tt
behind_all (Some t) p own l rest stop is h =
    subst (λ r. SaysCarried t.value (place_behind own r)) (sym is) (carried_behind t.value p own l stop h)

pub at_the_end : (o : Known) (p q : PPlace) → q ≡ p → IsOf o p → IsOf o (place_behind q p_stop)
at_the_end None p q is h = tt
at_the_end (Some t) p q is h = subst (SaysCarried t.value) (sym is) h

no_items : (xs : List ℕ) → length xs ≡ 0 → xs ≡ []
no_items [] e = refl
no_items (x ∷ xs) e = absurd cc

pub nothing_left : (old new : Vec ℕ Global) (r : Option ℕ) → r ≡ None
    → MatchOption r ((vec_len old ≡ 0) × (vec_len new ≡ 0)) (λ e. vec_len new + 1 ≡ vec_len old) → new.items ≡ []
nothing_left old new None none h = no_items new.items (omega (arith, h.1, new.ok.0))
nothing_left old new (Some e) none h = absurd cc
