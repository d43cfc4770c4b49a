-- The first messages of a plan's line are in the order of their numbers, so that they can be made in portions.
use Rattle.std.proofs.Common.{◌≡◌, ◌∙◌, ℕ, suc, ◌≤◌, true, false, List, [], ◌∷◌, ◌++◌, map, Option, Some, None, Box, Global, length, refl, sym, ap, subst, arith, append-nil}
use Rattle.std.specs.Prelude.{◌==◌}
use Rattle.canvas_semantics.specs.Tree.{Task, task}
use Rattle.canvas_semantics.specs.FileOrder.{TaskIn, LineIn, LinesIn}
use Rattle.canvas_semantics.specs.Line.{Line, stop, step, group_end, chord_end, Lines, no_lines, and_line}
use Rattle.canvas_semantics.specs.PlacedLine.{PPlace, p_nowhere, p_group, p_chord, PLine, bare, all_bare}
use Rattle.canvas_rewrite.specs.declared.frozen.FrozenLine.{FrozenLine, out-FrozenLine}
use Rattle.canvas_rewrite.specs.declared.frozen.FrozenEnd.{FrozenEnd, out-FrozenEnd}
use Rattle.canvas_rewrite.specs.declared.frozen.FrozenTask.{FrozenTask}
use Rattle.canvas_rewrite.specs.FrozenView.{p_steps, p_task_view, p_line_view, p_end_view}
use Rattle.canvas_envelope.specs.Content.{Content, number_of}
use Rattle.canvas_envelope.specs.Fits.{how_many}
use Rattle.canvas_effects.specs.Carrying.{is_whole, can_stand, AllStand}
use Rattle.canvas_effects.specs.Effects.{Jobs, enter, enter_all, first_messages, messages_in, part_of, when_empty}
use Rattle.canvas_effects.specs.Flowing.{Input, no_input, list_input, run}
use Rattle.canvas_effects.specs.Placing.{placed}
use Rattle.canvas_effects.specs.Portions.{portions, together}
use Rattle.canvas_effects.specs.steps.Walks.{member_place, started, all_started, tail_seen}
use Rattle.canvas_effects.proofs.Begun.{begun_header, group_started}
use Rattle.canvas_effects.proofs.Copied.{line_parts}
use Rattle.canvas_effects.proofs.Entered.{messages_on}
use Rattle.canvas_effects.proofs.NothingMoves.{Above, nothing_moves}
use Rattle.canvas_effects.proofs.PlanStands.{bare_place, line_span, tasks_span}
use Rattle.canvas_effects.proofs.Standing.{stands_there}

-- ---- numbers that rise, from a bound on and below another

abbrev Rising : ℕ → ℕ → List Content → Type 0
Rising low high [] = low ≤ high
Rising low high (m ∷ ms) = (low ≤ number_of m.own) × Rising (suc (number_of m.own)) high ms

from_below : (low from high : ℕ) (ms : List Content) → low ≤ from → Rising from high ms → Rising low high ms
from_below low from high [] l h = omega arith
from_below low from high (m ∷ ms) l h = (omega (arith, h.0), h.1)

rising_on : (low middle high : ℕ) (ms ns : List Content) → Rising low middle ms → Rising middle high ns → Rising low high (ms ++ ns)
rising_on low middle high [] ns h i = from_below low middle high ns h i
rising_on low middle high (m ∷ ms) ns h i = (h.0, rising_on (suc (number_of m.own)) middle high ms ns h.1 i)

above : (low high : ℕ) (ms : List Content) → Rising low high ms → Above (λ m. number_of m.own) low ms
above low high [] h = tt
above low high (m ∷ ms) h =
    let k = number_of m.own in
    (h.0, above k high ms (from_below k (suc k) high ms (omega arith) h.1))

-- ---- what a line in file order begins with

part_alone : (p : PPlace) (k low high : ℕ) → low ≤ high → Rising low high (messages_in (part_of p k))
part_alone p_nowhere k low high h = h
part_alone (p_group g) k low high h = h
part_alone (p_chord g size body) k low high h = h

step_rises : (t : Task) (p : PPlace) (l : Line) (x : Input) (k : ℕ) (u : Option ℕ) (low middle high : ℕ) → TaskIn t low middle → middle ≤ high
    → Rising low high (messages_in (enter (bare (step t l)) (run x) p k u))
step_rises (task n call ls es) p l x k u low middle high h more =
    (h.0, omega (arith, tasks_span ls (suc n) h.1 h.2, tasks_span es h.1 middle h.3, more))

-- what a header with no member begins
body_rises : (ms : Lines) (js : Jobs) (low high : ℕ) → low ≤ high → Rising low high (messages_in js)
    → Rising low high (messages_in (when_empty (all_bare ms) js))
body_rises no_lines js low high l h = h
body_rises (and_line m ms) js low high l h = l

module _ (table : ℕ → List ℕ) where
  mutual
    line_rises : (l : Line) (x : Input) (p : PPlace) (k : ℕ) (u : Option ℕ) (low high : ℕ) → LineIn table l low high
        → Rising low high (messages_in (enter (bare l) (run x) p k u))
    line_rises stop x p k u low high h = part_alone p k low high h
    line_rises (step t l) x p k u low high h = step_rises t p l x k u low h.0 high h.1 (line_span table l h.0 high h.2)
    line_rises (group_end g ms) x p k u low high h = lines_rise ms x (p_group g) u low high h.0
    line_rises (chord_end g ms b) x p k u low high h =
        let inner : PPlace = p_chord g (how_many (all_bare ms)) (placed p (bare b)) in
        subst (Rising low high)
        (sym (messages_on (enter_all (all_bare ms) (run x) inner u) (when_empty (all_bare ms) (enter (bare b) (run (list_input [])) p 0 u))))
        (rising_on low h.0 high _ _ (lines_rise ms x inner u low h.0 h.1)
        (body_rises ms _ h.0 high (line_span table b h.0 high h.2) (line_rises b (list_input []) p 0 u h.0 high h.2)))

    lines_rise : (ms : Lines) (x : Input) (p : PPlace) (u : Option ℕ) (low high : ℕ) → LinesIn table ms low high
        → Rising low high (messages_in (enter_all (all_bare ms) (run x) p u))
    lines_rise no_lines x p u low high h = h
    lines_rise (and_line m ms) x p u low high h =
        subst (Rising low high) (sym (messages_on (enter (bare m) (run x) p 0 u) (enter_all (all_bare ms) (run x) p u)))
        (rising_on low h.0 high _ _ (line_rises m x p 0 u low h.0 h.1) (lines_rise ms x p u h.0 high h.3))

  -- so a plan's line begins with its first messages as they are made
  pub first_started : (l : Line) (low high : ℕ) → LineIn table l low high → started (bare l) no_input p_nowhere None ≡ first_messages l
  first_started l low high h =
      let made = started (bare l) no_input p_nowhere None in
      sym (nothing_moves (λ m. number_of m.own) low made (above low high made (line_rises l no_input p_nowhere 0 None low high h)))

-- ---- portions

pub portions_together : (ls : List PLine) (p : PPlace) → together (portions ls p) ≡ all_started ls no_input p None
portions_together [] p = refl
portions_together (l ∷ ls) p = ap (λ ms. started l no_input p None ++ ms) (portions_together ls p)

-- a line without tasks before its group or chord
pub begins_there : (l : FrozenLine) (ts : List FrozenTask) (b : Box FrozenEnd Global) (e : FrozenEnd) → ts ≡ (out-FrozenLine l).tasks
    → length ts ≡ 0
    → (out-FrozenLine l).tail ≡ Some b → e ≡ b.value
    → p_end_view e ≡ p_line_view l
begins_there l [] b e same few some its =
    sym (line_parts l ∙ ap (λ ts. p_steps (map p_task_view ts) (tail_seen (out-FrozenLine l).tail)) (sym same) ∙ ap tail_seen some ∙ ap p_end_view (sym its))
begins_there l (t ∷ ts) b e same few some its = absurd cc

-- a header that has members, begun from nothing
pub header_begins : (e : FrozenEnd) (p : PPlace) (ms : List FrozenLine) → ms ≡ (out-FrozenEnd e).members → (length ms == 0) ≡ false
    → p ≡ member_place (p_end_view e) p_nowhere
    → together (portions (map p_line_view ms) p) ≡ started (p_end_view e) no_input p_nowhere None
header_begins e p ms same some its =
    portions_together (map p_line_view ms) p ∙ ap (λ q. all_started (map p_line_view ms) no_input q None) its ∙ by_body (out-FrozenEnd e).body refl
  where
    by_body : (o : Option FrozenLine) → (out-FrozenEnd e).body ≡ o
        → all_started (map p_line_view ms) no_input (member_place (p_end_view e) p_nowhere) None ≡ started (p_end_view e) no_input p_nowhere None
    by_body None none = group_started e no_input p_nowhere None ms none same
    by_body (Some b) is = begun_header e b no_input p_nowhere None ms is same some

plan_can_stand : (l : Line) → is_whole (bare l) ≡ true → can_stand (bare l) p_nowhere ≡ true
plan_can_stand l whole = ap (can_stand (bare l)) (sym (bare_place l)) ∙ stands_there (bare l) whole

line_stands : (l : Line) (v : PLine) → v ≡ bare l → is_whole (bare l) ≡ true → can_stand v p_nowhere ≡ true
line_stands l v same whole = ap (λ w. can_stand w p_nowhere) same ∙ plan_can_stand l whole

-- a single line
pub alone_stands : (l : Line) (f : FrozenLine) (ls : List FrozenLine) → p_line_view f ≡ bare l → is_whole (bare l) ≡ true → ls ≡ f ∷ []
    → AllStand p_nowhere (map p_line_view ls)
alone_stands l f ls same whole is = subst (λ xs. AllStand p_nowhere (map p_line_view xs)) (sym is) (line_stands l (p_line_view f) same whole, tt)

pub alone_begins : (table : ℕ → List ℕ) (l : Line) (low high : ℕ) (f : FrozenLine) (ls : List FrozenLine) → p_line_view f ≡ bare l → LineIn table l low high
    → ls ≡ f ∷ []
    → together (portions (map p_line_view ls) p_nowhere) ≡ first_messages l
alone_begins table l low high f ls same order is =
    ap (λ xs. together (portions (map p_line_view xs) p_nowhere)) is ∙ append-nil (started (p_line_view f) no_input p_nowhere None)
    ∙ ap (λ v. started v no_input p_nowhere None) same ∙ first_started table l low high order

-- a group or chord that a line begins with
pub end_stands : (l : Line) (f : FrozenLine) (e : FrozenEnd) → p_end_view e ≡ p_line_view f → p_line_view f ≡ bare l → is_whole (bare l) ≡ true
    → can_stand (p_end_view e) p_nowhere ≡ true
end_stands l f e begins same whole = line_stands l (p_end_view e) (begins ∙ same) whole

pub end_begins : (table : ℕ → List ℕ) (l : Line) (low high : ℕ) (f : FrozenLine) (e : FrozenEnd) → p_end_view e ≡ p_line_view f → p_line_view f ≡ bare l
    → LineIn table l low high
    → started (p_end_view e) no_input p_nowhere None ≡ first_messages l
end_begins table l low high f e begins same order =
    ap (λ v. started v no_input p_nowhere None) (begins ∙ same) ∙ first_started table l low high order
