-- The book of a plan knows all that the plan's messages name.
use Rattle.std.proofs.Common.{◌≡◌, ◌<◌, ◌+◌, ◌∙◌, ℕ, zero, suc, ◌≤◌, Bool, true, false, cond, List, [], ◌∷◌, length, Option, Some, None, refl, sym, ap, subst, inl, inr, arith}
use Rattle.std.proofs.lemmas.Bool.{le-leb, true≢false}
use Rattle.std.proofs.lemmas.Bool.Decides.{nat_tests}
use Rattle.std.proofs.lemmas.List.Sums.{sum_by-cons}
use Rattle.std.specs.List.{list_any}
use Rattle.std.specs.Prelude.{◌&&◌, ◌||◌, ◌==◌, not, nat_le, slice_get, count_by}
use Rattle.canvas_semantics.specs.Tree.{Task, task, Tasks, no_tasks, and_task}
use Rattle.canvas_semantics.specs.FileOrder.{TaskIn, TasksIn}
use Rattle.canvas_semantics.specs.Line.{Line, stop, step, group_end, chord_end, Lines, no_lines, and_line, no_of, members}
use Rattle.canvas_semantics.specs.PlacedLine.{p_nowhere, bare, all_bare, bare_task, bare_tasks}
use Rattle.canvas_semantics.proofs.RowNumbers.{same_number}
use Rattle.canvas_rewrite.specs.Planned.{IsPlan}
use Rattle.canvas_rewrite.proofs.Members.{member_known}
use Rattle.canvas_effects.proofs.FitsOn.{all_true}
use Rattle.canvas_envelope.specs.Content.{line}
use Rattle.canvas_history.specs.Lists.{In}
use Rattle.canvas_envelope.specs.Fits.{how_many}
use Rattle.canvas_effects.specs.Placing.{place_before, last_at, placed, last_task}
use Rattle.canvas_runs.specs.Book.{Book, has_size, task_known, tasks_known, place_known, line_known, members_known, parent_known, message_known}
use Rattle.canvas_runs.proofs.Plans.Carrying.{put, content, last_bare, many_bare}
use Rattle.canvas_runs.proofs.Plans.FileOrder.{LineIn, LinesIn, Lands, PlaceIn, ParentIn, Formed}
use Rattle.canvas_runs.proofs.Plans.Messages.{Place, nowhere, in_group, in_chord, carried, lines_length, last_of, lasts, Message}
use Rattle.canvas_runs.proofs.Plans.Order.{tasks_span, line_span, lines_span}
use Rattle.canvas_runs.proofs.Plans.Sized.{HasSize, SizedLine, SizedLines, SizedPlace, SizedMessage}

abbrev pub among : ℕ → List ℕ → Bool
among k ks = list_any (λ x. x == k) ks

pub found : (k : ℕ) (ks : List ℕ) → In k ks → among k ks ≡ true
found k [] i = elim i [ ]
found k (j ∷ ks) (inl e) = ap (λ n. (n == k) || among k ks) (sym e) ∙ ap (λ b. b || among k ks) (same_number k)
found k (j ∷ ks) (inr i) = go (j == k) (found k ks i)
  where
    go : (b : Bool) → among k ks ≡ true → (b || among k ks) ≡ true
    go true e = refl
    go false e = e

-- how often a number is in a list that has it
some_times : (k : ℕ) (ks : List ℕ) → In k ks → 0 < count_by (λ x. x == k) ks
some_times k [] i = elim i [ ]
some_times k (j ∷ ks) i = go (j == k) refl i (some_times k ks)
  where
    go : (b : Bool) → (j == k) ≡ b → In k (j ∷ ks) → (In k ks → 0 < count_by (λ x. x == k) ks) → 0 < count_by (λ x. x == k) (j ∷ ks)
    go true e i f =
        let more : count_by (λ x. x == k) (j ∷ ks) ≡ 1 + count_by (λ x. x == k) ks = sum_by-cons (λ x. cond (x == k) 1 0) j ks
        ∙ ap (λ b. cond b 1 0 + count_by (λ x. x == k) ks) e in omega (arith, more)
    go false e (inl same) f = absurd (true≢false (sym (same_number k) ∙ ap (λ n. n == k) same ∙ e))
    go false e (inr i) f =
        let more : count_by (λ x. x == k) (j ∷ ks) ≡ 0 + count_by (λ x. x == k) ks = sum_by-cons (λ x. cond (x == k) 1 0) j ks
        ∙ ap (λ b. cond b 1 0 + count_by (λ x. x == k) ks) e in omega (arith, more, f i)

no_zero : (k : ℕ) → 1 ≤ k → (k == 0) ≡ false
no_zero zero h = absurd (omega arith)
no_zero (suc k) h = grind (arith, nat_tests)

-- no member of a plan is the task 0
pub no_member_zero : (l : Line) → IsPlan l → (g k : ℕ) → In k (members l g) → (k == 0) ≡ false
no_member_zero l plan g k i = no_zero k (member_known l plan g k (some_times k (members l g) i)).0

right_size : (n m : ℕ) (o : Option ℕ) → o ≡ Some m → n ≡ m → has_size n o ≡ true
right_size n m o e f = ap (has_size n) e ∙ (ap (λ j. m == j) f ∙ same_number m)

module _ (most : ℕ) (sizes : ℕ → Option ℕ) (table : ℕ → List ℕ) (from_one : (g k : ℕ) → In k (table g) → (k == 0) ≡ false) where
  abbrev is_member : ℕ → ℕ → Bool
  is_member g k = not (k == 0) && among k (table g)

  abbrev book : Book
  book = record { knows = λ k. nat_le k most; size = sizes; is_member = is_member; member = λ g i. slice_get (table g) i }

  named : (g k : ℕ) → In k (table g) → is_member g k ≡ true
  named g k i = ap (λ b. not b && among k (table g)) (from_one g k i) ∙ found k (table g) i

  mutual
    task_is : (t : Task) (low high : ℕ) → high ≤ suc most → TaskIn t low high → task_known book (bare_task t) ≡ true
    task_is (task k call ls es) low high top (l, middle, i, j) =
        let a = tasks_span ls (suc k) middle i in
        let b = tasks_span es middle high j in
        all_true (nat_le k most && tasks_known book (bare_tasks ls) && tasks_known book (bare_tasks es)) true
        (all_true (nat_le k most && tasks_known book (bare_tasks ls)) (tasks_known book (bare_tasks es))
        (all_true (nat_le k most) (tasks_known book (bare_tasks ls)) (le-leb k most (omega arith)) (tasks_are ls (suc k) middle (omega arith) i))
        (tasks_are es middle high top j)) refl

    tasks_are : (ts : Tasks) (low high : ℕ) → high ≤ suc most → TasksIn ts low high → tasks_known book (bare_tasks ts) ≡ true
    tasks_are no_tasks low high top n = refl
    tasks_are (and_task t ts) low high top (middle, i, j) =
        let b = tasks_span ts middle high j in
        all_true (task_known book (bare_task t)) (tasks_known book (bare_tasks ts)) (task_is t low middle (omega arith) i) (tasks_are ts middle high top j)

  -- members that are among those of the table
  member_is : (g : ℕ) (m : Line) → In (last_of m) (table g) → is_member g (last_task 0 (bare m)) ≡ true
  member_is g m i = ap (is_member g) (last_bare m 0) ∙ named g (last_of m) i

  size_is : (g : ℕ) (ms : Lines) → HasSize sizes table g → table g ≡ lasts ms → has_size (how_many (all_bare ms)) (sizes g) ≡ true
  size_is g ms h e = right_size (how_many (all_bare ms)) (length (table g)) (sizes g) h (many_bare ms ∙ (sym (length_lasts ms) ∙ sym (ap length e)))
    where
      length_lasts : (ms : Lines) → length (lasts ms) ≡ lines_length ms
      length_lasts no_lines = refl
      length_lasts (and_line m ms) = ap suc (length_lasts ms)

  mutual
    line_is : (l : Line) (low high : ℕ) → high ≤ suc most → LineIn table l low high → SizedLine sizes table l → line_known book (bare l) ≡ true
    line_is stop low high top n s = refl
    line_is (step t rest) low high top (middle, i, j) s =
        let b = line_span table rest middle high j in
        all_true (task_known book (bare_task t)) (line_known book (bare rest)) (task_is t low middle (omega arith) i) (line_is rest middle high top j s)
    line_is (group_end g ms) low high top n s = members_are g ms low high top n.0 (λ k i. subst (In k) (sym n.1) i) s
    line_is (chord_end g ms body) low high top (middle, i, j, e) s =
        let b = line_span table body middle high j in
        all_true (has_size (how_many (all_bare ms)) (sizes g) && members_known book g (all_bare ms)) (line_known book (bare body))
        (all_true (has_size (how_many (all_bare ms)) (sizes g)) (members_known book g (all_bare ms)) (size_is g ms s.0 e)
        (members_are g ms low middle (omega arith) i (λ k z. subst (In k) (sym e) z) s.1))
        (line_is body middle high top j s.2)

    members_are : (g : ℕ) (ms : Lines) (low high : ℕ) → high ≤ suc most → LinesIn table ms low high → ((k : ℕ) → In k (lasts ms) → In k (table g))
        → SizedLines sizes table ms → members_known book g (all_bare ms) ≡ true
    members_are g no_lines low high top n f s = refl
    members_are g (and_line m ms) low high top (middle, i, e, j) f s =
        let b = lines_span table ms middle high j in
        all_true (is_member g (last_task 0 (bare m)) && line_known book (bare m)) (members_known book g (all_bare ms))
        (all_true (is_member g (last_task 0 (bare m))) (line_known book (bare m)) (member_is g m (f (last_of m) (inl refl)))
        (line_is m low middle (omega arith) i s.0))
        (members_are g ms middle high top j (λ k z. f k (inr z)) s.1)

  -- the last task is one of the place's members
  abbrev LandsOn : Place → ℕ → Type 0
  LandsOn nowhere k = Unit {0}
  LandsOn (in_group g) k = In k (table g)
  LandsOn (in_chord g c) k = In k (table g)

  lands_on : (p : Place) (behind : Bool) (k : ℕ) → Lands table p behind k stop → LandsOn p k
  lands_on nowhere behind k s = tt
  lands_on (in_group g) behind k s = s.1
  lands_on (in_chord g c) behind k s = s.1

  lands_rest : (p : Place) (behind : Bool) (k : ℕ) (t : Task) (rest : Line) → Lands table p behind k (step t rest) → Lands table p true (no_of t) rest
  lands_rest nowhere behind k t rest s = tt
  lands_rest (in_group g) behind k t rest s = s
  lands_rest (in_chord g c) behind k t rest s = s

  lands_body : (p : Place) (behind : Bool) (k g : ℕ) (ms : Lines) (body : Line) → Lands table p behind k (chord_end g ms body) → Lands table p false 0 body
  lands_body nowhere behind k g ms body s = tt
  lands_body (in_group h) behind k g ms body s = s
  lands_body (in_chord h c) behind k g ms body s = s

  before_is : (p : Place) (k : ℕ) (rest : Line) → Lands table p true k rest → ((j : ℕ) → LandsOn p j → place_known book j (put p) ≡ true)
      → place_known book k (place_before (bare rest) p_nowhere (put p)) ≡ true
  before_is p k stop s h = h k (lands_on p true k s)
  before_is p k (step t l) s h = refl
  before_is p k (group_end g ms) s h = refl
  before_is p k (chord_end g ms b) s h = refl

  last_is : (p : Place) (t : Task) (rest : Line) (low middle : ℕ) → middle ≤ suc most → TaskIn t low middle → Lands table p true (no_of t) rest
      → ((j : ℕ) → LandsOn p j → place_known book j (put p) ≡ true)
      → task_known book (last_at (put p) (bare_task t) (bare rest)) ≡ true
  last_is p (task k call ls es) rest low middle top (l, between, i, j) s h =
      let a = tasks_span ls (suc k) between i in
      let b = tasks_span es between middle j in
      all_true (nat_le k most && tasks_known book (bare_tasks ls) && tasks_known book (bare_tasks es))
      (place_known book k (place_before (bare rest) p_nowhere (put p)))
      (all_true (nat_le k most && tasks_known book (bare_tasks ls)) (tasks_known book (bare_tasks es))
      (all_true (nat_le k most) (tasks_known book (bare_tasks ls)) (le-leb k most (omega arith)) (tasks_are ls (suc k) between (omega arith) i))
      (tasks_are es between middle top j)) (before_is p k rest s h)

  -- a line whose end goes to a place
  placed_is : (p : Place) → ((j : ℕ) → LandsOn p j → place_known book j (put p) ≡ true) → (l : Line) (behind : Bool) (k low high : ℕ) → high ≤ suc most
      → LineIn table l low high → SizedLine sizes table l
      → Lands table p behind k l → line_known book (placed (put p) (bare l)) ≡ true
  placed_is p h stop behind k low high top n s e = refl
  placed_is p h (step t rest) behind k low high top (middle, i, j) s e =
      let b = line_span table rest middle high j in
      all_true (task_known book (last_at (put p) (bare_task t) (bare rest))) (line_known book (placed (put p) (bare rest)))
      (last_is p t rest low middle (omega arith) i (lands_rest p behind k t rest e) h)
      (placed_is p h rest true (no_of t) middle high top j s (lands_rest p behind k t rest e))
  placed_is p h (group_end g ms) behind k low high top n s e = members_are g ms low high top n.0 (λ k i. subst (In k) (sym n.1) i) s
  placed_is p h (chord_end g ms body) behind k low high top (middle, i, j, e) s lands =
      let b = line_span table body middle high j in
      all_true (has_size (how_many (all_bare ms)) (sizes g) && members_known book g (all_bare ms)) (line_known book (placed (put p) (bare body)))
      (all_true (has_size (how_many (all_bare ms)) (sizes g)) (members_known book g (all_bare ms)) (size_is g ms s.0 e)
      (members_are g ms low middle (omega arith) i (λ k z. subst (In k) (sym e) z) s.1))
      (placed_is p h body false 0 middle high top j s.2 (lands_body p behind k g ms body lands))

  place_is : (p : Place) (low : ℕ) → PlaceIn table (suc most) p low → SizedPlace sizes table p → (j : ℕ) → LandsOn p j → place_known book j (put p) ≡ true
  place_is nowhere low n s j i = refl
  place_is (in_group g) low n s j i = named g j i
  place_is (in_chord g (carried size body q)) low (from, upto, l, top, below, many, inside, behind, lands) s j i =
      all_true (is_member g j && has_size size (sizes g)) (line_known book (placed (put q) (bare body)))
      (all_true (is_member g j) (has_size size (sizes g)) (named g j i) (right_size size (length (table g)) (sizes g) s.0 many))
      (placed_is q (place_is q upto behind s.1.1) body false 0 from upto top inside s.1.0 lands)

  pub message_is : (m : Message) → Formed table (suc most) m → SizedMessage sizes table m → message_known book (content m) ≡ true
  message_is m (a, b, c, one, top, i, j, r, q, s) z =
      let x = tasks_span m.links (suc m.no) a i in
      let y = tasks_span m.errbacks a b j in
      let w = line_span table m.rest b c r in
      let known : (k : ℕ) → LandsOn m.place k → place_known book k (put m.place) ≡ true = place_is m.place c q z.1 in
      all_true (parent_known book m.parent) (line_known book (line (content m))) (parent_is m.parent one.1)
      (all_true (task_known book (content m).own) (line_known book (content m).rest)
      (all_true (nat_le m.no most && tasks_known book (bare_tasks m.links) && tasks_known book (bare_tasks m.errbacks))
      (place_known book m.no (place_before (bare m.rest) p_nowhere (put m.place)))
      (all_true (nat_le m.no most && tasks_known book (bare_tasks m.links)) (tasks_known book (bare_tasks m.errbacks))
      (all_true (nat_le m.no most) (tasks_known book (bare_tasks m.links)) (le-leb m.no most (omega arith)) (tasks_are m.links (suc m.no) a (omega arith) i))
      (tasks_are m.errbacks a b (omega arith) j)) (before_is m.place m.no m.rest s known))
      (placed_is m.place known m.rest true m.no b c top r z.0 s))
    where
      parent_is : (u : Option ℕ) → ParentIn table (suc most) u → parent_known book u ≡ true
      parent_is None h = refl
      parent_is (Some k) h = le-leb k most (omega (arith, h.1))
