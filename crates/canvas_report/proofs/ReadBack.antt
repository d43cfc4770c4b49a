-- Lines of JSON are read back: no JSON text has a line feed, and each reads as it was written.
use Rattle.std.proofs.Common.{◌≡◌, ◌∙◌, ◌≤◌, ◌==◌, ◌/◌, ◌%◌, ℕ, zero, suc, pos, negsuc, Bool, true, false, cond, nat_lt, List, [], ◌∷◌, ◌++◌, map, Option, Some, None, Result, Ok, Err, IfOk, String, Global, string_bytes, refl, sym, ap, subst, append_assoc, arith}
use Rattle.std.specs.Prelude.{codes, decimal}
use Rattle.std.specs.Char.{digit_char}
use Rattle.std.specs.Fmt.{digits, digits_onto, digit_glyph}
use Rattle.std.specs.List.{AllByRecursion, slice_split}
use Rattle.std.proofs.lemmas.Bool.Decides.{nat_tests}
use Rattle.std.proofs.lemmas.List.Elements.{All-from_recursion}
use Rattle.std.proofs.lemmas.List.Splits.{slice_split_at}
use Rattle.json.specs.Print.{escape_byte, escape, escape_letter, quoted}
use Rattle.serde_json.proofs.OnLiterals.{serde_json_on_literals}
use Rattle.serde_json.specs.Data.{unsigned, negative, float, Data, null, boolean, number, string, array, object, Items, no_items, item, Members, no_members, member, depth, items_depth}
use Rattle.serde_json.specs.Read.{read, max_depth}
use Rattle.serde_json.specs.Written.{comma_if, compact_text, items_text, members_text}
use Rattle.canvas_task.specs.Text.{Text}
use Rattle.canvas_task.specs.declared.outcome.Fault.{Fault}
use Rattle.canvas_task.specs.declared.outcome.Fault.TheVariants as fault
use Rattle.canvas_task.specs.declared.outcome.Outcome.TheVariants as outcome
use Rattle.canvas_sig.specs.steps.Clean.{IsClean, AreClean, MembersClean, behind_members}
use Rattle.canvas_sig.proofs.ReadsAgain.{text_read}
use Rattle.canvas_semantics.specs.Evaluation.{State, Rows, state_of, ends}
use Rattle.canvas_semantics.specs.Report.{names_by_number}
use Rattle.canvas_semantics.specs.Tree.{Tree, ends_in_group}
use Rattle.canvas_report.specs.Fates.{Fates, fate_at}
use Rattle.canvas_report.specs.declared.fate.Fate.{Fate}
use Rattle.canvas_report.specs.declared.fate.Fate.TheVariants.{Ran, Skipped, Idle}
use Rattle.canvas_report.specs.JsonRows.{Shown, shown, fault_wire, state_wire, due_wire, ran_wire, parameter_wire, row_wire, items_wire, results_wire, identifiers_wire, count_wire, member_if, end_wire, json_lines, parameter_of, report_wire}
use Rattle.canvas_report.specs.ReadLines.{ReadsAs, IsTyped, AreTyped, IsTypedCount}

-- ---- no JSON text has a line feed

abbrev NoFeed : ℕ → Type 0
NoFeed x = (x == 10) ≡ false

abbrev Clear : Text → Type 0
Clear text = AllByRecursion NoFeed text

both : (xs ys : Text) → Clear xs → Clear ys → Clear (xs ++ ys)
both [] ys h k = k
both (x ∷ xs) ys h k = (h.0, both xs ys h.1 k)

either : (b : Bool) (xs ys : Text) → (b ≡ true → Clear xs) → (b ≡ false → Clear ys) → Clear (cond b xs ys)
either true xs ys h k = h refl
either false xs ys h k = k refl

letter_clear : (x : ℕ) → NoFeed (escape_letter x)
letter_clear x = grind (arith, nat_tests)

digit_clear : (d : ℕ) → NoFeed (digit_char d)
digit_clear d = grind (arith, nat_tests)

glyph_clear : (d : ℕ) → NoFeed (digit_glyph false d)
glyph_clear d = grind (arith, nat_tests)

plain_clear : (x : ℕ) → nat_lt x 32 ≡ false → NoFeed x
plain_clear x h = grind (arith, nat_tests)

byte_clear : (x : ℕ) → Clear (escape_byte x)
unfolding escape_byte
byte_clear x =
    either (nat_lt 0 (escape_letter x)) _ _ (λ _. (refl, (letter_clear x, tt)))
    (λ _. either (nat_lt x 32) _ _ (λ _. (refl, (refl, (refl, (refl, (digit_clear (x / 16), (digit_clear (x % 16), tt))))))) (λ h. (plain_clear x h, tt)))

escape_clear : (s : Text) → Clear (escape s)
escape_clear [] = tt
escape_clear (x ∷ s) = both (escape_byte x) (escape s) (byte_clear x) (escape_clear s)

quoted_clear : (s : Text) → Clear (quoted s)
quoted_clear s = (refl, both (escape s) (34 ∷ []) (escape_clear s) (refl, tt))

onto_clear : (k n : ℕ) (digits : Text) → Clear digits → Clear (digits_onto k 10 false n digits)
onto_clear zero n digits h = h
onto_clear (suc k) n digits h =
    either (n / 10 == 0) _ _ (λ _. (glyph_clear (n % 10), h)) (λ _. onto_clear k (n / 10) (digit_glyph false (n % 10) ∷ digits) (glyph_clear (n % 10), h))

decimal_clear : (n : ℕ) → Clear (decimal n)
unfolding digits
decimal_clear n = onto_clear 64 n [] tt

comma_clear : (later : Bool) → Clear (comma_if later)
comma_clear true = (refl, tt)
comma_clear false = tt

mutual
  data_clear : (d : Data) → IsClean d → Clear (compact_text d)
  data_clear null h = (refl, (refl, (refl, (refl, tt))))
  data_clear (boolean true) h = (refl, (refl, (refl, (refl, tt))))
  data_clear (boolean false) h = (refl, (refl, (refl, (refl, (refl, tt)))))
  data_clear (number (unsigned n)) h = decimal_clear n
  data_clear (number (negative (pos n))) h = absurd h
  data_clear (number (negative (negsuc n))) h = (refl, decimal_clear (suc n))
  data_clear (number (float x)) h = absurd h
  data_clear (string s) h = quoted_clear s
  data_clear (array ds) h = (refl, items_clear false ds h)
  data_clear (object ms) h = (refl, members_clear false no_members ms h)

  items_clear : (later : Bool) (ds : Items) → AreClean ds → Clear (items_text later ds)
  items_clear later no_items h = (refl, tt)
  items_clear later (item d ds) h =
      both (comma_if later) (compact_text d ++ items_text true ds) (comma_clear later)
      (both (compact_text d) (items_text true ds) (data_clear d h.0) (items_clear true ds h.1))

  members_clear : (later : Bool) (before ms : Members) → MembersClean before ms → Clear (members_text later ms)
  members_clear later before no_members h = (refl, tt)
  members_clear later before (member k d ms) h =
      both (comma_if later) (quoted k ++ 58 ∷ (compact_text d ++ members_text true ms)) (comma_clear later)
      (both (quoted k) (58 ∷ (compact_text d ++ members_text true ms)) (quoted_clear k)
      (refl, both (compact_text d) (members_text true ms) (data_clear d h.1) (members_clear true (behind_members before k d) ms h.2)))

-- ---- lines

-- what reads back: clean, and not too deep
abbrev IsGood : Data → Type 0
IsGood d = IsClean d × (depth d ≤ max_depth)

abbrev AreGood : List Data → Type 0
AreGood ds = AllByRecursion IsGood ds

split_lines : (ds : List Data) → AreGood ds → slice_split (λ b. b == 10) (json_lines ds) ≡ map compact_text ds ++ [] ∷ []
split_lines [] h = refl
split_lines (d ∷ ds) h =
    ap (slice_split (λ b. b == 10)) (append_assoc (compact_text d) (codes "\n") (json_lines ds))
    ∙ slice_split_at (λ b. b == 10) (compact_text d) 10 (json_lines ds) (All-from_recursion NoFeed (compact_text d) (data_clear d h.0.0)) refl
    ∙ ap (λ xs. compact_text d ∷ xs) (split_lines ds h.1)

nothing_read : read [] ≡ None
unfolding serde_json_on_literals
nothing_read = refl

each_read : (ds : List Data) → AreGood ds → map read (map compact_text ds ++ [] ∷ []) ≡ map (λ d. Some d) ds ++ None ∷ []
each_read [] h = ap (λ o. o ∷ []) nothing_read
each_read (d ∷ ds) h =
    ap (λ o. o ∷ map read (map compact_text ds ++ [] ∷ [])) (text_read d h.0.0 h.0.1) ∙ ap (λ os. Some d ∷ os) (each_read ds h.1)

lines_back : (ds : List Data) → AreGood ds → ReadsAs (json_lines ds) ds
lines_back ds h = ap (map read) (split_lines ds h) ∙ each_read ds h

-- ---- rows

due_scalar : (f : Fate) → IsClean (due_wire f) × (depth (due_wire f) ≡ 0)
due_scalar Ran = (tt, refl)
due_scalar (Skipped d) = (tt, refl)
due_scalar Idle = (tt, refl)

ran_scalar : (f : Fate) → IsClean (ran_wire f) × (depth (ran_wire f) ≡ 0)
ran_scalar Ran = (tt, refl)
ran_scalar (Skipped d) = (tt, refl)
ran_scalar Idle = (tt, refl)

parameter_scalar : (o : Option Text) → IsClean (parameter_wire o) × (depth (parameter_wire o) ≡ 0)
parameter_scalar None = (tt, refl)
parameter_scalar (Some name) = (tt, refl)

fault_clean : (f : Fault) → IsClean (fault_wire f) × (depth (fault_wire f) ≤ 2)
fault_clean (fault.Plain kind) = ((tt, tt, ((refl, tt), tt, tt)), omega arith)
fault_clean (fault.Chord dep why) = ((tt, (tt, tt), ((refl, tt), tt, tt)), omega arith)

state_clean : (s : State) → IsTyped s → IsClean (state_wire s) × (depth (state_wire s) ≤ 2)
state_clean None h = (tt, omega arith)
state_clean (Some (outcome.Success (pos n))) h = (omega (arith, h), omega arith)
state_clean (Some (outcome.Success (negsuc n))) h = (h, omega arith)
state_clean (Some (outcome.Failure f)) h = fault_clean f

row_good : (f : Option Fate) (p : Option (Option Text)) (t : ℕ × Text) (x : Shown) → IsClean x.result → depth x.result ≤ 2 → IsGood (row_wire f p t x)
row_good None None t x h low = (
  (
    tt,
    tt,
    (
      (refl, tt),
      h,
      (
        (refl, (refl, tt)),
        tt,
        (
          (refl, (refl, (refl, tt))),
          tt,
          tt,
        ),
      ),
    ),
  ),
  omega (arith, low),
)
row_good (Some f) None t x h low = (
  (
    tt,
    (due_scalar f).0,
    (
      (refl, tt),
      tt,
      (
        (refl, (refl, tt)),
        (ran_scalar f).0,
        (
          (refl, (refl, (refl, tt))),
          h,
          (
            (refl, (refl, (refl, (refl, tt)))),
            tt,
            (
              (refl, (refl, (refl, (refl, (refl, tt))))),
              tt,
              tt,
            ),
          ),
        ),
      ),
    ),
  ),
  omega (arith, low, (due_scalar f).1, (ran_scalar f).1),
)
row_good None (Some o) t x h low = (
  (
    tt,
    tt,
    (
      (refl, tt),
      (parameter_scalar o).0,
      (
        (refl, (refl, tt)),
        h,
        (
          (refl, (refl, (refl, tt))),
          tt,
          (
            (refl, (refl, (refl, (refl, tt)))),
            tt,
            tt,
          ),
        ),
      ),
    ),
  ),
  omega (arith, low, (parameter_scalar o).1),
)
row_good (Some f) (Some o) t x h low = (
  (
    tt,
    (due_scalar f).0,
    (
      (refl, tt),
      tt,
      (
        (refl, (refl, tt)),
        (parameter_scalar o).0,
        (
          (refl, (refl, (refl, tt))),
          (ran_scalar f).0,
          (
            (refl, (refl, (refl, (refl, tt)))),
            h,
            (
              (refl, (refl, (refl, (refl, (refl, tt))))),
              tt,
              (
                (refl, (refl, (refl, (refl, (refl, (refl, tt)))))),
                tt,
                tt,
              ),
            ),
          ),
        ),
      ),
    ),
  ),
  omega (arith, low, (due_scalar f).1, (ran_scalar f).1, (parameter_scalar o).1),
)

module _ (at : ℕ → Shown) (clean : (k : ℕ) → IsClean (at k).result × (depth (at k).result ≤ 2)) where
  items_good : (ks : List ℕ) → AreClean (items_wire (map (λ e. e.result) (map at ks))) × (items_depth (items_wire (map (λ e. e.result) (map at ks))) ≤ 2)
  items_good [] = (tt, omega arith)
  items_good (k ∷ ks) = (((clean k).0, (items_good ks).0), omega (arith, (clean k).1, (items_good ks).1))

  identifiers_good : (ks : List ℕ) → AreClean (identifiers_wire ks) × (items_depth (identifiers_wire ks) ≡ 0)
  identifiers_good [] = (tt, refl)
  identifiers_good (k ∷ ks) = ((tt, (identifiers_good ks).0), omega (arith, (identifiers_good ks).1))

  results_good : (several : Bool) (ks : List ℕ)
      → IsClean (results_wire several (map (λ e. e.result) (map at ks))) × (depth (results_wire several (map (λ e. e.result) (map at ks))) ≤ 3)
  results_good true ks = ((items_good ks).0, omega (arith, (items_good ks).1))
  results_good false [] = (tt, omega arith)
  results_good false (k ∷ ks) = ((clean k).0, omega (arith, (clean k).1))

  end_good : (again : Option ℕ) → IsTypedCount again → (several : Bool) (ks : List ℕ) → IsGood (end_wire again several ks (map at ks))
  end_good None typed several ks =
      let ids = identifiers_good ks in
      let its = results_good several ks in (
        (tt, ids.0, ((refl, tt), its.0, ((refl, (refl, tt)), tt, tt))),
        omega (arith, ids.1, its.1),
      )
  end_good (Some n) typed several ks =
      let ids = identifiers_good ks in
      let its = results_good several ks in (
        (tt, omega (arith, typed), ((refl, tt), ids.0, ((refl, (refl, tt)), its.0, ((refl, (refl, (refl, tt))), tt, tt)))),
        omega (arith, ids.1, its.1),
      )

  all_good : (fate : ℕ → Option Fate) (parameter : ℕ → Option (Option Text)) (ts : List (ℕ × Text)) (last : Data) → IsGood last
      → AreGood (map (λ t. row_wire (fate t.0) (parameter t.0) t (at t.0)) ts ++ last ∷ [])
  all_good fate parameter [] last h = (h, tt)
  all_good fate parameter (t ∷ ts) last h =
      (row_good (fate t.0) (parameter t.0) t (at t.0) (clean t.0).0 (clean t.0).1, all_good fate parameter ts last h)

report_back : (fates : Fates) (blamed : List (ℕ × Option (String Global))) (again : Option ℕ) (c : Tree) (rows : Rows) → AreTyped rows → IsTypedCount again
    → ReadsAs (json_lines (report_wire fates blamed again c rows)) (report_wire fates blamed again c rows)
report_back fates blamed again c rows typed counted =
    let clean : (k : ℕ) → IsClean (state_wire (state_of k rows)) × (depth (state_wire (state_of k rows)) ≤ 2) = λ k. state_clean (state_of k rows) (typed k) in
    lines_back (report_wire fates blamed again c rows)
    (all_good (λ k. shown (state_of k rows)) clean (fate_at fates) (parameter_of blamed) (names_by_number c)
    (end_wire again (ends_in_group c) (ends c) (map (λ k. shown (state_of k rows)) (ends c)))
    (end_good (λ k. shown (state_of k rows)) clean again counted (ends_in_group c) (ends c)))

pub read_back : {E : Type 0} (r : Result (String Global) E) (fates : Fates) (blamed : List (ℕ × Option (String Global))) (again : Option ℕ) (c : Tree)
    (rows : Rows)
    → IfOk r (λ text. string_bytes text ≡ json_lines (report_wire fates blamed again c rows)) → AreTyped rows → IsTypedCount again
    → IfOk r (λ text. ReadsAs (string_bytes text) (report_wire fates blamed again c rows))
read_back (Ok text) fates blamed again c rows is typed counted =
    subst (λ x. ReadsAs x (report_wire fates blamed again c rows)) (sym is) (report_back fates blamed again c rows typed counted)
read_back (Err e) fates blamed again c rows is typed counted = tt
