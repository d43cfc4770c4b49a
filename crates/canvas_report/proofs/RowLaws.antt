-- The rows, as they are written piece by piece, are the defined JSON.
use Rattle.std.proofs.Common.{◌≡◌, ◌∙◌, ◌+◌, ◌<◌, ℕ, Bool, true, false, List, [], ◌∷◌, ◌++◌, drop, get_or, length, map, Option, Some, None, String, Global, string_bytes, refl, sym, ap, subst, append_assoc, append-nil}
use Rattle.std.specs.Prelude.{codes, decimal, option_map}
use Rattle.json.specs.Print.{quoted}
use Rattle.serde_json.proofs.OnLiterals.{serde_json_on_literals}
use Rattle.serde_json.specs.Data.{Data, string, array, Members, no_members, member}
use Rattle.serde_json.specs.Written.{comma_if, compact_text, items_text, members_text}
use Rattle.canvas_task.proofs.Turns.{item_first}
use Rattle.canvas_task.specs.Text.{Text}
use Rattle.canvas_task.specs.Identifiers.{task_text}
use Rattle.canvas_task.specs.Printed.{kind_name, why_name}
use Rattle.canvas_task.specs.declared.outcome.Fault.{Fault}
use Rattle.canvas_task.specs.declared.outcome.Fault.TheVariants as fault
use Rattle.canvas_task.specs.declared.outcome.Outcome.TheVariants as outcome
use Rattle.canvas_report.proofs.Identifiers.{number_is, task_plain}
use Rattle.canvas_report.specs.declared.row.Row.{Row}
use Rattle.canvas_report.specs.declared.row.Row.TheVariants as row
use Rattle.canvas_rewrite.proofs.Members.{in_group_tree}
use Rattle.canvas_semantics.specs.Evaluation.{State, state_of, ends}
use Rattle.canvas_semantics.specs.Line.{Line, tree_of, ends_of, in_group}
use Rattle.canvas_semantics.specs.Report.{names_by_number}
use Rattle.canvas_semantics.specs.States.{rows_from}
use Rattle.canvas_semantics.specs.Tree.{Tree, ends_in_group}
use Rattle.canvas_semantics.proofs.EndLemmas.{ends_of_tree}
use Rattle.canvas_report.specs.Fates.{Fates, fate_at}
use Rattle.canvas_report.specs.declared.fate.Fate.{Fate}
use Rattle.canvas_report.specs.declared.fate.Fate.TheVariants.{Ran, Skipped, Idle}
use Rattle.canvas_report.specs.declared.shown.Status.{Status}
use Rattle.canvas_report.specs.declared.shown.Status.TheVariants.{Pending, Success, Failure}
use Rattle.canvas_report.specs.JsonRows.{raised_wire, blamed_wire, fault_wire, state_wire, status_name, status_of_all, Shown, shown, member_if, due_wire, ran_wire, parameter_wire, row_wire, items_wire, results_wire, identifiers_wire, count_wire, end_wire, json_lines, parameter_of, rows_wire, report_wire}
use Rattle.canvas_report.specs.StoredRows.{row_of, row_status, Shows, AllShow}
use Rattle.canvas_report.specs.Listing.{lines}
use Rattle.canvas_report.specs.RowTexts.{statuses, raised_text, blamed_text, fault_json, state_json, result_json, due_text, ran_text, parameter_text, row_text, row_line, listed_json, again_text, identifiers_json, end_front, end_back, end_text}
use Rattle.canvas_report.proofs.RowLines.{row_state}

-- ---- results

raised_written : (name : Text) → raised_text name ≡ compact_text (raised_wire name)
unfolding serde_json_on_literals
raised_written name = refl

blamed_written : (dep : ℕ) (name : Text) → blamed_text dep name ≡ compact_text (blamed_wire dep name)
unfolding serde_json_on_literals
blamed_written dep name =
    ap (λ x. codes "{\"exc_message\":[" ++ x)
    (sym (append_assoc (quoted (codes "Dependency " ++ task_text dep ++ codes " raised " ++ name)) (codes "]") (codes ",\"exc_type\":\"ChordError\"}")))

fault_written : (f : Fault) → fault_json f ≡ compact_text (fault_wire f)
fault_written (fault.Plain kind) = raised_written (kind_name kind)
fault_written (fault.Chord dep why) = blamed_written dep (why_name why)

pub state_written : (s : State) → state_json s ≡ compact_text (state_wire s)
unfolding serde_json_on_literals
state_written None = refl
state_written (Some (outcome.Success n)) = sym (number_is n)
state_written (Some (outcome.Failure f)) = fault_written f

shows_result : (r : Row) (x : Shown) → Shows r x → result_json r ≡ compact_text x.result
shows_result (row.Known s) x h = state_written s ∙ ap (λ y. compact_text y.result) (sym h)
shows_result (row.Value json) x h = h.1
shows_result (row.Raised name) x h = raised_written (string_bytes name) ∙ ap (λ y. compact_text y.result) (sym h)
shows_result (row.Blamed dep name) x h = blamed_written dep (string_bytes name) ∙ ap (λ y. compact_text y.result) (sym h)

shows_status : (r : Row) (x : Shown) → Shows r x → row_status r ≡ x.status
shows_status (row.Known s) x h = ap (λ y. y.status) (sym h)
shows_status (row.Value json) x h = sym h.0
shows_status (row.Raised name) x h = ap (λ y. y.status) (sym h)
shows_status (row.Blamed dep name) x h = ap (λ y. y.status) (sym h)

-- ---- members, from the last

-- each member but the first comes after a comma
abbrev IsFurther : Members → Type 0
IsFurther ms = members_text true ms ≡ 44 ∷ members_text false ms

if_further : (k : Text) (o : Option Data) (ms : Members) → IsFurther ms → IsFurther (member_if k o ms)
if_further k None ms h = h
if_further k (Some d) ms h = refl

identifier : (k : ℕ) → quoted (task_text k) ≡ codes "\"" ++ (task_text k ++ codes "\"")
identifier k = ap (λ x. codes "\"" ++ (x ++ codes "\"")) (task_plain k)

task_member : (k : ℕ) → members_text true (member (codes "task_id") (string (task_text k)) no_members) ≡ codes ",\"task_id\":\"" ++ (task_text k ++ codes "\"}")
unfolding serde_json_on_literals
task_member k =
    ap (λ x. codes ",\"task_id\":" ++ (x ++ codes "}")) (identifier k)
    ∙ ap (λ x. codes ",\"task_id\":\"" ++ x) (append_assoc (task_text k) (codes "\"") (codes "}"))

status_member : (s : Status) (ms : Members)
    → members_text true (member (codes "status") (string (status_name s)) ms)
    ≡ codes ",\"status\":\"" ++ (status_name s ++ (codes "\"" ++ members_text true ms))
unfolding serde_json_on_literals
status_member Pending ms = refl
status_member Success ms = refl
status_member Failure ms = refl

result_member : (d : Data) (ms : Members) → members_text false (member (codes "result") d ms) ≡ codes "\"result\":" ++ (compact_text d ++ members_text true ms)
unfolding serde_json_on_literals
result_member d ms = refl

ran_member : (f : Option Fate) (ms : Members) → IsFurther ms
    → members_text false (member_if (codes "ran") (option_map ran_wire f) ms) ≡ ran_text f ++ members_text false ms
unfolding serde_json_on_literals
ran_member None ms h = refl
ran_member (Some Ran) ms h = ap (λ x. codes "\"ran\":true" ++ x) h
ran_member (Some (Skipped d)) ms h = ap (λ x. codes "\"ran\":false" ++ x) h
ran_member (Some Idle) ms h = ap (λ x. codes "\"ran\":false" ++ x) h

parameter_member : (p : Option (Option Text)) (ms : Members) → IsFurther ms
    → members_text false (member_if (codes "parameter") (option_map parameter_wire p) ms) ≡ parameter_text p ++ members_text false ms
unfolding serde_json_on_literals
parameter_member None ms h = refl
parameter_member (Some None) ms h = ap (λ x. codes "\"parameter\":null" ++ x) h
parameter_member (Some (Some name)) ms h =
    ap (λ x. codes "\"parameter\":" ++ (quoted name ++ x)) h
    ∙ ap (λ x. codes "\"parameter\":" ++ x) (sym (append_assoc (quoted name) (codes ",") (members_text false ms)))

name_member : (name : Text) (ms : Members) → IsFurther ms
    → members_text false (member (codes "name") (string name) ms) ≡ codes "\"name\":" ++ (quoted name ++ (codes "," ++ members_text false ms))
unfolding serde_json_on_literals
name_member name ms h = ap (λ x. codes "\"name\":" ++ (quoted name ++ x)) h

due_member : (f : Option Fate) (ms : Members) → IsFurther ms
    → members_text false (member_if (codes "due_to") (option_map due_wire f) ms) ≡ due_text f ++ members_text false ms
unfolding serde_json_on_literals
due_member None ms h = refl
due_member (Some Ran) ms h = ap (λ x. codes "\"due_to\":null" ++ x) h
due_member (Some Idle) ms h = ap (λ x. codes "\"due_to\":null" ++ x) h
due_member (Some (Skipped dep)) ms h =
    ap (λ x. codes "\"due_to\":" ++ (quoted (task_text dep) ++ x)) h
    ∙ ap (λ x. codes "\"due_to\":" ++ (x ++ 44 ∷ members_text false ms)) (identifier dep)
    ∙ ap (λ x. codes "\"due_to\":\"" ++ x) (around (task_text dep) (codes "\"") (codes ",") (members_text false ms))
  where
    around : (t q z ms : List ℕ) → (t ++ q) ++ (z ++ ms) ≡ (t ++ (q ++ z)) ++ ms
    around t q z ms = simp append_assoc

-- ---- a row

regroup : (o d n q c p r u v w s z i k e l : Text)
    → (((((((((o ++ d) ++ n) ++ q) ++ c) ++ p) ++ r) ++ (((u ++ v) ++ w) ++ s)) ++ (z ++ i)) ++ k) ++ (e ++ l)
    ≡ (o ++ (d ++ (n ++ (q ++ (c ++ (p ++ (r ++ (u ++ (v ++ (w ++ (s ++ (z ++ (i ++ (k ++ e)))))))))))))) ++ l
regroup o d n q c p r u v w s z i k e l = simp append_assoc

-- from the result on
shown_members : (k : ℕ) (x : Shown) → Members
shown_members k x =
    member (codes "result") x.result
    (member (codes "status") (string (status_name x.status))
    (member (codes "task_id") (string (task_text k)) no_members))

shown_written : (k : ℕ) (x : Shown) → members_text false (shown_members k x)
    ≡ codes "\"result\":" ++ (compact_text x.result
    ++ (codes ",\"status\":\"" ++ (status_name x.status ++ (codes "\"" ++ (codes ",\"task_id\":\"" ++ (task_text k ++ codes "\"}"))))))
unfolding shown_members
shown_written k x =
    result_member x.result (member (codes "status") (string (status_name x.status)) (member (codes "task_id") (string (task_text k)) no_members))
    ∙ ap (λ t. codes "\"result\":" ++ (compact_text x.result ++ t)) (
    status_member x.status (member (codes "task_id") (string (task_text k)) no_members)
    ∙ ap (λ t. codes ",\"status\":\"" ++ (status_name x.status ++ (codes "\"" ++ t))) (task_member k)
    )

row_written : (f : Option Fate) (p : Option (Option Text)) (t : ℕ × Text) (r : Row) (x : Shown) → Shows r x
    → row_text f p t r ≡ compact_text (row_wire f p t x) ++ codes "\n"
unfolding shown_members
row_written f p (k, name) r x h =
    let m4 : Members = shown_members k x in
    let m3 : Members = member_if (codes "ran") (option_map ran_wire f) m4 in
    let m2 : Members = member_if (codes "parameter") (option_map parameter_wire p) m3 in
    let m1 : Members = member (codes "name") (string name) m2 in
    let h3 : IsFurther m3 = if_further (codes "ran") (option_map ran_wire f) m4 refl in
    let h2 : IsFurther m2 = if_further (codes "parameter") (option_map parameter_wire p) m3 h3 in
    let front : Text = (((((codes "{" ++ due_text f) ++ codes "\"name\":") ++ quoted name) ++ codes ",") ++ parameter_text p) ++ ran_text f in
    let text : Text → Status → Text =
    λ v s. ((front ++ (((codes "\"result\":" ++ v) ++ codes ",\"status\":\"") ++ status_name s)) ++ codes "\",\"task_id\":\"") ++ task_text k ++ codes "\"}\n" in
    ap (λ v. text v (row_status r)) (shows_result r x h) ∙ ap (text (compact_text x.result)) (shows_status r x h)
    ∙ regroup (codes "{") (due_text f) (codes "\"name\":") (quoted name) (codes ",") (parameter_text p) (ran_text f)
    (codes "\"result\":") (compact_text x.result) (codes ",\"status\":\"") (status_name x.status) (codes "\"") (codes ",\"task_id\":\"") (task_text k) (codes "\"}") (codes "\n")
    ∙ ap (λ t. (codes "{" ++ t) ++ codes "\n") (sym (
    due_member f m1 refl
    ∙ ap (λ t. due_text f ++ t) (
    name_member name m2 h2
    ∙ ap (λ t. codes "\"name\":" ++ (quoted name ++ (codes "," ++ t))) (
    parameter_member p m3 h3
    ∙ ap (λ t. parameter_text p ++ t) (ran_member f m4 refl ∙ ap (λ t. ran_text f ++ t) (shown_written k x))
    )
    )
    ))

-- ---- the result of the canvas

module _ (rows : List Row) (at : ℕ → Shown) (all : AllShow rows at) where
  result_at : (k : ℕ) → result_json (row_of rows k) ≡ compact_text (at k).result
  result_at k = shows_result (row_of rows k) (at k) (all k)

  status_at : (k : ℕ) → row_status (row_of rows k) ≡ (at k).status
  status_at k = shows_status (row_of rows k) (at k) (all k)

  statuses_are : (ks : List ℕ) → statuses rows ks ≡ map (λ e. e.status) (map at ks)
  statuses_are [] = refl
  statuses_are (k ∷ ks) = ap (λ s. s ∷ statuses rows ks) (status_at k) ∙ ap (λ ss. (at k).status ∷ ss) (statuses_are ks)

  listed_written : (later : Bool) (ks : List ℕ) → listed_json later rows ks ++ codes "]" ≡ items_text later (items_wire (map (λ e. e.result) (map at ks)))
  listed_written later [] = refl
  listed_written later (k ∷ ks) =
      around (comma_if later) (result_json (row_of rows k)) (listed_json true rows ks) (codes "]")
      ∙ ap (λ x. comma_if later ++ (x ++ (listed_json true rows ks ++ codes "]"))) (result_at k)
      ∙ ap (λ x. comma_if later ++ (compact_text (at k).result ++ x)) (listed_written true ks)
    where
      around : (c r l e : Text) → (c ++ (r ++ l)) ++ e ≡ c ++ (r ++ (l ++ e))
      around c r l e = simp append_assoc

  list_around : (a l b m n e z : Text) → ((a ++ l) ++ b) ++ ((m ++ n) ++ (e ++ z)) ≡ (a ++ ((l ++ b) ++ (m ++ (n ++ e)))) ++ z
  list_around a l b m n e z = simp append_assoc

  one_around : (a r m n e z : Text) → (a ++ r) ++ ((m ++ n) ++ (e ++ z)) ≡ (a ++ (r ++ (m ++ (n ++ e)))) ++ z
  one_around a r m n e z = simp append_assoc

  -- the members from the result on
  abbrev end_members : Bool → List ℕ → Members
  end_members several ks =
      member (codes "result") (results_wire several (map (λ e. e.result) (map at ks)))
      (member (codes "status") (string (status_name (status_of_all (map (λ e. e.status) (map at ks))))) no_members)

  back_written : (several : Bool) (ks : List ℕ) → end_back several rows ks ≡ members_text false (end_members several ks) ++ codes "\n"
  unfolding serde_json_on_literals
  back_written true ks =
      let status = status_of_all (map (λ e. e.status) (map at ks)) in
      let results : Text = items_text false (items_wire (map (λ e. e.result) (map at ks))) in
      let front : Text = (codes "\"result\":[" ++ listed_json false rows ks) ++ codes "]" in
      let end : Text = codes ",\"status\":\"" ++ (status_name status ++ codes "\"}") in
      ap (λ x. front ++ ((codes ",\"status\":\"" ++ status_name (status_of_all x)) ++ codes "\"}\n")) (statuses_are ks)
      ∙ list_around (codes "\"result\":[") (listed_json false rows ks) (codes "]") (codes ",\"status\":\"") (status_name status) (codes "\"}") (codes "\n")
      ∙ ap (λ x. (codes "\"result\":[" ++ (x ++ end)) ++ codes "\n") (listed_written false ks)
      ∙ ap (λ x. (codes "\"result\":[" ++ (results ++ x)) ++ codes "\n") (sym (status_member status no_members))
  back_written false [] = refl
  back_written false (k ∷ ks) =
      let status = status_of_all (map (λ e. e.status) (map at (k ∷ ks))) in
      let front : Text = codes "\"result\":" ++ result_json (row_of rows k) in
      let end : Text = codes ",\"status\":\"" ++ (status_name status ++ codes "\"}") in
      ap (λ x. front ++ ((codes ",\"status\":\"" ++ status_name (status_of_all x)) ++ codes "\"}\n")) (statuses_are (k ∷ ks))
      ∙ one_around (codes "\"result\":") (result_json (row_of rows k)) (codes ",\"status\":\"") (status_name status) (codes "\"}") (codes "\n")
      ∙ ap (λ x. (codes "\"result\":" ++ (x ++ end)) ++ codes "\n") (result_at k)
      ∙ ap (λ x. (codes "\"result\":" ++ (compact_text (at k).result ++ x)) ++ codes "\n") (sym (status_member status no_members))

  identifiers_written : (later : Bool) (ks : List ℕ) → identifiers_json later ks ++ codes "]" ≡ items_text later (identifiers_wire ks)
  identifiers_written later [] = refl
  identifiers_written later (k ∷ ks) =
      around (comma_if later) (codes "\"") (task_text k) (codes "\"") (identifiers_json true ks) (codes "]")
      ∙ ap (λ x. comma_if later ++ (x ++ (identifiers_json true ks ++ codes "]"))) (sym (identifier k))
      ∙ ap (λ x. comma_if later ++ (quoted (task_text k) ++ x)) (identifiers_written true ks)
    where
      around : (c q t r l e : Text) → (c ++ (((q ++ t) ++ r) ++ l)) ++ e ≡ c ++ ((q ++ (t ++ r)) ++ (l ++ e))
      around c q t r l e = simp append_assoc

  again_member : (again : Option ℕ) (ms : Members) → IsFurther ms
      → members_text false (member_if (codes "again") (option_map count_wire again) ms) ≡ again_text again ++ members_text false ms
  unfolding serde_json_on_literals
  again_member None ms h = refl
  again_member (Some n) ms h =
      ap (λ x. codes "\"again\":" ++ (decimal n ++ x)) h
      ∙ ap (λ x. codes "\"again\":" ++ x) (sym (append_assoc (decimal n) (codes ",") (members_text false ms)))

  ends_member : (ks : List ℕ) (ms : Members) → IsFurther ms
      → members_text false (member (codes "ends") (array (identifiers_wire ks)) ms)
      ≡ codes "\"ends\":[" ++ (items_text false (identifiers_wire ks) ++ (codes "," ++ members_text false ms))
  unfolding serde_json_on_literals
  ends_member ks ms h = ap (λ x. codes "\"ends\":[" ++ (items_text false (identifiers_wire ks) ++ x)) h

  front_around : (a o i b c m n : Text) → (((a ++ o) ++ i) ++ (b ++ c)) ++ (m ++ n) ≡ (a ++ (o ++ ((i ++ b) ++ (c ++ m)))) ++ n
  front_around a o i b c m n = simp append_assoc

  end_written : (again : Option ℕ) (several : Bool) (ks : List ℕ)
      → end_text again several rows ks ≡ compact_text (end_wire again several ks (map at ks)) ++ codes "\n"
  unfolding serde_json_on_literals
  end_written again several ks =
      let rest : Members = end_members several ks in
      let its : Members = member (codes "ends") (array (identifiers_wire ks)) rest in
      let opened : Text = codes "{" ++ again_text again in
      ap (λ x. end_front again ks ++ x) (back_written several ks)
      ∙ front_around opened (codes "\"ends\":[") (identifiers_json false ks) (codes "]") (codes ",") (members_text false rest) (codes "\n")
      ∙ ap (λ x. (opened ++ (codes "\"ends\":[" ++ (x ++ (codes "," ++ members_text false rest)))) ++ codes "\n") (identifiers_written false ks)
      ∙ ap (λ x. (opened ++ x) ++ codes "\n") (sym (ends_member ks rest refl))
      ∙ ap (λ x. x ++ codes "\n") (append_assoc (codes "{") (again_text again) (members_text false its))
      ∙ ap (λ x. (codes "{" ++ x) ++ codes "\n") (sym (again_member again its refl))

-- one more identifier is written
pub identifiers_on : (ks : List ℕ) (i k : ℕ) (later : Bool) (t0 t1 t2 all : Text) → i < length ks → k ≡ get_or ks i k → t1 ≡ t0 ++ comma_if later
    → t2 ≡ t1 ++ (codes "\"" ++ task_text k ++ codes "\"") → t0 ++ identifiers_json later (drop i ks) ≡ all
    → t2 ++ identifiers_json true (drop (i + 1) ks) ≡ all
identifiers_on ks i k later t0 t1 t2 all inside is comma written so_far =
    let rest : Text = identifiers_json true (drop (i + 1) ks) in
    let own : Text = codes "\"" ++ task_text k ++ codes "\"" in
    ap (λ x. x ++ rest) (written ∙ ap (λ x. x ++ own) comma)
    ∙ around t0 (comma_if later) own rest
    ∙ ap (λ xs. t0 ++ identifiers_json later xs) (sym (item_first ks i k inside is))
    ∙ so_far
  where
    around : (t c o r : Text) → ((t ++ c) ++ o) ++ r ≡ t ++ (c ++ (o ++ r))
    around t c o r = simp append_assoc

-- ---- all of them

lines_written : (f : ℕ × Text → Text) (g : ℕ × Text → Data) → ((t : ℕ × Text) → f t ≡ compact_text (g t) ++ codes "\n")
    → (ts : List (ℕ × Text)) (more : List Data)
    → lines f ts ++ json_lines more ≡ json_lines (map g ts ++ more)
lines_written f g same [] more = refl
lines_written f g same (t ∷ ts) more =
    append_assoc (f t) (lines f ts) (json_lines more) ∙ ap (λ x. x ++ (lines f ts ++ json_lines more)) (same t)
    ∙ ap (λ x. (compact_text (g t) ++ codes "\n") ++ x) (lines_written f g same ts more)

pub rows_written : (fates : Fates) (parameter : ℕ → Option (Option Text)) (again : Option ℕ) (c : Tree) (rows : List Row) (at : ℕ → Shown)
    → AllShow rows at → lines (row_line fates parameter rows) (names_by_number c) ++ end_text again (ends_in_group c) rows (ends c)
    ≡ json_lines (rows_wire (fate_at fates) parameter again at c)
rows_written fates parameter again c rows at all =
    ap (λ x. lines (row_line fates parameter rows) (names_by_number c) ++ x)
    (end_written rows at all again (ends_in_group c) (ends c) ∙ sym (append-nil _))
    ∙ lines_written (row_line fates parameter rows) (λ t. row_wire (fate_at fates t.0) (parameter t.0) t (at t.0))
    (λ t. row_written (fate_at fates t.0) (parameter t.0) t (row_of rows t.0) (at t.0) (all t.0)) (names_by_number c)
    (end_wire again (ends_in_group c) (ends c) (map at (ends c)) ∷ [])

-- of a run
pub report_written : (fates : Fates) (blamed : List (ℕ × Option (String Global))) (again : Option ℕ) (c : Tree) (ss : List State) (rows : List Row)
    → rows ≡ map (λ s. row.Known s) ss
    → lines (row_line fates (parameter_of blamed) rows) (names_by_number c) ++ end_text again (ends_in_group c) rows (ends c)
    ≡ json_lines (report_wire fates blamed again c (rows_from 1 ss))
report_written fates blamed again c ss rows same =
    rows_written fates (parameter_of blamed) again c rows (λ k. shown (state_of k (rows_from 1 ss)))
    (λ k. subst (λ r. Shows r (shown (state_of k (rows_from 1 ss)))) (sym (ap (λ rs. row_of rs k) same ∙ row_state ss k)) refl)

-- the lines, and then the result
pub whole : (l : Line) (rows : List Row) (again : Option ℕ) (several : Bool) (ks : List ℕ) (t0 t1 t2 ls : Text) → t0 ≡ [] → t1 ≡ t0 ++ ls → ks ≡ ends_of l
    → several ≡ in_group l
    → t2 ≡ t1 ++ end_text again several rows ks
    → t2 ≡ ls ++ end_text again (ends_in_group (tree_of l)) rows (ends (tree_of l))
whole l rows again several ks t0 t1 t2 ls e0 e1 are is e2 =
    e2 ∙ ap (λ x. x ++ end_text again several rows ks) (e1 ∙ ap (λ x. x ++ ls) e0)
    ∙ ap (λ b. ls ++ end_text again b rows ks) (is ∙ in_group_tree l)
    ∙ ap (λ es. ls ++ end_text again (ends_in_group (tree_of l)) rows es) (are ∙ ends_of_tree l)
