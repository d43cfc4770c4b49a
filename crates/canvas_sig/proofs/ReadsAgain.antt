-- The text that a canvas is written as is refused by nothing, and reads as the canvas.
use Rattle.std.proofs.Common.{◌≡◌, ℕ, suc, ◌≤◌, pos, negsuc, List, length, Option, Some, None, Result, Ok, Err, IfOk, String, Global, string_bytes, refl, sym, ap, ap₂, ◌∙◌, arith}
use Rattle.std.specs.Prelude.{if◌then◌else◌}
use Rattle.std.specs.Str.{IsUtf8}
use Rattle.std.proofs.lemmas.Bool.{le-ltb}
use Rattle.std.proofs.lemmas.Str.{is_utf8-from_IsUtf8, IsUtf8-string_bytes}
use Rattle.json.specs.Tree.{HasNumbers, ItemsHaveNumbers, MembersHaveNumbers, json_tokens}
use Rattle.json.specs.Lex.{tokens}
use Rattle.json.specs.Print.{IsNumber}
use Rattle.json.proofs.Printed.Decimals.{IsNumber-decimal, IsNumber-signed_decimal}
use Rattle.json.proofs.Printed.Tokens.{tokens-print}
use Rattle.json.proofs.Printed.Trees.{ArePrintable-json_tokens}
use Rattle.serde_json.specs.Data.{Num, unsigned, negative, float, Data, null, boolean, number, string, array, object, Items, no_items, item, Members, no_members, member, depth}
use Rattle.serde_json.specs.Read.{read, max_depth}
use Rattle.serde_json.specs.Written.{number_text, outline, items_outline, members_outline, compact_text}
use Rattle.serde_json.proofs.Texts.{print-outline}
use Rattle.canvas_values.specs.declared.fault.SigFault.{SigFault}
use Rattle.canvas_values.specs.CanvasText.{most_bytes, json_of, text_reading}
use Rattle.canvas_sig.specs.steps.Clean.{IsWholeNumber, IsClean, AreClean, MembersClean, behind_members}
use Rattle.canvas_values.specs.Refusals.{signature_fault, tree_said}
use Rattle.canvas_values.specs.LimitRefusals.{tree_fault}
use Rattle.canvas_values.specs.Answers.{judged}
use Rattle.canvas_values.specs.steps.Reading.{tree_reading}
use Rattle.canvas_semantics.specs.Tree.{Tree}
use Rattle.canvas_values.specs.Writable.{IsCanvas}
use Rattle.canvas_values.specs.Writing.{tree_wire}
use Rattle.canvas_sig.proofs.CleanWire.{tree_clean, tree_depth}
use Rattle.canvas_values.proofs.Depth.{fault_enough, tree_enough}
use Rattle.canvas_values.proofs.Law.{tree_judged}
use Rattle.canvas_values.proofs.Fits.{canvas_fits, canvas_within}
use Rattle.canvas_values.proofs.Shallow.{shallow}
use Rattle.canvas_sig.proofs.RoundTrip.{tree_back}
use Rattle.canvas_sig.proofs.WholeText.{text_again}

-- ---- the text reads as the value

whole_number : (n : Num) → IsWholeNumber n → IsNumber (number_text n)
whole_number (unsigned n) h = IsNumber-decimal n h
whole_number (negative (pos n)) h = absurd h
whole_number (negative (negsuc n)) h = IsNumber-signed_decimal (negsuc n) h
whole_number (float x) h = absurd h

mutual
  clean_numbers : (d : Data) → IsClean d → HasNumbers (outline d)
  clean_numbers null h = tt
  clean_numbers (boolean b) h = tt
  clean_numbers (number n) h = whole_number n h
  clean_numbers (string s) h = tt
  clean_numbers (array ds) h = items_numbers ds h
  clean_numbers (object ms) h = members_numbers no_members ms h

  items_numbers : (ds : Items) → AreClean ds → ItemsHaveNumbers (items_outline ds)
  items_numbers no_items h = tt
  items_numbers (item d ds) h = (clean_numbers d h.0, items_numbers ds h.1)

  members_numbers : (before ms : Members) → MembersClean before ms → MembersHaveNumbers (members_outline ms)
  members_numbers before no_members h = tt
  members_numbers before (member k d ms) h = (clean_numbers d h.1, members_numbers (behind_members before k d) ms h.2)

pub text_read : (d : Data) → IsClean d → depth d ≤ max_depth → read (compact_text d) ≡ Some d
text_read d clean low =
    text_again d (compact_text d) clean low
    (ap tokens (sym (print-outline d)) ∙ tokens-print (json_tokens (outline d)) (ArePrintable-json_tokens (outline d) (clean_numbers d clean)))

-- ---- no refusal

judged_ok : {A : Type 0} (f : Option SigFault) (x y : A) → judged f x ≡ Ok y → (f ≡ None) × (x ≡ y)
judged_ok None x y h = (refl, cc)
judged_ok (Some e) x y h = absurd cc

reads_as : (t : Tree) (d : Data) → depth d ≤ max_depth → tree_reading (suc max_depth) d ≡ Ok t → (signature_fault d ≡ None) × (tree_said d ≡ t)
reads_as t d low h =
    judged_ok (signature_fault d) (tree_said d) t
    (sym (tree_judged (suc max_depth) d ∙ ap₂ judged (fault_enough (suc max_depth) d (omega (arith, low))) (tree_enough (suc max_depth) d (omega (arith, low))))
    ∙ h)

no_refusal : (t : Tree) (d : Data) (text : List ℕ) → length text ≤ most_bytes → json_of text ≡ Some d → signature_fault d ≡ None → tree_said d ≡ t
    → tree_fault t ≡ None
    → text_reading text ≡ Ok t
no_refusal t d text short json first spells within =
    rw (le-ltb most_bytes (length text) short, json, first, spells, within) refl

pub reads_again : (t : Tree) (text : List ℕ) → IsCanvas t → text ≡ compact_text (tree_wire t) → IsUtf8 text → length text ≤ most_bytes
    → text_reading text ≡ Ok t
reads_again t text canvas is utf8 short =
    let fits = canvas_fits t canvas in
    let within = canvas_within t canvas in
    let low = (shallow t within).0 in
    let d = tree_wire t in
    let near : depth d ≤ max_depth = omega (arith, tree_depth t) in
    let json : json_of text ≡ Some d =
    ap (λ b. if b then read text else None) (is_utf8-from_IsUtf8 text utf8) ∙ ap read is ∙ text_read d (tree_clean t fits) near in
    let spelled = reads_as t d near (tree_back (suc max_depth) t fits (omega arith)) in
    no_refusal t d text short json spelled.0 spelled.1 within

-- What a writer of the tree u returned reads as the canvas that u is.
pub written_again : {E : Type 0} (r : Result (String Global) E) (u t : Tree) → u ≡ t → IsCanvas t → IfOk r (λ s. string_bytes s ≡ compact_text (tree_wire u))
    → IfOk r (λ s. length (string_bytes s) ≤ most_bytes → text_reading (string_bytes s) ≡ Ok t)
written_again (Ok s) u t same canvas is =
    λ short. reads_again t (string_bytes s) canvas (is ∙ ap (λ x. compact_text (tree_wire x)) same) (IsUtf8-string_bytes s) short
written_again (Err e) u t same canvas is = tt
