-- A stub that is written is read.
use Rattle.std.proofs.Common.{◌≡◌, zero, suc, true, [], ◌∷◌, Some, Ok, refl, sym, ap, ◌∙◌, arith, eq-eqb, true≢false}
use Rattle.std.specs.Prelude.{◌==◌, not}
use Rattle.std.specs.List.{list_all}
use Rattle.canvas_task.specs.Text.{Text}
use Rattle.canvas_task.specs.Builtin.{word}
use Rattle.canvas_task.specs.Name.{name_ok}
use Rattle.canvas_task.proofs.BuiltinLaw.{known_word, no_equals}
use Rattle.canvas_task.specs.declared.outcome.Kind.{Kind}
use Rattle.canvas_task.specs.declared.outcome.Kind.TheVariants.{BadCall, ZeroDivision, Overflow, NotRegistered}
use Rattle.canvas_adapt.specs.declared.stubs.stub.Does.{Does}
use Rattle.canvas_adapt.specs.declared.stubs.stub.Does.TheVariants.{SameAs, Gives, Raises}
use Rattle.canvas_adapt.specs.declared.stubs.stub.Stub.{Stub}
use Rattle.canvas_adapt.specs.StubLaws.{IsWritable, in_bounds}
use Rattle.canvas_adapt.specs.StubTexts.{parts_reading, stub_reading, stub_text, with_name, word_reading, word_text}
use Rattle.canvas_adapt.proofs.Stubbing.Splits.{Lacks, split_back}
use Rattle.canvas_adapt.proofs.Stubbing.WordNumbers.{both_left, both_right}
use Rattle.canvas_adapt.proofs.Stubbing.WrittenNumbers.{number_back, number_free}

-- ---- no word has an `=`

free : (text : Text) → list_all (λ b. not (b == 61)) text ≡ true → Lacks text
free [] h i l at = absurd (omega arith)
free (b ∷ bs) h zero l at =
    true≢false (sym (both_left (not (b == 61)) (list_all (λ b. not (b == 61)) bs) h) ∙ ap not (eq-eqb b 61 at))
free (b ∷ bs) h (suc i) l at =
    free bs (both_right (not (b == 61)) (list_all (λ b. not (b == 61)) bs) h) i (omega arith) at

word_free : (does : Does) → in_bounds does ≡ true → Lacks (word_text does)
word_free (SameAs task) h = free (word task) (no_equals task)
word_free (Gives n) h = number_free n h
word_free (Raises BadCall) h = free (word_text (Raises BadCall)) refl
word_free (Raises ZeroDivision) h = free (word_text (Raises ZeroDivision)) refl
word_free (Raises Overflow) h = free (word_text (Raises Overflow)) refl
word_free (Raises NotRegistered) h = free (word_text (Raises NotRegistered)) refl

-- ---- the word

kind_back : (kind : Kind) → word_reading (word_text (Raises kind)) ≡ Ok (Raises kind)
kind_back BadCall = refl
kind_back ZeroDivision = refl
kind_back Overflow = refl
kind_back NotRegistered = refl

word_back : (does : Does) → in_bounds does ≡ true → word_reading (word_text does) ≡ Ok does
word_back (SameAs task) h = rw (known_word task) refl
word_back (Gives n) h = number_back n h
word_back (Raises kind) h = kind_back kind

-- ---- both

parts_back : (name word : Text) (does : Does) → name_ok name ≡ true → word_reading word ≡ Ok does
    → parts_reading (Some (name, word)) ≡ Ok (record { name = name; does = does })
parts_back name word does h k = rw h (ap (with_name name) k)

pub reads_back : (s : Stub) → IsWritable s → stub_reading (stub_text s) ≡ Ok s
reads_back s h =
    ap parts_reading (split_back s.name (word_text s.does) (word_free s.does h.bounded))
    ∙ parts_back s.name (word_text s.does) s.does h.named (word_back s.does h.bounded)
