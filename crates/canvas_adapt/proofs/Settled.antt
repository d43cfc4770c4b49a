-- What reading a text decides of adapting it.
use Rattle.std.proofs.Common.{◌≡◌, ◌≢◌, true, List, [], refl, sym, subst}
use Rattle.std.specs.Prelude.{Result, Ok, Err, MatchResult}
use Rattle.canvas_task.specs.Text.{Text}
use Rattle.canvas_semantics.specs.Tree.{Tree}
use Rattle.canvas_values.specs.declared.fault.SigFault.{SigFault}
use Rattle.canvas_values.specs.declared.fault.SigFault.TheVariants.{Memory}
use Rattle.canvas_adapt.specs.declared.adapting.Adapted.{Adapted}
use Rattle.canvas_adapt.specs.declared.printing.AdaptedText.{AdaptedText}
use Rattle.canvas_adapt.specs.declared.renames.Rename.{Rename}
use Rattle.canvas_adapt.specs.Adapting.{IsKept, IsKeptText, IsRefused, is_of_text, IsSettled, IsSettledText}

-- ---- canvases

pub canvas_settles : (r : Result Tree SigFault) (c : Tree) (made : Result Adapted SigFault) → r ≡ Ok c
    → MatchResult made (IsKept c) (λ e. e ≡ Memory) → IsSettled r made
canvas_settles r c made is h = subst (λ q. IsSettled q made) (sym is) h

pub memory_settles : (r : Result Tree SigFault) → IsSettled r (Err Memory)
memory_settles (Ok c) = refl
memory_settles (Err e) = λ whole other. absurd (other refl)

refused_settles : (e : SigFault) (made : Result Adapted SigFault) → (is_of_text e ≡ true → made ≡ Err e) → IsSettled (Err e) made
refused_settles e made h = λ whole. subst (IsRefused e) (sym (h whole)) (λ other. refl)

pub fault_settles : (r : Result Tree SigFault) (e : SigFault) (made : Result Adapted SigFault) → (e ≢ Memory → r ≡ Err e)
    → (is_of_text e ≡ true → made ≡ Err e) → IsSettled r made
fault_settles r Memory made is h = subst (IsSettled r) (sym (h refl)) (memory_settles r)
fault_settles r e made is h = subst (λ q. IsSettled q made) (sym (is (λ h. cc))) (refused_settles e made h)

-- ---- texts

pub text_settles : (rs : List Rename) (bytes : Text) (r : Result Tree SigFault) (c : Tree) (made : Result AdaptedText SigFault) → r ≡ Ok c
    → (rs ≡ [] → MatchResult made (IsKeptText bytes) (λ e. e ≡ Memory)) → IsSettledText rs bytes r made
text_settles rs bytes r c made is h = subst (λ q. IsSettledText rs bytes q made) (sym is) h

memory_settles_text : (rs : List Rename) (bytes : Text) (r : Result Tree SigFault) → IsSettledText rs bytes r (Err Memory)
memory_settles_text rs bytes (Ok c) = λ none. refl
memory_settles_text rs bytes (Err e) = λ whole other. absurd (other refl)

refused_settles_text : (rs : List Rename) (bytes : Text) (e : SigFault) (made : Result AdaptedText SigFault) → (is_of_text e ≡ true → made ≡ Err e)
    → IsSettledText rs bytes (Err e) made
refused_settles_text rs bytes e made h = λ whole. subst (IsRefused e) (sym (h whole)) (λ other. refl)

pub text_fault_settles : (rs : List Rename) (bytes : Text) (r : Result Tree SigFault) (e : SigFault) (made : Result AdaptedText SigFault)
    → (e ≢ Memory → r ≡ Err e) → (is_of_text e ≡ true → made ≡ Err e) → IsSettledText rs bytes r made
text_fault_settles rs bytes r Memory made is h = subst (IsSettledText rs bytes r) (sym (h refl)) (memory_settles_text rs bytes r)
text_fault_settles rs bytes r e made is h =
    subst (λ q. IsSettledText rs bytes q made) (sym (is (λ h. cc))) (refused_settles_text rs bytes e made h)
