-- Stubs from one text more.
use Rattle.std.proofs.Common.{◌≡◌, ℕ, ◌+◌, ◌<◌, List, [], ◌∷◌, Bor, Ok, drop, get_or, length, map, sym, ap, ◌∙◌, add-one}
use Rattle.std.proofs.Math.Seq.{drop-cons}
use Rattle.canvas_task.specs.Text.{Text}
use Rattle.canvas_adapt.specs.StubTexts.{added, read_on, stubs_from}
use Rattle.canvas_adapt.specs.declared.stubs.stub.Stub.{Stub}

abbrev pub read : List (Bor Text) → List Text
read texts = map (λ (t : Bor Text). t.now) texts

-- the item past the end of a list of texts
abbrev pub nothing : Bor Text
nothing = record { ref_ptr = (0, 0); now = [] }

-- the text at a place, and the texts that are left there
abbrev pub text_at : List (Bor Text) → ℕ → Text
text_at texts k = (get_or texts k nothing).now

pub next_text : (texts : List (Bor Text)) (k : ℕ) → k < length texts
    → read (drop k texts) ≡ text_at texts k ∷ read (drop (k + 1) texts)
next_text texts k h =
    ap read (drop-cons texts k nothing h) ∙ ap (λ j. text_at texts k ∷ read (drop j texts)) (sym (add-one k))

pub one_more : (k : ℕ) (stubs new : List Stub) (t : Text) (ts : List Text) → added stubs t ≡ Ok new
    → stubs_from k stubs (t ∷ ts) ≡ stubs_from (k + 1) new ts
one_more k stubs new t ts e = ap (λ r. read_on k r (λ more. stubs_from (k + 1) more ts)) e
