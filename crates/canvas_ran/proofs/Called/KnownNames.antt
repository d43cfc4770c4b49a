-- The names of a plan's tasks, one after another, and fronts by number.
use Rattle.std.proofs.Common.{◌≡◌, ◌∙◌, ◌<◌, ◌≤◌, ◌-◌, ℕ, zero, suc, List, [], ◌∷◌, ◌++◌, drop, length, refl, sym, ap, subst, arith}
use Rattle.std.proofs.lemmas.List.{drop_all}
use Rattle.std.specs.Prelude.{Result, Ok, Err, slice_get, unwrap_or}
use Rattle.json.specs.Written.{Written}
use Rattle.json.specs.Token.{Token, end_array}
use Rattle.serde_json.specs.Data.{string}
use Rattle.canvas_task.specs.Text.{Text}
use Rattle.canvas_task.proofs.Turns.{put_part}
use Rattle.canvas_semantics.specs.Line.{name_at}
use Rattle.canvas_values.specs.steps.Tokens.{Appends, data_tokens, rest_tokens}
use Rattle.canvas_ran.specs.Calls.{names_wire}
use Rattle.canvas_ran.specs.Fronts.{front_of, known_front}
use Rattle.canvas_ran.specs.declared.calls.front.Front.{Front}

abbrev rest : List Text → List Token
rest ns = rest_tokens (names_wire ns)

name_there : (ns : List Text) (i : ℕ) → i < length ns → drop i ns ≡ unwrap_or (slice_get ns i) [] ∷ drop (suc i) ns
name_there [] i h = absurd (omega (arith, h))
name_there (n ∷ ns) zero h = refl
name_there (n ∷ ns) (suc i) h = name_there ns i (omega (arith, h))

-- one more name is written
pub name_on : (ns : List Text) (i j : ℕ) (before after all : List Token) → j ≡ suc i → i < length ns
    → after ≡ before ++ data_tokens (string (unwrap_or (name_at ns j) [])) → before ++ rest (drop i ns) ≡ all → after ++ rest (drop j ns) ≡ all
name_on ns i j before after all up inside written so_far =
    let split : rest (drop i ns) ≡ data_tokens (string (unwrap_or (name_at ns j) [])) ++ rest (drop j ns) =
    subst (λ m. rest (drop i ns) ≡ data_tokens (string (unwrap_or (name_at ns m) [])) ++ rest (drop m ns)) (sym up)
    (ap rest (name_there ns i inside)) in
    put_part before (data_tokens (string (unwrap_or (name_at ns j) []))) after (rest (drop i ns)) (rest (drop j ns)) all written split so_far

-- all are
pub names_end : (ns : List Text) (i : ℕ) (before all : List Token) → length ns ≤ i → before ++ rest (drop i ns) ≡ all → before ++ end_array ∷ [] ≡ all
names_end ns i before all past so_far = subst (λ xs. before ++ rest xs ≡ all) (drop_all i ns past) so_far

-- what is written at the end, where what stood before and what was to come are all
pub end_ok : {E : Type 0} (r : Result (Unit {0}) E) (old mid new : Written) (us all : List Token) → mid.tokens ++ us ≡ old.tokens ++ all
    → mid.before ≡ old.before → Appends r mid new us → Appends r old new all
end_ok (Ok x) old mid new us all is same second = (second.0 ∙ is, second.1 ∙ same)
end_ok (Err e) old mid new us all is same second = tt

-- ---- the front of a task, by its number

pub front_found : (found : List Front) (k n : ℕ) → n ≡ k → 1 ≤ n → known_front (slice_get found (n - 1)) ≡ front_of found k
front_found found zero n same some = absurd (omega (arith, same, some))
front_found found (suc k) n same some =
    let place : n - 1 ≡ k = omega (arith, same, some) in
    ap (λ i. known_front (slice_get found i)) place
