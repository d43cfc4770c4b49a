-- What calls of a table that one thread holds leave of who has an outcome, and whose part was returned.
use Rattle.std.proofs.Common.{◌≡◌, ◌≢◌, ◌==◌, ℕ, true, false, cond, Option, Some, None, refl, sym, ap, ◌∙◌, eq-eqb, ne_eqb}
use Rattle.canvas_task.specs.declared.outcome.Outcome.{Outcome}
use Rattle.canvas_history.specs.Table.{store, part, TableReply, Results, kept_or}
use Rattle.canvas_backend.specs.Plain.{PlainView, held, IsPlainCall}

some_kept : (x : Option Outcome) (o : Outcome) → kept_or x o ≡ None → ⊥
some_kept None o e = absurd (cc)
some_kept (Some p) o e = absurd (cc)

-- a stored task has an outcome
pub has_outcome : (old new : PlainView) (t : ℕ) (o : Outcome) (r : TableReply) → IsPlainCall old new (store t o) r → (held new).outcomes t ≢ None
has_outcome old new t o r k none =
    let x : Option Outcome = (held old).outcomes t in
    let is : (held new).outcomes t ≡ kept_or x o = ap (λ (s : Results). s.outcomes t) k.after ∙ ap (λ b. cond b (kept_or x o) x) (eq-eqb t t refl) in
    some_kept x o (sym is ∙ none)

-- a store returns nothing, and a part only one task
pub store_keeps : (old new : PlainView) (t : ℕ) (o : Outcome) (r : TableReply) (u : ℕ) → IsPlainCall old new (store t o) r → (held old).returned u ≡ false
    → (held new).returned u ≡ false
store_keeps old new t o r u k free = ap (λ (s : Results). s.returned u) k.after ∙ free

pub part_keeps : (old new : PlainView) (g t : ℕ) (r : TableReply) (u : ℕ) → u ≢ t → IsPlainCall old new (part g t) r → (held old).returned u ≡ false
    → (held new).returned u ≡ false
part_keeps old new g t r u apart k free =
    ap (λ (s : Results). s.returned u) k.after ∙ (ap (λ b. cond b true ((held old).returned u)) (ne_eqb u t apart) ∙ free)
