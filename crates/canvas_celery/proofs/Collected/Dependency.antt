-- The parts of a ChordError's message.
use Rattle.std.proofs.Common.{◌≡◌, ◌∙◌, ◌==◌, ℕ, ◌+◌, ◌≤◌, arith, ◌++◌, length, length-append, take, drop, sym, ap, codes}
use Rattle.std.proofs.lemmas.List.{take-append-drop, append_cancel_left, take_at, drop_at}
use Rattle.std.specs.List.{before_first}
use Rattle.canvas_task.specs.Text.{Text}
use Rattle.canvas_task.specs.Printed.{why_name}
use Rattle.canvas_task.specs.declared.outcome.Why.{Why}
use Rattle.canvas_celery.specs.Run.{run_task}
use Rattle.canvas_celery.specs.Stored.{Blames}
use Rattle.canvas_celery.specs.AsStored.{Names}
use Rattle.canvas_celery.proofs.Collected.Identifiers.{length-run_task}

pub in_parts : (start text id mark raised message : Text) (n : ℕ) → message ≡ start ++ text → take n text ≡ id → drop n text ≡ mark ++ raised
    → message ≡ start ++ (id ++ (mark ++ raised))
in_parts start text id mark raised message n whole front back =
    let parts : text ≡ id ++ (mark ++ raised) = sym (take-append-drop n text) ∙ (ap (λ t. t ++ drop n text) front ∙ ap (λ t. id ++ t) back) in
    whole ∙ ap (λ t. start ++ t) parts

-- a message that names a task has its parts, as they are read
pub record Parts (run text : Text) (count dep : ℕ) (name : Text) : Type 0 where
  pub least : 1 ≤ dep
  pub within : dep ≤ count
  pub long : 36 ≤ length text
  pub named : take 36 text ≡ run_task run dep
  pub raised : (raised : Text) × (drop 36 text ≡ codes " raised " ++ raised) × (before_first (λ b. b == 40) raised ≡ name)

pub parts_of : (run text message : Text) (count dep : ℕ) (name : Text) → length run ≡ 22 → message ≡ codes "Dependency " ++ text → Names run count message dep name
    → Parts run text count dep name
parts_of run text message count dep name full whole (least, within, (raised, said, is)) =
    let id = run_task run dep in
    let rest = codes " raised " ++ raised in
    let as_long : length id ≡ 36 = length-run_task run dep full in
    let same : text ≡ id ++ rest = append_cancel_left (codes "Dependency ") text (id ++ rest) (sym whole ∙ said) in
    record {
      least = least;
      within = within;
      long = (let both : length text ≡ length id + length rest = ap (λ t. length t) same ∙ length-append id rest in omega arith);
      named = ap (λ t. take 36 t) same ∙ take_at id rest 36 as_long;
      raised = (raised, ap (λ t. drop 36 t) same ∙ drop_at id rest 36 as_long, is);
    }

-- two readings of what was raised have one name
pub same_name : (raised other name : Text) → codes " raised " ++ other ≡ codes " raised " ++ raised → before_first (λ b. b == 40) other ≡ name
    → before_first (λ b. b == 40) raised ≡ name
same_name raised other name e is = ap (λ t. before_first (λ b. b == 40) t) (sym (append_cancel_left (codes " raised ") other raised e)) ∙ is

-- a message names one class
pub one_name : (run message : Text) (count dep other : ℕ) (a b : Text) → length run ≡ 22
    → Names run count message dep a → Names run count message other b → a ≡ b
one_name run message count dep other a b full first second =
    let text = run_task run dep ++ (codes " raised " ++ first.2.0) in
    let f = parts_of run text message count dep a full first.2.1 first in
    let s = parts_of run text message count other b full first.2.1 second in
    sym (same_name s.raised.0 f.raised.0 a (sym f.raised.1 ∙ s.raised.1) f.raised.2) ∙ s.raised.2

-- blaming is naming one of the built-in tasks' exceptions, or a ChordError
pub blames_one : (run message : Text) (count dep : ℕ) (name : Text) (why : Why)
    → Names run count message dep name → name ≡ why_name why → Blames run count message dep why
blames_one run message count dep name why n e = (n.0, n.1, (n.2.0, n.2.1, n.2.2 ∙ e))
