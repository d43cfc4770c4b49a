-- A start as a transaction: the commands between MULTI and EXEC are run atomically or, if EXEC
-- doesn't come, not at all (Redis: Transactions).
use Rattle.std.specs.Prelude.{ℕ, List, [], ◌∷◌, ◌++◌, map, Option, Some, None, decimal, codes}
use Rattle.canvas_task.specs.Text.{Text}
use Rattle.canvas_celery.specs.Setting.{Setting}
use Rattle.canvas_celery.specs.Keys.{size_key}

-- the size of a chord is kept for `expires` seconds
abbrev pub size_command : (run prefix : Text) → (expires : ℕ) → ℕ × ℕ → List Text
size_command run prefix expires s =
    codes "SETEX" ∷ size_key run prefix s.0 ∷ decimal expires ∷ decimal s.1 ∷ []

abbrev pub select : ℕ → List Text
select database = codes "SELECT" ∷ decimal database ∷ []

-- the databases of the broker and of the backend, if they are chosen
abbrev pub select_backend : Option (ℕ × ℕ) → List (List Text)
select_backend None = []
select_backend (Some d) = select d.1 ∷ []

abbrev pub select_broker : Option (ℕ × ℕ) → List (List Text)
select_broker None = []
select_broker (Some d) = select d.0 ∷ []

-- the commands before the messages
abbrev pub sizes_between : (run : Text) → Setting → (sizes : List (ℕ × ℕ)) → List (List Text)
sizes_between run p sizes =
    select_backend p.databases
    ++ (map (λ s. size_command run p.prefix p.expires s) sizes ++ select_broker p.databases)

abbrev pub transaction : (run : Text) → Setting → (sizes : List (ℕ × ℕ)) → (messages : List Text)
    → List (List Text)
transaction run p sizes messages =
    (codes "MULTI" ∷ []) ∷ (sizes_between run p sizes
    ++ ((codes "LPUSH" ∷ p.queue ∷ messages) ∷ (codes "EXEC" ∷ []) ∷ []))
