-- The bytes of a start's commands before the texts of its messages, and after them.
use Rattle.std.specs.Prelude.{◌≡◌, ℕ, List, ◌++◌, length, map}
use Rattle.canvas_task.specs.Text.{Text}
use Rattle.canvas_celery.specs.Envelope.{message_text}
use Rattle.canvas_celery.specs.Resp.{resp, words_bytes}
use Rattle.canvas_celery.specs.Signatures.{Naming}
use Rattle.canvas_celery.specs.declared.commands.around.Around.{Around}
use Rattle.canvas_celery.specs.declared.commands.parts.Parts.{Parts}

abbrev pub around_texts : Around → (texts : List Text) → Text
around_texts a texts = a.front.items ++ (words_bytes texts ++ a.back.items)

-- if there are n texts between them, they are the commands of these texts
abbrev pub Surrounds : Around → (n : ℕ) → (commands : List Text → List (List Text)) → Type 0
Surrounds a n commands =
    (texts : List Text) → length texts ≡ n → around_texts a texts ≡ resp (commands texts)

-- the bytes of a start whose messages are put on this queue
abbrev pub parts_bytes : Naming → (queue : Text) → Parts → Text
parts_bytes n queue p = around_texts p.around (map (message_text n queue) p.messages.items)
