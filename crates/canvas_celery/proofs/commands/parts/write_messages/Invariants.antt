use Rattle.std.proofs.Common.{◌≡◌, ℕ, List, ◌++◌, Some, map, take, drop}
use Rattle.std.specs.Io.KnownBytes.{Appends}
use Rattle.canvas_celery.specs.Resp.{words_bytes}
use Rattle.canvas_celery.specs.ExportView.{naming}
use Rattle.canvas_celery.specs.Envelope.{message_text}
use Rattle.canvas_celery.specs.MessageReading.{IsSound, read_message}
use Rattle.canvas_celery.specs.Sizeless.{sizeless}
use Rattle.canvas_celery.proofs.commands.parts.write_messages.Given as goal

-- what was written so far, and the texts to come
abbrev pub invariant-loop-message : goal.invariant-loop-message
invariant-loop-message g l =
    ((bytes : List ℕ) × Appends (g.W.Write.contents l.fn.out) (g.W.Write.contents l.out) bytes
    × (bytes ++ words_bytes (map (message_text (naming l.names) l.queue) (drop l.message-index l.messages))
    ≡ words_bytes (map (message_text (naming l.names) l.queue) l.messages)))
    × (IsSound (naming l.names) → map (λ m. read_message (message_text (naming l.names) l.queue m)) (take l.message-index l.messages)
    ≡ map (λ m. Some (sizeless m)) (take l.message-index l.messages))
