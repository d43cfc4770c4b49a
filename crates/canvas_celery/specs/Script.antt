-- A start as one script: Redis runs `EVAL script numkeys key .. arg ..` atomically (Redis: EVAL,
-- Scripting with Lua). The script is a constant: `tools/try-celery` tries what Redis does by it,
-- which isn't proved.
use Rattle.std.specs.Prelude.{ℕ, ◌+◌, List, [], ◌∷◌, ◌++◌, length, map, Option, Some, None, decimal, codes}
use Rattle.canvas_task.specs.Text.{Text}
use Rattle.canvas_celery.specs.Setting.{Setting}
use Rattle.canvas_celery.specs.Keys.{size_key, marker_key}

-- It sets no key if its last argument isn't `whole`, as in a truncated text, if the server lacks a
-- database, if the queue's key is set and is not a list, or if the run's marker is set. Else it
-- sets the chords' sizes and the run's marker, and last puts the messages on the queue. Its keys
-- are the marker, the queue and those of the sizes. Its arguments are how long sizes are kept, the
-- databases of the results and of the queue, the sizes, the messages, and `whole`.
abbrev pub script : Text
script =
    codes "if ARGV[#ARGV] ~= 'whole' then\n"
    ++ (codes "  return redis.error_reply('CUT nothing was started: the text was cut')\n"
    ++ (codes "end\n"
    ++ (codes "local function at(database)\n"
    ++ (codes "  if database ~= '' then redis.call('SELECT', database) end\n"
    ++ (codes "end\n"
    ++ (codes "at(ARGV[3])\n"
    ++ (codes "local kind = redis.call('TYPE', KEYS[2]).ok\n"
    ++ (codes "if kind ~= 'none' and kind ~= 'list' then\n"
    ++ (codes "  return redis.error_reply('QUEUE nothing was started: the key of the queue is no list')\n"
    ++ (codes "end\n"
    ++ (codes "at(ARGV[2])\n"
    ++ (codes "if redis.call('EXISTS', KEYS[1]) == 1 then\n"
    ++ (codes "  return redis.error_reply('STARTED nothing was started: this run was started before')\n"
    ++ (codes "end\n"
    ++ (codes "for i = 3, #KEYS do redis.call('SETEX', KEYS[i], ARGV[1], ARGV[i + 1]) end\n"
    ++ (codes "redis.call('SET', KEYS[1], 'started')\n"
    ++ (codes "at(ARGV[3])\n"
    ++ (codes "for i = #KEYS + 2, #ARGV - 1 do redis.call('LPUSH', KEYS[2], ARGV[i]) end\n"
    ++ codes "return #ARGV - #KEYS - 2\n"))))))))))))))))))

-- the databases of the results and of the queue; empty words if none is chosen
abbrev pub database_words : Option (ℕ × ℕ) → List Text
database_words None = [] ∷ [] ∷ []
database_words (Some d) = decimal d.1 ∷ decimal d.0 ∷ []

abbrev pub script_keys : (run : Text) → Setting → (sizes : List (ℕ × ℕ)) → List Text
script_keys run s sizes =
    marker_key run s.prefix ∷ s.queue ∷ map (λ z. size_key run s.prefix z.0) sizes

abbrev pub script_arguments : Setting → (sizes : List (ℕ × ℕ)) → (messages : List Text) → List Text
script_arguments s sizes messages =
    decimal s.expires ∷ (database_words s.databases
    ++ (map (λ z. decimal z.1) sizes ++ (messages ++ codes "whole" ∷ [])))

abbrev pub script_command : (run : Text) → Setting → (sizes : List (ℕ × ℕ)) → (messages : List Text)
    → List Text
script_command run s sizes messages =
    codes "EVAL" ∷ script ∷ decimal (length sizes + 2)
    ∷ (script_keys run s sizes ++ script_arguments s sizes messages)
