use Rattle.std.proofs.Common.{◌≡◌, ℕ, List, ◌++◌, ◌+◌, ◌*◌, ◌≤◌, length}
use Rattle.json.specs.Json.{items, members, value, parse_map}
use Rattle.serde_json.specs.Data.{no_members}
use Rattle.serde_json.specs.Read.{of_items, of_members, converted}
use Rattle.canvas_sig.specs.steps.Names.{put_all}
use Rattle.canvas_sig.proofs.Parsed.{Named, items_before}
use Rattle.canvas_sig.proofs.parsing.+read.Given as goal

abbrev pub decreases-read_value : goal.decreases-read_value
decreases-read_value l = 3 * l.left + 1

abbrev pub decreases-read_nested : goal.decreases-read_nested
decreases-read_nested l = 3 * l.left

abbrev pub decreases-read_items : goal.decreases-read_items
decreases-read_items l = 3 * l.left + 2

abbrev pub decreases-read_members : goal.decreases-read_members
decreases-read_members l = 3 * l.left + 2

abbrev pub invariant-read_items-items : goal.invariant-read_items-items
invariant-read_items-items l =
    (n : ℕ) × (length l.reader ≤ n)
    × (converted of_items (items (value l.left) (length l.initial.reader) l.initial.reader) ≡ parse_map (items_before l.found.items)
    (converted of_items (items (value l.left) n l.reader)))
    × (length l.reader ≤ length l.initial.reader)
    × (l.stack.items ≡ l.initial.stack.items)

abbrev pub decreases-read_items-items : goal.decreases-read_items-items
decreases-read_items-items l = length l.reader

abbrev pub invariant-read_members-members : goal.invariant-read_members-members
invariant-read_members-members l =
    (n : ℕ) × (found : List Named) × (length l.reader ≤ n)
    × (converted (λ ms. of_members ms no_members) (members (value l.left) (length l.initial.reader) l.initial.reader)
    ≡ converted (λ ms. of_members ms (put_all found no_members)) (members (value l.left) n l.reader))
    × (length l.reader ≤ length l.initial.reader)
    × (l.stack.items ≡ l.initial.stack.items ++ found)

abbrev pub decreases-read_members-members : goal.decreases-read_members-members
decreases-read_members-members l = length l.reader
