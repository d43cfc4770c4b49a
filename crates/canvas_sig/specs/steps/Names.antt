-- Ascending names (in Unicode's order of code points, which is that of UTF-8's bytes), and members
-- sorted by them.
use Rattle.std.specs.Prelude.{◌≡◌, ◌<◌, ◌≤◌, ℕ, List, [], ◌∷◌, Option, Some, None, length, take, drop}
use Rattle.std.specs.Ordering.{nat_cmp}
use Rattle.std.specs.Cmp.Lexicographic.{slice_cmp}
use Rattle.std.specs.declared.cmp.Ordering.TheVariants.{Less, Equal, Greater}
use Rattle.serde_json.specs.Data.{Members, put}
use Rattle.std.specs.Borrow.{Bor}
use Rattle.canvas_task.specs.Text.{Text}
use Rattle.canvas_sig.specs.Datum.{view}
use Rattle.canvas_sig.specs.declared.datum.Datum.{Datum}

-- the last name, if there is one, is less than this one
abbrev pub IsBelow : Option Text → Text → Type 0
IsBelow None k = Unit {0}
IsBelow (Some l) k = slice_cmp nat_cmp l k ≡ Less

-- the members, inserted one after the other, each by its name
abbrev pub put_all : List (Bor Text × Datum) → Members → Members
put_all [] ms = ms
put_all (e ∷ es) ms = put_all es (put e.0.now (view e.1) ms)

-- each of the names is less than this one
abbrev pub AllBelow : List (Bor Text × Datum) → Text → Type 0
AllBelow [] k = Unit {0}
AllBelow (e ∷ es) k = (slice_cmp nat_cmp e.0.now k ≡ Less) × AllBelow es k

-- the first of them exists and has this name
abbrev pub BeginsWith : List (Bor Text × Datum) → Text → Type 0
BeginsWith [] k = ⊥
BeginsWith (e ∷ es) k = slice_cmp nat_cmp e.0.now k ≡ Equal

-- the first of them, if there is one, is greater than this name
abbrev pub BeginsBehind : List (Bor Text × Datum) → Text → Type 0
BeginsBehind [] k = Unit {0}
BeginsBehind (e ∷ es) k = slice_cmp nat_cmp e.0.now k ≡ Greater

-- the member of this index has the name, and those before it are less
abbrev pub StandsAt : List (Bor Text × Datum) → Text → ℕ → Type 0
StandsAt es k i = (i < length es) × AllBelow (take i es) k × BeginsWith (drop i es) k

-- none of them has the name, which belongs before this index
abbrev pub BelongsAt : List (Bor Text × Datum) → Text → ℕ → Type 0
BelongsAt es k i = (i ≤ length es) × AllBelow (take i es) k × BeginsBehind (drop i es) k
