-- When a core is at its end, and that it stays there.
use Rattle.std.specs.Prelude.{◌≡◌, false, List, [], ◌∷◌, ◌++◌, None}
use Rattle.canvas_task.specs.Apply.{Behaviour}
use Rattle.canvas_envelope.specs.declared.envelope.Envelope.{Envelope}
use Rattle.canvas_runs.specs.Book.{Book}
use Rattle.canvas_history.specs.Queue.{publish}
use Rattle.canvas_runs.specs.Core.{failed, end, rest, to_queue, rested, refused}
use Rattle.canvas_core.specs.Asks.{Asked, Answer, suits}
use Rattle.canvas_core.specs.Books.{HasMembers, IsFromOne}
use Rattle.canvas_core.specs.CorePast.{Leads}
use Rattle.canvas_core.specs.CoreState.{CoreView, asked, next, failing, held_out, handed}
use Rattle.canvas_core.specs.declared.ask.Reply.{Reply}

-- A core at its end stays there: no reply suits it, and it hands out no envelope.
abbrev pub EndStays : Type 0
EndStays =
    (s : CoreView) → asked s.left ≡ end
    → ((r : Reply) → suits (next s) r ≡ false) × (held_out s ≡ None)
    × (asked (handed s).left ≡ end)

-- a core that was refused memory is at its end
abbrev pub FailingEnds : Type 0
FailingEnds = (s : CoreView) → asked (failing s).left ≡ end

-- the ask and the answer that end a core: a rest answered with no more, and a publish that was
-- refused
abbrev pub EndsACore : Asked → Answer → Type 0
EndsACore rest (rested false) = Unit {0}
EndsACore (to_queue (publish e)) refused = Unit {0}
EndsACore a r = ⊥

-- A core whose book has all members is at its end only after memory was refused, after a rest that
-- was answered with no more, or after a publish that was refused.
abbrev pub EndsBehind : Type 0
EndsBehind =
    (behaviour : Behaviour) (book : Book) → HasMembers book → IsFromOne book
    → (xs : List (Asked × Answer)) (s : CoreView)
    → Leads behaviour book xs s → asked s.left ≡ end
    → (ys : List (Asked × Answer)) × (x : Asked × Answer) × (xs ≡ ys ++ x ∷ []) × EndsACore x.0 x.1

-- and a publish that was refused is the only answer after which it has failed
abbrev pub FailsBehind : Type 0
FailsBehind =
    (behaviour : Behaviour) (book : Book) → HasMembers book → IsFromOne book
    → (xs : List (Asked × Answer)) (s : CoreView)
    → Leads behaviour book xs s → s.left ≡ failed
    → (ys : List (Asked × Answer)) × (e : Envelope)
    × (xs ≡ ys ++ (to_queue (publish e), refused) ∷ [])
