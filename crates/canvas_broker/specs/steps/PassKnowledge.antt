-- What a pass keeps of the history, and the numbers that name a queue.
use Rattle.std.specs.Global.{Global}
use Rattle.crossbeam_queue.specs.SegTies.{SegId}
use Rattle.canvas_history.specs.Passes.{CallerAt, Pass, QueueId}

-- a caller of a queue of E, without the name of the queue
abbrev pub Knowledge : Type 0 → Type 0
Knowledge E = CallerAt (Unit {0}) E

-- the pass of this broker with this knowledge
abbrev pub pass_of : {E : Type 0} → QueueId → Knowledge E → Pass E
pass_of b k = record { of = b; name = k.name; mine = k.mine; seen = k.seen; owed = k.owed }

-- the queue that these numbers name
abbrev pub seg_of : QueueId → SegId Global
seg_of q = record { web = q; heap = record { memory = record { seal = tt } } }
