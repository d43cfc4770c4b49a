-- A caller of a shared object, what it has seen, and what the clauses of its calls tell (Lamport's
-- sequential consistency). They are the same for each object: I names one, C are its calls, and R
-- their replies.
--     Caller I C R              a caller
--     Hat C R                   its number and what it has seen
--     told p                    what it has seen, with the joins that it owes
--     Follows p es log          the history log is what p has seen, entries by others, the joins
--                               that p owes, and then the entries es
--     Stands p e p'             the history has the call e, and p is p' from then on.
--                               StandTogether says it of entries with none between
--     CouldStand p e            some history that goes on from what p has seen has the call e, but
--                               p keeps no more than it had seen
--     Parted p p' q             p has split off the caller q
--     Joined p q p'             p has joined q, and the history has the join
--     Owes p q p'               p has joined q, and the join comes before its next entry
--     Adds p es p'              the own entries of p' are those of p, and then these
--     IsHistory p, LeavesOne p  what p has seen is legal; if all others have been joined, the first
--                               caller is the only one that is live
use Rattle.std.specs.Prelude.{◌≡◌, ℕ, List, [], ◌∷◌, ◌++◌, ◌⊎◌, length}
use Rattle.canvas_history.specs.History.{Entry, split, join, live_from, split_off, made_by, AllJoined, Sole, NoneBy, Since, Legal}

-- The object that it calls, its number, the callers for which it answers (itself, and those that it
-- joined since its last entry), the beginning of the history that it has seen, and the joins that
-- it owes, which come right before its next entry
pub record Caller (I C R : Type 0) : Type 0 where
  pub of : I
  pub name : ℕ
  pub mine : List ℕ
  pub seen : List (Entry C R)
  pub owed : List (Entry C R)

-- the number of a caller and what it has seen, if it is one of one object and owes nothing
abbrev pub Hat : Type 0 → Type 0 → Type 0
Hat C R = ℕ × List (Entry C R)

-- the name of an object if there is only one
abbrev pub the_object : Unit {0}
the_object = tt

module _ {I C R : Type 0} where
  -- a caller that answers only for itself, and owes nothing
  abbrev pub owing_none : I → ℕ → List (Entry C R) → Caller I C R
  owing_none i p seen = record { of = i; name = p; mine = p ∷ []; seen = seen; owed = [] }

  -- what it has seen, with the joins that it owes
  abbrev pub told : Caller I C R → List (Entry C R)
  told p = p.seen ++ p.owed

  -- the entries that p' has made itself, in what it has seen and owes, are those that p had made,
  -- and then these
  abbrev pub Adds : Caller I C R → List (Entry C R) → Caller I C R → Type 0
  Adds p es p' = made_by p.name (told p') ≡ made_by p.name (told p) ++ es

  -- if all other callers have been joined, in what the caller has seen and owes, the first is the
  -- only one that is live
  abbrev pub LeavesOne : Caller I C R → Type 0
  LeavesOne p = AllJoined (told p) → Sole (told p) 0

  -- A join that is owed: the new history begins with both, is one of them, and has no further entry
  -- by the callers of either
  abbrev pub Owes : Caller I C R → Caller I C R → Caller I C R → Type 0
  Owes p q p' =
      (p'.of ≡ p.of) × (p'.name ≡ p.name) × (p'.mine ≡ p.mine ++ q.mine)
      × (p'.owed ≡ p.owed ++ (q.owed ++ join p.name q.name ∷ []))
      × Since p.mine p'.seen p.seen × Since q.mine p'.seen q.seen
      × ((p'.seen ≡ p.seen) ⊎ (p'.seen ≡ q.seen))

-- the object's state before any call, what a call answers, what it leaves, and who may make it
module _ {I C R S : Type 0} (first : S) (answer : S → C → R) (next : S → C → S)
    (May : List (Entry C R) → S → ℕ → C → Type 0) where
  -- The call clause: what was seen, entries of others since, the joins owed, and the entries of
  -- this call. The whole is legal, and if no other caller was live nothing is in between
  abbrev pub Follows : Caller I C R → List (Entry C R) → List (Entry C R) → Type 0
  Follows p es log =
      (between : List (Entry C R))
      × (log ≡ p.seen ++ (between ++ (p.owed ++ es))) × NoneBy p.mine between
      × Legal first answer next May log × (Sole (told p) p.name → between ≡ [])

  -- the caller has then seen that history, and owes nothing
  abbrev pub StandTogether : Caller I C R → List (Entry C R) → Caller I C R → Type 0
  StandTogether p es p' =
      (p'.of ≡ p.of) × (p'.name ≡ p.name) × (p'.mine ≡ live_from p.mine p.owed) × (p'.owed ≡ [])
      × Follows p es p'.seen

  abbrev pub Stands : Caller I C R → Entry C R → Caller I C R → Type 0
  Stands p e p' = StandTogether p (e ∷ []) p'

  -- one legal history has the call, and the caller keeps no more than it had seen
  abbrev pub CouldStand : Caller I C R → Entry C R → Type 0
  CouldStand p e = (log : List (Entry C R)) × Follows p (e ∷ []) log

  -- the new caller's number is that of the splits so far, and it has seen what this one has
  abbrev pub Parted : Caller I C R → Caller I C R → Caller I C R → Type 0
  Parted p p' q =
      Stands p (split p.name q.name) p' × (q ≡ owing_none p.of (length (split_off p'.seen)) p'.seen)

  -- the history begins with both, and has no further entry by either's callers before the join
  abbrev pub Joined : Caller I C R → Caller I C R → Caller I C R → Type 0
  Joined p q p' = Stands p (join p.name q.name) p' × Follows q (join p.name q.name ∷ []) p'.seen

  -- what the caller has seen, with the joins that it owes, is a legal history
  abbrev pub IsHistory : Caller I C R → Type 0
  IsHistory p = Legal first answer next May (told p)
