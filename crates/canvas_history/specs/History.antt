-- Histories of an object that several callers share: who called, what, and what was answered, in
-- one order. That one such order has each call, in its caller's own order, is Lamport's sequential
-- consistency (How to make a multiprocessor computer, 1979), here for callers that split off and
-- join others.
--     Entry C R              one entry of a history: a caller splits off another, joins one, or
--                            makes a call C with the reply R. Callers are numbers; 0 is the first
--     live, split_off, taken_in log    the callers that are live after the history, in the order of
--                                      their making; those that a `split` names, and those that a
--                                      `join` takes in
--     heir log c             the caller whose own the calls of c count as: c, or the one that
--                            joined it, or the one that joined that one
--     made_by p log          the entries by p itself
--     replay log             the object's state after the history
--     Allowed log e          the entry e may follow the history
--     Legal log              each entry is allowed after those before it
--     Sole log p             no other caller than p is live
--     AllJoined log          each caller but the first has been joined
--     NoneBy cs es, AllOthers p es    no entry is by one of the callers, or by p
--     Since cs log seen      the history goes on from that beginning with no entry by one of the
--                            callers
use Rattle.std.specs.Prelude.{◌≡◌, ℕ, Bool, true, false, cond, not, ◌||◌, List, [], ◌∷◌, ◌++◌, filter, ◌==◌}

pub data Entry (C R : Type 0) : Type 0 where
  split : ℕ → ℕ → Entry C R
  join : ℕ → ℕ → Entry C R
  calls : ℕ → C → R → Entry C R

-- whether the list has the number
abbrev pub among : ℕ → List ℕ → Bool
among c [] = false
among c (k ∷ ks) = (k == c) || among c ks

-- the list without that number
abbrev pub without : ℕ → List ℕ → List ℕ
without c cs = filter (λ k. not (k == c)) cs

module _ {C R : Type 0} where
  -- the caller of an entry
  abbrev pub by_of : Entry C R → ℕ
  by_of (split p q) = p
  by_of (join p q) = p
  by_of (calls p c r) = p

  -- the live callers after one more entry
  abbrev pub live_after : List ℕ → Entry C R → List ℕ
  live_after cs (split p q) = cs ++ q ∷ []
  live_after cs (join p q) = without q cs
  live_after cs (calls p c r) = cs

  abbrev pub live_from : List ℕ → List (Entry C R) → List ℕ
  live_from cs [] = cs
  live_from cs (e ∷ es) = live_from (live_after cs e) es

  -- the callers that are live after the history
  abbrev pub live : List (Entry C R) → List ℕ
  live log = live_from (0 ∷ []) log

  -- the callers that a split of the history names
  abbrev pub split_off : List (Entry C R) → List ℕ
  split_off [] = []
  split_off (split p q ∷ es) = q ∷ split_off es
  split_off (join p q ∷ es) = split_off es
  split_off (calls p c r ∷ es) = split_off es

  -- the callers that a join of the history names
  abbrev pub taken_in : List (Entry C R) → List ℕ
  taken_in [] = []
  taken_in (split p q ∷ es) = taken_in es
  taken_in (join p q ∷ es) = q ∷ taken_in es
  taken_in (calls p c r ∷ es) = taken_in es

  -- the caller whose own c's calls count as after one more entry
  abbrev pub heir_after : ℕ → Entry C R → ℕ
  heir_after c (split p q) = c
  heir_after c (join p q) = cond (c == q) p c
  heir_after c (calls p d r) = c

  abbrev pub heir : List (Entry C R) → ℕ → ℕ
  heir [] c = c
  heir (e ∷ es) c = heir es (heir_after c e)

  -- the entries by p itself
  abbrev pub made_by : ℕ → List (Entry C R) → List (Entry C R)
  made_by p log = filter (λ e. by_of e == p) log

  -- each caller that a split of the history names has been joined, and the first has not
  abbrev pub AllJoined : List (Entry C R) → Type 0
  AllJoined log =
      (among 0 (taken_in log) ≡ false)
      × ((c : ℕ) → among c (split_off log) ≡ true → among c (taken_in log) ≡ true)

  -- no other caller than p is live
  abbrev pub Sole : List (Entry C R) → ℕ → Type 0
  Sole log p = live log ≡ p ∷ []

  -- entries by none of the callers
  abbrev pub NoneBy : List ℕ → List (Entry C R) → Type 0
  NoneBy cs [] = Unit {0}
  NoneBy cs (e ∷ es) = (among (by_of e) cs ≡ false) × NoneBy cs es

  -- entries by callers other than p
  abbrev pub AllOthers : ℕ → List (Entry C R) → Type 0
  AllOthers p es = NoneBy (p ∷ []) es

  -- the history begins with what was seen, and goes on with no entry by one of these
  abbrev pub Since : List ℕ → List (Entry C R) → List (Entry C R) → Type 0
  Since cs log seen = (rest : List (Entry C R)) × (log ≡ seen ++ rest) × NoneBy cs rest

-- The one-thread object: its state before any call, what a call answers in a state, and the state
-- that it leaves. May log s p c: the caller p may make the call c after the history log, which
-- leaves the state s. `λ log s p c. Unit {0}` allows every call
module _ {C R S : Type 0} (first : S) (answer : S → C → R) (next : S → C → S)
    (May : List (Entry C R) → S → ℕ → C → Type 0) where
  abbrev pub state_after : S → Entry C R → S
  state_after s (split p q) = s
  state_after s (join p q) = s
  state_after s (calls p c r) = next s c

  abbrev pub state_from : S → List (Entry C R) → S
  state_from s [] = s
  state_from s (e ∷ es) = state_from (state_after s e) es

  -- what the history replays to
  abbrev pub replay : List (Entry C R) → S
  replay log = state_from first log

  -- the entry is by a live caller, names only callers that it may, and has the object's reply
  abbrev pub Allowed : List (Entry C R) → Entry C R → Type 0
  Allowed log (split p q) =
      (among p (live log) ≡ true) × ((q == 0) ≡ false) × (among q (split_off log) ≡ false)
  Allowed log (join p q) =
      (among p (live log) ≡ true) × (among q (live log) ≡ true) × ((q == p) ≡ false)
  Allowed log (calls p c r) =
      (among p (live log) ≡ true) × (r ≡ answer (replay log) c) × May log (replay log) p c

  abbrev pub LegalFrom : List (Entry C R) → List (Entry C R) → Type 0
  LegalFrom before [] = Unit {0}
  LegalFrom before (e ∷ es) = Allowed before e × LegalFrom (before ++ e ∷ []) es

  abbrev pub Legal : List (Entry C R) → Type 0
  Legal log = LegalFrom [] log
