-- A chord's run by turns of two workers.
use Rattle.std.proofs.Common.{◌≡◌, ◌∙◌, ◌||◌, ℕ, true, false, List, [], ◌∷◌, ◌++◌, Option, Some, None, refl, sym, ap, ap₂, subst, inl, inr, arith}
use Rattle.std.proofs.lemmas.Bool.{cases_eq}
use Rattle.canvas_task.specs.Builtin.{builtin_tasks}
use Rattle.canvas_envelope.specs.Content.{Content}
use Rattle.canvas_envelope.specs.declared.envelope.Envelope.{Envelope}
use Rattle.canvas_history.specs.declared.stored.Stored.TheVariants.{First}
use Rattle.canvas_runs.specs.Book.{book_of}
use Rattle.canvas_runs.specs.Calls.{AskedAndAnswered, of_scripts}
use Rattle.canvas_runs.specs.Core.{Ask, Reply, rest, ack, rested, acked, taking, ask, opens, left_after, ReadsBack, Doing, is_inside}
use Rattle.canvas_runs.specs.Protocol.{Protocol}
use Rattle.canvas_runs.specs.Witness.{small, first_sum, second_sum, whole_sum, two, four, six}
use Rattle.canvas_runs.specs.Worker.{worker, sealed, opened}
use Rattle.canvas_runs.proofs.Envelopes.ChordRuns.{first_back, second_back, whole_back, first_opens, second_opens, whole_opens}
use Rattle.canvas_runs.specs.Turns.{Step, left, Answers, HasEnded, Turned, all_taken, skips_turn, takes_turn, delivers_again, AllEnded, RanWhole, rounds}
use Rattle.canvas_runs.proofs.ByTurns.Shorts.{take, publish, store, part, read, taken, sent, stored, counted, found}
use Rattle.canvas_runs.specs.TurnWitness.{listed_turns, witness_steps as steps, hasty}

abbrev X : Protocol Envelope
X = worker builtin_tasks small

-- ---- what a worker asks, by the message that its envelope reads as

record Asks (s : Doing X) (a : Ask Envelope) : Type 0 where
  pub back : ReadsBack X s
  pub asks : a ≡ ask X s

behind : (o : Option Content) (c : Content) (ys : List (AskedAndAnswered Envelope)) (a : Ask Envelope) → o ≡ Some c
    → Asks (left_after X (opens X (Some c)) ys) a → Asks (left_after X (opens X o) ys) a
behind o c ys a e k = subst (λ x. Asks (left_after X (opens X x) ys) a) (sym e) k

abbrev whole_taken : AskedAndAnswered Envelope
whole_taken = (take, taken (Some (sealed whole_sum)))

abbrev first_own : List (AskedAndAnswered Envelope)
first_own = (store 1 two, stored First) ∷ (part 1 1, counted 0) ∷ (ack, acked) ∷ []

abbrev second_own : List (AskedAndAnswered Envelope)
second_own = (store 2 four, stored First) ∷ (part 1 2, counted 1) ∷ (read 1, found (Some two)) ∷ (read 2, found (Some four))
    ∷ (publish (sealed whole_sum), sent) ∷ (ack, acked) ∷ []

abbrev whole_own : List (AskedAndAnswered Envelope)
whole_own = (store 3 six, stored First) ∷ (ack, acked) ∷ []

-- the first worker's states after its first message, and after its second
first_state : (ys : List (AskedAndAnswered Envelope))
    → left_after X (opens X (opened (book_of small) (sealed first_sum))) ys ≡ left_after X (opens X (Some first_sum)) ys
first_state ys = ap (λ o. left_after X (opens X o) ys) first_opens

second_state : (ys : List (AskedAndAnswered Envelope))
    → left_after X (opens X (opened (book_of small) (sealed second_sum))) ys ≡ left_after X (opens X (Some second_sum)) ys
second_state ys = ap (λ o. left_after X (opens X o) ys) second_opens

third_state : (ys : List (AskedAndAnswered Envelope))
    → left_after X (opens X (opened (book_of small) (sealed first_sum))) (first_own ++ whole_taken ∷ ys) ≡ left_after X (opens X (Some whole_sum)) ys
third_state ys = first_state (first_own ++ whole_taken ∷ ys) ∙ ap (λ o. left_after X (opens X o) ys) whole_opens

by_first : (ys : List (AskedAndAnswered Envelope)) (a : Ask Envelope) → Asks (left_after X (opens X (Some first_sum)) ys) a
    → Asks (left_after X (opens X (opened (book_of small) (sealed first_sum))) ys) a
by_first ys a k = subst (λ s. Asks s a) (sym (first_state ys)) k

by_second : (ys : List (AskedAndAnswered Envelope)) (a : Ask Envelope) → Asks (left_after X (opens X (Some second_sum)) ys) a
    → Asks (left_after X (opens X (opened (book_of small) (sealed second_sum))) ys) a
by_second ys a k = subst (λ s. Asks s a) (sym (second_state ys)) k

by_third : (ys : List (AskedAndAnswered Envelope)) (a : Ask Envelope) → Asks (left_after X (opens X (Some whole_sum)) ys) a
    → Asks (left_after X (opens X (opened (book_of small) (sealed first_sum))) (first_own ++ whole_taken ∷ ys)) a
by_third ys a k = subst (λ s. Asks s a) (sym (third_state ys)) k

plainly : (s : Doing X) (a : Ask Envelope) → ReadsBack X s → a ≡ ask X s → Asks s a
plainly s a b e = record { back = b; asks = e }

-- ---- one turn

turn : (before : List Step) (p : ℕ) (a : Ask Envelope) (r : Reply Envelope) (us : List ℕ) (xs : List Step)
    → Asks (left builtin_tasks small before p) a → Answers builtin_tasks small 2 before a r
    → Turned builtin_tasks small 2 (before ++ (p, (a, r)) ∷ []) us xs → Turned builtin_tasks small 2 before (p ∷ us) ((p, (a, r)) ∷ xs)
turn before p a r us xs k h t = takes_turn k.back k.asks h t

-- ---- the steps one after the other

abbrev b0 : List Step
b0 = []

abbrev b1 : List Step
b1 = b0 ++ (1, (take, taken (Some (sealed first_sum)))) ∷ []

abbrev b2 : List Step
b2 = b1 ++ (2, (take, taken (Some (sealed second_sum)))) ∷ []

abbrev b3 : List Step
b3 = b2 ++ (1, (store 1 two, stored First)) ∷ []

abbrev b4 : List Step
b4 = b3 ++ (1, (part 1 1, counted 0)) ∷ []

abbrev b5 : List Step
b5 = b4 ++ (1, (ack, acked)) ∷ []

abbrev b6 : List Step
b6 = b5 ++ (2, (store 2 four, stored First)) ∷ []

abbrev b7 : List Step
b7 = b6 ++ (2, (part 1 2, counted 1)) ∷ []

abbrev b8 : List Step
b8 = b7 ++ (2, (read 1, found (Some two))) ∷ []

abbrev b9 : List Step
b9 = b8 ++ (2, (read 2, found (Some four))) ∷ []

abbrev b10 : List Step
b10 = b9 ++ (2, (publish (sealed whole_sum), sent)) ∷ []

abbrev b11 : List Step
b11 = b10 ++ (2, (ack, acked)) ∷ []

abbrev b12 : List Step
b12 = b11 ++ (1, (take, taken (Some (sealed whole_sum)))) ∷ []

abbrev b13 : List Step
b13 = b12 ++ (1, (store 3 six, stored First)) ∷ []

abbrev b14 : List Step
b14 = b13 ++ (1, (ack, acked)) ∷ []

abbrev b15 : List Step
b15 = b14 ++ (1, (take, taken None)) ∷ []

abbrev b16 : List Step
b16 = b15 ++ (2, (take, taken None)) ∷ []

abbrev b17 : List Step
b17 = b16 ++ (1, (rest, rested false)) ∷ []

-- nobody is inside a script then
all_out_16 : Answers builtin_tasks small 2 b16 rest (rested false)
all_out_16 = ap₂ (λ s u. is_inside s || (is_inside u || false)) (sym (second_state (second_own ++ (take, taken None) ∷ [])))
    (sym (third_state (whole_own ++ (take, taken None) ∷ [])))

-- nobody is inside a script then
all_out_17 : Answers builtin_tasks small 2 b17 rest (rested false)
all_out_17 = ap₂ (λ s u. is_inside s || (is_inside u || false)) (sym (second_state (second_own ++ (take, taken None) ∷ [])))
    (sym (third_state (whole_own ++ (take, taken None) ∷ (rest, rested false) ∷ [])))

from_17 : Turned builtin_tasks small 2 b17 (2 ∷ []) ((2, (rest, rested false)) ∷ [])
from_17 = turn b17 2 (rest) (rested false) ([]) ([]) (by_second (second_own ++ (take, taken None) ∷ []) rest (plainly _ rest tt refl)) all_out_17 all_taken

from_16 : Turned builtin_tasks small 2 b16 (1 ∷ 2 ∷ []) ((1, (rest, rested false)) ∷ (2, (rest, rested false)) ∷ [])
from_16 = turn b16 1 (rest) (rested false) (2 ∷ []) ((2, (rest, rested false)) ∷ [])
    (by_third (whole_own ++ (take, taken None) ∷ []) rest (plainly _ rest tt refl)) all_out_16 from_17

from_15 : Turned builtin_tasks small 2 b15 (2 ∷ 1 ∷ 2 ∷ []) ((2, (take, taken None)) ∷ (1, (rest, rested false)) ∷ (2, (rest, rested false)) ∷ [])
from_15 = turn b15 2 (take) (taken None) (1 ∷ 2 ∷ []) ((1, (rest, rested false)) ∷ (2, (rest, rested false)) ∷ [])
    (by_second second_own take (plainly _ take tt refl)) refl from_16

from_14 : Turned builtin_tasks small 2 b14 (1 ∷ 2 ∷ 1 ∷ 2 ∷ [])
    ((1, (take, taken None)) ∷ (2, (take, taken None)) ∷ (1, (rest, rested false)) ∷ (2, (rest, rested false)) ∷ [])
from_14 = turn b14 1 (take) (taken None) (2 ∷ 1 ∷ 2 ∷ []) ((2, (take, taken None)) ∷ (1, (rest, rested false)) ∷ (2, (rest, rested false)) ∷ [])
    (by_third whole_own take (plainly _ take tt refl)) refl from_15

from_13 : Turned builtin_tasks small 2 b13 (1 ∷ 1 ∷ 2 ∷ 1 ∷ 2 ∷ [])
    ((1, (ack, acked)) ∷ (1, (take, taken None)) ∷ (2, (take, taken None)) ∷ (1, (rest, rested false)) ∷ (2, (rest, rested false)) ∷ [])
from_13 = turn b13 1 (ack) (acked) (1 ∷ 2 ∷ 1 ∷ 2 ∷ [])
    ((1, (take, taken None)) ∷ (2, (take, taken None)) ∷ (1, (rest, rested false)) ∷ (2, (rest, rested false)) ∷ [])
    (by_third ((store 3 six, stored First) ∷ []) ack (plainly _ ack tt refl)) tt from_14

from_12 : Turned builtin_tasks small 2 b12 (1 ∷ 1 ∷ 1 ∷ 2 ∷ 1 ∷ 2 ∷ [])
    ((1, (store 3 six, stored First)) ∷ (1, (ack, acked)) ∷ (1, (take, taken None)) ∷ (2, (take, taken None)) ∷ (1, (rest, rested false))
    ∷ (2, (rest, rested false)) ∷ [])
from_12 = turn b12 1 (store 3 six) (stored First) (1 ∷ 1 ∷ 2 ∷ 1 ∷ 2 ∷ [])
    ((1, (ack, acked)) ∷ (1, (take, taken None)) ∷ (2, (take, taken None)) ∷ (1, (rest, rested false)) ∷ (2, (rest, rested false)) ∷ [])
    (by_third [] (store 3 six) (plainly _ (store 3 six) tt refl)) refl from_13

from_11 : Turned builtin_tasks small 2 b11 (1 ∷ 1 ∷ 1 ∷ 1 ∷ 2 ∷ 1 ∷ 2 ∷ [])
    ((1, (take, taken (Some (sealed whole_sum)))) ∷ (1, (store 3 six, stored First)) ∷ (1, (ack, acked)) ∷ (1, (take, taken None)) ∷ (2, (take, taken None))
    ∷ (1, (rest, rested false)) ∷ (2, (rest, rested false)) ∷ [])
from_11 = turn b11 1 (take) (taken (Some (sealed whole_sum))) (1 ∷ 1 ∷ 1 ∷ 2 ∷ 1 ∷ 2 ∷ [])
    ((1, (store 3 six, stored First)) ∷ (1, (ack, acked)) ∷ (1, (take, taken None)) ∷ (2, (take, taken None)) ∷ (1, (rest, rested false))
    ∷ (2, (rest, rested false)) ∷ []) (by_first first_own take (plainly _ take tt refl)) refl from_12

from_10 : Turned builtin_tasks small 2 b10 (2 ∷ 1 ∷ 1 ∷ 1 ∷ 1 ∷ 2 ∷ 1 ∷ 2 ∷ [])
    ((2, (ack, acked)) ∷ (1, (take, taken (Some (sealed whole_sum)))) ∷ (1, (store 3 six, stored First)) ∷ (1, (ack, acked)) ∷ (1, (take, taken None))
    ∷ (2, (take, taken None)) ∷ (1, (rest, rested false)) ∷ (2, (rest, rested false)) ∷ [])
from_10 = turn b10 2 (ack) (acked) (1 ∷ 1 ∷ 1 ∷ 1 ∷ 2 ∷ 1 ∷ 2 ∷ [])
    ((1, (take, taken (Some (sealed whole_sum)))) ∷ (1, (store 3 six, stored First)) ∷ (1, (ack, acked)) ∷ (1, (take, taken None)) ∷ (2, (take, taken None))
    ∷ (1, (rest, rested false)) ∷ (2, (rest, rested false)) ∷ [])
    (by_second ((store 2 four, stored First) ∷ (part 1 2, counted 1) ∷ (read 1, found (Some two)) ∷ (read 2, found (Some four))
    ∷ (publish (sealed whole_sum), sent) ∷ []) ack (plainly _ ack tt refl)) tt from_11

from_9 : Turned builtin_tasks small 2 b9 (2 ∷ 2 ∷ 1 ∷ 1 ∷ 1 ∷ 1 ∷ 2 ∷ 1 ∷ 2 ∷ [])
    ((2, (publish (sealed whole_sum), sent)) ∷ (2, (ack, acked)) ∷ (1, (take, taken (Some (sealed whole_sum)))) ∷ (1, (store 3 six, stored First))
    ∷ (1, (ack, acked))
    ∷ (1, (take, taken None)) ∷ (2, (take, taken None)) ∷ (1, (rest, rested false)) ∷ (2, (rest, rested false)) ∷ [])
from_9 = turn b9 2 (publish (sealed whole_sum)) (sent) (2 ∷ 1 ∷ 1 ∷ 1 ∷ 1 ∷ 2 ∷ 1 ∷ 2 ∷ [])
    ((2, (ack, acked)) ∷ (1, (take, taken (Some (sealed whole_sum)))) ∷ (1, (store 3 six, stored First)) ∷ (1, (ack, acked)) ∷ (1, (take, taken None))
    ∷ (2, (take, taken None)) ∷ (1, (rest, rested false)) ∷ (2, (rest, rested false)) ∷ [])
    (by_second ((store 2 four, stored First) ∷ (part 1 2, counted 1) ∷ (read 1, found (Some two)) ∷ (read 2, found (Some four)) ∷ [])
    (publish (sealed whole_sum)) (plainly _ (publish (sealed whole_sum)) whole_back refl)) refl from_10

from_8 : Turned builtin_tasks small 2 b8 (2 ∷ 2 ∷ 2 ∷ 1 ∷ 1 ∷ 1 ∷ 1 ∷ 2 ∷ 1 ∷ 2 ∷ [])
    ((2, (read 2, found (Some four))) ∷ (2, (publish (sealed whole_sum), sent)) ∷ (2, (ack, acked)) ∷ (1, (take, taken (Some (sealed whole_sum))))
    ∷ (1, (store 3 six, stored First)) ∷ (1, (ack, acked)) ∷ (1, (take, taken None)) ∷ (2, (take, taken None)) ∷ (1, (rest, rested false))
    ∷ (2, (rest, rested false)) ∷ [])
from_8 = turn b8 2 (read 2) (found (Some four)) (2 ∷ 2 ∷ 1 ∷ 1 ∷ 1 ∷ 1 ∷ 2 ∷ 1 ∷ 2 ∷ [])
    ((2, (publish (sealed whole_sum), sent)) ∷ (2, (ack, acked)) ∷ (1, (take, taken (Some (sealed whole_sum)))) ∷ (1, (store 3 six, stored First))
    ∷ (1, (ack, acked))
    ∷ (1, (take, taken None)) ∷ (2, (take, taken None)) ∷ (1, (rest, rested false)) ∷ (2, (rest, rested false)) ∷ [])
    (by_second ((store 2 four, stored First) ∷ (part 1 2, counted 1) ∷ (read 1, found (Some two)) ∷ []) (read 2) (plainly _ (read 2) tt refl))
    refl from_9

from_7 : Turned builtin_tasks small 2 b7 (2 ∷ 2 ∷ 2 ∷ 2 ∷ 1 ∷ 1 ∷ 1 ∷ 1 ∷ 2 ∷ 1 ∷ 2 ∷ [])
    ((2, (read 1, found (Some two))) ∷ (2, (read 2, found (Some four))) ∷ (2, (publish (sealed whole_sum), sent)) ∷ (2, (ack, acked))
    ∷ (1, (take, taken (Some (sealed whole_sum)))) ∷ (1, (store 3 six, stored First)) ∷ (1, (ack, acked)) ∷ (1, (take, taken None)) ∷ (2, (take, taken None))
    ∷ (1, (rest, rested false)) ∷ (2, (rest, rested false)) ∷ [])
from_7 = turn b7 2 (read 1) (found (Some two)) (2 ∷ 2 ∷ 2 ∷ 1 ∷ 1 ∷ 1 ∷ 1 ∷ 2 ∷ 1 ∷ 2 ∷ [])
    ((2, (read 2, found (Some four))) ∷ (2, (publish (sealed whole_sum), sent)) ∷ (2, (ack, acked)) ∷ (1, (take, taken (Some (sealed whole_sum))))
    ∷ (1, (store 3 six, stored First)) ∷ (1, (ack, acked)) ∷ (1, (take, taken None)) ∷ (2, (take, taken None)) ∷ (1, (rest, rested false))
    ∷ (2, (rest, rested false)) ∷ []) (by_second ((store 2 four, stored First) ∷ (part 1 2, counted 1) ∷ []) (read 1) (plainly _ (read 1) tt refl))
    refl from_8

from_6 : Turned builtin_tasks small 2 b6 (2 ∷ 2 ∷ 2 ∷ 2 ∷ 2 ∷ 1 ∷ 1 ∷ 1 ∷ 1 ∷ 2 ∷ 1 ∷ 2 ∷ [])
    ((2, (part 1 2, counted 1)) ∷ (2, (read 1, found (Some two))) ∷ (2, (read 2, found (Some four))) ∷ (2, (publish (sealed whole_sum), sent))
    ∷ (2, (ack, acked)) ∷ (1, (take, taken (Some (sealed whole_sum)))) ∷ (1, (store 3 six, stored First)) ∷ (1, (ack, acked)) ∷ (1, (take, taken None))
    ∷ (2, (take, taken None)) ∷ (1, (rest, rested false)) ∷ (2, (rest, rested false)) ∷ [])
from_6 = turn b6 2 (part 1 2) (counted 1) (2 ∷ 2 ∷ 2 ∷ 2 ∷ 1 ∷ 1 ∷ 1 ∷ 1 ∷ 2 ∷ 1 ∷ 2 ∷ [])
    ((2, (read 1, found (Some two))) ∷ (2, (read 2, found (Some four))) ∷ (2, (publish (sealed whole_sum), sent)) ∷ (2, (ack, acked))
    ∷ (1, (take, taken (Some (sealed whole_sum)))) ∷ (1, (store 3 six, stored First)) ∷ (1, (ack, acked)) ∷ (1, (take, taken None)) ∷ (2, (take, taken None))
    ∷ (1, (rest, rested false)) ∷ (2, (rest, rested false)) ∷ [])
    (by_second ((store 2 four, stored First) ∷ []) (part 1 2) (plainly _ (part 1 2) tt refl)) refl from_7

from_5 : Turned builtin_tasks small 2 b5 (2 ∷ 2 ∷ 2 ∷ 2 ∷ 2 ∷ 2 ∷ 1 ∷ 1 ∷ 1 ∷ 1 ∷ 2 ∷ 1 ∷ 2 ∷ [])
    ((2, (store 2 four, stored First)) ∷ (2, (part 1 2, counted 1)) ∷ (2, (read 1, found (Some two))) ∷ (2, (read 2, found (Some four)))
    ∷ (2, (publish (sealed whole_sum), sent)) ∷ (2, (ack, acked)) ∷ (1, (take, taken (Some (sealed whole_sum)))) ∷ (1, (store 3 six, stored First))
    ∷ (1, (ack, acked))
    ∷ (1, (take, taken None)) ∷ (2, (take, taken None)) ∷ (1, (rest, rested false)) ∷ (2, (rest, rested false)) ∷ [])
from_5 = turn b5 2 (store 2 four) (stored First) (2 ∷ 2 ∷ 2 ∷ 2 ∷ 2 ∷ 1 ∷ 1 ∷ 1 ∷ 1 ∷ 2 ∷ 1 ∷ 2 ∷ [])
    ((2, (part 1 2, counted 1)) ∷ (2, (read 1, found (Some two))) ∷ (2, (read 2, found (Some four))) ∷ (2, (publish (sealed whole_sum), sent))
    ∷ (2, (ack, acked)) ∷ (1, (take, taken (Some (sealed whole_sum)))) ∷ (1, (store 3 six, stored First)) ∷ (1, (ack, acked)) ∷ (1, (take, taken None))
    ∷ (2, (take, taken None)) ∷ (1, (rest, rested false)) ∷ (2, (rest, rested false)) ∷ [])
    (by_second [] (store 2 four) (plainly _ (store 2 four) tt refl)) refl from_6

from_4 : Turned builtin_tasks small 2 b4 (1 ∷ 2 ∷ 2 ∷ 2 ∷ 2 ∷ 2 ∷ 2 ∷ 1 ∷ 1 ∷ 1 ∷ 1 ∷ 2 ∷ 1 ∷ 2 ∷ [])
    ((1, (ack, acked)) ∷ (2, (store 2 four, stored First)) ∷ (2, (part 1 2, counted 1)) ∷ (2, (read 1, found (Some two)))
    ∷ (2, (read 2, found (Some four)))
    ∷ (2, (publish (sealed whole_sum), sent)) ∷ (2, (ack, acked)) ∷ (1, (take, taken (Some (sealed whole_sum)))) ∷ (1, (store 3 six, stored First))
    ∷ (1, (ack, acked))
    ∷ (1, (take, taken None)) ∷ (2, (take, taken None)) ∷ (1, (rest, rested false)) ∷ (2, (rest, rested false)) ∷ [])
from_4 = turn b4 1 (ack) (acked) (2 ∷ 2 ∷ 2 ∷ 2 ∷ 2 ∷ 2 ∷ 1 ∷ 1 ∷ 1 ∷ 1 ∷ 2 ∷ 1 ∷ 2 ∷ [])
    ((2, (store 2 four, stored First)) ∷ (2, (part 1 2, counted 1)) ∷ (2, (read 1, found (Some two))) ∷ (2, (read 2, found (Some four)))
    ∷ (2, (publish (sealed whole_sum), sent)) ∷ (2, (ack, acked)) ∷ (1, (take, taken (Some (sealed whole_sum)))) ∷ (1, (store 3 six, stored First))
    ∷ (1, (ack, acked))
    ∷ (1, (take, taken None)) ∷ (2, (take, taken None)) ∷ (1, (rest, rested false)) ∷ (2, (rest, rested false)) ∷ [])
    (by_first ((store 1 two, stored First) ∷ (part 1 1, counted 0) ∷ []) ack (plainly _ ack tt refl)) tt from_5

from_3 : Turned builtin_tasks small 2 b3 (1 ∷ 1 ∷ 2 ∷ 2 ∷ 2 ∷ 2 ∷ 2 ∷ 2 ∷ 1 ∷ 1 ∷ 1 ∷ 1 ∷ 2 ∷ 1 ∷ 2 ∷ [])
    ((1, (part 1 1, counted 0)) ∷ (1, (ack, acked)) ∷ (2, (store 2 four, stored First)) ∷ (2, (part 1 2, counted 1)) ∷ (2, (read 1, found (Some two)))
    ∷ (2, (read 2, found (Some four))) ∷ (2, (publish (sealed whole_sum), sent)) ∷ (2, (ack, acked)) ∷ (1, (take, taken (Some (sealed whole_sum))))
    ∷ (1, (store 3 six, stored First)) ∷ (1, (ack, acked)) ∷ (1, (take, taken None)) ∷ (2, (take, taken None)) ∷ (1, (rest, rested false))
    ∷ (2, (rest, rested false)) ∷ [])
from_3 = turn b3 1 (part 1 1) (counted 0) (1 ∷ 2 ∷ 2 ∷ 2 ∷ 2 ∷ 2 ∷ 2 ∷ 1 ∷ 1 ∷ 1 ∷ 1 ∷ 2 ∷ 1 ∷ 2 ∷ [])
    ((1, (ack, acked)) ∷ (2, (store 2 four, stored First)) ∷ (2, (part 1 2, counted 1)) ∷ (2, (read 1, found (Some two)))
    ∷ (2, (read 2, found (Some four)))
    ∷ (2, (publish (sealed whole_sum), sent)) ∷ (2, (ack, acked)) ∷ (1, (take, taken (Some (sealed whole_sum)))) ∷ (1, (store 3 six, stored First))
    ∷ (1, (ack, acked))
    ∷ (1, (take, taken None)) ∷ (2, (take, taken None)) ∷ (1, (rest, rested false)) ∷ (2, (rest, rested false)) ∷ [])
    (by_first ((store 1 two, stored First) ∷ []) (part 1 1) (plainly _ (part 1 1) tt refl)) refl from_4

from_2 : Turned builtin_tasks small 2 b2 (1 ∷ 1 ∷ 1 ∷ 2 ∷ 2 ∷ 2 ∷ 2 ∷ 2 ∷ 2 ∷ 1 ∷ 1 ∷ 1 ∷ 1 ∷ 2 ∷ 1 ∷ 2 ∷ [])
    ((1, (store 1 two, stored First)) ∷ (1, (part 1 1, counted 0)) ∷ (1, (ack, acked)) ∷ (2, (store 2 four, stored First)) ∷ (2, (part 1 2, counted 1))
    ∷ (2, (read 1, found (Some two))) ∷ (2, (read 2, found (Some four))) ∷ (2, (publish (sealed whole_sum), sent)) ∷ (2, (ack, acked))
    ∷ (1, (take, taken (Some (sealed whole_sum)))) ∷ (1, (store 3 six, stored First)) ∷ (1, (ack, acked)) ∷ (1, (take, taken None)) ∷ (2, (take, taken None))
    ∷ (1, (rest, rested false)) ∷ (2, (rest, rested false)) ∷ [])
from_2 = turn b2 1 (store 1 two) (stored First) (1 ∷ 1 ∷ 2 ∷ 2 ∷ 2 ∷ 2 ∷ 2 ∷ 2 ∷ 1 ∷ 1 ∷ 1 ∷ 1 ∷ 2 ∷ 1 ∷ 2 ∷ [])
    ((1, (part 1 1, counted 0)) ∷ (1, (ack, acked)) ∷ (2, (store 2 four, stored First)) ∷ (2, (part 1 2, counted 1)) ∷ (2, (read 1, found (Some two)))
    ∷ (2, (read 2, found (Some four))) ∷ (2, (publish (sealed whole_sum), sent)) ∷ (2, (ack, acked)) ∷ (1, (take, taken (Some (sealed whole_sum))))
    ∷ (1, (store 3 six, stored First)) ∷ (1, (ack, acked)) ∷ (1, (take, taken None)) ∷ (2, (take, taken None)) ∷ (1, (rest, rested false))
    ∷ (2, (rest, rested false)) ∷ []) (by_first [] (store 1 two) (plainly _ (store 1 two) tt refl)) refl from_3

from_1 : Turned builtin_tasks small 2 b1 (2 ∷ 1 ∷ 1 ∷ 1 ∷ 2 ∷ 2 ∷ 2 ∷ 2 ∷ 2 ∷ 2 ∷ 1 ∷ 1 ∷ 1 ∷ 1 ∷ 2 ∷ 1 ∷ 2 ∷ [])
    ((2, (take, taken (Some (sealed second_sum)))) ∷ (1, (store 1 two, stored First)) ∷ (1, (part 1 1, counted 0)) ∷ (1, (ack, acked))
    ∷ (2, (store 2 four, stored First)) ∷ (2, (part 1 2, counted 1)) ∷ (2, (read 1, found (Some two))) ∷ (2, (read 2, found (Some four)))
    ∷ (2, (publish (sealed whole_sum), sent)) ∷ (2, (ack, acked)) ∷ (1, (take, taken (Some (sealed whole_sum)))) ∷ (1, (store 3 six, stored First))
    ∷ (1, (ack, acked))
    ∷ (1, (take, taken None)) ∷ (2, (take, taken None)) ∷ (1, (rest, rested false)) ∷ (2, (rest, rested false)) ∷ [])
from_1 = turn b1 2 (take) (taken (Some (sealed second_sum))) (1 ∷ 1 ∷ 1 ∷ 2 ∷ 2 ∷ 2 ∷ 2 ∷ 2 ∷ 2 ∷ 1 ∷ 1 ∷ 1 ∷ 1 ∷ 2 ∷ 1 ∷ 2 ∷ [])
    ((1, (store 1 two, stored First)) ∷ (1, (part 1 1, counted 0)) ∷ (1, (ack, acked)) ∷ (2, (store 2 four, stored First)) ∷ (2, (part 1 2, counted 1))
    ∷ (2, (read 1, found (Some two))) ∷ (2, (read 2, found (Some four))) ∷ (2, (publish (sealed whole_sum), sent)) ∷ (2, (ack, acked))
    ∷ (1, (take, taken (Some (sealed whole_sum)))) ∷ (1, (store 3 six, stored First)) ∷ (1, (ack, acked)) ∷ (1, (take, taken None)) ∷ (2, (take, taken None))
    ∷ (1, (rest, rested false)) ∷ (2, (rest, rested false)) ∷ []) (plainly taking take tt refl) refl from_2

from_0 : Turned builtin_tasks small 2 b0 (1 ∷ 2 ∷ 1 ∷ 1 ∷ 1 ∷ 2 ∷ 2 ∷ 2 ∷ 2 ∷ 2 ∷ 2 ∷ 1 ∷ 1 ∷ 1 ∷ 1 ∷ 2 ∷ 1 ∷ 2 ∷ [])
    ((1, (take, taken (Some (sealed first_sum)))) ∷ (2, (take, taken (Some (sealed second_sum)))) ∷ (1, (store 1 two, stored First))
    ∷ (1, (part 1 1, counted 0))
    ∷ (1, (ack, acked)) ∷ (2, (store 2 four, stored First)) ∷ (2, (part 1 2, counted 1)) ∷ (2, (read 1, found (Some two)))
    ∷ (2, (read 2, found (Some four))) ∷ (2, (publish (sealed whole_sum), sent)) ∷ (2, (ack, acked)) ∷ (1, (take, taken (Some (sealed whole_sum))))
    ∷ (1, (store 3 six, stored First)) ∷ (1, (ack, acked)) ∷ (1, (take, taken None)) ∷ (2, (take, taken None)) ∷ (1, (rest, rested false))
    ∷ (2, (rest, rested false)) ∷ [])
from_0 = turn b0 1 (take) (taken (Some (sealed first_sum))) (2 ∷ 1 ∷ 1 ∷ 1 ∷ 2 ∷ 2 ∷ 2 ∷ 2 ∷ 2 ∷ 2 ∷ 1 ∷ 1 ∷ 1 ∷ 1 ∷ 2 ∷ 1 ∷ 2 ∷ [])
    ((2, (take, taken (Some (sealed second_sum)))) ∷ (1, (store 1 two, stored First)) ∷ (1, (part 1 1, counted 0)) ∷ (1, (ack, acked))
    ∷ (2, (store 2 four, stored First)) ∷ (2, (part 1 2, counted 1)) ∷ (2, (read 1, found (Some two))) ∷ (2, (read 2, found (Some four)))
    ∷ (2, (publish (sealed whole_sum), sent)) ∷ (2, (ack, acked)) ∷ (1, (take, taken (Some (sealed whole_sum)))) ∷ (1, (store 3 six, stored First))
    ∷ (1, (ack, acked))
    ∷ (1, (take, taken None)) ∷ (2, (take, taken None)) ∷ (1, (rest, rested false)) ∷ (2, (rest, rested false)) ∷ [])
    (plainly taking take tt refl) refl from_1

-- ---- the whole

ends_first : HasEnded builtin_tasks small steps 1
ends_first = ap (ask X) (third_state (whole_own ++ (take, taken None) ∷ (rest, rested false) ∷ []))

ends_second : HasEnded builtin_tasks small steps 2
ends_second = ap (ask X) (second_state (second_own ++ (take, taken None) ∷ (rest, rested false) ∷ []))

all_ended : AllEnded builtin_tasks small 2 steps
all_ended p w = elim (cases_eq p 1) [
  | inl e ↦ subst (HasEnded builtin_tasks small steps) (sym e) ends_first
  | inr f ↦ let same : p ≡ 2 = omega (arith, w.0, w.1, f) in subst (HasEnded builtin_tasks small steps) (sym same) ends_second
]

abbrev Stands : Type 0
Stands = (r : RanWhole builtin_tasks small 2 listed_turns) × (r.steps ≡ steps) × (r.further ≡ 2)

pub stands : Stands
stands = (
  record {
    opens_back = (first_back, (second_back, tt));
    turns = listed_turns
        ++ rounds 2 2;
    further = 2;
    follow = refl;
    steps = steps;
    turned = from_0;
    ended = all_ended;
  },
  refl,
  refl,
)

-- ---- the near miss

-- what the first step of some turns is answered, and the turns after it
record Peeled (before : List Step) (x : Step) (xs : List Step) : Type 0 where
  pub answers : Answers builtin_tasks small 2 before x.1.0 x.1.1
  pub turns : List ℕ
  pub behind : Turned builtin_tasks small 2 (before ++ x ∷ []) turns xs

peeled : (before : List Step) (us : List ℕ) (x : Step) (xs : List Step) → of_scripts x.1.0 ≡ true → Turned builtin_tasks small 2 before us (x ∷ xs)
    → Peeled before x xs
peeled before us x xs o (delivers_again w e t) = absurd (cc)
peeled before (p ∷ us) x xs o (skips_turn e t) = peeled before us x xs o t
peeled before (p ∷ us) (q, (a, r)) xs o (takes_turn b e h t) = record { answers = h; turns = us; behind = t }

abbrev h0 : List Step
h0 = []

abbrev h1 : List Step
h1 = h0 ++ (1, (take, taken (Some (sealed first_sum)))) ∷ []

abbrev h2 : List Step
h2 = h1 ++ (1, (store 1 two, stored First)) ∷ []

abbrev h3 : List Step
h3 = h2 ++ (1, (part 1 1, counted 0)) ∷ []

abbrev h4 : List Step
h4 = h3 ++ (1, (ack, acked)) ∷ []

abbrev h5 : List Step
h5 = h4 ++ (1, (take, taken (Some (sealed second_sum)))) ∷ []

abbrev h6 : List Step
h6 = h5 ++ (2, (take, taken None)) ∷ []

abbrev second_taken : AskedAndAnswered Envelope
second_taken = (take, taken (Some (sealed second_sum)))

is_busy : is_inside (left builtin_tasks small h6 1) ≡ true
is_busy = ap is_inside (first_state (first_own ++ second_taken ∷ []) ∙ ap (opens X) second_opens)

pub none_hasty : (us : List ℕ) → Turned builtin_tasks small 2 [] us hasty → ⊥
none_hasty us t =
    let x1 = peeled h0 us (1, (take, taken (Some (sealed first_sum)))) _ refl t in
    let x2 = peeled h1 x1.turns (1, (store 1 two, stored First)) _ refl x1.behind in
    let x3 = peeled h2 x2.turns (1, (part 1 1, counted 0)) _ refl x2.behind in
    let x4 = peeled h3 x3.turns (1, (ack, acked)) _ refl x3.behind in
    let x5 = peeled h4 x4.turns (1, (take, taken (Some (sealed second_sum)))) _ refl x4.behind in
    let x6 = peeled h5 x5.turns (2, (take, taken None)) _ refl x5.behind in
    let x7 = peeled h6 x6.turns (2, (rest, rested false)) _ refl x6.behind in
    let wrong : false ≡ true = x7.answers ∙ ap (λ b. b || false) is_busy in
    absurd cc
