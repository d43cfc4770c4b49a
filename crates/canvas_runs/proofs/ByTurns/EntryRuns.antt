-- The runs with entries of the witness.
use Rattle.std.proofs.Common.{◌≡◌, ◌∙◌, ◌||◌, ℕ, true, false, List, [], ◌∷◌, ◌++◌, Option, Some, None, refl, sym, ap, subst, arith}
use Rattle.std.specs.Fmt.{digits}
use Rattle.serde_json.proofs.OnLiterals.{serde_json_on_literals}
use Rattle.uuid.specs.Text.{by_index}
use Rattle.canvas_task.specs.Builtin.{builtin_tasks}
use Rattle.canvas_semantics.specs.Line.{Line}
use Rattle.canvas_envelope.specs.declared.envelope.Envelope.{Envelope}
use Rattle.canvas_history.specs.declared.stored.Stored.TheVariants.{First, Again}
use Rattle.canvas_runs.specs.Core as core
use Rattle.canvas_runs.specs.Book.{book_of}
use Rattle.canvas_runs.specs.Calls.{AskedAndAnswered}
use Rattle.canvas_runs.specs.Core.{Ask, Reply, ack, rested, acked, ask, opens, left_after, ReadsBack, Doing, is_inside}
use Rattle.canvas_runs.specs.declared.when.When.TheVariants.{Early, Late}
use Rattle.canvas_runs.specs.Worker.{worker, sealed, IsReadBack, opened, known_one}
use Rattle.canvas_runs.proofs.Envelopes.AsciiBack.{AreAscii, ascii_back}
use Rattle.canvas_runs.specs.EntryWitness.{product, product_sum, product_whole, eight, sixty_four, both_points, product_steps, quotient, quotient_linked, no_quotient, link_entry, quotient_steps, unspent}
use Rattle.canvas_runs.specs.Redeliveries.{Entry, wanted, spent, point, point_of, comes_to, TurnedAgain, no_turn, skips, takes, spends, RanAgain, agains_in}
use Rattle.canvas_runs.specs.Turns.{Step, redelivery, left, holds, Answers, HasEnded, AllEnded, rounds}
use Rattle.canvas_runs.proofs.ByTurns.Shorts.{take, publish, store, taken, sent, stored}
use Rattle.canvas_runs.proofs.ByTurns.Turning.{left_delivers}
use Rattle.std.proofs.lemmas.Bool.{false≢true}

-- ---- one turn

module _ (l : Line) where
  one_taken : (before : List Step) (es rest : List Entry) (a : Ask Envelope) (r : Reply Envelope) (us : List ℕ) (xs : List Step)
      (s : Doing (worker builtin_tasks l)) (x : Option Entry) → left builtin_tasks l before 1 ≡ s → comes_to builtin_tasks l before 1 ≡ x → wanted x es ≡ false
      → ReadsBack (worker builtin_tasks l) s → a ≡ ask (worker builtin_tasks l) s → Answers builtin_tasks l 1 before a r
      → TurnedAgain builtin_tasks l 1 (before ++ (1, (a, r)) ∷ []) es us xs rest → TurnedAgain builtin_tasks l 1 before es (1 ∷ us) ((1, (a, r)) ∷ xs) rest
  one_taken before es rest a r us xs s x st co w b e h t =
      takes (subst (λ y. wanted y es ≡ false) (sym co) w) (subst (ReadsBack (worker builtin_tasks l)) (sym st) b)
      (subst (λ z. a ≡ ask (worker builtin_tasks l) z) (sym st) e) h t

  one_spent : (before : List Step) (es rest : List Entry) (d : Envelope) (a : Ask Envelope) (r : Reply Envelope) (us : List ℕ) (xs : List Step)
      (s : Doing (worker builtin_tasks l)) (x : Option Entry) → left builtin_tasks l before 1 ≡ s → comes_to builtin_tasks l before 1 ≡ x → wanted x es ≡ true
      → holds before 1 ≡ Some d → ReadsBack (worker builtin_tasks l) s → a ≡ ask (worker builtin_tasks l) s
      → Answers builtin_tasks l 1 (before ++ redelivery 1 d ∷ []) a r
      → TurnedAgain builtin_tasks l 1 ((before ++ redelivery 1 d ∷ []) ++ (1, (a, r)) ∷ []) (spent x es) us xs rest
      → TurnedAgain builtin_tasks l 1 before es (1 ∷ us) (redelivery 1 d ∷ (1, (a, r)) ∷ xs) rest
  one_spent before es rest d a r us xs s x st co w g b e h t =
      let now : left builtin_tasks l (before ++ redelivery 1 d ∷ []) 1 ≡ s = left_delivers builtin_tasks l before 1 1 d ∙ st in
      spends (subst (λ y. wanted y es ≡ true) (sym co) w) (omega arith, omega arith) g (subst (ReadsBack (worker builtin_tasks l)) (sym now) b)
      (subst (λ z. a ≡ ask (worker builtin_tasks l) z) (sym now) e) h
      (subst (λ y. TurnedAgain builtin_tasks l 1 ((before ++ redelivery 1 d ∷ []) ++ (1, (a, r)) ∷ []) (spent y es) us xs rest) (sym co) t)

-- ---- the envelopes read back

first_ascii : AreAscii product_sum
unfolding serde_json_on_literals digits by_index
first_ascii = (refl, refl, refl)

first_back : IsReadBack product_sum
first_back = ascii_back product_sum refl first_ascii

first_opens : opened (book_of product) (sealed product_sum) ≡ Some product_sum
first_opens = ap (known_one (book_of product)) first_back

second_ascii : AreAscii product_whole
unfolding serde_json_on_literals digits by_index
second_ascii = (refl, refl, refl)

second_back : IsReadBack product_whole
second_back = ascii_back product_whole refl second_ascii

second_opens : opened (book_of product) (sealed product_whole) ≡ Some product_whole
second_opens = ap (known_one (book_of product)) second_back

linked_ascii : AreAscii quotient_linked
unfolding serde_json_on_literals digits by_index
linked_ascii = (refl, refl, refl)

linked_back : IsReadBack quotient_linked
linked_back = ascii_back quotient_linked refl linked_ascii

linked_opens : opened (book_of quotient) (sealed quotient_linked) ≡ Some quotient_linked
linked_opens = ap (known_one (book_of quotient)) linked_back

-- ---- product

product_state_1 : (ys : List (AskedAndAnswered Envelope))
    → left_after (worker builtin_tasks product) (opens (worker builtin_tasks product) (opened (book_of product) (sealed product_sum))) ys
    ≡ left_after (worker builtin_tasks product) (opens (worker builtin_tasks product) (Some product_sum)) ys
product_state_1 ys = ap (λ o. left_after (worker builtin_tasks product) (opens (worker builtin_tasks product) o) ys) first_opens

product_state_2 : (ys : List (AskedAndAnswered Envelope))
    → left_after (worker builtin_tasks product) (opens (worker builtin_tasks product) (opened (book_of product) (sealed product_sum)))
    ((store 1 eight, stored First) ∷ (publish (sealed product_whole), sent) ∷ (ack, acked) ∷ (take, taken (Some (sealed product_sum))) ∷ ys)
    ≡ left_after (worker builtin_tasks product) (opens (worker builtin_tasks product) (Some product_sum)) ys
product_state_2 ys = product_state_1 ((store 1 eight, stored First) ∷ (publish (sealed product_whole), sent) ∷ (ack, acked)
    ∷ (take, taken (Some (sealed product_sum)))
    ∷ ys) ∙ ap (λ o. left_after (worker builtin_tasks product) (opens (worker builtin_tasks product) o) ys) first_opens

product_state_3 : (ys : List (AskedAndAnswered Envelope))
    → left_after (worker builtin_tasks product) (opens (worker builtin_tasks product) (opened (book_of product) (sealed product_sum)))
    ((store 1 eight, stored First) ∷ (publish (sealed product_whole), sent) ∷ (ack, acked) ∷ (take, taken (Some (sealed product_sum)))
    ∷ (store 1 eight, stored Again)
    ∷ (ack, acked) ∷ (take, taken (Some (sealed product_whole))) ∷ ys)
    ≡ left_after (worker builtin_tasks product) (opens (worker builtin_tasks product) (Some product_whole)) ys
product_state_3 ys = product_state_2 ((store 1 eight, stored Again) ∷ (ack, acked) ∷ (take, taken (Some (sealed product_whole))) ∷ ys)
    ∙ ap (λ o. left_after (worker builtin_tasks product) (opens (worker builtin_tasks product) o) ys) second_opens

product_state_4 : (ys : List (AskedAndAnswered Envelope))
    → left_after (worker builtin_tasks product) (opens (worker builtin_tasks product) (opened (book_of product) (sealed product_sum)))
    ((store 1 eight, stored First) ∷ (publish (sealed product_whole), sent) ∷ (ack, acked) ∷ (take, taken (Some (sealed product_sum)))
    ∷ (store 1 eight, stored Again)
    ∷ (ack, acked) ∷ (take, taken (Some (sealed product_whole))) ∷ (store 2 sixty_four, stored First) ∷ (ack, acked) ∷ (take, taken (Some (sealed product_sum)))
    ∷ ys) ≡ left_after (worker builtin_tasks product) (opens (worker builtin_tasks product) (Some product_sum)) ys
product_state_4 ys = product_state_3 ((store 2 sixty_four, stored First) ∷ (ack, acked) ∷ (take, taken (Some (sealed product_sum))) ∷ ys)
    ∙ ap (λ o. left_after (worker builtin_tasks product) (opens (worker builtin_tasks product) o) ys) first_opens

abbrev product_0 : List Step
product_0 = []

abbrev product_1 : List Step
product_1 = product_0 ++ (1, (take, taken (Some (sealed product_sum)))) ∷ []

abbrev product_2 : List Step
product_2 = (product_1 ++ redelivery 1 (sealed product_sum) ∷ []) ++ (1, (store 1 eight, stored First)) ∷ []

abbrev product_3 : List Step
product_3 = product_2 ++ (1, (publish (sealed product_whole), sent)) ∷ []

abbrev product_4 : List Step
product_4 = (product_3 ++ redelivery 1 (sealed product_sum) ∷ []) ++ (1, (ack, acked)) ∷ []

abbrev product_5 : List Step
product_5 = product_4 ++ (1, (take, taken (Some (sealed product_sum)))) ∷ []

abbrev product_6 : List Step
product_6 = product_5 ++ (1, (store 1 eight, stored Again)) ∷ []

abbrev product_7 : List Step
product_7 = product_6 ++ (1, (ack, acked)) ∷ []

abbrev product_8 : List Step
product_8 = product_7 ++ (1, (take, taken (Some (sealed product_whole)))) ∷ []

abbrev product_9 : List Step
product_9 = product_8 ++ (1, (store 2 sixty_four, stored First)) ∷ []

abbrev product_10 : List Step
product_10 = product_9 ++ (1, (ack, acked)) ∷ []

abbrev product_11 : List Step
product_11 = product_10 ++ (1, (take, taken (Some (sealed product_sum)))) ∷ []

abbrev product_12 : List Step
product_12 = product_11 ++ (1, (store 1 eight, stored Again)) ∷ []

abbrev product_13 : List Step
product_13 = product_12 ++ (1, (ack, acked)) ∷ []

abbrev product_14 : List Step
product_14 = product_13 ++ (1, (take, taken None)) ∷ []

abbrev product_15 : List Step
product_15 = product_14 ++ (1, (core.rest, rested false)) ∷ []

product_over : Answers builtin_tasks product 1 product_14 core.rest (rested false)
product_over = ap (λ s. is_inside s || false) (sym (product_state_4 ((store 1 eight, stored Again) ∷ (ack, acked) ∷ (take, taken None) ∷ [])))

product_from_14 : TurnedAgain builtin_tasks product 1 product_14 ([]) (1 ∷ []) ((1, (core.rest, rested false)) ∷ []) ([])
product_from_14 = one_taken product product_14 ([]) ([]) core.rest (rested false) ([]) ([]) _ None
    (product_state_4 ((store 1 eight, stored Again) ∷ (ack, acked) ∷ (take, taken None) ∷ []))
    (ap (λ s. point product s (holds product_14 1))
    (product_state_4 ((store 1 eight, stored Again) ∷ (ack, acked) ∷ (take, taken None) ∷ []))) refl tt refl product_over no_turn

product_from_13 : TurnedAgain builtin_tasks product 1 product_13 ([]) (1 ∷ 1 ∷ []) ((1, (take, taken None)) ∷ (1, (core.rest, rested false)) ∷ []) ([])
product_from_13 = one_taken product product_13 ([]) ([]) take (taken None) (1 ∷ []) ((1, (core.rest, rested false)) ∷ []) _ None
    (product_state_4 ((store 1 eight, stored Again) ∷ (ack, acked) ∷ []))
    (ap (λ s. point product s (holds product_13 1)) (product_state_4 ((store 1 eight, stored Again) ∷ (ack, acked) ∷ []))) refl tt refl refl product_from_14

product_from_12 : TurnedAgain builtin_tasks product 1 product_12 ([]) (1 ∷ 1 ∷ 1 ∷ [])
    ((1, (ack, acked)) ∷ (1, (take, taken None)) ∷ (1, (core.rest, rested false)) ∷ []) ([])
product_from_12 = one_taken product product_12 ([]) ([]) ack acked (1 ∷ 1 ∷ []) ((1, (take, taken None)) ∷ (1, (core.rest, rested false))
    ∷ []) _ (Some (1, Late))
    (product_state_4 ((store 1 eight, stored Again)
    ∷ [])) (ap (λ s. point product s (holds product_12 1)) (product_state_4 ((store 1 eight, stored Again) ∷ []))
    ∙ ap (point_of product Late) first_opens) refl tt refl tt product_from_13

product_from_11 : TurnedAgain builtin_tasks product 1 product_11 ([]) (1 ∷ 1 ∷ 1 ∷ 1 ∷ [])
    ((1, (store 1 eight, stored Again)) ∷ (1, (ack, acked)) ∷ (1, (take, taken None)) ∷ (1, (core.rest, rested false)) ∷ []) ([])
product_from_11 = one_taken product product_11 ([]) ([]) (store 1 eight) (stored Again) (1 ∷ 1 ∷ 1 ∷ [])
    ((1, (ack, acked)) ∷ (1, (take, taken None)) ∷ (1, (core.rest, rested false)) ∷ []) _ (Some (1, Early)) (product_state_4 ([]))
    (ap (λ s. point product s (holds product_11 1)) (product_state_4 ([])) ∙ ap (point_of product Early) first_opens) refl tt refl refl product_from_12

product_from_10 : TurnedAgain builtin_tasks product 1 product_10 ([]) (1 ∷ 1 ∷ 1 ∷ 1 ∷ 1 ∷ [])
    ((1, (take, taken (Some (sealed product_sum)))) ∷ (1, (store 1 eight, stored Again)) ∷ (1, (ack, acked)) ∷ (1, (take, taken None))
    ∷ (1, (core.rest, rested false))
    ∷ []) ([])
product_from_10 = one_taken product product_10 ([]) ([]) take (taken (Some (sealed product_sum))) (1 ∷ 1 ∷ 1 ∷ 1 ∷ [])
    ((1, (store 1 eight, stored Again)) ∷ (1, (ack, acked)) ∷ (1, (take, taken None)) ∷ (1, (core.rest, rested false)) ∷ []) _ None
    (product_state_3 ((store 2 sixty_four, stored First) ∷ (ack, acked) ∷ []))
    (ap (λ s. point product s (holds product_10 1)) (product_state_3 ((store 2 sixty_four, stored First) ∷ (ack, acked)
    ∷ []))) refl tt refl refl product_from_11

product_from_9 : TurnedAgain builtin_tasks product 1 product_9 ([]) (1 ∷ 1 ∷ 1 ∷ 1 ∷ 1 ∷ 1 ∷ [])
    ((1, (ack, acked)) ∷ (1, (take, taken (Some (sealed product_sum)))) ∷ (1, (store 1 eight, stored Again)) ∷ (1, (ack, acked)) ∷ (1, (take, taken None))
    ∷ (1, (core.rest, rested false)) ∷ []) ([])
product_from_9 = one_taken product product_9 ([]) ([]) ack acked (1 ∷ 1 ∷ 1 ∷ 1 ∷ 1 ∷ [])
    ((1, (take, taken (Some (sealed product_sum)))) ∷ (1, (store 1 eight, stored Again)) ∷ (1, (ack, acked)) ∷ (1, (take, taken None))
    ∷ (1, (core.rest, rested false))
    ∷ []) _ (Some (2, Late)) (product_state_3 ((store 2 sixty_four, stored First) ∷ []))
    (ap (λ s. point product s (holds product_9 1)) (product_state_3 ((store 2 sixty_four, stored First) ∷ []))
    ∙ ap (point_of product Late) second_opens) refl tt refl tt product_from_10

product_from_8 : TurnedAgain builtin_tasks product 1 product_8 ([]) (1 ∷ 1 ∷ 1 ∷ 1 ∷ 1 ∷ 1 ∷ 1 ∷ [])
    ((1, (store 2 sixty_four, stored First)) ∷ (1, (ack, acked)) ∷ (1, (take, taken (Some (sealed product_sum)))) ∷ (1, (store 1 eight, stored Again))
    ∷ (1, (ack, acked)) ∷ (1, (take, taken None)) ∷ (1, (core.rest, rested false)) ∷ []) ([])
product_from_8 = one_taken product product_8 ([]) ([]) (store 2 sixty_four) (stored First) (1 ∷ 1 ∷ 1 ∷ 1 ∷ 1 ∷ 1 ∷ [])
    ((1, (ack, acked)) ∷ (1, (take, taken (Some (sealed product_sum)))) ∷ (1, (store 1 eight, stored Again)) ∷ (1, (ack, acked)) ∷ (1, (take, taken None))
    ∷ (1, (core.rest, rested false)) ∷ []) _ (Some (2, Early)) (product_state_3 ([])) (ap (λ s. point product s (holds product_8 1)) (product_state_3 ([]))
    ∙ ap (point_of product Early) second_opens) refl tt refl refl product_from_9

product_from_7 : TurnedAgain builtin_tasks product 1 product_7 ([]) (1 ∷ 1 ∷ 1 ∷ 1 ∷ 1 ∷ 1 ∷ 1 ∷ 1 ∷ [])
    ((1, (take, taken (Some (sealed product_whole)))) ∷ (1, (store 2 sixty_four, stored First)) ∷ (1, (ack, acked))
    ∷ (1, (take, taken (Some (sealed product_sum))))
    ∷ (1, (store 1 eight, stored Again)) ∷ (1, (ack, acked)) ∷ (1, (take, taken None)) ∷ (1, (core.rest, rested false)) ∷ []) ([])
product_from_7 = one_taken product product_7 ([]) ([]) take (taken (Some (sealed product_whole))) (1 ∷ 1 ∷ 1 ∷ 1 ∷ 1 ∷ 1 ∷ 1 ∷ [])
    ((1, (store 2 sixty_four, stored First)) ∷ (1, (ack, acked)) ∷ (1, (take, taken (Some (sealed product_sum)))) ∷ (1, (store 1 eight, stored Again))
    ∷ (1, (ack, acked)) ∷ (1, (take, taken None)) ∷ (1, (core.rest, rested false))
    ∷ []) _ None (product_state_2 ((store 1 eight, stored Again) ∷ (ack, acked) ∷ []))
    (ap (λ s. point product s (holds product_7 1)) (product_state_2 ((store 1 eight, stored Again) ∷ (ack, acked) ∷ []))) refl tt refl refl product_from_8

product_from_6 : TurnedAgain builtin_tasks product 1 product_6 ([]) (1 ∷ 1 ∷ 1 ∷ 1 ∷ 1 ∷ 1 ∷ 1 ∷ 1 ∷ 1 ∷ [])
    ((1, (ack, acked)) ∷ (1, (take, taken (Some (sealed product_whole)))) ∷ (1, (store 2 sixty_four, stored First)) ∷ (1, (ack, acked))
    ∷ (1, (take, taken (Some (sealed product_sum)))) ∷ (1, (store 1 eight, stored Again)) ∷ (1, (ack, acked)) ∷ (1, (take, taken None))
    ∷ (1, (core.rest, rested false)) ∷ []) ([])
product_from_6 = one_taken product product_6 ([]) ([]) ack acked (1 ∷ 1 ∷ 1 ∷ 1 ∷ 1 ∷ 1 ∷ 1 ∷ 1 ∷ [])
    ((1, (take, taken (Some (sealed product_whole)))) ∷ (1, (store 2 sixty_four, stored First)) ∷ (1, (ack, acked))
    ∷ (1, (take, taken (Some (sealed product_sum))))
    ∷ (1, (store 1 eight, stored Again)) ∷ (1, (ack, acked)) ∷ (1, (take, taken None)) ∷ (1, (core.rest, rested false)) ∷ []) _ (Some (1, Late))
    (product_state_2 ((store 1 eight, stored Again) ∷ [])) (ap (λ s. point product s (holds product_6 1)) (product_state_2 ((store 1 eight, stored Again) ∷ []))
    ∙ ap (point_of product Late) first_opens) refl tt refl tt product_from_7

product_from_5 : TurnedAgain builtin_tasks product 1 product_5 ([]) (1 ∷ 1 ∷ 1 ∷ 1 ∷ 1 ∷ 1 ∷ 1 ∷ 1 ∷ 1 ∷ 1 ∷ [])
    ((1, (store 1 eight, stored Again)) ∷ (1, (ack, acked)) ∷ (1, (take, taken (Some (sealed product_whole)))) ∷ (1, (store 2 sixty_four, stored First))
    ∷ (1, (ack, acked)) ∷ (1, (take, taken (Some (sealed product_sum)))) ∷ (1, (store 1 eight, stored Again)) ∷ (1, (ack, acked)) ∷ (1, (take, taken None))
    ∷ (1, (core.rest, rested false)) ∷ []) ([])
product_from_5 = one_taken product product_5 ([]) ([]) (store 1 eight) (stored Again) (1 ∷ 1 ∷ 1 ∷ 1 ∷ 1 ∷ 1 ∷ 1 ∷ 1 ∷ 1 ∷ [])
    ((1, (ack, acked)) ∷ (1, (take, taken (Some (sealed product_whole)))) ∷ (1, (store 2 sixty_four, stored First)) ∷ (1, (ack, acked))
    ∷ (1, (take, taken (Some (sealed product_sum)))) ∷ (1, (store 1 eight, stored Again)) ∷ (1, (ack, acked)) ∷ (1, (take, taken None))
    ∷ (1, (core.rest, rested false)) ∷ []) _ (Some (1, Early)) (product_state_2 ([])) (ap (λ s. point product s (holds product_5 1)) (product_state_2 ([]))
    ∙ ap (point_of product Early) first_opens) refl tt refl refl product_from_6

product_from_4 : TurnedAgain builtin_tasks product 1 product_4 ([]) (1 ∷ 1 ∷ 1 ∷ 1 ∷ 1 ∷ 1 ∷ 1 ∷ 1 ∷ 1 ∷ 1 ∷ 1 ∷ [])
    ((1, (take, taken (Some (sealed product_sum)))) ∷ (1, (store 1 eight, stored Again)) ∷ (1, (ack, acked)) ∷ (1, (take, taken (Some (sealed product_whole))))
    ∷ (1, (store 2 sixty_four, stored First)) ∷ (1, (ack, acked)) ∷ (1, (take, taken (Some (sealed product_sum)))) ∷ (1, (store 1 eight, stored Again))
    ∷ (1, (ack, acked)) ∷ (1, (take, taken None)) ∷ (1, (core.rest, rested false)) ∷ []) ([])
product_from_4 = one_taken product product_4 ([]) ([]) take (taken (Some (sealed product_sum))) (1 ∷ 1 ∷ 1 ∷ 1 ∷ 1 ∷ 1 ∷ 1 ∷ 1 ∷ 1 ∷ 1 ∷ [])
    ((1, (store 1 eight, stored Again)) ∷ (1, (ack, acked)) ∷ (1, (take, taken (Some (sealed product_whole)))) ∷ (1, (store 2 sixty_four, stored First))
    ∷ (1, (ack, acked)) ∷ (1, (take, taken (Some (sealed product_sum)))) ∷ (1, (store 1 eight, stored Again)) ∷ (1, (ack, acked)) ∷ (1, (take, taken None))
    ∷ (1, (core.rest, rested false)) ∷ []) _ None (product_state_1 ((store 1 eight, stored First) ∷ (publish (sealed product_whole), sent) ∷ (ack, acked) ∷ []))
    (ap (λ s. point product s (holds product_4 1))
    (product_state_1 ((store 1 eight, stored First) ∷ (publish (sealed product_whole), sent) ∷ (ack, acked) ∷ []))) refl tt refl refl product_from_5

product_from_3 : TurnedAgain builtin_tasks product 1 product_3 ((1, Late) ∷ []) (1 ∷ 1 ∷ 1 ∷ 1 ∷ 1 ∷ 1 ∷ 1 ∷ 1 ∷ 1 ∷ 1 ∷ 1 ∷ 1 ∷ [])
    (redelivery 1 (sealed product_sum) ∷ (1, (ack, acked)) ∷ (1, (take, taken (Some (sealed product_sum)))) ∷ (1, (store 1 eight, stored Again))
    ∷ (1, (ack, acked)) ∷ (1, (take, taken (Some (sealed product_whole)))) ∷ (1, (store 2 sixty_four, stored First)) ∷ (1, (ack, acked))
    ∷ (1, (take, taken (Some (sealed product_sum)))) ∷ (1, (store 1 eight, stored Again)) ∷ (1, (ack, acked)) ∷ (1, (take, taken None))
    ∷ (1, (core.rest, rested false)) ∷ []) ([])
product_from_3 = one_spent product product_3 ((1, Late) ∷ []) ([]) (sealed product_sum) ack acked (1 ∷ 1 ∷ 1 ∷ 1 ∷ 1 ∷ 1 ∷ 1 ∷ 1 ∷ 1 ∷ 1 ∷ 1 ∷ [])
    ((1, (take, taken (Some (sealed product_sum)))) ∷ (1, (store 1 eight, stored Again)) ∷ (1, (ack, acked)) ∷ (1, (take, taken (Some (sealed product_whole))))
    ∷ (1, (store 2 sixty_four, stored First)) ∷ (1, (ack, acked)) ∷ (1, (take, taken (Some (sealed product_sum)))) ∷ (1, (store 1 eight, stored Again))
    ∷ (1, (ack, acked)) ∷ (1, (take, taken None)) ∷ (1, (core.rest, rested false)) ∷ []) _ (Some (1, Late))
    (product_state_1 ((store 1 eight, stored First) ∷ (publish (sealed product_whole), sent) ∷ []))
    (ap (λ s. point product s (holds product_3 1)) (product_state_1 ((store 1 eight, stored First) ∷ (publish (sealed product_whole), sent) ∷ []))
    ∙ ap (point_of product Late) first_opens) refl refl tt refl tt product_from_4

product_from_2 : TurnedAgain builtin_tasks product 1 product_2 ((1, Late) ∷ []) (1 ∷ 1 ∷ 1 ∷ 1 ∷ 1 ∷ 1 ∷ 1 ∷ 1 ∷ 1 ∷ 1 ∷ 1 ∷ 1 ∷ 1 ∷ [])
    ((1, (publish (sealed product_whole), sent)) ∷ redelivery 1 (sealed product_sum) ∷ (1, (ack, acked))
    ∷ (1, (take, taken (Some (sealed product_sum))))
    ∷ (1, (store 1 eight, stored Again)) ∷ (1, (ack, acked)) ∷ (1, (take, taken (Some (sealed product_whole)))) ∷ (1, (store 2 sixty_four, stored First))
    ∷ (1, (ack, acked)) ∷ (1, (take, taken (Some (sealed product_sum)))) ∷ (1, (store 1 eight, stored Again)) ∷ (1, (ack, acked)) ∷ (1, (take, taken None))
    ∷ (1, (core.rest, rested false)) ∷ []) ([])
product_from_2 = one_taken product product_2 ((1, Late) ∷ []) ([]) (publish (sealed product_whole)) sent (1 ∷ 1 ∷ 1 ∷ 1 ∷ 1 ∷ 1 ∷ 1 ∷ 1 ∷ 1 ∷ 1 ∷ 1 ∷ 1 ∷ [])
    (redelivery 1 (sealed product_sum) ∷ (1, (ack, acked)) ∷ (1, (take, taken (Some (sealed product_sum)))) ∷ (1, (store 1 eight, stored Again))
    ∷ (1, (ack, acked)) ∷ (1, (take, taken (Some (sealed product_whole)))) ∷ (1, (store 2 sixty_four, stored First)) ∷ (1, (ack, acked))
    ∷ (1, (take, taken (Some (sealed product_sum)))) ∷ (1, (store 1 eight, stored Again)) ∷ (1, (ack, acked)) ∷ (1, (take, taken None))
    ∷ (1, (core.rest, rested false)) ∷ []) _ None (product_state_1 ((store 1 eight, stored First) ∷ []))
    (ap (λ s. point product s (holds product_2 1)) (product_state_1 ((store 1 eight, stored First) ∷ []))) refl second_back refl refl product_from_3

product_from_1 : TurnedAgain builtin_tasks product 1 product_1 ((1, Early) ∷ (1, Late) ∷ []) (1 ∷ 1 ∷ 1 ∷ 1 ∷ 1 ∷ 1 ∷ 1 ∷ 1 ∷ 1 ∷ 1 ∷ 1 ∷ 1 ∷ 1 ∷ 1 ∷ [])
    (redelivery 1 (sealed product_sum) ∷ (1, (store 1 eight, stored First)) ∷ (1, (publish (sealed product_whole), sent))
    ∷ redelivery 1 (sealed product_sum) ∷ (1, (ack, acked)) ∷ (1, (take, taken (Some (sealed product_sum)))) ∷ (1, (store 1 eight, stored Again))
    ∷ (1, (ack, acked)) ∷ (1, (take, taken (Some (sealed product_whole)))) ∷ (1, (store 2 sixty_four, stored First)) ∷ (1, (ack, acked))
    ∷ (1, (take, taken (Some (sealed product_sum)))) ∷ (1, (store 1 eight, stored Again)) ∷ (1, (ack, acked)) ∷ (1, (take, taken None))
    ∷ (1, (core.rest, rested false)) ∷ []) ([])
product_from_1 = one_spent product product_1 ((1, Early) ∷ (1, Late) ∷ []) ([]) (sealed product_sum) (store 1 eight) (stored First)
    (1 ∷ 1 ∷ 1 ∷ 1 ∷ 1 ∷ 1 ∷ 1 ∷ 1 ∷ 1 ∷ 1 ∷ 1 ∷ 1 ∷ 1 ∷ []) ((1, (publish (sealed product_whole), sent)) ∷ redelivery 1 (sealed product_sum)
    ∷ (1, (ack, acked)) ∷ (1, (take, taken (Some (sealed product_sum)))) ∷ (1, (store 1 eight, stored Again)) ∷ (1, (ack, acked))
    ∷ (1, (take, taken (Some (sealed product_whole)))) ∷ (1, (store 2 sixty_four, stored First)) ∷ (1, (ack, acked))
    ∷ (1, (take, taken (Some (sealed product_sum)))) ∷ (1, (store 1 eight, stored Again)) ∷ (1, (ack, acked)) ∷ (1, (take, taken None))
    ∷ (1, (core.rest, rested false)) ∷ []) _ (Some (1, Early)) (product_state_1 ([])) (ap (λ s. point product s (holds product_1 1)) (product_state_1 ([]))
    ∙ ap (point_of product Early) first_opens) refl refl tt refl refl product_from_2

product_from_0 : TurnedAgain builtin_tasks product 1 product_0 ((1, Early) ∷ (1, Late) ∷ []) (1 ∷ 1 ∷ 1 ∷ 1 ∷ 1 ∷ 1 ∷ 1 ∷ 1 ∷ 1 ∷ 1 ∷ 1 ∷ 1 ∷ 1 ∷ 1 ∷ 1 ∷ [])
    ((1, (take, taken (Some (sealed product_sum)))) ∷ redelivery 1 (sealed product_sum) ∷ (1, (store 1 eight, stored First))
    ∷ (1, (publish (sealed product_whole), sent)) ∷ redelivery 1 (sealed product_sum) ∷ (1, (ack, acked))
    ∷ (1, (take, taken (Some (sealed product_sum))))
    ∷ (1, (store 1 eight, stored Again)) ∷ (1, (ack, acked)) ∷ (1, (take, taken (Some (sealed product_whole)))) ∷ (1, (store 2 sixty_four, stored First))
    ∷ (1, (ack, acked)) ∷ (1, (take, taken (Some (sealed product_sum)))) ∷ (1, (store 1 eight, stored Again)) ∷ (1, (ack, acked)) ∷ (1, (take, taken None))
    ∷ (1, (core.rest, rested false)) ∷ []) ([])
product_from_0 = one_taken product product_0 ((1, Early) ∷ (1, Late) ∷ []) ([]) take (taken (Some (sealed product_sum)))
    (1 ∷ 1 ∷ 1 ∷ 1 ∷ 1 ∷ 1 ∷ 1 ∷ 1 ∷ 1 ∷ 1 ∷ 1 ∷ 1 ∷ 1 ∷ 1 ∷ [])
    (redelivery 1 (sealed product_sum) ∷ (1, (store 1 eight, stored First)) ∷ (1, (publish (sealed product_whole), sent))
    ∷ redelivery 1 (sealed product_sum) ∷ (1, (ack, acked)) ∷ (1, (take, taken (Some (sealed product_sum)))) ∷ (1, (store 1 eight, stored Again))
    ∷ (1, (ack, acked)) ∷ (1, (take, taken (Some (sealed product_whole)))) ∷ (1, (store 2 sixty_four, stored First)) ∷ (1, (ack, acked))
    ∷ (1, (take, taken (Some (sealed product_sum)))) ∷ (1, (store 1 eight, stored Again)) ∷ (1, (ack, acked)) ∷ (1, (take, taken None))
    ∷ (1, (core.rest, rested false)) ∷ []) _ None refl refl refl tt refl refl product_from_1

product_ends : AllEnded builtin_tasks product 1 product_15
product_ends p w = let same : 1 ≡ p = omega (arith, w.0, w.1) in
    subst (HasEnded builtin_tasks product product_15) same
    (ap (ask (worker builtin_tasks product))
    (product_state_4 ((store 1 eight, stored Again) ∷ (ack, acked) ∷ (take, taken None) ∷ (core.rest, rested false) ∷ [])))

pub product_stands : (r : RanAgain builtin_tasks product 1 [] both_points) × (r.steps ≡ product_steps) × (agains_in r.steps ≡ 2)
product_stands = (
  record {
    opens_back = (
      first_back,
      tt,
    );
    turns = rounds 1 15;
    further = 15;
    follow = refl;
    steps = product_steps;
    rest = [];
    turned = product_from_0;
    ended = product_ends;
  },
  refl,
  refl,
)

-- ---- quotient

quotient_state_1 : (ys : List (AskedAndAnswered Envelope))
    → left_after (worker builtin_tasks quotient) (opens (worker builtin_tasks quotient) (opened (book_of quotient) (sealed quotient_linked))) ys
    ≡ left_after (worker builtin_tasks quotient) (opens (worker builtin_tasks quotient) (Some quotient_linked)) ys
quotient_state_1 ys = ap (λ o. left_after (worker builtin_tasks quotient) (opens (worker builtin_tasks quotient) o) ys) linked_opens

abbrev quotient_0 : List Step
quotient_0 = []

abbrev quotient_1 : List Step
quotient_1 = quotient_0 ++ (1, (take, taken (Some (sealed quotient_linked)))) ∷ []

abbrev quotient_2 : List Step
quotient_2 = quotient_1 ++ (1, (store 1 no_quotient, stored First)) ∷ []

abbrev quotient_3 : List Step
quotient_3 = quotient_2 ++ (1, (ack, acked)) ∷ []

abbrev quotient_4 : List Step
quotient_4 = quotient_3 ++ (1, (take, taken None)) ∷ []

abbrev quotient_5 : List Step
quotient_5 = quotient_4 ++ (1, (core.rest, rested false)) ∷ []

quotient_over : Answers builtin_tasks quotient 1 quotient_4 core.rest (rested false)
quotient_over = ap (λ s. is_inside s || false) (sym (quotient_state_1 ((store 1 no_quotient, stored First) ∷ (ack, acked) ∷ (take, taken None) ∷ [])))

quotient_from_4 : TurnedAgain builtin_tasks quotient 1 quotient_4 ((2, Early) ∷ []) (1 ∷ []) ((1, (core.rest, rested false)) ∷ []) ((2, Early) ∷ [])
quotient_from_4 = one_taken quotient quotient_4 ((2, Early) ∷ []) ((2, Early) ∷ []) core.rest (rested false) ([]) ([]) _ None
    (quotient_state_1 ((store 1 no_quotient, stored First) ∷ (ack, acked) ∷ (take, taken None) ∷ []))
    (ap (λ s. point quotient s (holds quotient_4 1))
    (quotient_state_1 ((store 1 no_quotient, stored First) ∷ (ack, acked) ∷ (take, taken None) ∷ []))) refl tt refl quotient_over no_turn

quotient_from_3 : TurnedAgain builtin_tasks quotient 1 quotient_3 ((2, Early) ∷ []) (1 ∷ 1 ∷ []) ((1, (take, taken None)) ∷ (1, (core.rest, rested false)) ∷ [])
    ((2, Early) ∷ [])
quotient_from_3 = one_taken quotient quotient_3 ((2, Early) ∷ []) ((2, Early) ∷ []) take (taken None) (1 ∷ []) ((1, (core.rest, rested false)) ∷ []) _ None
    (quotient_state_1 ((store 1 no_quotient, stored First) ∷ (ack, acked) ∷ []))
    (ap (λ s. point quotient s (holds quotient_3 1)) (quotient_state_1 ((store 1 no_quotient, stored First) ∷ (ack, acked)
    ∷ []))) refl tt refl refl quotient_from_4

quotient_from_2 : TurnedAgain builtin_tasks quotient 1 quotient_2 ((2, Early) ∷ []) (1 ∷ 1 ∷ 1 ∷ [])
    ((1, (ack, acked)) ∷ (1, (take, taken None)) ∷ (1, (core.rest, rested false)) ∷ []) ((2, Early) ∷ [])
quotient_from_2 = one_taken quotient quotient_2 ((2, Early) ∷ []) ((2, Early) ∷ []) ack acked (1 ∷ 1 ∷ [])
    ((1, (take, taken None)) ∷ (1, (core.rest, rested false)) ∷ []) _ (Some (1, Late)) (quotient_state_1 ((store 1 no_quotient, stored First) ∷ []))
    (ap (λ s. point quotient s (holds quotient_2 1)) (quotient_state_1 ((store 1 no_quotient, stored First) ∷ []))
    ∙ ap (point_of quotient Late) linked_opens) refl tt refl tt quotient_from_3

quotient_from_1 : TurnedAgain builtin_tasks quotient 1 quotient_1 ((2, Early) ∷ []) (1 ∷ 1 ∷ 1 ∷ 1 ∷ [])
    ((1, (store 1 no_quotient, stored First)) ∷ (1, (ack, acked)) ∷ (1, (take, taken None)) ∷ (1, (core.rest, rested false)) ∷ []) ((2, Early) ∷ [])
quotient_from_1 = one_taken quotient quotient_1 ((2, Early) ∷ []) ((2, Early) ∷ []) (store 1 no_quotient) (stored First) (1 ∷ 1 ∷ 1 ∷ [])
    ((1, (ack, acked)) ∷ (1, (take, taken None)) ∷ (1, (core.rest, rested false)) ∷ []) _ (Some (1, Early)) (quotient_state_1 ([]))
    (ap (λ s. point quotient s (holds quotient_1 1)) (quotient_state_1 ([])) ∙ ap (point_of quotient Early) linked_opens) refl tt refl refl quotient_from_2

quotient_from_0 : TurnedAgain builtin_tasks quotient 1 quotient_0 ((2, Early) ∷ []) (1 ∷ 1 ∷ 1 ∷ 1 ∷ 1 ∷ [])
    ((1, (take, taken (Some (sealed quotient_linked)))) ∷ (1, (store 1 no_quotient, stored First)) ∷ (1, (ack, acked)) ∷ (1, (take, taken None))
    ∷ (1, (core.rest, rested false)) ∷ []) ((2, Early) ∷ [])
quotient_from_0 = one_taken quotient quotient_0 ((2, Early) ∷ []) ((2, Early) ∷ []) take (taken (Some (sealed quotient_linked))) (1 ∷ 1 ∷ 1 ∷ 1 ∷ [])
    ((1, (store 1 no_quotient, stored First)) ∷ (1, (ack, acked)) ∷ (1, (take, taken None)) ∷ (1, (core.rest, rested false))
    ∷ []) _ None refl refl refl tt refl refl quotient_from_1

quotient_ends : AllEnded builtin_tasks quotient 1 quotient_5
quotient_ends p w = let same : 1 ≡ p = omega (arith, w.0, w.1) in
    subst (HasEnded builtin_tasks quotient quotient_5) same
    (ap (ask (worker builtin_tasks quotient))
    (quotient_state_1 ((store 1 no_quotient, stored First) ∷ (ack, acked) ∷ (take, taken None) ∷ (core.rest, rested false)
    ∷ [])))

pub quotient_stands : (r : RanAgain builtin_tasks quotient 1 [] link_entry) × (r.steps ≡ quotient_steps) × (agains_in r.steps ≡ 0)
quotient_stands = (
  record {
    opens_back = (linked_back, tt);
    turns = rounds 1 5;
    further = 5;
    follow = refl;
    steps = quotient_steps;
    rest = (2, Early)
        ∷ [];
    turned = quotient_from_0;
    ended = quotient_ends;
  },
  refl,
  refl,
)

-- ---- the near miss

no_store : (us : List ℕ) (rest : List Entry) → TurnedAgain builtin_tasks product 1 product_1 both_points us ((1, (store 1 eight, stored First)) ∷ []) rest → ⊥
no_store [] rest t = elim t [ ]
no_store (p ∷ us) rest (skips e t) = no_store us rest t
no_store (p ∷ us) rest (takes f b e h t) =
    let comes : comes_to builtin_tasks product product_1 1 ≡ Some (1, Early) = ap (λ s. point product s (holds product_1 1)) (product_state_1 [])
    ∙ ap (point_of product Early) first_opens in
    absurd (false≢true (sym f ∙ ap (λ x. wanted x both_points) comes))

pub none_unspent : (us : List ℕ) (rest : List Entry) → TurnedAgain builtin_tasks product 1 [] both_points us unspent rest → ⊥
none_unspent [] rest t = elim t [ ]
none_unspent (p ∷ us) rest (skips e t) = none_unspent us rest t
none_unspent (p ∷ us) rest (takes f b e h t) = no_store us rest t
