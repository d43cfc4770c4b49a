-- Histories in which only the first caller splits and joins: who is named and who is live, the numbers of those that it makes, and lists that begin with others.
use Rattle.std.proofs.Common.{◌≡◌, ℕ, suc, true, false, cond, not, List, [], ◌∷◌, ◌++◌, length, ◌==◌, refl, sym, ap, ◌∙◌, subst, append_assoc, append-nil, ⊎_elim}
use Rattle.std.proofs.lemmas.Bool.{false≢true, eqb-true, eq-eqb, ne_eqb, cases_Bool}
use Rattle.canvas_history.specs.History.{Entry, split, join, calls, without, by_of, live_from, live, split_off, taken_in, made_by, LegalFrom, Legal}
use Rattle.canvas_history.proofs.Histories.{StartsWith, In, in_cases, in_here, in_left, in_within, named_append, legal_append, made_here, made_off, OthersCall, named_first, was_live, gone}
use Rattle.canvas_history.specs.Answers.{splits_of, joins_of}

abbrev pub NoZero : List ℕ → Type 0
NoZero [] = Unit {0}
NoZero (q ∷ qs) = ((q == 0) ≡ false) × NoZero qs

without_zero : (q : ℕ) (rest : List ℕ) → (q == 0) ≡ false → without q (0 ∷ rest) ≡ 0 ∷ without q rest
without_zero q rest h = subst (λ b. cond (not b) (0 ∷ without q rest) (without q rest) ≡ 0 ∷ without q rest)
    (sym (ne_eqb 0 q (λ z. false≢true (sym h ∙ eq-eqb q 0 (sym z))))) refl

longer : (ks : List ℕ) (q : ℕ) → length (ks ++ q ∷ []) ≡ suc (length ks)
longer [] q = refl
longer (k ∷ ks) q = ap suc (longer ks q)

module _ (C R : Type 0) where
  -- what splits and joins of the first caller come to
  pub live_splits : (cs qs : List ℕ) → live_from {C = C} {R = R} cs (splits_of qs) ≡ cs ++ qs
  live_splits cs [] = sym (append-nil cs)
  live_splits cs (q ∷ qs) = live_splits (cs ++ q ∷ []) qs ∙ append_assoc cs (q ∷ []) qs

  pub live_joins : (qs rest : List ℕ) → NoZero qs → ((c : ℕ) → In c rest → In c qs) → live_from {C = C} {R = R} (0 ∷ rest) (joins_of qs) ≡ 0 ∷ []
  live_joins [] [] z h = refl
  live_joins [] (r ∷ rest) z h = absurd (false≢true (h r (in_here r rest)))
  live_joins (q ∷ qs) rest z h =
      ap (λ l. live_from {C = C} {R = R} l (joins_of qs)) (without_zero q rest z.0) ∙ live_joins qs (without q rest) z.1
      (λ c i. let t = in_within c q rest i in ⊎_elim (λ (e : q ≡ c). absurd (t.1 (sym e))) (λ u. u) (in_cases c q qs (h c t.0)))

  pub named_splits : (qs : List ℕ) → split_off {C = C} {R = R} (splits_of qs) ≡ qs
  named_splits [] = refl
  named_splits (q ∷ qs) = ap (λ l. q ∷ l) (named_splits qs)

  pub named_joins : (qs : List ℕ) → split_off {C = C} {R = R} (joins_of qs) ≡ []
  named_joins [] = refl
  named_joins (q ∷ qs) = named_joins qs

module _ {C R : Type 0} where
  pub starts_same : (log : List (Entry C R)) → StartsWith log log
  starts_same log = ([], sym (append-nil log))

  pub starts_then : (a b c : List (Entry C R)) → StartsWith a b → StartsWith b c → StartsWith a c
  starts_then a b c s t = (t.0 ++ s.0, s.1 ∙ (ap (λ l. l ++ s.0) t.1 ∙ append_assoc c t.0 s.0))

  pub others_left : (xs ys : List (Entry C R)) → OthersCall (xs ++ ys) → OthersCall xs
  others_left [] ys o = tt
  others_left (split p q ∷ xs) ys o = (o.0, others_left xs ys o.1)
  others_left (join p q ∷ xs) ys o = (o.0, others_left xs ys o.1)
  others_left (calls p c r ∷ xs) ys o = others_left xs ys o

  pub others_start : (a b : List (Entry C R)) → StartsWith a b → OthersCall a → OthersCall b
  others_start a b s o = others_left b s.0 (subst (λ l. OthersCall l) s.1 o)

  pub joined_append : (xs ys : List (Entry C R)) → taken_in (xs ++ ys) ≡ taken_in xs ++ taken_in ys
  joined_append [] ys = refl
  joined_append (split p q ∷ xs) ys = joined_append xs ys
  joined_append (join p q ∷ xs) ys = ap (λ l. q ∷ l) (joined_append xs ys)
  joined_append (calls p c r ∷ xs) ys = joined_append xs ys

  pub off_joins : (q : ℕ) (qs : List ℕ) → (q == 0) ≡ false → made_by {C = C} {R = R} q (joins_of qs) ≡ []
  off_joins q [] z = refl
  off_joins q (k ∷ qs) z = made_off q (join 0 k) (joins_of qs) (ne_eqb 0 q (λ e. false≢true (sym z ∙ eq-eqb q 0 (sym e)))) ∙ off_joins q qs z

  pub here_joins : (qs : List ℕ) → made_by {C = C} {R = R} 0 (joins_of qs) ≡ joins_of qs
  here_joins [] = refl
  here_joins (q ∷ qs) = made_here 0 (join 0 q) (joins_of qs) refl ∙ ap (λ l. join 0 q ∷ l) (here_joins qs)

  -- one more number
  pub one_more : (es : List (Entry C R)) (q : ℕ) → length (split_off (es ++ split 0 q ∷ [])) ≡ suc (length (split_off es))
  one_more es q = ap length (named_append es (split 0 q ∷ [])) ∙ longer (split_off es) q

  -- the number that a split gives, where only the first caller splits
  pub number_of_split : (log es : List (Entry C R)) (q : ℕ) → OthersCall log → made_by 0 log ≡ es ++ split 0 q ∷ [] → q ≡ length (split_off log)
      → q ≡ suc (length (split_off es))
  number_of_split log es q o own is =
      is ∙ (ap length (named_first log o ∙ ap (λ l. split_off l) own) ∙ one_more es q)

module _ {C R S : Type 0} (first : S) (answer : S → C → R) (next : S → C → S) (May : List (Entry C R) → S → ℕ → C → Type 0) where
  -- who has been taken in makes no further entry
  pub gone_quiet : (before es : List (Entry C R)) (c : ℕ) → Legal first answer next May before → LegalFrom first answer next May before es
      → In c (taken_in before) → made_by c es ≡ []
  gone_quiet before [] c k l j = refl
  gone_quiet before (e ∷ es) c k l j =
      let off : (by_of e == c) ≡ false = ⊎_elim (λ (h : (by_of e == c) ≡ true).
      absurd (gone first answer next May [] before k c j
      (subst (λ x. In x (live before)) (eqb-true (by_of e) c h) (was_live first answer next May before e l.0))))
      (λ (h : (by_of e == c) ≡ false). h) (cases_Bool (by_of e == c)) in
      made_off c e es off ∙ gone_quiet (before ++ e ∷ []) es c (legal_append first answer next May [] before (e ∷ []) k (l.0, tt)) l.1
      (subst (λ x. In c x) (sym (joined_append before (e ∷ []))) (in_left c (taken_in before) (taken_in (e ∷ [])) j))
