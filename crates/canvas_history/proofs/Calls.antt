-- Histories that are one entry longer, and callers that stay live.
use Rattle.std.proofs.Common.{◌≡◌, ◌⊎◌, ℕ, ◌==◌, Bool, true, false, cond, List, [], ◌∷◌, ◌++◌, refl, sym, ap, ◌∙◌, subst, inl, inr, ⊎_elim, append_assoc}
use Rattle.std.proofs.lemmas.Bool.{false≢true, eqb-true, eqb-false, eq-eqb}
use Rattle.canvas_history.specs.History.{Entry, split, join, calls, without, by_of, live_after, live, split_off, taken_in, heir_after, heir, Sole, AllOthers, state_after, replay, Allowed, LegalFrom, Legal}
use Rattle.canvas_history.proofs.Histories.{In, in_cases, in_here, in_left, in_right, in_append, in_without, live_append, named_append, live_named, state_append, legal_append, legal_left, legal_right, was_live as by_live, was_there, gone, IsOther, not_of}

pub not_true : (b : Bool) → (b ≡ true → ⊥) → b ≡ false
not_true true f = absurd (f refl)
not_true false f = refl

pub among_without : (q p : ℕ) (ks : List ℕ) → (q == p) ≡ false → In q ks → In q (without p ks)
among_without q p ks apart there = in_without q p ks there (λ e. eqb-false q p apart e)

pub among_last : (q : ℕ) (ks : List ℕ) (x : ℕ) → In q (ks ++ x ∷ []) → In q ks ⊎ (q ≡ x)
among_last q ks x there = ⊎_elim inl (λ t. ⊎_elim (λ (e : x ≡ q). inr (sym e)) (λ u. absurd (false≢true u)) (in_cases q x [] t)) (in_append q ks (x ∷ []) there)

pub among_here : (q : ℕ) (ks : List ℕ) → In q (ks ++ q ∷ [])
among_here q ks = in_right q ks (q ∷ []) (in_here q [])

pub among_more : (q : ℕ) (ks : List ℕ) (x : ℕ) → In q ks → In q (ks ++ x ∷ [])
among_more q ks x there = in_left q ks (x ∷ []) there

module _ {C R : Type 0} where
  pub live_push : (h : List (Entry C R)) (e : Entry C R) → live (h ++ e ∷ []) ≡ live_after (live h) e
  live_push h e = live_append (0 ∷ []) h (e ∷ [])

  pub heir_append : (h g : List (Entry C R)) (c : ℕ) → heir (h ++ g) c ≡ heir g (heir h c)
  heir_append [] g c = refl
  heir_append (x ∷ xs) g c = heir_append xs g (heir_after c x)

  pub others_push : (p : ℕ) (h : List (Entry C R)) (e : Entry C R) → AllOthers p h → IsOther p e → AllOthers p (h ++ e ∷ [])
  others_push p [] e n apart = (apart, tt)
  others_push p (x ∷ xs) e n apart = (n.0, others_push p xs e n.1 apart)

  pub others_at : (p : ℕ) (h : List (Entry C R)) (e : Entry C R) (g : List (Entry C R)) → AllOthers p (h ++ e ∷ g) → IsOther p e
  others_at p [] e g n = n.0
  others_at p (x ∷ xs) e g n = others_at p xs e g n.1

  -- the first caller, or one that a split names
  abbrev pub IsKnown : ℕ → List (Entry C R) → Type 0
  IsKnown p h = (p ≡ 0) ⊎ In p (split_off h)

  pub live_known : (h : List (Entry C R)) (p : ℕ) → In p (live h) → IsKnown p h
  live_known h p there = ⊎_elim (λ t. ⊎_elim (λ (z : 0 ≡ p). inl (sym z)) (λ u. absurd (false≢true u)) (in_cases p 0 [] t)) inr (live_named p (0 ∷ []) h there)

  pub known_more : (h g : List (Entry C R)) (p : ℕ) → IsKnown p h → IsKnown p (h ++ g)
  known_more h g p k = ⊎_elim inl (λ r. inr (subst (λ l. In p l) (sym (named_append h g)) (in_left p (split_off h) (split_off g) r))) k

module _ {C R S : Type 0} (first : S) (answer : S → C → R) (next : S → C → S) (May : List (Entry C R) → S → ℕ → C → Type 0) where
  abbrev Allows : List (Entry C R) → Entry C R → Type 0
  Allows = Allowed first answer next May

  abbrev LegalAfter : List (Entry C R) → List (Entry C R) → Type 0
  LegalAfter = LegalFrom first answer next May

  abbrev IsLegal : List (Entry C R) → Type 0
  IsLegal = Legal first answer next May

  pub state_push : (h : List (Entry C R)) (e : Entry C R)
      → replay first answer next May (h ++ e ∷ []) ≡ state_after first answer next May (replay first answer next May h) e
  state_push h e = state_append first answer next May first h (e ∷ [])

  -- one more entry that is allowed
  pub legal_push : (h : List (Entry C R)) (e : Entry C R) → IsLegal h → Allows h e → IsLegal (h ++ e ∷ [])
  legal_push h e legal good = legal_append first answer next May [] h (e ∷ []) legal (good, tt)

  pub legal_front : (h g : List (Entry C R)) → IsLegal (h ++ g) → IsLegal h
  legal_front h g legal = legal_left first answer next May [] h g legal

  pub legal_back : (h g : List (Entry C R)) → IsLegal (h ++ g) → LegalAfter h g
  legal_back h g legal = legal_right first answer next May [] h g legal

  -- each entry is allowed after those before it
  pub legal_at : (h : List (Entry C R)) (e : Entry C R) (g : List (Entry C R)) → IsLegal (h ++ e ∷ g) → Allows h e
  legal_at h e g legal = (legal_back h (e ∷ g) legal).0

  -- if only one caller is live, no entry of another can come
  pub alone : (h : List (Entry C R)) (p : ℕ) (between g : List (Entry C R)) → IsLegal (h ++ (between ++ g)) → AllOthers p between → Sole h p → between ≡ []
  alone h p [] g legal others sole = refl
  alone h p (e ∷ es) g legal others sole =
      let here : In (by_of e) (p ∷ []) = subst (λ cs. In (by_of e) cs) sole (by_live first answer next May h e (legal_at h e (es ++ g) legal)) in
      absurd (⊎_elim (λ (s : p ≡ by_of e). false≢true (sym (not_of (by_of e) p others.0) ∙ eq-eqb (by_of e) p (sym s))) (λ u. false≢true u)
      (in_cases (by_of e) p [] here))

  -- who is live at the end was live when it was known
  pub was_live : (h r : List (Entry C R)) (p : ℕ) → LegalAfter h r → IsKnown p h → In p (live (h ++ r)) → In p (live h)
  was_live h r p legal known alive = was_there first answer next May h r legal p known alive

  -- who is live at the end is its own heir
  pub own_heir : (h r : List (Entry C R)) (p : ℕ) → LegalAfter h r → In p (live (h ++ r)) → heir r p ≡ p
  own_heir h [] p legal alive = refl
  own_heir h (split a q ∷ es) p legal alive =
      own_heir (h ++ split a q ∷ []) es p legal.1 (subst (λ l. In p (live l)) (sym (append_assoc h (split a q ∷ []) es)) alive)
  own_heir h (join a q ∷ es) p legal alive =
      let stays : (p == q) ≡ false =
      not_true (p == q) (λ x. gone first answer next May h (join a q ∷ es) legal p
      (subst (λ k. In p (k ∷ taken_in es)) (eqb-true p q x) (in_here p (taken_in es))) alive) in
      ap (λ b. heir es (cond b a p)) stays
      ∙ own_heir (h ++ join a q ∷ []) es p legal.1 (subst (λ l. In p (live l)) (sym (append_assoc h (join a q ∷ []) es)) alive)
  own_heir h (calls a c r ∷ es) p legal alive =
      own_heir (h ++ calls a c r ∷ []) es p legal.1 (subst (λ l. In p (live l)) (sym (append_assoc h (calls a c r ∷ []) es)) alive)
