-- Lemmas on histories: of two lists put together, of the callers that are live, and of the entries that one caller has made.
use Rattle.std.proofs.Common.{◌≡◌, ℕ, Bool, true, false, cond, not, ◌||◌, List, [], ◌∷◌, ◌++◌, ◌==◌, ◌⊎◌, inl, inr, refl, sym, ap, ◌∙◌, subst, append_assoc, append-nil, ⊎_elim}
use Rattle.std.proofs.lemmas.Bool.{false≢true, eqb-true, eqb-false, eq-eqb, ne_eqb, cases_Bool}
use Rattle.canvas_history.specs.History.{Entry, split, join, calls, among, without, by_of, live_after, live_from, live, split_off, taken_in, made_by, AllJoined, NoneBy, AllOthers, Since, Sole, state_after, state_from, Allowed, LegalFrom, Legal}

-- the list has the number
abbrev pub In : ℕ → List ℕ → Type 0
In c cs = among c cs ≡ true

pub in_cases : (c k : ℕ) (ks : List ℕ) → In c (k ∷ ks) → (k ≡ c) ⊎ In c ks
in_cases c k ks h = ⊎_elim (λ (e : (k == c) ≡ true). inl (eqb-true k c e)) (λ (e : (k == c) ≡ false). inr (subst (λ b. (b || among c ks) ≡ true) e h))
    (cases_Bool (k == c))

pub in_here : (c : ℕ) (ks : List ℕ) → In c (c ∷ ks)
in_here c ks = rw (eq-eqb c c refl) refl

pub in_later : (c k : ℕ) (ks : List ℕ) → In c ks → In c (k ∷ ks)
in_later c k ks h = ⊎_elim (λ (e : (k == c) ≡ true). rw e refl) (λ (e : (k == c) ≡ false). rw e h) (cases_Bool (k == c))

pub in_left : (c : ℕ) (xs ys : List ℕ) → In c xs → In c (xs ++ ys)
in_left c [] ys h = absurd (false≢true h)
in_left c (x ∷ xs) ys h =
    ⊎_elim (λ (e : x ≡ c). subst (λ k. In c (k ∷ (xs ++ ys))) (sym e) (in_here c (xs ++ ys))) (λ t. in_later c x (xs ++ ys) (in_left c xs ys t))
    (in_cases c x xs h)

pub in_right : (c : ℕ) (xs ys : List ℕ) → In c ys → In c (xs ++ ys)
in_right c [] ys h = h
in_right c (x ∷ xs) ys h = in_later c x (xs ++ ys) (in_right c xs ys h)

pub in_append : (c : ℕ) (xs ys : List ℕ) → In c (xs ++ ys) → In c xs ⊎ In c ys
in_append c [] ys h = inr h
in_append c (x ∷ xs) ys h =
    ⊎_elim (λ (e : x ≡ c). inl (subst (λ k. In c (k ∷ xs)) (sym e) (in_here c xs)))
    (λ t. ⊎_elim (λ u. inl (in_later c x xs u)) (λ u. inr u) (in_append c xs ys t)) (in_cases c x (xs ++ ys) h)

-- what is left when q goes
pub in_without : (c q : ℕ) (xs : List ℕ) → In c xs → (c ≡ q → ⊥) → In c (without q xs)
in_without c q [] h n = h
in_without c q (x ∷ xs) h n =
    ⊎_elim (λ (e : (x == q) ≡ true).
    let t : In c xs = ⊎_elim (λ (s : x ≡ c). absurd (n (sym s ∙ eqb-true x q e))) (λ t. t) (in_cases c x xs h) in rw e (in_without c q xs t n))
    (λ (e : (x == q) ≡ false). rw e (⊎_elim (λ (s : x ≡ c). subst (λ k. In c (k ∷ without q xs)) (sym s) (in_here c (without q xs)))
    (λ t. in_later c x (without q xs) (in_without c q xs t n)) (in_cases c x xs h))) (cases_Bool (x == q))

pub in_within : (c q : ℕ) (xs : List ℕ) → In c (without q xs) → In c xs × (c ≡ q → ⊥)
in_within c q [] h = absurd (false≢true h)
in_within c q (x ∷ xs) h =
    ⊎_elim (λ (e : (x == q) ≡ true). let t = in_within c q xs (subst (λ b. among c (cond (not b) (x ∷ without q xs) (without q xs)) ≡ true) e h) in
    (in_later c x xs t.0, t.1))
    (λ (e : (x == q) ≡ false). ⊎_elim (λ (s : x ≡ c). (subst (λ k. In c (k ∷ xs)) (sym s) (in_here c xs), λ (u : c ≡ q). eqb-false x q e (s ∙ u)))
    (λ t. let r = in_within c q xs t in (in_later c x xs r.0, r.1))
    (in_cases c x (without q xs) (subst (λ b. among c (cond (not b) (x ∷ without q xs) (without q xs)) ≡ true) e h))) (cases_Bool (x == q))

-- one of a list of one
pub other_of : (c p : ℕ) → (c == p) ≡ false → among c (p ∷ []) ≡ false
other_of c p h = ⊎_elim (λ t. ⊎_elim (λ (e : p ≡ c). absurd (false≢true (sym h ∙ eq-eqb c p (sym e)))) (λ u. absurd (false≢true u)) (in_cases c p [] t))
    (λ f. f) (cases_Bool (among c (p ∷ [])))

pub not_of : (c p : ℕ) → among c (p ∷ []) ≡ false → (c == p) ≡ false
not_of c p h = ne_eqb c p (λ e. false≢true (sym h ∙ subst (λ k. In c (k ∷ [])) e (in_here c [])))

module _ {C R : Type 0} where
  -- the one list begins with the other
  abbrev pub StartsWith : List (Entry C R) → List (Entry C R) → Type 0
  StartsWith log seen = (rest : List (Entry C R)) × (log ≡ seen ++ rest)

  -- an entry by a caller other than p
  abbrev pub IsOther : ℕ → Entry C R → Type 0
  IsOther p e = among (by_of e) (p ∷ []) ≡ false

  pub live_append : (cs : List ℕ) (xs ys : List (Entry C R)) → live_from cs (xs ++ ys) ≡ live_from (live_from cs xs) ys
  live_append cs [] ys = refl
  live_append cs (x ∷ xs) ys = live_append (live_after cs x) xs ys

  pub named_append : (xs ys : List (Entry C R)) → split_off (xs ++ ys) ≡ split_off xs ++ split_off ys
  named_append [] ys = refl
  named_append (split p q ∷ xs) ys = ap (λ l. q ∷ l) (named_append xs ys)
  named_append (join p q ∷ xs) ys = named_append xs ys
  named_append (calls p c r ∷ xs) ys = named_append xs ys

  -- a live caller was live before, or is named by a split
  pub live_named : (c : ℕ) (cs : List ℕ) (es : List (Entry C R)) → In c (live_from cs es) → In c cs ⊎ In c (split_off es)
  live_named c cs [] h = inl h
  live_named c cs (split p q ∷ es) h =
      ⊎_elim (λ t. ⊎_elim (λ u. inl u)
      (λ u. inr (⊎_elim (λ (s : q ≡ c). subst (λ k. In c (k ∷ split_off es)) (sym s) (in_here c (split_off es))) (λ v. absurd (false≢true v))
      (in_cases c q [] u))) (in_append c cs (q ∷ []) t))
      (λ t. inr (in_later c q (split_off es) t)) (live_named c (cs ++ q ∷ []) es h)
  live_named c cs (join p q ∷ es) h = ⊎_elim (λ t. inl (in_within c q cs t).0) (λ t. inr t) (live_named c (without q cs) es h)
  live_named c cs (calls p d r ∷ es) h = live_named c cs es h

module _ {C R S : Type 0} (first : S) (answer : S → C → R) (next : S → C → S) (May : List (Entry C R) → S → ℕ → C → Type 0) where
  pub state_append : (s : S) (xs ys : List (Entry C R))
      → state_from first answer next May s (xs ++ ys) ≡ state_from first answer next May (state_from first answer next May s xs) ys
  state_append s [] ys = refl
  state_append s (x ∷ xs) ys = state_append (state_after first answer next May s x) xs ys

  pub legal_append : (before xs ys : List (Entry C R)) → LegalFrom first answer next May before xs → LegalFrom first answer next May (before ++ xs) ys
      → LegalFrom first answer next May before (xs ++ ys)
  legal_append before [] ys l m = subst (λ b. LegalFrom first answer next May b ys) (append-nil before) m
  legal_append before (x ∷ xs) ys l m =
      (l.0, legal_append (before ++ x ∷ []) xs ys l.1 (subst (λ b. LegalFrom first answer next May b ys) (sym (append_assoc before (x ∷ []) xs)) m))

  pub legal_left : (before xs ys : List (Entry C R)) → LegalFrom first answer next May before (xs ++ ys) → LegalFrom first answer next May before xs
  legal_left before [] ys l = tt
  legal_left before (x ∷ xs) ys l = (l.0, legal_left (before ++ x ∷ []) xs ys l.1)

  pub legal_right : (before xs ys : List (Entry C R)) → LegalFrom first answer next May before (xs ++ ys) → LegalFrom first answer next May (before ++ xs) ys
  legal_right before [] ys l = subst (λ b. LegalFrom first answer next May b ys) (sym (append-nil before)) l
  legal_right before (x ∷ xs) ys l =
      subst (λ b. LegalFrom first answer next May b ys) (append_assoc before (x ∷ []) xs) (legal_right (before ++ x ∷ []) xs ys l.1)

-- ---- the entries that one caller has made
module _ {C R : Type 0} where
  pub made_append : (p : ℕ) (xs ys : List (Entry C R)) → made_by p (xs ++ ys) ≡ made_by p xs ++ made_by p ys
  made_append p [] ys = refl
  made_append p (x ∷ xs) ys =
      ⊎_elim (λ (h : (by_of x == p) ≡ true). rw h (ap (λ l. x ∷ l) (made_append p xs ys)))
      (λ (h : (by_of x == p) ≡ false). rw h (made_append p xs ys)) (cases_Bool (by_of x == p))

  pub made_here : (p : ℕ) (x : Entry C R) (xs : List (Entry C R)) → by_of x ≡ p → made_by p (x ∷ xs) ≡ x ∷ made_by p xs
  made_here p x xs e = rw (eq-eqb (by_of x) p e) refl

  pub made_off : (p : ℕ) (x : Entry C R) (xs : List (Entry C R)) → (by_of x == p) ≡ false → made_by p (x ∷ xs) ≡ made_by p xs
  made_off p x xs e = rw e refl

  pub made_none : (p : ℕ) (cs : List ℕ) (xs : List (Entry C R)) → In p cs → NoneBy cs xs → made_by p xs ≡ []
  made_none p cs [] i n = refl
  made_none p cs (x ∷ xs) i n = made_off p x xs (ne_eqb (by_of x) p (λ z. false≢true (sym n.0 ∙ subst (λ k. In k cs) (sym z) i))) ∙ made_none p cs xs i n.1

  pub made_since : (p : ℕ) (cs : List ℕ) (log seen : List (Entry C R)) → In p cs → Since cs log seen → made_by p log ≡ made_by p seen
  made_since p cs log seen i s =
      ap (λ l. made_by p l) s.1 ∙ (made_append p seen s.0 ∙ (ap (λ l. made_by p seen ++ l) (made_none p cs s.0 i s.2) ∙ append-nil (made_by p seen)))

  pub made_others : (p : ℕ) (xs : List (Entry C R)) → AllOthers p xs → made_by p xs ≡ []
  made_others p xs o = made_none p (p ∷ []) xs (in_here p []) o

  -- only calls, no splits and no joins
  abbrev pub OnlyCalls : List (Entry C R) → Type 0
  OnlyCalls [] = Unit {0}
  OnlyCalls (split p q ∷ es) = ⊥
  OnlyCalls (join p q ∷ es) = ⊥
  OnlyCalls (calls p c r ∷ es) = OnlyCalls es

  -- splits and joins are the first caller's
  abbrev pub OthersCall : List (Entry C R) → Type 0
  OthersCall [] = Unit {0}
  OthersCall (split p q ∷ es) = (p ≡ 0) × OthersCall es
  OthersCall (join p q ∷ es) = (p ≡ 0) × OthersCall es
  OthersCall (calls p c r ∷ es) = OthersCall es

  pub only_right : (xs ys : List (Entry C R)) → OnlyCalls (xs ++ ys) → OnlyCalls ys
  only_right [] ys o = o
  only_right (split p q ∷ xs) ys o = absurd o
  only_right (join p q ∷ xs) ys o = absurd o
  only_right (calls p c r ∷ xs) ys o = only_right xs ys o

  -- then who is named, and who is live, the first caller's own entries say
  pub named_first : (es : List (Entry C R)) → OthersCall es → split_off es ≡ split_off (made_by 0 es)
  named_first [] o = refl
  named_first (split p q ∷ es) o = ap (λ l. q ∷ l) (named_first es o.1) ∙ sym (ap (λ l. split_off l) (made_here 0 (split p q) es o.0))
  named_first (join p q ∷ es) o = named_first es o.1 ∙ sym (ap (λ l. split_off l) (made_here 0 (join p q) es o.0))
  named_first (calls p c r ∷ es) o =
      ⊎_elim (λ (h : (p == 0) ≡ true). named_first es o ∙ sym (ap (λ l. split_off l) (made_here 0 (calls p c r) es (eqb-true p 0 h))))
      (λ (h : (p == 0) ≡ false). named_first es o ∙ sym (ap (λ l. split_off l) (made_off 0 (calls p c r) es h))) (cases_Bool (p == 0))

  pub live_first : (cs : List ℕ) (es : List (Entry C R)) → OthersCall es → live_from cs es ≡ live_from cs (made_by 0 es)
  live_first cs [] o = refl
  live_first cs (split p q ∷ es) o = live_first (cs ++ q ∷ []) es o.1 ∙ sym (ap (λ l. live_from cs l) (made_here 0 (split p q) es o.0))
  live_first cs (join p q ∷ es) o = live_first (without q cs) es o.1 ∙ sym (ap (λ l. live_from cs l) (made_here 0 (join p q) es o.0))
  live_first cs (calls p c r ∷ es) o =
      ⊎_elim (λ (h : (p == 0) ≡ true). live_first cs es o ∙ sym (ap (λ l. live_from cs l) (made_here 0 (calls p c r) es (eqb-true p 0 h))))
      (λ (h : (p == 0) ≡ false). live_first cs es o ∙ sym (ap (λ l. live_from cs l) (made_off 0 (calls p c r) es h))) (cases_Bool (p == 0))

  others_append : (xs ys : List (Entry C R)) → OthersCall xs → OthersCall ys → OthersCall (xs ++ ys)
  others_append [] ys o p = p
  others_append (split a q ∷ xs) ys o p = (o.0, others_append xs ys o.1 p)
  others_append (join a q ∷ xs) ys o p = (o.0, others_append xs ys o.1 p)
  others_append (calls a c r ∷ xs) ys o p = others_append xs ys o p

  not_only : (p : ℕ) (x : Entry C R) (xs ys : List (Entry C R)) → by_of x ≡ p → (OnlyCalls (x ∷ made_by p ys) → ⊥) → OnlyCalls (made_by p (xs ++ x ∷ ys)) → ⊥
  not_only p x xs ys e bad o =
      bad (subst (λ l. OnlyCalls l) (made_here p x ys e)
      (only_right (made_by p xs) (made_by p (x ∷ ys)) (subst (λ l. OnlyCalls l) (made_append p xs (x ∷ ys)) o)))

module _ {C R S : Type 0} (first : S) (answer : S → C → R) (next : S → C → S) (May : List (Entry C R) → S → ℕ → C → Type 0) where
  abbrev Ok : List (Entry C R) → List (Entry C R) → Type 0
  Ok before es = LegalFrom first answer next May before es

  pub was_live : (before : List (Entry C R)) (e : Entry C R) → Allowed first answer next May before e → In (by_of e) (live before)
  was_live before (split p q) a = a.0
  was_live before (join p q) a = a.0
  was_live before (calls p c r) a = a.0

  -- an entry's caller is the first, or was named
  pub was_named : (before : List (Entry C R)) (e : Entry C R) → Allowed first answer next May before e → (by_of e ≡ 0) ⊎ In (by_of e) (split_off before)
  was_named before e a =
      ⊎_elim (λ h. ⊎_elim (λ (s : 0 ≡ by_of e). inl (sym s)) (λ v. absurd (false≢true v)) (in_cases (by_of e) 0 [] h)) (λ h. inr h)
      (live_named (by_of e) (0 ∷ []) before (was_live before e a))

  -- a caller that no split has named has made no entry
  pub fresh_from : (q : ℕ) (before es : List (Entry C R)) → Ok before es → (q == 0) ≡ false → among q (split_off (before ++ es)) ≡ false → made_by q es ≡ []
  fresh_from q before [] l n f = refl
  fresh_from q before (e ∷ es) l n f =
      let off : (by_of e == q) ≡ false = ⊎_elim (λ (h : (by_of e == q) ≡ true).
      let same : by_of e ≡ q = eqb-true (by_of e) q h in
      absurd (⊎_elim (λ (z : by_of e ≡ 0). false≢true (sym n ∙ eq-eqb q 0 (sym same ∙ z)))
      (λ z. false≢true (sym f ∙ subst (λ l. In q l) (sym (named_append before (e ∷ es)))
      (in_left q (split_off before) (split_off (e ∷ es)) (subst (λ k. In k (split_off before)) same z)))) (was_named before e l.0)))
      (λ (h : (by_of e == q) ≡ false). h) (cases_Bool (by_of e == q)) in
      made_off q e es off ∙ fresh_from q (before ++ e ∷ []) es l.1 n (subst (λ l. among q (split_off l) ≡ false) (sym (append_assoc before (e ∷ []) es)) f)

  -- a caller that a split has just named has made no entry
  pub fresh_at : (p q : ℕ) (log : List (Entry C R)) → Legal first answer next May (log ++ split p q ∷ []) → (p == q) ≡ false
      → made_by q (log ++ split p q ∷ []) ≡ []
  fresh_at p q log l d =
      let a = (legal_right first answer next May [] log (split p q ∷ []) l).0 in
      made_append q log (split p q ∷ [])
      ∙ (ap (λ x. x ++ made_by q (split p q ∷ [])) (fresh_from q [] log (legal_left first answer next May [] log (split p q ∷ []) l) a.1 a.2)
      ∙ made_off q (split p q) [] d)

  abbrev pub Quiet : List (Entry C R) → Type 0
  Quiet l = (c : ℕ) → (c == 0) ≡ false → In c (split_off (made_by 0 l)) → OnlyCalls (made_by c l)

  by_first : (before es : List (Entry C R)) (x : Entry C R) → OthersCall before → Allowed first answer next May before x → Quiet (before ++ x ∷ es)
      → (OnlyCalls (x ∷ made_by (by_of x) es) → ⊥) → by_of x ≡ 0
  by_first before es x o a k bad =
      ⊎_elim (λ (z : by_of x ≡ 0). z) (λ z. ⊎_elim (λ (h : (by_of x == 0) ≡ true). eqb-true (by_of x) 0 h)
      (λ (h : (by_of x == 0) ≡ false).
      let mine : In (by_of x) (split_off (made_by 0 before)) = subst (λ l. In (by_of x) l) (named_first before o) z in
      let all : In (by_of x) (split_off (made_by 0 (before ++ x ∷ es))) = subst (λ l. In (by_of x) (split_off l)) (sym (made_append 0 before (x ∷ es)))
      (subst (λ l. In (by_of x) l) (sym (named_append (made_by 0 before) (made_by 0 (x ∷ es))))
      (in_left (by_of x) (split_off (made_by 0 before)) (split_off (made_by 0 (x ∷ es))) mine)) in
      absurd (not_only (by_of x) x before es refl bad (k (by_of x) h all))) (cases_Bool (by_of x == 0))) (was_named before x a)

  one : (before es : List (Entry C R)) (x : Entry C R) → OthersCall before → Allowed first answer next May before x → Quiet (before ++ x ∷ es)
      → OthersCall (x ∷ [])
  one before es (split p q) o a k = (by_first before es (split p q) o a k (λ b. b), tt)
  one before es (join p q) o a k = (by_first before es (join p q) o a k (λ b. b), tt)
  one before es (calls p c r) o a k = tt

  more : (x : Entry C R) (es : List (Entry C R)) → OthersCall (x ∷ []) → OthersCall es → OthersCall (x ∷ es)
  more (split p q) es o r = (o.0, r)
  more (join p q) es o r = (o.0, r)
  more (calls p c d) es o r = r

  -- where those whom the first caller has made only call, all splits and joins are the first caller's
  pub others_call : (before es : List (Entry C R)) → Ok before es → OthersCall before → Quiet (before ++ es) → OthersCall es
  others_call before [] l o h = tt
  others_call before (e ∷ es) l o h =
      let here : OthersCall (e ∷ []) = one before es e o l.0 h in
      more e es here (others_call (before ++ e ∷ []) es l.1 (others_append before (e ∷ []) o here)
      (subst (λ l. Quiet l) (sym (append_assoc before (e ∷ []) es)) h))

-- ---- the callers that a join has taken in
or_false : (a b : Bool) → (a || b) ≡ false → (a ≡ false) × (b ≡ false)
or_false true b h = absurd (false≢true (sym h))
or_false false b h = (refl, h)

no_members : (xs : List ℕ) → ((c : ℕ) → In c xs → ⊥) → xs ≡ []
no_members [] h = refl
no_members (x ∷ xs) h = absurd (h x (in_here x xs))

module _ {C R : Type 0} where
  still : (before : List (Entry C R)) (e : Entry C R) (c : ℕ) → (c ≡ 0) ⊎ In c (split_off before) → (c ≡ 0) ⊎ In c (split_off (before ++ e ∷ []))
  still before e c was = ⊎_elim (λ z. inl z)
      (λ z. inr (subst (λ l. In c l) (sym (named_append before (e ∷ []))) (in_left c (split_off before) (split_off (e ∷ [])) z))) was

  -- where no join takes in the first caller, it stays in front
  first_stays : (cs : List ℕ) (es : List (Entry C R)) → among 0 (taken_in es) ≡ false → live_from (0 ∷ cs) es ≡ 0 ∷ live_from cs es
  first_stays cs [] n = refl
  first_stays cs (split p q ∷ es) n = first_stays (cs ++ q ∷ []) es n
  first_stays cs (join p q ∷ es) n =
      let both = or_false (q == 0) (among 0 (taken_in es)) n in
      let apart : (0 == q) ≡ false = ne_eqb 0 q (λ z. false≢true (sym both.0 ∙ eq-eqb q 0 (sym z))) in
      ap (λ b. live_from (cond (not b) (0 ∷ without q cs) (without q cs)) es) apart ∙ first_stays (without q cs) es both.1
  first_stays cs (calls p c r ∷ es) n = first_stays cs es n

module _ {C R S : Type 0} (first : S) (answer : S → C → R) (next : S → C → S) (May : List (Entry C R) → S → ℕ → C → Type 0) where
  -- who was there already is named by no further split
  once : (before es : List (Entry C R)) → LegalFrom first answer next May before es → (c : ℕ) → (c ≡ 0) ⊎ In c (split_off before) → In c (split_off es) → ⊥
  once before [] l c was i = false≢true i
  once before (split p q ∷ es) l c was i =
      ⊎_elim (λ (s : q ≡ c). ⊎_elim (λ (z : c ≡ 0). false≢true (sym l.0.1 ∙ eq-eqb q 0 (s ∙ z)))
      (λ z. false≢true (sym l.0.2 ∙ subst (λ k. In k (split_off before)) (sym s) z)) was)
      (λ t. once (before ++ split p q ∷ []) es l.1 c (still before (split p q) c was) t) (in_cases c q (split_off es) i)
  once before (join p q ∷ es) l c was i = once (before ++ join p q ∷ []) es l.1 c (still before (join p q) c was) i
  once before (calls p d r ∷ es) l c was i = once (before ++ calls p d r ∷ []) es l.1 c (still before (calls p d r) c was) i

  -- who was there already, and is live later, was live
  pub was_there : (before es : List (Entry C R)) → LegalFrom first answer next May before es → (c : ℕ) → (c ≡ 0) ⊎ In c (split_off before)
      → In c (live (before ++ es)) → In c (live before)
  was_there before es l c was i =
      ⊎_elim (λ t. t) (λ t. absurd (once before es l c was t)) (live_named c (live before) es (subst (λ xs. In c xs) (live_append (0 ∷ []) before es) i))

  ended : (before : List (Entry C R)) (p q : ℕ) (es : List (Entry C R)) → LegalFrom first answer next May before (join p q ∷ es)
      → In q (live (before ++ join p q ∷ es)) → ⊥
  ended before p q es l i =
      let e : Entry C R = join p q in
      let after : List (Entry C R) = before ++ e ∷ [] in
      let now : In q (live_from (live after) es) =
      subst (λ xs. In q xs) (ap (λ k. live k) (sym (append_assoc before (e ∷ []) es)) ∙ live_append (0 ∷ []) after es) i in
      let was : (q ≡ 0) ⊎ In q (split_off before) =
      ⊎_elim (λ h. ⊎_elim (λ (s : 0 ≡ q). inl (sym s)) (λ v. absurd (false≢true v)) (in_cases q 0 [] h)) (λ h. inr h)
      (live_named q (0 ∷ []) before l.0.1) in
      ⊎_elim (λ t. (in_within q q (live before) (subst (λ xs. In q xs) (live_append (0 ∷ []) before (e ∷ [])) t)).1 refl)
      (λ t. once after es l.1 q (still before e q was) t) (live_named q (live after) es now)

  -- who has been taken in is no longer live
  pub gone : (before es : List (Entry C R)) → LegalFrom first answer next May before es → (c : ℕ) → In c (taken_in es) → In c (live (before ++ es)) → ⊥
  gone before [] l c j i = false≢true j
  gone before (split p q ∷ es) l c j i =
      gone (before ++ split p q ∷ []) es l.1 c j (subst (λ x. In c (live x)) (sym (append_assoc before (split p q ∷ []) es)) i)
  gone before (join p q ∷ es) l c j i =
      ⊎_elim (λ (s : q ≡ c). ended before p q es l (subst (λ k. In k (live (before ++ join p q ∷ es))) (sym s) i))
      (λ t. gone (before ++ join p q ∷ []) es l.1 c t (subst (λ x. In c (live x)) (sym (append_assoc before (join p q ∷ []) es)) i))
      (in_cases c q (taken_in es) j)
  gone before (calls p d r ∷ es) l c j i =
      gone (before ++ calls p d r ∷ []) es l.1 c j (subst (λ x. In c (live x)) (sym (append_assoc before (calls p d r ∷ []) es)) i)

  -- where each caller that was made has been taken in, and the first has not, no other is live
  pub all_joined : (log : List (Entry C R)) → Legal first answer next May log → AllJoined log → Sole log 0
  all_joined log l all =
      let front : live log ≡ 0 ∷ live_from [] log = first_stays [] log all.0 in
      front ∙ ap (λ xs. 0 ∷ xs) (no_members (live_from [] log) (λ c i.
      gone [] log l c (all.1 c (⊎_elim (λ t. absurd (false≢true t)) (λ t. t) (live_named c [] log i)))
      (subst (λ xs. In c xs) (sym front) (in_later c 0 (live_from [] log) i))))
