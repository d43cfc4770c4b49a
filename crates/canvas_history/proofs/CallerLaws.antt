-- What follows from the clauses of calls, for any object: of a caller's own entries, of callers just made, and of who is live.
use Rattle.std.proofs.Common.{◌≡◌, ℕ, false, List, [], ◌∷◌, ◌++◌, ◌==◌, refl, sym, ap, ◌∙◌, subst, append_assoc, append-nil, ⊎_elim}
use Rattle.std.proofs.lemmas.Bool.{false≢true, eq-eqb, ne_eqb}
use Rattle.canvas_history.specs.Callers.{Caller, told, Adds, LeavesOne, Owes, Follows, Parted, IsHistory}
use Rattle.canvas_history.specs.History.{Entry, split, join, by_of, split_off, made_by, Allowed, Legal}
use Rattle.canvas_history.proofs.Histories.{In, made_append, made_here, made_off, made_none, made_since, fresh_at, was_named, all_joined, legal_right}

module _ {C R : Type 0} where
  -- entries by p itself
  abbrev pub AllBy : ℕ → List (Entry C R) → Type 0
  AllBy p [] = Unit {0}
  AllBy p (e ∷ es) = (by_of e ≡ p) × AllBy p es

  pub made_all : (p : ℕ) (es : List (Entry C R)) → AllBy p es → made_by p es ≡ es
  made_all p [] a = refl
  made_all p (e ∷ es) a = made_here p e es a.0 ∙ ap (λ l. e ∷ l) (made_all p es a.1)

module _ {I C R : Type 0} where
  -- what a caller owes after a join: of its own entries that one join is new, and of the other's there is none
  pub owing : (p q c : Caller I C R) → Owes p q c → In p.name p.mine → In q.name q.mine → (p.name == q.name) ≡ false → made_by p.name q.owed ≡ []
      → made_by q.name p.owed ≡ []
      → Adds p (join p.name q.name ∷ []) c × Adds q [] c
  owing p q c o here there apart none none' =
      let one : List (Entry C R) = join p.name q.name ∷ [] in
      let owed : (n : ℕ) → made_by n (told c) ≡ made_by n c.seen ++ (made_by n p.owed ++ (made_by n q.owed ++ made_by n one)) =
      λ n. made_append n c.seen c.owed
      ∙ ap (λ l. made_by n c.seen ++ l)
      (ap (λ l. made_by n l) o.3 ∙ (made_append n p.owed (q.owed ++ one) ∙ ap (λ l. made_by n p.owed ++ l) (made_append n q.owed one))) in (
        owed p.name
            ∙ (ap (λ l. l ++ (made_by p.name p.owed ++ (made_by p.name q.owed ++ made_by p.name one))) (made_since p.name p.mine c.seen p.seen here o.4)
            ∙ (ap (λ l. made_by p.name p.seen ++ (made_by p.name p.owed ++ (l ++ made_by p.name one))) none
            ∙ (ap (λ l. made_by p.name p.seen ++ (made_by p.name p.owed ++ l)) (made_here p.name (join p.name q.name) [] refl)
            ∙ (sym (append_assoc (made_by p.name p.seen) (made_by p.name p.owed) one) ∙ ap (λ l. l ++ one) (sym (made_append p.name p.seen p.owed)))))),
        owed q.name
            ∙ (ap (λ l. l ++ (made_by q.name p.owed ++ (made_by q.name q.owed ++ made_by q.name one))) (made_since q.name q.mine c.seen q.seen there o.5)
            ∙ (ap (λ l. made_by q.name q.seen ++ (l ++ (made_by q.name q.owed ++ made_by q.name one))) none'
            ∙ (ap (λ l. made_by q.name q.seen ++ (made_by q.name q.owed ++ l)) (made_off q.name (join p.name q.name) [] apart)
            ∙ (sym (append_assoc (made_by q.name q.seen) (made_by q.name q.owed) []) ∙ ap (λ l. l ++ []) (sym (made_append q.name q.seen q.owed)))))),
      )

module _ {C R S : Type 0} (first : S) (answer : S → C → R) (next : S → C → S) (May : List (Entry C R) → S → ℕ → C → Type 0) where
  not_self : (before : List (Entry C R)) (p q : ℕ) → Allowed first answer next May before (split p q) → (p == q) ≡ false
  not_self before p q a =
      ne_eqb p q (λ same. ⊎_elim (λ (z : p ≡ 0). false≢true (sym a.1 ∙ eq-eqb q 0 (sym same ∙ z)))
      (λ z. false≢true (sym a.2 ∙ subst (λ k. In k (split_off before)) same z))
      (was_named first answer next May before (split p q) a))

module _ {I C R S : Type 0} (first : S) (answer : S → C → R) (next : S → C → S) (May : List (Entry C R) → S → ℕ → C → Type 0) where
  abbrev Goes : Caller I C R → List (Entry C R) → List (Entry C R) → Type 0
  Goes p es log = Follows first answer next May p es log

  -- the caller's own entries, where the clause of a call holds
  pub made_after : (p : Caller I C R) (es log : List (Entry C R)) → In p.name p.mine → Goes p es log
      → made_by p.name log ≡ made_by p.name (told p) ++ made_by p.name es
  made_after p es log here x =
      let n = p.name in
      ap (λ l. made_by n l) x.1 ∙ (made_append n p.seen (x.0 ++ (p.owed ++ es))
      ∙ (ap (λ l. made_by n p.seen ++ l)
      (made_append n x.0 (p.owed ++ es) ∙ (ap (λ l. l ++ made_by n (p.owed ++ es)) (made_none n p.mine x.0 here x.2) ∙ made_append n p.owed es))
      ∙ (sym (append_assoc (made_by n p.seen) (made_by n p.owed) (made_by n es)) ∙ ap (λ l. l ++ made_by n es) (sym (made_append n p.seen p.owed)))))

  pub adds_all : (p : Caller I C R) (es : List (Entry C R)) (p' : Caller I C R) → In p.name p.mine → AllBy p.name es → p'.owed ≡ [] → Goes p es p'.seen
      → Adds p es p'
  adds_all p es p' here by none x =
      ap (λ l. made_by p.name (p'.seen ++ l)) none ∙ (ap (λ l. made_by p.name l) (append-nil p'.seen)
      ∙ (made_after p es p'.seen here x ∙ ap (λ l. made_by p.name (told p) ++ l) (made_all p.name es by)))

  -- likewise of another caller, by whom these are not
  pub adds_none : (q : Caller I C R) (e : Entry C R) (p' : Caller I C R) → In q.name q.mine → (by_of e == q.name) ≡ false → p'.owed ≡ []
      → Goes q (e ∷ []) p'.seen → Adds q [] p'
  adds_none q e p' here apart none x =
      ap (λ l. made_by q.name (p'.seen ++ l)) none ∙ (ap (λ l. made_by q.name l) (append-nil p'.seen)
      ∙ (made_after q (e ∷ []) p'.seen here x ∙ ap (λ l. made_by q.name (told q) ++ l) (made_off q.name e [] apart)))

  -- the entry of a call is allowed where it is
  pub last_allowed : (p : Caller I C R) (e : Entry C R) (log : List (Entry C R)) → Goes p (e ∷ []) log
      → (before : List (Entry C R)) × (log ≡ before ++ e ∷ []) × Allowed first answer next May before e
  last_allowed p e log x =
      let before : List (Entry C R) = p.seen ++ (x.0 ++ p.owed) in
      let whole : log ≡ before ++ e ∷ [] =
      x.1 ∙ (ap (λ l. p.seen ++ l) (sym (append_assoc x.0 p.owed (e ∷ []))) ∙ sym (append_assoc p.seen (x.0 ++ p.owed) (e ∷ []))) in
      (before, whole, (legal_right first answer next May [] before (e ∷ []) (subst (λ l. Legal first answer next May l) whole x.3)).0)

  -- a caller that a split has just named has made no entry
  pub made_fresh : (p : Caller I C R) (q : ℕ) (log : List (Entry C R)) → Goes p (split p.name q ∷ []) log → made_by q log ≡ []
  made_fresh p q log x =
      let a = last_allowed p (split p.name q) log x in
      ap (λ l. made_by q l) a.1 ∙ fresh_at first answer next May p.name q a.0 (subst (λ l. Legal first answer next May l) a.1 x.3)
      (not_self first answer next May a.0 p.name q a.2)

  pub parted_fresh : (p p' q : Caller I C R) → Parted first answer next May p p' q → made_by q.name q.seen ≡ []
  parted_fresh p p' q d = ap (λ (c : Caller I C R). made_by q.name c.seen) d.1 ∙ made_fresh p q.name p'.seen d.0.4

  -- where all others have been taken in, the first caller is the only one that is live
  pub leaves_one : (p : Caller I C R) → IsHistory first answer next May p → LeavesOne p
  leaves_one p l all = all_joined first answer next May (told p) l all
