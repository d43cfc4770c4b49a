-- The joins that a pass owes: they are legal after any history in which its callers are live, and touch no other caller.
use Rattle.std.proofs.Common.{◌≡◌, ℕ, false, List, [], ◌∷◌, ◌++◌, refl, sym, subst}
use Rattle.std.proofs.lemmas.Bool.{ne_eqb}
use Rattle.canvas_history.specs.History.{split, join, calls, among, without, live_after, live_from, live, split_off, made_by, NoneBy, state_from, LegalFrom}
use Rattle.canvas_history.proofs.Histories.{In, other_of, made_others, in_left, in_right, in_without, in_within, live_append}
use Rattle.canvas_history.specs.Queue.{QueueEntry, answer_of, next, May}
use Rattle.canvas_broker.specs.steps.Rule.{Orderly}

module _ {E : Type 0} where
  abbrev pub Legals : List (QueueEntry E) → List (QueueEntry E) → Type 0
  Legals log js = LegalFrom [] answer_of next May log js

  pub live_snoc : (log : List (QueueEntry E)) (e : QueueEntry E) → live (log ++ e ∷ []) ≡ live_after (live log) e
  live_snoc log e = live_append (0 ∷ []) log (e ∷ [])

  -- more callers do no harm
  pub orderly_more : (p : ℕ) (cs ds : List ℕ) (js : List (QueueEntry E)) → Orderly p cs js → ((c : ℕ) → In c cs → In c ds) → Orderly p ds js
  orderly_more p cs ds [] o more = more p o
  orderly_more p cs ds (split r q ∷ js) o more = absurd o
  orderly_more p cs ds (join r q ∷ js) o more = (
    more r o.0,
    more q o.1,
    o.2,
    orderly_more p (without q cs) (without q ds) js o.3 (λ c h. let t = in_within c q cs h in
        in_without c q ds (more c t.0) t.1),
  )
  orderly_more p cs ds (calls r c a ∷ js) o more = absurd o

  -- the caller is left
  pub orderly_left : (p : ℕ) (cs : List ℕ) (js : List (QueueEntry E)) → Orderly p cs js → In p (live_from cs js)
  orderly_left p cs [] o = o
  orderly_left p cs (split r q ∷ js) o = absurd o
  orderly_left p cs (join r q ∷ js) o = orderly_left p (without q cs) js o.3
  orderly_left p cs (calls r c a ∷ js) o = absurd o

  -- who is left was there
  pub orderly_within : (p c : ℕ) (cs : List ℕ) (js : List (QueueEntry E)) → Orderly p cs js → In c (live_from cs js) → In c cs
  orderly_within p c cs [] o h = h
  orderly_within p c cs (split r q ∷ js) o h = absurd o
  orderly_within p c cs (join r q ∷ js) o h = (in_within c q cs (orderly_within p c (without q cs) js o.3 h)).0
  orderly_within p c cs (calls r d a ∷ js) o h = absurd o

  -- another caller stays
  pub orderly_stays : (p c : ℕ) (cs ds : List ℕ) (js : List (QueueEntry E)) → Orderly p cs js → (In c cs → ⊥) → In c ds → In c (live_from ds js)
  orderly_stays p c cs ds [] o out h = h
  orderly_stays p c cs ds (split r q ∷ js) o out h = absurd o
  orderly_stays p c cs ds (join r q ∷ js) o out h =
      orderly_stays p c (without q cs) (without q ds) js o.3 (λ x. out (in_within c q cs x).0)
      (in_without c q ds h (λ (e : c ≡ q). out (subst (λ k. In k cs) (sym e) o.1)))
  orderly_stays p c cs ds (calls r d a ∷ js) o out h = absurd o

  -- who is left of a part is left of the whole
  pub orderly_part : (p c : ℕ) (cs ds : List ℕ) (js : List (QueueEntry E)) → Orderly p cs js → ((k : ℕ) → In k cs → In k ds) → In c (live_from cs js)
      → In c (live_from ds js)
  orderly_part p c cs ds [] o more h = more c h
  orderly_part p c cs ds (split r q ∷ js) o more h = absurd o
  orderly_part p c cs ds (join r q ∷ js) o more h =
      orderly_part p c (without q cs) (without q ds) js o.3 (λ k x. let t = in_within k q cs x in in_without k q ds (more k t.0) t.1) h
  orderly_part p c cs ds (calls r d a ∷ js) o more h = absurd o

  pub orderly_append : (a p : ℕ) (cs : List ℕ) (js ks : List (QueueEntry E)) → Orderly a cs js → Orderly p (live_from cs js) ks → Orderly p cs (js ++ ks)
  orderly_append a p cs [] ks o m = m
  orderly_append a p cs (split r q ∷ js) ks o m = absurd o
  orderly_append a p cs (join r q ∷ js) ks o m = (o.0, o.1, o.2, orderly_append a p (without q cs) js ks o.3 m)
  orderly_append a p cs (calls r d x ∷ js) ks o m = absurd o

  pub orderly_legal : (p : ℕ) (cs : List ℕ) (js log : List (QueueEntry E)) → Orderly p cs js → ((c : ℕ) → In c cs → In c (live log)) → Legals log js
  orderly_legal p cs [] log o alive = tt
  orderly_legal p cs (split r q ∷ js) log o alive = absurd o
  orderly_legal p cs (join r q ∷ js) log o alive = (
    (alive r o.0, alive q o.1, o.2),
    orderly_legal p (without q cs) js (log ++ join r q ∷ []) o.3
        (λ c h. let t = in_within c q cs h in subst (λ l. In c l) (sym (live_snoc log (join r q))) (in_without c q (live log) (alive c t.0) t.1)),
  )
  orderly_legal p cs (calls r c a ∷ js) log o alive = absurd o

  pub orderly_state : (p : ℕ) (cs : List ℕ) (js : List (QueueEntry E)) (s : List E) → Orderly p cs js → state_from [] answer_of next May s js ≡ s
  orderly_state p cs [] s o = refl
  orderly_state p cs (split r q ∷ js) s o = absurd o
  orderly_state p cs (join r q ∷ js) s o = orderly_state p (without q cs) js s o.3
  orderly_state p cs (calls r c a ∷ js) s o = absurd o

  pub orderly_named : (p : ℕ) (cs : List ℕ) (js : List (QueueEntry E)) → Orderly p cs js → split_off js ≡ []
  orderly_named p cs [] o = refl
  orderly_named p cs (split r q ∷ js) o = absurd o
  orderly_named p cs (join r q ∷ js) o = orderly_named p (without q cs) js o.3
  orderly_named p cs (calls r c a ∷ js) o = absurd o

  -- none of the joins is by someone else
  pub orderly_none : (p : ℕ) (cs us : List ℕ) (js : List (QueueEntry E)) → Orderly p cs js → ((c : ℕ) → In c cs → among c us ≡ false) → NoneBy us js
  orderly_none p cs us [] o out = tt
  orderly_none p cs us (split r q ∷ js) o out = absurd o
  orderly_none p cs us (join r q ∷ js) o out = (out r o.0, orderly_none p (without q cs) us js o.3 (λ c h. out c (in_within c q cs h).0))
  orderly_none p cs us (calls r c a ∷ js) o out = absurd o

  -- nor has one who isn't of these made any
  pub orderly_made : (p q : ℕ) (cs : List ℕ) (js : List (QueueEntry E)) → Orderly p cs js → (In q cs → ⊥) → made_by q js ≡ []
  orderly_made p q cs js o out = made_others q js (orderly_none p cs (q ∷ []) js o (λ c i. other_of c q (ne_eqb c q (λ e. out (subst (λ k. In k cs) e i)))))

  -- two passes come together
  pub orderly_both : (p q : ℕ) (cs ds : List ℕ) (js ks : List (QueueEntry E)) → Orderly p cs js → Orderly q ds ks → In p cs → In q ds
      → ((c : ℕ) → In c cs → In c ds → ⊥)
      → Orderly p (cs ++ ds) (js ++ (ks ++ join p q ∷ []))
  orderly_both p q cs ds js ks o m here there apart =
      let first : Orderly p (cs ++ ds) js = orderly_more p cs (cs ++ ds) js o (λ c h. in_left c cs ds h) in
      let F : List ℕ = live_from (cs ++ ds) js in
      let kept : (c : ℕ) → In c ds → In c F = λ c h. orderly_stays p c cs (cs ++ ds) js o (λ x. apart c x h) (in_right c cs ds h) in
      let second : Orderly q F ks = orderly_more q ds F ks m kept in
      let G : List ℕ = live_from F ks in
      let mine : In p G = orderly_stays q p ds F ks m (λ x. apart p here x) (orderly_left p (cs ++ ds) js first) in
      let yours : In q G = orderly_left q F ks second in
      let two : q ≡ p → ⊥ = λ e. apart p here (subst (λ k. In k ds) e there) in
      let one : List (QueueEntry E) = join p q ∷ [] in
      let last : Orderly p G one = (mine, yours, ne_eqb q p two, in_without p q G mine (λ e. two (sym e))) in
      orderly_append p p (cs ++ ds) js (ks ++ join p q ∷ []) first (orderly_append q p F ks (join p q ∷ []) second last)
