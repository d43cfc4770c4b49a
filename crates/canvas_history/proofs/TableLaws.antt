-- What legal histories of results and counts have in common.
use Rattle.std.proofs.Common.{◌≡◌, ◌≢◌, ◌⊎◌, ℕ, suc, ◌+◌, ◌≤◌, ◌==◌, Bool, true, false, IsTrue, true≢false, cond, List, [], ◌∷◌, ◌++◌, length, Option, Some, None, count_by, refl, sym, ap, ◌∙◌, subst, inl, inr, ⊎_elim, append_assoc, append-nil, arith, eq-eqb, ne_eqb}
use Rattle.std.proofs.Common.{◌||◌, zero-add}
use Rattle.std.specs.List.{list_any}
use Rattle.std.proofs.lemmas.Bool.Decides.{nat_tests}
use Rattle.std.proofs.lemmas.List.Sums.{sum_by-cons, count_by-le-length}
use mathlib.Core.Logic.{dite}
use native.Mathlib.Decide.{ℕ_discrete}
use Rattle.canvas_task.specs.declared.outcome.Outcome.{Outcome}
use Rattle.canvas_history.specs.Roster.{Roster}
use Rattle.canvas_history.specs.declared.stored.Stored.TheVariants.{First}
use Rattle.canvas_history.specs.Roster.{members, is_member}
use Rattle.canvas_history.specs.History.{Entry, split, join, calls, among, live, heir, AllOthers, state_after, state_from, Allowed, LegalFrom}
use Rattle.canvas_history.specs.Table.{TableCall, store, part, read, TableReply, was, count, found, Log, Results, no_results, first_or, kept_or, next_of, count_of, reply_of, May, HasFirst, WasFirst, MayReturn, IsCall, results, IsLegal}
use Rattle.canvas_history.proofs.Histories.{state_append, IsOther, not_of}
use Rattle.canvas_history.proofs.Calls.{not_true, live_push, heir_append, others_at, live_known, known_more, state_push, legal_front, legal_back, legal_at, was_live, own_heir}

module _ {A : Type 0} where
  -- one list cut at two places
  pub two_cuts : (b d : List A) (x y : A) (r s : List A) → b ++ x ∷ r ≡ d ++ y ∷ s
      → ((b ≡ d) × (x ≡ y)) ⊎ (((mid : List A) × (d ≡ b ++ x ∷ mid)) ⊎ ((mid : List A) × (b ≡ d ++ y ∷ mid)))
  two_cuts [] [] x y r s is = inl (refl, (cc))
  two_cuts [] (z ∷ zs) x y r s is = let e : x ≡ z = cc in inr (inl (zs, λ i. sym e i ∷ zs))
  two_cuts (z ∷ zs) [] x y r s is = let e : z ≡ y = cc in inr (inr (zs, λ i. e i ∷ zs))
  two_cuts (z ∷ zs) (w ∷ ws) x y r s is =
      let e : z ≡ w = cc in let t : zs ++ x ∷ r ≡ ws ++ y ∷ s = cc in
      ⊎_elim (λ (l : (zs ≡ ws) × (x ≡ y)). inl ((λ i. e i ∷ l.0 i), l.1))
      (λ m. ⊎_elim (λ (l : (mid : List A) × (ws ≡ zs ++ x ∷ mid)). inr (inl (l.0, λ i. sym e i ∷ l.1 i)))
      (λ (l : (mid : List A) × (zs ≡ ws ++ y ∷ mid)). inr (inr (l.0, λ i. e i ∷ l.1 i))) m)
      (two_cuts zs ws x y r s t)

-- whether an element is in the list, by a test and by a count
pub member_test : (m : ℕ) (xs : List ℕ) → (list_any (λ x. x == m) xs ≡ true → count_by (λ x. x == m) xs ≢ 0)
    × (count_by (λ x. x == m) xs ≢ 0 → list_any (λ x. x == m) xs ≡ true)
member_test m [] = ((λ e. absurd (cc)), (λ n. absurd (n refl)))
member_test m (x ∷ xs) = cases (member_test m xs) (x == m) refl
  where
    cases : (list_any (λ x. x == m) xs ≡ true → count_by (λ x. x == m) xs ≢ 0) × (count_by (λ x. x == m) xs ≢ 0 → list_any (λ x. x == m) xs ≡ true) → (b : Bool)
        → (x == m) ≡ b
        → (list_any (λ x. x == m) (x ∷ xs) ≡ true → count_by (λ x. x == m) (x ∷ xs) ≢ 0)
        × (count_by (λ x. x == m) (x ∷ xs) ≢ 0 → list_any (λ x. x == m) (x ∷ xs) ≡ true)
    cases rest true is =
        let e = sum_by-cons (λ x. cond (x == m) 1 0) x xs in
        let same : count_by (λ x. x == m) (x ∷ xs) ≡ 1 + count_by (λ x. x == m) xs = e ∙ ap (λ (b : Bool). cond b 1 0 + count_by (λ x. x == m) xs) is in
        ((λ l n. absurd (omega arith)), (λ n. ap (λ (b : Bool). b || list_any (λ x. x == m) xs) is))
    cases rest false is =
        let e = sum_by-cons (λ x. cond (x == m) 1 0) x xs in
        let same : count_by (λ x. x == m) (x ∷ xs) ≡ count_by (λ x. x == m) xs =
        e ∙ (ap (λ (b : Bool). cond b 1 0 + count_by (λ x. x == m) xs) is ∙ zero-add _) in (
          (λ l n. rest.0 (sym (ap (λ (b : Bool). b || list_any (λ x. x == m) xs) is) ∙ l) (sym same ∙ n)),
          (λ n. ap (λ (b : Bool). b || list_any (λ x. x == m) xs) is ∙ rest.1 (λ z. n (same ∙ z))),
        )

module _ (plan : Roster) where
  abbrev From : Results → Log → Results
  From = state_from no_results (reply_of plan) next_of (May plan)

  abbrev At : Log → Results
  At = results plan

  abbrev Allows : Log → Entry TableCall TableReply → Type 0
  Allows = Allowed no_results (reply_of plan) next_of (May plan)

  at_append : (h g : Log) → At (h ++ g) ≡ From (At h) g
  at_append h g = state_append no_results (reply_of plan) next_of (May plan) no_results h g

  -- the first outcome of a task stays
  pub stays : (s : Results) (r : Log) (t : ℕ) (o : Outcome) → s.outcomes t ≡ Some o → (From s r).outcomes t ≡ Some o
  stays s [] t o is = is
  stays s (split p q ∷ es) t o is = stays s es t o is
  stays s (join p q ∷ es) t o is = stays s es t o is
  stays s (calls p (store u x) r ∷ es) t o is = stays (next_of s (store u x)) es t o (same (t == u))
    where
      same : (b : Bool) → cond b (kept_or (s.outcomes t) x) (s.outcomes t) ≡ Some o
      same true = ap (λ (z : Option Outcome). kept_or z x) is
      same false = is
  stays s (calls p (part g m) r ∷ es) t o is = stays (next_of s (part g m)) es t o is
  stays s (calls p (read u) r ∷ es) t o is = stays s es t o is

  -- a returned member stays so
  pub stays_returned : (s : Results) (r : Log) (t : ℕ) → s.returned t ≡ true → (From s r).returned t ≡ true
  stays_returned s [] t is = is
  stays_returned s (split p q ∷ es) t is = stays_returned s es t is
  stays_returned s (join p q ∷ es) t is = stays_returned s es t is
  stays_returned s (calls p (store u x) r ∷ es) t is = stays_returned (next_of s (store u x)) es t is
  stays_returned s (calls p (part g m) r ∷ es) t is = stays_returned (next_of s (part g m)) es t (same (t == m))
    where
      same : (b : Bool) → cond b true (s.returned t) ≡ true
      same true = refl
      same false = is
  stays_returned s (calls p (read u) r ∷ es) t is = stays_returned s es t is

  none_of : (x : Option Outcome) → was First ≡ was (first_or x) → x ≡ None
  none_of None is = refl
  none_of (Some o) is = absurd (cc)

  -- a First finds no outcome, and leaves its own
  first_found : (h : Log) (p m : ℕ) (o : Outcome) → Allows h (calls p (store m o) (was First)) → (At h).outcomes m ≡ None
  first_found h p m o a = none_of ((At h).outcomes m) a.1

  first_left : (h : Log) (p m : ℕ) (o : Outcome) (r : Log) → Allows h (calls p (store m o) (was First))
      → (At (h ++ calls p (store m o) (was First) ∷ r)).outcomes m ≡ Some o
  first_left h p m o r a =
      ap (λ (s : Results). s.outcomes m) (at_append h (calls p (store m o) (was First) ∷ r))
      ∙ stays (next_of (At h) (store m o)) r m o
      (ap (λ (b : Bool). cond b (kept_or ((At h).outcomes m) o) ((At h).outcomes m)) (eq-eqb m m refl)
      ∙ ap (λ (z : Option Outcome). kept_or z o) (first_found h p m o a))

  not_both : (x : Option Outcome) (o : Outcome) → x ≡ None → x ≡ Some o → ⊥
  not_both x o a b = let e : None ≡ Some o = sym a ∙ b in absurd (cc)

  allowed_at : (h before : Log) (e : Entry TableCall TableReply) (rest : Log) → IsLegal plan h → h ≡ before ++ e ∷ rest → Allows before e
  allowed_at h before e rest legal is = legal_at no_results (reply_of plan) next_of (May plan) before e rest (subst (IsLegal plan) is legal)

  -- one store of a task at most answers First
  pub one_first : (h b d r s : Log) (p q m : ℕ) (o x : Outcome) → IsLegal plan h → h ≡ b ++ calls p (store m o) (was First) ∷ r
      → h ≡ d ++ calls q (store m x) (was First) ∷ s → (p ≡ q) × (o ≡ x)
  one_first h b d r s p q m o x legal is js =
      let a = allowed_at h b (calls p (store m o) (was First)) r legal is in
      let c = allowed_at h d (calls q (store m x) (was First)) s legal js in
      ⊎_elim
      (λ (l : (b ≡ d) × (calls p (store m o) (was First) ≡ calls q (store m x) (was First))). let e = l.1 in let f : store m o ≡ store m x = ap call_of e in
      (ap caller_of e, ap (outcome_of o) f))
      (λ t. ⊎_elim
      (λ (l : (mid : Log) × (d ≡ b ++ calls p (store m o) (was First) ∷ mid)). absurd
      (not_both ((At d).outcomes m) o (first_found d q m x c) (ap (λ (z : Log). (At z).outcomes m) l.1 ∙ first_left b p m o l.0 a)))
      (λ (l : (mid : Log) × (b ≡ d ++ calls q (store m x) (was First) ∷ mid)). absurd
      (not_both ((At b).outcomes m) x (first_found b p m o a) (ap (λ (z : Log). (At z).outcomes m) l.1 ∙ first_left d q m x l.0 c)))
      t)
      (two_cuts b d (calls p (store m o) (was First)) (calls q (store m x) (was First)) r s (sym is ∙ js))
    where
      caller_of : Entry TableCall TableReply → ℕ
      caller_of (calls p c r) = p
      caller_of (split p q) = p
      caller_of (join p q) = p

      call_of : Entry TableCall TableReply → TableCall
      call_of (calls p c r) = c
      call_of (split p q) = read 0
      call_of (join p q) = read 0

      outcome_of : Outcome → TableCall → Outcome
      outcome_of o (store t x) = x
      outcome_of o (part g m) = o
      outcome_of o (read t) = o

  abbrev After : Log → Log → Type 0
  After = LegalFrom no_results (reply_of plan) next_of (May plan)

  -- a call that returns the task's part is by the caller that stored it First
  returns_own : (seen a : Log) (p q m : ℕ) → IsLegal plan (seen ++ a) → heir a p ≡ p → HasFirst seen p m → HasFirst (seen ++ a) q m → q ≡ p
  returns_own seen a p q m legal own f g =
      let same = one_first (seen ++ a) f.before g.before (f.rest ++ a) g.rest f.caller g.caller m f.outcome g.outcome legal
      (ap (λ (z : Log). z ++ a) f.is ∙ append_assoc f.before (calls f.caller (store m f.outcome) (was First) ∷ f.rest) a) g.is in
      sym g.own ∙ (ap (heir (seen ++ a)) (sym same.0) ∙ (heir_append seen a f.caller ∙ (ap (heir a) f.own ∙ own)))

  -- a First of one's own stays one's own
  pub keeps_first : (seen r : Log) (p m : ℕ) → IsLegal plan (seen ++ r) → among p (live seen) ≡ true → among p (live (seen ++ r)) ≡ true → HasFirst seen p m
      → HasFirst (seen ++ r) p m
  keeps_first seen r p m legal was_alive alive f = record {
    before = f.before;
    rest = f.rest ++ r;
    caller = f.caller;
    outcome = f.outcome;
    is = ap (λ (z : Log). z ++ r) f.is ∙ append_assoc f.before (calls f.caller (store m f.outcome) (was First) ∷ f.rest) r;
    own = heir_append seen r f.caller
        ∙ (ap (heir r) f.own ∙ own_heir no_results (reply_of plan) next_of (May plan) seen r p
        (legal_back no_results (reply_of plan) next_of (May plan) seen r legal) alive);
  }

  -- Who stored the task First, and returned nothing for it as far as it has seen, may return its part: no other caller did
  pub still_free : (seen r : Log) (p m : ℕ) → IsLegal plan (seen ++ r) → AllOthers p r → among p (live seen) ≡ true → among p (live (seen ++ r)) ≡ true
      → HasFirst seen p m → (At seen).returned m ≡ false
      → (At (seen ++ r)).returned m ≡ false
  still_free seen r p m legal others was_alive alive f free = go [] r refl (ap (λ (z : Log). (At z).returned m) (append-nil seen) ∙ free)
    where
      one : (a : Log) (e : Entry TableCall TableReply) → IsLegal plan (seen ++ a) → among p (live (seen ++ a)) ≡ true → Allows (seen ++ a) e → IsOther p e
          → (At (seen ++ a)).returned m ≡ false
          → (state_after no_results (reply_of plan) next_of (May plan) (At (seen ++ a)) e).returned m ≡ false
      one a (split x y) l alive ok other here = here
      one a (join x y) l alive ok other here = here
      one a (calls q (store u x) w) l alive ok other here = here
      one a (calls q (read u) w) l alive ok other here = here
      one a (calls q (part g u) w) l alive ok other here =
          ap (λ (b : Bool). cond b true ((At (seen ++ a)).returned m)) (not_true (m == u) (λ x.
          let y : u ≡ m = grind (arith, nat_tests) in
          let own : heir a p ≡ p = own_heir no_results (reply_of plan) next_of (May plan) seen a p
          (legal_back no_results (reply_of plan) next_of (May plan) seen a l) alive in
          let z : q ≡ p = returns_own seen a p q m l own f (subst (λ (k : ℕ). HasFirst (seen ++ a) q k) y ok.2.2) in
          true≢false (sym (eq-eqb q p z) ∙ not_of q p other)))
          ∙ here

      go : (a b : Log) → r ≡ a ++ b → (At (seen ++ a)).returned m ≡ false → (At (seen ++ (a ++ b))).returned m ≡ false
      go a [] is here = ap (λ (z : Log). (At (seen ++ z)).returned m) (append-nil a) ∙ here
      go a (e ∷ es) is here =
          let whole : seen ++ r ≡ (seen ++ a) ++ e ∷ es = ap (λ (z : Log). seen ++ z) is ∙ sym (append_assoc seen a (e ∷ es)) in
          let l : IsLegal plan ((seen ++ a) ++ e ∷ es) = subst (IsLegal plan) whole legal in
          let la = legal_front no_results (reply_of plan) next_of (May plan) (seen ++ a) (e ∷ es) l in
          let back : After (seen ++ a) (e ∷ es) = legal_back no_results (reply_of plan) next_of (May plan) (seen ++ a) (e ∷ es) l in
          let live_a : among p (live (seen ++ a)) ≡ true =
          was_live no_results (reply_of plan) next_of (May plan) (seen ++ a) (e ∷ es) p back (known_more seen a p (live_known seen p was_alive))
          (ap (λ (z : Log). among p (live z)) (sym whole) ∙ alive) in
          let next : (At (seen ++ (a ++ e ∷ []))).returned m ≡ false =
          ap (λ (z : Log). (At z).returned m) (sym (append_assoc seen a (e ∷ [])))
          ∙ (ap (λ (s : Results). s.returned m) (state_push no_results (reply_of plan) next_of (May plan) (seen ++ a) e)
          ∙ one a e la live_a back.0 (others_at p a e es (subst (AllOthers p) is others)) here) in
          ap (λ (z : Log). (At (seen ++ z)).returned m) (sym (append_assoc a (e ∷ []) es))
          ∙ go (a ++ e ∷ []) es (is ∙ sym (append_assoc a (e ∷ []) es)) next

  -- one more returned member is counted once
  pub counted : (f : ℕ → Bool) (m : ℕ) (xs : List ℕ) → f m ≡ false → count_by (λ x. cond (x == m) true (f x)) xs ≡ count_by f xs + count_by (λ x. x == m) xs
  counted f m [] free = refl
  counted f m (x ∷ xs) free =
      let rest = counted f m xs free in
      let a = sum_by-cons (λ x. cond (cond (x == m) true (f x)) 1 0) x xs in
      let b = sum_by-cons (λ x. cond (f x) 1 0) x xs in
      let d = sum_by-cons (λ x. cond (x == m) 1 0) x xs in
      let one : cond (cond (x == m) true (f x)) 1 0 ≡ cond (f x) 1 0 + cond (x == m) 1 0 = head (x == m) refl in
      omega arith
    where
      head : (b : Bool) → (x == m) ≡ b → cond (cond b true (f x)) 1 0 ≡ cond (f x) 1 0 + cond b 1 0
      head true is = let y : x ≡ m = grind (arith, nat_tests) in sym (ap (λ (c : Bool). cond c 1 0 + 1) (ap f y ∙ free))
      head false is = sym (native.Mathlib.Nat.add-zero _)

  -- a member that isn't returned is left out of the count
  pub room : (f : ℕ → Bool) (m : ℕ) (xs : List ℕ) → f m ≡ false → count_by f xs + count_by (λ x. x == m) xs ≤ length xs
  room f m xs free = let e = counted f m xs free in let l = count_by-le-length (λ x. cond (x == m) true (f x)) xs in omega arith

  -- where all but one are counted, each other one is
  pub all_counted : (f : ℕ → Bool) (m t : ℕ) (xs : List ℕ) → f m ≡ false → count_by (λ x. x == m) xs ≢ 0 → count_by f xs + 1 ≡ length xs
      → count_by (λ x. x == t) xs ≢ 0 → t ≢ m → f t ≡ true
  all_counted f m t xs free there all here apart = cases (f t) refl
    where
      cases : (b : Bool) → f t ≡ b → f t ≡ true
      cases true is = is
      cases false is =
          let a = room (λ x. cond (x == m) true (f x)) t xs (ap (λ (b : Bool). cond b true (f t)) (ne_eqb t m apart) ∙ is) in
          let b = counted f m xs free in
          absurd (omega arith)

  longer_first : (a : Log) (e : Entry TableCall TableReply) (t : ℕ) (o : Outcome) → WasFirst a t o → WasFirst (a ++ e ∷ []) t o
  longer_first a e t o w = record {
    before = w.before;
    rest = w.rest ++ e ∷ [];
    caller = w.caller;
    is = ap (λ (z : Log). z ++ e ∷ []) w.is
        ∙ append_assoc w.before (calls w.caller (store t o) (was First) ∷ w.rest) (e ∷ []);
  }

  abbrev HasFirsts : Log → Type 0
  HasFirsts a = (t : ℕ) → (At a).returned t ≡ true → (o : Outcome) × WasFirst a t o

  -- each returned member was stored First
  pub returned_first : (h : Log) → IsLegal plan h → HasFirsts h
  returned_first h legal = go [] h legal (λ t is. absurd (true≢false (sym is)))
    where
      one : (a : Log) (e : Entry TableCall TableReply) → Allows a e → HasFirsts a → HasFirsts (a ++ e ∷ [])
      one a e ok so t is = by_kind e ok (ap (λ (s : Results). s.returned t) (sym (state_push no_results (reply_of plan) next_of (May plan) a e)) ∙ is)
        where
          longer : (e : Entry TableCall TableReply) → (At a).returned t ≡ true → (o : Outcome) × WasFirst (a ++ e ∷ []) t o
          longer e r = let w = so t r in (w.0, longer_first a e t w.0 w.1)

          part_of : (q g u : ℕ) (w : TableReply) → Allows a (calls q (part g u) w) → (b : Bool) → (t == u) ≡ b → cond b true ((At a).returned t) ≡ true
              → (o : Outcome) × WasFirst (a ++ calls q (part g u) w ∷ []) t o
          part_of q g u w ok true same r =
              let f = ok.2.2 in
              let y : u ≡ t = grind (arith, nat_tests) in (
                f.outcome,
                longer_first a (calls q (part g u) w) t f.outcome
                    (subst (λ (k : ℕ). WasFirst a k f.outcome) y (record { before = f.before; rest = f.rest; caller = f.caller; is = f.is })),
              )
          part_of q g u w ok false same r = longer (calls q (part g u) w) r

          by_kind : (e : Entry TableCall TableReply) → Allows a e → (state_after no_results (reply_of plan) next_of (May plan) (At a) e).returned t ≡ true
              → (o : Outcome) × WasFirst (a ++ e ∷ []) t o
          by_kind (split x y) ok r = longer (split x y) r
          by_kind (join x y) ok r = longer (join x y) r
          by_kind (calls q (store u x) w) ok r = longer (calls q (store u x) w) r
          by_kind (calls q (read u) w) ok r = longer (calls q (read u) w) r
          by_kind (calls q (part g u) w) ok r = part_of q g u w ok (t == u) refl r

      go : (a b : Log) → IsLegal plan (a ++ b) → HasFirsts a → HasFirsts (a ++ b)
      go a [] legal so = subst HasFirsts (sym (append-nil a)) so
      go a (e ∷ es) legal so =
          subst HasFirsts (append_assoc a (e ∷ []) es)
          (go (a ++ e ∷ []) es (subst (IsLegal plan) (sym (append_assoc a (e ∷ []) es)) legal)
          (one a e (legal_at no_results (reply_of plan) next_of (May plan) a e es legal) so))

  -- a part of g that was returned with the reply n, after b
  abbrev Part : Log → Log → Log → ℕ → ℕ → ℕ → ℕ → Type 0
  Part h b r p g m n = h ≡ b ++ calls p (part g m) (count n) ∷ r

  pub stands : (m g : ℕ) → IsTrue (is_member plan g m) → count_by (λ x. x == m) (members plan g) ≢ 0
  stands m g is = (member_test m (members plan g)).0 is

  plus_one : {n k l : ℕ} → n ≡ k → suc n ≡ l → k + 1 ≡ l
  plus_one is last = omega (arith, is, last)

  abbrev number_of : TableReply → ℕ
  number_of (count n) = n
  number_of (was s) = 0
  number_of (found o) = 0

  -- before a completing part each member of the chord was stored First
  pub all_first : (h b r : Log) (p g m n : ℕ) → IsLegal plan h → Part h b r p g m n → suc n ≡ length (members plan g) → (t : ℕ) → IsTrue (is_member plan g t)
      → (o : Outcome) × WasFirst b t o
  all_first h b r p g m n legal is last t member =
      let a = allowed_at h b (calls p (part g m) (count n)) r legal is in
      let f = a.2.2 in
      let number : n ≡ count_of plan (At b) g = ap number_of a.1 in
      dite (ℕ_discrete t m)
      (λ e. (f.outcome, subst (λ (k : ℕ). WasFirst b k f.outcome) (sym e) (record { before = f.before; rest = f.rest; caller = f.caller; is = f.is })))
      (λ ne. returned_first b (legal_front no_results (reply_of plan) next_of (May plan) b (calls p (part g m) (count n) ∷ r) (subst (IsLegal plan) is legal)) t
      (all_counted (At b).returned m t (members plan g) a.2.3 (stands m g a.2.1) (plus_one number last) (stands t g member) ne))

  -- after it no part of the chord is returned
  pub no_more : (h b mid r : Log) (p q g m u n : ℕ) (w : TableReply) → IsLegal plan h → Part h b (mid ++ calls q (part g u) w ∷ r) p g m n
      → suc n ≡ length (members plan g) → ⊥
  no_more h b mid r p q g m u n w legal is last =
      let e : Entry TableCall TableReply = calls p (part g m) (count n) in
      let a = allowed_at h b e (mid ++ calls q (part g u) w ∷ r) legal is in
      let number : n ≡ count_of plan (At b) g = ap number_of a.1 in
      let js : h ≡ (b ++ e ∷ mid) ++ calls q (part g u) w ∷ r = is ∙ sym (append_assoc b (e ∷ mid) (calls q (part g u) w ∷ r)) in
      let c = allowed_at h (b ++ e ∷ mid) (calls q (part g u) w) r legal js in
      let there : (next_of (At b) (part g m)).returned u ≡ true =
      one (At b).returned u m a.2.3
      (λ ne. all_counted (At b).returned m u (members plan g) a.2.3 (stands m g a.2.1) (plus_one number last) (stands u g c.2.1) ne) in
      true≢false (sym (ap (λ (s : Results). s.returned u) (at_append b (e ∷ mid)) ∙ stays_returned (next_of (At b) (part g m)) mid u there) ∙ c.2.3)
    where
      one : (f : ℕ → Bool) (u m : ℕ) → f m ≡ false → (u ≢ m → f u ≡ true) → cond (u == m) true (f u) ≡ true
      one f u m free other = dite (ℕ_discrete u m) (λ e. ap (λ (b : Bool). cond b true (f u)) (eq-eqb u m e))
          (λ ne. ap (λ (b : Bool). cond b true (f u)) (ne_eqb u m ne) ∙ other ne)

  -- after it each read of a member answers the outcome that was stored first
  pub reads_first : (h b mid r : Log) (p q g m n t : ℕ) (w : TableReply) → IsLegal plan h → Part h b (mid ++ calls q (read t) w ∷ r) p g m n
      → suc n ≡ length (members plan g) → IsTrue (is_member plan g t)
      → (o : Outcome) × WasFirst b t o × (w ≡ found (Some o))
  reads_first h b mid r p q g m n t w legal is last member =
      let e : Entry TableCall TableReply = calls p (part g m) (count n) in
      let x = all_first h b (mid ++ calls q (read t) w ∷ r) p g m n legal is last t member in
      let f = x.1 in
      let js : h ≡ (b ++ e ∷ mid) ++ calls q (read t) w ∷ r = is ∙ sym (append_assoc b (e ∷ mid) (calls q (read t) w ∷ r)) in
      let c = allowed_at h (b ++ e ∷ mid) (calls q (read t) w) r legal js in
      let lb = legal_front no_results (reply_of plan) next_of (May plan) b (e ∷ mid ++ calls q (read t) w ∷ r) (subst (IsLegal plan) is legal) in
      let then : (At b).outcomes t ≡ Some x.0 = ap (λ (z : Log). (At z).outcomes t) f.is
      ∙ first_left f.before f.caller t x.0 f.rest (allowed_at b f.before (calls f.caller (store t x.0) (was First)) f.rest lb f.is) in
      let now : (At (b ++ e ∷ mid)).outcomes t ≡ Some x.0 = ap (λ (s : Results). s.outcomes t) (at_append b (e ∷ mid)) ∙ stays (At b) (e ∷ mid) t x.0 then in
      (x.0, f, c.1 ∙ ap found now)

  -- a caller is live after a call of its own
  live_after_call : (h : Log) (p : ℕ) (c : TableCall) (r : TableReply) → Allows h (calls p c r) → among p (live (h ++ calls p c r ∷ [])) ≡ true
  live_after_call h p c r ok = ap (among p) (live_push h (calls p c r)) ∙ ok.0

  -- after a store that answered First its task's part may be returned
  pub first_may : (p t : ℕ) (o : Outcome) (seen seen' : Log) → IsCall plan p seen seen' (calls p (store t o) (was First)) → MayReturn plan seen' p t
  first_may p t o seen seen' k =
      let e : Entry TableCall TableReply = calls p (store t o) (was First) in
      let h : Log = seen ++ k.0 in
      let is : seen' ≡ h ++ e ∷ [] = k.1 ∙ sym (append_assoc seen k.0 (e ∷ [])) in
      let legal : IsLegal plan (h ++ e ∷ []) = subst (IsLegal plan) is k.3 in
      let ok = legal_at no_results (reply_of plan) next_of (May plan) h e [] legal in
      let lh = legal_front no_results (reply_of plan) next_of (May plan) h (e ∷ []) legal in
      let alive = live_after_call h p (store t o) (was First) ok in
      let free : (At h).returned t ≡ false = not_true ((At h).returned t) (λ y. let w = returned_first h lh t y in
      not_both ((At h).outcomes t) w.0 (first_found h p t o ok) (ap (λ (z : Log). (At z).outcomes t) w.1.is
      ∙ first_left w.1.before w.1.caller t w.0 w.1.rest (allowed_at h w.1.before (calls w.1.caller (store t w.0) (was First)) w.1.rest lh w.1.is))) in
      subst (λ (z : Log). MayReturn plan z p t) (sym is) (record {
        own = record {
          before = h;
          rest = [];
          caller = p;
          outcome = o;
          is = refl;
          own = own_heir no_results (reply_of plan) next_of (May plan) []
              (h ++ e ∷ []) p legal alive;
        };
        free = ap (λ (s : Results). s.returned t) (state_push no_results (reply_of plan) next_of (May plan) h e) ∙ free;
        alive = alive;
      })

  -- it may be returned still after another call of the caller's own
  pub still_may : (p t : ℕ) (c : TableCall) (r : TableReply) (seen seen' : Log) → ((g : ℕ) → c ≢ part g t) → MayReturn plan seen p t
      → IsCall plan p seen seen' (calls p c r) → MayReturn plan seen' p t
  still_may p t c r seen seen' other f k =
      let e : Entry TableCall TableReply = calls p c r in
      let h : Log = seen ++ k.0 in
      let is : seen' ≡ h ++ e ∷ [] = k.1 ∙ sym (append_assoc seen k.0 (e ∷ [])) in
      let legal : IsLegal plan (h ++ e ∷ []) = subst (IsLegal plan) is k.3 in
      let ok = legal_at no_results (reply_of plan) next_of (May plan) h e [] legal in
      let lh = legal_front no_results (reply_of plan) next_of (May plan) h (e ∷ []) legal in
      let alive = live_after_call h p c r ok in
      let own = keeps_first seen k.0 p t lh f.alive ok.0 f.own in
      let free = still_free seen k.0 p t lh k.2 f.alive ok.0 f.own f.free in
      subst (λ (z : Log). MayReturn plan z p t) (sym is) (record {
        own = keeps_first h (e ∷ []) p t legal ok.0 alive own;
        free = ap (λ (s : Results). s.returned t) (state_push no_results (reply_of plan) next_of (May plan) h e) ∙ (same c other ∙ free);
        alive = alive;
      })
    where
      same : (c : TableCall) → ((g : ℕ) → c ≢ part g t) → (next_of (At (seen ++ k.0)) c).returned t ≡ (At (seen ++ k.0)).returned t
      same (store u o) other = refl
      same (read u) other = refl
      same (part g u) other = ap (λ (b : Bool). cond b true ((At (seen ++ k.0)).returned t))
          (not_true (t == u) (λ x. let y : u ≡ t = grind (arith, nat_tests) in other g (ap (part g) y)))
