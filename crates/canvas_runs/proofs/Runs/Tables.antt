-- What the backend's list says of members handed in: all of a header's are stored once it is counted full, and some part counts it full.
use Rattle.std.proofs.Common.{⊎_elim, ◌≡◌, ◌⊎◌, ℕ, suc, ◌+◌, ◌≤◌, Bool, true, false, cond, eqb, List, [], ◌∷◌, ◌++◌, length, Option, Some, None, refl, sym, ap, subst, ◌∙◌, inl, inr, arith}
use Rattle.std.proofs.lemmas.Bool.{eqb-true, eqb-false, eq-eqb}
use Rattle.canvas_task.specs.declared.outcome.Outcome.{Outcome}
use Rattle.canvas_history.specs.Lists.{In, Each, total, by, seconds}
use Rattle.canvas_history.specs.declared.stored.Stored.{Stored}
use Rattle.canvas_history.specs.declared.stored.Stored.TheVariants.{First, Again}
use Rattle.canvas_history.specs.Table as table
use Rattle.canvas_runs.specs.Law.{returns_one}
use Rattle.canvas_runs.specs.Calls.{TableAnswered}
use Rattle.canvas_runs.proofs.Objects.Replay.{IsTable, FirstWins, kept_first, handed, look_up}
use Rattle.canvas_runs.proofs.Lists.Words.{each_append, each_weaker, each_from_in, in_each, call_same, reply_same}
use Rattle.canvas_runs.proofs.Runs.Finish.{counted_in, Known, Sound}

-- lists of numbers with no two equal

abbrev pub Distinct : List ℕ → Type 0
Distinct [] = Unit
Distinct (x ∷ xs) = (In x xs → ⊥) × Distinct xs

without : ℕ → List ℕ → List ℕ
without y [] = []
without y (x ∷ xs) = cond (eqb x y) xs (x ∷ without y xs)

length-without : (y : ℕ) (xs : List ℕ) → In y xs → length xs ≡ suc (length (without y xs))
unfolding without
length-without y [] i = elim i [ ]
length-without y (x ∷ xs) i = go (eqb x y) refl i (length-without y xs)
  where
    go : (b : Bool) → eqb x y ≡ b → (y ≡ x) ⊎ In y xs → (In y xs → length xs ≡ suc (length (without y xs)))
        → suc (length xs) ≡ suc (length (cond b xs (x ∷ without y xs)))
    go true e i r = refl
    go false e (inl s) r = absurd (eqb-false _ _ e (sym s))
    go false e (inr i) r = ap suc (r i)

in_without : (y z : ℕ) (xs : List ℕ) → In z xs → (z ≡ y → ⊥) → In z (without y xs)
unfolding without
in_without y z [] i d = i
in_without y z (x ∷ xs) i d = go (eqb x y) refl i (λ j. in_without y z xs j d)
  where
    go : (b : Bool) → eqb x y ≡ b → (z ≡ x) ⊎ In z xs → (In z xs → In z (without y xs)) → In z (cond b xs (x ∷ without y xs))
    go true e (inl s) r = absurd (d (s ∙ eqb-true _ _ e))
    go true e (inr i) r = i
    go false e (inl s) r = inl s
    go false e (inr i) r = inr (r i)

pub fits : (xs ys : List ℕ) → Distinct xs → Each (λ x. In x ys) xs → length xs ≤ length ys
fits [] ys d a = omega arith
fits (x ∷ xs) ys d a =
    let r = fits xs (without x ys) d.1 (each_from_in xs (λ z i. in_without x z ys (in_each (λ u. In u ys) xs a.1 z i) (λ s. d.0 (subst (λ u. In u xs) s i)))) in
    let l = length-without x ys a.0 in omega arith

in_or_not : (x : ℕ) (xs : List ℕ) → In x xs ⊎ (In x xs → ⊥)
in_or_not x [] = inr (λ i. i)
in_or_not x (y ∷ xs) = go (eqb x y) refl (in_or_not x xs)
  where
    go : (b : Bool) → eqb x y ≡ b → In x xs ⊎ (In x xs → ⊥) → ((x ≡ y) ⊎ In x xs) ⊎ ((x ≡ y) ⊎ In x xs → ⊥)
    go true e r = inl (inl (eqb-true _ _ e))
    go false e (inl i) = inl (inr i)
    go false e (inr n) = inr (λ c. ⊎_elim (eqb-false _ _ e) n c)

pub every_in : (xs ys : List ℕ) → Distinct xs → Each (λ x. In x ys) xs → length xs ≡ length ys → Each (λ y. In y xs) ys
every_in xs ys d a l = each_from_in ys (λ y i. ⊎_elim (λ h. h) (λ n. let f = fits (y ∷ xs) ys (n, d) (i, a) in absurd (omega arith)) (in_or_not y xs))

-- members by group

pub handed_length : (g : ℕ) (ps : List (ℕ × ℕ)) → handed g ps ≡ length (by g ps)
handed_length g [] = refl
handed_length g (e ∷ ps) = go (eqb e.0 g) (handed_length g ps)
  where
    go : (b : Bool) → handed g ps ≡ length (by g ps) → cond b (suc (handed g ps)) (handed g ps) ≡ length (cond b (e.1 ∷ by g ps) (by g ps))
    go true r = ap suc r
    go false r = r

in_by : (g m : ℕ) (ps : List (ℕ × ℕ)) → In m (by g ps) → In (g, m) ps
in_by g m [] i = i
in_by g m ((h, t) ∷ ps) i = go (eqb h g) refl i (in_by g m ps)
  where
    go : (b : Bool) → eqb h g ≡ b → In m (cond b (t ∷ by g ps) (by g ps)) → (In m (by g ps) → In (g, m) ps) → In (g, m) ((h, t) ∷ ps)
    go true e (inl s) r = inl (λ i. (sym (eqb-true h g e) i, s i))
    go true e (inr i) r = inr (r i)
    go false e i r = inr (r i)

by_in : (g m : ℕ) (ps : List (ℕ × ℕ)) → In (g, m) ps → In m (by g ps)
by_in g m [] i = i
by_in g m ((h, t) ∷ ps) (inl s) = subst (λ b. In m (cond b (t ∷ by g ps) (by g ps))) (sym (eq-eqb h g (sym (ap (λ q. q.0) s)))) (inl (ap (λ q. q.1) s))
by_in g m ((h, t) ∷ ps) (inr i) = go (eqb h g) (by_in g m ps i)
  where
    go : (b : Bool) → In m (by g ps) → In m (cond b (t ∷ by g ps) (by g ps))
    go true r = inr r
    go false r = r

-- task t has an outcome
abbrev pub InTable : List (ℕ × Outcome) → ℕ → Type 0
InTable os t = (o : Outcome) × (look_up t os ≡ Some o)

table_more : (os : List (ℕ × Outcome)) (t : ℕ) (o : Outcome) (u : ℕ) → InTable os u → InTable ((t, o) ∷ os) u
table_more os t o u i = go (eqb t u)
  where
    go : (b : Bool) → (q : Outcome) × (cond b (Some o) (look_up u os) ≡ Some q)
    go true = (o, refl)
    go false = i

table_new : (os : List (ℕ × Outcome)) (t : ℕ) (o : Outcome) → InTable ((t, o) ∷ os) t
table_new os t o = subst (λ b. (q : Outcome) × (cond b (Some o) (look_up t os) ≡ Some q)) (sym (eq-eqb t t refl)) (o, refl)

kept_more : (os : List (ℕ × Outcome)) (t : ℕ) (o : Outcome) (b : Stored) (u : ℕ) → InTable os u → InTable (kept_first b t o os) u
kept_more os t o First u i = table_more os t o u i
kept_more os t o Again u i = i

kept_new : (os : List (ℕ × Outcome)) (t : ℕ) (o : Outcome) (b : Stored) → FirstWins (look_up t os) b → InTable (kept_first b t o os) t
kept_new os t o First w = table_new os t o
kept_new os t o Again w = go (look_up t os) w
  where
    go : (x : Option Outcome) → FirstWins x Again → (q : Outcome) × (x ≡ Some q)
    go None w = absurd (cc)
    go (Some q) w = (q, refl)

module _ (members : ℕ → List ℕ) where
  abbrev Parts : List (ℕ × Outcome) → List (ℕ × ℕ) → Type 0
  Parts os ps = (g : ℕ) → Distinct (by g ps) × Each (λ t. In t (members g) × InTable os t) (by g ps)

  -- each caller's parts are of members that it has stored
  abbrev Callers : List (ℕ × Outcome) → List (ℕ × TableAnswered) → Type 0
  Callers os es = (q : ℕ) → (us : List ℕ) × Each (InTable os) us × Known members us (by q es)

  callers_next : (os qs : List (ℕ × Outcome)) (q : ℕ) (c : TableAnswered) (es : List (ℕ × TableAnswered)) → ((u : ℕ) → InTable os u → InTable qs u) →
      ((us : List ℕ) (cs : List TableAnswered) → Each (InTable os) us → Known members us (c ∷ cs)
      → (vs : List ℕ) × Each (InTable qs) vs × Known members vs cs) →
      Callers os ((q, c) ∷ es) → Callers qs es
  callers_next os qs q c es grow f h r = go (eqb q r) (h r)
    where
      go : (b : Bool) → (us : List ℕ) × Each (InTable os) us × Known members us (cond b (c ∷ by r es) (by r es))
          → (vs : List ℕ) × Each (InTable qs) vs × Known members vs (by r es)
      go true (us, a, k) = f us (by r es) a k
      go false (us, a, k) = (us, each_weaker grow us a, k)

  own : (os : List (ℕ × Outcome)) (q : ℕ) (c : TableAnswered) (es : List (ℕ × TableAnswered)) → Callers os ((q, c) ∷ es)
      → (us : List ℕ) × Each (InTable os) us × Known members us (c ∷ by q es)
  own os q c es h = subst (λ b. (us : List ℕ) × Each (InTable os) us × Known members us (cond b (c ∷ by q es) (by q es))) (eq-eqb q q refl) (h q)

  parts_next : (os : List (ℕ × Outcome)) (ps : List (ℕ × ℕ)) (g t : ℕ) → (In (g, t) ps → ⊥) → In t (members g) → InTable os t → Parts os ps
      → Parts os ((g, t) ∷ ps)
  parts_next os ps g t new i s k h = go (eqb g h) refl
    where
      go : (b : Bool) → eqb g h ≡ b → Distinct (cond b (t ∷ by h ps) (by h ps)) × Each (λ t. In t (members h) × InTable os t) (cond b (t ∷ by h ps) (by h ps))
      go true e =
          let same : g ≡ h = eqb-true _ _ e in
          ((λ j. new (subst (λ u. In (u, t) ps) (sym same) (in_by h t ps j)), (k h).0), ((subst (λ u. In t (members u)) same i, s), (k h).1))
      go false e = k h

  -- once as many are handed in as there are members, they are all stored
  all_stored : (os : List (ℕ × Outcome)) (ps : List (ℕ × ℕ)) (g : ℕ) → Parts os ps → handed g ps ≡ length (members g) → Each (InTable os) (members g)
  all_stored os ps g k l =
      let here = every_in (by g ps) (members g) (k g).0 (each_weaker (λ t h. h.0) (by g ps) (k g).1) (sym (handed_length g ps) ∙ l) in
      each_weaker (λ t i. (in_each (λ t. In t (members g) × InTable os t) (by g ps) (k g).1 t i).1) (members g) here

  counted_stored : (os : List (ℕ × Outcome)) (ps : List (ℕ × ℕ)) (g t n : ℕ) (us : List ℕ) → Parts os ((g, t) ∷ ps) → n ≡ handed g ps → Each (InTable os) us
      → Each (InTable os) (counted_in members g n us)
  counted_stored os ps g t n us k count a = go (eqb (suc n) (length (members g))) refl
    where
      more : handed g ((g, t) ∷ ps) ≡ suc (handed g ps)
      more = subst (λ b. cond b (suc (handed g ps)) (handed g ps) ≡ suc (handed g ps)) (sym (eq-eqb g g refl)) refl

      go : (b : Bool) → eqb (suc n) (length (members g)) ≡ b → Each (InTable os) (cond b (members g ++ us) us)
      go true e = each_append (InTable os) (members g) us (all_stored os ((g, t) ∷ ps) g k (more ∙ (ap suc (sym count) ∙ eqb-true _ _ e))) a
      go false e = a

  choose : (p : ℕ) (us : List ℕ) (d : Bool) (c : TableAnswered) (cs : List TableAnswered) → Sound members us (c ∷ cs) → Sound members us cs
      → Sound members us (cond d (c ∷ cs) cs)
  choose p us true c cs x y = x
  choose p us false c cs x y = y

  -- each caller's reads of tasks that it knows to be stored find them
  pub sound : (es : List (ℕ × TableAnswered)) (os : List (ℕ × Outcome)) (ps : List (ℕ × ℕ)) → IsTable os ps (seconds es) → Parts os ps → Callers os es
      → (p : ℕ) (us : List ℕ) → Each (InTable os) us → Sound members us (by p es)
  sound [] os ps l k h p us a = tt
  sound ((q, (table.store t o, table.was b)) ∷ es) os ps l k h p us a =
      let rest : (p : ℕ) (us : List ℕ) → Each (InTable (kept_first b t o os)) us → Sound members us (by p es) =
      sound es (kept_first b t o os) ps l.1 (λ g. ((k g).0, each_weaker (λ u i. (i.0, kept_more os t o b u i.1)) (by g ps) (k g).1))
      (callers_next os (kept_first b t o os) q (table.store t o, table.was b) es (kept_more os t o b)
      (λ vs cs c n. (t ∷ vs, (kept_new os t o b l.0, each_weaker (kept_more os t o b) vs c), n)) h) in
      choose p us (eqb q p) (table.store t o, table.was b) (by p es) (rest p (t ∷ us) (kept_new os t o b l.0, each_weaker (kept_more os t o b) us a))
      (rest p us (each_weaker (kept_more os t o b) us a))
  sound ((q, (table.part g t, table.count n)) ∷ es) os ps l k h p us a =
      let mine : (us : List ℕ) × Each (InTable os) us × Known members us ((table.part g t, table.count n) ∷ by q es) =
      own os q (table.part g t, table.count n) es h in
      let parts : Parts os ((g, t) ∷ ps) = parts_next os ps g t l.1 (mine.2.1) (in_each (InTable os) mine.0 mine.1 t (mine.2.0)) k in
      let rest : (p : ℕ) (us : List ℕ) → Each (InTable os) us → Sound members us (by p es) =
      sound es os ((g, t) ∷ ps) l.2 parts
      (callers_next os os q (table.part g t, table.count n) es (λ u i. i)
      (λ vs cs c m. (counted_in members g n vs, counted_stored os ps g t n vs parts l.0 c, m.2)) h) in
      choose p us (eqb q p) (table.part g t, table.count n) (by p es)
      (rest p (counted_in members g n us) (counted_stored os ps g t n us parts l.0 a)) (rest p us a)
  sound ((q, (table.read t, table.found x)) ∷ es) os ps l k h p us a =
      let rest : (p : ℕ) (us : List ℕ) → Each (InTable os) us → Sound members us (by p es) =
      sound es os ps l.1 k (callers_next os os q (table.read t, table.found x) es (λ u i. i) (λ vs cs c m. (vs, c, m)) h) in
      choose p us (eqb q p) (table.read t, table.found x) (by p es) (
        λ i. let s = in_each (InTable os) us a t i in
            (s.0, l.0 ∙ s.1),
        rest p us a,
      ) (rest p us a)
  sound (x ∷ es) os ps l k h p us a = elim l [ ]

  abbrev pub MemberPart : TableAnswered → Type 0
  MemberPart (table.part g t, table.count n) = In t (members g)
  MemberPart c = Unit

  pub known_members : (us : List ℕ) (cs : List TableAnswered) → Known members us cs → Each MemberPart cs
  known_members us [] k = tt
  known_members us ((table.store t o, table.was b) ∷ cs) k = (tt, known_members (t ∷ us) cs k)
  known_members us ((table.part g t, table.count n) ∷ cs) k = (k.1, known_members (counted_in members g n us) cs k.2)
  known_members us (c ∷ cs) k = (tt, known_members us cs k)

pub handed_before : (g m n : ℕ) (os : List (ℕ × Outcome)) (ps : List (ℕ × ℕ)) (cs : List TableAnswered) → IsTable os ps cs → In (g, m) ps
    → In (table.part g m, table.count n) cs
    → ⊥
handed_before g m n os ps [] l i j = j
handed_before g m n os ps ((table.store t o, table.was b) ∷ cs) l i (inl e) = absurd (cc (call_same e))
handed_before g m n os ps ((table.store t o, table.was b) ∷ cs) l i (inr j) = handed_before g m n (kept_first b t o os) ps cs l.1 i j
handed_before g m n os ps ((table.read t, table.found x) ∷ cs) l i (inl e) = absurd (cc (call_same e))
handed_before g m n os ps ((table.read t, table.found x) ∷ cs) l i (inr j) = handed_before g m n os ps cs l.1 i j
handed_before g m n os ps ((table.part h t, table.count k) ∷ cs) l i (inl e) =
    let groups : g ≡ h = cc (call_same e) in let tasks : m ≡ t = cc (call_same e) in
    l.1 (subst (λ u. In (u, t) ps) groups (subst (λ u. In (g, u) ps) tasks i))
handed_before g m n os ps ((table.part h t, table.count k) ∷ cs) l i (inr j) = handed_before g m n os ((h, t) ∷ ps) cs l.2 (inr i) j
handed_before g m n os ps (c ∷ cs) l i j = elim l [ ]

pub one_reply : (g m a b : ℕ) (os : List (ℕ × Outcome)) (ps : List (ℕ × ℕ)) (cs : List TableAnswered) → IsTable os ps cs
    → In (table.part g m, table.count a) cs
    → In (table.part g m, table.count b) cs → a ≡ b
one_reply g m a b os ps [] l i j = elim i [ ]
one_reply g m a b os ps ((table.store t o, table.was d) ∷ cs) l (inl e) j = absurd (cc (call_same e))
one_reply g m a b os ps ((table.store t o, table.was d) ∷ cs) l (inr i) (inl e) = absurd (cc (call_same e))
one_reply g m a b os ps ((table.store t o, table.was d) ∷ cs) l (inr i) (inr j) = one_reply g m a b (kept_first d t o os) ps cs l.1 i j
one_reply g m a b os ps ((table.read t, table.found x) ∷ cs) l (inl e) j = absurd (cc (call_same e))
one_reply g m a b os ps ((table.read t, table.found x) ∷ cs) l (inr i) (inl e) = absurd (cc (call_same e))
one_reply g m a b os ps ((table.read t, table.found x) ∷ cs) l (inr i) (inr j) = one_reply g m a b os ps cs l.1 i j
one_reply g m a b os ps ((table.part h t, table.count k) ∷ cs) l (inl e) (inl f) = let x : a ≡ k = cc (reply_same e) in let y : b ≡ k = cc (reply_same f) in
    x ∙ sym y
one_reply g m a b os ps ((table.part h t, table.count k) ∷ cs) l (inl e) (inr j) = absurd (handed_before g m b os ((h, t) ∷ ps) cs l.2 (inl (pair e)) j)
  where
    pair : ◌≡◌ {A = TableAnswered} (table.part g m, table.count a) (table.part h t, table.count k) → ◌≡◌ {A = ℕ × ℕ} (g, m) (h, t)
    pair e = let groups : g ≡ h = cc (call_same e) in let tasks : m ≡ t = cc (call_same e) in λ i. (groups i, tasks i)
one_reply g m a b os ps ((table.part h t, table.count k) ∷ cs) l (inr i) (inl e) = absurd (handed_before g m a os ((h, t) ∷ ps) cs l.2 (inl (pair e)) i)
  where
    pair : ◌≡◌ {A = TableAnswered} (table.part g m, table.count b) (table.part h t, table.count k) → ◌≡◌ {A = ℕ × ℕ} (g, m) (h, t)
    pair e = let groups : g ≡ h = cc (call_same e) in let tasks : m ≡ t = cc (call_same e) in λ i. (groups i, tasks i)
one_reply g m a b os ps ((table.part h t, table.count k) ∷ cs) l (inr i) (inr j) = one_reply g m a b os ((h, t) ∷ ps) cs l.2 i j
one_reply g m a b os ps (c ∷ cs) l i j = elim l [ ]

-- where each of a header's members is handed in, some part finds all the others counted
pub last_part : (g k : ℕ) (ms : List ℕ) (os : List (ℕ × Outcome)) (ps : List (ℕ × ℕ)) (cs : List TableAnswered) → IsTable os ps cs → Distinct ms
    → length ms ≡ suc k → handed g ps ≤ k →
    Each (λ m. In (g, m) ps ⊎ ((n : ℕ) × In (table.part g m, table.count n) cs)) ms → (t : ℕ) × In (table.part g t, table.count k) cs
last_part g k ms os ps [] l d size few all =
    let f = fits ms (by g ps) d (each_weaker (λ m h. ⊎_elim (λ i. by_in g m ps i) (λ z. elim (z.1) [ ]) h) ms all) in
    let h = handed_length g ps in absurd (omega arith)
last_part g k ms os ps ((table.store t o, table.was b) ∷ cs) l d size few all =
    let r = last_part g k ms (kept_first b t o os) ps cs l.1 d size few
    (each_weaker (λ m h. ⊎_elim (λ i. inl i) (λ z. inr (z.0, later m z.0 z.1)) h) ms all) in (r.0, inr r.1)
  where
    later : (m n : ℕ) → In (table.part g m, table.count n) ((table.store t o, table.was b) ∷ cs) → In (table.part g m, table.count n) cs
    later m n (inl e) = absurd (cc (call_same e))
    later m n (inr i) = i
last_part g k ms os ps ((table.read t, table.found x) ∷ cs) l d size few all =
    let r = last_part g k ms os ps cs l.1 d size few (each_weaker (λ m h. ⊎_elim (λ i. inl i) (λ z. inr (z.0, later m z.0 z.1)) h) ms all) in (r.0, inr r.1)
  where
    later : (m n : ℕ) → In (table.part g m, table.count n) ((table.read t, table.found x) ∷ cs) → In (table.part g m, table.count n) cs
    later m n (inl e) = absurd (cc (call_same e))
    later m n (inr i) = i
last_part g k ms os ps ((table.part h t, table.count i) ∷ cs) l d size few all = go (eqb h g) refl (eqb i k) refl
    (λ few. last_part g k ms os ((h, t) ∷ ps) cs l.2 d size few (each_weaker moved ms all))
  where
    split : (m n : ℕ) → In (table.part g m, table.count n) ((table.part h t, table.count i) ∷ cs) → In (g, m) ((h, t) ∷ ps)
        ⊎ ((n : ℕ) × In (table.part g m, table.count n) cs)
    split m n (inl e) = let groups : g ≡ h = cc (call_same e) in let tasks : m ≡ t = cc (call_same e) in inl (inl (λ i. (groups i, tasks i)))
    split m n (inr j) = inr (n, j)

    moved : (m : ℕ) → In (g, m) ps ⊎ ((n : ℕ) × In (table.part g m, table.count n) ((table.part h t, table.count i) ∷ cs)) → In (g, m) ((h, t) ∷ ps)
        ⊎ ((n : ℕ) × In (table.part g m, table.count n) cs)
    moved m (inl j) = inl (inr j)
    moved m (inr (n, j)) = split m n j

    go : (b : Bool) → eqb h g ≡ b → (f : Bool) → eqb i k ≡ f
        → (cond b (suc (handed g ps)) (handed g ps) ≤ k → (t : ℕ) × In (table.part g t, table.count k) cs)
        → (u : ℕ) × In (table.part g u, table.count k) ((table.part h t, table.count i) ∷ cs)
    go true e true f r = (
      t,
      subst (λ u. In (table.part u t, table.count k) ((table.part h t, table.count i) ∷ cs)) (eqb-true _ _ e)
          (subst (λ u. In (table.part h t, table.count u) ((table.part h t, table.count i) ∷ cs)) (eqb-true _ _ f) (inl refl)),
    )
    go true e false f r =
        let count : i ≡ handed g ps = subst (λ u. i ≡ handed u ps) (eqb-true _ _ e) l.0 in
        let s = r (below count (eqb-false _ _ f)) in (s.0, inr s.1)
      where
        below : i ≡ handed g ps → (i ≡ k → ⊥) → suc (handed g ps) ≤ k
        below count other = omega arith
    go false e f q r = let s = r few in (s.0, inr s.1)
last_part g k ms os ps (c ∷ cs) l d size few all = elim l [ ]

-- a part is returned once
pub part_once : (g m : ℕ) (os : List (ℕ × Outcome)) (ps : List (ℕ × ℕ)) (cs : List TableAnswered) → IsTable os ps cs
    → (total (returns_one g m) cs ≤ 1) × (In (g, m) ps → total (returns_one g m) cs ≡ 0)
part_once g m os ps [] l = (omega arith, λ i. refl)
part_once g m os ps ((table.store t o, table.was b) ∷ cs) l = let r = part_once g m (kept_first b t o os) ps cs l.1 in
    (omega (arith, r.0), λ i. let z = r.1 i in omega arith)
part_once g m os ps ((table.read t, table.found x) ∷ cs) l = let r = part_once g m os ps cs l.1 in (omega (arith, r.0), λ i. let z = r.1 i in omega arith)
part_once g m os ps ((table.part h t, table.count n) ∷ cs) l = go (eqb h g) refl (eqb t m) refl (part_once g m os ((h, t) ∷ ps) cs l.2)
  where
    go : (b : Bool) → eqb h g ≡ b → (d : Bool) → eqb t m ≡ d → (total (returns_one g m) cs ≤ 1) × (In (g, m) ((h, t) ∷ ps) → total (returns_one g m) cs ≡ 0) →
        (cond b (cond d 1 0) 0 + total (returns_one g m) cs ≤ 1) × (In (g, m) ps → cond b (cond d 1 0) 0 + total (returns_one g m) cs ≡ 0)
    go true e true f r =
        let groups : h ≡ g = eqb-true _ _ e in let tasks : t ≡ m = eqb-true _ _ f in
        let z = r.1 (inl (λ i. (sym groups i, sym tasks i))) in
        (omega arith, λ i. absurd (l.1 (subst (λ u. In (u, t) ps) (sym groups) (subst (λ u. In (g, u) ps) (sym tasks) i))))
    go true e false f r = (omega (arith, r.0), λ i. let z = r.1 (inr i) in omega arith)
    go false e d f r = (omega (arith, r.0), λ i. let z = r.1 (inr i) in omega arith)
part_once g m os ps (c ∷ cs) l = elim l [ ]
