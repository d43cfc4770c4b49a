-- What worker 0's pass has seen when all workers are taken in and it has worked on: of each worker just its calls, in order, and nobody else is live.
use Rattle.std.proofs.Common.{◌≡◌, ℕ, suc, false, List, [], ◌∷◌, ◌++◌, length, map, ◌==◌, refl, sym, ap, ◌∙◌, subst, append_assoc, append-nil, ⊎_elim}
use Rattle.std.proofs.lemmas.Bool.{false≢true, eq-eqb, ne_eqb}
use Rattle.canvas_task.specs.Apply.{Behaviour}
use Rattle.canvas_history.specs.History.{split, join, calls, by_of, live_from, live, split_off, made_by, NoneBy, Since, Sole}
use Rattle.canvas_history.proofs.Histories.{StartsWith, In, in_cases, in_here, in_left, in_right, live_append, named_append, legal_right}
use Rattle.canvas_history.proofs.Histories.{made_append, made_here, made_off, OnlyCalls, OthersCall, named_first, live_first, fresh_at, others_call}
use Rattle.canvas_history.specs.Roster.{Roster}
use Rattle.canvas_envelope.specs.declared.envelope.Envelope.{Envelope}
use Rattle.canvas_history.specs.Queue.{QueueEntry as Entries, answer_of, next, May, IsLegal}
use Rattle.canvas_history.specs.Passes.{Stands, Parted, IsHistory}
use Rattle.canvas_history.specs.Callers.{Owes}
use Rattle.canvas_history.specs.Answers.{entries_by, splits_of, joins_of}
use Rattle.canvas_runs.specs.Following.{Pass, Makes}
use Rattle.canvas_runs.specs.Calls.{QueueAnswered}
use Rattle.canvas_runs.specs.PerCaller.{HasQueueCalls, QueuePerCaller}
use Rattle.canvas_runs.specs.CallerRuns.{CallerRun, SplitPasses, JoinPasses, numbers_along}
use Rattle.canvas_runs.proofs.ByCallers.Numbers.{NoZero, starts_same, starts_then, others_start, live_splits, live_joins, named_splits, named_joins, off_joins, here_joins, number_of_split, one_more}

made_none : (p : ℕ) (cs : List ℕ) (xs : List (Entries Envelope)) → In p cs → NoneBy cs xs → made_by p xs ≡ []
made_none p cs [] i n = refl
made_none p cs (x ∷ xs) i n =
    made_off p x xs (ne_eqb (by_of x) p (λ z. false≢true (sym n.0 ∙ subst (λ k. In k cs) (sym z) i))) ∙ made_none p cs xs i n.1

made_since : (p : ℕ) (cs : List ℕ) (log seen : List (Entries Envelope)) → In p cs → Since cs log seen → made_by p log ≡ made_by p seen
made_since p cs log seen i s =
    ap (λ l. made_by p l) s.1 ∙ (made_append p seen s.0 ∙ (ap (λ l. made_by p seen ++ l) (made_none p cs s.0 i s.2) ∙ append-nil (made_by p seen)))

module _ (behaviour : Behaviour) where
  abbrev names_of : {l : Roster} → List (CallerRun behaviour l) → List ℕ
  names_of [] = []
  names_of (h ∷ hs) = h.pass.name ∷ names_of hs

-- the pass of caller n, which owes nothing and whose own entries are these
record At (n : ℕ) (p : Pass) (es : List (Entries Envelope)) : Type 0 where
  name : p.name ≡ n
  mine : p.mine ≡ n ∷ []
  owed : p.owed ≡ []
  legal : IsLegal p.seen
  own : made_by n p.seen ≡ es

stands : (n : ℕ) (p p' : Pass) (es : List (Entries Envelope)) (e : Entries Envelope) → At n p es → by_of e ≡ n → Stands p e p' → At n p' (es ++ e ∷ [])
stands n p p' es e a b s =
    let x = s.4 in
    let shape : p'.seen ≡ p.seen ++ (x.0 ++ e ∷ []) = x.1 ∙ ap (λ l. p.seen ++ (x.0 ++ (l ++ e ∷ []))) a.owed in
    record {
      name = s.1 ∙ a.name;
      mine = s.2 ∙ (ap (λ l. live_from p.mine l) a.owed ∙ a.mine);
      owed = s.3;
      legal = x.3;
      own = ap (λ l. made_by n l) shape ∙ (made_append n p.seen (x.0 ++ e ∷ []) ∙ (ap (λ l. l ++ made_by n (x.0 ++ e ∷ [])) a.own
          ∙ ap (λ l. es ++ l) (made_append n x.0 (e ∷ [])
          ∙ (ap (λ l. l ++ made_by n (e ∷ [])) (made_none n p.mine x.0 (subst (λ l. In n l) (sym a.mine) (in_here n [])) x.2) ∙ made_here n e [] b))));
    }

makes : (n : ℕ) (p q : Pass) (es : List (Entries Envelope)) (cs : List (QueueAnswered Envelope)) → At n p es → Makes p cs q → At n q (es ++ entries_by n cs)
makes n p q es [] a m = subst (λ x. At n x (es ++ [])) (sym m) (subst (λ l. At n p l) (sym (append-nil es)) a)
makes n p q es (c ∷ cs) a m =
    let call : Entries Envelope = calls p.name c.0 c.1 in
    let one : At n m.0 (es ++ call ∷ []) = stands n p m.0 es call a a.name m.1 in
    let two : At n m.0 (es ++ calls n c.0 c.1 ∷ []) =
    subst (λ k. At n m.0 (es ++ calls k c.0 c.1 ∷ [])) a.name one in
    subst (λ l. At n q l) (append_assoc es (calls n c.0 c.1 ∷ []) (entries_by n cs))
    (makes n m.0 q (es ++ calls n c.0 c.1 ∷ []) cs two m.2)

module _ (behaviour : Behaviour) where
  abbrev pub passes_of : {l : Roster} → List (CallerRun behaviour l) → List Pass
  passes_of {l} ms = map (λ (m : CallerRun behaviour l). m.pass) ms

  abbrev pub left_of : {l : Roster} → List (CallerRun behaviour l) → List Pass
  left_of {l} ms = map (λ (m : CallerRun behaviour l). m.ended.pass) ms

module _ (behaviour : Behaviour) (plan : Roster) where
  -- of a pass that was just made
  abbrev Fresh : CallerRun behaviour plan → Type 0
  Fresh h = At h.pass.name h.pass [] × ((h.pass.name == 0) ≡ false)

  abbrev AllFresh : List (CallerRun behaviour plan) → Type 0
  AllFresh [] = Unit {0}
  AllFresh (h ∷ hs) = Fresh h × AllFresh hs

  parted : (p p' : Pass) (es : List (Entries Envelope)) (h : CallerRun behaviour plan) → At 0 p es → Parted p p' h.pass
      → At 0 p' (es ++ split 0 h.pass.name ∷ [])
      × Fresh h
  parted p p' es h a s =
      let q : ℕ = h.pass.name in
      let e : Entries Envelope = split p.name q in
      let x = s.0.4 in
      let shape : p'.seen ≡ (p.seen ++ x.0) ++ e ∷ [] = x.1 ∙ (ap (λ l. p.seen ++ (x.0 ++ (l ++ e ∷ []))) a.owed ∙ sym (append_assoc p.seen x.0 (e ∷ []))) in
      let legal : IsLegal ((p.seen ++ x.0) ++ e ∷ []) = subst (λ l. IsLegal l) shape x.3 in
      let ok = (legal_right [] answer_of next May [] (p.seen ++ x.0) (e ∷ []) legal).0 in
      let apart : (p.name == q) ≡ false = ne_eqb p.name q (λ z. false≢true (sym ok.1 ∙ eq-eqb q 0 (sym z ∙ a.name))) in
      let own : made_by q p'.seen ≡ [] = ap (λ l. made_by q l) shape ∙ fresh_at [] answer_of next May p.name q (p.seen ++ x.0) legal apart in
      let name : q ≡ length (split_off p'.seen) = ap (λ (c : Pass). c.name) s.1 in (
        subst (λ k. At 0 p' (es ++ split k q ∷ [])) a.name (stands 0 p p' es e a a.name s.0),
        (
          record {
            name = refl;
            mine = ap (λ (c : Pass). c.mine) s.1 ∙ ap (λ k. k ∷ []) (sym name);
            owed = ap (λ (c : Pass). c.owed) s.1;
            legal = subst (λ l. IsLegal l) (sym (ap (λ (c : Pass). c.seen) s.1)) x.3;
            own = ap (λ l. made_by q l) (ap (λ (c : Pass). c.seen) s.1) ∙ own;
          },
          ok.1,
        ),
      )

  splits : (p p' : Pass) (es : List (Entries Envelope)) (hs : List (CallerRun behaviour plan)) → At 0 p es → SplitPasses p (passes_of behaviour hs) p'
      → At 0 p' (es ++ splits_of (names_of behaviour hs)) × AllFresh hs
  splits p p' es [] a s = (subst (λ x. At 0 x (es ++ [])) (sym s) (subst (λ l. At 0 p l) (sym (append-nil es)) a), tt)
  splits p p' es (h ∷ hs) a s =
      let one = parted p s.0 es h a s.1 in
      let two = splits s.0 p' (es ++ split 0 h.pass.name ∷ []) hs one.0 s.2 in
      (subst (λ l. At 0 p' l) (append_assoc es (split 0 h.pass.name ∷ []) (splits_of (names_of behaviour hs))) two.0, (one.1, two.1))

  -- worker 0 has taken in some, and owes their joins
  abbrev Keeps : Pass → List (CallerRun behaviour plan) → Type 0
  Keeps p [] = Unit {0}
  Keeps p (h ∷ hs) = In h.pass.name p.mine × (made_by h.pass.name p.seen ≡ entries_by h.pass.name h.followed.made) × Keeps p hs

  record Held (p : Pass) (es : List (Entries Envelope)) (hs : List (CallerRun behaviour plan)) : Type 0 where
    name : p.name ≡ 0
    here : In 0 p.mine
    owed : p.owed ≡ joins_of (names_of behaviour hs)
    legal : IsLegal p.seen
    own : made_by 0 p.seen ≡ es
    keeps : Keeps p hs
    history : IsLegal (p.seen ++ p.owed)

  keeps_on : (p p' : Pass) (ds : List ℕ) (hs : List (CallerRun behaviour plan)) → Since p.mine p'.seen p.seen → p'.mine ≡ p.mine ++ ds → Keeps p hs
      → Keeps p' hs
  keeps_on p p' ds [] s m k = tt
  keeps_on p p' ds (h ∷ hs) s m k = (
    subst (λ l. In h.pass.name l) (sym m) (in_left h.pass.name p.mine ds k.0),
    made_since h.pass.name p.mine p'.seen p.seen k.0 s ∙ k.1,
    keeps_on p p' ds hs s m k.2,
  )

  keeps_snoc : (p : Pass) (hs : List (CallerRun behaviour plan)) (h : CallerRun behaviour plan) → Keeps p hs → Keeps p (h ∷ []) → Keeps p (hs ++ h ∷ [])
  keeps_snoc p [] h k l = l
  keeps_snoc p (g ∷ hs) h k l = (k.0, k.1, keeps_snoc p hs h k.2 l)

  names_snoc : (hs : List (CallerRun behaviour plan)) (h : CallerRun behaviour plan)
      → ◌≡◌ {A = List (Entries Envelope)} (joins_of (names_of behaviour (hs ++ h ∷ []))) (joins_of (names_of behaviour hs) ++ join 0 h.pass.name ∷ [])
  names_snoc [] h = refl
  names_snoc (g ∷ hs) h = ap (λ l. join 0 g.pass.name ∷ l) (names_snoc hs h)

  joined : (p p' : Pass) (es : List (Entries Envelope)) (hs : List (CallerRun behaviour plan)) (h : CallerRun behaviour plan) → Held p es hs → Fresh h
      → Owes p h.ended.pass p' → IsHistory p' → Held p' es (hs ++ h ∷ [])
  joined p p' es hs h k f j y =
      let n : ℕ = h.pass.name in
      let left : At n h.ended.pass (entries_by n h.followed.made) = makes n h.pass h.ended.pass [] h.followed.made f.0 h.followed.makes in
      let owes : p'.owed ≡ joins_of (names_of behaviour hs) ++ join 0 n ∷ [] =
      j.3 ∙ (ap (λ l. l ++ (h.ended.pass.owed ++ join p.name h.ended.pass.name ∷ [])) k.owed ∙ ap (λ l. joins_of (names_of behaviour hs) ++ l)
      (ap (λ l. l ++ join p.name h.ended.pass.name ∷ []) left.owed ∙ (ap (λ a. join a h.ended.pass.name ∷ []) k.name ∙ ap (λ a. join 0 a ∷ []) left.name))) in
      let mine : In n h.ended.pass.mine = subst (λ l. In n l) (sym left.mine) (in_here n []) in
      record {
        name = j.1 ∙ k.name;
        here = subst (λ l. In 0 l) (sym j.2) (in_left 0 p.mine h.ended.pass.mine k.here);
        owed = owes ∙ sym (names_snoc hs h);
        legal = ⊎_elim (λ (e : p'.seen ≡ p.seen). subst (λ l. IsLegal l) (sym e) k.legal)
            (λ (e : p'.seen ≡ h.ended.pass.seen). subst (λ l. IsLegal l) (sym e) left.legal) j.6;
        own = made_since 0 p.mine p'.seen p.seen k.here j.4 ∙ k.own;
        keeps = keeps_snoc p' hs h (keeps_on p p' h.ended.pass.mine hs j.4 j.2 k.keeps) (
          subst (λ l. In n l) (sym j.2) (in_right n p.mine h.ended.pass.mine mine),
          made_since n h.ended.pass.mine p'.seen h.ended.pass.seen mine j.5
              ∙ left.own,
          tt,
        );
        history = y;
      }

  joins : (p p' : Pass) (es : List (Entries Envelope)) (gs hs : List (CallerRun behaviour plan)) → Held p es gs → AllFresh hs
      → JoinPasses p (left_of behaviour hs) p' → Held p' es (gs ++ hs)
  joins p p' es gs [] k f j = subst (λ l. Held p' es l) (sym (append-nil gs)) (subst (λ x. Held x es gs) (sym j) k)
  joins p p' es gs (h ∷ hs) k f j =
      subst (λ l. Held p' es l) (append_assoc gs (h ∷ []) hs) (joins j.0 p' es (gs ++ h ∷ []) hs (joined p j.0 es gs h k f.0 j.1 j.2) f.1 j.3)

  -- what these lists come to
  named_entries : (cs : List (QueueAnswered Envelope)) → split_off (entries_by 0 cs) ≡ []
  named_entries [] = refl
  named_entries (c ∷ cs) = named_entries cs

  named_both : (qs : List ℕ) (cs : List (QueueAnswered Envelope)) → split_off (splits_of qs ++ entries_by 0 cs) ≡ qs
  named_both qs cs = named_append (splits_of qs) (entries_by 0 cs)
      ∙ (ap (λ l. l ++ split_off (entries_by 0 cs)) (named_splits _ _ qs) ∙ (ap (λ l. qs ++ l) (named_entries cs) ∙ append-nil qs))

  live_calls : (cs : List ℕ) (ds : List (QueueAnswered Envelope)) → live_from cs (entries_by 0 ds) ≡ cs
  live_calls cs [] = refl
  live_calls cs (d ∷ ds) = live_calls cs ds

  no_zero : (hs : List (CallerRun behaviour plan)) → AllFresh hs → NoZero (names_of behaviour hs)
  no_zero [] f = tt
  no_zero (h ∷ hs) f = (f.0.1, no_zero hs f.1)

  only_entries : (n : ℕ) (cs : List (QueueAnswered Envelope)) → OnlyCalls (entries_by n cs)
  only_entries n [] = tt
  only_entries n (c ∷ cs) = only_entries n cs

  quiet : (p : Pass) (hs : List (CallerRun behaviour plan)) → Keeps p hs → (c : ℕ) → In c (names_of behaviour hs) → OnlyCalls (made_by c p.seen)
  quiet p [] k c i = absurd (false≢true i)
  quiet p (h ∷ hs) k c i =
      ⊎_elim (λ (e : h.pass.name ≡ c). subst (λ x. OnlyCalls (made_by x p.seen)) e
      (subst (λ l. OnlyCalls l) (sym k.1) (only_entries h.pass.name h.followed.made)))
      (λ u. quiet p hs k.2 c u) (in_cases c h.pass.name (names_of behaviour hs) i)

  -- of each worker the list has just its calls
  abbrev HasNamed : List (Entries Envelope) → List (CallerRun behaviour plan) → Type 0
  HasNamed log [] = Unit {0}
  HasNamed log (h ∷ hs) = (made_by h.pass.name log ≡ entries_by h.pass.name h.followed.made) × HasNamed log hs

  has_named : (p : Pass) (hs : List (CallerRun behaviour plan)) → Keeps p hs → HasNamed p.seen hs
  has_named p [] k = tt
  has_named p (h ∷ hs) k = (k.1, has_named p hs k.2)

  -- a pass has seen what it had seen
  splits_start : (p p' : Pass) (qs : List Pass) → SplitPasses p qs p' → StartsWith p'.seen p.seen
  splits_start p p' [] s = subst (λ (x : Pass). StartsWith x.seen p.seen) (sym s) (starts_same p.seen)
  splits_start p p' (q ∷ qs) s = starts_then p'.seen s.0.seen p.seen (splits_start s.0 p' qs s.2) (s.1.0.4.0 ++ (p.owed ++ split p.name q.name ∷ []), s.1.0.4.1)

  makes_start : (p q : Pass) (cs : List (QueueAnswered Envelope)) → Makes p cs q → StartsWith q.seen p.seen
  makes_start p q [] m = subst (λ (x : Pass). StartsWith x.seen p.seen) (sym m) (starts_same p.seen)
  makes_start p q (c ∷ cs) m =
      starts_then q.seen m.0.seen p.seen (makes_start m.0 q cs m.2) (m.1.4.0 ++ (p.owed ++ calls p.name c.0 c.1 ∷ []), m.1.4.1)

  joins_start : (p p' : Pass) (qs : List Pass) → JoinPasses p qs p' → StartsWith p'.seen p.seen
  joins_start p p' [] j = subst (λ (x : Pass). StartsWith x.seen p.seen) (sym j) (starts_same p.seen)
  joins_start p p' (q ∷ qs) j = starts_then p'.seen j.0.seen p.seen (joins_start j.0 p' qs j.3) (j.1.4.0, j.1.4.1)

  -- the workers' numbers are those from 1 on
  numbered : (whole : List (Entries Envelope)) (p p' : Pass) (es : List (Entries Envelope)) (hs : List (CallerRun behaviour plan)) → At 0 p es
      → SplitPasses p (passes_of behaviour hs) p' → OthersCall whole → StartsWith whole p'.seen
      → names_of behaviour hs ≡ numbers_along (suc (length (split_off es))) hs
  numbered whole p p' es [] a s o f = refl
  numbered whole p p' es (h ∷ hs) a s o f =
      let q : ℕ = h.pass.name in
      let one = parted p s.0 es h a s.1 in
      let here : StartsWith whole s.0.seen = starts_then whole p'.seen s.0.seen f (splits_start s.0 p' (passes_of behaviour hs) s.2) in
      let name : q ≡ suc (length (split_off es)) =
      number_of_split s.0.seen es q (others_start whole s.0.seen here o) one.0.own (ap (λ (c : Pass). c.name) s.1.1) in
      let rest = numbered whole s.0 p' (es ++ split 0 q ∷ []) hs one.0 s.2 o f in
      ap (λ k. k ∷ names_of behaviour hs) name ∙ ap (λ l. suc (length (split_off es)) ∷ l) (rest ∙ ap (λ n. numbers_along (suc n) hs) (one_more es q))

  record Gathered (p : Pass) (hs : List (CallerRun behaviour plan)) (first : List (QueueAnswered Envelope)) : Type 0 where
    name : p.name ≡ 0
    owed : p.owed ≡ joins_of (names_of behaviour hs)
    own : made_by 0 p.seen ≡ splits_of (names_of behaviour hs) ++ entries_by 0 first
    each : HasNamed p.seen hs
    names : split_off (p.seen ++ p.owed) ≡ names_of behaviour hs
    sole : Sole (p.seen ++ p.owed) 0
    history : IsLegal (p.seen ++ p.owed)
    numbers_are : names_of behaviour hs ≡ numbers_along 1 hs
    some : NoZero (names_of behaviour hs)

  -- only from the call clauses
  gathered : (p0 p1 p2 p3 : Pass) (hs : List (CallerRun behaviour plan)) (first : List (QueueAnswered Envelope))
      → p0.name ≡ 0 → p0.mine ≡ 0 ∷ [] → p0.seen ≡ [] → p0.owed ≡ []
      → SplitPasses p0 (passes_of behaviour hs) p1 → Makes p1 first p2 → JoinPasses p2 (left_of behaviour hs) p3 → Gathered p3 hs first
  gathered p0 p1 p2 p3 hs first n m s o sp mk jn =
      let qs : List ℕ = names_of behaviour hs in
      let start : At 0 p0 [] = record { name = n; mine = m; owed = o; legal = subst (λ l. IsLegal l) (sym s) tt; own = ap (λ l. made_by 0 l) s } in
      let made = splits p0 p1 [] hs start sp in
      let sent : At 0 p2 (splits_of qs ++ entries_by 0 first) = makes 0 p1 p2 (splits_of qs) first made.0 mk in
      let held : Held p2 (splits_of qs ++ entries_by 0 first) [] = record {
        name = sent.name;
        here = subst (λ l. In 0 l) (sym sent.mine) (in_here 0 []);
        owed = sent.owed;
        legal = sent.legal;
        own = sent.own;
        keeps = tt;
        history = subst (λ l. IsLegal l) (sym (append-nil p2.seen) ∙ ap (λ l. p2.seen ++ l) (sym sent.owed)) sent.legal;
      } in
      let all : Held p3 (splits_of qs ++ entries_by 0 first) hs = joins p2 p3 (splits_of qs ++ entries_by 0 first) [] hs held made.1 jn in
      let others : OthersCall p3.seen = others_call [] answer_of next May [] p3.seen all.legal tt
      (λ c z i. quiet p3 hs all.keeps c (subst (λ l. In c l) (ap (λ l. split_off l) all.own ∙ named_both qs first) i)) in
      record {
        name = all.name;
        owed = all.owed;
        own = all.own;
        each = has_named p3 hs all.keeps;
        names = named_append p3.seen p3.owed
            ∙ (ap (λ l. l ++ split_off p3.owed) (named_first p3.seen others ∙ (ap (λ l. split_off l) all.own ∙ named_both qs first))
            ∙ (ap (λ l. qs ++ l) (ap (λ l. split_off l) all.owed ∙ named_joins _ _ qs) ∙ append-nil qs));
        sole = live_append (0 ∷ []) p3.seen p3.owed ∙ (ap (λ l. live_from l p3.owed) (live_first (0 ∷ []) p3.seen others ∙ (ap (λ l. live l) all.own
            ∙ (live_append (0 ∷ []) (splits_of qs) (entries_by 0 first)
            ∙ (live_calls (live_from (0 ∷ []) (splits_of qs)) first ∙ live_splits _ _ (0 ∷ []) qs))))
            ∙ (ap (λ l. live_from (0 ∷ qs) l) all.owed ∙ live_joins _ _ qs qs (no_zero hs made.1) (λ c i. i)));
        history = all.history;
        numbers_are = numbered p3.seen p0 p1 [] hs start sp others
            (starts_then p3.seen p2.seen p1.seen (joins_start p2 p3 (left_of behaviour hs) jn) (makes_start p1 p2 first mk));
        some = no_zero hs made.1;
      }

  -- as the only live caller, worker 0 adds its calls and nothing comes between
  alone_on : (p q : Pass) (cs : List (QueueAnswered Envelope)) → p.name ≡ 0 → Sole (p.seen ++ p.owed) 0 → IsLegal (p.seen ++ p.owed) → Makes p cs q
      → (q.seen ++ q.owed ≡ (p.seen ++ p.owed) ++ entries_by 0 cs) × (q.name ≡ 0) × Sole (q.seen ++ q.owed) 0 × IsLegal (q.seen ++ q.owed)
  alone_on p q [] n s y m = (
    ap (λ (x : Pass). x.seen ++ x.owed) m ∙ sym (append-nil (p.seen ++ p.owed)),
    ap (λ (x : Pass). x.name) m ∙ n,
    subst (λ (x : Pass). Sole (x.seen ++ x.owed) 0) (sym m) s,
    subst (λ (x : Pass). IsLegal (x.seen ++ x.owed)) (sym m) y,
  )
  alone_on p q (c ∷ cs) n s y m =
      let r : Pass = m.0 in
      let e : Entries Envelope = calls p.name c.0 c.1 in
      let e0 : Entries Envelope = calls 0 c.0 c.1 in
      let x = m.1.4 in
      let none : x.0 ≡ [] = x.4 (subst (λ k. Sole (p.seen ++ p.owed) k) (sym n) s) in
      let seen : r.seen ≡ (p.seen ++ p.owed) ++ e0 ∷ [] =
      x.1 ∙ (ap (λ b. p.seen ++ (b ++ (p.owed ++ e ∷ []))) none
      ∙ (sym (append_assoc p.seen p.owed (e ∷ [])) ∙ ap (λ k. (p.seen ++ p.owed) ++ calls k c.0 c.1 ∷ []) n)) in
      let all : r.seen ++ r.owed ≡ (p.seen ++ p.owed) ++ e0 ∷ [] = ap (λ l. r.seen ++ l) m.1.3 ∙ (append-nil r.seen ∙ seen) in
      let sole : Sole (r.seen ++ r.owed) 0 = subst (λ l. Sole l 0) (sym all) (live_append (0 ∷ []) (p.seen ++ p.owed) (e0 ∷ []) ∙ s) in
      let legal : IsLegal (r.seen ++ r.owed) = subst (λ l. IsLegal l) (sym (append-nil r.seen) ∙ ap (λ l. r.seen ++ l) (sym m.1.3)) x.3 in
      let rest = alone_on r q cs (m.1.1 ∙ n) sole legal m.2 in
      (rest.0 ∙ (ap (λ l. l ++ entries_by 0 cs) all ∙ append_assoc (p.seen ++ p.owed) (e0 ∷ []) (entries_by 0 cs)), rest.1, rest.2, rest.3)

  off_entries : (q : ℕ) (cs : List (QueueAnswered Envelope)) → (q == 0) ≡ false → made_by q (entries_by 0 cs) ≡ []
  off_entries q [] z = refl
  off_entries q (c ∷ cs) z =
      made_off q (calls 0 c.0 c.1) (entries_by 0 cs) (ne_eqb 0 q (λ e. false≢true (sym z ∙ eq-eqb q 0 (sym e))))
      ∙ off_entries q cs z

  here_entries : (cs : List (QueueAnswered Envelope)) → made_by 0 (entries_by 0 cs) ≡ entries_by 0 cs
  here_entries [] = refl
  here_entries (c ∷ cs) = made_here 0 (calls 0 c.0 c.1) (entries_by 0 cs) refl
      ∙ ap (λ l. calls 0 c.0 c.1 ∷ l) (here_entries cs)

  each_still : (seen : List (Entries Envelope)) (qs : List ℕ) (cs : List (QueueAnswered Envelope)) (hs : List (CallerRun behaviour plan))
      → NoZero (names_of behaviour hs) → HasNamed seen hs → HasNamed ((seen ++ joins_of qs) ++ entries_by 0 cs) hs
  each_still seen qs cs [] z h = tt
  each_still seen qs cs (g ∷ hs) z h =
      let n : ℕ = g.pass.name in (
        made_append n (seen ++ joins_of qs) (entries_by 0 cs)
            ∙ (ap (λ l. made_by n (seen ++ joins_of qs) ++ l) (off_entries n cs z.0) ∙ (append-nil (made_by n (seen ++ joins_of qs))
            ∙ (made_append n seen (joins_of qs) ∙ (ap (λ l. made_by n seen ++ l) (off_joins n qs z.0) ∙ (append-nil (made_by n seen) ∙ h.0))))),
        each_still seen qs cs hs z.1 h.1,
      )

  each_numbered : (log : List (Entries Envelope)) (k : ℕ) (hs : List (CallerRun behaviour plan)) → names_of behaviour hs ≡ numbers_along k hs → HasNamed log hs
      → HasQueueCalls behaviour plan k hs log
  each_numbered log k [] e h = tt
  each_numbered log k (g ∷ hs) e h =
      let same : g.pass.name ≡ k = cc in
      let more : names_of behaviour hs ≡ numbers_along (suc k) hs = cc in
      (subst (λ n. made_by n log ≡ entries_by n g.followed.made) same h.0, each_numbered log (suc k) hs more h.1)

  -- the whole list: worker 0 works on by itself
  pub accounts : (p0 p1 p2 p3 q : Pass) (hs : List (CallerRun behaviour plan)) (first last : List (QueueAnswered Envelope))
      → p0.name ≡ 0 → p0.mine ≡ 0 ∷ [] → p0.seen ≡ [] → p0.owed ≡ []
      → SplitPasses p0 (passes_of behaviour hs) p1 → Makes p1 first p2 → JoinPasses p2 (left_of behaviour hs) p3 → Makes p3 last q
      → (q.name ≡ 0) × QueuePerCaller behaviour plan hs first last (q.seen ++ q.owed)
  accounts p0 p1 p2 p q hs first last n m s o sp mk jn mq =
      let k = gathered p0 p1 p2 p hs first n m s o sp mk jn in
      let a = alone_on p q last k.name k.sole k.history mq in
      let qs : List ℕ = names_of behaviour hs in
      let is : q.seen ++ q.owed ≡ (p.seen ++ joins_of qs) ++ entries_by 0 last = a.0 ∙ ap (λ l. (p.seen ++ l) ++ entries_by 0 last) k.owed in
      let own : made_by 0 (q.seen ++ q.owed) ≡ (splits_of qs ++ entries_by 0 first) ++ (joins_of qs ++ entries_by 0 last) =
      ap (λ l. made_by 0 l) is ∙ (made_append 0 (p.seen ++ joins_of qs) (entries_by 0 last)
      ∙ (ap (λ l. l ++ made_by 0 (entries_by 0 last)) (made_append 0 p.seen (joins_of qs))
      ∙ (append_assoc (made_by 0 p.seen) (made_by 0 (joins_of qs)) (made_by 0 (entries_by 0 last))
      ∙ (ap (λ l. l ++ (made_by 0 (joins_of qs) ++ made_by 0 (entries_by 0 last))) k.own
      ∙ (ap (λ l. (splits_of qs ++ entries_by 0 first) ++ (l ++ made_by 0 (entries_by 0 last))) (here_joins qs)
      ∙ ap (λ l. (splits_of qs ++ entries_by 0 first) ++ (joins_of qs ++ l)) (here_entries last)))))) in (
        a.1,
        record {
          legal = a.3;
          own = subst (λ ns. made_by 0 (q.seen ++ q.owed) ≡ (splits_of ns ++ entries_by 0 first)
              ++ (joins_of ns ++ entries_by 0 last)) k.numbers_are own;
          each = each_numbered (q.seen ++ q.owed) 1 hs k.numbers_are (subst (λ l. HasNamed l hs) (sym is) (each_still p.seen qs last hs k.some k.each));
          names = ap (λ l. split_off l) is
              ∙ (named_append (p.seen ++ joins_of qs) (entries_by 0 last)
              ∙ (ap (λ l. split_off (p.seen ++ joins_of qs) ++ l) (named_entries last) ∙ (append-nil (split_off (p.seen ++ joins_of qs))
              ∙ (ap (λ l. split_off (p.seen ++ l)) (sym k.owed) ∙ (k.names ∙ k.numbers_are)))));
          sole = a.2;
        },
      )
