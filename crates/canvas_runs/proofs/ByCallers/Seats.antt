-- What worker 0's seat has seen when all workers are taken in and it has worked on: of each worker just its calls, in order, and nobody else is live.
use Rattle.std.proofs.Common.{◌≡◌, ℕ, suc, false, List, [], ◌∷◌, ◌++◌, length, map, ◌==◌, refl, sym, ap, ◌∙◌, subst, append_assoc, append-nil, ⊎_elim}
use Rattle.std.proofs.lemmas.Bool.{false≢true, eq-eqb, ne_eqb}
use Rattle.canvas_task.specs.Apply.{Behaviour}
use Rattle.canvas_history.specs.History.{Entry, split, join, calls, by_of, live_from, live, split_off, taken_in as joined_of, made_by, AllOthers}
use Rattle.canvas_history.proofs.Histories.{StartsWith, In, in_cases, in_here, in_left, in_right, live_append, named_append, legal_right}
use Rattle.canvas_history.proofs.Histories.{made_append, made_here, made_off, made_others, OnlyCalls, OthersCall, named_first, live_first, fresh_at, others_call}
use Rattle.canvas_history.specs.Table.{Log, TableCall, TableReply, no_results, reply_of, next_of, May, IsLegal}
use Rattle.canvas_history.specs.Seats.{Stands, Parted, Joined, TableId}
use Rattle.canvas_history.specs.Roster.{Roster}
use Rattle.canvas_history.specs.Callers.{Caller}
use Rattle.canvas_history.specs.Answers.{entries_by, splits_of, joins_of}
use Rattle.canvas_runs.specs.Following.{Seat, Serves}
use Rattle.canvas_runs.specs.Calls.{TableAnswered, backend_calls}
use Rattle.canvas_runs.specs.PerCaller.{HasTableCalls, TablePerCaller}
use Rattle.canvas_runs.specs.CallerRuns.{CallerRun, SplitSeats, JoinSeats, numbers_along}
use Rattle.canvas_runs.proofs.ByCallers.Numbers.{NoZero, starts_same, starts_then, others_start, joined_append, live_splits, live_joins, named_splits, named_joins, number_of_split, one_more, gone_quiet}

abbrev Row : Type 0
Row = Entry TableCall TableReply

module _ (behaviour : Behaviour) where
  abbrev names_of : {l : Roster} → List (CallerRun behaviour l) → List ℕ
  names_of [] = []
  names_of (h ∷ hs) = h.seat.name ∷ names_of hs

  abbrev pub seats_of : {l : Roster} → List (CallerRun behaviour l) → List Seat
  seats_of {l} ms = map (λ (m : CallerRun behaviour l). m.seat) ms

  abbrev pub left_of : {l : Roster} → List (CallerRun behaviour l) → List Seat
  left_of {l} ms = map (λ (m : CallerRun behaviour l). m.ended.seat) ms

module _ (plan : Roster) where
  -- the seat of caller n, whose own entries are these
  record At (n : ℕ) (s : Seat) (es : Log) : Type 0 where
    name : s.name ≡ n
    legal : IsLegal plan s.seen
    own : made_by n s.seen ≡ es

  stands : (n : ℕ) (s s' : Seat) (es : Log) (e : Row) → At n s es → by_of e ≡ n → Stands plan s e s' → At n s' (es ++ e ∷ [])
  stands n s s' es e a b c =
      let x = c.4 in
      record {
        name = c.1 ∙ a.name;
        legal = x.3;
        own = ap (λ l. made_by n l) x.1 ∙ (made_append n s.seen (x.0 ++ e ∷ []) ∙ (ap (λ l. l ++ made_by n (x.0 ++ e ∷ [])) a.own
            ∙ ap (λ l. es ++ l) (made_append n x.0 (e ∷ [])
            ∙ (ap (λ l. l ++ made_by n (e ∷ [])) (made_others n x.0 (subst (λ k. AllOthers k x.0) a.name x.2)) ∙ made_here n e [] b))));
      }

  serves : (n : ℕ) (s t : Seat) (es : Log) (cs : List TableAnswered) → At n s es → Serves plan s cs t → At n t (es ++ entries_by n cs)
  serves n s t es [] a m = subst (λ x. At n x (es ++ [])) (sym m) (subst (λ l. At n s l) (sym (append-nil es)) a)
  serves n s t es (c ∷ cs) a m =
      let call : Row = calls s.name c.0 c.1 in
      let one : At n m.0 (es ++ call ∷ []) = stands n s m.0 es call a a.name m.1 in
      let two : At n m.0 (es ++ calls n c.0 c.1 ∷ []) =
      subst (λ k. At n m.0 (es ++ calls k c.0 c.1 ∷ [])) a.name one in
      subst (λ l. At n t l) (append_assoc es (calls n c.0 c.1 ∷ []) (entries_by n cs))
      (serves n m.0 t (es ++ calls n c.0 c.1 ∷ []) cs two m.2)

  stands_start : (s s' : Seat) (e : Row) → Stands plan s e s' → StartsWith s'.seen s.seen
  stands_start s s' e c = (c.4.0 ++ e ∷ [], c.4.1)

  serves_start : (s t : Seat) (cs : List TableAnswered) → Serves plan s cs t → StartsWith t.seen s.seen
  serves_start s t [] m = subst (λ (x : Seat). StartsWith x.seen s.seen) (sym m) (starts_same s.seen)
  serves_start s t (c ∷ cs) m =
      starts_then t.seen m.0.seen s.seen (serves_start m.0 t cs m.2) (stands_start s m.0 (calls s.name c.0 c.1) m.1)

  splits_start : (s s' : Seat) (ts : List Seat) → SplitSeats plan s ts s' → StartsWith s'.seen s.seen
  splits_start s s' [] m = subst (λ (x : Seat). StartsWith x.seen s.seen) (sym m) (starts_same s.seen)
  splits_start s s' (t ∷ ts) m = starts_then s'.seen m.0.seen s.seen (splits_start m.0 s' ts m.2) (stands_start s m.0 (split s.name t.name) m.1.0)

  joins_start : (s s' : Seat) (ts : List Seat) → JoinSeats plan s ts s' → StartsWith s'.seen s.seen
  joins_start s s' [] m = subst (λ (x : Seat). StartsWith x.seen s.seen) (sym m) (starts_same s.seen)
  joins_start s s' (t ∷ ts) m = starts_then s'.seen m.0.seen s.seen (joins_start m.0 s' ts m.2) (stands_start s m.0 (join s.name t.name) m.1.0)

-- what these lists come to
named_rows : (cs : List TableAnswered) → split_off (entries_by 0 cs) ≡ []
named_rows [] = refl
named_rows (c ∷ cs) = named_rows cs

live_rows : (cs : List ℕ) (ds : List TableAnswered) → live_from cs (entries_by 0 ds) ≡ cs
live_rows cs [] = refl
live_rows cs (d ∷ ds) = live_rows cs ds

only_rows : (n : ℕ) (cs : List TableAnswered) → OnlyCalls (entries_by n cs)
only_rows n [] = tt
only_rows n (c ∷ cs) = only_rows n cs

named_all : (qs : List ℕ) (cs : List TableAnswered) → split_off ((splits_of qs ++ joins_of qs) ++ entries_by 0 cs) ≡ qs
named_all qs cs =
    named_append (splits_of qs ++ joins_of qs) (entries_by 0 cs)
    ∙ (ap (λ l. split_off (splits_of {C = TableCall} {R = TableReply} qs ++ joins_of qs) ++ l) (named_rows cs)
    ∙ (append-nil (split_off (splits_of {C = TableCall} {R = TableReply} qs ++ joins_of qs))
    ∙ (named_append (splits_of {C = TableCall} {R = TableReply} qs) (joins_of qs)
    ∙ (ap (λ l. split_off (splits_of {C = TableCall} {R = TableReply} qs) ++ l) (named_joins TableCall TableReply qs)
    ∙ (append-nil (split_off (splits_of {C = TableCall} {R = TableReply} qs)) ∙ named_splits TableCall TableReply qs)))))

live_all : (qs : List ℕ) (cs : List TableAnswered) → NoZero qs → live ((splits_of qs ++ joins_of qs) ++ entries_by 0 cs) ≡ 0 ∷ []
live_all qs cs z =
    live_append (0 ∷ []) (splits_of qs ++ joins_of qs) (entries_by 0 cs)
    ∙ (live_rows (live (splits_of {C = TableCall} {R = TableReply} qs ++ joins_of qs)) cs
    ∙ (live_append (0 ∷ []) (splits_of {C = TableCall} {R = TableReply} qs) (joins_of qs)
    ∙ (ap (λ l. live_from {C = TableCall} {R = TableReply} l (joins_of qs)) (live_splits TableCall TableReply (0 ∷ []) qs)
    ∙ live_joins TableCall TableReply qs qs z (λ c i. i))))

module _ (behaviour : Behaviour) (plan : Roster) where
  abbrev P : Roster
  P = plan

  abbrev its_calls : CallerRun behaviour plan → List TableAnswered
  its_calls h = backend_calls h.followed.run

  -- of a seat that was just made
  abbrev Fresh : CallerRun behaviour plan → Type 0
  Fresh h = At P h.seat.name h.seat [] × ((h.seat.name == 0) ≡ false)

  abbrev AllFresh : List (CallerRun behaviour plan) → Type 0
  AllFresh [] = Unit {0}
  AllFresh (h ∷ hs) = Fresh h × AllFresh hs

  parted : (s s' : Seat) (es : Log) (h : CallerRun behaviour plan) → At P 0 s es → Parted P s s' h.seat → At P 0 s' (es ++ split 0 h.seat.name ∷ []) × Fresh h
  parted s s' es h a c =
      let q : ℕ = h.seat.name in
      let e : Row = split s.name q in
      let x = c.0.4 in
      let shape : s'.seen ≡ (s.seen ++ x.0) ++ e ∷ [] = x.1 ∙ sym (append_assoc s.seen x.0 (e ∷ [])) in
      let legal : IsLegal P ((s.seen ++ x.0) ++ e ∷ []) = subst (λ l. IsLegal P l) shape x.3 in
      let ok = (legal_right no_results (reply_of P) next_of (May P) [] (s.seen ++ x.0) (e ∷ []) legal).0 in
      let apart : (s.name == q) ≡ false = ne_eqb s.name q (λ z. false≢true (sym ok.1 ∙ eq-eqb q 0 (sym z ∙ a.name))) in
      let own : made_by q s'.seen ≡ [] = ap (λ l. made_by q l) shape
      ∙ fresh_at no_results (reply_of P) next_of (May P) s.name q (s.seen ++ x.0) legal apart in (
        subst (λ k. At P 0 s' (es ++ split k q ∷ [])) a.name (stands P 0 s s' es e a a.name c.0),
        (
          record {
            name = refl;
            legal = subst (λ l. IsLegal P l) (sym (ap (λ (t : Caller TableId TableCall TableReply). t.seen) c.1)) x.3;
            own = ap (λ l. made_by q l) (ap (λ (t : Caller TableId TableCall TableReply). t.seen) c.1) ∙ own;
          },
          ok.1,
        ),
      )

  splits : (s s' : Seat) (es : Log) (hs : List (CallerRun behaviour plan)) → At P 0 s es → SplitSeats P s (seats_of behaviour hs) s'
      → At P 0 s' (es ++ splits_of (names_of behaviour hs)) × AllFresh hs
  splits s s' es [] a c = (subst (λ x. At P 0 x (es ++ [])) (sym c) (subst (λ l. At P 0 s l) (sym (append-nil es)) a), tt)
  splits s s' es (h ∷ hs) a c =
      let one = parted s c.0 es h a c.1 in
      let two = splits c.0 s' (es ++ split 0 h.seat.name ∷ []) hs one.0 c.2 in
      (subst (λ l. At P 0 s' l) (append_assoc es (split 0 h.seat.name ∷ []) (splits_of (names_of behaviour hs))) two.0, (one.1, two.1))

  -- worker 0 has taken in some
  abbrev Keeps : Log → List (CallerRun behaviour plan) → Type 0
  Keeps log [] = Unit {0}
  Keeps log (h ∷ hs) = In h.seat.name (joined_of log) × (made_by h.seat.name log ≡ entries_by h.seat.name (its_calls h)) × Keeps log hs

  keeps_on : (log more : Log) (hs : List (CallerRun behaviour plan)) → IsLegal P log → IsLegal P more → StartsWith more log → Keeps log hs → Keeps more hs
  keeps_on log more [] l m s k = tt
  keeps_on log more (h ∷ hs) l m s k =
      let n : ℕ = h.seat.name in
      let rest = legal_right no_results (reply_of P) next_of (May P) [] log s.0 (subst (λ x. IsLegal P x) s.1 m) in
      let none : made_by n s.0 ≡ [] = gone_quiet no_results (reply_of P) next_of (May P) log s.0 n l rest k.0 in (
        subst (λ x. In n x) (sym (ap (λ x. joined_of x) s.1 ∙ joined_append log s.0)) (in_left n (joined_of log) (joined_of s.0) k.0),
        ap (λ x. made_by n x) s.1 ∙ (made_append n log s.0 ∙ (ap (λ x. made_by n log ++ x) none ∙ (append-nil (made_by n log) ∙ k.1))),
        keeps_on log more hs l m s k.2,
      )

  keeps_snoc : (log : Log) (hs : List (CallerRun behaviour plan)) (h : CallerRun behaviour plan) → Keeps log hs → Keeps log (h ∷ []) → Keeps log (hs ++ h ∷ [])
  keeps_snoc log [] h k l = l
  keeps_snoc log (g ∷ hs) h k l = (k.0, k.1, keeps_snoc log hs h k.2 l)

  joined : (s s' : Seat) (es : Log) (hs : List (CallerRun behaviour plan)) (h : CallerRun behaviour plan) → At P 0 s es → Keeps s.seen hs → Fresh h
      → Joined P s h.ended.seat s'
      → At P 0 s' (es ++ join 0 h.seat.name ∷ []) × Keeps s'.seen (hs ++ h ∷ [])
  joined s s' es hs h a k f j =
      let n : ℕ = h.seat.name in
      let t : Seat = h.ended.seat in
      let left : At P n t (entries_by n (its_calls h)) = serves P n h.seat t [] (its_calls h) f.0 h.followed.serves in
      let e : Row = join s.name t.name in
      let now : At P 0 s' (es ++ e ∷ []) = stands P 0 s s' es e a a.name j.0 in
      let x = j.1 in
      let away : (by_of e == n) ≡ false = ne_eqb s.name n (λ z. false≢true (sym f.1 ∙ eq-eqb n 0 (sym z ∙ a.name))) in
      let own : made_by n s'.seen ≡ entries_by n (its_calls h) =
      ap (λ l. made_by n l) x.1 ∙ (made_append n t.seen (x.0 ++ e ∷ []) ∙ (ap (λ l. l ++ made_by n (x.0 ++ e ∷ [])) left.own
      ∙ (ap (λ l. entries_by n (its_calls h) ++ l)
      (made_append n x.0 (e ∷ [])
      ∙ (ap (λ l. l ++ made_by n (e ∷ [])) (made_others n x.0 (subst (λ i. AllOthers i x.0) left.name x.2)) ∙ made_off n e [] away))
      ∙ append-nil (entries_by n (its_calls h))))) in
      let there : In n (joined_of s'.seen) =
      subst (λ l. In n l) (sym (ap (λ l. joined_of l) (x.1 ∙ sym (append_assoc t.seen x.0 (e ∷ []))) ∙ joined_append (t.seen ++ x.0) (e ∷ [])))
      (in_right n (joined_of (t.seen ++ x.0)) (t.name ∷ []) (subst (λ i. In n (i ∷ [])) (sym left.name) (in_here n []))) in (
        subst (λ i. At P 0 s' (es ++ i ∷ [])) (ap (λ i. join i t.name) a.name ∙ ap (λ i. join 0 i) left.name) now,
        keeps_snoc s'.seen hs h (keeps_on s.seen s'.seen hs a.legal now.legal (stands_start P s s' e j.0) k) (there, own, tt),
      )

  joins : (s s' : Seat) (es : Log) (gs hs : List (CallerRun behaviour plan)) → At P 0 s es → Keeps s.seen gs → AllFresh hs
      → JoinSeats P s (left_of behaviour hs) s'
      → At P 0 s' (es ++ joins_of (names_of behaviour hs)) × Keeps s'.seen (gs ++ hs)
  joins s s' es gs [] a k f j = (
    subst (λ x. At P 0 x (es ++ [])) (sym j) (subst (λ l. At P 0 s l) (sym (append-nil es)) a),
    subst (λ (x : Seat). Keeps x.seen (gs ++ [])) (sym j) (subst (λ l. Keeps s.seen l) (sym (append-nil gs)) k),
  )
  joins s s' es gs (h ∷ hs) a k f j =
      let one = joined s j.0 es gs h a k f.0 j.1 in
      let two = joins j.0 s' (es ++ join 0 h.seat.name ∷ []) (gs ++ h ∷ []) hs one.0 one.1 f.1 j.2 in (
        subst (λ l. At P 0 s' l) (append_assoc es (join 0 h.seat.name ∷ []) (joins_of (names_of behaviour hs))) two.0,
        subst (λ l. Keeps s'.seen l) (append_assoc gs (h ∷ []) hs) two.1,
      )

  no_zero : (hs : List (CallerRun behaviour plan)) → AllFresh hs → NoZero (names_of behaviour hs)
  no_zero [] f = tt
  no_zero (h ∷ hs) f = (f.0.1, no_zero hs f.1)

  quiet : (log : Log) (hs : List (CallerRun behaviour plan)) → Keeps log hs → (c : ℕ) → In c (names_of behaviour hs) → OnlyCalls (made_by c log)
  quiet log [] k c i = absurd (false≢true i)
  quiet log (h ∷ hs) k c i =
      ⊎_elim (λ (e : h.seat.name ≡ c). subst (λ x. OnlyCalls (made_by x log)) e (subst (λ l. OnlyCalls l) (sym k.1) (only_rows h.seat.name (its_calls h))))
      (λ u. quiet log hs k.2 c u) (in_cases c h.seat.name (names_of behaviour hs) i)

  -- the workers' numbers are those from 1 on
  numbered : (whole : Log) (s s' : Seat) (es : Log) (hs : List (CallerRun behaviour plan)) → At P 0 s es → SplitSeats P s (seats_of behaviour hs) s'
      → OthersCall whole → StartsWith whole s'.seen
      → names_of behaviour hs ≡ numbers_along (suc (length (split_off es))) hs
  numbered whole s s' es [] a c o f = refl
  numbered whole s s' es (h ∷ hs) a c o f =
      let q : ℕ = h.seat.name in
      let one = parted s c.0 es h a c.1 in
      let here : StartsWith whole c.0.seen = starts_then whole s'.seen c.0.seen f (splits_start P c.0 s' (seats_of behaviour hs) c.2) in
      let name : q ≡ suc (length (split_off es)) =
      number_of_split c.0.seen es q (others_start whole c.0.seen here o) one.0.own (ap (λ (t : Caller TableId TableCall TableReply). t.name) c.1.1) in
      let rest = numbered whole c.0 s' (es ++ split 0 q ∷ []) hs one.0 c.2 o f in
      ap (λ k. k ∷ names_of behaviour hs) name ∙ ap (λ l. suc (length (split_off es)) ∷ l) (rest ∙ ap (λ n. numbers_along (suc n) hs) (one_more es q))

  has_rows : (log : Log) (k : ℕ) (hs : List (CallerRun behaviour plan)) → names_of behaviour hs ≡ numbers_along k hs → Keeps log hs
      → HasTableCalls behaviour plan k hs log
  has_rows log k [] e h = tt
  has_rows log k (g ∷ hs) e h =
      let same : g.seat.name ≡ k = cc in
      let more : names_of behaviour hs ≡ numbers_along (suc k) hs = cc in
      (subst (λ n. made_by n log ≡ entries_by n (its_calls g)) same h.1, has_rows log (suc k) hs more h.2)

  -- the whole list, only from the call clauses: worker 0 works on as the only caller
  pub ledger : (s0 s1 s2 t : Seat) (hs : List (CallerRun behaviour plan)) (last : List TableAnswered)
      → s0.name ≡ 0 → s0.seen ≡ [] → SplitSeats P s0 (seats_of behaviour hs) s1 → JoinSeats P s1 (left_of behaviour hs) s2 → Serves P s2 last t
      → (t.name ≡ 0) × TablePerCaller behaviour plan hs last t.seen
  ledger s0 s1 s2 t hs last n s sp jn sv =
      let qs : List ℕ = names_of behaviour hs in
      let start : At P 0 s0 [] = record { name = n; legal = subst (λ l. IsLegal P l) (sym s) tt; own = ap (λ l. made_by 0 l) s } in
      let made = splits s0 s1 [] hs start sp in
      let all = joins s1 s2 (splits_of qs) [] hs made.0 tt made.1 jn in
      let end : At P 0 t ((splits_of qs ++ joins_of qs) ++ entries_by 0 last) = serves P 0 s2 t (splits_of qs ++ joins_of qs) last all.0 sv in
      let keeps : Keeps t.seen hs = keeps_on s2.seen t.seen hs all.0.legal end.legal (serves_start P s2 t last sv) all.1 in
      let others : OthersCall t.seen = others_call no_results (reply_of P) next_of (May P) [] t.seen end.legal tt
      (λ c z i. quiet t.seen hs keeps c (subst (λ l. In c l) (ap (λ l. split_off l) end.own ∙ named_all qs last) i)) in
      let same : qs ≡ numbers_along 1 hs =
      numbered t.seen s0 s1 [] hs start sp others
      (starts_then t.seen s2.seen s1.seen (serves_start P s2 t last sv) (joins_start P s1 s2 (left_of behaviour hs) jn)) in (
        end.name,
        record {
          legal = end.legal;
          own = subst (λ ns. made_by 0 t.seen ≡ (splits_of ns ++ joins_of ns) ++ entries_by 0 last) same end.own;
          each = has_rows t.seen 1 hs same keeps;
          names = named_first t.seen others ∙ (ap (λ l. split_off l) end.own ∙ (named_all qs last ∙ same));
          sole = live_first (0 ∷ []) t.seen others ∙ (ap (λ l. live l) end.own ∙ live_all qs last (no_zero hs made.1));
        },
      )
