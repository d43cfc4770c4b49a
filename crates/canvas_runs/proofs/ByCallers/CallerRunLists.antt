-- Workers that ran side by side, as one list.
use Rattle.std.proofs.Common.{◌≡◌, ◌∙◌, suc, List, [], ◌∷◌, length, map, refl, sym, ap, subst, arith}
use Rattle.canvas_task.specs.Apply.{Behaviour}
use Rattle.canvas_semantics.specs.Line.{Line}
use Rattle.canvas_history.specs.Roster.{Roster, roster_of}
use Rattle.canvas_runs.specs.Following.{Pass, Seat, starting}
use Rattle.canvas_runs.specs.CallerRuns.{PlanWorker, HasFollowed, CallerRun, RanInParallel, CallerRunsOf, Ran, Sides, SplitPasses, JoinPasses, SplitSeats, JoinSeats, first_pass, first_seat}

module _ (behaviour : Behaviour) (plan : Roster) where
  pub callers_of : (starts : List (Pass × Seat)) (ends : List PlanWorker) → length starts ≡ length ends → RanInParallel behaviour plan starts ends
      → CallerRunsOf behaviour plan starts ends
  callers_of [] [] n f = ([], refl, refl)
  callers_of [] (w ∷ ws) n f = absurd (omega (arith, n))
  callers_of (x ∷ xs) [] n f = absurd (omega (arith, n))
  callers_of (x ∷ xs) (w ∷ ws) n f =
      let here : HasFollowed behaviour plan (starting x.0 x.1) w = f 0 x w (omega arith) in
      let rest = callers_of xs ws (omega (arith, n)) (λ i d e b. f (suc i) d e (omega (arith, b))) in
      let m : CallerRun behaviour plan = record { pass = x.0; seat = x.1; ended = w; followed = here } in
      (m ∷ rest.0, ap (λ (l : List (Pass × Seat)). x ∷ l) rest.1, ap (λ (l : List PlanWorker). w ∷ l) rest.2)

map_twice : {A B C : Type 0} (f : A → B) (g : B → C) (xs : List A) → map g (map f xs) ≡ map (λ x. g (f x)) xs
map_twice f g [] = refl
map_twice f g (x ∷ xs) = ap (λ l. g (f x) ∷ l) (map_twice f g xs)

module _ (behaviour : Behaviour) (l : Line) (pass : Pass) (seat : Seat) (s : Sides behaviour l pass seat) where
  abbrev P : Roster
  P = roster_of l

  pub ran : (r : Ran behaviour l pass seat) × (map (λ (m : CallerRun behaviour (roster_of l)). m.ended) r.callers ≡ s.ends) × (r.unsent ≡ s.unsent) ×
      (r.own ≡ s.own)
      × (r.closing ≡ s.closing) × (r.opening ≡ s.opening)
  ran =
      let ms = callers_of behaviour P s.starts s.ends s.as_many s.follow in
      let passes : map (λ (m : CallerRun behaviour P). m.pass) ms.0 ≡ map (λ (x : Pass × Seat). x.0) s.starts =
      sym (map_twice (λ (m : CallerRun behaviour P). (m.pass, m.seat)) (λ (x : Pass × Seat). x.0) ms.0) ∙ ap (λ xs. map (λ (x : Pass × Seat). x.0) xs) ms.1 in
      let seats : map (λ (m : CallerRun behaviour P). m.seat) ms.0 ≡ map (λ (x : Pass × Seat). x.1) s.starts =
      sym (map_twice (λ (m : CallerRun behaviour P). (m.pass, m.seat)) (λ (x : Pass × Seat). x.1) ms.0) ∙ ap (λ xs. map (λ (x : Pass × Seat). x.1) xs) ms.1 in
      let passes_left : map (λ (m : CallerRun behaviour P). m.ended.pass) ms.0 ≡ map (λ (w : PlanWorker). w.pass) s.ends =
      sym (map_twice (λ (m : CallerRun behaviour P). m.ended) (λ (w : PlanWorker). w.pass) ms.0) ∙ ap (λ ws. map (λ (w : PlanWorker). w.pass) ws) ms.2 in
      let seats_left : map (λ (m : CallerRun behaviour P). m.ended.seat) ms.0 ≡ map (λ (w : PlanWorker). w.seat) s.ends =
      sym (map_twice (λ (m : CallerRun behaviour P). m.ended) (λ (w : PlanWorker). w.seat) ms.0) ∙ ap (λ ws. map (λ (w : PlanWorker). w.seat) ws) ms.2 in (
        record {
          callers = ms.0;
          opening = s.opening;
          unsent = s.unsent;
          opens = s.opens;
          opens_back = s.opens_back;
          queue = s.queue;
          pass_parted = s.pass_parted;
          pass_sent = s.pass_sent;
          pass_joined = s.pass_joined;
          splits = subst (λ qs. SplitPasses (first_pass s.queue) qs s.pass_parted) (sym passes) s.splits;
          sends = s.sends;
          joins = subst (λ qs. JoinPasses s.pass_sent qs s.pass_joined) (sym passes_left) s.joins;
          table = s.table;
          seat_parted = s.seat_parted;
          seat_joined = s.seat_joined;
          seat_splits = subst (λ ts. SplitSeats P (first_seat s.table) ts s.seat_parted) (sym seats) s.seat_splits;
          seat_joins = subst (λ ts. JoinSeats P s.seat_parted ts s.seat_joined) (sym seats_left) s.seat_joins;
          own = s.own;
          works = s.works;
          last = s.last;
          closing = s.closing;
          closes = s.closes;
          ends = s.read;
        },
        ms.2,
        refl,
        refl,
        refl,
        refl,
      )
