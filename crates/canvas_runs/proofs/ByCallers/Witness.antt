-- A run that ended well: an empty group's plan, by one worker.
use Rattle.std.proofs.Common.{false, [], ◌∷◌, None, refl, inl}
use Rattle.canvas_task.specs.Apply.{Behaviour}
use Rattle.canvas_history.specs.Passes.{QueueId}
use Rattle.canvas_history.specs.Seats.{TableId}
use Rattle.canvas_history.specs.History.{split, join}
use Rattle.canvas_history.specs.Roster.{Roster, roster_of}
use Rattle.canvas_history.specs.Queue.{take}
use Rattle.canvas_runs.specs.Core.{to_queue, rest, from_queue, rested, over}
use Rattle.canvas_runs.specs.Following.{Pass, Seat}
use Rattle.canvas_runs.specs.Calls.{scripts_all}
use Rattle.canvas_runs.specs.Tally.{none_yet}
use Rattle.canvas_runs.specs.CallerRuns.{PlanWorker, CallerRun, Ran, EndedWell}
use Rattle.canvas_runs.specs.CallerRows.{empty_group}

module _ (behaviour : Behaviour) (b : QueueId) (d : TableId) where
  abbrev P : Roster
  P = roster_of empty_group

  abbrev pass_one : Pass
  pass_one = record { of = b; name = 1; mine = 1 ∷ []; seen = split 0 1 ∷ []; owed = [] }

  abbrev seat_one : Seat
  seat_one = record { of = d; name = 1; seen = split 0 1 ∷ [] }

  abbrev one_left : PlanWorker
  one_left = record { pass = pass_one; seat = seat_one; left = over; current = None; held = []; tally = none_yet }

  one : CallerRun behaviour P
  one = record {
    pass = pass_one;
    seat = seat_one;
    ended = one_left;
    followed = record {
      run = (to_queue take, from_queue None) ∷ (rest, rested false) ∷ [];
      is_core = (refl, (tt, tt), (refl, (tt, tt), tt));
      counts = record { taken = refl; published = refl; first = refl; parts = refl; dropped = refl };
      leaves = refl;
      made = [];
      follows = scripts_all;
      used = refl;
      makes = refl;
      serves = refl;
    };
  }

  abbrev parted : Pass
  parted = record { of = b; name = 0; mine = 0 ∷ []; seen = split 0 1 ∷ []; owed = [] }

  abbrev joined : Pass
  joined = record { of = b; name = 0; mine = 0 ∷ 1 ∷ []; seen = split 0 1 ∷ []; owed = join 0 1 ∷ [] }

  abbrev seat_parted : Seat
  seat_parted = record { of = d; name = 0; seen = split 0 1 ∷ [] }

  abbrev seat_joined : Seat
  seat_joined = record { of = d; name = 0; seen = split 0 1 ∷ join 0 1 ∷ [] }

  abbrev own : PlanWorker
  own = record { pass = joined; seat = seat_joined; left = over; current = None; held = []; tally = none_yet }

  abbrev ran : Ran behaviour empty_group joined seat_joined
  unfolding one
  ran = record {
    callers = one ∷ [];
    opening = [];
    unsent = [];
    opens = refl;
    opens_back = tt;
    queue = b;
    pass_parted = parted;
    pass_sent = parted;
    pass_joined = joined;
    splits = (parted, ((refl, refl, refl, refl, ([], refl, tt, ((refl, refl, refl), tt), λ _. refl)), refl), refl);
    sends = refl;
    joins = (joined, (refl, refl, refl, refl, ([], refl, tt), ([], refl, tt), inl refl), ((refl, refl, refl), ((refl, refl, refl), tt)), refl);
    table = d;
    seat_parted = seat_parted;
    seat_joined = seat_joined;
    seat_splits = (seat_parted, ((refl, refl, refl, refl, ([], refl, tt, ((refl, refl, refl), tt), λ _. refl)), refl), refl);
    seat_joins = (
      seat_joined,
      (
        (refl, refl, refl, refl, ([], refl, tt, ((refl, refl, refl), ((refl, refl, refl), tt)), λ _. refl)),
        ([], refl, tt, ((refl, refl, refl), ((refl, refl, refl), tt)), λ _. refl),
      ),
      refl,
    );
    own = own;
    works = record {
      run = (to_queue take, from_queue None) ∷ (rest, rested false) ∷ [];
      is_core = (refl, (tt, tt), (refl, (tt, tt), tt));
      counts = record { taken = refl; published = refl; first = refl; parts = refl; dropped = refl };
      leaves = refl;
      made = [];
      follows = scripts_all;
      used = refl;
      makes = refl;
      serves = refl;
    };
    last = refl;
    closing = [];
    closes = tt;
    ends = refl;
  }

  pub stands : (pass : Pass) × (seat : Seat) × (r : Ran behaviour empty_group pass seat) × EndedWell behaviour empty_group pass seat r
  unfolding ran
  stands = (joined, seat_joined, ran, record { all_sent = refl; empty = λ _. refl; own = (tt, refl); each = ((tt, refl), tt) })
