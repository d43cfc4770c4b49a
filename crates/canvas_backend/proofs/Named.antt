-- The numbers of a table of words name it.
use Rattle.std.proofs.Common.{◌≡◌, ◌∷◌, ap}
use Rattle.atomic_table.specs.Seated as seated
use Rattle.canvas_history.specs.Seats.{TableId}
use Rattle.canvas_backend.specs.SeatKnowledge.{numbers_of}

-- the table that these numbers name
abbrev table_named : TableId → seated.TableId
table_named (w ∷ s ∷ v ∷ a ∷ b ∷ o ∷ names) =
    record {
      words = w;
      slots = s;
      views_name = v;
      atom = a;
      block = b;
      offset = o;
      slot_names = names;
    }
table_named ns =
    record {
      words = 0;
      slots = 0;
      views_name = 0;
      atom = 0;
      block = 0;
      offset = 0;
      slot_names = ns;
    }

pub same_table : (d e : seated.TableId) → numbers_of d ≡ numbers_of e → d ≡ e
same_table d e same = ap table_named same
