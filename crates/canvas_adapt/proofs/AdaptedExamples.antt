-- What the definition of adapting says of some signatures, as Celery does with them.
use Rattle.std.proofs.Common.{◌≡◌, [], false, refl}
use Rattle.std.specs.Prelude.{codes}
use Rattle.serde_json.specs.Data.{Data}
use Rattle.canvas_task.specs.Text.{Text}
use Rattle.canvas_adapt.specs.Adapted.{Written, Sig, Sigs, task, chain, group, chord, none, also, adapted}

abbrev said : Data → Text
said d = codes "null"

abbrev call : Text → Written
call name = record { name = name; args = []; kwargs = []; immutable = false; json = name }

abbrev alone : Text → Sig
alone name = task (call name) none none

abbrev only : Sig → Sigs
only s = also s none

abbrev pair : Sig → Sig → Sigs
pair s t = also s (also t none)

abbrev alarmed : Text → Sig
alarmed name = task (call name) none (only (alone (codes "r")))

abbrev a : Sig
a = alone (codes "a")

abbrev b : Sig
b = alone (codes "b")

abbrev c : Sig
c = alone (codes "c")

abbrev r : Sig
r = alone (codes "r")

-- each element gets the alarm of a chain, and the last one its link
of_chain : adapted said (chain (pair a b) (only c) (only r))
    ≡ chain (pair (alarmed (codes "a")) (task (call (codes "b")) (only c) (only r))) none none
of_chain = refl

-- a group that something follows is a header, which gets no alarm
of_header : adapted said (chain (pair (group (pair a b) none none) c) none (only r))
    ≡ chain (pair (group (pair a b) none none) (alarmed (codes "c"))) none none
of_header = refl

-- a group in the whole canvas gives its members in their order, and one in a header turned round
of_group : adapted said (group (pair a (group (pair b c) none none)) none none) ≡ group (also a (pair b c)) none none
of_group = refl

of_turned : adapted said (chord (group (pair a (group (pair b c) none none)) none none) r none none)
    ≡ chord (group (also a (pair c b)) none none) r none none
of_turned = refl

-- a chain as a link is its first task, with the next one as its link
of_link : adapted said (task (call (codes "a")) (only (chain (pair b c) none none)) none)
    ≡ task (call (codes "a")) (only (task (call (codes "b")) (only c) none)) none
of_link = refl
