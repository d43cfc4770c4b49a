-- Words that the program takes, by computing: those of the guides.
use Rattle.std.proofs.Common.{◌≡◌, ℕ, List, [], ◌∷◌, true, codes, refl}
use Rattle.clap.specs.Takes.{takes, walk_passes}
use Rattle.clap.specs.Walk.{walked}
use Rattle.canvas_words.specs.Options.{program_for}

abbrev asked : List (List ℕ)
asked =
    codes "run" ∷ codes "order.json" ∷ codes "--adapt" ∷ codes "--task" ∷ codes "shop.ship=raise:OutOfStock" ∷ codes "--task" ∷ codes "#3=1"
    ∷ codes "--json" ∷ []

its_words_are_taken : takes (program_for asked) asked ≡ true
unfolding walked walk_passes
its_words_are_taken = refl
