-- Data with two parts at each place, and its encoding: recursive data can be written as such, and
-- so be encoded.
use Rattle.std.specs.Prelude.{◌≡◌, List, [], ◌∷◌, Option, Some, None, refl}
use Rattle.std.proofs.Common.{ap, ◌∙◌}
use Rattle.std.specs.Coded.{Coded, code_by, coded_list, coded_option}

pub data Nest (L : Type 0) : Type 0 where
  leaf : Nest L
  branch : L → Nest L → Nest L → Nest L

module _ {L : Type 0} where
  -- each branch after its two parts, before the rest
  abbrev spelled : Nest L → List (Option L) → List (Option L)
  spelled leaf more = None ∷ more
  spelled (branch l a b) more = spelled a (spelled b (Some l ∷ more))

  -- a branch takes the last two parts
  abbrev branched : L → List (Nest L) → List (Nest L)
  branched l [] = []
  branched l (b ∷ []) = []
  branched l (b ∷ a ∷ parts) = branch l a b ∷ parts

  abbrev built : List (Option L) → List (Nest L) → List (Nest L)
  built [] parts = parts
  built (None ∷ more) parts = built more (leaf ∷ parts)
  built (Some l ∷ more) parts = built more (branched l parts)

  abbrev first_of : List (Nest L) → Nest L
  first_of [] = leaf
  first_of (n ∷ parts) = n

  built_spelled : (n : Nest L) (more : List (Option L)) (parts : List (Nest L))
      → built (spelled n more) parts ≡ built more (n ∷ parts)
  built_spelled leaf more parts = refl
  built_spelled (branch l a b) more parts =
      built_spelled a (spelled b (Some l ∷ more)) parts
      ∙ built_spelled b (Some l ∷ more) (a ∷ parts)

  pub spelled_back : (n : Nest L) → first_of (built (spelled n []) []) ≡ n
  spelled_back n = ap first_of (built_spelled n [] [])

  abbrev pub nest_code : Coded L → Coded (Nest L)
  nest_code c =
      code_by (List (Option L)) (coded_list (coded_option c)) (λ n. spelled n [])
      (λ s. first_of (built s [])) spelled_back
