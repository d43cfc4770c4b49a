-- What a writer whose bytes are known has been given.
use Rattle.std.proofs.Common.{◌∙◌, ℕ, List, [], ◌++◌, append_assoc, append-nil, Option, Some, None, sym, ap}
use Rattle.std.specs.Io.KnownBytes.{Appends}

pub nothing_yet : (o : Option (List ℕ)) → Appends o o []
nothing_yet None = tt
nothing_yet (Some xs) = sym (append-nil xs)

pub more : (o a b : Option (List ℕ)) (ws us : List ℕ) → Appends o a ws → Appends a b us → Appends o b (ws ++ us)
more None a b ws us h k = tt
more (Some xs) None b ws us h k = absurd h
more (Some xs) (Some ys) None ws us h k = absurd k
more (Some xs) (Some ys) (Some zs) ws us h k = k ∙ (ap (λ vs. vs ++ us) h ∙ append_assoc xs ws us)
