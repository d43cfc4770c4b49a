-- What is proved command by command: none is missing in the list of all, and the parser's matches of
-- each are known.
use Rattle.std.proofs.Common.{◌≡◌, ◌≢◌, ◌⊎◌, inl, inr, ℕ, ◌+◌, ◌<◌, Bool, false, true, Option, Some, None, if◌then◌else◌, List, [], ◌∷◌, get_or, drop, refl, sym, ap, ◌∙◌, subst}
use Rattle.std.specs.Str.{bytes_eq}
use Rattle.clap.specs.Simple.{is_simple}
use Rattle.std.proofs.lemmas.Bool.Decides.{not_from_Decides}
use Rattle.std.proofs.lemmas.List.{drop_more}
use Rattle.std.proofs.lemmas.Slice.Eq.{bytes_eq-Decides}
use Rattle.canvas_words.specs.Options.{all, command_name, named_among, offered, program}
use Rattle.canvas_words.specs.declared.subcommand.Subcommand.{Subcommand}
use Rattle.canvas_words.specs.declared.subcommand.Subcommand.TheVariants.{Run, Turns, Normal, Check, Adapt, Graph, Page, Messages, Export, Keys, Collect}

abbrev pub Has : Subcommand → List Subcommand → Type 0
Has c [] = ⊥
Has c (d ∷ ds) = (c ≡ d) ⊎ Has c ds

-- a command of this name is among these
abbrev pub Left : List ℕ → List Subcommand → Type 0
Left name ds = (c : Subcommand) → name ≡ command_name c → Has c ds

all_there : (c : Subcommand) → Has c all
all_there Run = inl refl
all_there Turns = inr (inl refl)
all_there Normal = inr (inr (inl refl))
all_there Check = inr (inr (inr (inl refl)))
all_there Adapt = inr (inr (inr (inr (inl refl))))
all_there Graph = inr (inr (inr (inr (inr (inl refl)))))
all_there Page = inr (inr (inr (inr (inr (inr (inl refl))))))
all_there Messages = inr (inr (inr (inr (inr (inr (inr (inl refl)))))))
all_there Export = inr (inr (inr (inr (inr (inr (inr (inr (inl refl))))))))
all_there Keys = inr (inr (inr (inr (inr (inr (inr (inr (inr (inl refl)))))))))
all_there Collect = inr (inr (inr (inr (inr (inr (inr (inr (inr (inr (inl refl))))))))))

-- ---- the matches of the program with one command, or with all

pub simple : (one : Option Subcommand) → is_simple (program (offered one)) ≡ true
simple (Some Run) = refl
simple (Some Turns) = refl
simple (Some Normal) = refl
simple (Some Check) = refl
simple (Some Adapt) = refl
simple (Some Graph) = refl
simple (Some Page) = refl
simple (Some Messages) = refl
simple (Some Export) = refl
simple (Some Keys) = refl
simple (Some Collect) = refl
simple None = refl

-- ---- those that are left

pub all_left : (name : List ℕ) → Left name all
all_left name c is = all_there c

other : (name : List ℕ) (c d : Subcommand) (ds : List Subcommand) → name ≡ command_name c → command_name d ≢ name → Has c (d ∷ ds) → Has c ds
other name c d ds is differs (inl same) = absurd (differs (sym (is ∙ ap command_name same)))
other name c d ds is differs (inr has) = has

-- one that has another name is none of those left
pub still_left : (name told : List ℕ) (i : ℕ) (same : Bool) → i < 11 → Left name (drop i all) → told ≡ command_name (get_or all i Run)
    → same ≡ bytes_eq told name → same ≡ false → Left name (drop (i + 1) all)
still_left name told i same short left is test fails =
    let differs : told ≢ name = not_from_Decides (bytes_eq told name) (bytes_eq-Decides told name) (sym test ∙ fails) in
    let now : Left name (get_or all i Run ∷ drop (i + 1) all) = subst (λ ds. Left name ds) (drop_more all i Run short) left in
    λ c its. other name c (get_or all i Run) (drop (i + 1) all) its (λ e. differs (is ∙ e)) (now c its)

-- ---- the first of a name

abbrev first_or : List ℕ → Subcommand → Option Subcommand → Bool → Option Subcommand
first_or name c rest same = if same then Some c else rest

at_place : (name : List ℕ) (i : ℕ) (same : Bool) → i < 11 → same ≡ bytes_eq (command_name (get_or all i Run)) name
    → named_among (drop i all) name ≡ first_or name (get_or all i Run) (named_among (drop (i + 1) all) name) same
at_place name i same short test =
    ap (λ cs. named_among cs name) (drop_more all i Run short)
    ∙ ap (first_or name (get_or all i Run) (named_among (drop (i + 1) all) name)) (sym test)

pub not_here : (name told : List ℕ) (i : ℕ) (same : Bool) → i < 11 → named_among all name ≡ named_among (drop i all) name
    → told ≡ command_name (get_or all i Run) → same ≡ bytes_eq told name → same ≡ false
    → named_among all name ≡ named_among (drop (i + 1) all) name
not_here name told i same short so_far is test fails =
    so_far ∙ at_place name i same short (test ∙ ap (λ t. bytes_eq t name) is)
    ∙ ap (first_or name (get_or all i Run) (named_among (drop (i + 1) all) name)) fails
