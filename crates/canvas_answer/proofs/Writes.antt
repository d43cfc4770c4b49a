-- What a writer whose bytes are known has, where the last of them are still kept elsewhere.
use Rattle.std.proofs.Common.{◌≡◌, ◌∙◌, ℕ, List, [], ◌∷◌, ◌++◌, append_assoc, append-nil, Option, Some, None, IfSome, refl, sym, ap, subst, flat_map, ◌<◌, suc, zero, ◌&&◌, if◌then◌else◌, arith}
use Rattle.std.specs.Prelude.{Result, Ok, Err, OnOk, Bool, true, false}
use Rattle.std.specs.Result.{is_err}
use Rattle.std.specs.List.{list_all}
use Rattle.std.proofs.lemmas.Str.{chars-IsAscii}
use Rattle.std.specs.Str.{IsAscii}
use Rattle.std.proofs.lemmas.Bool.Decides.{nat_tests}
use Rattle.canvas_answer.specs.Printing.{is_line_byte, escaped, printed_char, printed}
use Rattle.std.specs.Io.KnownBytes.{append_known, Appends}

-- with the bytes that are kept, those that were there at first and then these
abbrev pub Wrote : Option (List ℕ) → Option (List ℕ) → List ℕ → List ℕ → Type 0
Wrote first now kept bytes = IfSome first (λ xs. append_known now kept ≡ Some (xs ++ bytes))

pub none_wrote : (o : Option (List ℕ)) (k : List ℕ) → k ≡ [] → Wrote o o k []
none_wrote None k e = tt
none_wrote (Some xs) k e = ap (λ ys. Some (xs ++ ys)) e

pub flushed : (o a b : Option (List ℕ)) (k e ws : List ℕ) → Appends a b k → e ≡ [] → Wrote o a k ws → Wrote o b e ws
flushed None a b k e ws more empty h = tt
flushed (Some xs) None b k e ws more empty h = absurd cc
flushed (Some xs) (Some ys) None k e ws more empty h = absurd more
flushed (Some xs) (Some ys) (Some zs) k e ws more empty h =
    ap (λ us. Some (zs ++ us)) empty ∙ ap Some (append-nil zs ∙ more) ∙ h

pub kept_more : (o a : Option (List ℕ)) (k l ws us : List ℕ) → l ≡ k ++ us → Wrote o a k ws → Wrote o a l (ws ++ us)
kept_more None a k l ws us e h = tt
kept_more (Some xs) None k l ws us e h = absurd cc
kept_more (Some xs) (Some ys) k l ws us e h =
    let same : ys ++ k ≡ xs ++ ws = cc in
    ap (λ ls. Some (ys ++ ls)) e ∙ ap Some (sym (append_assoc ys k us) ∙ ap (λ vs. vs ++ us) same ∙ append_assoc xs ws us)

pub all_wrote : (o a b : Option (List ℕ)) (k ws : List ℕ) → Appends a b k → Wrote o a k ws → Appends o b ws
all_wrote None a b k ws more h = tt
all_wrote (Some xs) None b k ws more h = absurd cc
all_wrote (Some xs) (Some ys) None k ws more h = absurd more
all_wrote (Some xs) (Some ys) (Some zs) k ws more h =
    let same : ys ++ k ≡ xs ++ ws = cc in
    more ∙ same

pub ok_of : {T E : Type 0} (r : Result T E) (P : Type 0) → is_err r ≡ false → OnOk r P → P
ok_of (Ok x) P e h = h
ok_of (Err x) P e h = absurd cc

pub moved : (o a b : Option (List ℕ)) (k l ws : List ℕ) → b ≡ a → l ≡ k → Wrote o a k ws → Wrote o b l ws
moved None a b k l ws e f h = tt
moved (Some xs) a b k l ws e f h = ap (λ c. append_known c l) e ∙ ap (append_known a) f ∙ h

pub last_wrote : {T E : Type 0} (r : Result T E) (o a b : Option (List ℕ)) (k l ws : List ℕ) → l ≡ k → Wrote o a k ws → OnOk r (Appends a b l)
    → OnOk r (Appends o b ws)
last_wrote (Ok x) o a b k l ws e h more =
    let P : List ℕ → Type 0 = λ bs. Appends a b bs in
    all_wrote o a b k ws (subst P e more) h
last_wrote (Err x) o a b k l ws e h more = tt

-- what is printable as it is is printed as it is

and-first : (a b : Bool) → (a && b) ≡ true → a ≡ true
and-first true b h = refl
and-first false b h = absurd cc

and-second : (a b : Bool) → (a && b) ≡ true → b ≡ true
and-second true b h = h
and-second false b h = absurd cc

small : (b : ℕ) → is_line_byte b ≡ true → b < 128
small b h = grind (arith, nat_tests)

lines_ascii : (bs : List ℕ) → list_all is_line_byte bs ≡ true → IsAscii bs
lines_ascii [] h i = omega arith
lines_ascii (b ∷ bs) h zero = small b (and-first (is_line_byte b) (list_all is_line_byte bs) h)
lines_ascii (b ∷ bs) h (suc i) = lines_ascii bs (and-second (is_line_byte b) (list_all is_line_byte bs) h) i

stays : (b : ℕ) → is_line_byte b ≡ true → printed_char b ≡ b ∷ []
stays b e = ap (λ t. if t then b ∷ [] else escaped b) e

all_stay : (bs : List ℕ) → list_all is_line_byte bs ≡ true → flat_map printed_char bs ≡ bs
all_stay [] h = refl
all_stay (b ∷ bs) h =
    ap (λ cs. cs ++ flat_map printed_char bs) (stays b (and-first (is_line_byte b) (list_all is_line_byte bs) h))
    ∙ ap (λ cs. b ∷ cs) (all_stay bs (and-second (is_line_byte b) (list_all is_line_byte bs) h))

pub lines_as_they_are : (bs : List ℕ) → list_all is_line_byte bs ≡ true → printed bs ≡ bs
lines_as_they_are bs h = ap (flat_map printed_char) (chars-IsAscii bs (lines_ascii bs h)) ∙ all_stay bs h
