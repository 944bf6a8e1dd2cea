-- What is told, through several calls. Where it is told now, it was told all through.
use Rattle.std.proofs.Common.{◌≡◌, ◌≤◌, ℕ, List, [], ◌++◌, append_assoc, append-nil, length, take, ap, sym, ◌∙◌}
use Rattle.std.proofs.lemmas.List.{take_all}
use Rattle.std.specs.Prelude.{Option, Some, None}
use Rattle.fish_outside.specs.Content.{Took, Gained, Files, IsAtEnd, SameFiles}
use Rattle.fish_outside.specs.within.Reading.{ReadsUpTo}

-- what was taken in two steps was taken in one
pub Took_trans : (old mid new : Option (List ℕ)) (first second : List ℕ) →
    Took old mid first → Took mid new second → Took old new (first ++ second)
Took_trans old mid None first second a b = tt
Took_trans old None (Some rest) first second a b = absurd cc
Took_trans old (Some between) (Some rest) first second a b =
    let same : between ≡ second ++ rest = cc in
    a ∙ ap (λ bytes. Some (first ++ bytes)) same
    ∙ ap (λ bytes. Some bytes) (sym (append_assoc first second rest))

-- what was gained in two steps was gained in one
pub Gained_trans : (old mid new : Option (List ℕ)) (first second : List ℕ) →
    Gained old mid first → Gained mid new second → Gained old new (first ++ second)
Gained_trans old mid None first second a b = tt
Gained_trans old None (Some all) first second a b = absurd cc
Gained_trans None (Some between) (Some all) first second a b = absurd cc
Gained_trans (Some start) (Some between) (Some all) first second a b =
    let same : between ≡ start ++ first = cc in
    ap (λ bytes. Some bytes) (sym (append_assoc start first second))
    ∙ ap (λ bytes. Some (bytes ++ second)) (sym same) ∙ b

-- to gain nothing is to stay the same, or to fall silent
pub Gained_refl : (content : Option (List ℕ)) → Gained content content []
Gained_refl None = tt
Gained_refl (Some all) = ap (λ bytes. Some bytes) (append-nil all)

-- files that stayed the same through two steps stayed the same
pub SameFiles_trans : (old mid new : Option Files) →
    SameFiles old mid → SameFiles mid new → SameFiles old new
SameFiles_trans old mid None a b = tt
SameFiles_trans old None (Some files) a b = absurd cc
SameFiles_trans old (Some between) (Some files) a b = a ∙ b

-- all that there was is no more than was asked for
pub reads_all : (old new : Option (List ℕ)) (bytes : List ℕ) (most : ℕ) → length bytes ≤ most → Took old new bytes → IsAtEnd new
    → ReadsUpTo most old new bytes
reads_all old None bytes most less took end = tt
reads_all old (Some rest) bytes most less took end = (
  bytes ++ rest,
  took,
  sym (ap (λ (z : List ℕ). take most (bytes ++ z)) end ∙ ap (take most) (append-nil bytes) ∙ take_all most bytes less),
)
