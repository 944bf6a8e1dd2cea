-- Words that are put to 0, and words that stay: what clearing a region rests on.
use Rattle.std.proofs.Common.{◌≡◌, ℕ, ◌-◌, ◌*◌, ◌%◌, ◌<◌, ◌≤◌, refl, ◌∙◌, arith}
use Rattle.std.proofs.Math.Decide.{ℕ_discrete, dec_le}
use Rattle.fish_layout.specs.Cleared.{IsKeyWord, choose, cleared}
use Rattle.fish_layout.specs.within.Cleared.{AgreesOutsideKeys}
use Rattle.fish_layout.specs.Header.{keys_of, lines_of}

-- choices by one test are equal where they are equal on each side that it can take
pub choose_same : {P : Type 0} {X : Type 0} (d : Dec P) (x y a b : X) → (P → x ≡ a) → (¬ P → y ≡ b) →
    choose d x y ≡ choose d a b
choose_same (yes p) x y a b yes_side no_side = yes_side p
choose_same (no n) x y a b yes_side no_side = no_side n

-- a choice whose claim does not hold is the second
pub choose_second : {P : Type 0} {X : Type 0} (d : Dec P) (x y : X) → ¬ P → choose d x y ≡ y
choose_second (yes p) x y h = absurd (h p)
choose_second (no n) x y h = refl

-- a choice whose claim holds is the first
pub choose_first : {P : Type 0} {X : Type 0} (d : Dec P) (x y : X) → P → choose d x y ≡ x
choose_first (yes p) x y h = refl
choose_first (no n) x y h = absurd (n h)

-- a choice between the same is that
pub choose_alike : {P : Type 0} {X : Type 0} (d : Dec P) (x : X) → choose d x x ≡ x
choose_alike (yes p) x = refl
choose_alike (no n) x = refl

-- the first word is the first of no key entry
pub head_stays : (n : ℕ) → ¬ IsKeyWord n 0
head_stays n key = omega arith

-- regions that agree off the first words of their key entries have the same cleared word at each position
cleared_same_at : (f g : ℕ → ℕ) → AgreesOutsideKeys f g → (i : ℕ) → cleared g i ≡ cleared f i
unfolding cleared
cleared_same_at f g same i =
    let head : g 0 ≡ f 0 = same 0 (omega arith) (head_stays (keys_of (f 0))) in
    rw head
    (choose_same (dec_le i (lines_of (f 0) * 4 - 1)) _ _ _ _
    (λ within. choose_same (dec_le i (3 * keys_of (f 0))) _ _ _ _
    (λ entry. choose_same (ℕ_discrete (i % 3) 1) _ _ _ _ (λ first. refl) (λ other. same i within (λ key. other key.1)))
    (λ past. same i within (λ key. past key.0)))
    (λ behind. refl))

-- regions that agree off the first words of their key entries are cleared to the same
pub cleared_same : (f g : ℕ → ℕ) → AgreesOutsideKeys f g → cleared g ≡ cleared f
cleared_same f g same = λ i n. cleared_same_at f g same n i

-- a word within the lines that is the first of no key entry stays
pub cleared_at : (f : ℕ → ℕ) (i : ℕ) → i ≤ lines_of (f 0) * 4 - 1 → ¬ IsKeyWord (keys_of (f 0)) i → cleared f i ≡ f i
unfolding cleared
cleared_at f i within other =
    choose_first (dec_le i (lines_of (f 0) * 4 - 1)) _ _ within ∙
    choose_same (dec_le i (3 * keys_of (f 0))) _ (f i) (f i) (f i)
    (λ entry. choose_second (ℕ_discrete (i % 3) 1) 0 (f i) (λ first. other (entry, first)))
    (λ past. refl)
    ∙ choose_alike (dec_le i (3 * keys_of (f 0))) (f i)

-- the first word stays
pub cleared_head : (f : ℕ → ℕ) → cleared f 0 ≡ f 0
cleared_head f = cleared_at f 0 (omega arith) (head_stays (keys_of (f 0)))

-- the first word of a key entry is put to 0
pub cleared_key : (f : ℕ → ℕ) (i : ℕ) → i ≤ lines_of (f 0) * 4 - 1 → IsKeyWord (keys_of (f 0)) i → cleared f i ≡ 0
unfolding cleared
cleared_key f i within key =
    choose_first (dec_le i (lines_of (f 0) * 4 - 1)) _ _ within
    ∙ choose_first (dec_le i (3 * keys_of (f 0))) _ _ key.0
    ∙ choose_first (ℕ_discrete (i % 3) 1) 0 (f i) key.1

-- after the lines all is put to 0
pub cleared_behind : (f : ℕ → ℕ) (i : ℕ) → lines_of (f 0) * 4 - 1 < i → cleared f i ≡ 0
unfolding cleared
cleared_behind f i behind = choose_second (dec_le i (lines_of (f 0) * 4 - 1)) _ 0 (λ within. omega arith)
