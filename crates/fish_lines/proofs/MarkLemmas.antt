-- Whether bytes begin with a byte order mark, when more bytes come.
use Rattle.std.proofs.Common.{◌≡◌, ℕ, ◌<◌, List, [], ◌∷◌, ◌++◌, length, Bool, true, false, cond, refl, sym, ap, subst, ◌∙◌, arith}
use Rattle.std.specs.Prelude.{◌&&◌, nat_eq, nat_lt, if◌then◌else◌}
use Rattle.std.specs.Cmp.Lexicographic.{pointwise}
use Rattle.std.proofs.lemmas.Bool.{eqb-true}
use Rattle.std.proofs.lemmas.Bool.Decides.{nat_tests}
use Rattle.fish_json.specs.Lines.{byte_order_mark, without_mark}
use Rattle.fish_lines.specs.Split.{is_undecided}

and-left : (a b : Bool) → (a && b) ≡ true → a ≡ true
and-left true b h = refl
and-left false b h = h

and-right : (a b : Bool) → (a && b) ≡ true → b ≡ true
and-right true b h = h
and-right false b h = cc

-- what holds of the three beginnings holds of every undecided text
pub undecided_cases : (P : List ℕ → Type 0) → P [] → P (239 ∷ []) → P (239 ∷ 187 ∷ []) → (b : List ℕ)
    → is_undecided b ≡ true → P b
undecided_cases P none one two [] h = none
undecided_cases P none one two (x ∷ []) h =
    let first : x ≡ 239 = eqb-true x 239 (and-left (nat_eq x 239) true h) in
    subst (λ n. P (n ∷ [])) (sym first) one
undecided_cases P none one two (x ∷ y ∷ []) h =
    let first : x ≡ 239 = eqb-true x 239 (and-left (nat_eq x 239) (nat_eq y 187 && true) h) in
    let second : y ≡ 187 = eqb-true y 187
    (and-left (nat_eq y 187) true (and-right (nat_eq x 239) (nat_eq y 187 && true) h)) in
    subst (λ n. P (n ∷ y ∷ [])) (sym first) (subst (λ n. P (239 ∷ n ∷ [])) (sym second) two)
undecided_cases P none one two (x ∷ y ∷ z ∷ b) h =
    let short : nat_lt (length (x ∷ y ∷ z ∷ b)) 3 ≡ true = and-left (nat_lt (length (x ∷ y ∷ z ∷ b)) 3) _ h in
    let wrong : length (x ∷ y ∷ z ∷ b) < 3 = grind (arith, nat_tests) in
    absurd (omega (arith, wrong))

-- ---- bytes that have decided

-- a text whose first or second byte is another than the mark's has no mark
other_first : (x : ℕ) (b : List ℕ) → nat_eq 239 x ≡ false → without_mark (x ∷ b) ≡ x ∷ b
other_first x b h = rw h refl

other_second : (x y : ℕ) (b : List ℕ) → nat_eq 239 x ≡ true → nat_eq 187 y ≡ false
    → without_mark (x ∷ y ∷ b) ≡ x ∷ y ∷ b
other_second x y b h k = rw (h, k) refl

-- the first three bytes tell
three_tell : (x y z : ℕ) (b : List ℕ) (t : Bool) → pointwise nat_eq byte_order_mark (x ∷ y ∷ z ∷ []) ≡ t
    → without_mark (x ∷ y ∷ z ∷ b) ≡ (if t then b else x ∷ y ∷ z ∷ b)
three_tell x y z b t h = ap (λ c. cond c b (x ∷ y ∷ z ∷ b)) h

three-cases : (x y z : ℕ) (b more : List ℕ) (t : Bool) → pointwise nat_eq byte_order_mark (x ∷ y ∷ z ∷ []) ≡ t
    → without_mark (x ∷ y ∷ z ∷ (b ++ more)) ≡ without_mark (x ∷ y ∷ z ∷ b) ++ more
three-cases x y z b more true h = three_tell x y z (b ++ more) true h
    ∙ sym (ap (λ l. l ++ more) (three_tell x y z b true h))
three-cases x y z b more false h = three_tell x y z (b ++ more) false h
    ∙ sym (ap (λ l. l ++ more) (three_tell x y z b false h))

one-cases : (x : ℕ) (more : List ℕ) (t : Bool) → nat_eq 239 x ≡ t → is_undecided (x ∷ []) ≡ false
    → without_mark (x ∷ more) ≡ without_mark (x ∷ []) ++ more
one-cases x more true h open_yet =
    let wrong : is_undecided (239 ∷ []) ≡ false =
    subst (λ n. is_undecided (n ∷ []) ≡ false) (sym (eqb-true 239 x h)) open_yet in cc
one-cases x more false h open_yet = other_first x more h ∙ sym (ap (λ l. l ++ more) (other_first x [] h))

two-cases : (x y : ℕ) (more : List ℕ) (t u : Bool) → nat_eq 239 x ≡ t → nat_eq 187 y ≡ u
    → is_undecided (x ∷ y ∷ []) ≡ false
    → without_mark (x ∷ y ∷ more) ≡ without_mark (x ∷ y ∷ []) ++ more
two-cases x y more true true h k open_yet =
    let first : is_undecided (239 ∷ y ∷ []) ≡ false =
    subst (λ n. is_undecided (n ∷ y ∷ []) ≡ false) (sym (eqb-true 239 x h)) open_yet in
    let wrong : is_undecided (239 ∷ 187 ∷ []) ≡ false =
    subst (λ n. is_undecided (239 ∷ n ∷ []) ≡ false) (sym (eqb-true 187 y k)) first in cc
two-cases x y more true false h k open_yet = other_second x y more h k
    ∙ sym (ap (λ l. l ++ more) (other_second x y [] h k))
two-cases x y more false u h k open_yet = other_first x (y ∷ more) h
    ∙ sym (ap (λ l. l ++ more) (other_first x (y ∷ []) h))

-- no byte to come changes whether decided bytes begin with a mark
pub decided_stays : (b : List ℕ) → is_undecided b ≡ false → (more : List ℕ)
    → without_mark (b ++ more) ≡ without_mark b ++ more
decided_stays [] h more = cc
decided_stays (x ∷ []) h more = one-cases x more (nat_eq 239 x) refl h
decided_stays (x ∷ y ∷ []) h more = two-cases x y more (nat_eq 239 x) (nat_eq 187 y) refl refl h
decided_stays (x ∷ y ∷ z ∷ b) h more = three-cases x y z b more _ refl
