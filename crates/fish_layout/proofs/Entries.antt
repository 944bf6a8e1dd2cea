-- Key entries one after the other: their words, and the bytes of their values.
use Rattle.std.proofs.Common.{◌≡◌, ℕ, zero, suc, ◌+◌, ◌-◌, ◌<◌, ◌≤◌}
use Rattle.std.proofs.Common.{Some, List, [], ◌∷◌, ◌++◌, length, get_or, take, drop}
use Rattle.std.proofs.Common.{sym, ap, ◌∙◌, subst, arith, append-nil, append_assoc, length-append}
use Rattle.std.proofs.Math.Seq.{drop-append_seam, take-append_seam}
use Rattle.std.proofs.lemmas.List.{get_or_default, length-take-le, take-append-drop, take_more}
use Rattle.std.proofs.lemmas.List.Folds.{length-flat_map-take}
use Rattle.std.proofs.lemmas.Grind.{flat_map-append}
use Rattle.fish_layout.specs.Body.{AreProperKeys, IsProperValue, entry_word, key_words, value_word, values_of}
use Rattle.fish_layout.specs.Values.{value_bytes}
use Rattle.fish_layout.specs.declared.parts.KeyPart.{KeyPart}
use Rattle.fish_layout.proofs.Sizes.{few_value_bytes}

-- the words of one entry more
pub key_words-push : (number position offset : ℕ) (ks : List KeyPart) (k : KeyPart) →
    key_words number position offset (ks ++ k ∷ []) ≡
    key_words number position offset ks ++
    (k.prev ∷ entry_word number k.id (position + length ks) ∷ value_word k.value (offset + length (values_of ks))
    ∷ [])
key_words-push number position offset [] k =
    let here : position ≡ position + 0 = omega arith in
    let there : offset ≡ offset + 0 = omega arith in
    ap (λ n. k.prev ∷ entry_word number k.id n ∷ value_word k.value offset ∷ []) here
    ∙ ap (λ n. k.prev ∷ entry_word number k.id (position + 0) ∷ value_word k.value n ∷ []) there
key_words-push number position offset (x ∷ ks) k =
    let size = length (value_bytes x.value) in
    let next : position + 1 + length ks ≡ position + length (x ∷ ks) = omega arith in
    let after : offset + size + length (values_of ks) ≡ offset + length (values_of (x ∷ ks)) =
    omega (arith, length-append (value_bytes x.value) (values_of ks)) in
    let front = λ (l : List ℕ). x.prev ∷ entry_word number x.id position ∷ value_word x.value offset ∷ l in
    let behind = key_words number (position + 1) (offset + size) ks in
    ap front (key_words-push number (position + 1) (offset + size) ks k)
    ∙ ap (λ n.
    front (behind ++
    (k.prev ∷ entry_word number k.id n ∷ value_word k.value (offset + size + length (values_of ks)) ∷ []))) next
    ∙ ap (λ n.
    front (behind ++ (k.prev ∷ entry_word number k.id (position + length (x ∷ ks)) ∷ value_word k.value n ∷ [])))
    after

-- the values' bytes of one entry more
pub values_of-push : (ks : List KeyPart) (k : KeyPart) → values_of (ks ++ k ∷ []) ≡ values_of ks ++ value_bytes k.value
values_of-push ks k = flat_map-append (λ x. value_bytes x.value) ks (k ∷ []) ∙ simp append-nil

-- what holds of all keys holds of one
pub proper_at : (least : ℕ) (ks : List KeyPart) (i : ℕ) (k : KeyPart) → AreProperKeys least ks → i < length ks →
    k ≡ get_or ks i k → (k.id < 256) × IsProperValue k.value
proper_at least [] i k keys within is = absurd (omega arith)
proper_at least (x ∷ ks) zero k keys within is =
    subst (λ y. (y.id < 256) × IsProperValue y.value) (sym is) (keys.1, keys.2)
proper_at least (x ∷ ks) (suc i) k keys within is = proper_at x.id ks i k keys.3 (omega arith) is

-- the values up to an entry and its own have at most 65,536 bytes
pub few_bytes_at : (ks : List KeyPart) (i : ℕ) (k : KeyPart) → length ks ≤ 256 → AreProperKeys 0 ks → i < length ks → k ≡ get_or ks i k →
    length (values_of (take i ks)) + length (value_bytes k.value) ≤ 65536
few_bytes_at ks i k few keys within is =
    let sum = length-flat_map-take (λ x. value_bytes x.value) ks i k within in
    let own : length (value_bytes k.value) ≡ length (value_bytes (get_or ks i k).value) =
    ap (λ x. length (value_bytes x.value)) is in
    omega (arith, sum, own, few_value_bytes 0 ks keys)

-- the values up to an entry have at most 65,536 bytes
pub few_bytes_up : (ks : List KeyPart) (i : ℕ) → length ks ≤ 256 → AreProperKeys 0 ks → length (values_of (take i ks)) ≤ 65536
few_bytes_up ks i few keys =
    let front = values_of (take i ks) in
    let behind = values_of (drop i ks) in
    let whole : front ++ behind ≡ values_of ks =
    sym (flat_map-append (λ k. value_bytes k.value) (take i ks) (drop i ks)) ∙ ap values_of (take-append-drop i ks) in
    omega (
      arith,
      length-append front behind,
      ap length whole,
      few_value_bytes 0 ks keys,
    )

-- the entries up to one and this one
pub take_more_is : (ks : List KeyPart) (i : ℕ) (k : KeyPart) → i < length ks → k ≡ get_or ks i k →
    take (i + 1) ks ≡ take i ks ++ k ∷ []
take_more_is ks i k within is = take_more ks i k within ∙ ap (λ x. take i ks ++ x ∷ []) (sym is)

-- the bytes of the values up to one and of this one
pub values_of-more : (ks : List KeyPart) (i : ℕ) (k : KeyPart) → i < length ks → k ≡ get_or ks i k →
    values_of (take (i + 1) ks) ≡ values_of (take i ks) ++ value_bytes k.value
values_of-more ks i k within is = ap values_of (take_more_is ks i k within is) ∙ values_of-push (take i ks) k

-- the words of the entries up to one and of this one
pub key_words-more : (number : ℕ) (ks : List KeyPart) (i : ℕ) (k : KeyPart) (offset entry : ℕ) → i < length ks →
    k ≡ get_or ks i k →
    entry ≡ entry_word number k.id i → offset ≡ length (values_of (take i ks)) →
    key_words number 0 0 (take (i + 1) ks) ≡
    key_words number 0 0 (take i ks) ++ (k.prev ∷ entry ∷ value_word k.value offset ∷ [])
key_words-more number ks i k offset entry within is entry_is offset_is =
    let front = key_words number 0 0 (take i ks) in
    let position : 0 + length (take i ks) ≡ i = omega (arith, length-take-le i ks (omega arith)) in
    let there : 0 + length (values_of (take i ks)) ≡ offset = omega arith in
    ap (key_words number 0 0) (take_more_is ks i k within is)
    ∙ key_words-push number 0 0 (take i ks) k
    ∙ ap (λ n.
    front ++
    (k.prev ∷ entry_word number k.id n ∷ value_word k.value (0 + length (values_of (take i ks))) ∷ [])) position
    ∙ ap (λ n. front ++ (k.prev ∷ entry_word number k.id i ∷ value_word k.value n ∷ [])) there
    ∙ ap (λ e. front ++ (k.prev ∷ e ∷ value_word k.value offset ∷ [])) (sym entry_is)

-- the values up to an entry and its own are within all values
pub values_within : (ks : List KeyPart) (i : ℕ) (k : KeyPart) → i < length ks → k ≡ get_or ks i k →
    length (values_of (take i ks)) + length (value_bytes k.value) ≤ length (values_of ks)
values_within ks i k within is =
    let own : length (value_bytes k.value) ≡ length (value_bytes (get_or ks i k).value) =
    ap (λ x. length (value_bytes x.value)) is in
    omega (arith, length-flat_map-take (λ x. value_bytes x.value) ks i k within, own)

-- after the values up to an entry stands its own
pub value_at : (ks : List KeyPart) (i : ℕ) (k : KeyPart) (n m : ℕ) → i < length ks → k ≡ get_or ks i k →
    n ≡ length (values_of (take i ks)) →
    m ≡ n + length (value_bytes k.value) → take (m - n) (drop n (values_of ks)) ≡ value_bytes k.value
value_at ks i k n m within is from end =
    let front = values_of (take i ks) in
    let own = value_bytes k.value in
    let rest = values_of (drop (i + 1) ks) in
    let whole : values_of ks ≡ front ++ (own ++ rest) =
    ap values_of (sym (take-append-drop (i + 1) ks))
    ∙ flat_map-append (λ x. value_bytes x.value) (take (i + 1) ks) (drop (i + 1) ks)
    ∙ ap (λ l. l ++ rest) (values_of-more ks i k within is)
    ∙ append_assoc front own rest in
    let size : m - n ≡ length own = omega arith in
    ap (λ l. take (m - n) (drop n l)) whole
    ∙ ap (λ j. take (m - n) (drop j (front ++ (own ++ rest)))) from
    ∙ ap (take (m - n)) (drop-append_seam front (own ++ rest))
    ∙ ap (λ j. take j (own ++ rest)) size
    ∙ take-append_seam own rest

-- an element of a list that has one
pub some_element : (ks : List KeyPart) (n : ℕ) → n < length ks → (k : KeyPart) × (k ≡ get_or ks n k)
some_element [] n h = absurd (omega arith)
some_element (x ∷ ks) n h = (get_or (x ∷ ks) n x, get_or_default (x ∷ ks) n x (get_or (x ∷ ks) n x) h)

-- what is found twice is the same
pub some_same : {X : Type 0} {x y : X} → Some x ≡ Some y → x ≡ y
some_same {X} {x} {y} h = cc
