-- Texts and values are bytes: no number in them is above 255.
use Rattle.std.proofs.Common.{◌≡◌, ℕ, zero, suc, ◌+◌, ◌/◌, ◌^◌, ◌<◌}
use Rattle.std.proofs.Common.{Bool, true, false, ◌&&◌, cond, ltb, List, [], ◌∷◌, ◌++◌, get_or}
use Rattle.std.proofs.Common.{refl, subst, arith, inl, inr}
use lib.Utf8.{encode, encodes, next, scalar, scalars, scalar_cases}
use Rattle.std.specs.Prelude.{IsUtf8}
use Rattle.std.specs.Int.{byte_at, to_le_bytes}
use Rattle.std.specs.Int.Width.{w64}
use Rattle.std.proofs.lemmas.Bool.Decides.{nat_tests}
use Rattle.std.proofs.lemmas.Nat.{mod_below}
use Rattle.fish_value.specs.declared.value.Value.{Value}
use Rattle.fish_value.specs.declared.value.Value.TheVariants as kind
use Rattle.fish_layout.specs.Body.{AreProperKeys, IsProperValue, values_of}
use Rattle.fish_layout.specs.Values.{complement, value_bytes}
use Rattle.fish_layout.specs.declared.parts.KeyPart.{KeyPart}

-- each number is a byte
abbrev pub AreBytes : List ℕ → Type 0
AreBytes b = (i : ℕ) → get_or b i 0 < 256

-- no bytes
bytes_none : AreBytes []
bytes_none i = omega arith

-- a byte more in front
bytes_more : (x : ℕ) (b : List ℕ) → x < 256 → AreBytes b → AreBytes (x ∷ b)
bytes_more x b h of_b zero = h
bytes_more x b h of_b (suc i) = of_b i

-- two bytes
bytes_two : (x y : ℕ) → x < 256 → y < 256 → AreBytes (x ∷ y ∷ [])
bytes_two x y hx hy = bytes_more x (y ∷ []) hx (bytes_more y [] hy bytes_none)

-- three bytes
bytes_three : (x y z : ℕ) → x < 256 → y < 256 → z < 256 → AreBytes (x ∷ y ∷ z ∷ [])
bytes_three x y z hx hy hz = bytes_more x (y ∷ z ∷ []) hx (bytes_two y z hy hz)

-- four bytes
bytes_four : (x y z u : ℕ) → x < 256 → y < 256 → z < 256 → u < 256 → AreBytes (x ∷ y ∷ z ∷ u ∷ [])
bytes_four x y z u hx hy hz hu = bytes_more x (y ∷ z ∷ u ∷ []) hx (bytes_three y z u hy hz hu)

-- bytes one after the other
bytes_joined : (a b : List ℕ) → AreBytes a → AreBytes b → AreBytes (a ++ b)
bytes_joined [] b of_a of_b i = of_b i
bytes_joined (x ∷ a) b of_a of_b zero = of_a 0
bytes_joined (x ∷ a) b of_a of_b (suc i) = bytes_joined a b (λ j. of_a (suc j)) of_b i

-- bytes on both sides of a test
bytes_chosen : (t : Bool) (a b : List ℕ) → (t ≡ true → AreBytes a) → (t ≡ false → AreBytes b) → AreBytes (cond t a b)
bytes_chosen true a b of_a of_b = of_a refl
bytes_chosen false a b of_a of_b = of_b refl

-- what a test of an order says
below : (a b : ℕ) → ltb a b ≡ true → a < b
below a b h = grind (arith, nat_tests)

-- a byte that goes on is below 192
next_below : (n : ℕ) → next n < 256
next_below n = omega arith

-- the bytes of a character
bytes_encode : (c : ℕ) → c < 1114112 → AreBytes (encode c)
unfolding encode
bytes_encode c h =
    bytes_chosen (ltb c 128) _ _
    (λ e. let low = below c 128 e in bytes_more c [] (omega arith) bytes_none)
    (λ _. bytes_chosen (ltb c 2048) _ _
    (λ e. let low = below c 2048 e in bytes_two (192 + c / 64) (next c) (omega arith) (next_below c))
    (λ _. bytes_chosen (ltb c 65536) _ _
    (λ e. let low = below c 65536 e in
    bytes_three (224 + c / 4096) (next (c / 64)) (next c) (omega arith) (next_below (c / 64)) (next_below c))
    (λ _. bytes_four (240 + c / 262144) (next (c / 4096)) (next (c / 64)) (next c) (omega arith)
    (next_below (c / 4096)) (next_below (c / 64)) (next_below c))))

-- a character is below 0x110000
scalar_below : (c : ℕ) → scalar c ≡ true → c < 1114112
scalar_below c h = elim (scalar_cases c h) [ inl low ↦ omega arith | inr high ↦ high.1 ]

-- both of two tests
both : (a b : Bool) → (a && b) ≡ true → (a ≡ true) × (b ≡ true)
both true b h = (refl, h)
both false b h = cc

-- the bytes of characters
bytes_encodes : (cs : List ℕ) → scalars cs ≡ true → AreBytes (encodes cs)
bytes_encodes [] h = bytes_none
bytes_encodes (c ∷ cs) h =
    let parts = both (scalar c) (scalars cs) h in
    bytes_joined (encode c) (encodes cs) (bytes_encode c (scalar_below c parts.0)) (bytes_encodes cs parts.1)

-- a text's numbers are bytes
pub bytes_text : (b : List ℕ) → IsUtf8 b → AreBytes b
bytes_text b h = subst AreBytes h.1.1 (bytes_encodes h.0 h.1.0)

-- a byte of a number is below 256
byte_at_below : (i n : ℕ) → byte_at i n < 256
byte_at_below zero n = omega arith
byte_at_below (suc i) n = mod_below (n / 256 ^ suc i) 256 (omega arith)

-- the bytes of a number
bytes_number : (n : ℕ) → AreBytes (to_le_bytes w64 n)
bytes_number n =
    bytes_joined (byte_at 0 n ∷ byte_at 1 n ∷ byte_at 2 n ∷ byte_at 3 n ∷ [])
    (byte_at 4 n ∷ byte_at 5 n ∷ byte_at 6 n ∷ byte_at 7 n ∷ [])
    (bytes_four _ _ _ _ (byte_at_below 0 n) (byte_at_below 1 n) (byte_at_below 2 n) (byte_at_below 3 n))
    (bytes_four _ _ _ _ (byte_at_below 4 n) (byte_at_below 5 n) (byte_at_below 6 n) (byte_at_below 7 n))

-- the bytes of a value
bytes_value : (v : Value) → IsProperValue v → AreBytes (value_bytes v)
bytes_value (kind.Bool true) h = bytes_more 1 [] (omega arith) bytes_none
bytes_value (kind.Bool false) h = bytes_more 0 [] (omega arith) bytes_none
bytes_value (kind.Int n) h = bytes_number (complement n)
bytes_value (kind.Text s) h = bytes_text s h.1

-- the bytes of the values of keys
pub bytes_values : (least : ℕ) (ks : List KeyPart) → AreProperKeys least ks → AreBytes (values_of ks)
bytes_values least [] h = bytes_none
bytes_values least (k ∷ ks) h =
    bytes_joined (value_bytes k.value) (values_of ks) (bytes_value k.value h.2) (bytes_values k.id ks h.3)
