-- Names and bare words are ASCII, so they are texts.
use Rattle.std.proofs.Common.{◌≡◌, ℕ, ◌<◌, zero, suc, List, [], ◌∷◌, refl, arith, length}
use Rattle.std.specs.Prelude.{Bool, true, false, not, ◌&&◌, nat_le, nat_lt, slice_index, IsUtf8}
use Rattle.std.specs.Char.{is_ascii_digit}
use Rattle.std.specs.List.{list_all}
use Rattle.std.specs.Str.{IsAscii}
use Rattle.std.proofs.lemmas.Bool.Decides.{nat_tests}
use Rattle.std.proofs.lemmas.Str.{IsUtf8-from_ascii}
use Rattle.fish_value.specs.Limits.{longest_name}
use Rattle.fish_value.specs.BareWord.{is_bare_byte, is_bare_word}
use Rattle.fish_script.specs.ScriptLine.{is_name, is_name_byte}

-- what two tests say where both hold
both : (a b : Bool) → (a && b) ≡ true → (a ≡ true) × (b ≡ true)
both true b h = (refl, h)
both false b h = cc

-- bytes that pass a test for ASCII
all_ascii : (p : ℕ → Bool) → ((c : ℕ) → p c ≡ true → c < 128) → (w : List ℕ) → list_all p w ≡ true → IsAscii w
all_ascii p small [] h i = omega arith
all_ascii p small (c ∷ cs) h zero = small c (both (p c) (list_all p cs) h).0
all_ascii p small (c ∷ cs) h (suc i) = all_ascii p small cs (both (p c) (list_all p cs) h).1 i

name_byte : (c : ℕ) → is_name_byte c ≡ true → c < 128
name_byte c h = grind (arith, nat_tests)

bare_byte : (c : ℕ) → is_bare_byte c ≡ true → c < 128
bare_byte c h = grind (arith, nat_tests)

-- a name
pub IsUtf8-name : (w : List ℕ) → is_name w ≡ true → IsUtf8 w
unfolding is_name
IsUtf8-name w h = IsUtf8-from_ascii w (all_ascii is_name_byte name_byte w
    (both (nat_lt 0 (length w) && nat_le (length w) longest_name) (list_all is_name_byte w)
    (both (nat_lt 0 (length w) && nat_le (length w) longest_name && list_all is_name_byte w)
    (not (is_ascii_digit (slice_index w 0))) h).0).1)

-- a bare word
pub IsUtf8-bare : (w : List ℕ) → is_bare_word w ≡ true → IsUtf8 w
IsUtf8-bare w h = IsUtf8-from_ascii w (all_ascii is_bare_byte bare_byte w (both (nat_lt 0 (length w)) (list_all is_bare_byte w) h).1)
