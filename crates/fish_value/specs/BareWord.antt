-- Words that stand for themselves, without quotation marks.
use Rattle.std.specs.Prelude.{ℕ, ◌==◌, ◌&&◌, List, length, Bool, not, nat_le, nat_lt}
use Rattle.std.specs.List.{list_all}

-- a byte that can stand in a bare word: graphic ASCII but the quotation mark and the number sign
abbrev pub is_bare_byte : ℕ → Bool
is_bare_byte b = nat_le 0x21 b && nat_le b 0x7e && not (b == 34) && not (b == 35)

-- a name that can stand without quotation marks
abbrev pub is_bare_word : List ℕ → Bool
is_bare_word s = nat_lt 0 (length s) && list_all is_bare_byte s
