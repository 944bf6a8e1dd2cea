-- A record's words but for the previous nodes of its key entries, which alone change once it is published.
use Rattle.std.specs.Prelude.{ℕ, ◌≡◌, ◌+◌, ◌-◌, ◌*◌, ◌%◌, ◌≤◌, List, [], ◌∷◌, slice_index, ⊤}
use Rattle.std.proofs.Math.Decide.{ℕ_discrete, dec_le}
use Rattle.fish_layout.specs.Body.{IsProper, body_words}
use Rattle.fish_layout.specs.Header.{keys_of, lines_of}
use Rattle.fish_layout.specs.declared.parts.BodyParts.{BodyParts}
use Rattle.fish_layout.specs.declared.parts.KeyPart.{KeyPart}

-- the first where the claim holds, else the second
abbrev pub choose : {P : Type 0} {X : Type 0} → Dec P → X → X → X
choose (yes p) x y = x
choose (no n) x y = y

-- the place of the key entry c in a record, in words
abbrev pub entry_at : ℕ → ℕ
entry_at c = 1 + 3 * c

-- of a record with n key entries, word i is the first of one
abbrev pub IsKeyWord : ℕ → ℕ → Type 0
IsKeyWord n i = (i ≤ 3 * n) × (i % 3 ≡ 1)

-- the words of a region with the first words of its key entries put to 0, and 0 after its lines
unfoldable pub cleared : (ℕ → ℕ) → ℕ → ℕ
cleared f i =
    choose (dec_le i (lines_of (f 0) * 4 - 1))
    (choose (dec_le i (3 * keys_of (f 0))) (choose (ℕ_discrete (i % 3) 1) 0 (f i)) (f i)) 0

-- the same of a list of words
abbrev pub body_of : List ℕ → ℕ → ℕ
body_of words = cleared (slice_index words)

-- no entry has a previous node
abbrev pub AreUnlinked : List KeyPart → Type 0
AreUnlinked [] = ⊤
AreUnlinked (k ∷ ks) = (k.prev ≡ 0) × AreUnlinked ks

-- key entries with no previous node, and else the same
abbrev pub unlink : List KeyPart → List KeyPart
unlink [] = []
unlink (k ∷ ks) = record k { prev = 0 } ∷ unlink ks

-- a record's parts with no previous node, and else the same
abbrev pub unlinked : BodyParts → BodyParts
unlinked p = record p { keys = unlink p.keys }

-- e has the words of a record with these parts, its previous nodes put to 0, and 0 after
pub record Spells (p : BodyParts) (e : ℕ → ℕ) : Type 0 where
  pub proper : IsProper p
  pub unlinked : AreUnlinked p.keys
  pub words : (i : ℕ) → e i ≡ slice_index (body_words p) i
