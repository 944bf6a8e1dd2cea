-- Entries of different ids differ.
use Rattle.std.proofs.Common.{ℕ, ◌<◌, List, [], ◌∷◌, arith}
use Rattle.fish_layout.specs.Body.{AreProperKeys, IsApart}
use Rattle.fish_layout.specs.declared.parts.KeyPart.{KeyPart}

-- an entry differs from proper ones whose ids are above its own
pub apart_above : (least : ℕ) (k : KeyPart) (ks : List KeyPart) → AreProperKeys least ks → k.id < least → IsApart k ks
apart_above least k [] h above = tt
apart_above least k (x ∷ ks) h above =
    (λ same _. absurd (omega (arith, same, h.0, above)), apart_above x.id k ks h.3 (omega (arith, h.0, above)))
