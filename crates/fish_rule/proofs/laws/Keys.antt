-- Which key entries records have: what the links of their entries have no part in, and records with none.
use Rattle.std.proofs.Common.{ℕ, ◌≡◌, List, [], ◌∷◌, map, refl, ap, ◌∙◌, arith}
use Rattle.fish_layout.specs.Cleared.{unlink, unlinked}
use Rattle.fish_layout.specs.declared.parts.BodyParts.{BodyParts}
use Rattle.fish_layout.specs.declared.parts.KeyPart.{KeyPart}
use Rattle.fish_psf.specs.Keys.{keys_for}
use Rattle.fish_rule.specs.Keys.{HasKeys, property}

-- keys are the same properties without their previous nodes
pub property-unlink : (keys : List KeyPart) → map property (unlink keys) ≡ map property keys
property-unlink [] = refl
property-unlink (k ∷ keys) = ap (λ rest. property k ∷ rest) (property-unlink keys)

-- so a record has its keys without its links too
pub unlinked_keys : {active : ℕ → List (ℕ × List ℕ) → Type 0} {p : BodyParts} → HasKeys active p
    → HasKeys active (unlinked p)
unlinked_keys {active} {p} h = record {
  defs = h.defs;
  are = h.are;
  written = h.written;
  keys = property-unlink p.keys ∙ h.keys;
}

-- a record of a version without active definitions has no keys
pub no_keys : {active : ℕ → List (ℕ × List ℕ) → Type 0} (p : BodyParts) → active p.version [] → p.keys ≡ []
    → HasKeys active p
unfolding keys_for
no_keys p none is = record {
  defs = [];
  are = none;
  written = λ n d less. absurd (omega arith);
  keys = ap (map property) is;
}
