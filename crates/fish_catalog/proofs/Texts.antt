-- A text that is read and written again is canonical, and no other text is.
use Rattle.std.proofs.Common.{◌≡◌, List, ℕ, Ok, sym, ap, subst, ◌∙◌}
use Rattle.std.specs.Prelude.{Result}
use Rattle.fish_catalog.specs.Canonical.{IsCanonical}
use Rattle.fish_lang.proofs.Accepted.{accepted-again}
use Rattle.fish_lang.proofs.Outcomes.{outcome-only}
use Rattle.fish_lang.specs.Canonical.{definition_text}
use Rattle.fish_lang.specs.Definition.{Definition}
use Rattle.fish_lang.specs.Language.{IsAccepted, IsOutcome}
use Rattle.fish_lang.specs.declared.parse.LangRefusal.{LangRefusal}

-- a canonical text is a definition
pub canonical_read : (text : List ℕ) (h : IsCanonical text) → IsOutcome text (Ok h.said)
canonical_read text h = subst (λ (b : List ℕ). IsAccepted b h.said) (sym h.spells) (accepted-again h.source h.said h.read)

-- two readings of a text are one
pub read_once : (text : List ℕ) (r s : Result Definition LangRefusal) → IsOutcome text r → IsOutcome text s → r ≡ s
read_once text r s x y = sym (outcome-only text r x) ∙ outcome-only text s y

-- two definitions are the same where they are one answer
said_same : {a b : Definition} → ◌≡◌ {A = Result Definition LangRefusal} (Ok a) (Ok b) → a ≡ b
said_same e = cc

-- a canonical text is written as it stands, from whatever it is read as
pub canonical_written : (text : List ℕ) (d : Definition) → IsAccepted text d → IsCanonical text → definition_text d ≡ text
canonical_written text d read h =
    ap definition_text (said_same (read_once text (Ok d) (Ok h.said) read (canonical_read text h))) ∙ sym h.spells

-- a text that is written as it stands is canonical
pub written_canonical : (text : List ℕ) (d : Definition) → IsAccepted text d → definition_text d ≡ text → IsCanonical text
written_canonical text d read same = record { source = text; said = d; read = read; spells = sym same }
