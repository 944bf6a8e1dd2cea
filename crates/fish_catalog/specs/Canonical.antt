-- The texts that rows keep.
use Rattle.std.specs.Prelude.{◌≡◌, ℕ, List}
use Rattle.fish_lang.specs.Canonical.{definition_text}
use Rattle.fish_lang.specs.Definition.{Definition}
use Rattle.fish_lang.specs.Language.{IsAccepted}

-- the text is the canonical one of a definition that some source is
pub record IsCanonical (text : List ℕ) : Type 0 where
  pub source : List ℕ
  pub said : Definition
  pub read : IsAccepted source said
  pub spells : text ≡ definition_text said
