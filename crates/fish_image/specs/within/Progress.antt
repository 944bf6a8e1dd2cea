-- What a checker knows of the words that were read. What private clauses need of it.
use Rattle.std.specs.Prelude.{ℕ, List, Bool, true, false}
use Rattle.fish_catalog.specs.declared.commit.Commit.{Commit}
use Rattle.fish_image.specs.Progress.{AreHeads, IsAt}
use Rattle.fish_image.specs.Reached.{AreLinked, Reached, with_keys}
use Rattle.fish_image.specs.declared.progress.Progress.{Progress}
use Rattle.fish_layout.specs.declared.parts.KeyPart.{KeyPart}

-- the key entries of a record are linked to what was there, and the heads are then theirs; or they are not
abbrev pub LinksKeys : Bool → ℕ → ℕ → List KeyPart → List (ℕ × ℕ) → List ℕ → Type 0
LinksKeys true buckets line keys places heads =
    AreLinked buckets line 0 keys places × AreHeads buckets (with_keys buckets line 0 keys places) heads
LinksKeys false buckets line keys places heads = AreLinked buckets line 0 keys places → ⊥

-- the reading has come one region further; or no region of this kind is there
abbrev pub TookRegion : Bool → Commit → (Reached → Type 0) → Progress → Type 0
TookRegion true c follows new = (n : Reached) × follows n × IsAt c n new
TookRegion false c follows new = (n : Reached) → follows n → ⊥
