-- How a checker goes through words. What private clauses need of it.
use Rattle.std.specs.Prelude.{ℕ, ◌≡◌, ◌*◌, ◌<◌, ◌≤◌, List, ◌++◌, Option, Some, None, length}
use Rattle.fish_catalog.specs.declared.commit.Commit.{Commit}
use Rattle.fish_image.specs.Log.{FollowsAt, region_lines}
use Rattle.fish_image.specs.Progress.{IsAt}
use Rattle.fish_image.specs.Reached.{Reached}
use Rattle.fish_image.specs.Steps.{Breaks, StopsReading}
use Rattle.fish_image.specs.Terms.{AreTermsOf}
use Rattle.fish_image.specs.declared.progress.Progress.{Progress}
use Rattle.fish_image.specs.declared.step.Step.TheVariants.{Took, Waits, Damaged}
use Rattle.fish_image.specs.declared.step.Step.{Step}
use Rattle.fish_image.specs.declared.terms.Terms.{Terms}

-- the terms are some commit's, and the reading has come somewhere, an entry being wanted
pub record IsReading (terms : Terms) (at : Progress) : Type 0 where
  pub commit : Commit
  pub come : Reached
  pub terms_of : AreTermsOf commit terms
  pub is_at : IsAt commit come at
  pub wanted : come.number < commit.count

-- what a step does: it reads the region at the front of what is left, which takes so many words; or no region is there
-- as yet; or none will be, whatever comes after
abbrev pub Stepped : Step → Commit → Reached → List ℕ → Progress → Type 0
Stepped (Took n) c s rest new =
    (m : Reached) × FollowsAt c s rest m × IsAt c m new × (n ≡ 4 * region_lines rest) × (n ≤ length rest)
Stepped Waits c s rest new = IsAt c s new × ((m : Reached) → FollowsAt c s rest m → ⊥)
Stepped Damaged c s rest new = (more : List ℕ) (m : Reached) → FollowsAt c s (rest ++ more) m → ⊥

-- what reading all regions of words does
abbrev pub LeavesProgress : Option ℕ → Commit → List ℕ → List ℕ → Progress → Type 0
LeavesProgress (Some n) c w left new = Breaks c w n
LeavesProgress None c w left new = StopsReading c w left new
