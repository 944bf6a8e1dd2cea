-- The rule: all parts at once. And what every step leaves as it was.
use Rattle.std.specs.Prelude.{ℕ, ◌≡◌, ◌≢◌, ◌*◌, ◌<◌, ◌≤◌, []}
use Rattle.fish_rule.specs.Chains.{Chain, Chained, Linked}
use Rattle.fish_rule.specs.Epochs.{Keyed, RegistryHolds}
use Rattle.fish_rule.specs.Parts.{FitsTable, first_head, Limit, RestsAt, Seats, Settled, Space}
use Rattle.fish_rule.specs.Facts.{AreOpens, Facts, Owns, ShutOk}
use Rattle.fish_rule.specs.Registry.{Endures}
use Rattle.fish_rule.specs.Views.{AllOf, Each}
use Rattle.fish_rule.specs.World.{World, body}
use Rattle.fish_rule.specs.declared.view.Epoch.{Epoch}
use Rattle.fish_rule.specs.declared.view.Key.{Key}

-- the parts, over the lines at which regions begin, the lanes and the versions that claimed them, the lanes that
-- may still claim past the end, and how far each lane is entered
pub record Rule (k : Key) (w : World) : Type 0 where
  pub start : ℕ → ℕ
  pub lane_of : ℕ → ℕ
  pub version_of : ℕ → ℕ
  pub quota : ℕ → ℕ
  pub state : ℕ → Epoch
  pub key_fits : FitsTable k
  pub about : Each (λ v. 1 ≤ v.lane → v.about ≡ k) w.views
  pub seats : Seats w.views
  pub tails : Each (λ v. v.lane ≡ 1 → v.out ≡ [] → RestsAt w.count w.line v.tail) w.views
  pub space : Space k w.count w.line w.dir w.log w.views start lane_of
  pub limit : Limit k w.count w.views start quota
  pub settling : Settled k w.count w.settled w.dir
  pub floors : Each (λ v. v.learned.settled ≤ w.settled) w.views
  pub chains : (b : ℕ) → Chain (Linked k w.dir w.log w.views b) (first_head k b) (w.head b) w.log
  pub chained : Each (λ v. Chained k w.dir w.log w.views w.head v.learned) w.views
  pub own : Each (λ v. Owns k w.count w.dir lane_of v.lane v.out v.own) w.views
  pub facts : Each (λ v. Facts k w.count w.dir w.log start v.learned) w.views
  pub registry : RegistryHolds k w.count w.registry state version_of w.views
  pub keyed : Keyed k w.count w.registry w.dir w.log start lane_of version_of
  pub shuts : Each (λ v. ShutOk k w.count w.dir start v.shut) w.views
  pub opens : Each (λ v. AllOf (AreOpens k w.count w.dir lane_of) v.learned.opens) w.views

-- what every step keeps for good: the tail, the settled number, the version, heads and the first words of linked key
-- entries only rise; linked entries stay linked; claimed regions stay where they are; directory words that are set, and
-- the words of published regions but for previous nodes, never change; no word of a record below the settled number
-- changes at all, and no operation and no row that a version has, but for its boundaries
pub record Final (k : Key) (start start' lane_of lane_of' : ℕ → ℕ) (w w' : World) : Type 0 where
  pub counts : w.count ≤ w'.count
  pub lines : w.line ≤ w'.line
  pub settles : w.settled ≤ w'.settled
  pub registered : Endures k w.registry w'.registry
  pub heads : (b : ℕ) → w.head b ≤ w'.head b
  pub links : (b p : ℕ) → Linked k w.dir w.log w.views b p → Linked k w'.dir w'.log w'.views b p
  pub rises : (b p : ℕ) → Linked k w.dir w.log w.views b p → w.log p ≤ w'.log p
  pub starts : (n : ℕ) → n ≤ w.count → start' n ≡ start n
  pub lanes : (n : ℕ) → n < w.count → lane_of' n ≡ lane_of n
  pub dirs : (n : ℕ) → n < w.count → w.dir n ≢ 0 → w'.dir n ≡ w.dir n
  pub bodies : (n : ℕ) → n < w.count → w.dir n ≢ 0 → body w'.log (start n) ≡ body w.log (start n)
  pub below : (p : ℕ) → k.number ≤ w.settled → p < start w.settled * 4 → w'.log p ≡ w.log p
