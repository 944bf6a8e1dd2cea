-- The number has a directory word, and the table allows its store.
use Rattle.std.proofs.Common.{◌≡◌, ◌∙◌, sym, ap, arith, subst, ℕ, ◌<◌, ◌≤◌, ◌+◌, ◌-◌}
use Rattle.fish_rule.proofs.steps.PublishRegion.{publish_region_allowed}
use Rattle.fish_rule.proofs.laws.Steps.{flight_law}
use Rattle.fish_rule.proofs.basics.Context.{Flight, Key, Kind, view}
use Rattle.fish_rule.specs.Passes.{IsPassOf}
use Rattle.fish_rule.specs.Regions.{dir_word, kind_of}
use Rattle.fish_rule.specs.SpaceSteps.{CanPublishRegion, flight_kind}
use Rattle.fish_rule.specs.World.{dir_at, slots}
use Rattle.fish_rule.specs.declared.table.Log.{Log}
use Rattle.fish_rule.specs.declared.table.Pass.{Pass}
use Rattle.fish_rule.specs.declared.table.Region.{Region}
use Rattle.fish_rule.proofs.space.publish_region.Goals as goal

-- it is within the table
within : (log : Log) (pass : Pass) (r : Region) → IsPassOf log pass → (f : Flight) × CanPublishRegion (view pass) f
    × (f.number ≡ r.number) × (f.line ≡ r.line) × (f.lines ≡ r.lines)
    → (log.key.number ≤ r.number) × (r.number - log.key.number < slots log.key) × (1 ≤ r.lines)
    × (r.line + r.lines < 68719476736)
within log pass r of may =
    let f : Flight = may.0 in
    let law = flight_law log.key (view pass) f of.about of.stands may.1.flying in
    let above = law.above in
    let in_slots = law.in_slots in
    let some_ = law.some in
    let low_ = law.low_line in
    let number : f.number ≡ r.number = may.2 in
    let line : f.line ≡ r.line = may.3 in
    let lines : f.lines ≡ r.lines = may.4 in (
      subst (λ (z : ℕ). log.key.number ≤ z) number above,
      subst (λ (z : ℕ). z - log.key.number < slots log.key) number in_slots,
      omega arith,
      omega arith,
    )

pub overflow_add-region : goal.overflow_add-region
overflow_add-region c = (let h = within _ _ _ c.requires.pass c.requires.view in omega arith)

pub overflow_add-index : goal.overflow_add-index
overflow_add-index c = (let h = within _ _ _ c.requires.pass c.requires.view in
    let fits = c.args.log.now.fits in let at = c.dir_at.ensures in omega arith)

pub directory_word-requires : goal.directory_word-requires
directory_word-requires c = (let h = within _ _ _ c.requires.pass c.requires.view in omega arith)

pub store-requires : goal.store-requires
store-requires c =
    let log = c.args.log.now in
    let pass = c.args.pass.now in
    let seat = pass.seat in
    let region = c.args.region.now in
    let f : Flight = c.requires.view.0 in
    let may = c.requires.view in
    let h = within _ _ _ c.requires.pass c.requires.view in
    let at = c.dir_at.ensures in
    let line : f.line ≡ region.line = may.3 in
    let lines : f.lines ≡ region.lines = may.4 in
    let kind : c.region_kind-kind.result ≡ flight_kind (view pass) f =
    c.region_kind-kind.ensures ∙ ap (λ (z : Key × ℕ × ℕ). kind_of z.0.end z.1 (z.1 + z.2))
    (λ i. (sym c.requires.pass.about i, sym line i, sym lines i)) in (
      c.requires.pass.table,
      subst (λ (z : ℕ). c.dir_at.result + (region.number - log.key.number) < z) (sym log.wide) (omega arith),
      publish_region_allowed log.table.shared.key log.key log.keyed log.table.shared.table_id.slots seat.id seat.me f
          _ _ c.requires.pass.about may.1
          (ap (λ (z : ℕ). z + (region.number - log.key.number)) at
          ∙ ap (λ (z : ℕ). dir_at log.key + (z - log.key.number)) (sym may.2))
          (c.directory_word.ensures ∙ ap (λ (z : Kind × ℕ). dir_word z.0 z.1) (λ i. (kind i, sym line i))),
    )
