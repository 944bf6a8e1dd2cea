-- The head is one of the table's words, and the table allows its load.
use Rattle.std.proofs.Common.{◌≡◌, sym, refl, arith, subst, ℕ, ◌*◌, ◌<◌, ◌≤◌, ◌+◌}
use Rattle.fish_rule.specs.ChainSteps.{HeadRises}
use Rattle.fish_rule.specs.Told.{bucket_at}
use Rattle.fish_rule.specs.Parts.{first_head}
use Rattle.fish_rule.proofs.basics.Context.{Key, view}
use Rattle.fish_rule.specs.World.{heads_at}
use Rattle.fish_rule.proofs.steps.LoadHead.{load_head_allowed}
use Rattle.fish_rule.proofs.linking.load_head.Goals as goal

pub load-requires : goal.load-requires
load-requires c =
    let log = c.args.log.now in
    let seat = c.args.pass.now.seat in
    let below : c.args.bucket < log.key.buckets =
    subst (λ (z : Key). c.args.bucket < z.buckets) c.requires.pass.about c.requires.view.below in (
      c.requires.pass.table,
      subst (λ (z : ℕ). heads_at + c.args.bucket < z) (sym log.wide) (omega arith),
      load_head_allowed log.table.shared.key log.key log.keyed log.table.shared.table_id.slots seat.id seat.me
          c.args.bucket _ c.requires.pass.about c.requires.view refl,
    )

pub returns-clause-rises : goal.returns-clause-rises
returns-clause-rises c =
    (let index : bucket_at (heads_at + c.args.bucket) ≡ c.args.bucket = omega arith in
    subst (λ (z : ℕ). HeadRises (view c.args.pass.now) z c.load.result) index c.load.ensures.2.rises)

-- a place that is none of the table's is the start's head
pub returns-clause-first : goal.returns-clause-first
returns-clause-first c =
    let index : bucket_at (heads_at + c.args.bucket) ≡ c.args.bucket = omega arith in
    subst (λ (z : Key × ℕ). c.load.result ≤ z.0.line * 4 → c.load.result ≡ first_head z.0 z.1)
    (λ i. (c.requires.pass.about i, index i)) c.load.ensures.2.first
