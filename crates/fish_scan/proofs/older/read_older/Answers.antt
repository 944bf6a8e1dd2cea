-- One number more is read at each turn.
use Rattle.std.proofs.Common.{◌≡◌, ℕ, ◌+◌, ◌-◌, ap, subst, arith}
use Rattle.fish_cold.specs.within.Caching.{IsColdUndamaged}
use Rattle.fish_cold.specs.declared.refusal.ColdRefusal.TheVariants.{DiskFault}
use Rattle.fish_lang.specs.Definition.{definition_of}
use Rattle.fish_rule.specs.declared.table.Base.{Base}
use Rattle.fish_scan.proofs.Carrying.{ahead, back, stays_both, stays_none}
use Rattle.fish_scan.proofs.OlderReads.{damage_wider, err_as, err_same, read_older_more, read_older_none}
use Rattle.fish_scan.specs.within.Colder.{IsDamageIn}
use Rattle.fish_scan.specs.within.OlderReading.{HasReadOlder}
use Rattle.fish_scan.proofs.older.read_older.Goals as goal

pub loop-number-init : goal.loop-number-init
loop-number-init g c = record {
  above = c.requires.some;
  below = omega arith;
  stays = stays_none g.D.Disk c.args.cold.now c.args.disk.now;
  read = λ k h. read_older_none h (definition_of c.args.query.now.def) c.args.query.now.value c.args.stretch.now.to c.args.rows.now
      c.args.parses.now c.args.loads.now;
}

pub read_older_at-requires : goal.read_older_at-requires
read_older_at-requires g c =
    let base = ap (λ (z : Base). z.number) c.loop-number.invariant.stays.base in
    let older = c.requires.older in
    let below = c.loop-number.invariant.below in
    let some = c.loop-number-test.true in
    omega arith

pub loop-number-preserved : goal.loop-number-preserved
loop-number-preserved g c =
    let inv = c.loop-number.invariant in
    let step = c.read_older_at.ensures.cold in
    let above = inv.above in
    let below = inv.below in
    let some = c.loop-number-test.true in
    let n = c.loop-number.number - 1 in
    let next : c.loop-number.number ≡ n + 1 = omega arith in
    record {
      above = omega arith;
      below = omega arith;
      stays = stays_both g.D.Disk c.args.cold.now
          c.loop-number.cold c.read_older_at.new.cold c.args.disk.now c.loop-number.disk c.read_older_at.new.disk inv.stays step;
      read = λ k h. read_older_more h (definition_of c.args.query.now.def) c.args.query.now.value n c.args.stretch.now.to
          c.args.rows.now c.loop-number.rows c.read_older_at.new.rows c.args.parses.now c.loop-number.parses
          c.read_older_at.new.parses c.args.loads.now c.loop-number.loads c.read_older_at.new.loads (omega arith)
          (subst (λ (z : ℕ). HasReadOlder h.prior (definition_of c.args.query.now.def) c.args.query.now.value z c.args.stretch.now.to
          c.args.rows.now c.loop-number.rows c.args.parses.now c.loop-number.parses c.args.loads.now c.loop-number.loads) next
          (inv.read k (back g.D.Disk c.loop-number.cold
          c.read_older_at.new.cold c.loop-number.disk c.read_older_at.new.disk step h)))
          (c.in_ok-read_older_at.ensures.read k (ahead g.D.Disk c.args.cold.now c.loop-number.cold c.read_older_at.new.cold
          c.args.disk.now c.loop-number.disk
          c.read_older_at.new.disk inv.stays step h));
    }

pub returns-in_err-read_older_at-clause-cold : goal.returns-in_err-read_older_at-clause-cold
returns-in_err-read_older_at-clause-cold g c = stays_both g.D.Disk c.args.cold.now c.loop-number.cold c.read_older_at.new.cold
    c.args.disk.now c.loop-number.disk
    c.read_older_at.new.disk c.loop-number.invariant.stays c.read_older_at.ensures.cold

pub returns-in_err-read_older_at-clause-fault : goal.returns-in_err-read_older_at-clause-fault
returns-in_err-read_older_at-clause-fault g c failed =
    let one = c.loop-number.invariant.stays.later in
    let two = c.in_err-read_older_at.ensures.fault (err_same c.from_residual.result _ DiskFault c.from_residual.ensures.1 failed) in
    omega arith

pub returns-in_err-read_older_at-clause-damage : goal.returns-in_err-read_older_at-clause-damage
returns-in_err-read_older_at-clause-damage g c =
    let below = c.loop-number.invariant.below in
    let some = c.loop-number-test.true in
    err_as c.from_residual.result (IsDamageIn c.args.stretch.now.from c.args.stretch.now.to) _ c.from_residual.ensures.1
    (damage_wider (c.loop-number.number - 1) (c.loop-number.number - 1 + 1) c.args.stretch.now.from c.args.stretch.now.to _
    (omega arith) (omega arith) c.in_err-read_older_at.ensures.damage)

pub returns-in_err-read_older_at-clause-whole : goal.returns-in_err-read_older_at-clause-whole
returns-in_err-read_older_at-clause-whole g c k h =
    err_as c.from_residual.result IsColdUndamaged _ c.from_residual.ensures.1
    (c.in_err-read_older_at.ensures.whole k (ahead g.D.Disk c.args.cold.now c.loop-number.cold c.read_older_at.new.cold c.args.disk.now
    c.loop-number.disk
    c.read_older_at.new.disk c.loop-number.invariant.stays c.read_older_at.ensures.cold h))

pub returns-clause-read : goal.returns-clause-read
returns-clause-read g c k h =
    let above = c.loop-number.invariant.above in
    let done = c.loop-number-test.false in
    let first : c.loop-number.number ≡ c.args.stretch.now.from = omega arith in
    subst (λ (z : ℕ). HasReadOlder h.prior (definition_of c.args.query.now.def) c.args.query.now.value z c.args.stretch.now.to
    c.args.rows.now c.loop-number.rows c.args.parses.now c.loop-number.parses c.args.loads.now c.loop-number.loads) first
    (c.loop-number.invariant.read k h)
