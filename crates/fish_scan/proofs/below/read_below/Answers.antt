-- One piece more is read at each turn.
use Rattle.std.proofs.Common.{◌≡◌, ℕ, ◌+◌, suc, subst, arith}
use Rattle.std.proofs.lemmas.Option.{slice_get-get_or}
use Rattle.fish_cold.specs.within.Caching.{IsColdUndamaged}
use Rattle.fish_cold.specs.declared.refusal.ColdRefusal.TheVariants.{DiskFault}
use Rattle.fish_lang.specs.Definition.{definition_of}
use Rattle.fish_plan.proofs.Inside.{piece_within}
use Rattle.fish_plan.specs.declared.pieces.Piece.TheVariants.{Index}
use Rattle.fish_rule.proofs.laws.Learning.{extends_both, extends_self}
use Rattle.fish_rule.specs.Passes.{view}
use Rattle.fish_scan.proofs.BelowReads.{ReadsBelow, below_all, below_more, below_none, older_readable_later}
use Rattle.fish_scan.proofs.Carrying.{ahead, back, below_on, stays_both, stays_none}
use Rattle.fish_scan.proofs.OlderReads.{damage_wider, err_as, err_same}
use Rattle.fish_scan.specs.within.Colder.{IsDamageIn}
use Rattle.fish_scan.specs.within.Cutting.{last_below}
use Rattle.fish_scan.proofs.below.read_below.Goals as goal

pub loop-piece-init : goal.loop-piece-init
loop-piece-init g c = record {
  of = c.requires.pass;
  extends = extends_self (view c.args.pass.now);
  stays = stays_none g.D.Disk c.args.cold.now c.args.disk.now;
  read = λ h. below_none h.prior (view c.args.pass.now) (definition_of c.args.query.now.def) c.args.query.now.value
      c.args.pieces.now c.args.query.now.reach.from (last_below c.args.log.now.key c.args.query.now.reach) c.args.rows.now
      c.args.parses.now c.args.loads.now c.requires.fill;
}

pub read_older_piece-requires-clause-base : goal.read_older_piece-requires-clause-base
read_older_piece-requires-clause-base g c = below_on c.args.log.now.key c.args.cold.now c.loop-piece.cold
    c.loop-piece.invariant.stays.base c.requires.base

pub read_older_piece-requires-clause-readable : goal.read_older_piece-requires-clause-readable
read_older_piece-requires-clause-readable g c = older_readable_later (view c.args.pass.now) (view c.loop-piece.pass)
    (definition_of c.args.query.now.def) c.args.log.now.key.number _ c.loop-piece.invariant.extends.learns
    (c.requires.readable c.loop-piece.piece-index _
    (slice_get-get_or c.args.pieces.now c.loop-piece.piece-index (Index 0 0 0) c.loop-piece-test.true))

pub loop-piece-preserved : goal.loop-piece-preserved
loop-piece-preserved g c =
    let inv = c.loop-piece.invariant in
    let step = c.read_older_piece.ensures.cold in
    let next : suc c.loop-piece.piece-index ≡ c.loop-piece.piece-index + 1 = omega arith in
    record {
      of = c.read_older_piece.ensures.pass;
      extends = extends_both _ _ _ inv.extends c.read_older_piece.ensures.extends;
      stays = stays_both g.D.Disk c.args.cold.now
          c.loop-piece.cold c.read_older_piece.new.cold c.args.disk.now c.loop-piece.disk c.read_older_piece.new.disk inv.stays step;
      read = λ h.
          subst (λ (z : ℕ). ReadsBelow h.prior (view c.args.pass.now) (definition_of c.args.query.now.def) c.args.query.now.value
          c.args.pieces.now c.args.query.now.reach.from (last_below c.args.log.now.key c.args.query.now.reach)
          (view c.read_older_piece.new.pass) z c.args.rows.now c.read_older_piece.new.rows c.args.parses.now
          c.read_older_piece.new.parses c.args.loads.now c.read_older_piece.new.loads) next
          (below_more h.prior (view c.args.pass.now) (definition_of c.args.query.now.def) c.args.query.now.value
          c.args.pieces.now c.args.query.now.reach.from (last_below c.args.log.now.key c.args.query.now.reach)
          (view c.loop-piece.pass) (view c.read_older_piece.new.pass) c.loop-piece.piece-index _ c.args.rows.now c.loop-piece.rows
          c.read_older_piece.new.rows c.args.parses.now c.loop-piece.parses c.read_older_piece.new.parses c.args.loads.now
          c.loop-piece.loads c.read_older_piece.new.loads c.read_older_piece.ensures.extends.learns
          (slice_get-get_or c.args.pieces.now c.loop-piece.piece-index (Index 0 0 0) c.loop-piece-test.true)
          (inv.read (back g.D.Disk c.loop-piece.cold
          c.read_older_piece.new.cold c.loop-piece.disk c.read_older_piece.new.disk step h))
          (c.in_ok-read_older_piece.ensures.read (ahead g.D.Disk c.args.cold.now c.loop-piece.cold c.read_older_piece.new.cold
          c.args.disk.now c.loop-piece.disk
          c.read_older_piece.new.disk inv.stays step h)));
    }

pub returns-in_err-read_older_piece-clause-extends : goal.returns-in_err-read_older_piece-clause-extends
returns-in_err-read_older_piece-clause-extends g c =
    extends_both _ _ _ c.loop-piece.invariant.extends c.read_older_piece.ensures.extends

pub returns-in_err-read_older_piece-clause-cold : goal.returns-in_err-read_older_piece-clause-cold
returns-in_err-read_older_piece-clause-cold g c = stays_both g.D.Disk c.args.cold.now c.loop-piece.cold c.read_older_piece.new.cold
    c.args.disk.now c.loop-piece.disk
    c.read_older_piece.new.disk c.loop-piece.invariant.stays c.read_older_piece.ensures.cold

pub returns-in_err-read_older_piece-clause-fault : goal.returns-in_err-read_older_piece-clause-fault
returns-in_err-read_older_piece-clause-fault g c failed =
    let one = c.loop-piece.invariant.stays.later in
    let two = c.in_err-read_older_piece.ensures.fault (err_same c.from_residual.result _ DiskFault c.from_residual.ensures.1 failed) in
    omega arith

pub returns-in_err-read_older_piece-clause-damage : goal.returns-in_err-read_older_piece-clause-damage
returns-in_err-read_older_piece-clause-damage g c =
    let within = piece_within c.args.pieces.now c.args.query.now.reach.from (last_below c.args.log.now.key c.args.query.now.reach)
    c.loop-piece.piece-index _ c.requires.fill
    (slice_get-get_or c.args.pieces.now c.loop-piece.piece-index (Index 0 0 0) c.loop-piece-test.true) in
    err_as c.from_residual.result (IsDamageIn c.args.query.now.reach.from c.args.log.now.key.number) _ c.from_residual.ensures.1
    (damage_wider _ c.args.log.now.key.number c.args.query.now.reach.from c.args.log.now.key.number _ within.0 (omega arith)
    c.in_err-read_older_piece.ensures.damage)

pub returns-in_err-read_older_piece-clause-whole : goal.returns-in_err-read_older_piece-clause-whole
returns-in_err-read_older_piece-clause-whole g c h =
    err_as c.from_residual.result IsColdUndamaged _ c.from_residual.ensures.1
    (c.in_err-read_older_piece.ensures.whole (ahead g.D.Disk c.args.cold.now c.loop-piece.cold c.read_older_piece.new.cold c.args.disk.now
    c.loop-piece.disk
    c.read_older_piece.new.disk c.loop-piece.invariant.stays c.read_older_piece.ensures.cold h))

pub returns-clause-read : goal.returns-clause-read
returns-clause-read g c h = below_all h.prior (view c.args.pass.now) (definition_of c.args.query.now.def) c.args.query.now.value
    c.args.pieces.now c.args.query.now.reach.from (last_below c.args.log.now.key c.args.query.now.reach) (view c.loop-piece.pass)
    c.loop-piece.piece-index c.args.rows.now c.loop-piece.rows c.args.parses.now c.loop-piece.parses c.args.loads.now
    c.loop-piece.loads (let all = c.loop-piece-test.false in omega arith) (c.loop-piece.invariant.read h)
