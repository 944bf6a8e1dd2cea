-- One piece more.
use Rattle.std.proofs.Common.{◌≡◌, ℕ, ◌+◌, ◌≤◌, ◌∙◌, suc, List, ap, arith, drop, refl, subst, take}
use Rattle.std.proofs.lemmas.Option.{slice_get-get_or}
use Rattle.fish_lang.specs.Definition.{definition_of}
use Rattle.fish_plan.proofs.Inside.{piece_within}
use Rattle.fish_plan.specs.declared.pieces.Piece.{Piece}
use Rattle.fish_plan.specs.declared.pieces.Piece.TheVariants.{Index}
use Rattle.fish_rule.proofs.laws.Learning.{extends_both, extends_self}
use Rattle.fish_rule.specs.Passes.{view}
use Rattle.fish_rule.specs.declared.view.Key.{Key}
use Rattle.fish_scan.proofs.Filling.{HasRead, full_at, parsed_all, read_all, read_more, read_none, readable_later}
use Rattle.fish_scan.proofs.Reaching.{reached_still}
use Rattle.fish_scan.proofs.Loading.{rises_none}
use Rattle.fish_scan.proofs.Working.{pieces_more, take_all}
use Rattle.fish_scan.specs.within.Pieces.{full_numbers}
use Rattle.fish_scan.specs.within.Reach.{first_in}
use Rattle.fish_scan.specs.within.Work.{ArePiecesWork}
use Rattle.fish_scan.proofs.pieces.read_pieces.Goals as goal

pub loop-piece-init : goal.loop-piece-init
loop-piece-init g c = record {
  of = c.requires.pass;
  few = omega arith;
  extends = extends_self (view c.args.pass.now);
  read = read_none (view c.args.pass.now) (definition_of c.args.query.now.def) c.args.query.now.value
      (first_in c.args.log.now.key c.args.query.now.reach) c.args.query.now.reach c.args.pieces.now c.args.rows.now
      c.args.parses.now c.requires.fill;
  work = (0, refl, rises_none (view c.args.pass.now) c.args.loads.now);
}

pub read_piece-requires-clause-reached : goal.read_piece-requires-clause-reached
read_piece-requires-clause-reached g c = reached_still (view c.args.pass.now) (view c.loop-piece.pass) c.args.query.now.reach
    c.loop-piece.invariant.extends.learns c.requires.reached

pub read_piece-requires-clause-readable : goal.read_piece-requires-clause-readable
read_piece-requires-clause-readable g c = readable_later (view c.args.pass.now) (view c.loop-piece.pass)
    (definition_of c.args.query.now.def) c.args.query.now.reach _ c.loop-piece.invariant.extends.learns
    (c.requires.readable c.loop-piece.piece-index _
    (slice_get-get_or c.args.pieces.now c.loop-piece.piece-index (Index 0 0 0) c.loop-piece-test.true))

-- none of the pieces begins below the table's first number
pub read_piece-requires-clause-base : goal.read_piece-requires-clause-base
read_piece-requires-clause-base g c =
    let about = ap (λ (z : Key). z.number) (c.loop-piece.invariant.extends.learns.about ∙ c.requires.pass.about) in
    let within = piece_within c.args.pieces.now (first_in c.args.log.now.key c.args.query.now.reach) c.args.query.now.reach.to
    c.loop-piece.piece-index _ c.requires.fill
    (slice_get-get_or c.args.pieces.now c.loop-piece.piece-index (Index 0 0 0) c.loop-piece-test.true) in
    let from = within.0 in
    let some = within.1 in
    let to = within.2 in
    omega arith

pub returns-in_err-read_piece-clause-extends : goal.returns-in_err-read_piece-clause-extends
returns-in_err-read_piece-clause-extends g c = extends_both _ _ _ c.loop-piece.invariant.extends c.read_piece.ensures.extends

pub loop-piece-preserved : goal.loop-piece-preserved
loop-piece-preserved g c =
    let inv = c.loop-piece.invariant in
    let next : suc c.loop-piece.piece-index ≡ c.loop-piece.piece-index + 1 = omega arith in
    record {
      of = c.read_piece.ensures.pass;
      few = (let so_far = inv.few in let one = c.read_piece.ensures.few in
          let split = full_at c.args.pieces.now c.loop-piece.piece-index _
          (slice_get-get_or c.args.pieces.now c.loop-piece.piece-index (Index 0 0 0) c.loop-piece-test.true) in
          subst (λ (z : ℕ). c.read_piece.new.parses + full_numbers (drop z c.args.pieces.now)
          ≤ c.args.parses.now + full_numbers c.args.pieces.now) next (omega arith));
      extends = extends_both _ _ _ inv.extends c.read_piece.ensures.extends;
      read = subst (λ (z : ℕ). HasRead (view c.read_piece.new.pass) (definition_of c.args.query.now.def)
          c.args.query.now.value (first_in c.args.log.now.key c.args.query.now.reach) c.args.query.now.reach c.args.pieces.now z
          c.args.rows.now c.read_piece.new.rows
          c.args.parses.now c.read_piece.new.parses) next
          (read_more (view c.loop-piece.pass) (view c.read_piece.new.pass) _ _ _ c.args.query.now.reach c.args.pieces.now
          c.loop-piece.piece-index _ c.args.rows.now c.loop-piece.rows c.read_piece.new.rows c.args.parses.now
          c.loop-piece.parses c.read_piece.new.parses c.read_piece.ensures.extends.learns
          (slice_get-get_or c.args.pieces.now c.loop-piece.piece-index (Index 0 0 0) c.loop-piece-test.true)
          inv.read c.in_ok-read_piece.ensures.rows c.in_ok-read_piece.ensures.parses);
      work = subst (λ (z : ℕ). ArePiecesWork (view c.args.pass.now) (view c.read_piece.new.pass) c.args.query.now.value
          c.args.query.now.reach.opens c.read_piece.new.rows (take z c.args.pieces.now) c.args.loads.now
          c.read_piece.new.loads) next
          (pieces_more (view c.args.pass.now) (view c.loop-piece.pass) (view c.read_piece.new.pass) c.args.query.now.value
          c.args.query.now.reach.opens c.loop-piece.rows c.read_piece.new.rows _ c.args.pieces.now c.loop-piece.piece-index _
          c.args.loads.now c.loop-piece.loads c.read_piece.new.loads c.read_piece.ensures.extends.learns
          (slice_get-get_or c.args.pieces.now c.loop-piece.piece-index (Index 0 0 0) c.loop-piece-test.true)
          c.in_ok-read_piece.ensures.rows.1 inv.work c.in_ok-read_piece.ensures.loads);
    }

pub returns-clause-rows : goal.returns-clause-rows
returns-clause-rows g c = read_all (view c.loop-piece.pass) (definition_of c.args.query.now.def) c.args.query.now.value
    (first_in c.args.log.now.key c.args.query.now.reach) c.args.query.now.reach c.args.pieces.now c.loop-piece.piece-index
    c.args.rows.now c.loop-piece.rows c.args.parses.now
    c.loop-piece.parses (let all = c.loop-piece-test.false in omega arith) c.loop-piece.invariant.read

pub returns-in_err-read_piece-clause-few : goal.returns-in_err-read_piece-clause-few
returns-in_err-read_piece-clause-few g c =
    let so_far = c.loop-piece.invariant.few in
    let one = c.read_piece.ensures.few in
    let split = full_at c.args.pieces.now c.loop-piece.piece-index _
    (slice_get-get_or c.args.pieces.now c.loop-piece.piece-index (Index 0 0 0) c.loop-piece-test.true) in
    omega arith

pub returns-clause-few : goal.returns-clause-few
returns-clause-few g c = (let so_far = c.loop-piece.invariant.few in omega arith)

pub returns-clause-parses : goal.returns-clause-parses
returns-clause-parses g c = parsed_all (view c.loop-piece.pass) (definition_of c.args.query.now.def) c.args.query.now.value
    (first_in c.args.log.now.key c.args.query.now.reach) c.args.query.now.reach c.args.pieces.now c.loop-piece.piece-index
    c.args.rows.now c.loop-piece.rows c.args.parses.now
    c.loop-piece.parses (let all = c.loop-piece-test.false in omega arith) c.loop-piece.invariant.read

pub returns-clause-loads : goal.returns-clause-loads
returns-clause-loads g c = subst (λ (z : List Piece). ArePiecesWork (view c.args.pass.now) (view c.loop-piece.pass)
    c.args.query.now.value c.args.query.now.reach.opens c.loop-piece.rows z c.args.loads.now c.loop-piece.loads)
    (take_all c.args.pieces.now c.loop-piece.piece-index (let all = c.loop-piece-test.false in omega arith))
    c.loop-piece.invariant.work
