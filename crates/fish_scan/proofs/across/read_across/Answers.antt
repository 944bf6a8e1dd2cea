-- What is in the table was read, and then what is below.
use Rattle.std.proofs.Common.{◌≡◌, ℕ, List, sym, ap, ◌∙◌, subst}
use Rattle.fish_lang.specs.Definition.{definition_of}
use Rattle.fish_plan.specs.Pieces.{Fill}
use Rattle.fish_plan.specs.declared.pieces.Piece.{Piece}
use Rattle.fish_rule.proofs.laws.Learning.{extends_both}
use Rattle.fish_rule.specs.Passes.{view}
use Rattle.fish_scan.proofs.Acrossing.{parsed_later}
use Rattle.fish_scan.proofs.CutPieces.{fill_above, fill_below}
use Rattle.fish_scan.proofs.CutReadable.{readable_above, readable_below}
use Rattle.fish_scan.proofs.Filling.{all_readable_later}
use Rattle.fish_scan.proofs.OlderReads.{oks}
use Rattle.fish_scan.proofs.Telling.{adds_later}
use Rattle.fish_scan.specs.within.Below.{HasReadBelow}
use Rattle.fish_scan.specs.Cutting.{pieces_above, pieces_below}
use Rattle.fish_scan.specs.within.Cutting.{AreOlderReadable, last_below}
use Rattle.fish_scan.specs.Parses.{HasParsed}
use Rattle.fish_scan.specs.within.Pieces.{AreReadable}
use Rattle.fish_scan.specs.within.Reach.{first_in}
use Rattle.fish_scan.specs.within.Work.{ArePiecesWork}
use Rattle.fish_scan.proofs.across.read_across.Goals as goal

-- the pieces that were cut are these
cut_is : (part : ℕ → List Piece) (a b : List Piece) (base number : ℕ) → a ≡ b → b ≡ part base → base ≡ number → a ≡ part number
cut_is part a b base number one two three = one ∙ two ∙ ap part three

pub read_pieces-requires-clause-fill : goal.read_pieces-requires-clause-fill
read_pieces-requires-clause-fill g c =
    let k = c.args.log.now.key in
    let reach = c.args.query.now.reach in
    subst (λ (z : List Piece). Fill z (first_in k reach) reach.to)
    (sym (cut_is (λ z. pieces_above z c.args.pieces.now) _ _ c.base.result.number k.number c.as_slice.ensures.value
    c.in_ok-cut.ensures.above c.base.ensures.0))
    (fill_above c.args.pieces.now reach.from reach.to k.number c.requires.fill)

pub read_pieces-requires-clause-readable : goal.read_pieces-requires-clause-readable
read_pieces-requires-clause-readable g c =
    let v = view c.args.pass.now in
    let k = c.args.log.now.key in
    let query = c.args.query.now in
    subst (AreReadable v (definition_of query.def) query.reach)
    (sym (cut_is (λ z. pieces_above z c.args.pieces.now) _ _ c.base.result.number k.number c.as_slice.ensures.value
    c.in_ok-cut.ensures.above c.base.ensures.0))
    (readable_above v (definition_of query.def) query.reach k.number c.args.pieces.now c.requires.readable)

pub read_below-requires-clause-fill : goal.read_below-requires-clause-fill
read_below-requires-clause-fill g c =
    let k = c.args.log.now.key in
    let reach = c.args.query.now.reach in
    subst (λ (z : List Piece). Fill z reach.from (last_below k reach))
    (sym (cut_is (λ z. pieces_below z c.args.pieces.now) _ _ c.base.result.number k.number c.as_slice-2.ensures.value
    c.in_ok-cut.ensures.below c.base.ensures.0))
    (fill_below c.args.pieces.now reach.from reach.to k.number c.requires.fill)

pub read_below-requires-clause-readable : goal.read_below-requires-clause-readable
read_below-requires-clause-readable g c =
    let v = view c.args.pass.now in
    let between = view c.read_pieces.new.pass in
    let k = c.args.log.now.key in
    let query = c.args.query.now in
    subst (AreOlderReadable between (definition_of query.def) k.number)
    (sym (cut_is (λ z. pieces_below z c.args.pieces.now) _ _ c.base.result.number k.number c.as_slice-2.ensures.value
    c.in_ok-cut.ensures.below c.base.ensures.0))
    (readable_below between (definition_of query.def) query.reach k.number c.args.pieces.now
    (all_readable_later v between (definition_of query.def) query.reach c.args.pieces.now c.read_pieces.ensures.extends.learns
    c.requires.readable))

pub returns-clause-extends : goal.returns-clause-extends
returns-clause-extends g c = extends_both _ _ _ c.read_pieces.ensures.extends c.read_below.ensures.extends

pub returns-clause-read : goal.returns-clause-read
returns-clause-read g c = oks c.read_below.result c.read_below.ensures.read (λ read h.
    let v = view c.args.pass.now in
    let between = view c.read_pieces.new.pass in
    let u = view c.read_below.new.pass in
    let k = c.args.log.now.key in
    let query = c.args.query.now in
    let reach = query.reach in
    let learns = c.read_below.ensures.extends.learns in
    let above = cut_is (λ z. pieces_above z c.args.pieces.now) _ _ c.base.result.number k.number c.as_slice.ensures.value
    c.in_ok-cut.ensures.above c.base.ensures.0 in
    let below = cut_is (λ z. pieces_below z c.args.pieces.now) _ _ c.base.result.number k.number c.as_slice-2.ensures.value
    c.in_ok-cut.ensures.below c.base.ensures.0 in
    record {
      between = between;
      learns = learns;
      rows = c.read_pieces.new.rows;
      parses_between = c.read_pieces.new.parses;
      loads_between = c.read_pieces.new.loads;
      above = adds_later between u _ _ _ _ _ _ _ learns c.in_ok-read_pieces.ensures.rows;
      parsed_above = parsed_later between u reach.opens (pieces_above k.number c.args.pieces.now) (first_in k reach) reach.to
          c.args.parses.now c.read_pieces.new.parses learns
          (subst (λ (z : List Piece). HasParsed between reach.opens z (first_in k reach) reach.to c.args.parses.now
          c.read_pieces.new.parses) above c.in_ok-read_pieces.ensures.parses);
      work_above = subst (λ (z : List Piece). ArePiecesWork v between query.value reach.opens c.read_pieces.new.rows z
          c.args.loads.now c.read_pieces.new.loads) above c.in_ok-read_pieces.ensures.loads;
      below = subst (λ (z : List Piece). HasReadBelow h.prior between u (definition_of query.def) query.value z reach.from
          (last_below k reach) c.read_pieces.new.rows c.read_below.new.rows c.read_pieces.new.parses c.read_below.new.parses
          c.read_pieces.new.loads c.read_below.new.loads) below (read h);
    })
