-- A piece that is read by an index parses nothing.
use Rattle.fish_lang.specs.Definition.{definition_of}
use Rattle.fish_rule.specs.Passes.{view}
use Rattle.fish_scan.proofs.Parsing.{parsed_indexed}
use Rattle.fish_scan.proofs.pieces.read_piece.Goals as goal

pub returns-in-Index-clause-parses : goal.returns-in-Index-clause-parses
returns-in-Index-clause-parses g c = parsed_indexed (view c.read_indexed.new.pass) (view c.args.pass.now)
    (definition_of c.args.query.now.def) c.args.query.now.reach c.args.piece.now _ _ _ c.args.parses.now c.read_indexed.result
    c.in-Index.is c.requires.readable
