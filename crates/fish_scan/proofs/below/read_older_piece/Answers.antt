-- A piece is read by its kind, between its ends.
use Rattle.fish_lang.specs.Definition.{definition_of}
use Rattle.fish_rule.specs.Passes.{view}
use Rattle.fish_scan.proofs.BelowReads.{piece_full, piece_indexed}
use Rattle.fish_scan.proofs.OlderReads.{oks}
use Rattle.fish_scan.proofs.below.read_older_piece.Goals as goal

pub returns-in-Index-clause-read : goal.returns-in-Index-clause-read
returns-in-Index-clause-read g c = oks c.read_chain.result c.read_chain.ensures.walked (λ walked h.
    piece_indexed h.prior (view c.args.pass.now) (view c.read_chain.new.pass) (definition_of c.args.query.now.def)
    c.args.query.now.value c.args.piece.now c.in-Index.from c.in-Index.to c.from.result c.to.result c.args.rows.now
    c.read_chain.new.rows c.args.parses.now c.args.parses.now c.args.loads.now c.read_chain.new.loads c.in-Index.id c.in-Index.is
    c.from.ensures c.to.ensures (walked h))

pub returns-in-Full-clause-read : goal.returns-in-Full-clause-read
returns-in-Full-clause-read g c = oks c.read_older.result c.read_older.ensures.read (λ read h.
    piece_full h.prior (view c.args.pass.now) (view c.args.pass.now) (definition_of c.args.query.now.def)
    c.args.query.now.value c.args.piece.now c.in-Full.from c.in-Full.to c.from.result c.to.result c.args.rows.now
    c.read_older.new.rows c.args.parses.now c.read_older.new.parses c.args.loads.now c.read_older.new.loads c.in-Full.is
    c.from.ensures c.to.ensures (read c.args.log.now.key h))

pub returns-in-Full-clause-whole : goal.returns-in-Full-clause-whole
returns-in-Full-clause-whole g c h = c.read_older.ensures.whole c.args.log.now.key h
