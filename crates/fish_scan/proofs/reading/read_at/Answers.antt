-- What stands at the number is a record, or it gives no row.
use Rattle.std.proofs.Common.{◌≡◌, ◌+◌, sym, ◌∙◌, ◌⊎◌, inl, inr, arith}
use Rattle.fish_lang.specs.Definition.{definition_of}
use Rattle.fish_rule.proofs.laws.Learning.{extends_both}
use Rattle.fish_rule.specs.Passes.{view}
use Rattle.fish_scan.proofs.Parsing.{parsed_other}
use Rattle.fish_scan.proofs.Telling.{seen_unfound}
use Rattle.fish_scan.proofs.Working.{full_looked, full_other}
use Rattle.fish_walk.specs.declared.outcome.Look.{Look}
use Rattle.fish_walk.specs.declared.outcome.Look.TheVariants as look
use Rattle.fish_scan.proofs.reading.read_at.Goals as goal

pub returns-in-Stored-clause-extends : goal.returns-in-Stored-clause-extends
returns-in-Stored-clause-extends g c = extends_both _ _ _ c.seen_at.ensures.only.extends c.read_number.ensures.extends

pub returns-in-Stored-clause-loads : goal.returns-in-Stored-clause-loads
returns-in-Stored-clause-loads g c = full_looked (view c.args.pass.now) (view c.seen_at.new.pass)
    (view c.read_number.new.pass) c.args.query.now.reach.opens c.args.number (c.args.number + 1) c.args.loads.now
    c.read_number.new.loads c.read_number.result c.seen_at.ensures.only.loads c.read_number.ensures.loads

-- a look that tells of something else tells of no record
other : (r : Look) → r ≡ look.Stored → (r ≡ look.Void) ⊎ ((r ≡ look.Unfinished) ⊎ (r ≡ look.Overflow)) → ⊥
other r is (inl e) = (let bad : look.Stored ≡ look.Void = sym is ∙ e in cc)
other r is (inr (inl e)) = (let bad : look.Stored ≡ look.Unfinished = sym is ∙ e in cc)
other r is (inr (inr e)) = (let bad : look.Stored ≡ look.Overflow = sym is ∙ e in cc)

pub returns-in-Void : goal.returns-in-Void
returns-in-Void g c = record {
  pass = c.seen_at.ensures.pass;
  extends = c.seen_at.ensures.only.extends;
  row = seen_unfound (view c.seen_at.new.pass) (definition_of c.args.query.now.def) c.args.query.now.value c.args.number
      c.seen_at.result c.args.query.now.reach.opens c.args.rows.now c.seen_at.ensures.seen
      (λ stored. other c.seen_at.result stored c.in-Void.is) c.seen_at.ensures.unmarked
      c.seen_at.ensures.unfinished;
  parses = parsed_other (view c.seen_at.new.pass) c.args.number c.seen_at.result c.args.query.now.reach.opens c.args.parses.now
      c.seen_at.ensures.seen (λ stored. other c.seen_at.result stored c.in-Void.is) c.seen_at.ensures.unmarked
      c.seen_at.ensures.unfinished;
  few = omega arith;
  loads = full_other (view c.args.pass.now) (view c.seen_at.new.pass) c.args.query.now.reach.opens c.args.number
      c.args.loads.now c.seen_at.ensures.only.loads;
}
