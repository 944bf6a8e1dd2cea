-- The entry that stands at the number matches, or doesn't.
use Rattle.std.proofs.Common.{ℕ, List, Option, subst}
use Rattle.fish_lang.specs.Definition.{definition_of}
use Rattle.fish_rule.specs.Passes.{view}
use Rattle.fish_scan.proofs.Working.{full_read}
use Rattle.fish_scan.proofs.Parsing.{parsed_read}
use Rattle.fish_scan.proofs.Telling.{told_found, told_parsable, told_unfound}
use Rattle.fish_scan.specs.within.Reading.{IsMatching}
use Rattle.fish_scan.proofs.reading.read_number.Goals as goal

pub matching-requires : goal.matching-requires
matching-requires g c = told_parsable (view c.read_entry.new.pass) c.args.number c.in_ok-entry.entry
    c.read_entry.ensures.pass.stands c.in_ok-entry.ensures.entry

pub returns-in_ok-push-clause-row : goal.returns-in_ok-push-clause-row
returns-in_ok-push-clause-row g c =
    told_found (view c.read_entry.new.pass) (definition_of c.args.query.now.def) c.args.query.now.value c.args.number
    c.in_ok-entry.entry c.in-Some.payload c.args.query.now.reach.opens c.args.rows.now c.push.new.self c.in_ok-entry.ensures.entry
    (subst (λ (z : Option (List ℕ)). IsMatching (definition_of c.args.query.now.def) c.args.query.now.value
    c.in_ok-entry.entry z) c.in-Some.is c.in_ok-payload.ensures.matching) c.requires.finished c.in_ok-push.ensures.ok

pub returns-in_default-clause-row : goal.returns-in_default-clause-row
returns-in_default-clause-row g c =
    told_unfound (view c.read_entry.new.pass) (definition_of c.args.query.now.def) c.args.query.now.value c.args.number
    c.in_ok-entry.entry c.args.query.now.reach.opens c.args.rows.now c.in_ok-entry.ensures.entry
    (subst (λ (z : Option (List ℕ)). IsMatching (definition_of c.args.query.now.def) c.args.query.now.value
    c.in_ok-entry.entry z) c.in_default.is c.in_ok-payload.ensures.matching)

pub returns-in_ok-push-clause-loads : goal.returns-in_ok-push-clause-loads
returns-in_ok-push-clause-loads g c = full_read (view c.args.pass.now) (view c.read_entry.new.pass) c.args.query.now.reach.opens
    c.args.number c.args.loads.now c.read_entry.new.loads c.requires.stored c.read_entry.ensures.extends.learns
    c.requires.finished c.in_ok-entry.ensures.counted

pub returns-in_default-clause-loads : goal.returns-in_default-clause-loads
returns-in_default-clause-loads g c = full_read (view c.args.pass.now) (view c.read_entry.new.pass) c.args.query.now.reach.opens
    c.args.number c.args.loads.now c.read_entry.new.loads c.requires.stored c.read_entry.ensures.extends.learns
    c.requires.finished c.in_ok-entry.ensures.counted

-- the entry is a record, which was parsed once
pub returns-in_ok-push-clause-parses : goal.returns-in_ok-push-clause-parses
returns-in_ok-push-clause-parses g c = parsed_read (view c.args.pass.now) (view c.read_entry.new.pass) c.args.number
    c.in_ok-entry.entry c.args.query.now.reach.opens c.args.parses.now c.matching.new.parses c.requires.stored
    c.read_entry.ensures.extends.learns c.read_entry.ensures.pass.stands c.in_ok-entry.ensures.entry c.requires.finished
    c.matching.ensures.parses

pub returns-in_default-clause-parses : goal.returns-in_default-clause-parses
returns-in_default-clause-parses g c = parsed_read (view c.args.pass.now) (view c.read_entry.new.pass) c.args.number
    c.in_ok-entry.entry c.args.query.now.reach.opens c.args.parses.now c.matching.new.parses c.requires.stored
    c.read_entry.ensures.extends.learns c.read_entry.ensures.pass.stands c.in_ok-entry.ensures.entry c.requires.finished
    c.matching.ensures.parses
