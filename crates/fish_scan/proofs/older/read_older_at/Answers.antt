-- The entry there matches, or doesn't.
use Rattle.std.proofs.Common.{ℕ, List, Option, subst, arith}
use Rattle.fish_cold.specs.within.Caching.{IsColdUndamaged}
use Rattle.fish_lang.specs.Definition.{definition_of}
use Rattle.fish_scan.proofs.OlderReads.{answer_undamaged, err_as, one_read, read_parsable}
use Rattle.fish_scan.proofs.OlderRows.{older_found, older_unfound}
use Rattle.fish_scan.specs.within.Reading.{IsMatching}
use Rattle.fish_scan.proofs.older.read_older_at.Goals as goal

pub returns-in_err-entry-clause-whole : goal.returns-in_err-entry-clause-whole
returns-in_err-entry-clause-whole g c k h =
    let read = c.in_err-entry.ensures.carried k h in
    err_as c.from_residual.result IsColdUndamaged _ c.from_residual.ensures.1 (answer_undamaged read.entry _ read.is)

pub returns-in_err-payload-clause-whole : goal.returns-in_err-payload-clause-whole
returns-in_err-payload-clause-whole g c k h =
    let less = c.requires.older in
    let base = h.base_number in
    err_as c.from_residual-in_err-payload.result IsColdUndamaged _ c.from_residual-in_err-payload.ensures.1
    (c.in_err-payload.ensures.whole (read_parsable h c.args.number (omega arith) c.in_ok-entry.entry (c.in_ok-entry.ensures.carried k h)))

pub returns-in_ok-push-clause-read : goal.returns-in_ok-push-clause-read
returns-in_ok-push-clause-read g c k h =
    let less = c.requires.older in
    let base = h.base_number in
    one_read h (definition_of c.args.query.now.def) c.args.query.now.value c.args.number (omega arith) c.in_ok-entry.entry
    (c.in_ok-entry.ensures.carried k h) c.args.rows.now c.push.new.self c.args.parses.now c.older_matching.new.parses
    c.args.loads.now c.cold_record.new.loads
    (λ there. older_found h.end.entries (definition_of c.args.query.now.def) c.args.query.now.value c.args.number c.in_ok-entry.entry
    c.in-Some.payload c.args.rows.now c.push.new.self there
    (subst (λ (z : Option (List ℕ)). IsMatching (definition_of c.args.query.now.def) c.args.query.now.value c.in_ok-entry.entry z)
    c.in-Some.is c.in_ok-payload.ensures.matching) c.in_ok-push.ensures.ok)
    c.older_matching.ensures.parses c.in_ok-entry.ensures.entry

pub returns-in_default-clause-read : goal.returns-in_default-clause-read
returns-in_default-clause-read g c k h =
    let less = c.requires.older in
    let base = h.base_number in
    one_read h (definition_of c.args.query.now.def) c.args.query.now.value c.args.number (omega arith) c.in_ok-entry.entry
    (c.in_ok-entry.ensures.carried k h) c.args.rows.now c.args.rows.now c.args.parses.now c.older_matching.new.parses
    c.args.loads.now c.cold_record.new.loads
    (λ there. older_unfound h.end.entries (definition_of c.args.query.now.def) c.args.query.now.value c.args.number
    c.in_ok-entry.entry c.args.rows.now there
    (subst (λ (z : Option (List ℕ)). IsMatching (definition_of c.args.query.now.def) c.args.query.now.value c.in_ok-entry.entry z)
    c.in_default.is c.in_ok-payload.ensures.matching))
    c.older_matching.ensures.parses c.in_ok-entry.ensures.entry
