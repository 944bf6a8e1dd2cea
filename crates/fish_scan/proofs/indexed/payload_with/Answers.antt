-- An entry that has the value is of a record that was found, which is read.
use Rattle.std.proofs.Common.{subst, arith}
use Rattle.fish_chain.proofs.Comparing.{given_later, given_look}
use Rattle.fish_rule.proofs.laws.Learning.{extends_both, learns_both}
use Rattle.fish_rule.proofs.laws.ChainFacts.{always_later}
use Rattle.fish_rule.specs.Logs.{KnowsAs}
use Rattle.fish_rule.specs.Passes.{view}
use Rattle.fish_scan.proofs.Loading.{compared, compared_read}
use Rattle.fish_scan.proofs.Telling.{given_stored, stored_told}
use Rattle.fish_scan.proofs.indexed.payload_with.Goals as goal

pub returns-then-not-node_has-clause-payload : goal.returns-then-not-node_has-clause-payload
returns-then-not-node_has-clause-payload g c =
    c.node_has.ensures.lacks (λ has. cc (has, c.if-not-node_has.true))

pub returns-then-not-node_has-clause-loads : goal.returns-then-not-node_has-clause-loads
returns-then-not-node_has-clause-loads g c =
    compared (view c.args.pass.now) (view c.node_has.new.pass) _ _ c.node_has.ensures.counted c.node_has.ensures.few

pub read_entry-requires-clause-look : goal.read_entry-requires-clause-look
read_entry-requires-clause-look g c =
    let learns = c.node_has.ensures.extends.learns in
    let more = learns.count in
    let counted = c.requires.counted in
    given_look (view c.node_has.new.pass) c.args.node.now c.node_has.ensures.pass.stands
    (given_later (view c.args.pass.now) (view c.node_has.new.pass) c.args.node.now learns c.requires.given) (omega arith)

pub read_entry-requires-clause-stored : goal.read_entry-requires-clause-stored
read_entry-requires-clause-stored g c = (c.node_has.ensures.has c.if-not-node_has.false).0

pub returns-in_err-payload-clause-extends : goal.returns-in_err-payload-clause-extends
returns-in_err-payload-clause-extends g c = extends_both _ _ _ c.node_has.ensures.extends c.read_entry.ensures.extends

pub unreachable-requires : goal.unreachable-requires
unreachable-requires g c =
    let v = view c.args.pass.now in
    let u = view c.read_entry.new.pass in
    let all = learns_both _ _ _ c.node_has.ensures.extends.learns c.read_entry.ensures.extends.learns in
    absurd (stored_told u c.args.node.now.number c.read_entry.ensures.pass.stands
    (subst (KnowsAs u c.args.node.now.number) c.in-Void.is c.in_ok-payload.ensures.entry)
    (given_stored u c.args.node.now (given_later v u c.args.node.now all c.requires.given)))

pub returns-clause-extends : goal.returns-clause-extends
returns-clause-extends g c = extends_both _ _ _ c.node_has.ensures.extends c.read_entry.ensures.extends

pub returns-clause-payload : goal.returns-clause-payload
returns-clause-payload g c = (
  always_later (view c.node_has.new.pass) (view c.read_entry.new.pass) _ c.read_entry.ensures.extends.learns
      (c.node_has.ensures.has c.if-not-node_has.false).1,
  (
    c.in-Stored.lane,
    c.in-Stored.form,
    subst (KnowsAs (view c.read_entry.new.pass) c.args.node.now.number) c.in-Stored.is c.in_ok-payload.ensures.entry,
  ),
)

pub returns-clause-loads : goal.returns-clause-loads
returns-clause-loads g c =
    let m = view c.node_has.new.pass in
    compared_read (view c.args.pass.now) m (view c.read_entry.new.pass) c.args.node.now.number _ _ _
    c.node_has.ensures.counted c.node_has.ensures.few (c.node_has.ensures.has c.if-not-node_has.false).0
    c.read_entry.ensures.extends.learns c.in_ok-payload.ensures.counted
