-- The walk gathers at each entry, and at its end has all.
use Rattle.std.proofs.Common.{◌≡◌, ℕ, sym, ap, ◌∙◌, subst, arith}
use Rattle.fish_chain.specs.Walks.{HasRange, IsWalking}
use Rattle.fish_lang.specs.Definition.{definition_of}
use Rattle.fish_layout.specs.Hash.{bucket_in}
use Rattle.fish_rule.proofs.laws.Learning.{extends_both, learns_both}
use Rattle.fish_rule.specs.Passes.{view, walk_of}
use Rattle.fish_rule.specs.declared.table.Walk.{Walk}
use Rattle.fish_rule.specs.declared.view.Key.{Key}
use Rattle.fish_scan.proofs.Descending.{IsDescent, descent_end, descent_next, descent_start}
use Rattle.fish_scan.proofs.Walks.{Gathered, bucket_still, gathered_all, gathered_later, gathered_next, gathered_none}
use Rattle.fish_scan.proofs.Walks.{index_later, next_later, walking_later}
use Rattle.fish_scan.specs.Indices.{bucket_of_value}
use Rattle.fish_scan.proofs.indexed.read_indexed.Goals as goal

pub loop-node-init : goal.loop-node-init
loop-node-init g c =
    let v = view c.args.pass.now in
    let begun = c.walk_start.ensures.begun in
    let bucket : c.bucket_of-bucket.result ≡ bucket_of_value v c.args.id c.args.query.now.value =
    c.bucket_of-bucket.ensures.value ∙ (λ i. bucket_in (c.key_hash.ensures i)
    ((c.buckets.ensures.value ∙ sym (ap (λ (z : Key). z.buckets) c.requires.pass.about)) i)) in
    record {
      of = c.walk_start.ensures.pass;
      extends = c.walk_start.ensures.extends;
      walking = begun.walking;
      range = record { bucket_is = begun.range.bucket_is ∙ bucket; from_is = begun.range.from_is; to_is = begun.range.to_is };
      gathered = subst (λ (z : ℕ). Gathered (view c.walk_start.new.pass) (definition_of c.args.query.now.def)
          c.args.query.now.value c.args.id z c.args.stretch.now.from c.args.stretch.now.to (walk_of c.walk_start.new.pass).given
          c.args.rows.now c.args.rows.now) bucket
          (gathered_none (view c.walk_start.new.pass) (definition_of c.args.query.now.def) c.args.query.now.value c.args.id
          c.bucket_of-bucket.result c.args.stretch.now.from c.args.stretch.now.to (walk_of c.walk_start.new.pass)
          c.args.rows.now begun);
      descent = descent_start v (view c.walk_start.new.pass) _ c.args.stretch.now.from (walk_of c.walk_start.new.pass).place
          c.args.rows.now c.args.loads.now c.walk_start.new.loads c.walk_start.ensures.loads c.walk_start.ensures.counted;
    }

pub loop-node-preserved : goal.loop-node-preserved
loop-node-preserved g c =
    let inv = c.loop-node.invariant in
    let v = view c.loop-node.pass in
    let u = view c.walk_next.new.pass in
    let t = view c.read_node.new.pass in
    let walk = walk_of c.loop-node.pass in
    let gave = c.in-Some.ensures.gave in
    let on = c.walk_next.ensures.extends.learns in
    let last = c.read_node.ensures.extends.learns in
    let all = learns_both _ _ _ inv.extends.learns (learns_both _ _ _ on last) in
    let bucket = bucket_of_value (view c.args.pass.now) c.args.id c.args.query.now.value in
    let range = c.walk_next.ensures.range in
    let same = c.read_node.ensures.walk in
    let gathered = gathered_next t (definition_of c.args.query.now.def) c.args.query.now.value c.args.id bucket
    c.args.stretch.now.from c.args.stretch.now.to walk c.in-Some.node c.args.rows.now c.loop-node.rows c.read_node.new.rows
    inv.range c.read_node.ensures.pass.stands
    (index_later (view c.args.pass.now) t _ _ _ _ all c.requires.index)
    (gathered_later v t _ _ _ _ _ _ walk.given _ _ (learns_both _ _ _ on last) inv.gathered)
    (next_later u t walk c.in-Some.node last gave.0) c.in_ok-read_node.ensures.row c.in_ok-read_node.ensures.other in
    record {
      of = c.read_node.ensures.pass;
      extends = extends_both _ _ _ inv.extends (extends_both _ _ _ c.walk_next.ensures.extends c.read_node.ensures.extends);
      walking = subst (IsWalking t) (sym same) (walking_later u t (walk_of c.walk_next.new.pass) last c.walk_next.ensures.walking);
      range = subst (λ (z : Walk). HasRange z bucket c.args.stretch.now.from c.args.stretch.now.to) (sym same) (record {
        bucket_is = range.bucket_is ∙ inv.range.bucket_is;
        from_is = range.from_is ∙ inv.range.from_is;
        to_is = range.to_is ∙ inv.range.to_is;
      });
      gathered = subst (λ (z : ℕ). Gathered t (definition_of c.args.query.now.def) c.args.query.now.value c.args.id bucket
          c.args.stretch.now.from c.args.stretch.now.to z c.args.rows.now c.read_node.new.rows)
          (sym (ap (λ (z : Walk). z.given) same ∙ gave.1)) gathered;
      descent = subst (λ (z : Walk). IsDescent (view c.args.pass.now) t bucket c.args.stretch.now.from z.place c.args.rows.now
          c.read_node.new.rows c.args.loads.now c.read_node.new.loads) (sym same)
          (descent_next (view c.args.pass.now) v u t walk bucket c.args.stretch.now.from (walk_of c.walk_next.new.pass).place
          c.in-Some.node c.args.rows.now c.loop-node.rows c.read_node.new.rows c.args.loads.now c.loop-node.loads
          c.walk_next.new.loads c.read_node.new.loads on last inv.range.bucket_is inv.range.from_is inv.descent
          c.in-Some.ensures.few c.walk_next.ensures.counted c.in_ok-read_node.ensures.loads);
    }

pub returns-in_err-read_node-clause-extends : goal.returns-in_err-read_node-clause-extends
returns-in_err-read_node-clause-extends g c = extends_both _ _ _ c.loop-node.invariant.extends
    (extends_both _ _ _ c.walk_next.ensures.extends c.read_node.ensures.extends)

pub returns-clause-extends : goal.returns-clause-extends
returns-clause-extends g c = extends_both _ _ _ c.loop-node.invariant.extends c.walk_next.ensures.extends

pub returns-clause-rows : goal.returns-clause-rows
returns-clause-rows g c =
    let inv = c.loop-node.invariant in
    let v = view c.loop-node.pass in
    let u = view c.walk_next.new.pass in
    let on = c.walk_next.ensures.extends.learns in
    let all = learns_both _ _ _ inv.extends.learns on in
    let gave = c.in_default.ensures.gave in
    let to = c.requires.to in
    gathered_all u (definition_of c.args.query.now.def) c.args.query.now.value c.args.id
    (bucket_of_value (view c.args.pass.now) c.args.id c.args.query.now.value) c.args.stretch.now.from c.args.stretch.now.to
    (walk_of c.loop-node.pass) c.args.query.now.reach.opens c.args.rows.now c.loop-node.rows inv.range
    (index_later (view c.args.pass.now) u _ _ _ _ all c.requires.index)
    (bucket_still (view c.args.pass.now) u c.args.id c.args.query.now.value all)
    (λ n after before among. let t = c.requires.reached.seen.open_ones n among in let place = t.1 in absurd (omega arith))
    (gathered_later v u _ _ _ _ _ _ _ _ _ on inv.gathered) gave.0

-- the walk is past the table
pub returns-clause-loads : goal.returns-clause-loads
returns-clause-loads g c =
    let inv = c.loop-node.invariant in
    let v = view c.args.pass.now in
    let u = view c.walk_next.new.pass in
    let on = c.walk_next.ensures.extends.learns in
    let still = bucket_still v u c.args.id c.args.query.now.value (learns_both _ _ _ inv.extends.learns on) in
    descent_end v (view c.loop-node.pass) u (walk_of c.loop-node.pass) (definition_of c.args.query.now.def)
    c.args.query.now.value c.args.id c.args.stretch.now.from c.args.stretch.now.to (walk_of c.walk_next.new.pass).place
    c.args.query.now.reach.opens c.args.rows.now c.loop-node.rows c.args.loads.now c.loop-node.loads c.walk_next.new.loads on
    c.requires.some (inv.range.bucket_is ∙ still) inv.range.from_is
    (subst (λ (z : ℕ). IsDescent v (view c.loop-node.pass) z c.args.stretch.now.from (walk_of c.loop-node.pass).place
    c.args.rows.now c.loop-node.rows c.args.loads.now c.loop-node.loads) still inv.descent)
    c.in_default.ensures.few c.walk_next.ensures.counted (returns-clause-rows g c)
