-- The key entry at the place is passed, and its record's row taken where it has the value.
use Rattle.std.proofs.Common.{◌≡◌, ◌≢◌, ℕ, Option, Some, None, Ok, Err, sym, ap, ◌∙◌, subst, arith}
use Rattle.std.proofs.Math.Decide.{ℕ_discrete}
use Rattle.std.specs.Prelude.{IfSome, Result}
use Rattle.fish_cold.specs.Answers.{IsLinkable, Walks}
use Rattle.fish_cold.specs.within.Caching.{IsColdUndamaged}
use Rattle.fish_cold.specs.declared.node.ColdNode.{ColdNode}
use Rattle.fish_cold.specs.declared.refusal.ColdRefusal.{ColdRefusal}
use Rattle.fish_cold.specs.Chains.{IsKeyAt}
use Rattle.fish_lang.specs.Definition.{definition_of}
use Rattle.fish_layout.specs.Hash.{bucket_in, key_hash_of}
use Rattle.fish_scan.proofs.Carrying.{ahead, back, stays_both, stays_none, stays_reads}
use Rattle.fish_scan.proofs.OlderDown.{IsDown, down_end, down_next, down_start}
use Rattle.fish_scan.proofs.OlderReads.{damage_of, err_as, walk_undamaged}
use Rattle.fish_scan.proofs.PriorChains.{on_end, on_here}
use Rattle.fish_scan.proofs.PriorRecords.{prior_number}
use Rattle.fish_scan.proofs.chained.walk_down.Goals as goal

-- none was answered at place 0
no_error : (e : ColdRefusal) → ◌≡◌ {A = Result (Option ColdNode) ColdRefusal} (Err e) (Ok None) → ⊥
no_error e is = cc

no_node : (o : Option ColdNode) (node : ColdNode) → o ≡ Some node → ◌≡◌ {A = Result (Option ColdNode) ColdRefusal} (Ok o) (Ok None) → ⊥
no_node o node one is = cc

pub down-init : goal.down-init
down-init g c = record {
  stays = stays_none g.D.Disk c.args.cold.now c.args.disk.now;
  lower = c.requires.lower;
  under = omega arith;
  least = (let some = c.requires.some in let older = c.requires.older in omega arith);
  down = λ k h b head.
      let base : c.args.base ≡ k.number = c.requires.base ∙ h.base_number in
      subst (λ (z : ℕ). IsDown h.prior b c.args.id (definition_of c.args.query.now.def) c.args.query.now.value c.args.stretch.now.from
      c.args.stretch.now.to c.args.head z c.args.stretch.now.to c.args.rows.now c.args.rows.now c.args.loads.now c.args.loads.now)
      (sym base)
      (down_start h.prior b c.args.id (definition_of c.args.query.now.def) c.args.query.now.value c.args.stretch.now.from
      c.args.stretch.now.to c.args.head c.args.rows.now c.args.loads.now head);
}

pub returns-in-Ok-None-clause-walked : goal.returns-in-Ok-None-clause-walked
returns-in-Ok-None-clause-walked g c k h b head bucket covered =
    let inv = c.down.invariant in
    let walk = stays_reads g.D.Disk c.down.cold
    c.cold_walk.new.self c.down.disk c.cold_walk.new.disk c.cold_walk.result c.cold_walk.ensures.reads in
    let before = back g.D.Disk c.down.cold
    c.cold_walk.new.self c.down.disk c.cold_walk.new.disk walk h in
    let now = ahead g.D.Disk c.args.cold.now c.down.cold
    c.cold_walk.new.self c.args.disk.now c.down.disk c.cold_walk.new.disk inv.stays walk h in
    let down = inv.down k before b head in
    let older = c.requires.older in
    let base : c.args.base ≡ k.number = c.requires.base ∙ h.base_number in
    let ends = down_end h.prior b c.args.id (definition_of c.args.query.now.def) c.args.query.now.value c.args.stretch.now.from
    c.args.stretch.now.to c.down.place c.down.below c.down.to c.args.rows.now c.down.rows c.args.loads.now c.down.loads
    c.cold_walk.new.loads (omega arith) (c.in-Ok-None.ensures.none c.in-Ok-None.field-0-is) c.requires.some down
    (bucket ∙ ap (bucket_in (key_hash_of c.args.id c.args.query.now.value)) h.buckets, covered)
    (λ q n p j key at m after. elim (ℕ_discrete c.down.place 0) [
      | yes zero ↦ on_end h.prior b c.down.place c.down.below down.on zero q n p j key at m
      | no some ↦ (
          let here = on_here h.prior b c.down.place c.down.below down.on some in
          let older_one = subst (λ (o : Option ColdNode). Walks c.down.place c.args.stretch.now.from here.parts here.place_in here.key
          (Ok o)) c.in-Ok-None.field-0-is
          (c.in-Ok-None.ensures.carried k now b here.number here.parts here.place_in here.key here.at here.less) in
          let oldest = here.oldest q n p j key at m in
          let same = prior_number h.prior here.number here.parts here.at.stored in
          omega arith)
    ]) in
    record { rows = (ends.0, ends.1, ends.2); most = ends.3.0; allowed = ends.3.1; few = ends.3.2 }

pub returns-in-Err-clause-damage : goal.returns-in-Err-clause-damage
returns-in-Err-clause-damage g c = damage_of c.args.stretch.now.from c.args.base c.down.below c.in-Err.refusal
    c.down.invariant.least c.down.invariant.under c.in-Err.ensures.damage

pub returns-in-Err-clause-whole : goal.returns-in-Err-clause-whole
returns-in-Err-clause-whole g c k h b head =
    let inv = c.down.invariant in
    let walk = stays_reads g.D.Disk c.down.cold
    c.cold_walk.new.self c.down.disk c.cold_walk.new.disk c.cold_walk.result c.cold_walk.ensures.reads in
    let before = back g.D.Disk c.down.cold
    c.cold_walk.new.self c.down.disk c.cold_walk.new.disk walk h in
    let now = ahead g.D.Disk c.args.cold.now c.down.cold
    c.cold_walk.new.self c.args.disk.now c.down.disk c.cold_walk.new.disk inv.stays walk h in
    let down = inv.down k before b head in
    elim (ℕ_discrete c.down.place 0) [
      | yes zero ↦ absurd (no_error c.in-Err.refusal (c.in-Err.ensures.nowhere zero).0)
      | no some ↦ (
          let here = on_here h.prior b c.down.place c.down.below down.on some in
          walk_undamaged c.down.place c.args.stretch.now.from here.parts here.place_in here.key c.in-Err.refusal
          (c.in-Err.ensures.carried k now b here.number here.parts here.place_in here.key here.at here.less))
    ]

pub returns-in_err-to-clause-whole : goal.returns-in_err-to-clause-whole
returns-in_err-to-clause-whole g c k h b head =
    let inv = c.down.invariant in
    let walk = stays_reads g.D.Disk c.down.cold
    c.cold_walk.new.self c.down.disk c.cold_walk.new.disk c.cold_walk.result c.cold_walk.ensures.reads in
    let last = back g.D.Disk c.cold_walk.new.self
    c.visit-last.new.cold c.cold_walk.new.disk c.visit-last.new.disk c.visit-last.ensures.cold h in
    let before = back g.D.Disk c.down.cold
    c.cold_walk.new.self c.down.disk c.cold_walk.new.disk walk last in
    let now = ahead g.D.Disk c.args.cold.now c.down.cold
    c.cold_walk.new.self c.args.disk.now c.down.disk c.cold_walk.new.disk inv.stays walk last in
    let both = stays_both g.D.Disk c.args.cold.now c.down.cold
    c.cold_walk.new.self c.args.disk.now c.down.disk c.cold_walk.new.disk inv.stays walk in
    let after = ahead g.D.Disk c.args.cold.now
    c.cold_walk.new.self c.visit-last.new.cold c.args.disk.now c.cold_walk.new.disk c.visit-last.new.disk
    both c.visit-last.ensures.cold h in
    let down = inv.down k before b head in
    let node = c.in-Ok-Some.node in
    let here = on_here h.prior b c.down.place c.down.below down.on
    (λ zero. no_node c.in-Ok-Some.field-0 node c.in-Ok-Some.field-0-is (c.in-Ok-Some.ensures.nowhere zero).0) in
    let walks = subst (λ (o : Option ColdNode). Walks c.down.place c.args.stretch.now.from here.parts here.place_in here.key (Ok o))
    c.in-Ok-Some.field-0-is (c.in-Ok-Some.ensures.carried k now b here.number here.parts here.place_in here.key here.at here.less) in
    let is = walks.1 in
    err_as c.from_residual.result IsColdUndamaged _ c.from_residual.ensures.1
    (c.in_err-to.ensures.whole k after b here.number here.parts here.key
    (subst (λ (z : ℕ × ℕ). IsKeyAt h.prior b z.0 here.number here.parts z.1 here.key) (λ i. (sym is.place_is i, sym is.key i)) here.at))

pub down-preserved : goal.down-preserved
down-preserved g c =
    let inv = c.down.invariant in
    let walk = stays_reads g.D.Disk c.down.cold
    c.cold_walk.new.self c.down.disk c.cold_walk.new.disk c.cold_walk.result c.cold_walk.ensures.reads in
    let both = stays_both g.D.Disk c.args.cold.now c.down.cold
    c.cold_walk.new.self c.args.disk.now c.down.disk c.cold_walk.new.disk inv.stays walk in
    let node = c.in-Ok-Some.node in
    let link = subst (λ (o : Option ColdNode). IfSome o (IsLinkable c.down.place c.down.below c.args.stretch.now.from))
    c.in-Ok-Some.field-0-is c.in-Ok-Some.ensures.linkable in
    let some : c.down.place ≢ 0 = λ zero. no_node c.in-Ok-Some.field-0 node c.in-Ok-Some.field-0-is (c.in-Ok-Some.ensures.nowhere zero).0 in
    let less = link.below_is in
    let least = link.from_is in
    let lower = link.lower in
    let under = inv.under in
    let place = inv.lower some in
    record {
      stays = stays_both g.D.Disk c.args.cold.now
          c.cold_walk.new.self c.visit-last.new.cold c.args.disk.now c.cold_walk.new.disk c.visit-last.new.disk
          both c.visit-last.ensures.cold;
      lower = λ more. omega arith;
      under = omega arith;
      least = omega arith;
      down = λ k h b head.
          let last = back g.D.Disk c.cold_walk.new.self
          c.visit-last.new.cold c.cold_walk.new.disk c.visit-last.new.disk c.visit-last.ensures.cold h in
          let before = back g.D.Disk c.down.cold
          c.cold_walk.new.self c.down.disk c.cold_walk.new.disk walk last in
          let now = ahead g.D.Disk c.args.cold.now c.down.cold
          c.cold_walk.new.self c.args.disk.now c.down.disk c.cold_walk.new.disk inv.stays walk last in
          let after = ahead g.D.Disk c.args.cold.now
          c.cold_walk.new.self c.visit-last.new.cold c.args.disk.now c.cold_walk.new.disk c.visit-last.new.disk
          both c.visit-last.ensures.cold h in
          let down = inv.down k before b head in
          let here = on_here h.prior b c.down.place c.down.below down.on some in
          let walks = subst (λ (o : Option ColdNode). Walks c.down.place c.args.stretch.now.from here.parts here.place_in here.key (Ok o))
          c.in-Ok-Some.field-0-is (c.in-Ok-Some.ensures.carried k now b here.number here.parts here.place_in here.key here.at here.less) in
          let is = walks.1 in
          down_next h.prior b c.args.id (definition_of c.args.query.now.def) c.args.query.now.value c.args.stretch.now.from
          c.args.stretch.now.to c.down.place c.down.below c.down.to c.args.rows.now c.down.rows c.args.loads.now c.down.loads down here
          node walks.0 is c.cold_walk.new.loads c.cold_walk.ensures.loads c.visit-last.new.rows c.visit-last.new.loads c.in_ok-to.to _
          (λ payload told. told k after b here.number here.parts here.key
          (subst (λ (z : ℕ × ℕ). IsKeyAt h.prior b z.0 here.number here.parts z.1 here.key) (λ i. (sym is.place_is i, sym is.key i))
          here.at)) c.in_ok-to.ensures.visit;
    }
