-- The places after were looked at.
use Rattle.std.proofs.Common.{◌≡◌, ◌-◌, slice_get, refl, sym, ap, ◌∙◌, arith, length}
use Rattle.std.proofs.Math.Decide.{ℕ_discrete}
use Rattle.std.proofs.lemmas.Option.{same_Some, slice_get_read}
use Rattle.fish_catalog.specs.declared.listed.Listed.{Listed}
use Rattle.fish_scan.proofs.naming.newest.Goals as goal

pub returns-then-is_named : goal.returns-then-is_named
returns-then-is_named c =
    let within = c.loop-position.invariant.within in
    let some = c.loop-position-test.true in
    record {
      listed = c.index-rows-position.result;
      there = slice_get_read c.args.rows.now (length c.args.rows.now) _ _ refl (omega arith) c.index-rows-position.is;
      named = c.is_named.ensures.0 c.if-is_named.true;
      last = λ i l behind at. c.loop-position.invariant.none i l (omega arith) at;
    }

pub loop-position-preserved : goal.loop-position-preserved
loop-position-preserved c =
    let within = c.loop-position.invariant.within in
    let some = c.loop-position-test.true in
    let here = slice_get_read c.args.rows.now (length c.args.rows.now) _ _ refl (omega arith) c.index-rows-position.is in
    record {
      within = omega arith;
      none = λ i l behind at named. elim (ℕ_discrete i (c.loop-position.position - 1)) [
        | yes same ↦
            let listed : l ≡ c.index-rows-position.result =
            same_Some l _ (sym at ∙ ap (slice_get c.args.rows.now) same ∙ here) in
            let is = c.is_named.ensures.1 (sym (ap (λ (z : Listed). z.name) listed) ∙ named) in
            cc (is, c.if-is_named.false)
        | no other ↦ c.loop-position.invariant.none i l (omega arith) at named
      ];
    }
