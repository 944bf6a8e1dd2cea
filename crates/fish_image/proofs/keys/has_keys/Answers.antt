-- The definitions so far, and all.
use Rattle.std.proofs.Common.{ℕ, arith, refl}
use Rattle.std.proofs.lemmas.Option.{slice_get_read, slice_get_within}
use Rattle.fish_image.specs.Log.{values_under}
use Rattle.fish_image.specs.within.Terms.{HasIndexValues}
use Rattle.fish_image.specs.declared.terms.IndexRow.{IndexRow}
use Rattle.fish_image.proofs.RowValues.{one_more}
use Rattle.fish_image.proofs.keys.has_keys.Goals as goal

pub loop-id-preserved : goal.loop-id-preserved
loop-id-preserved g c =
    one_more (λ (id : ℕ) (x : IndexRow). HasIndexValues x c.args.number (g.R.Parsed.fields c.args.rec.now)
    (values_under id c.args.keys.now)) c.args.rows.now c.loop-id.id c.index-rows-id.result
    (slice_get_read c.args.rows.now _ c.loop-id.id c.index-rows-id.result refl c.loop-id-test.true c.index-rows-id.is)
    c.loop-id.invariant (c.in_ok-has_values.ensures.0 c.if-not-branch.false)

pub returns : goal.returns
returns g c = (
  λ _. record {
    known = c.if-not-are_known.ensures.0 refl;
    values = λ id x at. c.loop-id.invariant id
        (let within = slice_get_within c.args.rows.now id x at in let over = c.loop-id-test.false in omega arith) x at;
  },
  λ _. refl,
)
