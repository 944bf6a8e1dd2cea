-- A region is published at once where it is no record's.
use Rattle.std.proofs.Common.{◌≡◌, ℕ, refl, sym, ap, ◌∙◌, subst, arith, Some}
use Rattle.fish_claim.proofs.Claims.{can_publish_void, can_store_header, claimed_as, claimed_flight, claimed_law}
use Rattle.fish_claim.proofs.Claims.{kind_is, mark_shuts}
use Rattle.fish_layout.specs.Header.{void_word}
use Rattle.fish_rule.specs.Passes.{view}
use Rattle.fish_rule.specs.SpaceSteps.{after_publish_region, after_store_word, flight_at, with_word}
use Rattle.fish_claim.specs.declared.claimed.Claimed.TheVariants as answer
use Rattle.fish_rule.specs.declared.view.Flight.{Flight}
use Rattle.fish_rule.specs.declared.view.Kind.TheVariants.{Mark, Stored, Void}
use Rattle.fish_rule.specs.declared.view.Shut.{Shut}
use Rattle.fish_rule.specs.declared.view.View.{View}
use Rattle.fish_claim.proofs.claimed.claim.Goals as goal

pub kind_in-requires : goal.kind_in-requires
kind_in-requires c =
    let of = c.claim_lines-region.ensures.pass in
    let law = claimed_law
    (view c.args.pass.now) _ c.args.lines _ _ c.claim_lines-region.ensures.view c.args.log.now.key of.about
    of.stands in
    let low_line = law.low_line in
    let same = c.claim_lines-region.ensures.lines in
    let some = c.requires.lines in
    (omega arith, omega arith)

pub overflow_cast-result : goal.overflow_cast-result
overflow_cast-result c =
    let of = c.claim_lines-region.ensures.pass in
    let law = claimed_law
    (view c.args.pass.now) _ c.args.lines _ _ c.claim_lines-region.ensures.view c.args.log.now.key of.about
    of.stands in
    let number = law.number in
    omega arith

pub overflow_cast-result-in-Void : goal.overflow_cast-result-in-Void
overflow_cast-result-in-Void c =
    let of = c.claim_lines-region.ensures.pass in
    let law = claimed_law
    (view c.args.pass.now) _ c.args.lines _ _ c.claim_lines-region.ensures.view c.args.log.now.key of.about
    of.stands in
    let number = law.number in
    omega arith

pub store_word-requires-clause-view : goal.store_word-requires-clause-view
store_word-requires-clause-view c =
    let got = c.claim_lines-region in
    let kind = kind_is c.args.log.now
    (view c.args.pass.now) c.claim_lines-region.new.pass c.args.lines c.claim_lines-region.result Void
    c.claim_lines-region.ensures.pass c.claim_lines-region.ensures.view c.claim_lines-region.ensures.lines
    (sym c.in-Void.is ∙ c.kind_in.ensures) in (
      flight_at got.result.number got.result.line c.args.lines,
      can_store_header (view c.args.pass.now)
          (view got.new.pass) c.args.lines _ _ got.ensures.view c.requires.lines.0 kind,
      refl,
      refl,
    )

pub publish_region-requires-clause-view : goal.publish_region-requires-clause-view
publish_region-requires-clause-view c =
    let got = c.claim_lines-region in
    let f : Flight = flight_at got.result.number got.result.line c.args.lines in
    let kind = kind_is c.args.log.now
    (view c.args.pass.now) c.claim_lines-region.new.pass c.args.lines c.claim_lines-region.result Void
    c.claim_lines-region.ensures.pass c.claim_lines-region.ensures.view c.claim_lines-region.ensures.lines
    (sym c.in-Void.is ∙ c.kind_in.ensures) in
    let stored = subst (λ (z : ℕ). view c.store_word.new.pass ≡ after_store_word
    (view got.new.pass) f z) c.void_header.ensures
    (c.store_word.ensures.view f (claimed_flight (view c.args.pass.now) _ c.args.lines _ _ got.ensures.view)) in (
      with_word f (void_word c.args.lines),
      can_publish_void (view c.args.pass.now) (view got.new.pass) c.args.lines _ _ got.ensures.view
          (view c.store_word.new.pass) c.requires.view kind stored,
      refl,
      refl,
      sym got.ensures.lines,
    )

pub unreachable-requires : goal.unreachable-requires
unreachable-requires c =
    let got = c.claim_lines-region in
    let f : Flight = flight_at got.result.number got.result.line c.args.lines in
    let kind = kind_is c.args.log.now
    (view c.args.pass.now) c.claim_lines-region.new.pass c.args.lines c.claim_lines-region.result Mark
    c.claim_lines-region.ensures.pass c.claim_lines-region.ensures.view c.claim_lines-region.ensures.lines
    (sym c.in-Mark.is ∙ c.kind_in.ensures) in
    let shut = mark_shuts (view c.args.pass.now) (view got.new.pass) c.args.lines _ _ got.ensures.view
    (view c.publish_region-in-Mark.new.pass) kind
    (c.publish_region-in-Mark.ensures.view f
    (claimed_flight (view c.args.pass.now) _ c.args.lines _ _ got.ensures.view)) in
    c.in_default.not-Some _ (c.is_shut.ensures ∙ shut)

pub returns-in-Stored-clause-claimed : goal.returns-in-Stored-clause-claimed
returns-in-Stored-clause-claimed c =
    let got = c.claim_lines-region in
    let kind = kind_is c.args.log.now
    (view c.args.pass.now) c.claim_lines-region.new.pass c.args.lines c.claim_lines-region.result Stored
    c.claim_lines-region.ensures.pass c.claim_lines-region.ensures.view c.claim_lines-region.ensures.lines
    (sym c.in-Stored.is ∙ c.kind_in.ensures) in
    claimed_as c.args.log.now.key (view c.args.pass.now)
    (view got.new.pass) c.args.lines got.result.number got.result.line _ Stored c.requires.pass.about
    got.ensures.counted got.ensures.within kind refl got.ensures.view

pub returns-in-Void-clause-claimed : goal.returns-in-Void-clause-claimed
returns-in-Void-clause-claimed c =
    let got = c.claim_lines-region in
    let f : Flight = flight_at got.result.number got.result.line c.args.lines in
    let x : ℕ = void_word c.args.lines in
    let kind = kind_is c.args.log.now
    (view c.args.pass.now) c.claim_lines-region.new.pass c.args.lines c.claim_lines-region.result Void
    c.claim_lines-region.ensures.pass c.claim_lines-region.ensures.view c.claim_lines-region.ensures.lines
    (sym c.in-Void.is ∙ c.kind_in.ensures) in
    let stored : view c.store_word.new.pass ≡ after_store_word (view got.new.pass) f x =
    subst (λ (z : ℕ). view c.store_word.new.pass ≡ after_store_word (view got.new.pass) f z) c.void_header.ensures
    (c.store_word.ensures.view f (claimed_flight (view c.args.pass.now) _ c.args.lines _ _ got.ensures.view)) in
    let published : view c.publish_region.new.pass ≡ after_publish_region (view c.store_word.new.pass) (with_word f x) =
    c.publish_region.ensures.view (with_word f x) (ap (λ (z : View). z.flight) stored) in
    claimed_as c.args.log.now.key (view c.args.pass.now)
    (view c.publish_region.new.pass) c.args.lines got.result.number got.result.line _ Void c.requires.pass.about
    got.ensures.counted got.ensures.within kind refl
    (published ∙ ap (λ (z : View). after_publish_region z (with_word f x))
    (stored ∙ ap (λ (z : View). after_store_word z f x) got.ensures.view))

pub returns-in-Some-clause-claimed : goal.returns-in-Some-clause-claimed
returns-in-Some-clause-claimed c =
    let got = c.claim_lines-region in
    let f : Flight = flight_at got.result.number got.result.line c.args.lines in
    let kind = kind_is c.args.log.now
    (view c.args.pass.now) c.claim_lines-region.new.pass c.args.lines c.claim_lines-region.result Mark
    c.claim_lines-region.ensures.pass c.claim_lines-region.ensures.view c.claim_lines-region.ensures.lines
    (sym c.in-Mark.is ∙ c.kind_in.ensures) in
    let published : view c.publish_region-in-Mark.new.pass ≡ after_publish_region (view got.new.pass) f =
    c.publish_region-in-Mark.ensures.view f
    (claimed_flight (view c.args.pass.now) _ c.args.lines _ _ got.ensures.view) in
    let shut = mark_shuts (view c.args.pass.now) (view got.new.pass) c.args.lines _ _ got.ensures.view
    (view c.publish_region-in-Mark.new.pass) kind published in
    let told : Some c.in-Some.shut ≡ Some
    (record { line = got.result.line; lines = c.args.lines; end = (view c.args.pass.now).about.end }) =
    sym c.in-Some.is ∙ c.is_shut.ensures ∙ shut in
    let same : c.in-Some.shut ≡ record {
      line = got.result.line;
      lines = c.args.lines;
      end = (view c.args.pass.now).about.end;
    } = cc in
    claimed_as c.args.log.now.key (view c.args.pass.now)
    (view c.publish_region-in-Mark.new.pass) c.args.lines got.result.number got.result.line _ Mark
    c.requires.pass.about got.ensures.counted got.ensures.within kind
    (ap (λ (z : Shut). answer.Overflow z) same)
    (published ∙ ap (λ (z : View). after_publish_region z f) got.ensures.view)
