-- The header says what the region is: nothing where it has no lines, a void, or a record of as many words.
use Rattle.std.proofs.Common.{◌∙◌, refl, sym, ap, arith, subst}
use Rattle.fish_catalog.specs.declared.entry.Entry.TheVariants.{Stored}
use Rattle.fish_layout.specs.Body.{IsBody}
use Rattle.fish_cold.proofs.RegionHeads.{no_void_head, says_record, says_void, void_first}
use Rattle.fish_cold.proofs.decoding.entry_at.Goals as goal

pub returns-then-lines-eq0-clause-entry : goal.returns-then-lines-eq0-clause-entry
returns-then-lines-eq0-clause-entry g c =
    let lines = c.lines_in-lines.ensures.value in
    let none = c.if-lines-eq0.true in (
      refl,
      λ p h. (let some = (says_record p c.args.rest.now h).some in omega arith),
      λ h. (let is = says_void c.args.rest.now h in let some = h.1 in omega arith),
    )

pub returns-then-rest-void_header-clause-entry : goal.returns-then-rest-void_header-clause-entry
returns-then-rest-void_header-clause-entry g c = (
  λ p h. absurd (no_void_head p c.args.rest.now c.lines_in-lines.result h c.lines_in-lines.ensures.fits
      (c.if-rest-void_header.true ∙ c.void_header.ensures)),
  λ h. refl,
)

pub returns-in_default-clause-entry : goal.returns-in_default-clause-entry
returns-in_default-clause-entry g c =
    let cut = rw c.in_default.is at c.region_in.ensures in (
      refl,
      λ p h. cut (says_record p c.args.rest.now h).whole,
      λ h. c.if-rest-void_header.false
          (void_first c.args.rest.now _ _ c.lines_in-lines.ensures.value c.void_header.ensures h),
    )

pub returns-in_default-2-clause-entry : goal.returns-in_default-2-clause-entry
returns-in_default-2-clause-entry g c =
    let none = rw c.in_default-2.is at c.in_ok-payload.ensures in
    let region = rw c.in-Some.is at c.region_in.ensures in (
      refl,
      λ p h. none (p, subst (IsBody p) (sym region) h),
      λ h. c.if-rest-void_header.false
          (void_first c.args.rest.now _ _ c.lines_in-lines.ensures.value c.void_header.ensures h),
    )

pub returns-clause-entry : goal.returns-clause-entry
returns-clause-entry g c =
    let some = rw c.in-Some-2.is at c.in_ok-payload.ensures in
    let region = rw c.in-Some.is at c.region_in.ensures in (
      λ p h. (
          let is = some p (subst (IsBody p) (sym region) h) in
          c.entry_of.ensures
          ∙ ap (λ n. Stored n c.in-Some-2.payload.form c.in-Some-2.payload.payload) is.lane
          ∙ ap (λ f. Stored p.lane f c.in-Some-2.payload.payload) is.form
          ∙ ap (Stored p.lane p.form) is.payload),
      λ h. absurd (c.if-rest-void_header.false
          (void_first c.args.rest.now _ _ c.lines_in-lines.ensures.value c.void_header.ensures h)),
    )
