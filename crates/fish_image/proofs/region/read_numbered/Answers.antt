-- A record with a key says its number, and of one without any number may be taken.
use Rattle.std.proofs.Common.{◌<◌, arith, length, sym, ap, subst, ◌∙◌}
use Rattle.std.proofs.lemmas.Bool.{eqb-true, eqb-false}
use Rattle.fish_layout.specs.Body.{IsBody}
use Rattle.fish_layout.specs.declared.parts.BodyParts.{BodyParts}
use Rattle.fish_layout.proofs.Once.{body_number}
use Rattle.fish_image.proofs.Regions.{keyless}
use Rattle.fish_image.proofs.region.read_numbered.Goals as goal

pub returns-then-is_empty : goal.returns-then-is_empty
returns-then-is_empty c =
    let body = rw c.in-Some.is at c.in_ok-parts.ensures.parts in
    let none = eqb-true (length c.in-Some.parts.keys) 0 (sym c.is_empty.ensures ∙ c.if-is_empty.true) in (
      subst (λ (p : BodyParts). IsBody p c.args.r.now) (sym c.numbered.ensures)
          (keyless c.in-Some.parts c.args.r.now c.args.number body none c.requires),
      ap (λ (p : BodyParts). p.number) c.numbered.ensures,
    )

pub returns-then-parts-number : goal.returns-then-parts-number
returns-then-parts-number c found =
    let body = rw c.in-Some.is at c.in_ok-parts.ensures.parts in
    let none = eqb-false (length c.in-Some.parts.keys) 0 (sym c.is_empty.ensures ∙ c.if-is_empty.false) in
    let some : 0 < length c.in-Some.parts.keys = omega arith in
    c.if-parts-number.true (body_number body found.1 some ∙ found.2)
