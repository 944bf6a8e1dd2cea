-- What came is all that may be given at once.
use Rattle.std.proofs.Common.{rules, ◌≡◌, ◌≤◌, None, Option, false, subst, sym}
use Rattle.std.specs.Prelude.{IfSome}
use Rattle.fish_feed.specs.OpenFiles.{GivesPart}
use Rattle.fish_feed.specs.Parts.{longest_csv_read}
use Rattle.fish_feed.specs.Works.{bytes_in_work}
use Rattle.fish_lanes.specs.declared.work.Work.{Work}
use Rattle.fish_feed.proofs.Reading.{can_none, gives_later, read_both, rest_full}
use Rattle.fish_feed.proofs.part.read_part.Goals as goal

pub returns-clause-part : goal.returns-clause-part
returns-clause-part g c =
    let left = g.F.Source.left in
    let o = c.args.file.now in
    let m = c.read_until.new.file in
    let n = c.read_until-2.new.file in
    let none : c.in_ok-part.field-0 ≡ None = search rules in
    let none_2 : c.in_ok-part-2.field-0 ≡ None = search rules in
    let well : n.failed ≡ false = search rules in
    record {
      few = subst (λ (w : Work). bytes_in_work w ≤ longest_csv_read) (sym c.in_ok-work.ensures.work) c.in_ok-part-2.ensures.can.short;
      one = λ last. absurd cc;
      rest = λ last. rest_full left o n c.rest_of.new.file c.in_ok-work.work
          (read_both left o m n (c.in_ok-part.ensures.none none) (c.in_ok-part-2.ensures.none none_2)) c.in_ok-part-2.ensures.can.short
          c.in_ok-work.ensures.work c.rest_of.ensures.feed ((c.in_ok-part-2.ensures.full none_2).0 well)
          (c.in_ok-part-2.ensures.full none_2).1;
    }

pub returns-clause-can : goal.returns-clause-can
returns-clause-can g c =
    can_none g.F.Source.faults c.read_until-2.new.file c.rest_of.new.file c.in_ok-part-2.ensures.can c.in_ok-work.ensures.rest
    c.rest_of.ensures.feed c.rest_of.ensures.failed

pub returns-in-Some-2-clause-part : goal.returns-in-Some-2-clause-part
returns-in-Some-2-clause-part g c =
    let none : c.in_ok-part.field-0 ≡ None = search rules in
    gives_later g.F.Source.left c.args.file.now c.read_until.new.file c.read_until-2.new.file c.in-Some-2.part
    (c.in_ok-part.ensures.none none)
    (subst (λ (z : Option _). IfSome z (λ p. GivesPart g.F.Source.left c.read_until.new.file p c.read_until-2.new.file)) c.in-Some-2.is
    c.in_ok-part-2.ensures.some)
