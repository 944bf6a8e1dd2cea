-- All that came is the rest of the file, where it has no more.
use Rattle.std.proofs.Common.{rules, ◌≡◌, ◌<◌, ◌≤◌, Option, ap, arith, length, subst, sym, true}
use Rattle.fish_feed.specs.Parts.{longest_csv_read}
use Rattle.std.specs.Prelude.{IfSome}
use Rattle.fish_feed.proofs.Reading.{can_cut, can_none, cut_short, part_of, rest_at_end}
use Rattle.fish_feed.specs.within.OpenFiles.{IsCutOff}
use Rattle.fish_feed.specs.Works.{bytes_in_work}
use Rattle.fish_lanes.specs.declared.work.Work.{Work}
use Rattle.fish_feed.proofs.part.read_until.Goals as goal

pub returns-then-branch-clause-some : goal.returns-then-branch-clause-some
returns-then-branch-clause-some g c =
    let source = g.F.Source in
    let m = c.read_ahead.new.file in
    let u = c.rest_of.new.file in
    let end : c.in_ok-read_ahead.field-0 ≡ true = search rules in
    let e = c.in_ok-read_ahead.ensures in
    let few : c.in_ok-read_ahead.field-0 ≡ true → length m.rest < longest_csv_read =
    λ is. let less = (e.end is).1 in let most = c.requires.wanted in omega (less, most, arith) in
    record {
      few = subst (λ (w : Work). bytes_in_work w ≤ longest_csv_read) (sym c.in_ok-work.ensures.work) e.can.short;
      one = λ last. absurd cc;
      rest = λ last. rest_at_end source.left c.args.file.now m u c.in_ok-work.work e.read e.can.short c.in_ok-work.ensures.work
          c.rest_of.ensures.feed (e.end end).0 (few end);
    }

pub returns-then-branch-clause-can : goal.returns-then-branch-clause-can
returns-then-branch-clause-can g c =
    can_none g.F.Source.faults c.read_ahead.new.file c.rest_of.new.file c.in_ok-read_ahead.ensures.can c.in_ok-work.ensures.rest
    c.rest_of.ensures.feed c.rest_of.ensures.failed

pub returns-in-Some-clause-can : goal.returns-in-Some-clause-can
returns-in-Some-clause-can g c =
    can_cut g.F.Source.faults c.read_ahead.new.file c.cut_off.new.file c.in-Some.work c.in_ok-read_ahead.ensures.can
    (subst (λ (z : Option Work). IfSome z (IsCutOff c.read_ahead.new.file c.cut_off.new.file)) c.in-Some.is c.in_ok-work-2.ensures.some)

pub returns-in-Some-clause-some : goal.returns-in-Some-clause-some
returns-in-Some-clause-some g c =
    let m = c.read_ahead.new.file in
    let u = c.cut_off.new.file in
    let cut : IsCutOff m u c.in-Some.work =
    subst (λ (z : Option Work). IfSome z (IsCutOff m u)) c.in-Some.is c.in_ok-work-2.ensures.some in
    record {
      few = subst (λ (w : Work). bytes_in_work w ≤ longest_csv_read) (sym cut.is)
          (cut_short (length m.rest) cut.part u.rest (ap length cut.cut) c.in_ok-read_ahead.ensures.can.short);
      one = λ last. part_of g.F.Source.left c.args.file.now m u c.in-Some.work c.in_ok-read_ahead.ensures.read cut;
      rest = λ last. absurd cc;
    }
