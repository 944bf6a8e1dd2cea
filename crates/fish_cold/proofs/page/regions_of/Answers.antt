-- What leads on from the regions so far leads here, and no further where the region here has no lines or lies past the words.
use Rattle.std.proofs.Common.{◌≡◌, ◌+◌, ◌∙◌, [], ◌∷◌, length, length-append, sym, ap, subst, arith}
use Rattle.std.specs.Prelude.{Some, slice_get}
use Rattle.fish_cold.specs.Regions.{Leads}
use Rattle.fish_cold.proofs.RegionHeads.{found_all, found_before, found_more, here_more}
use Rattle.fish_cold.proofs.page.regions_of.Goals as goal

pub returns-then-lines-eq0 : goal.returns-then-lines-eq0
returns-then-lines-eq0 c k line h =
    let pushed = c.in_ok-push.ensures.items in
    let none = sym c.lines_in-lines.ensures.value ∙ c.if-lines-eq0.true in
    subst (λ l. slice_get l k ≡ Some line) (sym pushed)
    (found_all c.args.words.now c.args.first c.loop-line.line c.loop-line.regions.items c.loop-line.invariant.found
    c.loop-line.invariant.here none k line h)

pub loop-line-preserved : goal.loop-line-preserved
loop-line-preserved c =
    let pushed = c.in_ok-push.ensures.items in
    let grown : length c.push.new.self.items ≡ length c.loop-line.regions.items + 1 =
    ap length pushed ∙ length-append c.loop-line.regions.items (c.loop-line.line ∷ []) in
    record {
      found = λ k line less h.
          subst (λ l. slice_get l k ≡ Some line) (sym pushed)
          (found_more c.args.words.now c.args.first c.loop-line.line c.loop-line.regions.items c.loop-line.invariant.found
          c.loop-line.invariant.here k line (omega arith) h);
      here = λ line h.
          here_more c.args.words.now c.args.first c.loop-line.line c.loop-line.regions.items c.loop-line.invariant.found
          c.loop-line.invariant.here line (subst (λ n. Leads c.args.words.now c.args.first n line) grown h)
          ∙ ap (λ n. c.loop-line.line + n) (sym c.lines_in-lines.ensures.value);
    }

pub returns : goal.returns
returns c k line h =
    let stop = c.loop-line-test.false in
    found_before c.args.words.now c.args.first c.loop-line.line c.loop-line.regions.items
    c.loop-line.invariant.found c.loop-line.invariant.here (omega arith) k line h
