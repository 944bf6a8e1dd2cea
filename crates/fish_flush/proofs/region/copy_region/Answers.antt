-- The region that a look found is loaded and linked.
use Rattle.std.proofs.Common.{◌≡◌, ℕ, List, ◌++◌, length, take, drop, sym, ap, ◌∙◌, subst, arith}
use Rattle.std.proofs.Common.{length-append}
use Rattle.std.proofs.lemmas.List.{length-take-le}
use Rattle.std.proofs.Math.Seq.{take-append_seam}
use Rattle.fish_flush.proofs.RegionSteps.{entries_room}
use Rattle.fish_flush.proofs.TableRegions.{ends_inside}
use Rattle.fish_flush.specs.within.Linking.{AreSpelled}
use Rattle.fish_rule.proofs.laws.Learning.{extends_both}
use Rattle.fish_rule.specs.Passes.{view}
use Rattle.fish_flush.proofs.region.copy_region.Goals as goal

pub load_region-size-requires-clause-found : goal.load_region-size-requires-clause-found
load_region-size-requires-clause-found c =
    let t = c.find_region-line.ensures.looked in
    (t.0, t.1.among, t.1.line_is, t.1.plain)

pub slice_bounds-link-end : goal.slice_bounds-link-end
slice_bounds-link-end c = c.load_region-size.ensures.within

pub slice_bounds-link-end-2 : goal.slice_bounds-link-end-2
slice_bounds-link-end-2 c = sym (length-take-le c.load_region-size.result c.load_region-size.new.words c.load_region-size.ensures.within)

pub link-requires-clause-line : goal.link-requires-clause-line
link-requires-clause-line c =
    let t = c.find_region-line.ensures.looked in
    let stands = c.load_region-size.ensures.pass.stands in
    let among = c.load_region-size.ensures.extends.learns.found t.0 t.1.among in
    let has = c.load_region-size.ensures.words t.0 t.1.among t.1.line_is t.1.plain in
    let inside = ends_inside stands.moment stands.rule stands.seat stands.at t.0 among _ has t.1.plain in
    let low = stands.rule.key_fits.low_end in
    let line = t.1.line_is in
    omega arith

pub link-requires-clause-room : goal.link-requires-clause-room
link-requires-clause-room c =
    let t = c.find_region-line.ensures.looked in
    entries_room (view c.load_region-size.new.pass) t.0 (take c.load_region-size.result c.load_region-size.new.words)
    c.load_region-size.ensures.pass.stands (c.load_region-size.ensures.extends.learns.found t.0 t.1.among) t.1.plain
    (c.load_region-size.ensures.words t.0 t.1.among t.1.line_is t.1.plain)

pub returns-clause-extends : goal.returns-clause-extends
returns-clause-extends c = extends_both _ _ _ c.find_region-line.ensures.extends c.load_region-size.ensures.extends

pub returns-clause-copied : goal.returns-clause-copied
returns-clause-copied c =
    let t = c.find_region-line.ensures.looked in
    let size : ℕ = c.load_region-size.result in
    let words : List ℕ = c.load_region-size.new.words in
    let out : List ℕ = c.link.new.words in
    let taken = length-take-le size words c.load_region-size.ensures.within in
    let many : length out ≡ size = c.link.ensures.size ∙ taken in
    let all = length-append out (drop size words) in
    let front : take size (out ++ drop size words) ≡ out =
    ap (λ (n : ℕ). take n (out ++ drop size words)) (sym many) ∙ take-append_seam out (drop size words) in
    record {
      read = take size words;
      found = t.0;
      number = t.1.number;
      plain = t.1.plain;
      among = c.load_region-size.ensures.extends.learns.found t.0 t.1.among;
      has = c.load_region-size.ensures.words t.0 t.1.among t.1.line_is t.1.plain;
      size_is = sym taken;
      within = omega arith;
      spelled = subst (λ (z : ℕ × List ℕ). AreSpelled z.0 (take size words) c.args.heads.now.items c.link.new.heads.items z.1)
          (λ i. (sym t.1.line_is i, sym front i)) c.link.ensures.spelled;
    }
