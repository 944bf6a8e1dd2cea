-- The last region of those that are settled ends where its header says.
use Rattle.std.proofs.Common.{◌-◌, inl, refl, ap, arith}
use Rattle.fish_flush.proofs.AddedRegions.{line_order, region_end}
use Rattle.fish_flush.proofs.RegionSteps.{line_inside, line_later}
use Rattle.fish_rule.proofs.laws.Learning.{extends_both, extends_to_read}
use Rattle.fish_rule.proofs.laws.Steps.{found_law}
use Rattle.fish_rule.specs.Passes.{view}
use Rattle.fish_rule.specs.declared.view.Key.{Key}
use Rattle.fish_flush.proofs.drafting.end_line.Goals as goal

pub returns-then-to-flusher-clause-within : goal.returns-then-to-flusher-clause-within
returns-then-to-flusher-clause-within c =
    let v = view c.args.pass.now in
    let end = ap (λ (z : Key). z.end) c.requires.pass.about in
    let ordered = c.requires.ordered in
    let settled = c.requires.settled in
    let inside = line_inside v c.args.flusher.now.count c.args.flusher.now.line c.requires.pass.stands (omega arith) c.requires.line in
    (omega arith, omega arith)

pub find_region-line-requires-clause-from : goal.find_region-line-requires-clause-from
find_region-line-requires-clause-from c =
    let from = c.requires.from in
    let ordered = c.requires.ordered in
    let other = c.if-to-flusher.false in
    omega (arith, other)

pub find_region-line-requires-clause-settled : goal.find_region-line-requires-clause-settled
find_region-line-requires-clause-settled c =
    let ordered = c.requires.ordered in
    let other = c.if-to-flusher.false in
    let settled = c.requires.settled in
    omega (arith, other)

pub find_region-line-requires-clause-counted : goal.find_region-line-requires-clause-counted
find_region-line-requires-clause-counted c =
    let ordered = c.requires.ordered in
    let other = c.if-to-flusher.false in
    let counted = c.requires.counted in
    omega (arith, other)

pub read_word-requires-clause-view : goal.read_word-requires-clause-view
read_word-requires-clause-view c =
    let t = c.find_region-line.ensures.looked in
    let some_ = found_law (view c.find_region-line.new.pass) t.0 c.find_region-line.ensures.pass.stands t.1.among in
    (t.0, record { found = t.1.among; words = t.1.plain; inside = omega arith; plain = inl refl }, t.1.line_is)

pub returns-clause-extends : goal.returns-clause-extends
returns-clause-extends c =
    extends_both _ _ _ c.find_region-line.ensures.extends
    (extends_to_read (view c.find_region-line.new.pass) (view c.read_word.new.pass) _ _ c.read_word.ensures.view)

pub returns-clause-line : goal.returns-clause-line
returns-clause-line c =
    let ordered = c.requires.ordered in
    let other = c.if-to-flusher.false in
    let t = c.find_region-line.ensures.looked in
    region_end (view c.find_region-line.new.pass) (view c.read_word.new.pass) (c.args.to - 1) c.args.to c.find_region-line.result
    c.read_word.result c.lines_in.result t.0 t.1 (omega (arith, other)) c.read_word.ensures.pass.stands c.read_word.ensures.view
    c.lines_in.ensures.value

-- the last region ends within the table
pub overflow_add-result : goal.overflow_add-result
overflow_add-result c =
    let v = view c.args.pass.now in
    let u = view c.read_word.new.pass in
    let ordered = c.requires.ordered in
    let other = c.if-to-flusher.false in
    let settled = c.requires.settled in
    let t = c.find_region-line.ensures.looked in
    let stands = c.read_word.ensures.pass.stands in
    let line = region_end (view c.find_region-line.new.pass) u (c.args.to - 1) c.args.to c.find_region-line.result c.read_word.result
    c.lines_in.result t.0 t.1 (omega (arith, other)) stands c.read_word.ensures.view c.lines_in.ensures.value in
    let on = extends_both _ _ _ c.find_region-line.ensures.extends
    (extends_to_read (view c.find_region-line.new.pass) u _ _ c.read_word.ensures.view) in
    let more = on.learns.settled in
    let inside = line_inside u c.args.to _ stands (omega arith) line in
    let low = stands.rule.key_fits.low_end in
    omega arith

pub returns-clause-within : goal.returns-clause-within
returns-clause-within c =
    let v = view c.args.pass.now in
    let u = view c.read_word.new.pass in
    let on = returns-clause-extends c in
    let line = returns-clause-line c in
    let from = c.requires.from in
    let ordered = c.requires.ordered in
    let settled = c.requires.settled in
    let more = on.learns.settled in
    let stands = c.read_word.ensures.pass.stands in
    let about = ap (λ (z : Key). z.number) c.read_word.ensures.pass.about in
    let end = ap (λ (z : Key). z.end) c.read_word.ensures.pass.about in
    let first = line_later v u c.args.flusher.now.count c.args.flusher.now.line on.learns c.requires.line in
    let inside = line_inside u c.args.to _ stands (omega arith) line in (
      line_order u c.args.flusher.now.count c.args.to c.args.flusher.now.line _ stands (omega arith) ordered (omega arith) first line,
      omega arith,
    )
