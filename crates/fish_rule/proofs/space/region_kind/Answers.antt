-- The kind by cases, as its definition goes.
use Rattle.std.proofs.Common.{◌∙◌, sym, arith, ◌-◌, ◌/◌}
use Rattle.std.proofs.Math.Decide.{dec_lt}
use Rattle.fish_layout.proofs.Clearing.{choose_first, choose_second}
use Rattle.fish_rule.proofs.basics.Bodies.{kind-mark, kind-within}
use Rattle.fish_rule.specs.declared.view.Kind.TheVariants.{Stored, Void}
use Rattle.fish_rule.proofs.space.region_kind.Goals as goal

pub returns-then-end-next : goal.returns-then-end-next
returns-then-end-next c = sym (kind-mark c.args.end c.args.line c.args.next (omega arith))

pub returns-then-page_of : goal.returns-then-page_of
returns-then-page_of c =
    let here = c.page_of-else-end-next.ensures in
    let last = c.page_of.ensures in
    sym (kind-within c.args.end c.args.line c.args.next (omega arith)
    ∙ choose_first (dec_lt (c.args.line / 32768) ((c.args.next - 1) / 32768)) Void Stored (omega arith))

pub returns-else-page_of : goal.returns-else-page_of
returns-else-page_of c =
    let here = c.page_of-else-end-next.ensures in
    let last = c.page_of.ensures in
    sym (kind-within c.args.end c.args.line c.args.next (omega arith) ∙ choose_second _ Void Stored (λ h. omega arith))
