-- Each load gives one head more.
use Rattle.std.proofs.Common.{◌≡◌, ◌∙◌, ◌*◌, ◌≤◌, ◌++◌, ◌∷◌, [], List, length, length-append, sym, ap, subst, ℕ, arith}
use Rattle.fish_rule.proofs.basics.Context.{Key, View, get_elem?, some, view}
use Rattle.fish_rule.proofs.laws.Descents.{extends_head}
use Rattle.fish_rule.proofs.laws.ReadsOn.{head_new, heads_more}
use Rattle.fish_rule.proofs.laws.Learning.{extends_both}
use Rattle.fish_rule.specs.within.ClosedLog.{HasHead}
use Rattle.fish_rule.specs.Logs.{Extends}
use Rattle.fish_rule.specs.Parts.{first_head}
use Rattle.fish_rule.proofs.close.all_heads.Goals as goal

pub returns-in_err-push-clause-extends : goal.returns-in_err-push-clause-extends
returns-in_err-push-clause-extends c =
    let v = view c.loop-bucket.control in
    extends_both _ _ _ c.loop-bucket.invariant.extends
    (subst (Extends v) (sym c.load_head-head.ensures.view)
    (extends_head v c.loop-bucket.bucket c.load_head-head.result))

pub loop-bucket-preserved : goal.loop-bucket-preserved
loop-bucket-preserved c =
    let inv = c.loop-bucket.invariant in
    let v = view c.loop-bucket.control in
    let u = view c.load_head-head.new.pass in
    let b : ℕ = c.loop-bucket.bucket in
    let x : ℕ = c.load_head-head.result in
    let heads : List ℕ = c.loop-bucket.heads in
    let settled : ℕ = (view c.args.control.now).learned.settled in
    let is = c.load_head-head.ensures.view in
    let more = subst (Extends v) (sym is) (extends_head v b x) in
    let first = subst (λ (k : Key). x ≤ k.line * 4 → x ≡ first_head k b) (sym inv.of.about)
    c.load_head-head.ensures.first in
    let here = subst (λ (z : View × ℕ × ℕ). HasHead z.0 z.1 z.2 x) (λ i. (sym is i, inv.same i, sym inv.many i))
    (head_new v b x first) in
    let pushed : c.push.new.self ≡ heads ++ x ∷ [] = c.in_ok-push.ensures.ok in
    let longer = ap length pushed ∙ length-append heads (x ∷ []) in
    let many = inv.many in
    record {
      of = c.load_head-head.ensures.pass;
      extends = extends_both _ _ _ inv.extends more;
      same = ap (λ (z : View). z.learned.settled) is ∙ inv.same;
      many = omega arith;
      each = subst (λ (z : List ℕ). (b y : ℕ) → get_elem? z b ≡ some y → HasHead u settled b y) (sym pushed)
          (heads_more v u settled heads x more.learns inv.each here);
    }
