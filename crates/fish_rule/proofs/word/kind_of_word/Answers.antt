-- The kinds by their codes.
use Rattle.std.proofs.Common.{◌≡◌, ◌≢◌, ◌/◌, sym, refl, ap, ℕ, zero, suc, arith}
use Rattle.fish_rule.specs.LoadSteps.{kind_told}
use Rattle.fish_rule.specs.World.{high}
use Rattle.fish_rule.specs.declared.view.Kind.TheVariants.{Mark}
use Rattle.fish_rule.proofs.word.kind_of_word.Goals as goal

-- another code is a mark's
other : (x : ℕ) → x ≢ 1 → x ≢ 2 → Mark ≡ kind_told x
other zero a b = refl
other (suc zero) a b = absurd (a refl)
other (suc (suc zero)) a b = absurd (b refl)
other (suc (suc (suc x))) a b = refl

pub returns-in-1 : goal.returns-in-1
unfolding high
returns-in-1 c = sym (ap kind_told c.in-1.is)

pub returns-in-2 : goal.returns-in-2
unfolding high
returns-in-2 c = sym (ap kind_told c.in-2.is)

pub returns-in_default : goal.returns-in_default
unfolding high
returns-in_default c = (let h = c.in_default in other (c.args.word / 68719476736) (λ e. omega arith) (λ e. omega arith))
