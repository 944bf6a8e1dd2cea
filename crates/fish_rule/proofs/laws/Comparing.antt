-- Two regions that were found are one, or the one with the lower number ends before the other begins.
use Rattle.std.proofs.Common.{◌≡◌, ℕ, ◌+◌, ◌<◌, ◌≤◌, suc, sym, ap, ◌∙◌, arith}
use Rattle.std.proofs.Math.Decide.{dec_lt}
use Rattle.fish_rule.proofs.basics.Bodies.{code_once}
use Rattle.fish_rule.proofs.basics.Regions.{starts_rise}
use Rattle.fish_rule.proofs.basics.Lists.{all_among}
use Rattle.fish_rule.specs.Comparing.{AreBothFound, OneLineIsOneClaim, OneNumberIsOneClaim, RegionsFollow}
use Rattle.fish_rule.specs.Facts.{IsFound}
use Rattle.fish_rule.proofs.basics.Context.{Found, Key, Rule, View, World}
use Rattle.fish_rule.specs.World.{high}

module _ {k : Key} {w : World} (r : Rule k w) where
  -- that a region was found in this moment
  abbrev Here : Found → Type 0
  Here f = IsFound k w.count w.dir r.start f

  -- the starts of regions rise, so the region of the lower number ends first
  follow_here : (f g : Found) → Here f → Here g → f.number < g.number → f.line + f.lines ≤ g.line
  follow_here f g one two less =
      let above = one.above in
      let below = two.below in
      let up = starts_rise k w.count w.line r.start r.space.regions (suc f.number) g.number (omega arith) (omega arith)
      (omega arith) in
      let lines = one.lines in
      let line = two.line in
      omega arith

  -- a region has a line, so two with one line have one number
  number_here : (f g : Found) → Here f → Here g → f.line ≡ g.line → f.number ≡ g.number
  number_here f g one two same = by (dec_lt f.number g.number) (dec_lt g.number f.number)
    where
      some : (h : Found) → Here h → 1 ≤ h.lines
      some h found =
          let line = found.line in
          let lines = found.lines in
          let grows = r.space.regions.grows h.number found.above found.below in
          omega arith

      by : Dec (f.number < g.number) → Dec (g.number < f.number) → f.number ≡ g.number
      by (yes less) more =
          let ends = follow_here f g one two less in let lines = some f one in absurd (omega arith)
      by (no a) (yes less) =
          let ends = follow_here g f two one less in let lines = some g two in absurd (omega arith)
      by (no a) (no b) = omega arith

  -- the directory word and the starts of a number tell all of its region
  one_here : (f g : Found) → Here f → Here g → f.number ≡ g.number → f ≡ g
  one_here f g one two same =
      let kind : f.kind ≡ g.kind =
      code_once f.kind g.kind (sym one.kind ∙ ap (λ (n : ℕ). high (w.dir n)) same ∙ two.kind) in
      let line : f.line ≡ g.line = sym one.line ∙ ap r.start same ∙ two.line in
      let ends : r.start (suc f.number) ≡ r.start (suc g.number) = ap (λ (n : ℕ). r.start (suc n)) same in
      let first = one.lines in
      let second = two.lines in
      let lines : f.lines ≡ g.lines = omega arith in
      λ i. record { number = same i; kind = kind i; line = line i; lines = lines i }

-- what two passes found is so in a moment of a pass that knows it all
here : (v u x : View) (f g : Found) (h : AreBothFound v u x f g)
    → Here h.stands.rule f × Here h.stands.rule g
here v u x f g h =
    let w = h.stands.moment in
    let r = h.stands.rule in
    let found = (r.facts h.stands.seat x h.stands.at).found in
    let is : Found → Type 0 = IsFound x.about w.count w.dir r.start in (
      all_among is f x.learned.found found (h.with_first.found f h.first),
      all_among is g x.learned.found found (h.with_second.found g h.second),
    )

-- so one number is one claim
pub one_number : OneNumberIsOneClaim
one_number v u x f g h same =
    let t = here v u x f g h in one_here h.stands.rule f g t.0 t.1 same

-- and so is one line
pub one_line : OneLineIsOneClaim
one_line v u x f g h same =
    let t = here v u x f g h in
    one_number v u x f g h (number_here h.stands.rule f g t.0 t.1 same)

-- and the regions of two numbers follow one another
pub regions_follow : RegionsFollow
regions_follow v u x f g h less =
    let t = here v u x f g h in follow_here h.stands.rule f g t.0 t.1 less
