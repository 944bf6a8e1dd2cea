-- Numbers that a pass knows to be published.
use Rattle.std.proofs.Common.{◌≡◌, ℕ, ◌<◌, ◌≤◌, ap, arith}
use Rattle.fish_catalog.specs.declared.entry.Entry.{Entry}
use Rattle.fish_lanes.specs.within.Published.{IsPublished}
use Rattle.fish_rule.proofs.laws.Moments.{entry_word}
use Rattle.fish_rule.proofs.laws.Learning.{learns_both}
use Rattle.fish_rule.specs.Logs.{Learns, KnowsAs}
use Rattle.fish_rule.specs.declared.view.Key.{Key}
use Rattle.fish_rule.specs.declared.view.View.{View}

-- a number whose entry is told is published
pub told_published : (v : View) (n : ℕ) (e : Entry) → KnowsAs v n e → n < v.learned.count → IsPublished v n
told_published v n e tells below = record {
  counted = below;
  entry = λ u learns w r j at. entry_word w n e (tells u learns w r j at);
}

-- and so is one of the table below the settled one
pub settled_published : (v : View) (n : ℕ) → v.about.number ≤ n → n < v.learned.settled → n < v.learned.count → IsPublished v n
settled_published v n base below counted = record {
  counted = counted;
  entry = λ u learns w r j at.
      let more = learns.settled in
      let floor = r.floors j u at in
      let same : u.about.number ≡ v.about.number = ap (λ (z : Key). z.number) learns.about in
      r.settling.below n (omega arith) (omega arith);
}

-- it stays published
pub published_later : (v u : View) (n : ℕ) → Learns v u → IsPublished v n → IsPublished u n
published_later v u n learns h = record {
  counted = (let a = learns.count in let b = h.counted in omega arith);
  entry = λ x more. h.entry x (learns_both v u x learns more);
}
