-- What the owner of a view may conclude of a bucket's entries from what a walk has learned.
use Rattle.std.proofs.Common.{◌≡◌, ℕ, ◌+◌, ◌*◌, ◌<◌, ◌≤◌, suc, sym, ap, ◌∙◌, subst, ◌⊎◌, ⊎_elim, arith}
use Rattle.std.proofs.Math.Decide.{ℕ_discrete, dec_le}
use Rattle.fish_layout.specs.Cleared.{entry_at}
use Rattle.fish_layout.specs.Entry.{entry_id, entry_number, entry_place}
use Rattle.fish_rule.proofs.basics.Regions.{one_region, starts_rise}
use Rattle.fish_rule.proofs.basics.Lists.{all_among}
use Rattle.fish_rule.proofs.laws.Learning.{learns_both}
use Rattle.fish_rule.proofs.basics.Gaps.{entry_linked}
use Rattle.fish_rule.proofs.basics.Bodies.{published}
use Rattle.fish_rule.proofs.basics.Places.{lies_inside, record_at}
use Rattle.fish_rule.specs.Chains.{IsKeyEntry, Linked}
use Rattle.fish_rule.specs.ChainSteps.{HasNode}
use Rattle.fish_rule.specs.Logs.{Learns}
use Rattle.fish_rule.specs.Regions.{code, kind_of}
use Rattle.fish_rule.proofs.basics.Context.{Among, Key, Rule, View, World}
use Rattle.fish_rule.specs.ChainFacts.{Always, IsClear, IsEntryIn, IsNodeIn}
use Rattle.fish_rule.specs.within.ChainFacts.{IsNowhere}
use Rattle.fish_rule.specs.Gaps.{IsKeyEntryOf, IsGap, IsLabel}
use Rattle.fish_rule.specs.World.{body, low}
use Rattle.fish_rule.specs.declared.view.Gap.{Gap}
use Rattle.fish_rule.specs.declared.view.Kind.TheVariants.{Stored}
use Rattle.fish_rule.specs.declared.view.Label.{Label}

-- what always holds goes on to
pub always_later : (v u : View) (P : Key → World → Type 0) → Learns v u → Always v P → Always u P
always_later v u P learns all x more = all x (learns_both v u x learns more)

module _ {k : Key} {w : World} (r : Rule k w) where
  -- an entry of a published record, as the directory says where the record is, is one of the region there
  starts_there : (b n c p : ℕ) → n < w.count → IsEntryIn b n c p k w
      → IsKeyEntryOf k w.dir w.log (r.start n) b n c p
  starts_there b n c p below h =
      let finished = r.space.finished n h.above below (published (w.dir n) Stored h.stored) in
      subst (λ (z : ℕ). IsKeyEntryOf k w.dir w.log z b n c p) finished.line h

  -- it is within its record's region
  pub within_region : (b n c p : ℕ) → n < w.count → IsEntryIn b n c p k w
      → (r.start n * 4 ≤ p) × (p < r.start (suc n) * 4)
  unfolding entry_linked
  within_region b n c p below h =
      let linked = entry_linked r b n c p below (starts_there b n c p below h) in
      let s = record_at r linked.line linked.entry linked.shows in
      let inside = lies_inside r b p linked s in
      let grows = r.space.regions.grows n h.above below in
      let up = r.space.regions.grows s.number s.above s.below in
      let line : r.start s.number ≡ r.start n = s.line in
      let same : s.number ≡ n = one_region k w.count w.line r.start r.space.regions s.number n (r.start n * 4)
      s.above s.below h.above below (omega arith) (omega arith) (omega arith) (omega arith) in
      subst (λ (z : ℕ). (r.start z * 4 ≤ p) × (p < r.start (suc z) * 4)) same inside

  -- a number that is published is claimed
  pub claimed_there : (b n c p : ℕ) → IsEntryIn b n c p k w → n < w.count
  claimed_there b n c p h = pick (dec_le w.count n)
    where
      pick : Dec (w.count ≤ n) → n < w.count
      pick (no less) = omega arith
      pick (yes beyond) = absurd (published (w.dir n) Stored h.stored (r.space.dir_beyond n beyond))

  -- the place that a second word names is within the region of the number that it names
  label_region : (l : Label) → IsLabel k w.count w.dir w.log r.start l
      → (r.start (entry_number l.word) * 4 ≤ l.place) × (l.place < r.start (suc (entry_number l.word)) * 4)
  label_region l h = (let place = h.place in omega arith, h.inside)

-- between the places of a gap there is no entry of a record below its number
pub gap_clear : (v : View) (g : Gap) (from to : ℕ) → Among g v.learned.gaps → to ≤ g.end
    → Always v (IsClear g.bucket from to g.above g.below)
gap_clear v g from to among within u learns w r seat at n c p above less h under =
    let k : Key = u.about in
    let gap = all_among (IsGap k w.count w.dir w.log r.start) g u.learned.gaps (r.facts seat u at).gaps
    (learns.gaps g among) in
    let below = claimed_there r g.bucket n c p h in
    gap.empty n c p (omega arith) (starts_there r g.bucket n c p below h) under

-- a place of a record outside the range is that of no entry in the range
pub label_outside : (v : View) (l : Label) (from to : ℕ) → Among l v.learned.labels
    → (entry_number l.word < from) ⊎ (to ≤ entry_number l.word) → Always v (IsNowhere from to l.place)
label_outside v l from to among out u learns w r seat at b n c above less h =
    let k : Key = u.about in
    let label = all_among (IsLabel k w.count w.dir w.log r.start) l u.learned.labels (r.facts seat u at).labels
    (learns.labels l among) in
    let below = claimed_there r b n c l.place h in
    let here = within_region r b n c l.place below h in
    let there = label_region r l label in
    let same : entry_number l.word ≡ n = one_region k w.count w.line r.start r.space.regions (entry_number l.word) n
    l.place label.above label.below h.above below there.0 there.1 here.0 here.1 in
    ⊎_elim (λ (m : entry_number l.word < from). omega arith) (λ (m : to ≤ entry_number l.word). omega arith) out

-- below a place of a record below the range there is no entry in the range
pub label_last : (v : View) (l : Label) (b from to above : ℕ) → Among l v.learned.labels
    → entry_number l.word < from → Always v (IsClear b from to above l.place) → Always v (IsClear b from to above 0)
label_last v l b from to above among out clear u learns w r seat at n c p more less h under =
    let k : Key = u.about in
    let label = all_among (IsLabel k w.count w.dir w.log r.start) l u.learned.labels (r.facts seat u at).labels
    (learns.labels l among) in
    let below = claimed_there r b n c p h in
    let here = within_region r b n c p below h in
    let there = label_region r l label in
    let rises = starts_rise k w.count w.line r.start r.space.regions (suc (entry_number l.word)) n
    (let a = label.above in omega arith) (omega arith) (omega arith) in
    let low_ : p ≤ l.place = clear u learns w r seat at n c p more less h under in
    absurd (omega arith)

-- two parts of a chain that meet at a place of no entry in the range are one
pub clear_both : (v : View) (b from to above p below : ℕ) → Always v (IsNowhere from to p)
    → Always v (IsClear b from to above p) → Always v (IsClear b from to p below)
    → Always v (IsClear b from to above below)
clear_both v b from to above p below none one two u learns w r seat at n c q more less h under =
    let upper : q ≤ p = one u learns w r seat at n c q more less h under in
    pick (ℕ_discrete q p) upper
  where
    pick : Dec (q ≡ p) → q ≤ p → q ≤ below
    pick (yes e) upper = absurd (none u learns w r seat at b n c more less
        (subst (λ (z : ℕ). IsEntryIn b n c z u.about w) e h))
    pick (no ne) upper = two u learns w r seat at n c q more less h (omega arith)

-- the entry at a place whose second word was read is what the word says
pub label_entry : (v : View) (l : Label) (b : ℕ) → Among l v.learned.labels → HasNode v b l.place
    → entry_number l.word < l.end
    → Always v (IsNodeIn b (entry_number l.word) (entry_place l.word) l.place (entry_id l.word))
label_entry v l b among node known u learns w r seat at =
    let k : Key = u.about in
    let label = all_among (IsLabel k w.count w.dir w.log r.start) l u.learned.labels (r.facts seat u at).labels
    (learns.labels l among) in
    let linked : Linked k w.dir w.log w.views b l.place =
    all_among (λ x. Linked k w.dir w.log w.views x.bucket x.place) _ u.learned.nodes
    (r.chained seat u at).nodes (learns.nodes _ node) in
    node_there k w r b l label linked known
  where
    node_there : (k : Key) (w : World) (r : Rule k w) (b : ℕ) (l : Label)
        → IsLabel k w.count w.dir w.log r.start l → Linked k w.dir w.log w.views b l.place
        → entry_number l.word < l.end
        → IsNodeIn b (entry_number l.word) (entry_place l.word) l.place (entry_id l.word) k w
    node_there k w r b l label linked known =
        let n : ℕ = entry_number l.word in
        let s = record_at r linked.line linked.entry linked.shows in
        let inside = lies_inside r b l.place linked s in
        let there = label_region r l label in
        let same : s.number ≡ n = one_region k w.count w.line r.start r.space.regions s.number n l.place
        s.above s.below label.above label.below inside.0 inside.1 there.0 there.1 in
        let finished = r.space.finished n label.above label.below (label.settled known) in
        let kind : kind_of k.end (r.start n) (r.start (suc n)) ≡ Stored =
        subst (λ (z : ℕ). kind_of k.end (r.start z) (r.start (suc z)) ≡ Stored) same s.kind in
        let line : linked.line ≡ r.start n = sym s.line ∙ ap r.start same in
        let p_is : l.place ≡ linked.line * 4 + (1 + 3 * linked.entry) = linked.is.is in
        let l_is : l.place ≡ r.start n * 4 + (1 + 3 * entry_place l.word) = label.place in
        let entry : linked.entry ≡ entry_place l.word = omega arith in
        let at : linked.line ≡ low (w.dir n) = line ∙ sym finished.line in
        record {
          entry = record {
            above = label.above;
            stored = finished.kind ∙ ap code kind;
            is = subst (λ (z : ℕ × ℕ). IsKeyEntry k.buckets (body w.log z.0) b l.place z.0 z.1)
                (λ i. (at i, entry i)) linked.is;
          };
          definition = ap (λ (z : ℕ). entry_id (body w.log z (entry_at (entry_place l.word) + 1))) finished.line
              ∙ ap entry_id (label.word known);
        }
