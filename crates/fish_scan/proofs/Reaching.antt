-- What a scan knows of the numbers in its range stays known.
use Rattle.std.proofs.Common.{◌≡◌, ◌≢◌, ℕ, ◌+◌, ◌-◌, ◌<◌, ◌≤◌, List, refl, sym, ap, ◌∙◌, subst, inl, inr, arith, Some, slice_get}
use Rattle.std.proofs.Math.Decide.{dec_lt}
use Rattle.std.proofs.Math.ListN.{get_or}
use Rattle.std.proofs.lemmas.Option.{same_Some, slice_get-get_or}
use Rattle.fish_rule.proofs.laws.Regions.{code_once}
use Rattle.fish_rule.proofs.laws.Lists.{all_among}
use Rattle.fish_rule.proofs.laws.Regions.{published}
use Rattle.fish_rule.specs.Facts.{IsFound}
use Rattle.fish_rule.specs.Logs.{Learns}
use Rattle.fish_rule.specs.Parts.{IsEntryWord}
use Rattle.fish_rule.specs.Regions.{code}
use Rattle.fish_rule.specs.Views.{Among}
use Rattle.fish_rule.specs.ChainFacts.{Always}
use Rattle.fish_rule.specs.World.{high}
use Rattle.fish_rule.specs.declared.view.Key.{Key}
use Rattle.fish_rule.specs.declared.view.Kind.{Kind}
use Rattle.fish_rule.specs.declared.view.Kind.TheVariants.{Mark, Stored, Void}
use Rattle.fish_rule.specs.declared.view.View.{View}
use Rattle.fish_scan.specs.within.Reach.{AreSeen, IsReached}
use Rattle.fish_scan.specs.declared.reach.Reach.{Reach}
use Rattle.fish_walk.specs.Looks.{HasFound, IsEntryLook, IsLookAt}
use Rattle.fish_walk.specs.declared.outcome.Look.{Look}
use Rattle.fish_walk.specs.declared.outcome.Look.TheVariants as look

-- what was found at a number stays found
pub found_still : (v u : View) (n : ℕ) (kind : Kind) → Learns v u → HasFound v n kind → HasFound u n kind
found_still v u n kind learns h = (h.0, learns.found h.0 h.1, h.2, h.3)

-- and what a look told of it stays known
pub look_still : (v u : View) (n : ℕ) (r : Look) → Learns v u → IsLookAt v n r → IsLookAt u n r
look_still v u n look.Unfinished learns h = tt
look_still v u n look.Void learns h = found_still v u n _ learns h
look_still v u n look.Stored learns h = found_still v u n _ learns h
look_still v u n look.Overflow learns h = found_still v u n _ learns h

-- so it is of all looks
pub seen_still : (v u : View) (first : ℕ) (looks : List Look) (opens : List ℕ) → Learns v u → AreSeen v first looks opens
    → AreSeen u first looks opens
seen_still v u first looks opens learns h = record {
  each = λ i r at. (look_still v u (first + i) r learns (h.each i r at).0, (h.each i r at).1);
  unfinished = h.unfinished;
  open_ones = h.open_ones;
}

-- and of a range
pub reached_still : (v u : View) (reach : Reach) → Learns v u → IsReached v reach → IsReached u reach
reached_still v u reach learns h =
    let settled = h.settled in
    let counted = h.counted in
    let more = learns.settled in
    let many = learns.count in
    record {
      settled = omega arith;
      counted = omega arith;
      many = h.many;
      ordered = h.ordered;
      below = λ n base. h.below n (subst (λ (z : Key). z.number ≤ n) learns.about base);
      above = h.above;
      seen = seen_still v u reach.first reach.looks.items reach.opens learns h.seen;
    }

-- a number that was looked at, by its place among the looks
pub place_seen : (first number : ℕ) → first ≤ number → first + (number - first) ≡ number
place_seen first number h = omega arith

-- an entry's look is none of a mark, and none of an unfinished number
pub entry_unmarked : (r : Look) → IsEntryLook r → (r ≢ look.Overflow) × (r ≢ look.Unfinished)
entry_unmarked r (inl e) = (
  λ f. let bad : look.Stored ≡ look.Overflow = sym e ∙ f in cc,
  λ f. let bad : look.Stored ≡ look.Unfinished = sym e ∙ f in cc,
)
entry_unmarked r (inr e) = (
  λ f. let bad : look.Void ≡ look.Overflow = sym e ∙ f in cc,
  λ f. let bad : look.Void ≡ look.Unfinished = sym e ∙ f in cc,
)

-- a number that was looked at is what its look among the looks tells
pub looked_there : (v : View) (reach : Reach) (number : ℕ) (r : Look) → IsReached v reach → reach.first ≤ number
    → slice_get reach.looks.items (number - reach.first) ≡ Some r
    → IsLookAt v number r × (r ≢ look.Overflow) × (r ≡ look.Unfinished → Among number reach.opens)
    × (r ≢ look.Unfinished → ¬ Among number reach.opens)
looked_there v reach number r h first there =
    let place = place_seen reach.first number first in
    let told = h.seen.each _ _ there in (
      subst (λ (z : ℕ). IsLookAt v z r) place told.0,
      told.1,
      λ is. subst (λ (z : ℕ). Among z reach.opens) place (h.seen.unfinished _ (there ∙ ap Some is)),
      λ some among. let t = h.seen.open_ones number among in
          let same : number - reach.first ≡ t.0 = (let at = t.1 in omega arith) in
          some (same_Some _ _ (sym there ∙ ap (slice_get reach.looks.items) same ∙ t.2)),
    )

-- ---- what isn't open is published

-- a number that was found to be of a kind has a directory word of that kind
pub found_code : (v : View) (n : ℕ) (kind : Kind) → HasFound v n kind → Always v (λ k w. high (w.dir n) ≡ code kind)
found_code v n kind h u learns w rule seat at =
    let f = all_among (IsFound u.about w.count w.dir rule.start) h.0 u.learned.found (rule.facts seat u at).found
    (learns.found h.0 h.1) in
    subst (λ (z : ℕ). high (w.dir z) ≡ code h.0.kind) h.2 f.kind ∙ ap code h.3

-- and that of an entry, where the kind is no mark
pub found_word : (v : View) (n : ℕ) (kind : Kind) → kind ≢ Mark → HasFound v n kind → Always v (λ k w. IsEntryWord (w.dir n))
found_word v n kind other h u learns w rule seat at =
    let is : high (w.dir n) ≡ code kind = found_code v n kind h u learns w rule seat at in
    record {
      published = published (w.dir n) kind is;
      unmarked = λ m. other (code_once kind Mark (sym is ∙ m));
    }

module _ (v : View) (reach : Reach) (h : IsReached v reach) (n : ℕ) (base : v.about.number ≤ n) (above : reach.from ≤ n)
    (below : n < reach.to) (closed : ¬ Among n reach.opens) where
  -- what is settled is
  settled_word : n < reach.first → Always v (λ k w. IsEntryWord (w.dir n))
  settled_word less u learns w rule seat at =
      let floor = rule.floors seat u at in
      let more = learns.settled in
      let known = h.settled in
      let here = h.below n base above less in
      let first : u.about.number ≤ n = subst (λ (z : Key). z.number ≤ n) (sym learns.about) base in
      rule.settling.below n (omega arith) (omega arith)

  -- and so is what a look told of
  look_word : (r : Look) → reach.first ≤ n → slice_get reach.looks.items (n - reach.first) ≡ Some r
      → Always v (λ k w. IsEntryWord (w.dir n))
  look_word r less at = pick r at (h.seen.each (n - reach.first) r at)
    where
      place : reach.first + (n - reach.first) ≡ n
      place = place_seen reach.first n less

      pick : (r : Look) → slice_get reach.looks.items (n - reach.first) ≡ Some r
          → IsLookAt v (reach.first + (n - reach.first)) r × (r ≢ look.Overflow) → Always v (λ k w. IsEntryWord (w.dir n))
      pick look.Unfinished at f =
          absurd (closed (subst (λ (z : ℕ). Among z reach.opens) place (h.seen.unfinished (n - reach.first) at)))
      pick look.Void at f = found_word v n Void (λ e. cc) (subst (λ (z : ℕ). HasFound v z Void) place f.0)
      pick look.Stored at f = found_word v n Stored (λ e. cc) (subst (λ (z : ℕ). HasFound v z Stored) place f.0)
      pick look.Overflow at f = absurd (f.1 refl)

  pub reached_word : Always v (λ k w. IsEntryWord (w.dir n))
  reached_word = pick (dec_lt n reach.first)
    where
      pick : Dec (n < reach.first) → Always v (λ k w. IsEntryWord (w.dir n))
      pick (yes less) = settled_word less
      pick (no more) = look_word (get_or reach.looks.items (n - reach.first) look.Stored) (omega arith)
          (slice_get-get_or reach.looks.items (n - reach.first) look.Stored (let many = h.many in omega arith))
