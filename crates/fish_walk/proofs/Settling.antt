-- What the loads, the looks and the raise of a whole call tell together.
use Rattle.fish_rule.specs.declared.view.Opens.{Opens}
use Rattle.std.proofs.Common.{◌≡◌, ◌≢◌, ℕ, ◌<◌, ◌≤◌, max, sym, ap, ◌∙◌, subst, inl, inr, ◌⊎◌, arith}
use Rattle.std.proofs.Math.Decide.{dec_lt}
use Rattle.fish_rule.proofs.laws.Clocks.{later_both, later_ticked, loaded_within, noted_load}
use Rattle.fish_rule.proofs.laws.Learning.{extends_both, learns_self}
use Rattle.fish_rule.specs.Clocks.{HasLoaded, IsLater}
use Rattle.fish_rule.specs.LoadSteps.{CanRaiseSettled, IsAlone, after_load_tail, after_load_settled}
use Rattle.fish_rule.specs.Logs.{Learns}
use Rattle.fish_rule.specs.Views.{Among}
use Rattle.fish_rule.specs.World.{high}
use Rattle.fish_rule.specs.declared.view.Found.{Found}
use Rattle.fish_rule.specs.declared.view.Key.{Key}
use Rattle.fish_rule.specs.declared.view.Kind.TheVariants.{Mark}
use Rattle.fish_rule.specs.declared.view.Noted.TheVariants.{Tail}
use Rattle.fish_rule.specs.declared.view.View.{View}
use Rattle.fish_walk.proofs.Looking.{stops_within}
use Rattle.fish_walk.specs.Settling.{HasLoadedCount, OnlySettles, SettlesAt}
use Rattle.fish_walk.specs.within.Settling.{AreSettled, OnlyLooks, OnlyRaises}

-- the views of a call: as it began, and after each of its parts
module _ (a b c d e : View) (known x settled : ℕ) (to_b : b ≡ after_load_settled a known) (to_c : c ≡ after_load_tail b x)
    (looked : OnlyLooks c d) (raised : OnlyRaises d e settled) where
  -- until the count is loaded
  on_b : IsLater a.clock b.clock
  on_b = subst (λ (z : View). IsLater a.clock z.clock) (sym to_b) (later_ticked a.clock)

  -- the load of the count
  counts : HasLoaded b.clock c.clock Tail x
  counts = subst (λ (z : View). HasLoaded b.clock z.clock Tail x) (sym to_c) (noted_load b.clock Tail x)

  -- the count is one of this call's
  pub counted_here : (count : ℕ) → count ≡ high x → HasLoadedCount a e count
  counted_here count is = record {
    tail = x;
    loaded = loaded_within a.clock b.clock c.clock e.clock Tail x on_b counts
        (later_both c.clock d.clock e.clock looked.extends.clock raised.extends.clock);
    is = sym is;
  }

  -- the view after a load of the settled number and one of the tail
  abbrev begun : View
  begun = after_load_tail (after_load_settled a known) x

  -- it is the one that the looks began with
  begun_is : c ≡ begun
  begun_is = to_c ∙ ap (λ (z : View). after_load_tail z x) to_b

  -- which knows what the first one knew
  learns_begun : a.learned.settled ≤ known → a.learned.count ≤ high x → Learns a c
  learns_begun rises more = subst (Learns a) (sym begun_is)
      (let opens : (o : Opens) → Among o a.learned.opens → Among o begun.learned.opens = λ o m. inr m in
      assumption (learns_self begun, rises, more, opens))

  -- the stop is one of this call's too
  pub stops_here : a.learned.settled ≤ known → b.learned.count ≤ high x → (P : ℕ → Type 0) (number count : ℕ)
      → SettlesAt P c d number count → SettlesAt P a e number count
  stops_here rises more P number count stop =
      let began : b.learned.count ≡ a.learned.count = ap (λ (z : View). z.learned.count) to_b in
      stops_within P a c d e number count (learns_begun rises (omega arith))
      (later_both a.clock b.clock c.clock on_b counts.on) stop raised.extends.clock

  -- a pass that is alone is alone still
  pub alone_still : IsAlone a → IsAlone c
  alone_still alone = subst IsAlone (sym begun_is)
      (record { control = alone.control; all = alone.all; idle = alone.idle })

  -- the settled number rises, and else only the tail changes
  pub settles_all : a.learned.settled ≤ known → (count : ℕ) → count ≡ high x → b.learned.count ≤ count
      → OnlySettles a e
  settles_all rises count is more = subst (λ (z : View). OnlyLooks z d → OnlySettles a e) (sym begun_is) all looked
    where
      all : OnlyLooks (after_load_tail (after_load_settled a known) x) d → OnlySettles a e
      all h =
          let l = extends_both (after_load_tail (after_load_settled a known) x) d e h.extends raised.extends in
          let up = l.learns.settled in
          let n = l.learns.count in
          let began : b.learned.count ≡ a.learned.count = ap (λ (z : View). z.learned.count) to_b in
          let count : a.learned.count ≤ e.learned.count = omega arith in
          let settled : a.learned.settled ≤ e.learned.settled = omega arith in
          let opens : (o : Opens) → Among o a.learned.opens → Among o e.learned.opens = λ o m. l.learns.opens o (inr m) in
          record {
            learns = assumption (l.learns, count, settled, opens);
            clock = later_both a.clock b.clock e.clock on_b (later_both b.clock c.clock e.clock counts.on
                (later_both c.clock d.clock e.clock looked.extends.clock raised.extends.clock));
            loads = raised.loads ∙ looked.loads ∙ ap (λ (z : View). z.clock.loads) begun_is;
            frame = l.frame ∙ (λ i. record a {
              tail = sym (ap (λ (z : View). z.tail) l.frame) i;
              learned = e.learned;
              clock = e.clock;
            });
          }

-- the number at which the looks stopped may be the settled one
pub can_raise : (a b c d : View) (known x first settled count : ℕ) → b ≡ after_load_settled a known
    → c ≡ after_load_tail b x → OnlyLooks c d → first ≡ max a.about.number known
    → AreSettled d first settled → settled ≤ count → count ≡ high x → CanRaiseSettled d settled
can_raise a b c d known x first settled count to_b to_c looked from are within is =
    let l = looked.extends in
    let same : c.learned.settled ≡ known = ap (λ (z : View). z.learned.settled) to_c
    ∙ ap (λ (z : View). z.learned.settled) to_b in
    let kept = looked.settled in
    let counted : c.learned.count ≡ high x = ap (λ (z : View). z.learned.count) to_c in
    let all = looked.count in
    let about : d.about ≡ a.about = l.learns.about ∙ ap (λ (z : View). z.about) to_c
    ∙ ap (λ (z : View). z.about) to_b in
    let base : d.about.number ≡ a.about.number = ap (λ (z : Key). z.number) about in
    record {
      within = omega arith;
      known = λ n above below. pick n above below (dec_lt n first);
    }
  where
    pick : (n : ℕ) → d.about.number ≤ n → n < settled → Dec (n < first) → (n < d.learned.settled)
        ⊎ ((f : Found) × Among f d.learned.found × (f.number ≡ n) × (f.kind ≢ Mark))
    pick n above below (yes less) =
        let same : c.learned.settled ≡ known = ap (λ (z : View). z.learned.settled) to_c
        ∙ ap (λ (z : View). z.learned.settled) to_b in
        let kept = looked.settled in
        let about : d.about ≡ a.about = looked.extends.learns.about ∙ ap (λ (z : View). z.about) to_c
        ∙ ap (λ (z : View). z.about) to_b in
        let base : d.about.number ≡ a.about.number = ap (λ (z : Key). z.number) about in
        inl (omega arith)
    pick n above below (no not_less) = inr (are n (omega arith) below)
