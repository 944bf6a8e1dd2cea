-- `load_tail`: a load of the tail.
use Rattle.std.proofs.Common.{◌≡◌, ℕ, ◌≤◌, [], set, sym, refl, subst, arith, get_or}
use Rattle.fish_rule.proofs.basics.Context.{Key, Rule, View, World, get_elem?, none, some}
use Rattle.fish_rule.proofs.basics.Lasts.{Lasts}
use Rattle.fish_rule.specs.Parts.{RestsAt}
use Rattle.fish_rule.proofs.classes.OpensStay.{opens_begin}
use Rattle.fish_rule.specs.LoadSteps.{after_load_tail}
use Rattle.fish_rule.specs.World.{high, low, world}
use Rattle.fish_rule.proofs.classes.Loads.{learn_lasts, still_chained}
use Rattle.fish_rule.specs.Told.{ToldLoadTail}
use Rattle.fish_rule.proofs.classes.Allowed.{Allows, Ruled, Sat, allowed, loaded_words, stands, step, there}

module _ {k : Key} {w : World} (r : Rule k w) (id : ℕ) {v : View} (at : get_elem? w.views id ≡ some v) where
  -- a load of the tail
  pub load_tail_lasts : (x : ℕ) → high x ≡ w.count → low x ≡ w.line
      → Lasts r (record w { views = set w.views id (after_load_tail v x) })
  load_tail_lasts x count line =
      let h = r.facts id v at in
      let u : View = after_load_tail v x in
      let still = still_chained r id at u.learned u.tail v.round u.clock in
      let counted : high x ≤ w.count = subst (λ (z : ℕ). z ≤ w.count) (sym count) (omega arith) in
      learn_lasts r id at u.learned u.tail v.round u.clock (λ control all. (count, line)) (assumption (h, counted))
      (opens_begin r (high x) counted, r.opens id v at) (r.floors id v at) (assumption still) (r.registry.each id v at)

  -- the count only rises
  pub end_counted : (x : ℕ) → high x ≡ w.count → v.learned.count ≤ high x
  end_counted x count = subst (λ (z : ℕ). v.learned.count ≤ z) (sym count) (r.facts id v at).counted

  -- it is at or past the number at which the table begins
  pub end_from : (x : ℕ) → high x ≡ w.count → k.number ≤ high x
  end_from x count = (let a = r.settling.from in let b = r.settling.within in omega arith)

  -- and at or past the settled number
  pub end_settled : (x : ℕ) → high x ≡ w.count → v.learned.settled ≤ high x
  end_settled x count = (let a = r.floors id v at in let b = r.settling.within in omega arith)

  -- while no lane is out, the tail is as it was left
  pub end_rests : (x : ℕ) → high x ≡ w.count → low x ≡ w.line → v.lane ≡ 1 → v.out ≡ [] → RestsAt (high x) (low x) v.tail
  end_rests x count line control all = subst (λ (z : ℕ × ℕ). RestsAt z.0 z.1 v.tail)
      (λ d. (sym count d, sym line d)) (r.tails id v at control all)

-- a load of the tail
pub load_tail_allowed : (given k : Key) → given ≡ k → (size id : ℕ) (me : Sat) → me.0.about ≡ k
    → Allows (Ruled given) size id me 0 (λ n. n) (ToldLoadTail (step size 0 0 0 none) me)
load_tail_allowed given k same size id me about =
    allowed given k same size id me 0 (λ n. n) (ToldLoadTail (step size 0 0 0 none) me) (λ ws vs wide r at.
    let w : World = world k ws vs in
    let x : ℕ = get_or ws 0 0 in
    let v' : View = after_load_tail me.0 x in
    let kept = (load_tail_lasts r id at x refl refl).0 in (
      v',
      loaded_words k ws (set vs id v') 0 kept,
      record {
        told = record { view = refl; held = refl; stands = stands k _ id v' kept about (there vs id me.0 v' at) };
        from = subst (λ (z : Key). z.number ≤ high x) (sym about) (end_from r id at x refl);
        counted = end_counted r id at x refl;
        settled = end_settled r id at x refl;
        rests = λ control all. end_rests r id at x refl refl control all;
      },
    ))
