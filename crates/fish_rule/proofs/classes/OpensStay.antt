-- Numbers that a pass found unpublished since it loaded the tail: what a look adds, and that the list stays right.
use Rattle.std.proofs.Common.{◌≡◌, ◌≢◌, ℕ, ◌<◌, ◌≤◌, zero, suc, List, [], ◌∷◌, sym, ap, ◌∙◌, subst, inl, inr, arith}
use Rattle.std.proofs.Common.{Some, None, Option}
use Rattle.std.proofs.Math.Decide.{dec_lt}
use Rattle.fish_rule.proofs.basics.Context.{Among, Final, Flight, Key, Rule, View, World, get_elem?, some}
use Rattle.fish_layout.specs.Cleared.{choose}
use Rattle.fish_rule.proofs.basics.Lists.{all_map}
use Rattle.fish_rule.specs.Facts.{AreOpens}
use Rattle.fish_rule.specs.Parts.{Flies}
use Rattle.fish_rule.specs.LoadSteps.{opens_after, with_open}
use Rattle.fish_rule.specs.Views.{AllOf, IsFlightOf}
use Rattle.fish_rule.specs.declared.view.Opens.{Opens}

-- ---- what lasts

-- of the numbers in a list nothing is lost: which lane claimed them and those after them stays
module _ {k : Key} {w w' : World} {start start' lane_of lane_of' : ℕ → ℕ}
    (f : Final k start start' lane_of lane_of' w w') where
  -- one list stays right
  open_later : (o : Opens) → AreOpens k w.count w.dir lane_of o → AreOpens k w'.count w'.dir lane_of' o
  open_later o h = record {
    within = (let a = h.within in let b = f.counts in omega arith);
    below = h.below;
    latest = λ m n among more less same. (let a = h.within in
        h.latest m n among more less (sym (f.lanes m (omega arith)) ∙ same ∙ f.lanes n (omega arith)));
  }

  -- and so do all
  pub opens_later : (os : List Opens) → AllOf (AreOpens k w.count w.dir lane_of) os
      → AllOf (AreOpens k w'.count w'.dir lane_of') os
  opens_later = all_map (AreOpens k w.count w.dir lane_of) (AreOpens k w'.count w'.dir lane_of') open_later

-- ---- a load of the tail and a look

module _ {k : Key} {w : World} (r : Rule k w) where
  -- a list begins without numbers
  pub opens_begin : (count : ℕ) → count ≤ w.count
      → AreOpens k w.count w.dir r.lane_of (record { count = count; numbers = [] })
  opens_begin count within = record {
    within = within;
    below = λ n among. elim among [ ];
    latest = λ m n among. elim among [ ];
  }

  -- a record in flight with a pass is its lane's last claim
  flight_last : (m n lane : ℕ) (o : Option Flight) → IsFlightOf n o → Flies k w.count w.dir w.log r.start r.lane_of lane o
      → n < m → m < w.count → r.lane_of m ≢ r.lane_of n
  flight_last m n lane None is h more less same = elim is [ ]
  flight_last m n lane (Some g) is h more less same =
      h.latest m (subst (λ (z : ℕ). z < m) (sym is) more) less (same ∙ ap r.lane_of (sym is) ∙ h.owner)

  -- so is each unpublished number
  unpublished_last : (m n : ℕ) → k.number ≤ n → w.dir n ≡ 0 → n < m → m < w.count → r.lane_of m ≢ r.lane_of n
  unpublished_last m n above unset more less =
      let a = r.space.flying n above (omega arith) unset in
      flight_last m n a.view.lane a.view.flight a.flies (r.space.flights a.seat a.view a.at) more less

  -- a number that is unpublished now joins a list
  open_joins : (n : ℕ) → k.number ≤ n → w.dir n ≡ 0 → (o : Opens) → n < o.count
      → AreOpens k w.count w.dir r.lane_of o
      → AreOpens k w.count w.dir r.lane_of (record { count = o.count; numbers = n ∷ o.numbers })
  open_joins n above unset o below h = record { within = h.within; below = all_below; latest = all_latest }
    where
      all_below : (m : ℕ) → Among m (n ∷ o.numbers) → m < o.count
      all_below m (inl e) = subst (λ (z : ℕ). z < o.count) e below
      all_below m (inr among) = h.below m among

      all_latest : (m p : ℕ) → Among p (n ∷ o.numbers) → p < m → m < o.count → r.lane_of m ≢ r.lane_of p
      all_latest m p (inl e) more less same = (let within = h.within in
          unpublished_last m n above unset (omega arith) (omega arith) (same ∙ ap r.lane_of (sym e)))
      all_latest m p (inr among) more less same = h.latest m p among more less same

  -- a look keeps the lists right
  pub opens_looked : (id : ℕ) (v : View) → get_elem? w.views id ≡ some v → (n x : ℕ) → k.number ≤ n → x ≡ w.dir n
      → AllOf (AreOpens k w.count w.dir r.lane_of) (opens_after n x v.learned.opens)
  opens_looked id v at n (suc x) above is = r.opens id v at
  opens_looked id v at n zero above is = joins v.learned.opens (r.opens id v at)
    where
      joins : (os : List Opens) → AllOf (AreOpens k w.count w.dir r.lane_of) os
          → AllOf (AreOpens k w.count w.dir r.lane_of) (with_open n os)
      joins [] h = tt
      joins (o ∷ os) h = pick (dec_lt n o.count)
        where
          pick : (d : Dec (n < o.count)) → AllOf (AreOpens k w.count w.dir r.lane_of)
              (choose d (record { count = o.count; numbers = n ∷ o.numbers } ∷ o ∷ os) (o ∷ os))
          pick (yes below) = (open_joins n above (sym is) o below h.0, h)
          pick (no past) = h
