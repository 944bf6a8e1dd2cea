-- Where a chain leads that has no more places of the table: to the head that its bucket had at the start.
use Rattle.std.proofs.Common.{◌≡◌, ℕ, ◌+◌, ◌*◌, ◌<◌, ◌≤◌, List, ◌∷◌, ◌⊎◌, ⊎_elim, arith, Some}
use Rattle.std.proofs.Math.Decide.{ℕ_discrete, dec_lt}
use Rattle.fish_layout.specs.Cleared.{choose}
use Rattle.fish_rule.proofs.basics.Flights.{flight_is}
use Rattle.fish_rule.proofs.basics.Context.{Flight, Key, Rule, View, World, get_elem?, some}
use Rattle.fish_rule.proofs.basics.Places.{record_at}
use Rattle.fish_rule.proofs.basics.Regions.{starts_above}
use Rattle.fish_rule.specs.Chains.{Linked}
use Rattle.fish_rule.specs.ChainSteps.{with_node}
use Rattle.fish_rule.specs.Parts.{first_head}
use Rattle.fish_rule.specs.Views.{AllOf}
use Rattle.fish_rule.specs.declared.view.EntryPlace.{EntryPlace}

-- a place after the base's that is linked joins the nodes
pub node_joins : (P : EntryPlace → Type 0) (k : Key) (b x : ℕ) (nodes : List EntryPlace) → AllOf P nodes
    → (k.line * 4 < x → P (record { bucket = b; place = x })) → AllOf P (with_node k b x nodes)
node_joins P k b x nodes all here = by (dec_lt (k.line * 4) x)
  where
    by : (d : Dec (k.line * 4 < x)) → AllOf P (choose d (record { bucket = b; place = x } ∷ nodes) nodes)
    by (yes h) = (here h, all)
    by (no h) = all

-- ---- the base

module _ {k : Key} {w : World} (r : Rule k w) where
  -- the head of the start is no place of the table
  pub first_low : (b : ℕ) → first_head k b ≤ k.line * 4
  first_low b = by (ℕ_discrete (first_head k b) 0)
    where
      by : Dec (first_head k b ≡ 0) → first_head k b ≤ k.line * 4
      by (yes e) = omega arith
      by (no ne) = (let less = r.key_fits.older_heads b ne in omega arith)

  -- a record in flight is at or after the base's line
  pub flight_from : (id : ℕ) (v : View) → get_elem? w.views id ≡ some v → (f : Flight) → v.flight ≡ Some f
      → k.line ≤ f.line
  flight_from id v at f flying =
      let own = flight_is r id at f flying in
      let line = own.line in
      let below = own.below in
      let from = starts_above k w.count w.line r.start r.space.regions f.number own.above (omega arith) in
      omega arith

  -- a linked place is after the base's
  pub linked_from : (b p : ℕ) → Linked k w.dir w.log w.views b p → k.line * 4 < p
  linked_from b p h =
      let s = record_at r h.line h.entry h.shows in
      let below = s.below in
      let from = starts_above k w.count w.line r.start r.space.regions s.number s.above (omega arith) in
      let line = s.line in
      let is : p ≡ h.line * 4 + (1 + 3 * h.entry) = h.is.is in
      omega arith

  -- a place that is the start's head or linked is the start's head where it is no place of the table
  pub first_else : (b x : ℕ) → (x ≡ first_head k b) ⊎ Linked k w.dir w.log w.views b x → x ≤ k.line * 4
      → x ≡ first_head k b
  first_else b x is low_ = ⊎_elim (λ (e : x ≡ first_head k b). e)
      (λ (h : Linked k w.dir w.log w.views b x). let from = linked_from b x h in absurd (omega arith)) is

  -- and linked where it is one
  pub linked_else : (b x : ℕ) → (x ≡ first_head k b) ⊎ Linked k w.dir w.log w.views b x → k.line * 4 < x
      → Linked k w.dir w.log w.views b x
  linked_else b x is more = ⊎_elim (λ (e : x ≡ first_head k b). let low_ = first_low b in absurd (omega arith))
      (λ (h : Linked k w.dir w.log w.views b x). h) is
