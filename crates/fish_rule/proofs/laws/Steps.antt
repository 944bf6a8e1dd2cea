-- What the owner of a view may conclude of steps on regions, from that it stands.
use Rattle.std.proofs.Common.{◌≡◌, ◌≢◌, ℕ, ◌+◌, ◌-◌, ◌*◌, ◌<◌, ◌≤◌, suc, sym, ap, ◌∙◌, subst, arith, Some}
use Rattle.fish_rule.proofs.basics.Bodies.{kind-inside}
use Rattle.fish_rule.proofs.basics.Regions.{ends_within, starts_above, few_lines, few_numbers, few_slots}
use Rattle.fish_rule.proofs.basics.Lists.{all_among}
use Rattle.fish_layout.specs.Header.{lines_of}
use Rattle.fish_rule.proofs.basics.FoundRegions.{head_known, lines_found, region_found}
use Rattle.fish_rule.proofs.basics.Flights.{flight_is}
use Rattle.fish_rule.specs.Parts.{FitsTable}
use Rattle.fish_rule.specs.Facts.{IsFound, IsFactKnown}
use Rattle.fish_rule.specs.LoadSteps.{CanLookAt, CanReadWord}
use Rattle.fish_rule.specs.Table.{IsOfMoment}
use Rattle.fish_rule.proofs.basics.Context.{Among, Flight, Found, Key, View, World}
use Rattle.fish_rule.specs.World.{slots}
use Rattle.fish_rule.specs.declared.view.Kind.TheVariants.{Mark}

-- the region of a record in flight
pub record FlightLaw (k : Key) (f : Flight) : Type 0 where
  pub above : k.number ≤ f.number
  pub in_slots : f.number - k.number < slots k
  pub number : f.number < 268435456
  pub behind : k.line ≤ f.line
  pub some : 1 ≤ f.lines
  pub small : f.lines ≤ 18625
  pub low_line : f.line + f.lines < 68719476736

-- it is within the table
pub flight_law : (k : Key) (v : View) (f : Flight) → v.about ≡ k → IsOfMoment v → v.flight ≡ Some f → FlightLaw k f
flight_law key v f about s is =
    let k : Key = v.about in
    let w : World = s.moment in
    let r = s.rule in
    let own = flight_is r s.seat s.at f is in
    let above = own.above in
    let below = own.below in
    let line = own.line in
    let lines = own.lines in
    let room = few_slots r in
    let numbers = few_numbers r in
    let low_ = few_lines r in
    let from = starts_above k w.count w.line r.start r.space.regions f.number above (omega arith) in
    let end = ends_within k w.count w.line r.start r.space.regions f.number above below in
    let grows = r.space.regions.grows f.number above below in
    let small = r.space.regions.small f.number above below in
    subst (λ (z : Key). FlightLaw z f) about (record {
      above = above;
      in_slots = omega arith;
      number = omega arith;
      behind = omega arith;
      some = omega arith;
      small = omega arith;
      low_line = omega arith;
    })

-- the number that a pass may look at has a directory word
pub look_law : (k : Key) (v : View) (n : ℕ) → v.about ≡ k → IsOfMoment v → CanLookAt v n → (k.number ≤ n)
    × (n - k.number < slots k) × (n < 268435456)
look_law k v n about s can =
    let w : World = s.moment in
    let r = s.rule in
    let room = few_slots r in
    let numbers = few_numbers r in
    let counted = (r.facts s.seat v s.at).counted in
    let above = can.above in
    let below = can.below in
    subst (λ (z : Key). (z.number ≤ n) × (n - z.number < slots z) × (n < 268435456)) about
    (above, omega arith, omega arith)

-- the word that a pass may read is within the log
pub read_law : (k : Key) (v : View) (f : Found) (i : ℕ) → v.about ≡ k → IsOfMoment v → CanReadWord v f i
    → (k.line ≤ f.line) × (f.line + f.lines ≤ k.end) × (i < f.lines * 4)
read_law key v f i about s can =
    let k : Key = v.about in
    let w : World = s.moment in
    let r = s.rule in
    let found = all_among (IsFound k w.count w.dir r.start) f v.learned.found (r.facts s.seat v s.at).found can.found in
    let line = found.line in
    let lines = found.lines in
    let from = starts_above k w.count w.line r.start r.space.regions f.number found.above
    (let b = found.below in omega arith) in
    let t = region_found r f found in
    let end = kind-inside k.end (r.start f.number) (r.start (suc f.number)) (λ e. can.words (sym t.1 ∙ e)) in
    subst (λ (z : Key). (z.line ≤ f.line) × (f.line + f.lines ≤ z.end) × (i < f.lines * 4)) about
    (omega arith, omega arith, can.inside)

-- the key of a table that a view stands in
pub fits_law : (v : View) → IsOfMoment v → FitsTable v.about
fits_law v s = s.rule.key_fits

-- the header of a region that was found tells its lines
pub header_law : (v : View) (f : Found) (h : ℕ) → IsOfMoment v → Among f v.learned.found → f.kind ≢ Mark
    → Among (record { place = f.line * 4; value = h }) v.learned.known → lines_of h ≡ f.lines
header_law v f h s among words read =
    let k : Key = v.about in
    let w : World = s.moment in
    let r = s.rule in
    let facts = r.facts s.seat v s.at in
    let found = all_among (IsFound k w.count w.dir r.start) f v.learned.found facts.found among in
    let head = head_known r f h found
    (all_among (IsFactKnown k w.count w.dir w.log r.start) _ v.learned.known facts.known read) in
    ap lines_of (sym head) ∙ lines_found r f found words

-- a region that was found has a line
pub found_law : (v : View) (f : Found) → IsOfMoment v → Among f v.learned.found → 1 ≤ f.lines
found_law v f s among =
    let w : World = s.moment in
    let r = s.rule in
    let found = all_among (IsFound v.about w.count w.dir r.start) f v.learned.found
    (r.facts s.seat v s.at).found among in
    let line = found.line in
    let lines = found.lines in
    let grows = r.space.regions.grows f.number found.above found.below in
    omega arith

-- the count that a pass loaded has 28 bits
pub count_law : (v : View) → IsOfMoment v → v.learned.count < 268435456
count_law v s =
    let w : World = s.moment in
    let r = s.rule in
    let numbers = few_numbers r in
    let counted = (r.facts s.seat v s.at).counted in
    omega arith

-- and so is a count
pub counted_law : (v : View) → IsOfMoment v → v.learned.count ≤ 268435455
counted_law v s =
    let counted = (s.rule.facts s.seat v s.at).counted in
    let numbers = few_numbers s.rule in
    omega arith
