-- What a claim leaves that placed no record: the pass may go on as it was.
use Rattle.std.proofs.Common.{◌≡◌, [], ℕ, ◌+◌, ◌<◌, ◌≤◌, suc, List, refl, sym, ap, ◌∙◌, subst, inr, arith, None, Some}
use Rattle.std.proofs.Common.{Option}
use Rattle.fish_claim.specs.Claims.{IsClaimed, answer_of, claimed_view}
use Rattle.fish_claim.specs.declared.claimed.Claimed.TheVariants as answer
use Rattle.fish_layout.specs.Header.{void_word}
pub use Rattle.fish_rule.proofs.laws.Learning.{learns_same}
use Rattle.fish_rule.proofs.laws.Learning.{ahead, learns_both, learns_self}
use Rattle.fish_rule.specs.Clocks.{IsLater}
use Rattle.fish_rule.specs.Logs.{Learns}
use Rattle.fish_rule.specs.Regions.{kind_of}
use Rattle.fish_rule.specs.SpaceSteps.{CanClaimLines, after_claim_lines, after_publish_region, after_store_word}
use Rattle.fish_rule.specs.SpaceSteps.{flight_at, flight_kind, own_after}
use Rattle.fish_rule.specs.SpaceSteps.{records_after, shut_after, with_word}
use Rattle.fish_rule.specs.Views.{Among}
use Rattle.fish_rule.specs.World.{slots}
use Rattle.fish_rule.specs.declared.view.Flight.{Flight}
use Rattle.fish_rule.specs.declared.view.Kind.{Kind}
use Rattle.fish_rule.specs.declared.view.Kind.TheVariants.{Mark, Stored, Void}
use Rattle.fish_rule.specs.declared.view.Learned.{Learned}
use Rattle.fish_rule.specs.declared.view.Recorded.{Recorded}
use Rattle.fish_rule.specs.declared.view.Shut.{Shut}
use Rattle.fish_rule.specs.declared.view.View.{View}

-- ---- what is known after it

-- a view of the same table that counts more numbers, or as many, and learned nothing else
pub learns_count : (v u : View) (count : ℕ) → u.about ≡ v.about → u.learned ≡ record v.learned { count = count }
    → v.learned.count ≤ count → Learns v u
learns_count v u count about learned more =
    subst (λ (l : Learned). Learns v (record u { learned = l })) (sym learned) (assumption (learns_self v, about, more))

-- a claim counts its number, and takes away nothing that was learned
pub claim_learns : (v : View) (lines number line : ℕ) → v.learned.count ≤ number
    → Learns v (after_claim_lines v lines number line)
claim_learns v lines number line counted =
    learns_count v (after_claim_lines v lines number line) (suc number) refl refl (omega arith)

-- nor does a store
store_learns : (v : View) (f : Flight) (x : ℕ) → Learns v (after_store_word v f x)
store_learns v f x = learns_same v (after_store_word v f x) refl refl

-- a publication adds to the records that are known, or leaves them
records_more : (kind : Kind) (f : Flight) (records : List Recorded) (x : Recorded) → Among x records
    → Among x (records_after kind f records)
records_more Stored f records x m = inr m
records_more Void f records x m = m
records_more Mark f records x m = m

-- and it takes away nothing either
pub publish_learns : (v : View) (f : Flight) → Learns v (after_publish_region v f)
publish_learns v f = assumption (
  learns_self v,
  ahead (record { number = f.number; kind = flight_kind v f; line = f.line; lines = f.lines }) v.learned.found,
  records_more (flight_kind v f) f v.learned.records,
)

-- the claim placed no record: the pass has nothing in flight, is shut by this or not, and else is as it was, but for
-- its tail and what it learned; its next claim has a higher number, and there are only so many
pub record Unplaced (v : View) (shut : Option Shut) (u : View) : Type 0 where
  pub learns : Learns v u
  pub clock : IsLater v.clock u.clock
  pub frame : u ≡ record v {
    shut = u.shut;
    flight = u.flight;
    tail = u.tail;
    own = u.own;
    learned = u.learned;
    clock = u.clock;
  }
  pub shut_is : u.shut ≡ shut
  pub flight : u.flight ≡ None
  pub own : u.own ≡ v.own
  pub version : u.learned.version ≡ v.learned.version
  pub more : v.learned.count < u.learned.count
  pub within : u.learned.count ≤ v.about.number + slots v.about

-- ---- by the region's kind

module _ (v : View) (lines number line : ℕ) (counted : v.learned.count ≤ number)
    (within : number < v.about.number + slots v.about) where
  -- the region's kind
  abbrev kind_at : Kind
  kind_at = kind_of v.about.end line (line + lines)

  -- padding leaves the pass as it was
  void_unplaced : kind_at ≡ Void → Unplaced v v.shut (claimed_view Void v lines number line)
  void_unplaced is =
      let f : Flight = flight_at number line lines in
      let x : ℕ = void_word lines in
      let claimed : View = after_claim_lines v lines number line in
      let stored : View = after_store_word claimed f x in
      let published : View = after_publish_region stored (with_word f x) in
      record {
        learns = learns_both v stored published
            (learns_both v claimed stored (claim_learns v lines number line counted) (store_learns claimed f x))
            (publish_learns stored (with_word f x));
        clock = record { steps = omega arith; loads = omega arith; notes = []; since = refl };
        frame = refl;
        shut_is = ap (λ (z : Kind). shut_after z (with_word f x) v.about.end v.shut) is;
        flight = refl;
        version = refl;
        own = ap (λ (z : Kind). own_after z v.lane number v.own) is;
        more = omega arith;
        within = omega arith;
      }

  -- a mark shuts it
  mark_unplaced : kind_at ≡ Mark → Unplaced v (Some (record { line = line; lines = lines; end = v.about.end }))
      (claimed_view Mark v lines number line)
  mark_unplaced is =
      let f : Flight = flight_at number line lines in
      let claimed : View = after_claim_lines v lines number line in
      record {
        learns = learns_both v claimed (after_publish_region claimed f) (claim_learns v lines number line counted)
            (publish_learns claimed f);
        clock = record { steps = omega arith; loads = omega arith; notes = []; since = refl };
        frame = refl;
        shut_is = ap (λ (z : Kind). shut_after z f v.about.end v.shut) is;
        flight = refl;
        version = refl;
        own = ap (λ (z : Kind). own_after z v.lane number v.own) is;
        more = omega arith;
        within = omega arith;
      }

-- ---- by the answer

-- a void is answered for a region of its kind alone
void_kind : (kind : Kind) (end n line lines number : ℕ) → answer.Void number ≡ answer_of kind end n line lines
    → kind ≡ Void
void_kind Stored end n line lines number e = cc
void_kind Void end n line lines number e = refl
void_kind Mark end n line lines number e = cc

-- and an overflow for a mark's, of this claim
mark_kind : (kind : Kind) (end n line lines : ℕ) (shut : Shut) → answer.Overflow shut ≡ answer_of kind end n line lines
    → (kind ≡ Mark) × (record { line = line; lines = lines; end = end } ≡ shut)
mark_kind Stored end n line lines shut e = cc
mark_kind Void end n line lines shut e = cc
mark_kind Mark end n line lines shut e = (refl, cc)

-- after a void the pass is as it was
pub void_law : (v u : View) (lines number : ℕ) → IsClaimed v lines (answer.Void number) u → Unplaced v v.shut u
void_law v u lines number is =
    let kind = void_kind (kind_of v.about.end is.line (is.line + lines)) v.about.end is.number is.line lines number
    is.answered in
    subst (Unplaced v v.shut) (sym (is.known ∙ ap (λ (z : Kind). claimed_view z v lines is.number is.line) kind))
    (void_unplaced v lines is.number is.line is.counted is.within kind)

-- after an overflow it is shut by this claim
pub overflow_law : (v u : View) (lines : ℕ) (shut : Shut) → IsClaimed v lines (answer.Overflow shut) u
    → Unplaced v (Some shut) u
overflow_law v u lines shut is =
    let t = mark_kind (kind_of v.about.end is.line (is.line + lines)) v.about.end is.number is.line lines shut
    is.answered in
    let left = subst (Unplaced v (Some (record { line = is.line; lines = lines; end = v.about.end })))
    (sym (is.known ∙ ap (λ (z : Kind). claimed_view z v lines is.number is.line) t.0))
    (mark_unplaced v lines is.number is.line is.counted is.within t.0) in
    subst (λ (z : Shut). Unplaced v (Some z) u) t.1 left

-- so a pass that met a void may claim again
pub void_claims : (v u : View) → CanClaimLines v → Unplaced v v.shut u → CanClaimLines u
void_claims v u can left = record {
  live = subst (λ (z : ℕ). 1 ≤ z) (sym (ap (λ (z : View). z.lane) left.frame)) can.live;
  idle = left.flight;
  ready = left.shut_is ∙ can.ready;
  version = can.version;
  entered = ap (λ (z : View). z.epoch) left.frame ∙ can.entered;
}
