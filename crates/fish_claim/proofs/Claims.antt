-- What a claim leaves in flight, and when it may be published at once.
use Rattle.std.proofs.Common.{◌≡◌, ℕ, ◌+◌, ◌<◌, ◌≤◌, suc, refl, sym, ap, ◌∙◌, subst, arith, Some}
use Rattle.fish_claim.specs.Claims.{IsClaimed, answer_of, claimed_view}
use Rattle.fish_claim.specs.declared.claimed.Claimed.{Claimed}
use Rattle.fish_layout.specs.Header.{void_word}
use Rattle.fish_rule.proofs.laws.Regions.{kind-inside}
use Rattle.fish_rule.proofs.laws.Steps.{FlightLaw, flight_law}
use Rattle.fish_rule.specs.Passes.{IsPassOf, view}
use Rattle.fish_rule.specs.Regions.{kind_of}
use Rattle.fish_rule.specs.Registry.{KnowsActive}
use Rattle.fish_rule.specs.SpaceSteps.{CanClaimLines, CanPublishRegion, CanStoreWord, IsReady, after_claim_lines}
use Rattle.fish_rule.specs.SpaceSteps.{after_publish_region, after_store_word}
use Rattle.fish_rule.specs.SpaceSteps.{flight_at, shut_after, with_word}
use Rattle.fish_rule.specs.Table.{IsOfMoment}
use Rattle.fish_rule.specs.World.{slots}
use Rattle.fish_rule.specs.declared.table.Log.{Log}
use Rattle.fish_rule.specs.declared.table.Pass.{Pass}
use Rattle.fish_rule.specs.declared.table.Region.{Region}
use Rattle.fish_rule.specs.declared.view.Flight.{Flight}
use Rattle.fish_rule.specs.declared.view.Key.{Key}
use Rattle.fish_rule.specs.declared.view.Kind.{Kind}
use Rattle.fish_rule.specs.declared.view.Kind.TheVariants.{Mark, Stored, Void}
use Rattle.fish_rule.specs.declared.view.View.{View}

module _ (v u : View) (lines n a : ℕ) (is : u ≡ after_claim_lines v lines n a) where
  -- the claimed region is in flight
  pub claimed_flight : u.flight ≡ Some (flight_at n a lines)
  claimed_flight = ap (λ (z : View). z.flight) is

  -- so it is within the table
  pub claimed_law : (k : Key) → u.about ≡ k → IsOfMoment u → FlightLaw k (flight_at n a lines)
  claimed_law k about s = flight_law k u (flight_at n a lines) about s claimed_flight

  -- the region's kind is that of the log's end before the claim
  pub claimed_kind : (k : Key) (kind : Kind) → u.about ≡ k → kind ≡ kind_of k.end a (a + lines)
      → kind_of v.about.end a (a + lines) ≡ kind
  claimed_kind k kind about told = ap (λ (z : Key). kind_of z.end a (a + lines))
      (ap (λ (z : View). z.about) (sym is) ∙ about) ∙ sym told

  -- the header of a void may be stored
  pub can_store_header : 0 < lines → kind_of v.about.end a (a + lines) ≡ Void → CanStoreWord u (flight_at n a lines)
  can_store_header some kind =
      let inside = kind-inside v.about.end a (a + lines) (λ e. (let f : Void ≡ Mark = sym kind ∙ e in cc)) in
      record {
        flying = claimed_flight;
        unlinked = refl;
        more = omega arith;
        within = subst (λ (z : View). a + lines ≤ z.about.end) (sym is) inside;
        header = λ void. refl;
      }

  -- a void with its header may be published
  pub can_publish_void : (t : View) → CanClaimLines v → kind_of v.about.end a (a + lines) ≡ Void
      → t ≡ after_store_word u (flight_at n a lines) (void_word lines)
      → CanPublishRegion t (with_word (flight_at n a lines) (void_word lines))
  can_publish_void t can kind stored =
      let w : View = after_store_word (after_claim_lines v lines n a) (flight_at n a lines) (void_word lines) in
      let f : Flight = with_word (flight_at n a lines) (void_word lines) in
      let same : t ≡ w = stored ∙ ap (λ (z : View). after_store_word z (flight_at n a lines) (void_word lines)) is in
      let may : CanPublishRegion w f = record {
        live = can.live;
        flying = refl;
        version = can.version;
        entered = can.entered;
        ready = subst (λ (z : Kind). IsReady (KnowsActive v.about w.learned) can.version z v.lane f)
            (sym kind) (refl, refl);
      } in
      subst (λ (z : View). CanPublishRegion z f) (sym same) may

  -- once it is, the pass is shut by the claim
  pub mark_shuts : (t : View) → kind_of v.about.end a (a + lines) ≡ Mark → t ≡ after_publish_region u (flight_at n a lines)
      → t.shut ≡ Some (record { line = a; lines = lines; end = v.about.end })
  mark_shuts t kind published =
      ap (λ (z : View). z.shut) (published ∙ ap (λ (z : View). after_publish_region z (flight_at n a lines)) is)
      ∙ ap (λ (z : Kind). shut_after z (flight_at n a lines) v.about.end v.shut) kind

-- the kind of a region of so many lines, told by the log
pub kind_is : (log : Log) (v : View) (p : Pass) (lines : ℕ) (r : Region) (kind : Kind) → IsPassOf log p
    → view p ≡ after_claim_lines v lines r.number r.line
    → r.lines ≡ lines → kind ≡ kind_of log.key.end r.line (r.line + r.lines)
    → kind_of v.about.end r.line (r.line + lines) ≡ kind
kind_is log v p lines r kind of is long told =
    claimed_kind v (view p) lines r.number r.line is log.key kind of.about
    (subst (λ (z : ℕ). kind ≡ kind_of log.key.end r.line (r.line + z)) long told)

-- whatever a claim became, its number is counted
claimed_count : (kind : Kind) (v : View) (lines n a : ℕ) → (claimed_view kind v lines n a).learned.count ≡ suc n
claimed_count Stored v lines n a = refl
claimed_count Void v lines n a = refl
claimed_count Mark v lines n a = refl

-- and the pass is entered as it was
claimed_epoch : (kind : Kind) (v : View) (lines n a : ℕ) → (claimed_view kind v lines n a).epoch ≡ v.epoch
claimed_epoch Stored v lines n a = refl
claimed_epoch Void v lines n a = refl
claimed_epoch Mark v lines n a = refl

-- a claim whose region has this kind is answered by it
pub claimed_as : (k : Key) (v u : View) (lines n a : ℕ) (answer : Claimed) (kind : Kind) → v.about ≡ k
    → v.learned.count ≤ n → n < k.number + slots k → kind_of v.about.end a (a + lines) ≡ kind
    → answer ≡ answer_of kind v.about.end n a lines → u ≡ claimed_view kind v lines n a → IsClaimed v lines answer u
claimed_as k v u lines n a answer kind about counted within is answered known = record {
  number = n;
  line = a;
  answered = subst (λ (z : Kind). answer ≡ answer_of z v.about.end n a lines) (sym is) answered;
  known = subst (λ (z : Kind). u ≡ claimed_view z v lines n a) (sym is) known;
  counted = counted;
  within = subst (λ (z : Key). n < z.number + slots z) (sym about) within;
  count = ap (λ (z : View). z.learned.count) known ∙ claimed_count kind v lines n a;
  epoch = ap (λ (z : View). z.epoch) known ∙ claimed_epoch kind v lines n a;
}
