-- Claims, one after the other, until one is a place for a record or shuts the pass.
use Rattle.std.proofs.Common.{◌≡◌, ◌≢◌, ℕ, ◌+◌, ◌-◌, ◌<◌, ◌≤◌, suc, refl, sym, ap, ◌∙◌, subst, inl, inr, ◌⊎◌, arith, Some, None}
use Rattle.fish_claim.proofs.Answered.{Unplaced, overflow_law, void_claims, void_law}
use Rattle.fish_claim.proofs.Bodies.{placed_law}
use Rattle.fish_claim.specs.Claims.{IsClaimed, answer_of, claimed_view}
use Rattle.fish_claim.specs.declared.claimed.Claimed.{Claimed}
use Rattle.fish_claim.specs.declared.claimed.Claimed.TheVariants as answer
use Rattle.fish_ingest.proofs.Passing.{found_both, found_map, found_same, moved_to, on_both, on_self}
use Rattle.fish_ingest.specs.Passing.{OnlyIngests, HasMark, FoundSince}
use Rattle.fish_ingest.specs.within.Placement.{HasPlace, IsShutBy}
use Rattle.fish_rule.proofs.laws.Clocks.{later_ticked}
use Rattle.fish_rule.specs.Clocks.{IsLater}
use Rattle.fish_rule.specs.Regions.{kind_of}
use Rattle.fish_rule.specs.SpaceSteps.{CanClaimLines}
use Rattle.fish_rule.specs.Views.{Among}
use Rattle.fish_rule.specs.World.{slots}
use Rattle.fish_rule.specs.declared.view.Found.{Found}
use Rattle.fish_rule.specs.declared.view.Key.{Key}
use Rattle.fish_rule.specs.declared.view.Kind.{Kind}
use Rattle.fish_rule.specs.declared.view.Kind.TheVariants.{Mark, Stored, Void}
use Rattle.fish_rule.specs.declared.view.Shut.{Shut}
use Rattle.fish_rule.specs.declared.view.View.{View}

-- ---- what one claim found

-- the line and the lines of the claim that an answer names
abbrev line_in : Claimed → ℕ
line_in (answer.Overflow s) = s.line
line_in (answer.Void n) = 0
line_in (answer.Placed n l) = 0

abbrev lines_in : Claimed → ℕ
lines_in (answer.Overflow s) = s.lines
lines_in (answer.Void n) = 0
lines_in (answer.Placed n l) = 0

-- where one region was found, what is new is of its kind
one_found : (v u : View) (f : Found) (kind : Kind) → f.kind ≡ kind
    → ((x : Found) → Among x u.learned.found → (f ≡ x) ⊎ Among x v.learned.found) → FoundSince (λ z. z ≡ kind) v u
one_found v u f kind is new x m = by (new x m)
  where
    by : (f ≡ x) ⊎ Among x v.learned.found → Among x v.learned.found ⊎ (x.kind ≡ kind)
    by (inl h) = inr (ap (λ (z : Found). z.kind) (sym h) ∙ is)
    by (inr h) = inl h

-- a void's claim found a void
void_found : (kind : Kind) (v u : View) (lines n number line : ℕ) → kind_of v.about.end line (line + lines) ≡ kind
    → answer.Void n ≡ answer_of kind v.about.end number line lines → u ≡ claimed_view kind v lines number line
    → FoundSince (λ z. z ≡ Void) v u
void_found Stored v u lines n number line is e known = absurd cc
void_found Mark v u lines n number line is e known = absurd cc
void_found Void v u lines n number line is e known =
    one_found v u _ Void is (λ x m. subst (λ (z : View). Among x z.learned.found) known m)

-- and a mark's a mark, which is then known
mark_found : (kind : Kind) (v u : View) (lines number line : ℕ) (shut : Shut) → kind_of v.about.end line (line + lines) ≡ kind
    → answer.Overflow shut ≡ answer_of kind v.about.end number line lines → u ≡ claimed_view kind v lines number line
    → FoundSince (λ z. z ≡ Mark) v u × (shut.lines ≡ lines) × HasMark u shut
mark_found Stored v u lines number line shut is e known = absurd cc
mark_found Void v u lines number line shut is e known = absurd cc
mark_found Mark v u lines number line shut is e known =
    let from : line ≡ shut.line = sym (ap line_in e) in
    let size : lines ≡ shut.lines = sym (ap lines_in e) in (
      one_found v u _ Mark is (λ x m. subst (λ (z : View). Among x z.learned.found) known m),
      sym size,
      (
        number,
        subst (λ (z : View). Among
            (record { number = number; kind = Mark; line = shut.line; lines = shut.lines }) z.learned.found) (sym known)
            (inl (λ j. record { number = number; kind = is j; line = from j; lines = size j })),
      ),
    )

-- ---- the claims so far

-- each claim so far became a void, and the pass may claim again
pub record IsTrying (v u : View) : Type 0 where
  pub on : OnlyIngests v u
  pub can : CanClaimLines u
  pub epoch : u.epoch ≡ v.epoch
  pub shut : u.shut ≡ v.shut
  pub own : u.own ≡ v.own
  pub fresh : v.learned.count ≤ u.learned.count
  pub version : u.learned.version ≡ v.learned.version
  pub voids : FoundSince (λ kind. kind ≡ Void) v u

pub trying_begins : (v : View) → CanClaimLines v → IsTrying v v
trying_begins v can = record {
  on = on_self v;
  can = can;
  epoch = refl;
  shut = refl;
  own = refl;
  fresh = omega arith;
  version = refl;
  voids = found_same (λ kind. kind ≡ Void) v v refl;
}

-- a claim that placed nothing goes on
on_unplaced : (v u : View) (shut : Rattle.std.proofs.Common.Option Shut) → Unplaced v shut u → OnlyIngests v u
on_unplaced v u shut h = record { learns = h.learns; clock = h.clock; frame = moved_to v u _ h.frame refl }

module _ (v u t : View) (lines : ℕ) (h : IsTrying v u) where
  -- one void more
  pub trying_more : (number : ℕ) → IsClaimed u lines (answer.Void number) t → IsTrying v t
  trying_more number is =
      let left = void_law u t lines number is in
      let fresh = h.fresh in
      let more = left.more in
      record {
        on = on_both v u t h.on (on_unplaced u t u.shut left);
        can = void_claims u t h.can left;
        epoch = ap (λ (z : View). z.epoch) left.frame ∙ h.epoch;
        version = left.version ∙ h.version;
        shut = left.shut_is ∙ h.shut;
        own = left.own ∙ h.own;
        fresh = omega arith;
        voids = found_both (λ kind. kind ≡ Void) v u t h.voids
            (void_found (kind_of u.about.end is.line (is.line + lines)) u t lines number is.number is.line refl
            is.answered is.known);
      }

  -- leaves fewer numbers
  pub trying_falls : (number : ℕ) (k : Key) → u.about ≡ k → IsClaimed u lines (answer.Void number) t
      → k.number + slots k - t.learned.count < k.number + slots k - u.learned.count
  trying_falls number k about is =
      let left = void_law u t lines number is in
      let more = left.more in
      let within : t.learned.count ≤ k.number + slots k =
      subst (λ (z : Key). t.learned.count ≤ z.number + slots z) about left.within in
      omega arith

  -- a place
  pub trying_placed : (number line : ℕ) → IsClaimed u lines (answer.Placed number line) t → HasPlace v lines number t
  trying_placed number line is =
      let placed = placed_law u t lines number line is in
      let fresh = h.fresh in
      let counted : u.learned.count ≤ number =
      (let a = is.counted in let b = is.count in
      let c : t.learned.count ≡ suc number = ap (λ (z : View). z.learned.count) placed.known in omega arith) in
      record {
        on = on_both v u t h.on (record {
          learns = placed.learns;
          clock = subst (λ (z : View). IsLater u.clock z.clock) (sym placed.known) (later_ticked u.clock);
          frame = moved_to u t _ placed.known refl;
        });
        line = line;
        flying = ap (λ (z : View). z.flight) placed.known;
        kind = placed.stored;
        fresh = omega arith;
        counted = (let c : t.learned.count ≡ suc number = ap (λ (z : View). z.learned.count) placed.known in omega arith);
        epoch = ap (λ (z : View). z.epoch) placed.known ∙ h.epoch;
        shut = ap (λ (z : View). z.shut) placed.known ∙ h.shut;
        own = ap (λ (z : View). z.own) placed.known ∙ h.own;
        voids = found_both (λ kind. kind ≡ Void) v u t h.voids
            (found_same (λ kind. kind ≡ Void) u t (ap (λ (z : View). z.learned.found) placed.known));
      }

  -- or the end
  pub trying_shut : (shut : Shut) → IsClaimed u lines (answer.Overflow shut) t → IsShutBy v lines shut t
  trying_shut shut is =
      let left = overflow_law u t lines shut is in
      let found = mark_found (kind_of u.about.end is.line (is.line + lines)) u t lines is.number is.line shut refl
      is.answered is.known in
      record {
        on = on_both v u t h.on (on_unplaced u t (Some shut) left);
        idle = left.flight;
        shut_is = left.shut_is;
        lines_is = found.1;
        mark = found.2;
        version = left.version ∙ h.version;
        epoch = ap (λ (z : View). z.epoch) left.frame ∙ h.epoch;
        own = left.own ∙ h.own;
        unstored = found_both (λ kind. kind ≢ Stored) v u t
            (found_map (λ kind. kind ≡ Void) (λ kind. kind ≢ Stored) (λ kind e s. let q : Void ≡ Stored = sym e ∙ s in cc)
            v u h.voids)
            (found_map (λ kind. kind ≡ Mark) (λ kind. kind ≢ Stored) (λ kind e s. let q : Mark ≡ Stored = sym e ∙ s in cc)
            u t found.0);
      }
