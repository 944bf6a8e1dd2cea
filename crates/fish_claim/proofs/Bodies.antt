-- Which bodies may be stored for a claim.
use Rattle.std.proofs.Common.{◌≡◌, ℕ, ◌+◌, ◌*◌, ◌≤◌, List, refl, sym, ap, ◌∙◌, subst}
use Rattle.fish_claim.proofs.Answered.{claim_learns}
use Rattle.fish_claim.proofs.Known.{body_later}
use Rattle.fish_claim.specs.Claims.{IsClaimed, answer_of, claimed_view}
use Rattle.fish_claim.specs.Fills.{CanFill, with_words}
use Rattle.fish_claim.specs.within.Fills.{IsStorable}
use Rattle.fish_claim.specs.declared.claimed.Claimed.TheVariants as answer
use Rattle.fish_layout.proofs.Links.{relinked_lines, unlinked_is}
use Rattle.fish_layout.proofs.Outlines.{body_length}
use Rattle.fish_layout.proofs.Spelled.{spelled_body}
use Rattle.fish_layout.specs.Body.{IsBody, body_lines}
use Rattle.fish_layout.specs.Cleared.{body_of, unlinked}
use Rattle.fish_layout.specs.declared.parts.BodyParts.{BodyParts}
use Rattle.fish_rule.proofs.laws.Keys.{unlinked_keys}
use Rattle.fish_rule.specs.Keys.{IsKeyed}
use Rattle.fish_rule.specs.Logs.{Learns}
use Rattle.fish_rule.specs.Regions.{kind_of}
use Rattle.fish_rule.specs.Registry.{KnowsActive}
use Rattle.fish_rule.specs.SpaceSteps.{after_claim_lines, flight_at, flight_kind}
use Rattle.fish_rule.specs.declared.view.Kind.{Kind}
use Rattle.fish_rule.specs.declared.view.Kind.TheVariants.{Mark, Stored, Void}
use Rattle.fish_rule.specs.declared.view.View.{View}

-- ---- what an answer tells

-- a place is answered for the region of a record alone
place_stored : (kind : Kind) (end n a lines number line : ℕ)
    → answer.Placed number line ≡ answer_of kind end n a lines → (kind ≡ Stored) × (n ≡ number) × (a ≡ line)
place_stored Stored end n a lines number line e = (refl, cc, cc)
place_stored Void end n a lines number line e = cc
place_stored Mark end n a lines number line e = cc

-- the record of a place is in flight, its region is within a page, and the pass knows what it knew
pub record Placed (v : View) (lines number line : ℕ) (u : View) : Type 0 where
  pub known : u ≡ after_claim_lines v lines number line
  pub stored : flight_kind u (flight_at number line lines) ≡ Stored
  pub learns : Learns v u

-- so it is where the answer is a place
pub placed_law : (v u : View) (lines number line : ℕ) → IsClaimed v lines (answer.Placed number line) u
    → Placed v lines number line u
placed_law v u lines number line is =
    let t = place_stored (kind_of v.about.end is.line
    (is.line + lines)) v.about.end is.number is.line lines number line is.answered in
    let kind : kind_of v.about.end line (line + lines) ≡ Stored =
    subst (λ (z : ℕ). kind_of v.about.end z (z + lines) ≡ Stored) t.2 t.0 in
    let known : u ≡ after_claim_lines v lines number line =
    is.known ∙ ap (λ (z : Kind). claimed_view z v lines is.number is.line) t.0
    ∙ (λ i. after_claim_lines v lines (t.1 i) (t.2 i)) in
    let counted : v.learned.count ≤ number = subst (λ (z : ℕ). v.learned.count ≤ z) t.1 is.counted in
    record {
      known = known;
      stored = subst (λ (z : View). flight_kind z (flight_at number line lines) ≡ Stored)
          (sym known) kind;
      learns = subst (Learns v) (sym known) (claim_learns v lines number line counted);
    }

-- ---- bodies

-- a record has as many lines without its previous nodes
unlinked_lines : (p : BodyParts) → body_lines (unlinked p) ≡ body_lines p
unlinked_lines p = ap body_lines (sym (unlinked_is p)) ∙ relinked_lines (λ _. 0) p

-- the words of a record may be stored for a place of its number and lines, whatever its previous nodes
pub body_law : (v u : View) (lines number line : ℕ) (p : BodyParts) (words : List ℕ)
    → Placed v lines number line u → IsStorable v number lines p → IsBody p words
    → CanFill u (flight_at number line lines) words
body_law v u lines number line p words placed may is =
    let keyed : IsKeyed (KnowsActive v.about v.learned) p.version v.lane number lines (body_of words) = (
      unlinked p,
      record {
        record_of = record {
          spells = spelled_body words is;
          lane_is = may.lane_is;
          number_is = may.number_is;
          lines_is = unlinked_lines p ∙ may.lines_is;
          reads = may.reads;
        };
        version_is = refl;
        keys = unlinked_keys may.keys;
      },
    ) in
    record {
      flying = ap (λ (z : View). z.flight) placed.known;
      unfilled = refl;
      unlinked = refl;
      stored = placed.stored;
      full = body_length is ∙ ap (λ (z : ℕ). z * 4) may.lines_is;
      body = body_later v u placed.learns (with_words (flight_at number line lines) words) words 0
          (ap (λ (z : View). z.lane) placed.known) (ap (λ (z : View). z.epoch) placed.known) refl
          (record { version = p.version; entered = may.entered; keyed = keyed });
    }
