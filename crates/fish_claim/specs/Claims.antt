-- What a claim of lines is answered, and what the pass knows afterwards.
use Rattle.std.specs.Prelude.{ℕ, ◌≡◌, ◌+◌, ◌<◌, ◌≤◌, suc}
use Rattle.fish_claim.specs.declared.claimed.Claimed.{Claimed}
use Rattle.fish_claim.specs.declared.claimed.Claimed.TheVariants as answer
use Rattle.fish_layout.specs.Header.{void_word}
use Rattle.fish_rule.specs.Regions.{kind_of}
use Rattle.fish_rule.specs.SpaceSteps.{after_claim_lines, after_publish_region, after_store_word, flight_at, with_word}
use Rattle.fish_rule.specs.World.{slots}
use Rattle.fish_rule.specs.declared.view.Kind.{Kind}
use Rattle.fish_rule.specs.declared.view.Kind.TheVariants.{Mark, Stored, Void}
use Rattle.fish_rule.specs.declared.view.View.{View}

-- the answer to a claim of so many lines in a log with this end, by the kind of the region that it got
abbrev pub answer_of : Kind → ℕ → ℕ → ℕ → ℕ → Claimed
answer_of Stored end number line lines = answer.Placed number line
answer_of Void end number line lines = answer.Void number
answer_of Mark end number line lines = answer.Overflow (record { line = line; lines = lines; end = end })

-- the view after it: a record is in flight, a void is published with its header, and a mark with nothing
abbrev pub claimed_view : Kind → View → ℕ → ℕ → ℕ → View
claimed_view Stored v lines number line = after_claim_lines v lines number line
claimed_view Void v lines number line =
    let f = flight_at number line lines in
    after_publish_region (after_store_word (after_claim_lines v lines number line) f (void_word lines))
    (with_word f (void_word lines))
claimed_view Mark v lines number line =
    after_publish_region (after_claim_lines v lines number line) (flight_at number line lines)

-- a claim of so many lines got the region at some number and line, and became what the kind of this region says
pub record IsClaimed (v : View) (lines : ℕ) (answer : Claimed) (after : View) : Type 0 where
  pub number : ℕ
  pub line : ℕ
  pub answered : answer ≡ answer_of (kind_of v.about.end line (line + lines)) v.about.end number line lines
  pub known : after ≡ claimed_view (kind_of v.about.end line (line + lines)) v lines number line
  -- the pass had counted no such number, the directory has room for it, and now it is counted
  pub counted : v.learned.count ≤ number
  pub within : number < v.about.number + slots v.about
  pub count : after.learned.count ≡ suc number
  -- the pass is entered as it was
  pub epoch : after.epoch ≡ v.epoch
