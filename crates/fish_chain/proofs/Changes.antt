-- What each step leaves of a view while an entry is linked.
use Rattle.std.proofs.Common.{◌≡◌, ℕ, ◌<◌, suc, List, length, set, refl, sym, ap, ◌∙◌, subst, arith, length-set, Some}
use Rattle.fish_chain.specs.Links.{CanLink, Changed, IsQuiet, chained_view, with_linked}
use Rattle.fish_claim.proofs.Answered.{learns_same}
use Rattle.fish_claim.proofs.Filled.{filled_aim, refilled}
use Rattle.fish_layout.specs.Bucket.{bucket_of}
use Rattle.fish_layout.specs.Cleared.{body_of, entry_at}
use Rattle.fish_layout.specs.Header.{keys_of}
use Rattle.fish_rule.proofs.laws.Descents.{head_learns, previous_learns}
use Rattle.fish_rule.proofs.laws.Learning.{ahead, learns_both, learns_self}
use Rattle.fish_rule.proofs.laws.Links.{body-set}
use Rattle.fish_rule.specs.Logs.{Learns}
use Rattle.fish_rule.specs.ChainSteps.{CanAimEntry, after_aim_entry, head_seen, learned_head, own_place}
use Rattle.fish_rule.specs.ChainSteps.{learned_previous}
use Rattle.fish_rule.specs.ChainSteps.{previous_seen, spliced, swung}
use Rattle.fish_rule.specs.SpaceSteps.{loaded, ticked}
use Rattle.fish_rule.specs.declared.view.Clock.{Clock}
use Rattle.fish_rule.specs.declared.view.Flight.{Flight}
use Rattle.fish_rule.specs.declared.view.Key.{Key}
use Rattle.fish_rule.specs.declared.view.View.{View}

-- what holds of the record in flight holds of whatever is in flight
pub for_each : (v : View) (f : Flight) (P : Flight → Type 0) → v.flight ≡ Some f → P f → (g : Flight)
    → v.flight ≡ Some g → P g
for_each v f P one here g two = (let same : f ≡ g = (let e : Some f ≡ Some g = sym one ∙ two in cc) in
    subst P same here)

-- ---- what was known stays known

-- by an aim
aim_learns : (u : View) (f : Flight) (x : ℕ) → Learns u (after_aim_entry u f x)
aim_learns u f x = learns_same u (after_aim_entry u f x) refl refl

-- by a swing that was made
swing_learns : (u : View) (f : Flight) (b : ℕ) → Learns u (swung u f b)
swing_learns u f b = assumption (
  learns_self u,
  ahead (record { bucket = b; place = own_place f }) u.learned.nodes,
  ahead (record { bucket = b; place = own_place f }) u.learned.least_heads,
)

-- by a splice that was made
splice_learns : (u : View) (f : Flight) (b q : ℕ) → Learns u (spliced u f b q)
splice_learns u f b q = assumption (
  learns_self u,
  ahead (record { bucket = b; place = own_place f }) u.learned.nodes,
  ahead (record { place = q; value = own_place f }) u.learned.least_previous,
)

-- ---- one step after others

-- a change after a change of the words is one change
pub changed_next : (v u t : View) (f : Flight) (words next : List ℕ) (linked : ℕ)
    → Changed v f words f.linked u → Changed u (with_linked f words f.linked) next linked t → Changed v f next linked t
changed_next v u t f words next linked c d = record {
  known = d.known ∙ ap (λ (z : View). chained_view z (with_linked f words f.linked) next linked t) c.known;
  long = d.long ∙ c.long;
  body = d.body ∙ c.body;
  learns = learns_both v u t c.learns d.learns;
  quiet = (let a = c.quiet in let b = d.quiet in
      record { steps = omega arith; loads = omega arith; notes = b.notes ∙ a.notes });
}

-- after a change of the words the entry may still be linked
pub still_links : (v u : View) (f : Flight) (words : List ℕ) (b : ℕ) → Changed v f words f.linked u
    → CanLink v f f.linked b → CanLink u (with_linked f words f.linked) f.linked b
still_links v u f words b c can =
    let about = ap (λ (z : View). z.about) c.known in
    let buckets = ap (λ (z : Key). z.buckets) about in
    record {
      filled = refilled v u f words f.linked can.filled c.learns (ap (λ (z : View). z.lane) c.known)
          (ap (λ (z : View). z.epoch) c.known) (ap (λ (z : View). z.flight) c.known) c.long c.body can.filled.linked;
      next = refl;
      more = subst (λ (z : ℕ → ℕ). f.linked < keys_of (z 0)) (sym c.body) can.more;
      of_bucket = subst (λ (z : ℕ × (ℕ → ℕ)). bucket_of z.0 z.1 f.linked ≡ b)
          (λ i. (sym buckets i, sym c.body i)) can.of_bucket;
      below = subst (λ (z : ℕ). b < z) (sym buckets) can.below;
    }

-- an entry that may be linked may be aimed
pub link_aim : (v : View) (f : Flight) (b : ℕ) → CanLink v f f.linked b → CanAimEntry v f
link_aim v f b can = filled_aim v f can.filled can.more

-- ---- each step

-- one that is no load of a word of the log
pub quiet_ticked : (c : Clock) → IsQuiet c (ticked c)
quiet_ticked c = record { steps = omega arith; loads = omega arith; notes = refl }

-- and one that is
pub quiet_loaded : (c : Clock) → IsQuiet c (loaded c)
quiet_loaded c = record { steps = omega arith; loads = omega arith; notes = refl }

module _ (u t : View) (f : Flight) where
  -- a step changes a view where what it leaves has the view's shape
  changes_by : (words : List ℕ) (linked : ℕ) (x : View) → t ≡ x → x ≡ chained_view u f words linked x
      → length words ≡ length f.words → body_of words ≡ body_of f.words → Learns u x → IsQuiet u.clock x.clock
      → Changed u f words linked t
  changes_by words linked x is known long body learns quiet = subst (Changed u f words linked) (sym is)
      (record { known = known; long = long; body = body; learns = learns; quiet = quiet })

  -- a step that sees a head
  pub head_changes : (b x : ℕ) (clock : Clock) → IsQuiet u.clock clock → u.flight ≡ Some f
      → t ≡ head_seen u b x clock → Changed u f f.words f.linked t
  head_changes b x clock quiet flying is = changes_by f.words f.linked (head_seen u b x clock) is
      (λ i. record u { flight = flying i; learned = learned_head u.about b x u.learned; clock = clock })
      refl refl (head_learns u b x clock) quiet

  -- a step that sees a first word
  pub previous_changes : (b q x : ℕ) (clock : Clock) → IsQuiet u.clock clock → u.flight ≡ Some f
      → t ≡ previous_seen u b q x clock → Changed u f f.words f.linked t
  previous_changes b q x clock quiet flying is = changes_by f.words f.linked (previous_seen u b q x clock) is
      (λ i. record u { flight = flying i; learned = learned_previous u.about b q x u.learned; clock = clock })
      refl refl (previous_learns u b q x clock) quiet

  -- an aim
  pub aim_changes : (x : ℕ) → f.linked < keys_of (body_of f.words 0) → t ≡ after_aim_entry u f x
      → Changed u f (set f.words (entry_at f.linked) x) f.linked t
  aim_changes x more is = changes_by (set f.words (entry_at f.linked) x) f.linked (after_aim_entry u f x) is refl
      (length-set f.words (entry_at f.linked) x) (body-set f.words f.linked x more) (aim_learns u f x)
      (quiet_ticked u.clock)

  -- a swing that was made
  pub swing_changes : (b : ℕ) → t ≡ swung u f b → Changed u f f.words (suc f.linked) t
  swing_changes b is = changes_by f.words (suc f.linked) (swung u f b) is refl refl refl (swing_learns u f b)
      (quiet_ticked u.clock)

  -- a splice that was made
  pub splice_changes : (b q : ℕ) → t ≡ spliced u f b q → Changed u f f.words (suc f.linked) t
  splice_changes b q is = changes_by f.words (suc f.linked) (spliced u f b q) is refl refl refl (splice_learns u f b q)
      (quiet_ticked u.clock)
