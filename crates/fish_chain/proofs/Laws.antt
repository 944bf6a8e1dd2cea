-- What a caller of `link` may conclude.
use Rattle.std.proofs.Common.{ℕ, ◌<◌, suc, ap, arith}
use Rattle.fish_chain.specs.Links.{IsLinked, with_linked}
use Rattle.fish_claim.proofs.Filled.{refilled}
use Rattle.fish_claim.specs.Fills.{IsFilled}
use Rattle.fish_layout.specs.Cleared.{body_of}
use Rattle.fish_layout.specs.Header.{keys_of}
use Rattle.fish_rule.specs.declared.view.Flight.{Flight}
use Rattle.fish_rule.specs.declared.view.View.{View}

-- the record in flight afterwards
abbrev pub linked_flight : (v u : View) (f : Flight) (bucket : ℕ) → IsLinked v f bucket u → Flight
linked_flight v u f bucket is = with_linked f is.words (suc f.linked)

-- it is filled, with one entry more linked
pub linked_filled : (v u : View) (f : Flight) (bucket : ℕ) → IsFilled v f
    → f.linked < keys_of (body_of f.words 0) → (is : IsLinked v f bucket u) → IsFilled u (linked_flight v u f bucket is)
linked_filled v u f bucket filled more is =
    let c = is.changed in
    refilled v u f is.words (suc f.linked) filled c.learns (ap (λ (z : View). z.lane) c.known)
    (ap (λ (z : View). z.epoch) c.known) (ap (λ (z : View). z.flight) c.known) c.long c.body (omega arith)
