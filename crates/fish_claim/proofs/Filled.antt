-- What a record that is filled may be used for.
use Rattle.std.proofs.Common.{◌≡◌, ℕ, ◌+◌, ◌≤◌, ◌<◌, List, [], length, sym, ap, ◌∙◌, subst, Some}
use Rattle.fish_claim.proofs.Known.{body_later}
use Rattle.fish_claim.specs.Fills.{IsFilled, with_words}
use Rattle.fish_layout.proofs.Clearing.{cleared_head}
use Rattle.fish_layout.proofs.Spelled.{body_says}
use Rattle.fish_layout.specs.Body.{IsBody}
use Rattle.fish_layout.specs.Cleared.{body_of}
use Rattle.fish_layout.specs.Header.{keys_of}
use Rattle.fish_layout.specs.declared.parts.BodyParts.{BodyParts}
use Rattle.fish_rule.specs.ChainSteps.{CanAimEntry}
use Rattle.fish_rule.specs.Logs.{Learns}
use Rattle.fish_rule.specs.Regions.{kind_of}
use Rattle.fish_rule.specs.Registry.{KnowsActive}
use Rattle.fish_rule.specs.SpaceSteps.{CanPublishRegion, IsReady}
use Rattle.fish_rule.specs.declared.view.Flight.{Flight}
use Rattle.fish_rule.specs.declared.view.Key.{Key}
use Rattle.fish_rule.specs.declared.view.Kind.{Kind}
use Rattle.fish_rule.specs.declared.view.View.{View}

-- an entry that is still to be linked may be aimed
pub filled_aim : (v : View) (f : Flight) → IsFilled v f → f.linked < keys_of (body_of f.words 0) → CanAimEntry v f
filled_aim v f is more = record {
  flying = is.flying;
  kind = is.stored;
  full = is.full;
  body = is.body;
  more = more;
}

-- once all entries are linked, the record may be published
pub filled_publish : (v : View) (f : Flight) → IsFilled v f → f.linked ≡ keys_of (body_of f.words 0) → CanPublishRegion v f
filled_publish v f is all = record {
  live = is.live;
  flying = is.flying;
  version = is.body.version;
  entered = is.body.entered;
  ready = subst (λ (z : Kind). IsReady (KnowsActive v.about v.learned) is.body.version z v.lane f)
      (sym is.stored) (is.full, is.body.keyed, all);
}

-- a record's words say how many key entries it has
pub body_keys : (p : BodyParts) (words : List ℕ) → IsBody p words → keys_of (body_of words 0) ≡ length p.keys
body_keys p words is = ap keys_of (cleared_head _) ∙ (body_says is).keys

-- so a record with no key entries may be published once it is filled
pub plain_publish : (v : View) (f : Flight) (p : BodyParts) (words : List ℕ) → IsFilled v (with_words f words)
    → f.linked ≡ 0 → IsBody p words → p.keys ≡ [] → CanPublishRegion v (with_words f words)
plain_publish v f p words is none body keys =
    filled_publish v (with_words f words) is (none ∙ sym (body_keys p words body ∙ ap length keys))

-- a record stays filled where its words change in previous nodes alone, more entries are linked, and the pass only
-- learns
pub refilled : (v u : View) (f : Flight) (words : List ℕ) (linked : ℕ) → IsFilled v f → Learns v u
    → u.lane ≡ v.lane → u.epoch ≡ v.epoch → u.flight ≡ Some (record f { words = words; linked = linked })
    → length words ≡ length f.words → body_of words ≡ body_of f.words → linked ≤ keys_of (body_of f.words 0)
    → IsFilled u (record f { words = words; linked = linked })
refilled v u f words linked is learns lane epoch flying long body few = record {
  live = subst (λ (z : ℕ). 1 ≤ z) (sym lane) is.live;
  flying = flying;
  stored = ap (λ (z : Key). kind_of z.end f.line (f.line + f.lines)) learns.about ∙ is.stored;
  full = long ∙ is.full;
  body = body_later v u learns f words linked lane epoch body is.body;
  linked = subst (λ (z : ℕ → ℕ). linked ≤ keys_of (z 0)) (sym body) few;
}
