-- Which active definitions a pass knows: at the version with which the table begins those of the start, and at each
-- version those that it knew before it learned more.
use Rattle.std.proofs.Common.{◌≡◌, ℕ, ◌≤◌, List, [], map, sym, refl, ap, ◌∙◌, subst, arith}
use Rattle.fish_catalog.specs.Listing.{active_texts, listed_of}
use Rattle.fish_catalog.specs.declared.row.CatRow.{CatRow}
use Rattle.fish_layout.specs.Cleared.{body_of}
use Rattle.fish_rule.proofs.laws.Alone.{all_from}
use Rattle.fish_rule.proofs.laws.Lists.{all_among}
use Rattle.fish_rule.proofs.laws.Versions.{definitions_first, keyed_map}
use Rattle.fish_rule.specs.Keys.{IsKeyed}
use Rattle.fish_rule.specs.ChainSteps.{HasBody}
use Rattle.fish_rule.specs.Logs.{Learns}
use Rattle.fish_rule.specs.Registry.{HasRead, KnowsActive}
use Rattle.fish_rule.specs.declared.view.Flight.{Flight}
use Rattle.fish_rule.specs.declared.view.Key.{Key}
use Rattle.fish_rule.specs.declared.view.Learned.{Learned}
use Rattle.fish_rule.specs.declared.view.View.{View}

-- ---- the version with which the table begins

-- there the active definitions are those of the start, and no word need be read
pub knows_start : (k : Key) (l : Learned) (version : ℕ) → version ≡ k.version → version ≤ l.version
    → KnowsActive k l version (active_texts (map listed_of k.rows.value))
knows_start k l version first reached = (
  map listed_of k.rows.value,
  record { from = omega arith; reached = reached; are = λ g read. definitions_first k g version (omega arith) },
  refl,
)

-- so there are none where the start has no rows
pub knows_none : (k : Key) (l : Learned) (version : ℕ) → version ≡ k.version → version ≤ l.version → k.rows.value ≡ []
    → KnowsActive k l version []
knows_none k l version first reached none =
    subst (KnowsActive k l version) (ap (λ (z : List CatRow). active_texts (map listed_of z)) none)
    (knows_start k l version first reached)

-- ---- later

module _ (v u : View) (learns : Learns v u) where
  -- words that were read before are among those read since
  read_before : (g : ℕ → ℕ) → HasRead g u.learned.words → HasRead g v.learned.words
  read_before g read = all_from (λ x. g x.index ≡ x.value) v.learned.words
      (λ x m. all_among (λ y. g y.index ≡ y.value) x u.learned.words read (learns.words x m))

  -- what was known of active definitions still is
  pub knows_later : (version : ℕ) (texts : List (ℕ × List ℕ)) → KnowsActive v.about v.learned version texts
      → KnowsActive u.about u.learned version texts
  knows_later version texts h =
      let up = learns.version in
      let reached = h.1.reached in
      subst (λ (z : Key). KnowsActive z u.learned version texts) (sym learns.about)
      (h.0, record { from = h.1.from; reached = omega arith; are = λ g read. h.1.are g (read_before g read) }, h.2)

  -- so words that are those of a record of the pass's version with its keys still are
  pub body_later : (f : Flight) (words : List ℕ) (linked : ℕ) → u.lane ≡ v.lane → u.epoch ≡ v.epoch
      → body_of words ≡ body_of f.words → HasBody v f → HasBody u (record f { words = words; linked = linked })
  body_later f words linked lane epoch body h = record {
    version = h.version;
    entered = epoch ∙ h.entered;
    keyed = subst (λ (z : ℕ × (ℕ → ℕ)). IsKeyed (KnowsActive u.about u.learned) h.version z.0 f.number
        f.lines z.1) (λ i. (sym lane i, sym body i))
        (keyed_map (KnowsActive v.about v.learned) (KnowsActive u.about u.learned) knows_later
        h.version v.lane f.number f.lines (body_of f.words) h.keyed);
  }
