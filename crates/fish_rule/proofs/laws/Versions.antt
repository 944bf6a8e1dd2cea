-- What the owner of a view may conclude of the registry's words.
pub use Rattle.fish_rule.proofs.basics.FirstBoundaries.{drafted_here, set_here}
pub use Rattle.fish_rule.proofs.basics.RegistryWords.{definitions_first, definitions_next, has_read, keyed_map}
pub use Rattle.fish_rule.proofs.basics.RegistryWords.{length_registered, text_grows}
use Rattle.std.proofs.Common.{◌≡◌, ℕ, ◌<◌, ◌≤◌, List, sym, refl, ap, ◌∙◌, subst, arith, length, inr, Some, slice_get}
use Rattle.fish_rule.proofs.classes.Allowed.{unmade_within}
use Rattle.fish_rule.proofs.steps.DefineWord.{unmade_here}
use Rattle.fish_rule.proofs.steps.LoadRegistry.{lasts_there, lasting_within}
use Rattle.fish_rule.specs.RegistrySteps.{CanDefineWord, CanLoadRegistry}
use Rattle.fish_rule.specs.Registry.{KnowsDefinitions, KnowsRow, definitions_at, control_word, row_at, version_in}
use Rattle.fish_rule.proofs.basics.RegistryWords.{length_grows}
use Rattle.fish_catalog.specs.Listing.{IsListing}
use Rattle.fish_catalog.specs.declared.listed.Listed.{Listed}
use Rattle.fish_rule.specs.Table.{IsOfMoment}
use Rattle.fish_rule.specs.World.{heads_at}
use Rattle.fish_rule.proofs.basics.Context.{Key, View}
use Rattle.fish_rule.proofs.basics.Regions.{few_numbers}
use Rattle.fish_rule.specs.Rounds.{IsSince, Waits}
use Rattle.fish_rule.specs.declared.view.Epoch.TheVariants.{Confirmed}
use Rattle.fish_rule.specs.declared.view.Round.{Round}

-- a word that may be loaded is one of the registry's
pub registry_law : (k : Key) (v : View) (p : ℕ) → v.about ≡ k → IsOfMoment v → CanLoadRegistry v p
    → (2 ≤ p) × (p < heads_at)
registry_law k v p about s can = lasting_within s.rule p (lasts_there s.rule s.seat s.at refl p can)

-- and so is one that may be stored
pub define_law : (k : Key) (v : View) (p x : ℕ) → v.about ≡ k → IsOfMoment v → CanDefineWord v p x
    → (2 ≤ p) × (p < heads_at)
define_law k v p x about s can = unmade_within v.about s.moment p
    (unmade_here s.rule s.seat s.at can.control p x can)

-- nor is the last one that it knows of before that with which the table begins
pub version_from : (k : Key) (v : View) → v.about ≡ k → 1 ≤ v.lane → IsOfMoment v → k.version ≤ v.learned.version
version_from k v about live s = subst (λ (z : Key). z.version ≤ v.learned.version) about
    ((s.rule.registry.each s.seat v s.at).from live)

-- nor is the one at which it is entered
pub entered_from : (k : Key) (v : View) (version : ℕ) → v.about ≡ k → IsOfMoment v → v.epoch ≡ Confirmed version
    → k.version ≤ version
entered_from k v version about s entered = subst (λ (z : Key). z.version ≤ version) about
    (subst (IsSince v.about.version) entered (s.rule.registry.each s.seat v s.at).since)

-- no pass has a lane above 16
pub lane_law : (v : View) → IsOfMoment v → v.lane ≤ 16
lane_law v s = s.rule.seats.few s.seat v s.at

-- the definitions that the control pass knows are a listing
pub control_law : (v : View) → IsOfMoment v → v.lane ≡ 1 → IsListing v.rows
control_law v s control =
    subst IsListing ((s.rule.registry.each s.seat v s.at).control control).definitions
    (s.rule.registry.versions.listings (version_in s.moment.registry) (omega arith))

-- a row that is not made has no boundary, as the control pass knows
pub unset_law : (v : View) → IsOfMoment v → v.lane ≡ 1 → (id i : ℕ) → length v.rows ≤ id → id < 256 → i < 2
    → control_word v.control_words (row_at id i) ≡ 0
unset_law v s control id i more few bound =
    let its = (s.rule.registry.each s.seat v s.at).control control in
    let size : length (definitions_at v.about s.moment.registry (version_in s.moment.registry)) ≡ length v.rows =
    ap (λ (z : List Listed). length z) its.definitions in
    sym (its.owned (row_at id i) (inr (id, i, few, bound, refl)))
    ∙ s.rule.registry.boundaries.unmade id i (omega arith) few bound

-- a row that is known is one of 256
pub row_law : (v : View) (id : ℕ) → IsOfMoment v → KnowsRow v.about v.learned id → id < 256
row_law v id s h =
    let w = s.moment in
    let stays = s.rule.registry.each s.seat v s.at in
    let there = h.there w.registry (has_read v.about w.registry v.learned.words stays.read) in
    let a = h.reached in
    let b = stays.reached in
    let up = length_grows v.about w.registry h.version (version_in w.registry) (omega arith) in
    let few = (s.rule.registry.versions.listings (version_in w.registry) (omega arith)).few in
    omega arith

-- definitions that are known are a listing
pub listing_law : (v : View) (u : ℕ) (ls : List Listed) → IsOfMoment v
    → KnowsDefinitions v.about v.learned u ls → IsListing ls
listing_law v u ls s h =
    let w = s.moment in
    let stays = s.rule.registry.each s.seat v s.at in
    let a = h.reached in
    let b = stays.reached in
    subst IsListing (h.are w.registry (has_read v.about w.registry v.learned.words stays.read))
    (s.rule.registry.versions.listings u (omega arith))

-- where the definitions of two versions are known, those of the older are among the others, in their places, with their texts
pub texts_law : (v : View) (older newer : ℕ) (ls ms : List Listed) → IsOfMoment v → older ≤ newer
    → KnowsDefinitions v.about v.learned older ls → KnowsDefinitions v.about v.learned newer ms
    → (id : ℕ) (l : Listed) → slice_get ls id ≡ Some l → (m : Listed) × (slice_get ms id ≡ Some m) × (m.def ≡ l.def)
texts_law v older newer ls ms s le known more id l there =
    let g = s.moment.registry in
    let read = has_read v.about g v.learned.words (s.rule.registry.each s.seat v s.at).read in
    let at : slice_get (definitions_at v.about g older) id ≡ Some l =
    ap (λ (z : List Listed). slice_get z id) (known.are g read) ∙ there in
    let found = text_grows v.about g older newer le id l at in
    (found.0, ap (λ (z : List Listed). slice_get z id) (sym (more.are g read)) ∙ found.1, found.2)

-- a registration that waits is of one of 256 rows
pub round_law : (v : View) (o : Round) → IsOfMoment v → v.round ≡ Some o → o.id < 256
round_law v o s waits =
    (subst (Waits v.about s.moment.count s.moment.registry s.rule.state s.rule.version_of v.lane) waits
    (s.rule.registry.each s.seat v s.at).waits).few

-- where its index begins is a number
pub bound_law : (v : View) (o : Round) (n : ℕ) → IsOfMoment v → v.round ≡ Some o → o.bound ≡ Some n → n ≤ 268435455
bound_law v o n s waits bound =
    let round = subst (Waits v.about s.moment.count s.moment.registry s.rule.state s.rule.version_of v.lane) waits
    (s.rule.registry.each s.seat v s.at).waits in
    let within = (round.bound n bound).within in
    let numbers = few_numbers s.rule in
    omega arith
