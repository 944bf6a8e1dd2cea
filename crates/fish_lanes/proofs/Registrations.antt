-- What steps of the control pass on the definitions leave of the registry that items tell.
use Rattle.std.proofs.Common.{◌≡◌, ℕ, ◌+◌, ◌<◌, ◌≤◌, List, [], ◌∷◌, ◌++◌, map, refl, sym, ap, ◌∙◌, subst, inl, inr}
use Rattle.std.proofs.Common.{arith, append-nil, Option, Some, None, Result, Ok, Err}
use Rattle.std.specs.Prelude.{OnErr, OnOk}
use Rattle.std.proofs.lemmas.Option.{same_Some}
use Rattle.std.proofs.Math.Decide.{dec_lt}
use Rattle.fish_catalog.proofs.Closing.{listed_with_from}
use Rattle.fish_catalog.specs.Listing.{listed_of}
use Rattle.fish_catalog.specs.Rows.{new_row, with_from}
use Rattle.fish_catalog.specs.declared.listed.Listed.{Listed}
use Rattle.fish_catalog.specs.declared.row.CatRow.{CatRow}
use Rattle.fish_epoch.proofs.Reading.{knows_later}
use Rattle.fish_epoch.specs.Definitions.{AreRead, IsDefsOf, rows_of, version_of}
use Rattle.fish_epoch.specs.declared.definitions.Defs.{Defs}
use Rattle.fish_epoch.specs.declared.definitions.Known.{Known}
use Rattle.fish_ingest.proofs.IngestionStart.{idle_law}
use Rattle.fish_ingest.specs.Ingestion.{CanStart}
use Rattle.fish_lanes.proofs.Gaining.{gains_both, gains_scans, gains_start, marks_same}
use Rattle.fish_lanes.proofs.Keeping.{keeps_scans}
use Rattle.fish_lanes.proofs.Versions.{same_version}
use Rattle.fish_lanes.specs.within.Controlling.{Does, KnowsAll, SaysBegun, WaitsFor}
use Rattle.fish_lanes.specs.within.Gains.{Gains}
use Rattle.fish_lanes.specs.Registering.{KnowsRegistry, Registry, after, after_all, begun, bound, registry_of, waiting_id}
use Rattle.fish_lanes.specs.within.Registering.{KeepsRegistry}
use Rattle.fish_lang.specs.Canonical.{definition_text}
use Rattle.fish_lang.specs.Definition.{definition_of}
use Rattle.fish_lang.specs.declared.definition.Def.{Def}
use Rattle.fish_epoch.specs.Rows.{OnlyLearns}
use Rattle.fish_registry.proofs.Changing.{changes_stays, learns_changes}
use Rattle.fish_registry.proofs.Knowing.{knows_on}
use Rattle.fish_registry.specs.Changing.{Changes, OnlyLoads}
use Rattle.fish_registry.specs.Knowing.{Awaits, IsAwaited, IsWaiting, IsWaitingFor, Knows}
use Rattle.fish_registry.specs.Looking.{at_lane}
use Rattle.fish_registry.specs.Refusing.{HasBegunChange}
use Rattle.fish_registry.specs.declared.registrar.Registrar.{Registrar}
use Rattle.fish_registry.specs.declared.registrar.Waiting.{Waiting}
use Rattle.fish_report.specs.declared.item.Item.{Item}
use Rattle.fish_report.specs.declared.item.Item.TheVariants as item
use Rattle.fish_rule.proofs.laws.Clocks.{later_both}
use Rattle.fish_rule.proofs.laws.Learning.{learns_both}
use Rattle.fish_rule.proofs.laws.Versions.{has_read}
use Rattle.fish_rule.specs.Logs.{Learns}
use Rattle.fish_rule.specs.Registry.{KnowsDefinitions, definitions_at, version_in}
use Rattle.fish_rule.specs.Rounds.{IsRound, Waits}
use Rattle.fish_rule.specs.Table.{IsOfMoment}
use Rattle.fish_rule.specs.declared.view.Epoch.TheVariants.{Out}
use Rattle.fish_rule.specs.declared.view.View.{View}
use Rattle.fish_scan.specs.Scans.{OnlyScans}

-- a step on the definitions gains nothing
pub gains_changes : (v u : View) → v.epoch ≡ Out → v.flight ≡ None → Changes v u → Gains v u []
gains_changes v u outside idle h = record {
  on = record {
    learns = learns_changes v u h;
    clock = h.clock;
    lane = ap (λ (z : View). z.lane) h.frame;
    out = ap (λ (z : View). z.out) h.frame;
  };
  outside = ap (λ (z : View). z.epoch) h.frame ∙ outside;
  idle = ap (λ (z : View). z.flight) h.frame ∙ idle;
  own = ap (λ (z : View). z.own) h.frame ∙ sym (append-nil v.own);
  ascends = h.count;
  told = tt;
  shut = λ s e. ap (λ (z : View). z.shut) h.frame ∙ e;
  marks = marks_same v u (learns_changes v u h) (ap (λ (z : View). z.shut) h.frame);
}

-- what a registrar keeps is still known where the definitions are the same
pub knows_kept : (v u : View) (r : Registrar) → u.lane ≡ v.lane → Learns v u → KeepsRegistry v u → Knows v r → Knows u r
knows_kept v u r lane learns keeps h = knows_on v u r lane keeps.rows keeps.control_words keeps.round learns h

-- definitions that are known at a version stay known
pub registry_later : (v u : View) (r : Registry) → Learns v u → KnowsRegistry v r → KnowsRegistry u r
registry_later v u r learns h = knows_later v u r.version (map listed_of r.rows) learns h

-- what was read of the version that the control pass knows are the rows that a registrar keeps for it
pub all_known : (t : View) (known : Known) → IsOfMoment t → AreRead t known → version_of known ≡ t.learned.version → KnowsAll t
all_known t known s read version r h =
    let w = s.moment in
    let stays = s.rule.registry.each s.seat t s.at in
    let control = stays.control h.control in
    let same : version_of known ≡ version_in w.registry = version ∙ control.version in
    let found : definitions_at t.about w.registry (version_of known) ≡ rows_of known =
    read.rows.are w.registry (has_read t.about w.registry t.learned.words stays.read) in
    let rows : rows_of known ≡ map listed_of r.catalog =
    sym found ∙ ap (definitions_at t.about w.registry) same ∙ control.definitions ∙ sym h.listed in
    subst (λ (z : ℕ × List Listed). KnowsDefinitions t.about t.learned z.0 z.1) (λ i. (version i, rows i)) read.rows

-- ---- the registry

-- the definitions are listed the same
module _ (u t : View) (r s : Registrar) (su : IsOfMoment u) (st : IsOfMoment t) (learns : Learns u t) (ku : Knows u r)
    (kt : Knows t s) where
  version_kept : map listed_of s.catalog ≡ map listed_of r.catalog → t.learned.version ≡ u.learned.version
  version_kept listed = same_version u t su st ku.control kt.control learns.about (sym kt.listed ∙ listed ∙ ku.listed)

  -- the rows and what waits are the same
  pub registry_same : (rows : List CatRow) → s.catalog ≡ rows → rows ≡ r.catalog → waiting_id s.waiting ≡ waiting_id r.waiting
      → registry_of t s ≡ registry_of u r
  registry_same rows a b waits =
      let same : s.catalog ≡ r.catalog = a ∙ b in
      let version = version_kept (ap (map listed_of) same) in
      λ i. record { rows = same i; waiting = waits i; version = version i }

  -- the index of what waits begins
  pub does_bound : (id from : ℕ) → IsWaiting r id → s.waiting ≡ None → s.catalog ≡ with_from r.catalog id from
      → u.learned.count ≤ t.learned.count → t.learned.count ≡ from → Does u r t s (item.Bound id from)
  does_bound id from waits none rows more count =
      let version = version_kept (ap (map listed_of) rows ∙ listed_with_from r.catalog id from) in
      record {
        so = (waiting_is r.waiting waits, (omega arith, omega arith));
        is = λ i. record { rows = rows i; waiting = waiting_id (none i); version = version i };
        knows = λ h. registry_later u t (bound (registry_of u r) id from) learns
            (subst (KnowsDefinitions u.about u.learned u.learned.version) (sym (listed_with_from r.catalog id from)) h);
      }
    where
      waiting_is : (w : Option Waiting) → IsWaitingFor w id → waiting_id w ≡ Some id
      waiting_is None h = elim h [ ]
      waiting_is (Some w) h = ap Some h

-- one more is registered
pub begun_is : (u t : View) (r s : Registrar) (name : List ℕ) (def : Def) (id : ℕ) → HasBegunChange u r name def t s id
    → registry_of t s ≡ begun (registry_of u r) id name (definition_text (definition_of def))
begun_is u t r s name def id h =
    let text = definition_text (definition_of def) in
    let version : t.learned.version ≡ u.learned.version + 1 = (let e = h.version in omega arith) in
    let rows : s.catalog ≡ r.catalog ++ new_row id name text ∷ [] =
    h.rows ∙ ap (λ (n : ℕ). r.catalog ++ new_row n name text ∷ []) (sym h.is_id) in
    λ i. record { rows = rows i; waiting = waiting_id (h.waits i); version = version i }

-- the registry after one item more
pub after_more : (r : Registry) (items : List Item) (x : Item) → after_all r (items ++ x ∷ []) ≡ after (after_all r items) x
after_more r [] x = refl
after_more r (y ∷ items) x = after_more (after r y) items x

-- the version of a registration that waits was made
pub waiting_made : (v : View) (r : Registrar) (w : Waiting) → IsOfMoment v → Knows v r → r.waiting ≡ Some w → w.version ≤ v.learned.version
waiting_made v r w s k is =
    let m = s.moment in
    let stays = s.rule.registry.each s.seat v s.at in
    let control = (stays.control k.control).version in
    let a : IsAwaited v w = subst (Awaits v) is k.awaits in
    let round : IsRound v.about m.count m.registry s.rule.state s.rule.version_of v.lane a.round =
    subst (Waits v.about m.count m.registry s.rule.state s.rule.version_of v.lane) a.waits stays.waits in
    let reached = round.reached in
    let version = a.version in
    omega arith

-- ---- tests of the registrar

-- nothing waits
pub none_waits : (w : Option Waiting) → ((id : ℕ) → IsWaitingFor w id → ⊥) → w ≡ None
none_waits None h = refl
none_waits (Some w) h = absurd (h w.id refl)

pub none_id : (w : Option Waiting) → w ≡ None → waiting_id w ≡ None
none_id w h = ap waiting_id h

-- it waits for this
pub waits_id : (w : Option Waiting) (id : ℕ) → IsWaitingFor w id → waiting_id w ≡ Some id
waits_id None id h = elim h [ ]
waits_id (Some w) id h = ap Some h

-- versions are left
pub few_versions : (w : Option Waiting) (version : ℕ) → w ≡ None → ((w ≡ None) × (512 ≤ version) → ⊥) → version < 512
few_versions w version none h = pick (dec_lt version 512)
  where
    pick : Dec (version < 512) → version < 512
    pick (yes less) = less
    pick (no not_less) = absurd (h (none, omega arith))

-- ---- reading

-- a load of the version by a pass that is out, and reading, is all that a scan may do
pub scans_reads : (v m t : View) → OnlyLoads v m → OnlyLearns m t → OnlyScans v t
scans_reads v m t stays reads =
    let e = reads.extends in
    let epoch : t.epoch ≡ v.epoch = ap (λ (z : View). z.epoch) e.frame ∙ ap (λ (z : View). z.epoch) stays.frame in
    let tail : t.tail ≡ v.tail = ap (λ (z : View). z.tail) e.frame ∙ ap (λ (z : View). z.tail) stays.frame in
    record {
      learns = learns_both v m t (learns_changes v m (changes_stays v m stays)) e.learns;
      clock = later_both v.clock m.clock t.clock stays.clock e.clock;
      frame = e.frame ∙ ap (λ (z : View). record z { learned = t.learned; clock = t.clock }) stays.frame
          ∙ (λ i. record v { epoch = sym epoch i; tail = sym tail i; learned = t.learned; clock = t.clock });
      outside = λ out. epoch ∙ out;
    }

-- after a refresh the definitions are those that were read, or those of before
pub known_read : {E : Type 0} (t : View) (result : Result (Unit {0}) E) (old new : Defs) → OnOk result (AreRead t new.known)
    → OnErr result (new ≡ old) → IsDefsOf t old → IsDefsOf t new
known_read t (Ok done) old new read left h = λ _. read
known_read t (Err e) old new read left h = subst (IsDefsOf t) (sym left) h

-- and all that a registrar keeps is known
pub known_all : {E : Type 0} (t : View) (result : Result (Unit {0}) E) (new : Defs) → IsOfMoment t → OnOk result (AreRead t new.known)
    → {version : ℕ} → OnOk result (version_of new.known ≡ version) → version ≡ t.learned.version → OnOk result (KnowsAll t)
known_all t (Ok done) new s read is version = all_known t new.known s read (is ∙ version)
known_all t (Err e) new s read is version = tt

-- ---- a registration that was just made

module _ (v m : View) (r : Registrar) (sv : IsOfMoment v) (start : CanStart v) (kv : Knows v r) (only : OnlyScans v m) where
  idle_now : v.flight ≡ None
  idle_now = idle_law v sv start

  -- reading its definitions gains nothing
  pub reads_gain : Gains v m []
  reads_gain = gains_scans v m start.outside idle_now only

  pub reads_start : CanStart m
  reads_start = gains_start v m [] start reads_gain

  pub reads_know : Knows m r
  reads_know = knows_kept v m r (ap (λ (z : View). z.lane) only.frame) only.learns (keeps_scans v m only) kv

  module _ (sm : IsOfMoment m) (version : m.learned.version ≡ v.learned.version) (known : KnowsAll m) (t : View) (s : Registrar)
      (st : IsOfMoment t) (kt : Knows t s) (changes : Changes m t) where
    -- the registry as it was
    same_before : registry_of m r ≡ registry_of v r
    same_before i = record { rows = r.catalog; waiting = waiting_id r.waiting; version = version i }

    pub polls_gain : Gains v t []
    polls_gain = gains_both v m t [] [] reads_gain (gains_changes m t reads_start.outside (idle_law m sm reads_start) changes)

    pub polls_learn : Learns v t
    polls_learn = learns_both v m t only.learns (learns_changes m t changes)

    known_then : KnowsRegistry t (registry_of v r)
    known_then = subst (KnowsRegistry t) same_before
        (registry_later m t (registry_of m r) (learns_changes m t changes) (known r reads_know))

    -- it waits for a lane
    pub says_rolling : (name : List ℕ) (id : ℕ) (def : List ℕ) (seat older : ℕ) → WaitsFor v r id
        → ((w : Waiting) × (r.waiting ≡ Some w) × (s.waiting ≡ Some (at_lane w seat)) × (s.catalog ≡ r.catalog) × (older < w.version))
        → SaysBegun v r t s name id def (item.Rolling name id def seat older)
    says_rolling name id def seat older waits tells =
        let same : registry_of t s ≡ registry_of v r =
        registry_same m t r s sm st (learns_changes m t changes) reads_know kt r.catalog tells.3 refl
        (ap waiting_id tells.2 ∙ sym (ap waiting_id tells.1)) ∙ same_before in
        let w : waits.waiting ≡ tells.0 = same_Some waits.waiting tells.0 (sym waits.waits ∙ tells.1) in
        let version_w : waits.waiting.version ≡ tells.0.version = ap (λ (z : Waiting). z.version) w in
        let here = waits.version_is in
        let less = tells.4 in (
          subst (KnowsRegistry t) (sym same) known_then,
          inl (seat, older, refl, (omega arith), same),
        )

    -- or its index begins at once
    pub says_at_once : (name : List ℕ) (id : ℕ) (def : List ℕ) (id' from : ℕ) → WaitsFor v r id → IsWaiting r id'
        → s.waiting ≡ None → s.catalog ≡ with_from r.catalog id' from → t.learned.count ≡ from
        → SaysBegun v r t s name id def (item.Registered name id from def)
    says_at_once name id def id' from waits waits' none rows count =
        let does = does_bound m t r s sm st (learns_changes m t changes) reads_know kt id' from waits' none rows changes.count count in
        let same_id : id' ≡ id = same_Some id' id (sym (waits_id r.waiting id' waits') ∙ ap waiting_id waits.waits
        ∙ ap (λ (n : ℕ). Some n) waits.id_is) in
        let is : registry_of t s ≡ bound (registry_of v r) id from =
        does.is ∙ (λ i. bound (same_before i) (same_id i) from) in
        let more = only.learns.count in
        let more' = changes.count in (
          subst (KnowsRegistry t) (sym does.is) (does.knows (known r reads_know)),
          inr (from, refl, (omega arith, omega arith), is),
        )
