-- Every schedule: lists of steps of the passes on one table, in any order.
use Rattle.std.specs.Prelude.{ℕ, ◌≡◌, ◌≢◌, ◌+◌, ◌-◌, ◌*◌, ◌<◌, ◌≤◌, ◌⊎◌, suc, List, [], ◌∷◌, ◌++◌, length, max}
use mathlib.Core.Option.{some}
use Rattle.std.proofs.Math.ListN.{get_elem?, set}
use Rattle.fish_rule.specs.RegistrySteps.{CanAnnounce, CanRaiseVersion, CanDefineWord, CanEnter, CanLoadRegistry}
use Rattle.fish_rule.specs.RegistrySteps.{after_announce, after_raise_version, after_define_word, after_load_registry}
use Rattle.fish_rule.specs.RegistrySteps.{after_retire, after_load_version}
use Rattle.fish_rule.specs.BoundarySteps.{CanLoadBound, CanLoadBoundary, CanStoreFrom, CanStoreTo, IsLane}
use Rattle.fish_rule.specs.BoundarySteps.{after_load_bound, after_load_boundary, after_check_lane, after_store_from}
use Rattle.fish_rule.specs.BoundarySteps.{after_store_to}
use Rattle.fish_rule.specs.Registry.{epoch_at, row_at, version_at}
use Rattle.fish_rule.specs.ChainSteps.{CanAimEntry, CanLoadHead, CanSpliceEntry, CanSwingHead, HasNode, after_aim_entry}
use Rattle.fish_rule.specs.ChainSteps.{after_load_head, after_load_node, after_load_previous, head_seen, own_place}
use Rattle.fish_rule.specs.ChainSteps.{previous_seen, spliced, swung}
use Rattle.fish_rule.specs.Parts.{FitsTable}
use Rattle.fish_rule.specs.Regions.{dir_word}
use Rattle.fish_rule.specs.Rule.{Final, Rule}
use Rattle.fish_rule.specs.SeatSteps.{CanJoinPass, CanSplitPass, join_both, spent, split_left, split_right}
use Rattle.fish_rule.specs.SpaceSteps.{CanClaimLines, CanPublishRegion, CanStoreWord, after_claim_lines}
use Rattle.fish_rule.specs.SpaceSteps.{after_publish_region, after_store_word, flight_kind, ticked}
use Rattle.fish_rule.specs.LoadSteps.{CanLookAt, CanRaiseSettled, CanReadWord, after_load_tail, after_look_at}
use Rattle.fish_rule.specs.LoadSteps.{after_raise_settled, after_read_word, after_load_settled}
use Rattle.fish_rule.specs.Start.{IsOpening, empty_world}
use Rattle.fish_rule.specs.World.{World, high, low, max_lines, put}
use Rattle.fish_rule.specs.declared.view.Flight.{Flight}
use Rattle.fish_rule.specs.declared.view.Found.{Found}
use Rattle.fish_rule.specs.declared.view.Key.{Key}
use Rattle.fish_rule.specs.declared.view.Round.{Round}
use Rattle.fish_rule.specs.declared.view.View.{View}

-- one step of the pass at a seat: of its kind, with its operands
pub data Event : Type 0 where
  claim_lines : ℕ → ℕ → Event
  store_word : ℕ → ℕ → Event
  publish_region : ℕ → Event
  look_at : ℕ → ℕ → Event
  read_word : ℕ → ℕ → ℕ → Event
  load_tail : ℕ → Event
  load_settled : ℕ → Event
  raise_settled : ℕ → ℕ → Event
  load_head : ℕ → ℕ → Event
  load_previous : ℕ → ℕ → ℕ → Event
  load_node : ℕ → ℕ → ℕ → Event
  aim_entry : ℕ → ℕ → Event
  swing_head : ℕ → ℕ → ℕ → Event
  splice_entry : ℕ → ℕ → ℕ → ℕ → Event
  load_version : ℕ → Event
  announce : ℕ → ℕ → Event
  retire : ℕ → Event
  load_registry : ℕ → ℕ → Event
  define_word : ℕ → ℕ → ℕ → Event
  raise_version : ℕ → Event
  check_lane : ℕ → ℕ → Event
  load_bound : ℕ → Event
  store_from : ℕ → Event
  store_to : ℕ → ℕ → ℕ → Event
  load_boundary : ℕ → ℕ → ℕ → Event
  split_pass : ℕ → ℕ → Event
  join_pass : ℕ → ℕ → Event

-- the pass at a seat steps on the table of this key
pub record Seated (k : Key) (w : World) (id : ℕ) (v : View) : Type 0 where
  pub at : get_elem? w.views id ≡ some v
  pub about : v.about ≡ k

-- the region of number n has so many lines
abbrev pub HasLines : Key → World → ℕ → ℕ → Type 0
HasLines k w n lines = (r : Rule k w) → lines ≡ r.start (suc n) - r.start n

-- an exchange leads to the first world where the word was as expected, and else to the second
abbrev pub Exchanged : ℕ → ℕ → World → World → World → Type 0
Exchanged found expected u made missed = ((found ≡ expected) × (u ≡ made)) ⊎ ((found ≢ expected) × (u ≡ missed))

-- the world goes by a step to another
abbrev pub Goes : Key → World → Event → World → Type 0
Goes k w (claim_lines id m) u = (v : View) × Seated k w id v × CanClaimLines v × (0 < m) × (m ≤ max_lines)
    × (u ≡ record w {
      count = suc w.count;
      line = w.line + m;
      views = set w.views id
          (after_claim_lines v m w.count w.line);
    })
Goes k w (store_word id x) u = (v : View) × (f : Flight) × Seated k w id v × CanStoreWord v f
    × (u ≡ record w {
      log = put w.log (f.line * 4 + length f.words) x;
      views = set w.views id (after_store_word v f x);
    })
Goes k w (publish_region id) u = (v : View) × (f : Flight) × Seated k w id v × CanPublishRegion v f
    × (u ≡ record w {
      dir = put w.dir f.number (dir_word (flight_kind v f) f.line);
      views = set w.views id (after_publish_region v f);
    })
Goes k w (look_at id n) u = (v : View) × (lines : ℕ) × Seated k w id v × CanLookAt v n × HasLines k w n lines
    × (u ≡ record w { views = set w.views id (after_look_at v n lines (w.dir n)) })
Goes k w (read_word id n i) u = (v : View) × (f : Found) × Seated k w id v × CanReadWord v f i × (f.number ≡ n)
    × (u ≡ record w { views = set w.views id (after_read_word v (f.line * 4 + i) (w.log (f.line * 4 + i))) })
Goes k w (load_tail id) u = (v : View) × (x : ℕ) × Seated k w id v × (high x ≡ w.count) × (low x ≡ w.line)
    × (u ≡ record w { views = set w.views id (after_load_tail v x) })
Goes k w (load_settled id) u = (v : View) × Seated k w id v
    × (u ≡ record w { views = set w.views id (after_load_settled v w.settled) })
Goes k w (raise_settled id m) u = (v : View) × Seated k w id v × CanRaiseSettled v m
    × (u ≡ record w { settled = max w.settled m; views = set w.views id (after_raise_settled v m w.settled) })
Goes k w (load_head id b) u = (v : View) × Seated k w id v × CanLoadHead v b
    × (u ≡ record w { views = set w.views id (after_load_head v b (w.head b)) })
Goes k w (load_previous id b p) u = (v : View) × Seated k w id v × HasNode v b p
    × (u ≡ record w { views = set w.views id (after_load_previous v b p (w.log p)) })
Goes k w (load_node id b p) u = (v : View) × Seated k w id v × HasNode v b p
    × (u ≡ record w { views = set w.views id (after_load_node v p (w.log (suc p))) })
Goes k w (aim_entry id x) u = (v : View) × (f : Flight) × Seated k w id v × CanAimEntry v f
    × (u ≡ record w { log = put w.log (own_place f) x; views = set w.views id (after_aim_entry v f x) })
Goes k w (swing_head id b h) u = (v : View) × (f : Flight) × Seated k w id v × CanSwingHead v f b h
    × Exchanged (w.head b) h u (record w {
      head = put w.head b (own_place f);
      views = set w.views id (swung v f b);
    }) (record w { views = set w.views id (head_seen v b (w.head b) (ticked v.clock)) })
Goes k w (splice_entry id b q x) u = (v : View) × (f : Flight) × Seated k w id v × CanSpliceEntry v f b q x
    × Exchanged (w.log q) x u (record w {
      log = put w.log q (own_place f);
      views = set w.views id (spliced v f b q);
    })
    (record w { views = set w.views id (previous_seen v b q (w.log q) (ticked v.clock)) })
Goes k w (load_version id) u = (v : View) × Seated k w id v
    × (u ≡ record w { views = set w.views id (after_load_version v (w.registry version_at)) })
Goes k w (announce id x) u = (v : View) × Seated k w id v × CanAnnounce v x
    × (u ≡ record w {
      registry = put w.registry (epoch_at v.lane) (suc x);
      views = set w.views id (after_announce v x);
    })
Goes k w (retire id) u = (v : View) × Seated k w id v × CanEnter v
    × (u ≡ record w { registry = put w.registry (epoch_at v.lane) 0; views = set w.views id (after_retire v) })
Goes k w (load_registry id p) u = (v : View) × Seated k w id v × CanLoadRegistry v p
    × (u ≡ record w { views = set w.views id (after_load_registry v p (w.registry p)) })
Goes k w (define_word id p x) u = (v : View) × Seated k w id v × CanDefineWord v p x
    × (u ≡ record w { registry = put w.registry p x; views = set w.views id (after_define_word v p x) })
Goes k w (raise_version id) u = (v : View) × Seated k w id v × CanRaiseVersion v
    × (u ≡ record w {
      registry = put w.registry version_at (suc v.learned.version);
      views = set w.views id
          (after_raise_version v);
    })
Goes k w (check_lane id l) u = (v : View) × Seated k w id v × IsLane l
    × (u ≡ record w { views = set w.views id (after_check_lane v l (w.registry (epoch_at l))) })
Goes k w (load_bound id) u = (v : View) × (o : Round) × (x : ℕ) × Seated k w id v × CanLoadBound v o
    × (high x ≡ w.count)
    × (low x ≡ w.line) × (u ≡ record w { views = set w.views id (after_load_bound v o x) })
Goes k w (store_from id) u = (v : View) × (o : Round) × (n : ℕ) × Seated k w id v × CanStoreFrom v o n
    × (u ≡ record w {
      registry = put w.registry (row_at o.id 0) (suc n);
      views = set w.views id (after_store_from v o n);
    })
Goes k w (store_to id row n) u = (v : View) × Seated k w id v × CanStoreTo v row n
    × (u ≡ record w {
      registry = put w.registry (row_at row 1) (suc n);
      views = set w.views id (after_store_to v row n);
    })
Goes k w (load_boundary id row i) u = (v : View) × Seated k w id v × CanLoadBoundary row i
    × (u ≡ record w { views = set w.views id (after_load_boundary v row i (w.registry (row_at row i))) })
Goes k w (split_pass id l) u = (v : View) × Seated k w id v × CanSplitPass v l
    × (u ≡ record w { views = set w.views id (split_left l v) ++ split_right l v ∷ [] })
Goes k w (join_pass id other) u = (v : View) × (b : View) × Seated k w id v × (other ≢ id)
    × (get_elem? w.views other ≡ some b) × CanJoinPass v b
    × (u ≡ record w { views = set (set w.views id (join_both v b)) other spent })

-- the world goes by steps, one after the other
abbrev pub Runs : Key → World → List Event → World → Type 0
Runs k w [] u = w ≡ u
Runs k w (e ∷ es) u = (m : World) × Goes k w e m × Runs k m es u

-- from an empty log on, the rule holds after every list of steps
abbrev pub EverySchedule : Type 0
EverySchedule = (k : Key) (g : ℕ → ℕ) (events : List Event) (u : World) → FitsTable k
    → IsOpening k.version k.number k.rows.value g
    → Runs k (empty_world k g) events u → Rule k u

-- and each step keeps for good what lasts
abbrev pub EveryStepIsFinal : Type 0
EveryStepIsFinal = (k : Key) (e : Event) (w u : World) (r : Rule k w) → Goes k w e u → (s : Rule k u)
    × Final k r.start s.start r.lane_of s.lane_of w u
