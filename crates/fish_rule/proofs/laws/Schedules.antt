-- Every step keeps the rule, and so does every list of steps.
use Rattle.std.proofs.Common.{◌≡◌, ◌≢◌, ℕ, ◌+◌, ⊎_elim, List, [], ◌∷◌, set, sym, refl, ap, subst}
use Rattle.fish_rule.proofs.steps.AimEntry.{aim_entry_kept, aim_entry_lasts}
use Rattle.fish_rule.proofs.steps.OpenLog.{empty_rule}
use Rattle.fish_rule.proofs.steps.ClaimLines.{claim_lines_kept, claim_lines_lasts}
use Rattle.fish_rule.proofs.basics.Flights.{publisher_at}
use Rattle.fish_rule.proofs.steps.LoadHead.{load_head_lasts}
use Rattle.fish_rule.proofs.steps.LoadPrevious.{load_previous_lasts}
use Rattle.fish_rule.proofs.steps.LoadNode.{load_node_lasts}
use Rattle.fish_rule.proofs.steps.LoadTail.{load_tail_lasts}
use Rattle.fish_rule.proofs.steps.LookAt.{look_at_lasts}
use Rattle.fish_rule.proofs.steps.LoadSettled.{load_settled_lasts}
use Rattle.fish_rule.proofs.steps.ReadWord.{read_word_lasts}
use Rattle.fish_rule.proofs.steps.StoreWord.{store_word_kept, store_word_lasts}
use Rattle.fish_rule.proofs.steps.PublishRegion.{publish_region_kept, publish_region_lasts}
use Rattle.fish_rule.proofs.steps.RaiseSettled.{raise_settled_kept, raise_settled_lasts}
use Rattle.fish_rule.proofs.steps.SpliceKept.{splice_entry_lasts}
use Rattle.fish_rule.proofs.steps.SwingHead.{swing_head_lasts}
use Rattle.fish_rule.proofs.steps.JoinPass.{join_kept, join_lasts}
use Rattle.fish_rule.proofs.steps.SplitPass.{split_kept, split_lasts}
use Rattle.fish_rule.proofs.basics.Lasts.{Lasts}
use Rattle.fish_rule.specs.Machine.{Event, EverySchedule, EveryStepIsFinal, Exchanged, Runs, aim_entry, announce}
use Rattle.fish_rule.specs.Machine.{check_lane, claim_lines, define_word, join_pass, load_bound, load_boundary}
use Rattle.fish_rule.specs.Machine.{load_head, load_node, load_previous, load_registry, load_settled, load_tail}
use Rattle.fish_rule.specs.Machine.{load_version, look_at, publish_region, raise_settled, raise_version, read_word}
use Rattle.fish_rule.specs.Machine.{retire, splice_entry, split_pass, store_from, store_to, store_word, swing_head}
use Rattle.fish_rule.proofs.steps.LoadBoundary.{load_boundary_lasts}
use Rattle.fish_rule.proofs.steps.LoadBound.{load_bound_lasts}
use Rattle.fish_rule.proofs.steps.CheckLane.{check_lane_lasts}
use Rattle.fish_rule.proofs.steps.RaiseVersion.{raise_version_lasts}
use Rattle.fish_rule.proofs.steps.DefineWord.{define_word_lasts}
use Rattle.fish_rule.proofs.steps.StoreFrom.{store_from_lasts}
use Rattle.fish_rule.proofs.steps.StoreTo.{store_to_lasts}
use Rattle.fish_rule.proofs.steps.Announce.{announce_lasts}
use Rattle.fish_rule.proofs.steps.LoadRegistry.{load_registry_lasts}
use Rattle.fish_rule.proofs.steps.Retire.{retire_lasts}
use Rattle.fish_rule.proofs.steps.LoadVersion.{load_version_lasts}
use Rattle.fish_rule.specs.Regions.{dir_word, kind_of}
use Rattle.fish_rule.proofs.basics.Context.{Key, Rule, World}
use Rattle.fish_rule.specs.Start.{empty_world}
use Rattle.fish_rule.specs.SpaceSteps.{flight_kind, loaded, ticked}
use Rattle.fish_rule.specs.LoadSteps.{after_look_at}
use Rattle.fish_rule.specs.World.{put}

-- the same where the world is known by an equation
lasts_at : {k : Key} {w : World} (r : Rule k w) (u u' : World) → u ≡ u' → Lasts r u' → Lasts r u
lasts_at {k} {w} r u u' e h = subst (Lasts r) (sym e) h

-- and after an exchange, of either outcome
exchange_lasts : {k : Key} {w : World} (r : Rule k w) (u made missed : World) (found expected : ℕ)
    → Exchanged found expected u made missed
    → (found ≡ expected → Lasts r made) → (found ≢ expected → Lasts r missed) → Lasts r u
exchange_lasts {k} {w} r u made missed found expected g hit miss =
    ⊎_elim (λ (h : (found ≡ expected) × (u ≡ made)). lasts_at r u made h.1 (hit h.0))
    (λ (h : (found ≢ expected) × (u ≡ missed)). lasts_at r u missed h.1 (miss h.0)) g

-- each step keeps the rule and what lasts
pub event_lasts : EveryStepIsFinal
event_lasts k (claim_lines id m) w u r g = (let v = g.0 in let s = g.1 in
    lasts_at r u _ g.5 (claim_lines_kept r id s.at m g.2 g.3 g.4, claim_lines_lasts r id s.at m g.2 g.3 g.4))
event_lasts k (store_word id x) w u r g = (let v = g.0 in let f = g.1 in let s = g.2 in
    lasts_at r u _ g.4 (store_word_kept r id s.at f g.3 x, store_word_lasts r id s.at f g.3 x))
event_lasts k (publish_region id) w u r g = (let v = g.0 in let f = g.1 in let s = g.2 in let can = g.3 in
    let ends_ : kind_of k.end f.line (f.line + f.lines) ≡ flight_kind v f =
    ap (λ (z : Key). kind_of z.end f.line (f.line + f.lines)) (sym s.about) in
    lasts_at r u _ g.4 (subst (λ (z : Key). Lasts r
    (record w {
      dir = put w.dir f.number (dir_word (flight_kind v f) f.line);
      views = set w.views id (publisher_at v f z);
    })) (sym s.about) (
      publish_region_kept r id s.at f can.live can.flying (flight_kind v f) ends_ can.version can.entered can.ready,
      publish_region_lasts r id s.at f can.live can.flying (flight_kind v f) ends_ can.version can.entered can.ready,
    )))
event_lasts k (look_at id n) w u r g = (let v = g.0 in let s = g.2 in
    lasts_at r u _ g.5 (subst (λ (z : ℕ). Lasts r
    (record w { views = set w.views id (after_look_at v n z (w.dir n)) })) (sym (g.4 r))
    (look_at_lasts r id s.at n (w.dir n) g.3 s.about refl)))
event_lasts k (read_word id n i) w u r g = (let v = g.0 in let f = g.1 in let s = g.2 in
    lasts_at r u _ g.5 (read_word_lasts r id s.at f i g.3))
event_lasts k (load_tail id) w u r g = (let v = g.0 in let x : ℕ = g.1 in let s = g.2 in
    lasts_at r u _ g.5 (load_tail_lasts r id s.at x g.3 g.4))
event_lasts k (load_settled id) w u r g = (let v = g.0 in let s = g.1 in
    lasts_at r u _ g.2 (load_settled_lasts r id s.at))
event_lasts k (raise_settled id m) w u r g = (let v = g.0 in let s = g.1 in
    lasts_at r u _ g.3 (raise_settled_kept r id s.at s.about m g.2, raise_settled_lasts r id s.at s.about m g.2))
event_lasts k (load_head id b) w u r g = (let v = g.0 in let s = g.1 in
    lasts_at r u _ g.3 (load_head_lasts r id s.at b (loaded v.clock) s.about))
event_lasts k (load_previous id b p) w u r g = (let v = g.0 in let s = g.1 in
    lasts_at r u _ g.3 (load_previous_lasts r id s.at b p g.2 (loaded v.clock) s.about))
event_lasts k (load_node id b p) w u r g = (let v = g.0 in let s = g.1 in
    lasts_at r u _ g.3 (load_node_lasts r id s.at b p g.2))
event_lasts k (aim_entry id x) w u r g = (let v = g.0 in let f = g.1 in let s = g.2 in
    lasts_at r u _ g.4 (aim_entry_kept r id s.at f g.3 x, aim_entry_lasts r id s.at f g.3 x))
event_lasts k (swing_head id b h) w u r g = (let v = g.0 in let f = g.1 in let s = g.2 in let can = g.3 in
    exchange_lasts r u _ _ (w.head b) h g.4
    (λ e. swing_head_lasts r id s.at s.about f b h can e)
    (λ ne. (load_head_lasts r id s.at b (ticked v.clock) s.about)))
event_lasts k (splice_entry id b q x) w u r g = (let v = g.0 in let f = g.1 in let s = g.2 in let can = g.3 in
    exchange_lasts r u _ _ (w.log q) x g.4
    (λ e. splice_entry_lasts r id s.at s.about f b q x can e)
    (λ ne. (load_previous_lasts r id s.at b q can.node (ticked v.clock) s.about)))
event_lasts k (load_version id) w u r g = (let v = g.0 in let s = g.1 in
    lasts_at r u _ g.2 (load_version_lasts r id s.at))
event_lasts k (announce id x) w u r g = (let v = g.0 in let s = g.1 in
    lasts_at r u _ g.3 (announce_lasts r id s.at x g.2))
event_lasts k (retire id) w u r g = (let v = g.0 in let s = g.1 in
    lasts_at r u _ g.3 (retire_lasts r id s.at g.2))
event_lasts k (load_registry id p) w u r g = (let v = g.0 in let s = g.1 in
    lasts_at r u _ g.3 (load_registry_lasts r id s.at s.about p g.2))
event_lasts k (define_word id p x) w u r g = (let v = g.0 in let s = g.1 in
    lasts_at r u _ g.3 (define_word_lasts r id s.at g.2.control p x g.2))
event_lasts k (raise_version id) w u r g = (let v = g.0 in let s = g.1 in
    lasts_at r u _ g.3 (raise_version_lasts r id s.at g.2.control g.2))
event_lasts k (check_lane id l) w u r g = (let v = g.0 in let s = g.1 in
    lasts_at r u _ g.3 (check_lane_lasts r id s.at l g.2))
event_lasts k (load_bound id) w u r g = (let v = g.0 in let o = g.1 in let x : ℕ = g.2 in let s = g.3 in
    lasts_at r u _ g.7 (load_bound_lasts r id s.at o x g.4 g.5 g.6))
event_lasts k (store_from id) w u r g = (let v = g.0 in let o = g.1 in let n : ℕ = g.2 in let s = g.3 in
    lasts_at r u _ g.5 (store_from_lasts r id s.at o n g.4))
event_lasts k (store_to id row n) w u r g = (let v = g.0 in let s = g.1 in
    lasts_at r u _ g.3 (store_to_lasts r id s.at row n g.2))
event_lasts k (load_boundary id row i) w u r g = (let v = g.0 in let s = g.1 in
    lasts_at r u _ g.3 (load_boundary_lasts r id s.at row i g.2))
event_lasts k (split_pass id l) w u r g = (let v = g.0 in let s = g.1 in
    lasts_at r u _ g.3 (split_kept r id s.at l g.2, split_lasts r id s.at l g.2))
event_lasts k (join_pass id other) w u r g = (let v = g.0 in let b = g.1 in let s = g.2 in
    lasts_at r u _ g.6 (
      join_kept r id other s.at g.3 g.4 g.5,
      join_lasts r id other s.at g.3 g.4 g.5,
    ))

-- a list of steps keeps the rule
runs_kept : (k : Key) (events : List Event) (w u : World) → Rule k w → Runs k w events u → Rule k u
runs_kept k [] w u r g = subst (Rule k) g r
runs_kept k (e ∷ events) w u r g = runs_kept k events g.0 u (event_lasts k e w g.0 r g.1).0 g.2

-- from an empty log on the rule holds
pub every_schedule : EverySchedule
every_schedule k g events u fits opening runs = runs_kept k events (empty_world k g) u (empty_rule k g fits opening) runs
