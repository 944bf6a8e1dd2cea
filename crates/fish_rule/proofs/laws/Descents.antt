-- Views that learn on the way down a chain, and what their owner may conclude at once.
use Rattle.std.proofs.Common.{◌≡◌, ℕ, ◌+◌, ◌*◌, ◌<◌, ◌≤◌, suc, List, ◌∷◌, sym, refl, ap, ◌∙◌, ◌⊎◌, inl, inr, arith}
use Rattle.std.proofs.Math.Decide.{dec_lt}
use Rattle.fish_layout.specs.Cleared.{choose}
use Rattle.fish_rule.proofs.basics.Bodies.{kind-inside, published}
use Rattle.fish_rule.proofs.basics.Regions.{starts_above}
use Rattle.fish_rule.specs.World.{low}
use Rattle.fish_rule.proofs.laws.Clocks.{later_loaded}
use Rattle.fish_rule.proofs.laws.Learning.{ahead, learns_self}
use Rattle.fish_rule.proofs.laws.ChainFacts.{claimed_there, gap_clear, within_region}
use Rattle.fish_rule.specs.ChainSteps.{HasNode, after_load_head, after_load_node, after_load_previous, gap, head_seen}
use Rattle.fish_rule.specs.ChainSteps.{previous_seen, with_node}
use Rattle.fish_rule.specs.Logs.{Extends, Learns}
use Rattle.fish_rule.specs.Regions.{code}
use Rattle.fish_rule.specs.SpaceSteps.{loaded}
use Rattle.fish_rule.proofs.basics.Context.{Among, Clock, Key, View}
use Rattle.fish_rule.specs.ChainFacts.{Always, IsClear, IsEntryIn}
use Rattle.fish_rule.specs.declared.view.Kind.TheVariants.{Mark, Stored}
use Rattle.fish_rule.specs.declared.view.EntryPlace.{EntryPlace}

-- ---- views that only learn

-- the nodes that were known stay known
pub nodes_stay : (k : Key) (b x : ℕ) (nodes : List EntryPlace) (n : EntryPlace) → Among n nodes → Among n (with_node k b x nodes)
nodes_stay k b x nodes n m = by (dec_lt (k.line * 4) x)
  where
    by : (d : Dec (k.line * 4 < x)) → Among n (choose d (record { bucket = b; place = x } ∷ nodes) nodes)
    by (yes h) = inr m
    by (no h) = m

-- a place after the base's is that of a node
pub node_here : (k : Key) (b x : ℕ) (nodes : List EntryPlace) → (x ≤ k.line * 4)
    ⊎ Among (record { bucket = b; place = x }) (with_node k b x nodes)
node_here k b x nodes = by (dec_lt (k.line * 4) x)
  where
    by : (d : Dec (k.line * 4 < x)) → (x ≤ k.line * 4)
        ⊎ Among (record { bucket = b; place = x }) (choose d (record { bucket = b; place = x } ∷ nodes) nodes)
    by (yes h) = inr (inl refl)
    by (no h) = inl (omega arith)

-- a head that is seen is learned on top
pub head_learns : (v : View) (b x : ℕ) (clock : Clock) → Learns v (head_seen v b x clock)
head_learns v b x clock = assumption (
  learns_self v,
  nodes_stay v.about b x v.learned.nodes,
  ahead (record { bucket = b; place = x }) v.learned.least_heads,
  ahead (gap b (v.about.end * 4) x v.learned) v.learned.gaps,
)

-- so is a first word
pub previous_learns : (v : View) (b p x : ℕ) (clock : Clock) → Learns v (previous_seen v b p x clock)
previous_learns v b p x clock = assumption (
  learns_self v,
  nodes_stay v.about b x v.learned.nodes,
  ahead (record { place = p; value = x }) v.learned.least_previous,
  ahead (gap b p x v.learned) v.learned.gaps,
)

-- a load of a head extends a view
pub extends_head : (v : View) (b x : ℕ) → Extends v (after_load_head v b x)
extends_head v b x =
    record { learns = head_learns v b x (loaded v.clock); clock = later_loaded v.clock; frame = refl }

-- so does one of a first word
pub extends_previous : (v : View) (b p x : ℕ) → Extends v (after_load_previous v b p x)
extends_previous v b p x =
    record { learns = previous_learns v b p x (loaded v.clock); clock = later_loaded v.clock; frame = refl }

-- and a second word
pub extends_node : (v : View) (p x : ℕ) → Extends v (after_load_node v p x)
extends_node v p x = record {
  learns = assumption (learns_self v, ahead (record { place = p; word = x; end = v.learned.settled }) v.learned.labels);
  clock = later_loaded v.clock;
  frame = refl;
}

-- ---- where a walk goes on

-- at the head that was seen, or after no entry of the table
pub head_here : (v : View) (b x : ℕ) → (x ≤ v.about.line * 4) ⊎ HasNode (after_load_head v b x) b x
head_here v b x = node_here v.about b x v.learned.nodes

-- at the entry that the first word leads to, or after no entry of the table
pub previous_here : (v : View) (b p x : ℕ) → (x ≤ v.about.line * 4) ⊎ HasNode (after_load_previous v b p x) b x
previous_here v b p x = node_here v.about b x v.learned.nodes

-- above the head there is no entry of a settled record
pub head_clear : (v : View) (b x from to : ℕ) → to ≤ v.learned.settled
    → Always (after_load_head v b x) (IsClear b from to (v.about.end * 4) x)
head_clear v b x from to known =
    gap_clear (after_load_head v b x) (gap b (v.about.end * 4) x v.learned) from to (inl refl) known

-- nor between a place and what its first word leads to
pub previous_clear : (v : View) (b p x from to : ℕ) → to ≤ v.learned.settled
    → Always (after_load_previous v b p x) (IsClear b from to p x)
previous_clear v b p x from to known =
    gap_clear (after_load_previous v b p x) (gap b p x v.learned) from to (inl refl) known

-- every entry lies after the base's place
pub entries_behind : (v : View) → Always v (λ k w. (b n c p : ℕ) → IsEntryIn b n c p k w → k.line * 4 < p)
entries_behind v u learns w r seat at b n c p h =
    let k : Key = u.about in
    let below = claimed_there r b n c p h in
    let finished = r.space.finished n h.above below (published (w.dir n) Stored h.stored) in
    let line = finished.line in
    let from = starts_above k w.count w.line r.start r.space.regions n h.above (omega arith) in
    let is : p ≡ low (w.dir n) * 4 + (1 + 3 * c) = h.is.is in
    omega arith

-- every entry lies below the log's end
pub entries_within : (v : View) → Always v (λ k w. (b n c p : ℕ) → IsEntryIn b n c p k w → p < k.end * 4)
entries_within v u learns w r seat at b n c p h =
    let k : Key = u.about in
    let below = claimed_there r b n c p h in
    let inside = within_region r b n c p below h in
    let set_ = published (w.dir n) Stored h.stored in
    let finished = r.space.finished n h.above below set_ in
    let end = kind-inside k.end (r.start n) (r.start (suc n))
    (λ e. let q : code Stored ≡ code Mark = sym h.stored ∙ finished.kind ∙ ap code e in cc) in
    omega arith
