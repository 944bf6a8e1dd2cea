-- A walk over an index from its head to its end: what it gathers at each entry, and what is found in all.
use Rattle.std.proofs.Common.{◌≡◌, ◌≢◌, ℕ, ◌*◌, ◌<◌, ◌≤◌, List, [], ◌∷◌, ◌++◌, refl, sym, ap, ◌∙◌, subst, ⊎_elim, inl, inr}
use Rattle.std.proofs.Common.{arith, append_assoc, append-nil}
use Rattle.std.proofs.Math.Decide.{ℕ_discrete}
use Rattle.fish_chain.specs.Values.{HasValue}
use Rattle.fish_chain.specs.Walks.{HasBegunWalk, HasRange, IsNextNode, IsWalkRest, IsWalking}
use Rattle.fish_chain.specs.declared.walk.Node.{Node}
use Rattle.fish_epoch.proofs.Reading.{knows_later}
use Rattle.fish_lang.specs.Definition.{Definition}
use Rattle.fish_layout.specs.Hash.{bucket_in, key_hash_of}
use Rattle.fish_rule.proofs.laws.Intervals.{intervals_stay}
use Rattle.fish_rule.proofs.laws.ChainFacts.{always_later}
use Rattle.fish_rule.specs.ChainSteps.{HasNode}
use Rattle.fish_rule.specs.Logs.{Learns}
use Rattle.fish_rule.specs.Parts.{first_head}
use Rattle.fish_rule.specs.Table.{IsOfMoment}
use Rattle.fish_rule.specs.Views.{Among}
use Rattle.fish_rule.specs.ChainFacts.{Always, IsClear, IsNodeIn}
use Rattle.fish_rule.specs.declared.table.Walk.{Walk}
use Rattle.fish_rule.specs.declared.view.Key.{Key}
use Rattle.fish_rule.specs.declared.view.View.{View}
use Rattle.fish_scan.proofs.Gathering.{entry_matches, gather_add, gather_end, gather_later, gather_pass, gather_start}
use Rattle.fish_scan.specs.Indices.{bucket_of_value}
use Rattle.fish_scan.specs.within.Indices.{AddsNode, Gathers, IsIndex}
use Rattle.fish_scan.specs.within.Reading.{Adds}
use Rattle.fish_value.specs.declared.row.Row.{Row}
use Rattle.fish_value.specs.declared.value.Value.{Value}

-- ---- what stays

-- an index stays one
pub index_later : (v u : View) (def : Definition) (id from to : ℕ) → Learns v u → IsIndex v def id from to
    → IsIndex u def id from to
index_later v u def id from to learns x = record {
  version = x.version;
  rows = x.rows;
  knows = knows_later v u x.version x.rows learns x.knows;
  listed = x.listed;
  there = x.there;
  means = x.means;
  begin = x.begin;
  end = x.end;
  interval = intervals_stay v u id x.begin x.end learns x.interval;
  after = x.after;
  before = x.before;
}

-- and so does the node that a walk gave
pub next_later : (v u : View) (walk : Walk) (node : Node) → Learns v u → IsNextNode v walk node → IsNextNode u walk node
next_later v u walk node learns h = record {
  from = h.from;
  to = h.to;
  entry = always_later v u _ learns h.entry;
  below = h.below;
  next = always_later v u _ learns h.next;
}

-- a walk goes on over what is known later
pub walking_later : (v u : View) (walk : Walk) → Learns v u → IsWalking v walk → IsWalking u walk
walking_later v u walk learns h = record {
  settled = (let a = h.settled in let b = learns.settled in omega arith);
  at = ⊎_elim (λ (e : IsWalkRest v walk.bucket walk.from walk.place).
      inl (let p = subst (λ (z : Key). (walk.place ≤ z.line * 4) × (walk.from ≤ z.number
      → walk.place ≡ first_head z walk.bucket)) (sym learns.about) (e.past, e.first) in
      record { past = p.0; first = p.1 }))
      (λ (m : HasNode v walk.bucket walk.place × (walk.place < walk.given)).
      inr (learns.nodes (record { bucket = walk.bucket; place = walk.place }) m.0, m.1)) h.at;
  clear = always_later v u (IsClear walk.bucket walk.from walk.to walk.given walk.place) learns h.clear;
}

-- a log has one number of buckets
pub bucket_still : (v u : View) (id : ℕ) (value : Value) → Learns v u → bucket_of_value v id value ≡ bucket_of_value u id value
bucket_still v u id value learns =
    ap (λ (z : Key). bucket_in (key_hash_of id value) z.buckets) (sym learns.about)

-- ---- one entry

-- what a walk has gathered came after rows
abbrev pub Gathered : View → Definition → Value → ℕ → ℕ → ℕ → ℕ → ℕ → List Row → List Row → Type 0
Gathered v def value id bucket from to given start rows = (new : List Row) × (rows ≡ start ++ new)
    × Gathers v def value id bucket from to given new

-- at each entry that the walk gives its record is gathered where it matches
pub gathered_next : (v : View) (def : Definition) (value : Value) (id bucket from to : ℕ) (walk : Walk) (node : Node)
    (start before after : List Row) → HasRange walk bucket from to → IsOfMoment v → IsIndex v def id from to
    → Gathered v def value id bucket from to walk.given start before → IsNextNode v walk node
    → (node.id ≡ id → AddsNode v value node before after) → (node.id ≢ id → after ≡ before)
    → Gathered v def value id bucket from to node.place start after
gathered_next v def value id bucket from to walk node start before after range s index (rows, is, h) next own other =
    by (ℕ_discrete node.id id)
  where
    entry_is : Always v (IsNodeIn bucket node.number node.key node.place node.id)
    entry_is = subst (λ (z : ℕ). Always v (IsNodeIn z node.number node.key node.place node.id)) range.bucket_is next.entry

    clear : Always v (IsClear bucket from to walk.given node.place)
    clear = subst (λ (z : ℕ × ℕ × ℕ). Always v (IsClear z.0 z.1 z.2 walk.given node.place))
        (λ i. (range.bucket_is i, range.from_is i, range.to_is i)) next.next

    above : from ≤ node.number
    above = subst (λ (z : ℕ). z ≤ node.number) range.from_is next.from

    below : node.number < to
    below = subst (λ (z : ℕ). node.number < z) range.to_is next.to

    passed : (node.id ≡ id → Always v (λ k w. ¬ HasValue node.number node.key value k w)) → after ≡ before
        → Gathered v def value id bucket from to node.place start after
    passed lacks same = (
      rows,
      same ∙ is,
      gather_pass def value id bucket from to v node walk.given rows h entry_is next.below clear lacks,
    )

    add : node.id ≡ id → AddsNode v value node before after → Gathered v def value id bucket from to node.place start after
    add same (inr (none, lacks)) = passed (λ _. lacks) none
    add same (inl (payload, r)) =
        let row : Row = record { number = node.number; payload = payload } in
        let told = r.valued.1 in (
          rows ++ row ∷ [],
          r.added ∙ ap (λ (z : List Row). z ++ row ∷ []) is ∙ append_assoc start rows (row ∷ []),
          gather_add def value id bucket from to v node walk.given rows h entry_is next.below clear s r.valued.0 row refl same above
              below (entry_matches v def value id bucket from to told.0 node told.1 payload index above below same entry_is
              r.valued.0 told.2),
        )

    by : Dec (node.id ≡ id) → Gathered v def value id bucket from to node.place start after
    by (yes same) = add same (own same)
    by (no differs) = passed (λ same. absurd (differs same)) (other differs)

-- at the head nothing is gathered
pub gathered_none : (v : View) (def : Definition) (value : Value) (id bucket from to : ℕ) (walk : Walk) (start : List Row)
    → HasBegunWalk v walk bucket from to → Gathered v def value id bucket from to walk.given start start
gathered_none v def value id bucket from to walk start begun =
    ([], sym (append-nil start), gather_start def value id bucket from to v walk.given begun.ahead)

-- and at the end all
pub gathered_all : (v : View) (def : Definition) (value : Value) (id bucket from to : ℕ) (walk : Walk) (opens : List ℕ)
    (start rows : List Row) → HasRange walk bucket from to → IsIndex v def id from to → bucket ≡ bucket_of_value v id value
    → ((n : ℕ) → from ≤ n → n < to → ¬ Among n opens) → Gathered v def value id bucket from to walk.given start rows
    → Always v (IsClear walk.bucket walk.from walk.to walk.given 0) → Adds v def value from to opens start rows
gathered_all v def value id bucket from to walk opens start rows range index is free (new, same, h) clear = (
  new,
  same,
  gather_end def value id bucket from to v walk.given new opens index is free h
      (subst (λ (z : ℕ × ℕ × ℕ). Always v (IsClear z.0 z.1 z.2 walk.given 0))
      (λ i. (range.bucket_is i, range.from_is i, range.to_is i)) clear),
)

-- what was gathered stays so, wherever the walk is said to stand
pub gathered_later : (v u : View) (def : Definition) (value : Value) (id bucket from to given : ℕ) (start rows : List Row)
    → Learns v u → Gathered v def value id bucket from to given start rows
    → Gathered u def value id bucket from to given start rows
gathered_later v u def value id bucket from to given start rows learns (new, is, h) =
    (new, is, gather_later def value id bucket from to v u given new learns h)
