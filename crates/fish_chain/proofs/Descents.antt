-- The steps of a walk, over plain views.
use Rattle.std.proofs.Common.{◌≡◌, ℕ, ◌+◌, ◌*◌, ◌<◌, ◌≤◌, sym, refl, subst, ◌⊎◌, ⊎_elim, inl, inr, arith}
use Rattle.fish_chain.specs.Walks.{HasBegunWalk, HasRange, IsEntryFrom, IsNextNode, IsNumbered, IsPastPlace, IsWalkRest, IsWalking}
use Rattle.fish_chain.specs.within.Walks.{LeadsTo}
use Rattle.fish_chain.specs.declared.walk.Node.{Node}
use Rattle.fish_layout.specs.Entry.{entry_id, entry_number, entry_place}
use Rattle.fish_rule.proofs.laws.Descents.{entries_behind, entries_within, extends_node, head_clear, head_here}
use Rattle.fish_rule.proofs.laws.Descents.{previous_clear, previous_here}
use Rattle.fish_rule.proofs.laws.Learning.{extends_both}
use Rattle.fish_rule.proofs.laws.Links.{label_above, node_behind}
use Rattle.fish_rule.proofs.laws.ChainFacts.{always_later, clear_both, label_entry, label_last, label_outside}
use Rattle.fish_rule.specs.ChainSteps.{HasNode, after_load_head, after_load_node, after_load_previous}
use Rattle.fish_rule.specs.Logs.{Extends, Learns}
use Rattle.fish_rule.specs.Parts.{first_head}
use Rattle.fish_rule.specs.Table.{IsOfMoment}
use Rattle.fish_rule.specs.Views.{Among}
use Rattle.fish_rule.specs.ChainFacts.{Always, IsClear, IsEntryIn, IsNodeIn}
use Rattle.fish_rule.specs.declared.table.Walk.{Walk}
use Rattle.fish_rule.specs.declared.view.Key.{Key}
use Rattle.fish_rule.specs.declared.view.Label.{Label}
use Rattle.fish_rule.specs.declared.view.View.{View}

-- ---- the base

-- what a load tells of a place that is none of the table's
pub first_known : (k : Key) (v : View) (b x : ℕ) → v.about ≡ k → (x ≤ k.line * 4 → x ≡ first_head k b)
    → IsPastPlace v x → x ≡ first_head v.about b
first_known k v b x about first = subst (λ (z : Key). x ≤ z.line * 4 → x ≡ first_head z b) (sym about) first

-- a place after the key's base is after the view's
pub behind_known : (k : Key) (v : View) (x : ℕ) → v.about ≡ k → k.line * 4 < x → v.about.line * 4 < x
behind_known k v x about more = subst (λ (z : Key). z.line * 4 < x) (sym about) more

-- and one that isn't is not
pub past_known : (k : Key) (v : View) (x : ℕ) → v.about ≡ k → x ≤ k.line * 4 → IsPastPlace v x
past_known k v x about less = subst (λ (z : Key). x ≤ z.line * 4) (sym about) less

-- ---- a start

-- a walk that stands at the head that was seen has its whole range before it
pub begun_at : (v : View) (bucket from to place : ℕ) → to ≤ v.learned.settled
    → (IsPastPlace v place → place ≡ first_head v.about bucket)
    → HasBegunWalk (after_load_head v bucket place)
    (record { bucket = bucket; from = from; to = to; given = place + 1; place = place }) bucket from to
begun_at v bucket from to place known first =
    let u : View = after_load_head v bucket place in
    let top : Always u (λ k w. (n c p : ℕ) → from ≤ n → n < to → IsEntryIn bucket n c p k w → p < place + 1) =
    λ x learns w r seat at n c p more less h.
    let inside = entries_within u x learns w r seat at bucket n c p h in
    let same : x.about ≡ v.about = learns.about in
    let below : p < v.about.end * 4 = subst (λ (z : Key). p < z.end * 4) same inside in
    let high = head_clear v bucket place from to known x learns w r seat at n c p more less h below in
    omega arith in
    record {
      range = record { bucket_is = refl; from_is = refl; to_is = refl };
      walking = record {
        settled = known;
        at = ⊎_elim (λ (e : IsPastPlace v place). inl (record { past = e; first = λ _. first e }))
            (λ (m : HasNode u bucket place). inr (m, omega arith))
            (head_here v bucket place);
        clear = λ x learns w r seat at n c p more less h under. omega arith;
      };
      ahead = top;
    }

-- ---- a step down

-- below a record below the range there is nothing left
pub stops_below : (v : View) (walk : Walk) (number : ℕ) → IsNumbered v walk.place number → number < walk.from
    → 0 < walk.place → IsOfMoment v → LeadsTo v walk 0
stops_below v walk number is less some_ stands = record {
  lower = some_;
  at = inl (record {
    past = omega arith;
    first = λ from. let above = label_above v is.label stands is.read in let e = is.number_is in absurd (omega arith);
  });
  clear = label_last v is.label walk.bucket walk.from walk.to walk.place is.read
      (let e = is.number_is in omega arith)
      (λ x learns w r seat at n c p more under h below. let e = is.place_is in omega arith);
}

-- else the walk goes on at what the first word leads to
pub goes_down : (v : View) (walk : Walk) (previous : ℕ) → walk.to ≤ v.learned.settled → previous < walk.place
    → (IsPastPlace v previous → previous ≡ first_head v.about walk.bucket)
    → LeadsTo (after_load_previous v walk.bucket walk.place previous) walk previous
goes_down v walk previous known less first = record {
  lower = less;
  at = ⊎_elim (λ (e : IsPastPlace v previous). inl (record { past = e; first = λ _. first e }))
      (λ (m : HasNode (after_load_previous v walk.bucket walk.place previous) walk.bucket previous). inr m)
      (previous_here v walk.bucket walk.place previous);
  clear = previous_clear v walk.bucket walk.place previous walk.from walk.to known;
}

-- ---- a turn of a walk: an entry's second word is read, and the walk goes on below

-- a walk that isn't past the table stands at an entry of its bucket, below what it gave
pub stands_at : (v : View) (walk : Walk) → IsWalking v walk → v.about.line * 4 < walk.place
    → HasNode v walk.bucket walk.place × (walk.place < walk.given)
stands_at v walk walking some_ = ⊎_elim
    (λ (e : IsWalkRest v walk.bucket walk.from walk.place). let past = e.past in absurd (omega arith))
    (λ (h : HasNode v walk.bucket walk.place × (walk.place < walk.given)). h) walking.at

-- what the second word was when it was read
abbrev pub label_at : View → ℕ → ℕ → Label
label_at v p word = record { place = p; word = word; end = v.learned.settled }

-- it is learned
pub label_read : (v u : View) (p word : ℕ) → u ≡ after_load_node v p word → Among (label_at v p word) u.learned.labels
label_read v u p word seen = subst (λ (z : View). Among (label_at v p word) z.learned.labels) (sym seen) (inl refl)

-- and names its record's number
pub numbered : (v u : View) (p word number : ℕ) → u ≡ after_load_node v p word → number ≡ entry_number word
    → IsNumbered u p number
numbered v u p word number seen is = record {
  label = label_at v p word;
  read = label_read v u p word seen;
  place_is = refl;
  number_is = sym is;
}

-- a view after the load of a second word extends the one before
pub looked_node : (v u : View) (p word : ℕ) → u ≡ after_load_node v p word → Extends v u
looked_node v u p word seen = subst (Extends v) (sym seen) (extends_node v p word)

-- the entry whose second word was read is one of the walk's bucket, and of a number from the walk's first one on
pub passed_at : (v u t : View) (walk : Walk) (word number bucket first : ℕ) → IsWalking v walk
    → v.about.line * 4 < walk.place → u ≡ after_load_node v walk.place word → Learns u t → number ≡ entry_number word
    → walk.bucket ≡ bucket → walk.from ≡ first → walk.from ≤ number → IsEntryFrom t bucket first walk.place
passed_at v u t walk word number bucket first walking behind seen learns is bucket_is first_is from =
    let node = (stands_at v walk walking behind).0 in
    let read = looked_node v u walk.place word seen in
    record {
      node = subst (λ (z : ℕ). HasNode t z walk.place) bucket_is (learns.nodes _ (read.learns.nodes _ node));
      number = number;
      numbered = record {
        label = label_at v walk.place word;
        read = learns.labels _ (label_read v u walk.place word seen);
        place_is = refl;
        number_is = sym is;
      };
      from = omega arith;
    }

module _ (v u t : View) (walk : Walk) (word below : ℕ) (walking : IsWalking v walk)
    (some_ : v.about.line * 4 < walk.place)
    (seen : u ≡ after_load_node v walk.place word) (looked : Extends u t) (goes : LeadsTo t walk below) where
  -- all of the turn only learns
  turn_looked : Extends v t
  turn_looked = extends_both v u t (looked_node v u walk.place word seen) looked

  -- the label is still known
  turn_label : Among (label_at v walk.place word) t.learned.labels
  turn_label = looked.learns.labels (label_at v walk.place word) (label_read v u walk.place word seen)

  -- so is where the walk stood
  turn_clear : Always t (IsClear walk.bucket walk.from walk.to walk.given walk.place)
  turn_clear = always_later v t (IsClear walk.bucket walk.from walk.to walk.given walk.place)
      turn_looked.learns walking.clear

  -- the range stays settled
  turn_settled : walk.to ≤ t.learned.settled
  turn_settled = (let a = walking.settled in let b = turn_looked.learns.settled in omega arith)

  -- the walk stands at the end, or at an entry below a place that isn't above where it stood
  turn_at : (given_ : ℕ) → walk.place ≤ given_
      → IsWalkRest t walk.bucket walk.from below ⊎ (HasNode t walk.bucket below × (below < given_))
  turn_at given_ more = ⊎_elim (λ (e : IsWalkRest t walk.bucket walk.from below). inl e)
      (λ (m : HasNode t walk.bucket below). inr (m, (let less = goes.lower in omega arith))) goes.at

  -- an entry outside the range is passed
  pub passed_by : (entry_number word < walk.from) ⊎ (walk.to ≤ entry_number word)
      → IsWalking t (record walk { place = below })
  passed_by out = record {
    settled = turn_settled;
    at = turn_at walk.given (let h = (stands_at v walk walking some_).1 in omega arith);
    clear = clear_both t walk.bucket walk.from walk.to walk.given walk.place below
        (label_outside t (label_at v walk.place word) walk.from walk.to turn_label out) turn_clear goes.clear;
  }

  -- an entry of the range is given, and the walk goes on after it
  pub gone_on : IsWalking t (record walk { given = walk.place; place = below })
  gone_on = record { settled = turn_settled; at = turn_at walk.place (omega arith); clear = goes.clear }

  -- it is the next one
  pub given_next : (node : Node) → node.number ≡ entry_number word → node.place ≡ walk.place
      → node.id ≡ entry_id word → node.key ≡ entry_place word → walk.from ≤ node.number → node.number < walk.to
      → IsNextNode t walk node
  given_next node number place id key from to =
      let at = stands_at v walk walking some_ in
      let settled = walking.settled in
      let entry = label_entry t (label_at v walk.place word) walk.bucket turn_label
      (turn_looked.learns.nodes _ at.0) (omega arith) in
      let below_ = at.1 in
      record {
        from = from;
        to = to;
        entry = subst (λ (z : ℕ × ℕ × ℕ × ℕ). Always t (IsNodeIn walk.bucket z.0 z.1 z.2 z.3))
            (λ i. (sym number i, sym key i, sym place i, sym id i)) entry;
        below = omega arith;
        next = subst (λ (z : ℕ). Always t (IsClear walk.bucket walk.from walk.to walk.given z)) (sym place) turn_clear;
      }

-- ---- the end

-- a walk that is past the table stands where nothing of it is left
pub rests_at : (v : View) (walk : Walk) → IsWalking v walk → IsOfMoment v → IsPastPlace v walk.place
    → IsWalkRest v walk.bucket walk.from walk.place
rests_at v walk walking stands past = ⊎_elim (λ (e : IsWalkRest v walk.bucket walk.from walk.place). e)
    (λ (h : HasNode v walk.bucket walk.place × (walk.place < walk.given)).
    let behind = node_behind v walk.bucket walk.place stands h.0 in absurd (omega arith)) walking.at

-- and no entry of the range is left
pub clear_past : (v : View) (walk : Walk) → IsWalking v walk → IsPastPlace v walk.place
    → Always v (IsClear walk.bucket walk.from walk.to walk.given 0)
clear_past v walk walking past u learns w r seat at n c p more less h under =
    let behind = entries_behind v u learns w r seat at walk.bucket n c p h in
    let low_ = walking.clear u learns w r seat at n c p more less h under in
    let base_ = subst (λ (z : Key). walk.place ≤ z.line * 4) (sym learns.about) past in
    absurd (omega arith)

-- ---- one range

-- what is next in a walk is next in each with its bucket, range and what it gave
pub next_same : (v : View) (walk other : Walk) (node : Node) → HasRange walk other.bucket other.from other.to
    → walk.given ≡ other.given → IsNextNode v walk node → IsNextNode v other node
next_same v walk other node range given next = record {
  from = subst (λ (z : ℕ). z ≤ node.number) range.from_is next.from;
  to = subst (λ (z : ℕ). node.number < z) range.to_is next.to;
  entry = subst (λ (z : ℕ). Always v (IsNodeIn z node.number node.key node.place node.id)) range.bucket_is next.entry;
  below = subst (λ (z : ℕ). node.place < z) given next.below;
  next = subst (λ (z : ℕ × ℕ × ℕ × ℕ). Always v (IsClear z.0 z.1 z.2 z.3 node.place))
      (λ i. (range.bucket_is i, range.from_is i, range.to_is i, given i)) next.next;
}

-- so it is where nothing is left
pub clear_same : (v : View) (walk other : Walk) (below : ℕ) → HasRange walk other.bucket other.from other.to
    → walk.given ≡ other.given → Always v (IsClear walk.bucket walk.from walk.to walk.given below)
    → Always v (IsClear other.bucket other.from other.to other.given below)
clear_same v walk other below range given clear =
    subst (λ (z : ℕ × ℕ × ℕ × ℕ). Always v (IsClear z.0 z.1 z.2 z.3 below))
    (λ i. (range.bucket_is i, range.from_is i, range.to_is i, given i)) clear
