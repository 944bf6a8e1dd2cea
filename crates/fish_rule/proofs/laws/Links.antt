-- What the owner of a view may conclude of linked entries, and of the one that it is about to link.
use Rattle.std.proofs.Common.{◌≡◌, ℕ, ◌*◌, ◌<◌, ◌≤◌, suc, subst, arith, ◌≢◌, ◌+◌, List, length, get_or, set, refl, sym}
use Rattle.std.proofs.Common.{get_or-set_other}
use Rattle.fish_rule.proofs.basics.Lists.{all_among}
use Rattle.fish_rule.proofs.steps.AimEntry.{own_within, own_room}
use Rattle.fish_rule.proofs.basics.FirstHeads.{linked_from, flight_from}
use Rattle.fish_rule.proofs.steps.LoadPrevious.{node_linked, place_within}
use Rattle.fish_rule.proofs.steps.LoadNode.{second_within}
use Rattle.fish_rule.proofs.basics.Places.{one_chain}
use Rattle.fish_rule.specs.ChainSteps.{CanAimEntry, HasNode, own_place}
use Rattle.fish_layout.specs.Entry.{entry_number}
use Rattle.fish_rule.specs.Table.{IsOfMoment}
use Rattle.fish_rule.proofs.basics.Context.{Among, Flight, Key, View}
use Rattle.fish_rule.specs.Gaps.{IsLabel}
use Rattle.fish_rule.specs.declared.view.Label.{Label}
use Rattle.fish_layout.proofs.Clearing.{cleared_head, cleared_same}
use Rattle.fish_layout.specs.Cleared.{IsKeyWord, body_of, entry_at}
use Rattle.fish_layout.specs.Header.{keys_of}
use Rattle.fish_rule.proofs.basics.Bodies.{linked-key}
use Rattle.fish_rule.proofs.steps.SwingHead.{own_unlinked}

-- a place that a pass knows linked is of one bucket
pub one_bucket : (v : View) (b c p : ℕ) → IsOfMoment v → HasNode v b p → HasNode v c p → b ≡ c
one_bucket v b c p s one two = one_chain s.rule b c p (node_linked s.rule s.seat s.at b p one)
    (node_linked s.rule s.seat s.at c p two)

-- and within the log
pub node_law : (k : Key) (v : View) (b p : ℕ) → v.about ≡ k → IsOfMoment v → HasNode v b p → (k.line * 4 ≤ p)
    × (p < k.end * 4)
node_law k v b p about s node =
    let h = place_within s.rule b p (node_linked s.rule s.seat s.at b p node) in
    let fits = s.rule.key_fits in
    let some_ = fits.some_lines in
    subst (λ (z : Key). (z.line * 4 ≤ p) × (p < z.end * 4)) about (h.0, omega arith)

-- and so is its second word
pub second_law : (k : Key) (v : View) (b p : ℕ) → v.about ≡ k → IsOfMoment v → HasNode v b p
    → (k.line * 4 ≤ suc p) × (suc p < k.end * 4)
second_law k v b p about s node =
    let h = second_within s.rule b p
    (node_linked s.rule s.seat s.at b p node) in
    let fits = s.rule.key_fits in
    let some_ = fits.some_lines in
    subst (λ (z : Key). (z.line * 4 ≤ suc p) × (suc p < z.end * 4)) about (h.0, omega arith)

-- and so is the own entry that is next to be linked
pub aim_law : (k : Key) (v : View) (f : Flight) → v.about ≡ k → IsOfMoment v → CanAimEntry v f
    → (k.line * 4 ≤ own_place f) × (own_place f < k.end * 4)
aim_law k v f about s can =
    let h = own_within s.rule s.seat s.at f can in
    let fits = s.rule.key_fits in
    let some_ = fits.some_lines in
    subst (λ (z : Key). (z.line * 4 ≤ own_place f) × (own_place f < z.end * 4)) about (h.0, omega arith)

-- the place of a linked entry is after the base's
pub node_behind : (v : View) (b p : ℕ) → IsOfMoment v → HasNode v b p → v.about.line * 4 < p
node_behind v b p s node = linked_from s.rule b p (node_linked s.rule s.seat s.at b p node)

-- a number that a second word names is one of the table
pub label_above : (v : View) (l : Label) → IsOfMoment v → Among l v.learned.labels → v.about.number ≤ entry_number l.word
label_above v l s among = (all_among (IsLabel v.about s.moment.count s.moment.dir s.moment.log s.rule.start) l
    v.learned.labels (s.rule.facts s.seat v s.at).labels among).above

-- the place of the entry is no linked place
pub not_own : (v : View) (f : Flight) (b p : ℕ) → IsOfMoment v → CanAimEntry v f → HasNode v b p → p ≢ own_place f
not_own v f b p s can node =
    own_unlinked s.rule s.seat s.at f can b p
    (node_linked s.rule s.seat s.at b p node)

-- it is after the base's
pub own_behind : (v : View) (f : Flight) → IsOfMoment v → CanAimEntry v f → v.about.line * 4 < own_place f
own_behind v f s can =
    let from = flight_from s.rule s.seat v s.at f can.flying in
    let is : own_place f ≡ f.line * 4 + (1 + 3 * f.linked) = refl in
    omega arith

-- its first word is one of the record's words
pub own_word : (v : View) (f : Flight) → IsOfMoment v → CanAimEntry v f → entry_at f.linked < length f.words
own_word v f s can =
    let room = own_room s.rule s.seat s.at f can in
    let full = can.full in
    omega arith

-- the record's body does not see what its first word is
pub body-set : (words : List ℕ) (c x : ℕ) → c < keys_of (body_of words 0)
    → body_of (set words (entry_at c) x) ≡ body_of words
body-set words c x counts =
    let f : ℕ → ℕ = λ i. get_or words i 0 in
    let head : body_of words 0 ≡ f 0 = cleared_head f in
    let less : suc c ≤ keys_of (f 0) = subst (λ (z : ℕ). c < keys_of z) head counts in
    let key : IsKeyWord (keys_of (f 0)) (entry_at c) =
    linked-key (keys_of (f 0)) (suc c) (entry_at c) less (c, omega arith, refl) in
    cleared_same f (λ i. get_or (set words (entry_at c) x) i 0)
    (λ i within plain. get_or-set_other words (entry_at c) i x 0
    (λ e. plain (subst (IsKeyWord (keys_of (f 0))) (sym e) key)))
