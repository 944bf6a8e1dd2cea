-- What a walk down a chain gathers: nothing at its head, one record more or none at each entry, and at its end all.
use Rattle.std.proofs.Common.{◌≡◌, ℕ, ◌<◌, ◌≤◌, suc, List, [], ◌∷◌, ◌++◌, sym, ap, ◌∙◌, subst, ⊎_elim, inl, arith}
use Rattle.std.proofs.Math.Decide.{dec_lt}
use Rattle.fish_catalog.specs.declared.entry.Entry.TheVariants as entry
use Rattle.fish_chain.specs.Values.{HasValue}
use Rattle.fish_chain.specs.declared.walk.Node.{Node}
use Rattle.fish_lang.specs.Definition.{Definition}
use Rattle.fish_rule.proofs.laws.Lists.{among_left, among_right}
use Rattle.fish_rule.proofs.laws.Learning.{learns_self}
use Rattle.fish_rule.proofs.laws.ChainFacts.{always_later}
use Rattle.fish_rule.specs.Logs.{Learns, KnowsAs}
use Rattle.fish_rule.specs.Table.{IsOfMoment}
use Rattle.fish_rule.specs.Views.{Among}
use Rattle.fish_rule.specs.ChainFacts.{Always, IsClear, IsEntryIn, IsNodeIn}
use Rattle.fish_rule.specs.declared.view.Key.{Key}
use Rattle.fish_rule.specs.declared.view.View.{View}
use Rattle.fish_scan.proofs.Finding.{falls_both, same_row}
use Rattle.fish_scan.proofs.Indexing.{entry_match, match_entry}
use Rattle.fish_scan.proofs.Lists.{among_last}
use Rattle.fish_scan.proofs.Nodes.{node_older, node_once}
use Rattle.fish_scan.specs.Indices.{bucket_of_value}
use Rattle.fish_scan.specs.within.Indices.{Gathers, IsIndex}
use Rattle.fish_scan.specs.Matching.{Finds, Matches}
use Rattle.fish_value.specs.declared.row.Row.{Row}
use Rattle.fish_value.specs.declared.value.Value.{Value}

module _ (def : Definition) (value : Value) (id bucket from to : ℕ) where
  -- at the head nothing is passed
  pub gather_start : (v : View) (given : ℕ)
      → Always v (λ k w. (n c p : ℕ) → from ≤ n → n < to → IsEntryIn bucket n c p k w → p < given)
      → Gathers v def value id bucket from to given []
  gather_start v given ahead = record {
    falls = tt;
    above = λ row m. elim m [ ];
    sound = λ row m. elim m [ ];
    complete = λ row c p after before x learns w r seat at node has high m.
        let less = ahead x learns w r seat at row.number c p after before node.entry in absurd (omega arith);
    older = λ row m. elim m [ ];
  }

  -- what was gathered stays so
  pub gather_later : (v u : View) (given : ℕ) (rows : List Row) → Learns v u
      → Gathers v def value id bucket from to given rows → Gathers u def value id bucket from to given rows
  gather_later v u given rows learns h = record {
    falls = h.falls;
    above = h.above;
    sound = λ row m. always_later v u _ learns (h.sound row m);
    complete = λ row c p after before. always_later v u _ learns (h.complete row c p after before);
    older = λ row m. always_later v u _ learns (h.older row m);
  }

  module _ (v : View) (node : Node) (given : ℕ) (rows : List Row) (h : Gathers v def value id bucket from to given rows)
      (entry_is : Always v (IsNodeIn bucket node.number node.key node.place node.id)) (below : node.place < given)
      (next : Always v (IsClear bucket from to given node.place)) where
    -- an entry of another definition, or with another value, is passed
    pub gather_pass : (node.id ≡ id → Always v (λ k w. ¬ HasValue node.number node.key value k w))
        → Gathers v def value id bucket from to node.place rows
    gather_pass other = record {
      falls = h.falls;
      above = h.above;
      sound = h.sound;
      complete = λ row c p after before x learns w r seat at mine has high m.
          either row c p after before x learns w r seat at mine has high m (dec_lt p given);
      older = λ row m x learns w r seat at n c p mine has less. h.older row m x learns w r seat at n c p mine has (omega arith);
    }
      where
        either : (row : Row) (c p : ℕ) → from ≤ row.number → row.number < to
            → (x : View) → Learns v x → (w : Rattle.fish_rule.specs.World.World) → Rattle.fish_rule.specs.Rule.Rule x.about w
            → (seat : ℕ) → Rattle.std.proofs.Math.ListN.get_elem? w.views seat ≡ mathlib.Core.Option.some x
            → IsNodeIn bucket row.number c p id x.about w → HasValue row.number c value x.about w → node.place ≤ p
            → Matches def value row x.about w → Dec (p < given) → Among row rows
        either row c p after before x learns w r seat at mine has high m (no passed) =
            h.complete row c p after before x learns w r seat at mine has (omega arith) m
        either row c p after before x learns w r seat at mine has high m (yes fresh) =
            let low_ = next x learns w r seat at row.number c p after before mine.entry fresh in
            let place : node.place ≡ p = omega arith in
            let there = subst (λ (z : ℕ). IsNodeIn bucket node.number node.key z node.id x.about w) place
            (entry_is x learns w r seat at) in
            let same = node_once r bucket row.number c bucket node.number node.key p id node.id mine there in
            absurd (other (sym same.2) x learns w r seat at
            (subst (λ (z : ℕ × ℕ). HasValue z.0 z.1 value x.about w) (λ i. (same.0 i, same.1 i)) has))

    -- the record of an entry of the definition with the value is gathered
    pub gather_add : IsOfMoment v → Always v (HasValue node.number node.key value) → (row : Row) → row.number ≡ node.number
        → node.id ≡ id → from ≤ row.number → row.number < to → Always v (Matches def value row)
        → Gathers v def value id bucket from to node.place (rows ++ row ∷ [])
    gather_add s valued row number own after before matches = record {
      falls = falls_both to (suc row.number) rows (row ∷ []) h.falls (λ x m.
          let n = h.older x m v (learns_self v) s.moment s.rule s.seat s.at node.number node.key node.place
          (subst (λ (z : ℕ). IsNodeIn bucket node.number node.key node.place z v.about s.moment) own
          (entry_is v (learns_self v) s.moment s.rule s.seat s.at)) (valued v (learns_self v) s.moment s.rule s.seat s.at)
          below in omega arith)
          (omega arith) (omega arith, tt);
      above = λ x m. ⊎_elim (λ (a : Among x rows). h.above x a)
          (λ (e : row ≡ x). subst (λ (z : Row). from ≤ z.number) e after) (among_last x row rows m);
      sound = λ x m. ⊎_elim (λ (a : Among x rows). h.sound x a)
          (λ (e : row ≡ x). subst (λ (z : Row). Always v (Matches def value z)) e matches) (among_last x row rows m);
      complete = λ x c p low_ high y learns w r seat at mine has upper m.
          either x c p low_ high y learns w r seat at mine has upper m (dec_lt p given);
      older = λ x m y learns w r seat at n c p mine has less. ⊎_elim
          (λ (a : Among x rows). h.older x a y learns w r seat at n c p mine has (omega arith))
          (λ (e : row ≡ x).
          let there = subst (λ (z : ℕ). IsNodeIn bucket node.number node.key node.place z y.about w) own
          (entry_is y learns w r seat at) in
          let under = node_older r bucket n c p bucket node.number node.key node.place id value mine there has
          (valued y learns w r seat at) less in
          subst (λ (z : Row). n < z.number) e (omega arith)) (among_last x row rows m);
    }
      where
        either : (x : Row) (c p : ℕ) → from ≤ x.number → x.number < to
            → (y : View) → Learns v y → (w : Rattle.fish_rule.specs.World.World) → Rattle.fish_rule.specs.Rule.Rule y.about w
            → (seat : ℕ) → Rattle.std.proofs.Math.ListN.get_elem? w.views seat ≡ mathlib.Core.Option.some y
            → IsNodeIn bucket x.number c p id y.about w → HasValue x.number c value y.about w → node.place ≤ p
            → Matches def value x y.about w → Dec (p < given) → Among x (rows ++ row ∷ [])
        either x c p low_ high y learns w r seat at mine has upper m (no passed) =
            among_left x rows (row ∷ []) (h.complete x c p low_ high y learns w r seat at mine has (omega arith) m)
        either x c p low_ high y learns w r seat at mine has upper m (yes fresh) =
            let under = next y learns w r seat at x.number c p low_ high mine.entry fresh in
            let place : node.place ≡ p = omega arith in
            let there = subst (λ (z : ℕ). IsNodeIn bucket node.number node.key z node.id y.about w) place
            (entry_is y learns w r seat at) in
            let same = node_once r bucket x.number c bucket node.number node.key p id node.id mine there in
            among_right x rows (row ∷ []) (inl (same_row def value row x y.about w r (number ∙ sym same.0)
            (matches y learns w r seat at) m))

  -- at the end all records with the value were gathered
  pub gather_end : (v : View) (given : ℕ) (rows : List Row) (opens : List ℕ) → IsIndex v def id from to
      → bucket ≡ bucket_of_value v id value → ((n : ℕ) → from ≤ n → n < to → ¬ Among n opens)
      → Gathers v def value id bucket from to given rows → Always v (IsClear bucket from to given 0)
      → Finds v def value from to opens rows
  gather_end v given rows opens index bucket_is free h clear = record {
    falls = h.falls;
    above = h.above;
    closed = λ row m. free row.number (h.above row m) (Rattle.fish_scan.proofs.Finding.falls_below to rows row h.falls m);
    sound = h.sound;
    complete = λ row after before closed x learns w r seat at m.
        let t = match_entry v learns def id from to index w r seat at row.number after before m.2.1.stored value
        row.payload m in
        let about : bucket_of_value x id value ≡ bucket =
        ap (λ (z : Key). Rattle.fish_layout.specs.Hash.bucket_in (Rattle.fish_layout.specs.Hash.key_hash_of id value) z.buckets)
        learns.about ∙ sym bucket_is in
        let node = subst (λ (z : ℕ). IsNodeIn z row.number t.0 t.1 id x.about w) about t.2 in
        let some = t.4 in
        either row t.0 t.1 after before x learns w r seat at node t.3 some m (dec_lt t.1 given);
  }
    where
      either : (row : Row) (c p : ℕ) → from ≤ row.number → row.number < to
          → (x : View) → Learns v x → (w : Rattle.fish_rule.specs.World.World) → Rattle.fish_rule.specs.Rule.Rule x.about w
          → (seat : ℕ) → Rattle.std.proofs.Math.ListN.get_elem? w.views seat ≡ mathlib.Core.Option.some x
          → IsNodeIn bucket row.number c p id x.about w → HasValue row.number c value x.about w → 1 ≤ p
          → Matches def value row x.about w → Dec (p < given) → Among row rows
      either row c p after before x learns w r seat at node has some m (yes fresh) =
          (let none = clear x learns w r seat at row.number c p after before node.entry fresh in absurd (omega arith))
      either row c p after before x learns w r seat at node has some m (no passed) =
          h.complete row c p after before x learns w r seat at node has (omega arith) m

-- a record matches whose entry in the index has the value
pub entry_matches : (v : View) (def : Definition) (value : Value) (id bucket from to lane : ℕ) (node : Node)
    (form : Rattle.fish_value.specs.declared.field.Form.Form) (payload : List ℕ) → IsIndex v def id from to
    → from ≤ node.number → node.number < to → node.id ≡ id
    → Always v (IsNodeIn bucket node.number node.key node.place node.id)
    → Always v (HasValue node.number node.key value) → KnowsAs v node.number (entry.Stored lane form payload)
    → Always v (Matches def value (record { number = node.number; payload = payload }))
entry_matches v def value id bucket from to lane node form payload index after before own node_is has tells x learns w r seat at =
    let told = tells x learns w r seat at in (
      lane,
      form,
      told,
      entry_match v learns def id from to index w r seat at node.number after before told.1.stored value bucket node.key
          node.place lane form payload told
          (subst (λ (z : ℕ). IsNodeIn bucket node.number node.key node.place z x.about w) own
          (node_is x learns w r seat at)) (has x learns w r seat at),
    )
