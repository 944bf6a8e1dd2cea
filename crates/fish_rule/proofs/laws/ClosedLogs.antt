-- What the entries of a log say of the moment that spells them, and what a closed log has of what passes knew.
use Rattle.std.proofs.Common.{◌≡◌, ℕ, ◌+◌, ◌<◌, ◌≤◌, List, length, refl, sym, ap, ◌∙◌, subst, ⊎_elim, arith, Some}
use Rattle.std.proofs.Common.{slice_get}
use Rattle.std.proofs.Math.Decide.{dec_lt}
use Rattle.fish_catalog.specs.declared.entry.Entry.{Entry}
use Rattle.fish_catalog.specs.declared.entry.Entry.TheVariants as entry
use Rattle.fish_rule.proofs.laws.Learning.{learns_both}
use Rattle.fish_rule.proofs.basics.Bodies.{published}
use Rattle.fish_rule.specs.ClosedLaws.{DefinitionsAreClosed, IsOfLane, OwnIsClosed, KnownIsClosed}
use Rattle.fish_rule.specs.ClosedLog.{IsClosed}
use Rattle.fish_rule.specs.Logs.{IsEntry, IsLog, Learns}
use Rattle.fish_rule.specs.Parts.{IsEntryWord}
use Rattle.fish_rule.specs.Regions.{code}
use Rattle.fish_rule.specs.Registry.{definitions_at}
use Rattle.fish_rule.proofs.basics.Context.{Among, Key, Rule, View, World}
use Rattle.fish_rule.specs.Views.{Has}
use Rattle.fish_rule.specs.ChainFacts.{Always}
use Rattle.fish_rule.specs.World.{high}
use Rattle.fish_rule.specs.declared.close.Remains.{Remains}
use Rattle.fish_rule.specs.declared.view.Kind.TheVariants.{Mark, Stored, Void}
use Rattle.fish_rule.specs.declared.view.Own.{Own}
use Rattle.fish_value.specs.declared.field.Form.{Form}
use Rattle.fish_rule.proofs.basics.OneMoment.{get_here, here_get, there_is, entry_word, claimed, before_mark}
use Rattle.fish_rule.proofs.basics.OneMoment.{entry_once, stored_by}

module _ {k : Key} {w : World} (r : Rule k w) where
  module _ (entries : List Entry) (log : IsLog k w entries) where
    -- a number that is published and no mark is within the log
    pub within_log : (i : ℕ) → IsEntryWord (w.dir (k.number + i)) → i < length entries
    within_log i word =
        let below = claimed r (k.number + i) word.published in
        ⊎_elim (λ (e : k.number + length entries ≡ w.count). omega arith)
        (λ (mark : high (w.dir (k.number + length entries)) ≡ code Mark).
        let h = before_mark r (k.number + length entries) (k.number + i) (omega arith) mark word in omega arith) log.ends

    -- each number of the log has its entry
    pub entry_at : (i : ℕ) (e : Entry) → slice_get entries i ≡ Some e → IsEntry w (k.number + i) e
    entry_at i e at = log.each i e (here_get entries i e at)

    -- and an entry that stands at a number is the one there
    pub entry_in : (i : ℕ) (e : Entry) → IsEntry w (k.number + i) e → slice_get entries i ≡ Some e
    entry_in i e h =
        let t = there_is entries i (within_log i (entry_word w (k.number + i) e h)) in
        let at : slice_get entries i ≡ Some t.0 = get_here entries i t.0 t.1 in
        at ∙ ap Some (entry_once r (k.number + i) t.0 e (entry_at i t.0 at) h)

    -- all that is settled is within the log
    pub settled_within : w.settled ≤ k.number + length entries
    settled_within =
        let counted = r.settling.within in
        ⊎_elim (λ (e : k.number + length entries ≡ w.count). omega arith)
        (λ (mark : high (w.dir (k.number + length entries)) ≡ code Mark).
        pick mark (dec_lt (k.number + length entries) w.settled)) log.ends
      where
        pick : high (w.dir (k.number + length entries)) ≡ code Mark → Dec (k.number + length entries < w.settled)
            → w.settled ≤ k.number + length entries
        pick mark (no h) = omega arith
        pick mark (yes h) =
            absurd ((r.settling.below (k.number + length entries) (omega arith) h).unmarked mark)

-- ---- the closed log

-- what always holds of what a pass knows holds of the moment at which the log was closed
pub always_closed : (v u : View) (P : Key → World → Type 0) (remains : Remains) → Learns v u
    → (c : IsClosed u remains) → Always v P → P u.about c.moment
always_closed v u P remains learns c all =
    let about = c.later.about in
    subst (λ (z : Key). P z c.moment) about
    (all c.last (learns_both v u c.last learns c.later) c.moment
    (subst (λ (z : Key). Rule z c.moment) (sym about) c.rule) c.seat c.at)

-- an entry that was told stands in the log
pub known_closed : KnownIsClosed
known_closed v u i e remains learns c tells = entry_in c.rule remains.log c.log i e
    (always_closed v u (λ k w. IsEntry w (u.about.number + i) e) remains learns c tells)

-- a record of the log is of the lane that claimed it
entry_stored : (w : World) (n : ℕ) (e : Entry) → IsEntry w n e → high (w.dir n) ≡ code Stored
    → (lane : ℕ) × (form : Form) × (payload : List ℕ) × (e ≡ entry.Stored lane form payload)
entry_stored w n (entry.Stored lane form payload) h is = (lane, form, payload, refl)
entry_stored w n entry.Void h is = (let bad : code Void ≡ code Stored = sym h ∙ is in absurd (omega arith))

-- an own number has a record of its lane in the log
own_there : (v : View) (remains : Remains) (l i : ℕ) → (c : IsClosed v remains)
    → Among (record { lane = l; number = v.about.number + i }) v.own → IsOfLane remains.log l i
own_there v remains l i c among =
    let o : Own = record { lane = l; number = v.about.number + i } in
    let by = (c.owns.sound o among).1 in
    let n : ℕ = v.about.number + i in
    let word : IsEntryWord (c.moment.dir n) = record {
      published = published (c.moment.dir n) Stored by.stored;
      unmarked = λ m. (let s = by.stored in omega arith);
    } in
    let t = there_is remains.log i (within_log c.rule remains.log c.log i word) in
    let at : slice_get remains.log i ≡ Some t.0 = get_here remains.log i t.0 t.1 in
    let is = entry_at c.rule remains.log c.log i t.0 at in
    let e = entry_stored c.moment n t.0 is by.stored in
    let stored = subst (IsEntry c.moment n) e.3 is in
    let lane = stored_by c.rule n e.0 e.1 e.2 (omega arith) stored in
    let same : e.0 ≡ l = sym lane.lane ∙ by.lane in
    (e.1, e.2, at ∙ ap Some e.3 ∙ ap (λ (z : ℕ). Some (entry.Stored z e.1 e.2)) same)

-- and a record of the lane in the log has an own number
there_own : (v : View) (remains : Remains) (l i : ℕ) → (c : IsClosed v remains) → Has v.lane v.out l
    → IsOfLane remains.log l i → Among (record { lane = l; number = v.about.number + i }) v.own
there_own v remains l i c has is =
    let o : Own = record { lane = l; number = v.about.number + i } in
    let stored = entry_at c.rule remains.log c.log i _ is.2 in
    c.owns.complete o has
    (stored_by c.rule (v.about.number + i) l is.0 is.1 (omega arith) stored)

-- so the own numbers are exactly the lane's records
pub own_closed : OwnIsClosed
own_closed v remains l i c has = (own_there v remains l i c, there_own v remains l i c has)

-- the definitions at the version that is left are those of the control pass that closed the log
pub definitions_closed : DefinitionsAreClosed
definitions_closed v remains c control =
    let its = (c.rule.registry.each c.seat c.last c.at).control (c.lane_is ∙ control) in
    ap (λ (z : ℕ). definitions_at v.about c.moment.registry z) c.version ∙ its.definitions ∙ c.rows_is
