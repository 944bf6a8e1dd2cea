-- What an entry that was told says of a record, and of its match.
use Rattle.std.proofs.Common.{◌≡◌, ◌≢◌, ℕ, ◌+◌, ◌≤◌, suc, List, [], ◌∷◌, ◌++◌, refl, sym, ap, ◌∙◌, subst, arith}
use Rattle.std.proofs.Common.{Some, None, append-nil, append_assoc}
use Rattle.std.specs.Prelude.{IsTrue}
use Rattle.fish_catalog.specs.declared.entry.Entry.{Entry}
use Rattle.fish_catalog.specs.declared.entry.Entry.TheVariants as entry
use Rattle.fish_lang.specs.Definition.{Definition}
use Rattle.fish_layout.proofs.Once.{spelled_once}
use Rattle.fish_layout.specs.declared.parts.BodyParts.{BodyParts}
use Rattle.fish_psf.specs.Records.{GivesValue, is_record}
use Rattle.fish_rule.proofs.laws.Learning.{learns_self}
use Rattle.fish_rule.proofs.laws.Moments.{stored_parts}
use Rattle.fish_rule.proofs.laws.Lists.{all_among}
use Rattle.fish_rule.specs.Facts.{IsFound}
use Rattle.fish_rule.specs.Logs.{IsEntry, Learns, KnowsAs}
use Rattle.fish_rule.specs.Regions.{code}
use Rattle.fish_rule.specs.Table.{IsOfMoment}
use Rattle.fish_rule.specs.Views.{Among}
use Rattle.fish_rule.specs.World.{high}
use Rattle.fish_rule.specs.declared.view.Kind.TheVariants.{Stored, Void}
use Rattle.fish_rule.specs.declared.view.View.{View}
use Rattle.fish_scan.proofs.Finding.{finds_both, finds_later, finds_none, finds_one, finds_open, finds_other, told_other, told_void}
use Rattle.fish_scan.specs.Matching.{Finds}
use Rattle.fish_scan.specs.within.Reading.{Adds, IsMatching, IsParsable}
use Rattle.fish_chain.specs.Values.{IsNodeGiven}
use Rattle.fish_chain.specs.declared.walk.Node.{Node}
use Rattle.fish_rule.specs.ChainFacts.{Always}
use Rattle.fish_walk.specs.Looks.{IsLookAt}
use Rattle.fish_walk.specs.declared.outcome.Look.{Look}
use Rattle.fish_walk.specs.declared.outcome.Look.TheVariants as look
use Rattle.fish_value.specs.declared.field.Form.{Form}
use Rattle.fish_value.specs.declared.row.Row.{Row}
use Rattle.fish_value.specs.declared.value.Value.{Value}

-- a record that was told is a record of its form
pub told_parsable : (v : View) (n : ℕ) (e : Entry) → IsOfMoment v → KnowsAs v n e → IsParsable e
told_parsable v n entry.Void s tells = tt
told_parsable v n (entry.Stored lane form payload) s tells =
    let h = tells v (learns_self v) s.moment s.rule s.seat s.at in
    let t = stored_parts s.rule n h.1.stored in
    let same : h.0 ≡ t.0 = spelled_once h.1.spells t.1.spells (h.1.number_is ∙ sym t.1.number_is) in
    subst (λ (z : Form × List ℕ). IsTrue (is_record z.0 z.1))
    (λ i. (
      (sym (ap (λ (z : BodyParts). z.form) same) ∙ h.1.form_is) i,
      (sym (ap (λ (z : BodyParts). z.payload) same) ∙ h.1.payload_is) i,
    )) t.1.reads

-- a record that matches is found at its number
pub told_found : (v : View) (def : Definition) (value : Value) (n : ℕ) (e : Entry) (payload : List ℕ) (opens : List ℕ)
    (before after : List Row) → KnowsAs v n e → IsMatching def value e (Some payload) → ¬ Among n opens
    → after ≡ before ++ record { number = n; payload = payload } ∷ [] → Adds v def value n (n + 1) opens before after
told_found v def value n entry.Void payload opens before after tells matches closed is = elim matches [ ]
told_found v def value n (entry.Stored lane form found) payload opens before after tells matches closed is =
    let row : Row = record { number = n; payload = payload } in
    let next : suc n ≡ n + 1 = omega arith in (
      row ∷ [],
      is,
      subst (λ (z : ℕ). Finds v def value n z opens (row ∷ [])) next (finds_one v def value row opens closed
          (λ x learns w r seat at. (
            lane,
            form,
            subst (λ (z : List ℕ). IsEntry w n (entry.Stored lane form z)) matches.0
                (tells x learns w r seat at),
            subst (λ (z : List ℕ). GivesValue def form z value) matches.0 matches.1,
          ))),
    )

-- and nothing is where it doesn't
pub told_unfound : (v : View) (def : Definition) (value : Value) (n : ℕ) (e : Entry) (opens : List ℕ) (before : List Row)
    → KnowsAs v n e → IsMatching def value e None → Adds v def value n (n + 1) opens before before
told_unfound v def value n entry.Void opens before tells other =
    let next : suc n ≡ n + 1 = omega arith in (
      [],
      sym (append-nil before),
      subst (λ (z : ℕ). Finds v def value n z opens []) next
          (finds_other v def value n opens (told_void v def value n tells)),
    )
told_unfound v def value n (entry.Stored lane form found) opens before tells other =
    let next : suc n ≡ n + 1 = omega arith in (
      [],
      sym (append-nil before),
      subst (λ (z : ℕ). Finds v def value n z opens []) next
          (finds_other v def value n opens (told_other v def value n lane form found tells other)),
    )

-- what a look told of a number that is no record
pub seen_unfound : (v : View) (def : Definition) (value : Value) (n : ℕ) (r : Look) (opens : List ℕ) (before : List Row)
    → IsLookAt v n r → r ≢ look.Stored → r ≢ look.Overflow → (r ≡ look.Unfinished → Among n opens)
    → Adds v def value n (n + 1) opens before before
seen_unfound v def value n look.Stored opens before seen other unmarked unfinished = absurd (other refl)
seen_unfound v def value n look.Overflow opens before seen other unmarked unfinished = absurd (unmarked refl)
seen_unfound v def value n look.Unfinished opens before seen other unmarked unfinished =
    let next : suc n ≡ n + 1 = omega arith in (
      [],
      sym (append-nil before),
      subst (λ (z : ℕ). Finds v def value n z opens []) next
          (finds_open v def value n opens (unfinished refl)),
    )
seen_unfound v def value n look.Void opens before (f, among, number, is) other unmarked unfinished =
    let next : suc n ≡ n + 1 = omega arith in (
      [],
      sym (append-nil before),
      subst (λ (z : ℕ). Finds v def value n z opens []) next
          (finds_other v def value n opens (λ payload x learns w r seat at m.
          let found = all_among (IsFound x.about w.count w.dir r.start) f x.learned.found (r.facts seat x at).found
          (learns.found f among) in
          let void : high (w.dir n) ≡ code Void = subst (λ (z : ℕ). high (w.dir z) ≡ code Void) number (found.kind ∙ ap code is) in
          let stored = m.2.1.stored in
          absurd (omega arith))),
    )

-- ---- ranges

-- what was added stays found
pub adds_later : (v u : View) (def : Definition) (value : Value) (from to : ℕ) (opens : List ℕ) (before after : List Row)
    → Learns v u → Adds v def value from to opens before after → Adds u def value from to opens before after
adds_later v u def value from to opens before after learns h =
    (h.0, h.1, finds_later v u def value from to opens h.0 learns h.2)

-- nothing is added in an empty range
pub adds_none : (v : View) (def : Definition) (value : Value) (n : ℕ) (opens : List ℕ) (rows : List Row)
    → Adds v def value n n opens rows rows
adds_none v def value n opens rows = ([], sym (append-nil rows), finds_none v def value n opens)

-- and in two ranges that touch one comes after the other
pub adds_both : (v : View) (def : Definition) (value : Value) (from mid to : ℕ) (opens : List ℕ) (before between after : List Row)
    → from ≤ mid → mid ≤ to → Adds v def value mid to opens before between → Adds v def value from mid opens between after
    → Adds v def value from to opens before after
adds_both v def value from mid to opens before between after less more h g = (
  h.0 ++ g.0,
  g.1 ∙ ap (λ (z : List Row). z ++ g.0) h.1 ∙ append_assoc before h.0 g.0,
  finds_both v def value from mid to opens h.0 g.0 less more h.2 g.2,
)

-- ---- records of settled numbers

-- and no void was told of it
pub stored_told : (u : View) (n : ℕ) → IsOfMoment u → KnowsAs u n entry.Void → ¬ Always u (λ k w. high (w.dir n) ≡ code Stored)
stored_told u n s tells stored =
    let void = tells u (learns_self u) s.moment s.rule s.seat s.at in
    let is_stored = stored u (learns_self u) s.moment s.rule s.seat s.at in
    absurd (omega arith)

-- so it is of the record of an entry that a walk gave
pub given_stored : (v : View) (node : Node) → IsNodeGiven v node → Always v (λ k w. high (w.dir node.number) ≡ code Stored)
given_stored v node given x learns w r seat at = (given.1 x learns w r seat at).entry.stored
