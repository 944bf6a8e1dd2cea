-- From what a pass knows to what the whole has in the end: how claims go on, and the definitions.
use Rattle.std.proofs.Common.{◌≡◌, ℕ, ◌≤◌, List, refl, sym, ◌∙◌, subst, inl, inr, ⊎_elim, arith, [], ◌∷◌}
use Rattle.fish_catalog.specs.declared.listed.Listed.{Listed}
use Rattle.fish_rule.proofs.laws.Learning.{learns_both, learns_self}
use Rattle.fish_rule.proofs.laws.Versions.{has_read}
use Rattle.fish_rule.specs.Logs.{Learns}
use Rattle.fish_rule.specs.Registry.{HasRead, KnowsDefinitions, definitions_at}
use Rattle.fish_rule.specs.Views.{Among}
use Rattle.fish_rule.specs.declared.view.Key.{Key}
use Rattle.fish_rule.specs.declared.view.RegistryWord.{RegistryWord}
use Rattle.fish_rule.specs.declared.view.View.{View}
use Rattle.fish_whole.specs.Whole.{WholeFact, Later, MayEnd, MayHold, Narrows, MustHold, Whole}
use Rattle.fish_whole.specs.within.Whole.{MustHoldUpTo}

-- ---- later states

-- a state is later than itself
pub later_self : (v : View) → Later v v
later_self v = record { learns = learns_self v; gained = λ o m. inl m }

-- what is later than a later state is later
pub later_both : (a b c : View) → Later a b → Later b c → Later a c
later_both a b c p q = record {
  learns = learns_both a b c p.learns q.learns;
  gained = λ o m.
      let counted = p.learns.count in
      ⊎_elim (λ (n : Among o b.own). p.gained o n) (λ (n : b.learned.count ≤ o.number). inr (omega arith)) (q.gained o m);
}

-- what may be in the end of a state is what a pass may leave that knows as much
abbrev pub may_hold : (past : Whole) (v : View) (w : Whole) → MayEnd past v w → MayHold past v w
may_hold past v w m = record {
  last = m.last;
  remains = m.remains;
  base = m.base;
  learns = m.later.learns;
  closed = m.closed;
  behind = m.behind;
}

-- a later state of one table may end in no more
pub narrows_later : (past : Whole) (v u : View) → Later v u → Narrows past v past u
narrows_later past v u later w m = record {
  last = m.last;
  remains = m.remains;
  base = m.base;
  control = m.control;
  all = m.all;
  later = later_both v u m.last later m.later;
  closed = m.closed;
  behind = m.behind;
}

-- and nor may a state that is after such a one
pub narrows_both : (a : Whole) (u : View) (b : Whole) (v : View) (c : Whole) (t : View)
    → Narrows a u b v → Narrows b v c t → Narrows a u c t
narrows_both a u b v c t p q w m = p w (q w m)

-- ---- claims go on

-- what a pass may leave that knows more it may leave that knows less
abbrev pub hold_before : (past : Whole) (v u : View) (w : Whole) → Learns v u → MayHold past u w → MayHold past v w
hold_before past v u w learns m = record {
  last = m.last;
  remains = m.remains;
  base = m.base;
  learns = learns_both v u m.last learns m.learns;
  closed = m.closed;
  behind = m.behind;
}

pub up_to_later : (past : Whole) (v u : View) (end : ℕ) (Q : WholeFact) → Learns v u → MustHoldUpTo past v end Q → MustHoldUpTo past u end Q
up_to_later past v u end Q learns all w m far = all w (hold_before past v u w learns m) far

-- ---- definitions

-- words that are among others were read where those were
read_fewer : (g : ℕ → ℕ) (words all : List RegistryWord) → HasRead g all → ((x : RegistryWord) → Among x words → Among x all)
    → HasRead g words
read_fewer g [] all read among = tt
read_fewer g (x ∷ words) all read among = (
  Rattle.fish_rule.proofs.laws.Lists.all_among (λ (y : RegistryWord). g y.index ≡ y.value) x all read (among x (inl refl)),
  read_fewer g words all read (λ y m. among y (inr m)),
)

-- the definitions that a pass knows at a version are those of the whole
pub sure_rows : (past : Whole) (v : View) (n : ℕ) (rows : List Listed) → KnowsDefinitions v.about v.learned n rows
    → MustHold past v (λ w. w.rows n ≡ rows)
sure_rows past v n rows knows w m =
    let c = m.closed in
    let g = c.moment.registry in
    let each = c.rule.registry.each c.seat c.last c.at in
    let read : HasRead g v.learned.words = read_fewer g v.learned.words c.last.learned.words
    (has_read m.last.about g c.last.learned.words each.read) (λ x a. c.later.words x (m.learns.words x a)) in
    let is : definitions_at m.last.about g n ≡ rows =
    subst (λ (z : Key). definitions_at z g n ≡ rows) (sym m.learns.about) (knows.are g read) in
    let from : m.last.about.version ≤ n = subst (λ (z : Key). z.version ≤ n) (sym m.learns.about) knows.from in
    let last = each.reached in
    let version = c.version in
    let reached = knows.reached in
    let up = m.learns.version in
    let up' = c.later.version in
    m.behind.since n from (omega arith) ∙ is
