-- Views that only learn.
use Rattle.std.proofs.Common.{◌≡◌, ◌≢◌, ℕ, ◌<◌, ◌≤◌, max, zero, suc, List, [], ◌∷◌, refl, sym, ap, ◌∙◌, subst, inl, inr}
use Rattle.std.proofs.Common.{arith}
use Rattle.std.proofs.Math.Decide.{dec_lt}
use Rattle.fish_layout.specs.Cleared.{choose}
use Rattle.fish_rule.proofs.basics.Lists.{among_left, among_right}
use Rattle.fish_rule.proofs.laws.Clocks.{later_both, later_loaded, later_noted, later_self}
use Rattle.fish_rule.specs.Logs.{Extends, Learns}
use Rattle.fish_rule.specs.SeatSteps.{join_both}
use Rattle.fish_rule.specs.LoadSteps.{after_load_tail, after_look_at, after_read_word, found_after, kind_told}
use Rattle.fish_rule.specs.LoadSteps.{opens_after}
use Rattle.fish_rule.proofs.basics.Context.{Among, Found, Key, Learned, View}
use Rattle.fish_rule.specs.World.{high, low}
use Rattle.fish_rule.specs.declared.view.Noted.TheVariants.{Directory}
use Rattle.fish_rule.specs.declared.view.Opens.{Opens}

-- ---- in general

-- a view knows what it knows
pub learns_self : (v : View) → Learns v v
learns_self v = record {
  about = refl;
  count = omega arith;
  settled = omega arith;
  version = omega arith;
  words = λ x m. m;
  found = λ x m. m;
  known = λ x m. m;
  records = λ x m. m;
  nodes = λ x m. m;
  least_previous = λ x m. m;
  least_heads = λ x m. m;
  gaps = λ x m. m;
  labels = λ x m. m;
  unended = λ x m. m;
  opens = λ x m. m;
}

-- what is in a list is in it after one more
pub ahead : {A : Type 0} (x : A) (xs : List A) (y : A) → Among y xs → Among y (x ∷ xs)
ahead x xs y m = inr m

-- and what is known where the table and what was learned are the same
pub learns_same : (v u : View) → u.about ≡ v.about → u.learned ≡ v.learned → Learns v u
learns_same v u about learned =
    let here : Learns v (record v { about = u.about; learned = u.learned }) =
    subst (λ (z : Key × Learned). Learns v (record v { about = z.0; learned = z.1 }))
    (λ i. (sym about i, sym learned i)) (learns_self v) in
    assumption here

-- and what is learned on top of what was learned is all learned
pub learns_both : (a b c : View) → Learns a b → Learns b c → Learns a c
learns_both a b c e f =
    let p = e.count in
    let q = f.count in
    let a = e.settled in
    let b = f.settled in
    let u = e.version in
    let v = f.version in
    record {
      about = f.about ∙ e.about;
      count = omega arith;
      settled = omega arith;
      version = omega arith;
      words = λ x m. f.words x (e.words x m);
      found = λ x m. f.found x (e.found x m);
      known = λ x m. f.known x (e.known x m);
      records = λ x m. f.records x (e.records x m);
      nodes = λ x m. f.nodes x (e.nodes x m);
      least_previous = λ x m. f.least_previous x (e.least_previous x m);
      least_heads = λ x m. f.least_heads x (e.least_heads x m);
      gaps = λ x m. f.gaps x (e.gaps x m);
      labels = λ x m. f.labels x (e.labels x m);
      unended = λ x m. f.unended x (e.unended x m);
      opens = λ x m. f.opens x (e.opens x m);
    }

-- ---- views that extend others

-- a view extends itself
pub extends_self : (v : View) → Extends v v
extends_self v = record { learns = learns_self v; clock = later_self v.clock; frame = refl }

-- and what extends an extension extends it
pub extends_both : (a b c : View) → Extends a b → Extends b c → Extends a c
extends_both a b c e f = record {
  learns = learns_both a b c e.learns f.learns;
  clock = later_both a.clock b.clock c.clock e.clock f.clock;
  frame = f.frame ∙ ap (λ (z : View). record z { learned = c.learned; clock = c.clock }) e.frame;
}

-- ---- a read

-- a word that is read extends a view
pub extends_read : (v : View) (place x : ℕ) → Extends v (after_read_word v place x)
extends_read v place x = record {
  learns = assumption (learns_self v, ahead (record { place = place; value = x }) v.learned.known);
  clock = later_loaded v.clock;
  frame = refl;
}

-- the same where the view is known by an equation
pub extends_to_read : (v u : View) (place x : ℕ) → u ≡ after_read_word v place x → Extends v u
extends_to_read v u place x e = subst (Extends v) (sym e) (extends_read v place x)

-- the word that was read is known
pub read_here : (v u : View) (place x : ℕ) → u ≡ after_read_word v place x
    → Among (record { place = place; value = x }) u.learned.known
read_here v u place x e = (let m : Among (record { place = place; value = x })
    (after_read_word v place x).learned.known = inl refl in
    subst (λ (z : View). Among (record { place = place; value = x }) z.learned.known) (sym e) m)

-- ---- a look

-- what was found before stays found
found_more : (n lines x : ℕ) (found : List Found) (f : Found) → Among f found → Among f (found_after n lines x found)
found_more n lines zero found f m = m
found_more n lines (suc x) found f m = inr m

-- what was found unpublished before stays known
opens_more : (n x : ℕ) (opens : List Opens) (o : Opens) → Among o opens → Among o (opens_after n x opens)
opens_more n (suc x) opens o m = m
opens_more n zero [] o m = m
opens_more n zero (p ∷ opens) o m = pick (dec_lt n p.count)
  where
    longer : List Opens
    longer = record { count = p.count; numbers = n ∷ p.numbers } ∷ p ∷ opens

    pick : (d : Dec (n < p.count)) → Among o (choose d longer (p ∷ opens))
    pick (yes below) = inr m
    pick (no past) = m

-- a directory word that is seen extends a view
pub extends_look : (v : View) (n lines x : ℕ) → Extends v (after_look_at v n lines x)
extends_look v n lines x = record {
  learns = assumption (learns_self v, found_more n lines x v.learned.found, opens_more n x v.learned.opens);
  clock = later_noted v.clock (Directory n) x;
  frame = refl;
}

-- the region of a word that isn't 0 is found
pub found_here : (n lines x : ℕ) (found : List Found) → x ≢ 0
    → Among (record { number = n; kind = kind_told (high x); line = low x; lines = lines })
    (found_after n lines x found)
found_here n lines zero found ne = absurd (ne refl)
found_here n lines (suc x) found ne = inl refl

-- ---- a load of the tail

-- a count that has risen is learned
pub learns_end : (v : View) (x : ℕ) → v.learned.count ≤ high x → Learns v (after_load_tail v x)
learns_end v x more = assumption (learns_self v, more, ahead (record { count = high x; numbers = [] }) v.learned.opens)

-- ---- a join

-- after a join and a load of the tail the control pass knows what it knew
pub learns_join : (v u : View) (x : ℕ) → max v.learned.count u.learned.count ≤ high x
    → Learns v (after_load_tail (join_both v u) x)
learns_join v u x more = record {
  about = refl;
  count = omega arith;
  settled = omega arith;
  version = omega arith;
  words = λ y m. among_left y v.learned.words u.learned.words m;
  found = λ y m. among_left y v.learned.found u.learned.found m;
  known = λ y m. among_left y v.learned.known u.learned.known m;
  records = λ y m. among_left y v.learned.records u.learned.records m;
  nodes = λ y m. among_left y v.learned.nodes u.learned.nodes m;
  least_previous = λ y m. among_left y v.learned.least_previous u.learned.least_previous m;
  least_heads = λ y m. among_left y v.learned.least_heads u.learned.least_heads m;
  gaps = λ y m. among_left y v.learned.gaps u.learned.gaps m;
  labels = λ y m. among_left y v.learned.labels u.learned.labels m;
  unended = λ y m. among_left y v.learned.unended u.learned.unended m;
  opens = λ y m. inr (among_left y v.learned.opens u.learned.opens m);
}

-- and what the other pass knew
pub learned_join : (v u : View) (x : ℕ) → v.about ≡ u.about → max v.learned.count u.learned.count ≤ high x
    → Learns u (after_load_tail (join_both v u) x)
learned_join v u x about more = record {
  about = about;
  count = omega arith;
  settled = omega arith;
  version = omega arith;
  words = λ y m. among_right y v.learned.words u.learned.words m;
  found = λ y m. among_right y v.learned.found u.learned.found m;
  known = λ y m. among_right y v.learned.known u.learned.known m;
  records = λ y m. among_right y v.learned.records u.learned.records m;
  nodes = λ y m. among_right y v.learned.nodes u.learned.nodes m;
  least_previous = λ y m. among_right y v.learned.least_previous u.learned.least_previous m;
  least_heads = λ y m. among_right y v.learned.least_heads u.learned.least_heads m;
  gaps = λ y m. among_right y v.learned.gaps u.learned.gaps m;
  labels = λ y m. among_right y v.learned.labels u.learned.labels m;
  unended = λ y m. among_right y v.learned.unended u.learned.unended m;
  opens = λ y m. inr (among_right y v.learned.opens u.learned.opens m);
}

-- both, where the views are known by equations
pub joined_learns : (v u m t : View) (x : ℕ) → v.about ≡ u.about → m ≡ join_both v u → t ≡ after_load_tail m x
    → m.learned.count ≤ high x → Learns v t × Learns u t
joined_learns v u m t x about joined loaded more =
    let to : t ≡ after_load_tail (join_both v u) x = loaded ∙ ap (λ (z : View). after_load_tail z x) joined in
    let counted = subst (λ (z : View). z.learned.count ≤ high x) joined more in (
      subst (Learns v) (sym to) (learns_join v u x counted),
      subst (Learns u) (sym to) (learned_join v u x about counted),
    )
