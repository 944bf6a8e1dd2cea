-- Views that go on as the control pass changes the registry.
use Rattle.std.proofs.Common.{◌≡◌, ℕ, ◌≤◌, List, [], ◌∷◌, inr, Option, Some, refl, sym, ap, ◌∙◌, subst, arith}
use Rattle.fish_catalog.specs.declared.listed.Listed.{Listed}
use Rattle.fish_registry.specs.Changing.{Changes, HasLoadedTail, IsAtTail, OnlyLoads}
use Rattle.fish_registry.specs.within.Looking.{Looks}
use Rattle.fish_rule.proofs.laws.Clocks.{later_both, later_noted, loaded_within, noted_load}
use Rattle.fish_rule.specs.Clocks.{HasLoaded, IsLater}
use Rattle.fish_rule.specs.RegistrySteps.{after_load_version}
use Rattle.fish_rule.specs.Epochs.{confirmed}
use Rattle.fish_rule.specs.Logs.{Learns}
use Rattle.fish_rule.specs.LoadSteps.{after_load_tail}
use Rattle.fish_rule.specs.Parts.{RestsAt}
use Rattle.fish_rule.specs.SpaceSteps.{noted}
use Rattle.fish_rule.specs.Views.{Among}
use Rattle.fish_rule.specs.World.{high, low}
use Rattle.fish_rule.specs.declared.view.Clock.{Clock}
use Rattle.fish_rule.specs.declared.view.Epoch.{Epoch}
use Rattle.fish_rule.specs.declared.view.Epoch.TheVariants.{Out}
use Rattle.fish_rule.specs.declared.view.Noted.TheVariants.{Tail, Version}
use Rattle.fish_rule.specs.declared.view.Opens.{Opens}
use Rattle.fish_rule.specs.declared.view.Position.{Position}
use Rattle.fish_rule.specs.declared.view.RegistryWord.{RegistryWord}
use Rattle.fish_rule.specs.declared.view.Round.{Round}
use Rattle.fish_rule.specs.declared.view.View.{View}

-- a view that is another one but for these changes it
pub changes_from : (v u : View) (rows : List Listed) (control_words : List RegistryWord) (round : Option Round)
    (tail : Option Position) (count version : ℕ) (words : List RegistryWord) (opens : List Opens) (clock : Clock)
    → u ≡ record v {
      rows = rows;
      control_words = control_words;
      round = round;
      tail = tail;
      learned = record v.learned { count = count; version = version; words = words; opens = opens };
      clock = clock;
    } → v.learned.count ≤ count → v.learned.version ≤ version
    → ((x : RegistryWord) → Among x v.learned.words → Among x words)
    → ((o : Opens) → Among o v.learned.opens → Among o opens) → IsLater v.clock clock → clock.loads ≡ v.clock.loads → Changes v u
changes_from v u rows control_words round tail count version words opens clock is counted reached read more later loads =
    let many : u.learned.count ≡ count = ap (λ (z : View). z.learned.count) is in
    let made : u.learned.version ≡ version = ap (λ (z : View). z.learned.version) is in
    let clock_is : u.clock ≡ clock = ap (λ (z : View). z.clock) is in
    record {
      frame = is ∙ (λ i. record v {
        rows = ap (λ (z : View). z.rows) (sym is) i;
        control_words = ap (λ (z : View). z.control_words) (sym is) i;
        round = ap (λ (z : View). z.round) (sym is) i;
        tail = ap (λ (z : View). z.tail) (sym is) i;
        learned = record v.learned {
          count = ap (λ (z : View). z.learned.count) (sym is) i;
          version = ap (λ (z : View). z.learned.version) (sym is) i;
          words = ap (λ (z : View). z.learned.words) (sym is) i;
          opens = ap (λ (z : View). z.learned.opens) (sym is) i;
        };
        clock = ap (λ (z : View). z.clock) (sym is) i;
      });
      count = omega arith;
      version = omega arith;
      words = λ x m. subst (λ (z : List RegistryWord). Among x z) (sym (ap (λ (z : View). z.learned.words) is)) (read x m);
      opens = λ o m. subst (λ (z : List Opens). Among o z) (sym (ap (λ (z : View). z.learned.opens) is)) (more o m);
      clock = subst (IsLater v.clock) (sym clock_is) later;
      loads = ap (λ (z : Clock). z.loads) clock_is ∙ loads;
    }

-- and so does one that is another one but for its clock
pub changes_stays : (v u : View) → OnlyLoads v u → Changes v u
changes_stays v u h = changes_from v u v.rows v.control_words v.round v.tail v.learned.count v.learned.version v.learned.words
    v.learned.opens u.clock h.frame (omega arith) (omega arith) (λ x m. m) (λ o m. m) h.clock h.loads

-- or for the lanes that were looked at
pub changes_looks : (v u : View) → Looks v u → Changes v u
changes_looks v u h = changes_from v u v.rows v.control_words u.round v.tail v.learned.count v.learned.version v.learned.words
    v.learned.opens u.clock h.frame (omega arith) (omega arith) (λ x m. m) (λ o m. m) h.clock h.loads

-- a load of the tail changes a view
pub changes_end : (v u : View) (x : ℕ) → u ≡ after_load_tail v x → v.learned.count ≤ high x → Changes v u
changes_end v u x is more = changes_from v u v.rows v.control_words v.round (Some (record { number = high x; line = low x }))
    (high x) v.learned.version v.learned.words (record { count = high x; numbers = [] } ∷ v.learned.opens)
    (noted v.clock Tail x) is more (omega arith) (λ y m. m) (λ o m. inr m) (later_noted v.clock Tail x) refl

-- one change after another
pub changes_both : (a b c : View) → Changes a b → Changes b c → Changes a c
changes_both a b c e f =
    let p = e.count in
    let q = f.count in
    let r = e.version in
    let s = f.version in
    record {
      frame = f.frame ∙ ap (λ (z : View). record z {
        rows = c.rows;
        control_words = c.control_words;
        round = c.round;
        tail = c.tail;
        learned = record z.learned {
          count = c.learned.count;
          version = c.learned.version;
          words = c.learned.words;
          opens = c.learned.opens;
        };
        clock = c.clock;
      }) e.frame;
      count = omega arith;
      version = omega arith;
      words = λ x m. f.words x (e.words x m);
      opens = λ o m. f.opens o (e.opens o m);
      clock = later_both a.clock b.clock c.clock e.clock f.clock;
      loads = f.loads ∙ e.loads;
    }

-- what was learned stays so
pub learns_changes : (v u : View) → Changes v u → Learns v u
learns_changes v u h =
    let P : View → Type 0 = λ z. Learns v z in
    let c = h.count in
    let r = h.version in
    subst P (sym h.frame) (record {
      about = refl;
      count = h.count;
      settled = omega arith;
      version = h.version;
      words = h.words;
      found = λ x m. m;
      known = λ x m. m;
      records = λ x m. m;
      nodes = λ x m. m;
      least_previous = λ x m. m;
      least_heads = λ x m. m;
      gaps = λ x m. m;
      labels = λ x m. m;
      unended = λ x m. m;
      opens = h.opens;
    })

-- the control pass, which is out, finds the version that it knows, and nothing else changes
pub stays_version : (v u : View) (x : ℕ) → v.epoch ≡ Out → x ≡ v.learned.version → u ≡ after_load_version v x → OnlyLoads v u
stays_version v u x outside same is =
    let epoch : confirmed v.epoch x ≡ v.epoch = ap (λ (e : Epoch). confirmed e x) outside ∙ sym outside in
    let clock_is : u.clock ≡ Rattle.fish_rule.specs.SpaceSteps.noted v.clock Version x = ap (λ (z : View). z.clock) is in
    record {
      frame = is ∙ (λ i. record v {
        epoch = epoch i;
        learned = record v.learned { version = same i };
        clock = ap (λ (z : View). z.clock) (sym is) i;
      });
      clock = subst (IsLater v.clock) (sym clock_is) (later_noted v.clock Version x);
      loads = ap (λ (z : Clock). z.loads) clock_is;
    }

-- a load of the tail counts
pub counted_end : (v u : View) (x n : ℕ) → u ≡ after_load_tail v x → n ≡ high x → HasLoadedTail v u n
counted_end v u x n is same = record {
  tail = x;
  loaded = subst (λ (z : Clock). HasLoaded v.clock z Tail x) (sym (ap (λ (z : View). z.clock) is))
      (noted_load v.clock Tail x);
  is = same;
}

-- and so it does between two views that lie further apart
pub counted_within : (a b c d : View) (n : ℕ) → IsLater a.clock b.clock → HasLoadedTail b c n → IsLater c.clock d.clock
    → HasLoadedTail a d n
counted_within a b c d n p h q = record {
  tail = h.tail;
  loaded = loaded_within a.clock b.clock c.clock d.clock Tail h.tail p h.loaded q;
  is = h.is;
}

-- a tail that a pass finds where it was left is the one that it knew
pub at_tail : (v : View) (number line : ℕ) → RestsAt number line v.tail → IsAtTail v number
at_tail v number line rests at is = sym (subst (RestsAt number line) is rests).0

-- and so it is for a view with the same tail
pub same_tail : (v u : View) (n : ℕ) → u.tail ≡ v.tail → IsAtTail u n → IsAtTail v n
same_tail v u n same h at is = h at (same ∙ is)
