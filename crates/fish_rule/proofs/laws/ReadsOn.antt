-- How a pass goes on that reads a log: what of the heads it has read stays, and what its next steps leave.
use Rattle.std.proofs.Common.{◌≡◌, ℕ, ◌*◌, ◌≤◌, suc, List, [], ◌∷◌, ◌++◌, length, refl, sym, ap, ◌∙◌, subst, inl}
use Rattle.std.proofs.Common.{arith, max, Bool, true, false, Some}
use Rattle.fish_rule.proofs.basics.Context.{Among, Key, View, get_elem?, some}
use Rattle.fish_rule.proofs.laws.Clocks.{later_ticked}
use Rattle.fish_rule.proofs.laws.Alone.{each_more}
use Rattle.fish_rule.proofs.laws.Learning.{learns_both, learns_self, learns_end}
use Rattle.fish_rule.specs.ClosedLog.{ReadsOn, StaysOpen}
use Rattle.fish_rule.specs.within.ClosedLog.{AreSettledHeads, HasHead, IsEntryAdded, IsReadUpTo}
use Rattle.fish_rule.specs.RegistrySteps.{after_load_version}
use Rattle.fish_rule.specs.Epochs.{confirmed}
use Rattle.fish_rule.specs.ChainSteps.{after_load_head}
use Rattle.fish_rule.specs.Logs.{Extends, Learns}
use Rattle.fish_rule.specs.Parts.{RestsAt, first_head}
use Rattle.fish_rule.specs.LoadSteps.{after_load_tail, after_raise_settled}
use Rattle.fish_rule.specs.SpaceSteps.{noted}
use Rattle.fish_rule.specs.World.{high, low}
use Rattle.fish_rule.specs.declared.close.ReadLog.{ReadLog}
use Rattle.fish_rule.specs.declared.view.Noted.TheVariants.{Version}

-- a head that was loaded
pub head_new : (v : View) (b x : ℕ) → (x ≤ v.about.line * 4 → x ≡ first_head v.about b)
    → HasHead (after_load_head v b x) v.learned.settled b x
head_new v b x first = record { top = inl refl; gap = (v.learned.settled, omega arith, inl refl); first = first }

-- it stays so
pub head_later : (v u : View) (settled b x : ℕ) → Learns v u → HasHead v settled b x → HasHead u settled b x
head_later v u settled b x learns h =
    let g = h.gap in
    record {
      top = learns.least_heads (record { bucket = b; place = x }) h.top;
      gap = (
        g.0,
        g.1,
        subst (λ (k : Key). Among (record { bucket = b; end = g.0; above = k.end * 4; below = x }) u.learned.gaps)
            (sym learns.about)
            (learns.gaps (record { bucket = b; end = g.0; above = v.about.end * 4; below = x }) g.2),
      );
      first = subst (λ (k : Key). x ≤ k.line * 4 → x ≡ first_head k b) (sym learns.about) h.first;
    }

-- and one more is there
pub heads_more : (v u : View) (settled : ℕ) (heads : List ℕ) (x : ℕ) → Learns v u
    → ((b y : ℕ) → get_elem? heads b ≡ some y → HasHead v settled b y) → HasHead u settled (length heads) x
    → (b y : ℕ) → get_elem? (heads ++ x ∷ []) b ≡ some y → HasHead u settled b y
heads_more v u settled heads x learns old next = each_more (HasHead u settled) heads x
    (λ b y at. head_later v u settled b y learns (old b y at)) next

-- ---- the raise

-- a raise of the settled number extends a view
pub extends_raise : (v : View) (m x : ℕ) → v.learned.settled ≤ x → Extends v (after_raise_settled v m x)
extends_raise v m x more = (let raised : v.learned.settled ≤ max x m = omega arith in record {
  learns = assumption (learns_self v, raised);
  clock = later_ticked v.clock;
  frame = refl;
})

-- ---- how the pass went on

-- a mark's line ends what was read
pub lines_else : (v : View) (n lines : ℕ) (read : ReadLog) → IsReadUpTo v n read
    → IsReadUpTo v n (record read { lines = lines })
lines_else v n lines read h = assumption h

-- the log goes on
pub goes_on : (v : View) (n lines : ℕ) (read : ReadLog) (goes : Bool) → goes ≡ true → IsEntryAdded v n goes lines read
    → IsReadUpTo v (suc n) read × (read.lines ≡ lines)
goes_on v n lines read true e h = h
goes_on v n lines read false e h = cc

-- a version that was loaded is learned
learns_version : (v : View) (y : ℕ) → v.learned.version ≤ y → Learns v (after_load_version v y)
learns_version v y more = assumption (learns_self v, more)

-- the same where the view is known by an equation
pub to_version : (v u : View) (y : ℕ) → u ≡ after_load_version v y → v.learned.version ≤ y → Learns v u
to_version v u y e more = subst (Learns v) (sym e) (learns_version v y more)

-- it reads on from where it loaded the tail, and changes in nothing else
pub stays_open : (v t u : View) (x : ℕ) → t ≡ after_load_tail v x → v.learned.count ≤ high x
    → RestsAt (high x) (low x) v.tail → Extends t u → StaysOpen v u
stays_open v t u x e more rests ext =
    let learned = subst (Learns v) (sym e) (learns_end v x more) in
    let from : u ≡ record v {
      tail = Some (record { number = high x; line = low x });
      learned = u.learned;
      clock = u.clock;
    } = ext.frame ∙ ap (λ (z : View). record z { learned = u.learned; clock = u.clock }) e in
    let epoch : u.epoch ≡ v.epoch = ap (λ (z : View). z.epoch) from in
    let tail : u.tail ≡ Some (record { number = high x; line = low x }) = ap (λ (z : View). z.tail) from in
    let same : record v {
      tail = Some (record { number = high x; line = low x });
      learned = u.learned;
      clock = u.clock;
    } ≡ record v { tail = u.tail; learned = u.learned; clock = u.clock } =
    λ i. record v { tail = sym tail i; learned = u.learned; clock = u.clock } in
    record {
      on = record {
        learns = learns_both v t u learned ext.learns;
        frame = from ∙ same
            ∙ (λ i. record v { epoch = sym epoch i; tail = u.tail; learned = u.learned; clock = u.clock });
        found = x;
        tail = tail;
        rests = rests;
      };
      frame = from ∙ same;
    }

-- and when it loads the version last
pub reads_version : (v u w : View) (y : ℕ) → ReadsOn v u → w ≡ after_load_version u y → u.learned.version ≤ y → ReadsOn v w
reads_version v u w y on e more =
    let from : w ≡ record v {
      epoch = confirmed u.epoch y;
      tail = u.tail;
      learned = record u.learned { version = y };
      clock = noted u.clock Version y;
    } = e ∙ ap (λ (z : View). record z {
      epoch = confirmed u.epoch y;
      learned = record u.learned { version = y };
      clock = noted u.clock Version y;
    }) on.frame in
    let epoch : w.epoch ≡ confirmed u.epoch y = ap (λ (z : View). z.epoch) from in
    let tail : w.tail ≡ u.tail = ap (λ (z : View). z.tail) from in
    let learned : w.learned ≡ record u.learned { version = y } = ap (λ (z : View). z.learned) from in
    let clock : w.clock ≡ noted u.clock Version y = ap (λ (z : View). z.clock) from in
    let same : record v {
      epoch = confirmed u.epoch y;
      tail = u.tail;
      learned = record u.learned { version = y };
      clock = noted u.clock Version y;
    } ≡ record v { epoch = w.epoch; tail = w.tail; learned = w.learned; clock = w.clock } =
    λ i. record v { epoch = sym epoch i; tail = sym tail i; learned = sym learned i; clock = sym clock i } in
    record {
      learns = learns_both v u w on.learns (to_version u w y e more);
      frame = from ∙ same;
      found = on.found;
      tail = tail ∙ on.tail;
      rests = on.rests;
    }

-- heads stay known
pub heads_later : (v u : View) (settled buckets : ℕ) (heads : List ℕ) → Learns v u → AreSettledHeads v settled buckets heads
    → AreSettledHeads u settled buckets heads
heads_later v u settled buckets heads learns h =
    record { many = h.many; each = λ b x at. head_later v u settled b x learns (h.each b x at) }
