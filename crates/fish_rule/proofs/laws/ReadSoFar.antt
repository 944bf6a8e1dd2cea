-- What was read of a log so far, and how it grows.
use Rattle.std.proofs.Common.{◌≡◌, ℕ, ◌*◌, ◌/◌, ◌<◌, ◌≤◌, suc, List, [], ◌∷◌, ◌++◌, refl, sym, ap, ◌∙◌}
use Rattle.std.proofs.Common.{subst, inl, inr, ⊎_elim, arith}
use Rattle.fish_rule.proofs.basics.Context.{Among, Key, View, World}
use Rattle.std.proofs.lemmas.Nat.{le-div}
use Rattle.std.proofs.Math.Decide.{dec_lt, ℕ_discrete}
use Rattle.std.proofs.Math.Nat.{div-mul-le_self}
use Rattle.fish_catalog.specs.declared.page_start.PageStart.{PageStart}
use Rattle.fish_rule.proofs.basics.Regions.{starts_rise}
use Rattle.fish_rule.proofs.basics.Lists.{all_among, all_append, among_either, among_left, among_right}
use Rattle.fish_rule.specs.ClosedLog.{PagesRise}
use Rattle.fish_rule.specs.within.ClosedLog.{HasLine, HasMarkAt, HasStart, IsEntryCovered, IsLogRead, IsReadUpTo}
use Rattle.fish_layout.specs.Pages.{page_of}
use Rattle.fish_rule.specs.Facts.{IsFound}
use Rattle.fish_rule.specs.Logs.{Learns}
use Rattle.fish_rule.specs.LoadSteps.{CanRaiseSettled}
use Rattle.fish_rule.specs.Table.{IsOfMoment}
use Rattle.fish_rule.specs.declared.close.ReadLog.{ReadLog}

-- what was found stays found
pub line_later : (v u : View) (n line : ℕ) → Learns v u → HasLine v n line → HasLine u n line
line_later v u n line learns h = (h.0, learns.found h.0 h.1, h.2, h.3, h.4)

-- so is that of a mark
pub mark_later : (v u : View) (n line : ℕ) → Learns v u → HasMarkAt v n line → HasMarkAt u n line
mark_later v u n line learns h = (h.0, learns.found h.0 h.1, h.2, h.3, h.4)

-- the lines of numbers that were found rise
line_rises : (v : View) → IsOfMoment v → (m n a b : ℕ) → HasLine v m a → HasLine v n b → m ≤ n → a ≤ b
line_rises v s m n a b f g less =
    let w : World = s.moment in
    let r = s.rule in
    let facts = (r.facts s.seat v s.at).found in
    let x = all_among (IsFound v.about w.count w.dir r.start) f.0 v.learned.found facts f.1 in
    let y = all_among (IsFound v.about w.count w.dir r.start) g.0 v.learned.found facts g.1 in
    let above = x.above in
    let below = y.below in
    let from : f.0.number ≡ m = f.2 in
    let to : g.0.number ≡ n = g.2 in
    let up = starts_rise v.about w.count w.line r.start r.space.regions f.0.number g.0.number above (omega arith)
    (omega arith) in
    let at : r.start f.0.number ≡ a = x.line ∙ f.4 in
    let up_to : r.start g.0.number ≡ b = y.line ∙ g.4 in
    omega arith

-- and so do their pages
page_rises : (a b : ℕ) → a ≤ b → page_of a ≤ page_of b
page_rises a b less =
    let h : a / 32768 * 32768 ≤ a = div-mul-le_self a 32768 in
    le-div (a / 32768) b 32768 (omega arith) (omega arith)

-- a start in a later page comes last
rise_more : (xs : List PageStart) (t : PageStart) → PagesRise xs
    → ((s : PageStart) → Among s xs → page_of s.line < page_of t.line) → PagesRise (xs ++ t ∷ [])
rise_more [] t h below = (tt, tt)
rise_more (x ∷ xs) t h below = (
  all_append (λ (u : PageStart). page_of x.line < page_of u.line) xs (t ∷ []) h.0 (below x (inl refl), tt),
  rise_more xs t h.1 (λ s m. below s (inr m)),
)

-- ---- what was read

-- it stays so
covered_later : (v u : View) (starts : List PageStart) (n : ℕ) → Learns v u → IsEntryCovered v starts n
    → IsEntryCovered u starts n
covered_later v u starts n learns h = record {
  line = h.line;
  has = line_later v u n h.line learns h.has;
  start = h.start;
  among = h.among;
  page = h.page;
  upto = h.upto;
}

-- what was read stays so
pub upto_later : (v u : View) (n : ℕ) (read : ReadLog) → Learns v u → IsReadUpTo v n read → IsReadUpTo u n read
upto_later v u n read learns h =
    let about : u.about.number ≡ v.about.number = ap (λ (z : Key). z.number) learns.about in
    let from = h.from in
    record {
      from = omega arith;
      many = h.many;
      rise = h.rise;
      sound = λ s m. (let x = h.sound s m in
          let above = x.0 in (omega arith, x.1, line_later v u s.number s.line learns x.2));
      covers = λ m above below. covered_later v u read.starts m learns (h.covers m (omega arith) below);
      paged = h.paged;
      last = h.last;
    }

-- one number more is covered
covers_more : (u : View) (base n : ℕ) (starts : List PageStart)
    → ((m : ℕ) → base ≤ m → m < n → IsEntryCovered u starts m) → IsEntryCovered u starts n → (m : ℕ) → base ≤ m → m < suc n
    → IsEntryCovered u starts m
covers_more u base n starts old here m above below = pick (ℕ_discrete m n)
  where
    pick : Dec (m ≡ n) → IsEntryCovered u starts m
    pick (yes e) = subst (IsEntryCovered u starts) (sym e) here
    pick (no ne) = old m above (omega arith)

-- one more entry
module _ (u : View) (n line : ℕ) (old new : ReadLog) (s : IsOfMoment u) (h : IsReadUpTo u n old)
    (has : HasLine u n line) (added : new.number ≡ suc n) where
  -- in a page that has a start
  pub read_inside : new.starts ≡ old.starts → new.next_page ≡ old.next_page → page_of line < old.next_page
      → IsReadUpTo u (suc n) new
  read_inside starts page less =
      let l = h.last (omega arith) in
      let at = h.sound l.0 l.1 in
      let before = at.1 in
      let rise = page_rises l.0.line line
      (line_rises u s l.0.number n l.0.line line at.2 has (omega arith)) in
      let next : suc (page_of l.0.line) ≡ old.next_page = l.2 in
      let here : IsEntryCovered u old.starts n = record {
        line = line;
        has = has;
        start = l.0;
        among = l.1;
        page = omega arith;
        upto = omega arith;
      } in
      record {
        from = (let from = h.from in omega arith);
        many = added;
        rise = subst PagesRise (sym starts) h.rise;
        sound = λ t m. (let x = h.sound t (subst (Among t) starts m) in
            let less = x.1 in (x.0, omega arith, x.2));
        covers = subst (λ (z : List PageStart). (m : ℕ) → u.about.number ≤ m → m < suc n → IsEntryCovered u z m) (sym starts)
            (covers_more u u.about.number n old.starts h.covers here);
        paged = λ t m. (let x = h.paged t (subst (Among t) starts m) in omega arith);
        last = subst (λ (z : List PageStart × ℕ). 0 < z.1 → (t : PageStart) × Among t z.0 × (suc (page_of t.line) ≡ z.1))
            (λ i. (sym starts i, sym page i)) h.last;
      }

  -- in the first of a page
  pub read_first : new.starts ≡ old.starts ++ record { number = n; line = line } ∷ []
      → new.next_page ≡ suc (page_of line) → old.next_page ≤ page_of line → IsReadUpTo u (suc n) new
  read_first starts page more =
      let t : PageStart = record { number = n; line = line } in
      let last : Among t (old.starts ++ t ∷ []) = among_right t old.starts (t ∷ []) (inl refl) in
      let here : IsEntryCovered u (old.starts ++ t ∷ []) n = record {
        line = line;
        has = has;
        start = t;
        among = last;
        page = refl;
        upto = omega arith;
      } in
      record {
        from = (let from = h.from in omega arith);
        many = added;
        rise = subst PagesRise (sym starts) (rise_more old.starts t h.rise
            (λ x m. (let p = h.paged x m in omega arith)));
        sound = λ x m. ⊎_elim
            (λ (a : Among x old.starts). let y = h.sound x a in let less = y.1 in (y.0, omega arith, y.2))
            (λ (a : Among x (t ∷ [])). new_sound t x a refl refl)
            (among_either x old.starts (t ∷ []) (subst (Among x) starts m));
        covers = subst (λ (z : List PageStart). (m : ℕ) → u.about.number ≤ m → m < suc n → IsEntryCovered u z m) (sym starts)
            (covers_more u u.about.number n (old.starts ++ t ∷ []) (λ m up low. wider t m (h.covers m up low)) here);
        paged = λ x m. ⊎_elim (λ (a : Among x old.starts). let p = h.paged x a in omega arith)
            (λ (a : Among x (t ∷ [])). let p = new_page t x a in omega arith)
            (among_either x old.starts (t ∷ []) (subst (Among x) starts m));
        last = λ some_. (t, subst (Among t) (sym starts) last, sym page);
      }
    where
      new_sound : (t x : PageStart) → Among x (t ∷ []) → t.number ≡ n → t.line ≡ line
          → (u.about.number ≤ x.number) × (x.number < suc n) × HasLine u x.number x.line
      new_sound t x (inl is) number at =
          let from = h.from in
          let same : x.number ≡ n = ap (λ (z : PageStart). z.number) (sym is) ∙ number in
          let there : x.line ≡ line = ap (λ (z : PageStart). z.line) (sym is) ∙ at in (
            omega arith,
            omega arith,
            subst (λ (z : ℕ × ℕ). HasLine u z.0 z.1) (λ i. (sym same i, sym there i)) has,
          )
      new_sound t x (inr no_) number at = elim no_ [ ]

      new_page : (t x : PageStart) → Among x (t ∷ []) → page_of x.line ≡ page_of t.line
      new_page t x (inl is) = ap (λ (z : PageStart). page_of z.line) (sym is)
      new_page t x (inr no_) = elim no_ [ ]

      wider : (t : PageStart) (m : ℕ) → IsEntryCovered u old.starts m → IsEntryCovered u (old.starts ++ t ∷ []) m
      wider t m c = record {
        line = c.line;
        has = c.has;
        start = c.start;
        among = among_left c.start old.starts (t ∷ []) c.among;
        page = c.page;
        upto = c.upto;
      }

-- of a log whose number was read, and its start
pub read_more : (u : View) (n line : ℕ) (old new : ReadLog) → IsOfMoment u → IsReadUpTo u n old
    → HasLine u n line → HasStart old n line new → IsReadUpTo u (suc n) new
read_more u n line old new s h has start = pick (dec_lt (page_of line) old.next_page)
  where
    pick : Dec (page_of line < old.next_page) → IsReadUpTo u (suc n) new
    pick (yes less) = (let o = start.other less in read_inside u n line old new s h has start.number o.0 o.1 less)
    pick (no more) =
        let o = start.first (omega arith) in
        read_first u n line old new s h has start.number o.0 o.1 (omega arith)

-- ---- what the pass may settle

-- all that was read is published, and no mark
pub settles_read : (v : View) (n : ℕ) (read : ReadLog) → n ≤ v.learned.count → IsReadUpTo v n read → CanRaiseSettled v n
settles_read v n read within h = record {
  within = within;
  known = λ m above below. inr (let x = (h.covers m above below).has in (x.0, x.1, x.2, x.3));
}

-- all of it stays read
pub read_later : (v u : View) (end line : ℕ) (read : ReadLog) → Learns v u → IsLogRead v end line read
    → IsLogRead u end line read
read_later v u end line read learns h = record {
  number = h.number;
  upto = upto_later v u h.number read learns h.upto;
  ends = ⊎_elim (λ (e : (h.number ≡ end) × (read.lines ≡ line)). inl e)
      (λ (m : (h.number < end) × HasMarkAt v h.number read.lines).
      inr (m.0, mark_later v u h.number read.lines learns m.1)) h.ends;
}
