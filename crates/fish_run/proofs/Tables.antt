-- The table that rounds leave, and when new ones are begun.
use Rattle.std.proofs.Common.{◌≡◌, ◌≢◌, ◌<◌, ◌≤◌, ℕ, List, [], ◌∷◌, ◌++◌, Bool, true, false, Option, Some, refl, sym, ap, ◌∙◌}
use Rattle.std.proofs.Common.{inl, inr, ⊎_elim, subst, arith, slice_get}
use Rattle.std.specs.List.{list_any}
use Rattle.std.specs.Prelude.{◌||◌}
use Rattle.fish_lanes.specs.Outcome.{HandsBack, IsFullIn}
use Rattle.fish_lanes.specs.declared.lane.Lane.{Lane}
use Rattle.fish_report.specs.declared.item.Item.{Item}
use Rattle.fish_report.specs.declared.item.Item.TheVariants as item
use Rattle.fish_outside.specs.Content.{Files}
use Rattle.fish_rule.proofs.laws.Lists.{among_right}
use Rattle.fish_rule.specs.Views.{Among}
use Rattle.fish_rule.specs.declared.view.Key.{Key}
use Rattle.fish_rule.specs.declared.view.View.{View}
use Rattle.fish_run.specs.Blocks.{AreInOne, Round}
use Rattle.fish_run.specs.Rounds.{AreRounds, FollowOn}
use Rattle.fish_run.specs.within.Turning.{AsksMore, FindNoneFull, says_full}
use Rattle.fish_run.specs.within.Steps.{IsTableAfter}
use Rattle.fish_run.specs.Tables.{AreRenewed, IsNearLimits, IsRenewedBy, is_next_new, table_of}
use Rattle.fish_run.specs.within.Tables.{table_after}
use Rattle.fish_script.specs.declared.script.Statement.{Statement}

one_join : (rounds more : List Round) → AreInOne rounds → AreInOne more → AreInOne (rounds ++ more)
one_join [] more h k = k
one_join (b ∷ rounds) more h k = (h.0, one_join rounds more h.1 k)

-- none ran
pub table_self : (v : View) → IsTableAfter v v [] false
table_self v = record { rises = omega arith; same = λ is. (refl, tt, refl) }

-- the table stays
pub table_on : (v w u : View) (rounds : List Round) (fresh : Bool) → IsTableAfter v w rounds fresh → u.about ≡ w.about
    → IsTableAfter v u rounds fresh
table_on v w u rounds fresh h stays = record {
  rises = subst (λ (k : Key). v.about.number ≤ k.number) (sym stays) h.rises;
  same = λ is.
      let s = h.same (subst (λ (k : Key). k.number ≡ v.about.number) stays is) in
      (stays ∙ s.0, s.1, s.2);
}

-- one more ran in it
pub table_cut : (v w u : View) (rounds : List Round) (fresh : Bool) (b : Round) → IsTableAfter v w rounds fresh → b.fresh ≡ fresh
    → u.about ≡ w.about → IsTableAfter v u (rounds ++ b ∷ []) fresh
table_cut v w u rounds fresh b h in_it stays = record {
  rises = subst (λ (k : Key). v.about.number ≤ k.number) (sym stays) h.rises;
  same = λ is.
      let s = h.same (subst (λ (k : Key). k.number ≡ v.about.number) stays is) in
      (stays ∙ s.0, one_join rounds (b ∷ []) s.1 (in_it ∙ s.2, tt), s.2);
}

pub table_more : (v w u : View) (rounds : List Round) (fresh : Bool) (b : Round) → IsTableAfter v w rounds fresh → b.fresh ≡ fresh
    → u.about ≡ w.about → IsTableAfter v u (rounds ++ b ∷ []) false
table_more v w u rounds fresh b h in_it stays =
    let k = table_cut v w u rounds fresh b h in_it stays in
    record { rises = k.rises; same = λ is. (let s = k.same is in (s.0, s.1, refl)) }

-- a new one was begun at a higher number
pub table_rolled : (v w u : View) (rounds : List Round) → IsTableAfter v w rounds false → w.about.number < u.about.number
    → IsTableAfter v u rounds true
table_rolled v w u rounds h higher =
    let rises = h.rises in
    record { rises = omega arith; same = λ is. absurd (omega arith) }

-- and others after them
pub table_both : (v w u : View) (rounds more : List Round) (fresh : Bool) → IsTableAfter v w rounds false
    → IsTableAfter w u more fresh → IsTableAfter v u (rounds ++ more) fresh
table_both v w u rounds more fresh h k =
    let first = h.rises in
    let next = k.rises in
    record {
      rises = omega arith;
      same = λ is.
          let s = h.same (omega arith) in
          let t = k.same (omega arith) in
          (t.0 ∙ s.0, one_join rounds more s.1 t.1, t.2);
    }

-- ---- when new ones are begun

-- the table after one more round, and after others
pub table_push : (first : ℕ) (rounds : List Round) (b : Round)
    → table_after first (rounds ++ b ∷ []) ≡ table_of (table_after first rounds) b
table_push first [] b = refl
table_push first (x ∷ rounds) b = table_push (table_of first x) rounds b

pub table_join : (first : ℕ) (rounds more : List Round) → table_after first (rounds ++ more) ≡ table_after (table_after first rounds) more
table_join first [] more = refl
table_join first (x ∷ rounds) more = table_join (table_of first x) rounds more

-- one more round, for which a new table was begun if it was asked for
pub renewed_push : (first : ℕ) (rounds : List Round) (b : Round) (may new : Bool) → AreRenewed first rounds b.fresh b.fresh
    → IsRenewedBy (table_of (table_after first rounds) b) b may new → AreRenewed first (rounds ++ b ∷ []) may new
renewed_push first [] b may new h one = (one, tt)
renewed_push first (x ∷ []) b may new h one = (h.0, renewed_push (table_of first x) [] b may new h.1 one)
renewed_push first (x ∷ y ∷ rounds) b may new h one = (h.0, renewed_push (table_of first x) (y ∷ rounds) b may new h.1 one)

-- one after which a new one may be begun, whether it was or not
pub renewed_free : (first : ℕ) (b : Round) → IsRenewedBy first b true false
renewed_free first b = record { full = λ line lines end f. inl refl; needed = λ bad. absurd cc }

-- after rounds one may be begun
pub renewed_may : (first : ℕ) (rounds : List Round) (may new : Bool) → AreRenewed first rounds may new
    → AreRenewed first rounds true false
renewed_may first [] may new h = tt
renewed_may first (x ∷ []) may new h = (renewed_free (table_of first x) x, tt)
renewed_may first (x ∷ y ∷ rounds) may new h = (h.0, renewed_may (table_of first x) (y ∷ rounds) may new h.1)

-- where none has to be begun after a round, one may be, if none was
no_longer : (first : ℕ) (b : Round) (may : Bool) → IsRenewedBy first b false false → IsRenewedBy first b may false
no_longer first b may h = record {
  full = λ line lines end f. ⊎_elim (λ (bad : false ≡ true). absurd cc)
      (λ (near : (b.span.to ≡ first) × IsNearLimits b.span.to end). inr near) (h.full line lines end f);
  needed = λ bad. absurd cc;
}

-- other rounds after them, of which the first one is in their table
pub renewed_join : (first : ℕ) (rounds more : List Round) (may : Bool) → is_next_new more false ≡ false
    → AreRenewed first rounds false false → AreRenewed (table_after first rounds) more may false
    → AreRenewed first (rounds ++ more) may false
renewed_join first [] more may old h k = k
renewed_join first (x ∷ []) more may old h k = (
  subst (λ (z : Bool). IsRenewedBy (table_of first x) x (is_next_new more may) z) (sym old)
      (no_longer (table_of first x) x (is_next_new more may) h.0),
  k,
)
renewed_join first (x ∷ y ∷ rounds) more may old h k = (h.0, renewed_join (table_of first x) (y ∷ rounds) more may old h.1 k)

-- the first round of a block is in the table of before
pub follow_old : (rounds : List Round) → FollowOn rounds → is_next_new rounds false ≡ false
follow_old [] h = refl
follow_old (a ∷ rounds) h = h.2

pub rounds_old : (told : Option Files) (texts : List (List Statement)) (rounds : List Round) → AreRounds told texts rounds
    → is_next_new rounds false ≡ false
rounds_old told texts [] h = refl
rounds_old told texts (a ∷ rounds) h = follow_old (a ∷ rounds) h.0

-- ---- a full table

-- some item tells that it is full
abbrev pub IsSomeFull : List Lane → Type 0
IsSomeFull lanes = (line : ℕ) × (lines : ℕ) × (end : ℕ) × IsFullIn lanes line lines end

-- where one among those of a lane does
any_full : (lanes : List Lane) (i : ℕ) (x : Lane) → slice_get lanes i ≡ Some x → (items : List Item)
    → ((y : Item) → Among y items → Among y x.items) → list_any says_full items ≡ true → IsSomeFull lanes
any_full lanes i x at [] sub some = absurd cc
any_full lanes i x at (y ∷ items) sub some = by (any_full lanes i x at items (λ z m. sub z (inr m))) y refl some
  where
    by : (list_any says_full items ≡ true → IsSomeFull lanes) → (z : Item) → y ≡ z
        → (says_full z || list_any says_full items) ≡ true → IsSomeFull lanes
    by rest (item.IngestFull file line lines end stored refused) is found = (
      line,
      lines,
      end,
      record {
        at = i;
        lane = x;
        lane_is = at;
        file = file;
        stored = stored;
        refused = refused;
        among = sub (item.IngestFull file line lines end stored refused) (inl is);
      },
    )
    by rest z is found = rest found

-- a lane that goes on found it full
pub more_full : (v u : View) (lanes : List Lane) → HandsBack v u lanes → (more : AsksMore lanes) → IsSomeFull lanes
more_full v u lanes h (i, x, at, why) = ⊎_elim
    (λ (left : x.left ≢ []).
    let e = (h i x at left).last in (
      e.line,
      e.lines,
      e.end,
      record {
        at = i;
        lane = x;
        lane_is = at;
        file = e.file;
        stored = e.stored;
        refused = e.refused;
        among = subst (Among (item.IngestFull e.file e.line e.lines e.end e.stored e.refused)) (sym e.is)
            (among_right (item.IngestFull e.file e.line e.lines e.end e.stored e.refused) e.front
            (item.IngestFull e.file e.line e.lines e.end e.stored e.refused ∷ []) (inl refl));
      },
    ))
    (λ (full : list_any says_full x.items ≡ true). any_full lanes i x at x.items (λ y m. m) full) why

-- an item of those of which none tells it doesn't
none_tells : (items : List Item) (x : Item) → list_any says_full items ≡ false → Among x items → says_full x ≡ true → ⊥
none_tells [] x none among is = elim among [ ]
none_tells (y ∷ items) x none among is = by (λ rest m. none_tells items x rest m is) (says_full y) refl none among
  where
    by : (list_any says_full items ≡ false → Among x items → ⊥) → (b : Bool) → says_full y ≡ b
        → (b || list_any says_full items) ≡ false → Among x (y ∷ items) → ⊥
    by others true here bad m = absurd cc
    by others false here rest (inl same) = absurd (let bad : true ≡ false = sym is ∙ ap says_full (sym same) ∙ here in cc)
    by others false here rest (inr m) = others rest m

-- where no item of these lanes tells that the table is full, none of them was refused by a claim
pub none_full : (lanes : List Lane) → FindNoneFull lanes → (line lines end : ℕ) → IsFullIn lanes line lines end → ⊥
none_full lanes none line lines end f =
    none_tells f.lane.items (item.IngestFull f.file line lines end f.stored f.refused) (none f.at f.lane f.lane_is) f.among refl
