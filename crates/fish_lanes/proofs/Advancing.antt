-- One statement more, a step between two statements, and the end of a lane's statements.
use Rattle.std.proofs.Common.{◌≡◌, ◌≢◌, ℕ, ◌+◌, ◌≤◌, List, [], ◌∷◌, ◌++◌, take, refl, sym, ap, ◌∙◌, subst, inl, inr, ◌⊎◌}
use Rattle.std.proofs.Common.{⊎_elim, arith, length-append, append-nil, true, false, Bool}
use Rattle.fish_lanes.proofs.Claims.{shuts_answers, shuts_more}
use Rattle.fish_lanes.proofs.Done.{HasAnswered, item_told}
use Rattle.fish_lanes.proofs.Gaining.{full_later, gains_both}
use Rattle.fish_lanes.proofs.Lists.{all_more, filter_first, filter_last, filter_other, filter_skip}
use Rattle.fish_lanes.proofs.Items.{SaysAll, StandAfter, behind_is, made_append, shown_in, says_cut, says_ended, says_more}
use Rattle.fish_lanes.proofs.Publishing.{published_later}
use Rattle.fish_lanes.proofs.RowLists.{has_above}
use Rattle.fish_lanes.proofs.Showing.{full_fit, item_ends, item_settles, item_shown}
use Rattle.fish_lanes.specs.within.Advancing.{EndsBy}
use Rattle.fish_lanes.specs.within.Doing.{IsFit}
use Rattle.fish_lanes.specs.Gains.{KeepsShut}
use Rattle.fish_lanes.specs.within.Gains.{Gains}
use Rattle.fish_lanes.specs.Records.{LaneRow, contents_of_rows}
use Rattle.fish_lanes.specs.within.Records.{Ascends}
use Rattle.fish_lanes.specs.Registering.{ItemFits, Registry}
use Rattle.fish_lanes.specs.Running.{IsShared}
use Rattle.fish_lanes.specs.within.Running.{HasRun, IsFullItem}
use Rattle.fish_lanes.specs.Seen.{Shown, settled, shown_by}
use Rattle.fish_lanes.specs.within.Sizes.{SaysShut}
use Rattle.fish_lanes.specs.Spans.{Span, answers, is_answer, made_by}
use Rattle.fish_lanes.specs.within.Spans.{IsWithinSpan}
use Rattle.fish_lanes.specs.Telling.{SaysItem, content_of, count_of}
use Rattle.fish_lanes.specs.declared.work.LaneFault.{LaneFault}
use Rattle.fish_lanes.specs.declared.work.LaneFault.TheVariants as fault
use Rattle.fish_lanes.specs.declared.work.Work.{Work}
use Rattle.fish_report.specs.declared.item.Item.{Item}
use Rattle.fish_rule.proofs.laws.ChainFacts.{always_later}
use Rattle.fish_rule.proofs.laws.Lists.{among_either, among_left, among_right}
use Rattle.fish_rule.specs.Logs.{Learns}
use Rattle.fish_rule.specs.Parts.{IsEntryWord}
use Rattle.fish_rule.specs.Views.{AllOf, Among}
use Rattle.fish_rule.specs.declared.view.Key.{Key}
use Rattle.fish_rule.specs.declared.view.View.{View}
use Rattle.fish_whole.proofs.Wholes.{up_to_later}
use Rattle.fish_whole.specs.Whole.{Whole}

shown_either : (n : Shown) (items : List Item) (x : Item) → Among n (shown_in (items ++ x ∷ []))
    → Among n (shown_in items) ⊎ Among n (shown_by x)
shown_either n [] x m = ⊎_elim (λ (h : Among n (shown_by x)). inr h) (λ (h : Among n []). elim h [ ])
    (among_either n (shown_by x) [] m)
shown_either n (y ∷ items) x m =
    ⊎_elim (λ (h : Among n (shown_by y)). inl (among_left n (shown_by y) (shown_in items) h))
    (λ (h : Among n (shown_in (items ++ x ∷ []))).
    ⊎_elim (λ (g : Among n (shown_in items)). inl (among_right n (shown_by y) (shown_in items) g))
    (λ (g : Among n (shown_by x)). inr g) (shown_either n items x h))
    (among_either n (shown_by y) (shown_in (items ++ x ∷ [])) m)

-- items that tell of no number from a count on tell of none from a higher one on
ends_later : (count more : ℕ) (items : List Item) → count ≤ more → AllOf (EndsBy count) items → AllOf (EndsBy more) items
ends_later count more [] less h = tt
ends_later count more (x ∷ items) less h = (let a = h.0 in omega arith, ends_later count more items less h.1)

-- so what is stored from the count on stands after them
stand_after : (count to : ℕ) (items : List Item) (rows : List LaneRow) → AllOf (EndsBy count) items → Ascends count rows to
    → StandAfter items rows
stand_after count to [] rows h up = tt
stand_after count to (x ∷ items) rows h up = (
  λ n has. let a = h.0 in let b = has_above n count to rows up has in omega arith,
  stand_after count to items rows h.1 up,
)

-- what was refused before is still named by the claim that shut the pass
fulls_later : (u t : View) (items : List Item) → t.about ≡ u.about → KeepsShut u t → AllOf (IsFullItem u) items
    → AllOf (IsFullItem t) items
fulls_later u t [] about keeps h = tt
fulls_later u t (x ∷ items) about keeps h = (
  λ file line lines end stored refused is.
      full_later u t line lines end about keeps (h.0 file line lines end stored refused is),
  fulls_later u t items about keeps h.1,
)

-- what the pass knows at its end lies within the block where it does later
within_before : (v u t : View) (s : Span) → Learns u t → IsWithinSpan v t s → IsWithinSpan v u s
within_before v u t s learns within =
    let version = learns.version in
    let last = within.last in
    let count = learns.count in
    let near = within.near in
    record {
      first = within.first;
      last = omega arith;
      above = within.above;
      settled = within.settled;
      counted = within.counted;
      near = omega arith;
      alone = within.alone;
      stored = (let settled = learns.settled in let below = within.stored in omega arith);
      entries = λ n word. within.entries n (always_later u t (λ k w. IsEntryWord (w.dir n)) learns word);
    }

-- a step that gains nothing and answers nothing
pub told_on : {Past : Whole → Type 0} (v u t : View) (works : List Work) (items : List Item) → HasAnswered Past v u works items
    → Gains u t [] → t.shut ≡ u.shut → HasAnswered Past v t works items
told_on v u t works items h g same =
    let learns = g.on.learns in
    let version = learns.version in
    let known = h.versions in
    record {
      rows = h.rows ++ [];
      gains = gains_both v u t h.rows [] h.gains g;
      tells = λ past behind s within full w m far.
          subst (λ (r : List LaneRow). SaysAll w s [] [] r works items) (sym (append-nil h.rows))
          (up_to_later past u t s.to _ learns (h.tells past behind s (within_before v u t s learns within) full) w m far);
      shown = λ n x m i low. published_later u t n learns
          (h.shown n x m i (let same : t.about.number ≡ u.about.number = ap (λ (z : Key). z.number) learns.about in omega arith));
      settles = λ k m. let a = h.settles k m in let e = learns.settled in omega arith;
      ends = ends_later u.learned.count t.learned.count items learns.count h.ends;
      size = h.size;
      full = fulls_later u t items learns.about g.shut h.full;
      versions = omega arith;
      shuts = λ c e. h.shuts c (sym same ∙ e);
    }

-- one statement more
pub told_more : {Past : Whole → Type 0} (v u t : View) (works : List Work) (items : List Item) (w : Work) (x : Item) (rows : List LaneRow)
    → HasAnswered Past v u works items → Gains u t rows → contents_of_rows rows ≡ take (count_of x) (content_of w)
    → IsFit Past u t w x → IsShared w ⊎ ((r : Registry) × ItemFits u.learned.count t.learned.count r x) → SaysShut u t (x ∷ [])
    → u.learned.version + made_by x ≤ t.learned.version → HasAnswered Past v t (works ++ w ∷ []) (items ++ x ∷ [])
told_more {Past} v u t works items w x rows h g first fit so shuts version =
    let learns = g.on.learns in
    let settled_more = learns.settled in
    let known = h.versions in
    let many = made_append items (x ∷ []) in
    let same : t.about.number ≡ u.about.number = ap (λ (z : Key). z.number) learns.about in
    record {
      rows = h.rows ++ rows;
      gains = gains_both v u t h.rows rows h.gains g;
      tells = λ past behind s within full z m far.
          says_more z s [] [] h.rows rows works items w x
          (up_to_later past u t s.to _ learns (h.tells past behind s (within_before v u t s learns within) full) z m far)
          (stand_after u.learned.count t.learned.count items rows h.ends g.ascends) first
          (subst (λ (k : Span). SaysItem z k h.rows (shown_in items) w x) (sym (behind_is items s))
          (item_told Past v u t works items s h learns within full past behind w x fit z m far));
      shown = λ n s m i low. ⊎_elim
          (λ (k : Among s (shown_in items)). published_later u t n learns (h.shown n s k i (omega arith)))
          (λ (k : Among s (shown_by x)). item_shown u t learns.about Past w x n s fit k i low) (shown_either s items x m);
      settles = λ k m. ⊎_elim (λ (n : Among (settled k) (shown_in items)). (let a = h.settles k n in omega arith))
          (λ (n : Among (settled k) (shown_by x)). item_settles u t learns.about Past w x k fit n)
          (shown_either (settled k) items x m);
      ends = all_more (EndsBy t.learned.count) items x (ends_later u.learned.count t.learned.count items learns.count h.ends)
          (item_ends u t Past w x fit so);
      size = (let a = length-append items (x ∷ []) in let b = length-append works (w ∷ []) in let e = h.size in
          omega arith);
      full = all_more (IsFullItem t) items x (fulls_later u t items learns.about g.shut h.full) (full_fit Past u t w x fit);
      versions = omega arith;
      shuts = shuts_more v u t items x h.shuts shuts;
    }

-- ---- answers among items

-- one more item that answers
pub answers_more : (items : List Item) (x : Item) → is_answer x ≡ true → answers (items ++ x ∷ []) ≡ answers items ++ x ∷ []
answers_more items x is = filter_last is_answer items x is

-- and one that doesn't
pub answers_same : (items : List Item) (x : Item) → is_answer x ≡ false → answers (items ++ x ∷ []) ≡ answers items
answers_same items x is = filter_other is_answer items x is

-- of a full log only answers tell
fulls_all : (u : View) (items : List Item) → AllOf (IsFullItem u) (answers items) → AllOf (IsFullItem u) items
fulls_all u [] h = tt
fulls_all u (x ∷ items) h = by (is_answer x) refl h (fulls_all u items)
  where
    by : (b : Bool) → is_answer x ≡ b → AllOf (IsFullItem u) (answers (x ∷ items))
        → (AllOf (IsFullItem u) (answers items) → AllOf (IsFullItem u) items) → AllOf (IsFullItem u) (x ∷ items)
    by true e h rest =
        let parts : AllOf (IsFullItem u) (x ∷ answers items) =
        subst (AllOf (IsFullItem u)) (filter_first is_answer x items e) h in
        (parts.0, rest parts.1)
    by false e h rest = (
      λ file line lines end stored refused is. (let bad : false ≡ true = sym e ∙ ap is_answer is in absurd cc),
      rest (subst (AllOf (IsFullItem u)) (filter_skip is_answer x items e) h),
    )

-- ---- the end

-- all statements are done
pub run_ended : {Past : Whole → Type 0} (v u : View) (works : List Work) (items : List Item)
    → HasAnswered Past v u works (answers items) → HasRun Past v u works items fault.None
run_ended v u works items h = record {
  rows = h.rows;
  gains = h.gains;
  tells = λ past behind s within full w m far.
      says_ended w s [] [] h.rows works (answers items) (h.tells past behind s within full w m far);
  full = fulls_all u items h.full;
  ended = record { whole = λ _. h.size; cut = λ bad. absurd (bad refl) };
  shuts = λ _. shuts_answers v u items h.shuts;
}

-- or those up to one of which a part was done
pub run_cut : {Past : Whole → Type 0} (v u t : View) (works : List Work) (items : List Item) (w : Work) (later : List Work)
    (rows : List LaneRow)
    (count : ℕ) (why : LaneFault) → why ≢ fault.None → HasAnswered Past v u works (answers items) → Gains u t rows
    → contents_of_rows rows ≡ take count (content_of w) → HasRun Past v t (works ++ w ∷ later) items why
run_cut v u t works items w later rows count why named h g first =
    let learns = g.on.learns in
    record {
      rows = h.rows ++ rows;
      gains = gains_both v u t h.rows rows h.gains g;
      tells = λ past behind s within full z m far.
          says_cut z s [] [] h.rows rows works (answers items) w later count
          (up_to_later past u t s.to _ learns (h.tells past behind s (within_before v u t s learns within) full) z m far)
          (stand_after u.learned.count t.learned.count (answers items) rows h.ends g.ascends) first;
      full = fulls_later u t items learns.about g.shut (fulls_all u items h.full);
      ended = record {
        whole = λ e. absurd (named e);
        cut = λ _. let a = length-append works (w ∷ later) in let e = h.size in omega arith;
      };
      shuts = λ e. absurd (named e);
    }

-- ---- fewer pasts

-- what is told after some pasts is told after each of these
pub told_fewer : (P Q : Whole → Type 0) (v u : View) (works : List Work) (items : List Item) → ((past : Whole) → Q past → P past)
    → HasAnswered P v u works items → HasAnswered Q v u works items
told_fewer P Q v u works items fewer h = record {
  rows = h.rows;
  gains = h.gains;
  tells = λ past behind. h.tells past (fewer past behind);
  shown = h.shown;
  settles = h.settles;
  ends = h.ends;
  size = h.size;
  full = h.full;
  versions = h.versions;
  shuts = h.shuts;
}

-- so is what a run told
pub run_fewer : (P Q : Whole → Type 0) (v u : View) (works : List Work) (items : List Item) (why : LaneFault)
    → ((past : Whole) → Q past → P past) → HasRun P v u works items why → HasRun Q v u works items why
run_fewer P Q v u works items why fewer h = record {
  rows = h.rows;
  gains = h.gains;
  tells = λ past behind. h.tells past (fewer past behind);
  full = h.full;
  ended = h.ended;
  shuts = h.shuts;
}
