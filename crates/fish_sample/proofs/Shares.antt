-- A log of which one part has the shares of four lanes, and the others no record: its lanes, and what is selected from it.
use Rattle.std.proofs.Common.{◌≡◌, ℕ, ◌+◌, ◌-◌, ◌<◌, ◌≤◌, zero, suc, List, [], ◌∷◌, ◌++◌, length, map, take, drop, refl, sym, ap, ◌∙◌}
use Rattle.std.proofs.Common.{subst, arith}
use Rattle.std.proofs.Common.{Some, slice_get, append-nil}
use Rattle.std.proofs.Math.Decide.{dec_lt}
use Rattle.std.proofs.lemmas.List.{drop-drop, take-append-drop, take_rest}
use Rattle.std.proofs.lemmas.Option.{slice_get_within}
use Rattle.std.specs.Prelude.{count_by}
use Rattle.std.specs.List.{range_with_len}
use Rattle.fish_catalog.specs.declared.entry.Entry.{Entry}
use Rattle.fish_catalog.specs.declared.entry.Entry.TheVariants as entry
use Rattle.fish_gen.specs.Sample.{sample_text}
use Rattle.fish_psf.specs.Records.{evaluation}
use Rattle.fish_psf.specs.Select.{has_value, select}
use Rattle.fish_value.specs.declared.field.Form.{Form}
use Rattle.fish_value.specs.declared.field.Form.TheVariants.{Json}
use Rattle.fish_sample.proofs.Entries.{contents_both, contents_void, count_contents, count_entries, count_lane, count_texts}
use Rattle.fish_sample.proofs.Entries.{each_at, each_both, each_weaker, four_lanes, four_shares, selected_many, void_lanes}
use Rattle.fish_lanes.specs.Records.{Content, contents_of_rows, rows_from}
use Rattle.fish_lanes.specs.Telling.{all_of}
use Rattle.fish_sample.specs.Logs.{IsSampleLog}
use Rattle.fish_sample.specs.within.Parts.{EachEntry, HasShares, IsOfLanes, IsVoid, log_part}
use Rattle.fish_sample.specs.Sample.{SampleQuestion, asked_count, share}
use Rattle.fish_scan.specs.Older.{selectable}

-- ---- parts

get_take : (m i : ℕ) (es : List Entry) (e : Entry) → slice_get (take m es) i ≡ Some e → (i < m) × (slice_get es i ≡ Some e)
get_take zero i es e at = absurd cc
get_take (suc m) i [] e at = absurd cc
get_take (suc m) zero (x ∷ es) e at = (omega arith, at)
get_take (suc m) (suc i) (x ∷ es) e at = (let h = get_take m i es e at in (omega (h, arith), h.1))

get_drop : (a i : ℕ) (es : List Entry) → slice_get (drop a es) i ≡ slice_get es (a + i)
get_drop zero i es = ap (slice_get es) (omega arith)
get_drop (suc a) i [] = refl
get_drop (suc a) i (x ∷ es) = get_drop a i es ∙ sym (ap (slice_get (x ∷ es)) (let e : suc a + i ≡ suc (a + i) = omega arith in e))

get_part : (a b i : ℕ) (es : List Entry) (e : Entry) → slice_get (log_part a b es) i ≡ Some e → (a + i < b)
    × (slice_get es (a + i) ≡ Some e)
get_part a b i es e at =
    let h = get_take (b - a) i (drop a es) e at in
    (omega (h, arith), sym (get_drop a i es) ∙ h.1)

put_take : (m i : ℕ) (es : List Entry) (e : Entry) → i < m → slice_get es i ≡ Some e → slice_get (take m es) i ≡ Some e
put_take zero i es e less at = absurd (omega (less, arith))
put_take (suc m) i [] e less at = at
put_take (suc m) zero (x ∷ es) e less at = at
put_take (suc m) (suc i) (x ∷ es) e less at = put_take m i es e (omega (less, arith)) at

each_get : (P : Entry → Type 0) (es : List Entry) → EachEntry P es → (i : ℕ) (e : Entry) → slice_get es i ≡ Some e → P e
each_get P [] h i e at = absurd cc
each_get P (x ∷ es) h zero e at = subst P (let same : x ≡ e = cc in same) h.0
each_get P (x ∷ es) h (suc i) e at = each_get P es h.1 i e at

-- what is so of each entry in a part is so of those at its numbers
part_get : (P : Entry → Type 0) (a b : ℕ) (es : List Entry) → EachEntry P (log_part a b es) → (n : ℕ) (e : Entry) → a ≤ n → n < b
    → slice_get es n ≡ Some e → P e
part_get P a b es h n e low high at =
    let i : ℕ = n - a in
    let is : a + i ≡ n = omega (low, arith) in
    each_get P (log_part a b es) h i e
    (put_take (b - a) i (drop a es) e (omega (low, high, arith)) (get_drop a i es ∙ ap (slice_get es) is ∙ at))

-- the lanes of a part, by its numbers
pub part_lanes : (many a b : ℕ) (es : List Entry)
    → ((n lane : ℕ) (form : Form) (payload : List ℕ) → a ≤ n → n < b → slice_get es n ≡ Some (entry.Stored lane form payload)
    → (1 ≤ lane) × (lane ≤ many))
    → EachEntry (IsOfLanes many) (log_part a b es)
part_lanes many a b es h = each_at (IsOfLanes many) (log_part a b es) (λ i e at. by i e (get_part a b i es e at))
  where
    by : (i : ℕ) (e : Entry) → (a + i < b) × (slice_get es (a + i) ≡ Some e) → IsOfLanes many e
    by i (entry.Stored lane form payload) k = h (a + i) lane form payload (omega arith) k.0 k.1
    by i entry.Void k = tt

-- ---- the log

module _ (log : List Entry) (a b number : ℕ) (h : HasShares number a b log) where
  -- the parts make the log
  parts : log_part 0 a log ++ (log_part a b log ++ log_part b (length log) log) ≡ log
  parts =
      let rest : log_part b (length log) log ≡ drop b log = take_rest log b in
      let mid : log_part a b log ++ drop b log ≡ drop a log =
      ap (λ (z : List Entry). log_part a b log ++ z) (ap (λ (z : ℕ). drop z log) (omega (h.first, arith)) ∙ sym (drop-drop (b - a) a log))
      ∙ take-append-drop (b - a) (drop a log) in
      ap (λ (z : List Entry). log_part 0 a log ++ (log_part a b log ++ z)) rest ∙ ap (λ (z : List Entry). log_part 0 a log ++ z) mid
      ∙ ap (λ (z : ℕ). take z log ++ drop a log) (omega arith) ∙ take-append-drop a log

  -- each record is of one of the lanes
  pub all_lanes : EachEntry (IsOfLanes 4) log
  all_lanes = subst (EachEntry (IsOfLanes 4)) parts
      (each_both (IsOfLanes 4) (log_part 0 a log) _ (each_weaker IsVoid (IsOfLanes 4) void_lanes (log_part 0 a log) h.before)
      (each_both (IsOfLanes 4) (log_part a b log) _ h.records.lanes
      (each_weaker IsVoid (IsOfLanes 4) void_lanes (log_part b (length log) log) h.after)))

  -- whose records are its share
  pub lane_rows : (n lane : ℕ) → 1 ≤ lane → lane ≤ 4 → contents_of_rows (rows_from lane n log)
      ≡ all_of Json (map sample_text (share number lane))
  lane_rows n lane some few =
      ap (λ (z : List Entry). contents_of_rows (rows_from lane n z)) (sym parts)
      ∙ contents_both lane n a (log_part 0 a log) (log_part a b log ++ log_part b (length log) log)
      ∙ ap (λ (z : List Content). z ++ contents_of_rows (rows_from lane a (log_part a b log ++ log_part b (length log) log)))
      (contents_void lane n (log_part 0 a log) h.before)
      ∙ contents_both lane a b (log_part a b log) (log_part b (length log) log)
      ∙ ap (λ (z : List Content). contents_of_rows (rows_from lane a (log_part a b log)) ++ z)
      (contents_void lane b (log_part b (length log) log) h.after)
      ∙ append-nil (contents_of_rows (rows_from lane a (log_part a b log))) ∙ h.records.rows lane some few

  -- a record lies before the last part
  stored_before : (n lane : ℕ) (form : Form) (payload : List ℕ) → slice_get log n ≡ Some (entry.Stored lane form payload) → n < b
  stored_before n lane form payload at = by (dec_lt n b)
    where
      by : Dec (n < b) → n < b
      by (yes less) = less
      by (no not_less) = absurd (part_get IsVoid b (length log) log h.after n (entry.Stored lane form payload) (omega arith)
          (slice_get_within log n (entry.Stored lane form payload) at) at)

  -- a lane's records that have the value
  lane_many : (x : SampleQuestion) (lane : ℕ) → 1 ≤ lane → lane ≤ 4
      → count_lane (evaluation x.definition) x.value lane 0 log
      ≡ count_by (λ i. has_value (evaluation x.definition Json (sample_text i)) x.value) (share number lane)
  lane_many x lane some few = ap (count_contents (evaluation x.definition) x.value) (lane_rows 0 lane some few)
      ∙ count_texts (evaluation x.definition) x.value sample_text Json (share number lane)

  -- so many are selected over a range that has every number before the last part
  pub selected_count : (x : SampleQuestion) (from to : ℕ) → ((n : ℕ) → n < b → n < length log → (from ≤ n) × (n < to))
      → length (select (map selectable log) (evaluation x.definition) x.value from to []) ≡ asked_count number x
  selected_count x from to covers =
      let eval = evaluation x.definition in
      let one = lane_many x 1 (omega arith) (omega arith) in
      let two = lane_many x 2 (omega arith) (omega arith) in
      let three = lane_many x 3 (omega arith) (omega arith) in
      let four = lane_many x 4 (omega arith) (omega arith) in
      let lanes = four_lanes eval x.value 0 log all_lanes in
      let shares = four_shares (λ i. has_value (eval Json (sample_text i)) x.value) (range_with_len 0 number) in
      selected_many eval x.value from to log (λ i lane form payload at. covers i (stored_before i lane form payload at)
      (slice_get_within log i (entry.Stored lane form payload) at))
      ∙ (let same : count_entries eval x.value log ≡ asked_count number x = omega arith in same)

  -- so the log is that of a sample
  pub sample_log : IsSampleLog number log
  sample_log = record {
    shares = λ lane some few. ap (λ (z : List Entry). contents_of_rows (rows_from lane 0 z)) (take_rest log 0) ∙ lane_rows 0 lane some few;
    lanes = λ n lane form payload at. each_get (IsOfLanes 4) log all_lanes n (entry.Stored lane form payload) at;
  }
