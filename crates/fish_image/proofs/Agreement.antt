-- Regions that agree: there is one way to read words, and what comes after them changes nothing.
use Rattle.std.proofs.Common.{◌≡◌, ℕ, zero, suc, ◌+◌, ◌-◌, ◌*◌, ◌<◌, ◌≤◌, ◌^◌, List, ◌++◌, inl, inr}
use Rattle.std.proofs.Common.{length, take, drop, replicate, sym, ap, subst, ◌∙◌, arith, length-drop}
use Rattle.std.specs.Prelude.{slice_index}
use Rattle.std.proofs.lemmas.Bool.{cases_lt}
use Rattle.std.proofs.lemmas.List.{drop-append-le, get_or-take, get_or_append_left, length-replicate, length-take, take-append-le}
use Rattle.fish_catalog.specs.declared.commit.Commit.{Commit}
use Rattle.fish_catalog.specs.declared.entry.Entry.{Entry}
use Rattle.fish_layout.proofs.Once.{body_once}
use Rattle.fish_layout.proofs.Outlines.{body_length}
use Rattle.fish_layout.proofs.Sizes.{some_lines}
use Rattle.fish_layout.specs.Header.{field, lines_of}
use Rattle.fish_image.specs.Log.{Agrees, Follows, FollowsAt, FollowsIn, IsDamaged, StandsFor, behind_record, region, region_lines}
use Rattle.fish_image.specs.Reached.{Reached}
use Rattle.fish_image.proofs.Regions.{no_void}

-- a header says fewer than 65,536 lines
pub lines_small : (w : ℕ) → lines_of w < 2 ^ 16
unfolding lines_of field
lines_small w = omega arith

-- ---- one region

-- one region brings the reading to one place
pub follows_once : (c : Commit) (s : Reached) (lines : ℕ) (r : List ℕ) (n m : Reached) → lines < 2 ^ 16
    → FollowsIn c s lines r n → FollowsIn c s lines r m → n ≡ m
follows_once c s lines r n m small (inl v) (inl w) = v.1 ∙ sym w.1
follows_once c s lines r n m small (inl v) (inr w) = absurd (no_void w.0 r lines w.1.body v.0.words small)
follows_once c s lines r n m small (inr v) (inl w) = absurd (no_void v.0 r lines v.1.body w.0.words small)
follows_once c s lines r n m small (inr v) (inr w) =
    v.2 ∙ ap (behind_record c s lines) (body_once v.1.body w.1.body (v.1.number ∙ sym w.1.number)) ∙ sym w.2

-- what a region takes, and where it brings the reading
pub record Goes (s : Reached) (lines : ℕ) (r : List ℕ) (n : Reached) : Type 0 where
  pub some : 1 ≤ lines
  pub whole : length r ≡ 4 * lines
  pub line : n.line ≡ s.line + lines
  pub number : n.number ≡ s.number + 1

pub goes : (c : Commit) (s : Reached) (lines : ℕ) (r : List ℕ) (n : Reached) → FollowsIn c s lines r n → Goes s lines r n
goes c s lines r n (inl v) =
    let some = v.0.some in
    let zeros : length (replicate {A = ℕ} (4 * lines - 1) 0) ≡ 4 * lines - 1 = length-replicate (4 * lines - 1) 0 in
    let size : length r ≡ suc (length (replicate {A = ℕ} (4 * lines - 1) 0)) = ap length v.0.words in
    record {
      some = some;
      whole = omega arith;
      line = ap (λ (z : Reached). z.line) v.1;
      number = ap (λ (z : Reached). z.number) v.1;
    }
goes c s lines r n (inr v) =
    let size = v.1.size in
    let full = body_length v.1.body in
    let some = some_lines v.0 in
    record {
      some = omega arith;
      whole = size;
      line = ap (λ (z : Reached). z.line) v.2;
      number = ap (λ (z : Reached). z.number) v.2;
    }

-- the region at the front stands within what is left
pub front_whole : (c : Commit) (s : Reached) (rest : List ℕ) (n : Reached) → FollowsAt c s rest n → 4 * region_lines rest ≤ length rest
front_whole c s rest n h =
    let g = goes c s (region_lines rest) (region rest) n h in
    let whole = g.whole in
    let size = length-take (4 * region_lines rest) rest in
    omega arith

-- what comes after changes nothing
pub at_more : (c : Commit) (s : Reached) (rest more : List ℕ) (n : Reached) → FollowsAt c s rest n → FollowsAt c s (rest ++ more) n
at_more c s rest more n h =
    let g = goes c s (region_lines rest) (region rest) n h in
    let some = g.some in
    let whole = front_whole c s rest n h in
    let lines : region_lines rest ≡ region_lines (rest ++ more) =
    ap lines_of (sym (get_or_append_left rest more 0 0 (omega arith))) in
    let words : region rest ≡ region (rest ++ more) =
    sym (take-append-le (4 * region_lines rest) rest more whole) ∙ ap (λ (k : ℕ). take (4 * k) (rest ++ more)) lines in
    subst (λ (k : ℕ). FollowsIn c s k (region (rest ++ more)) n) lines
    (subst (λ (r : List ℕ). FollowsIn c s (region_lines rest) r n) words h)

-- nor does it for the words from the start on
pub follows_more : (c : Commit) (w more : List ℕ) (s n : Reached) → Follows c w s n → Follows c (w ++ more) s n
follows_more c w more s n h =
    let rest : List ℕ = drop (4 * s.line) w in
    let g = goes c s (region_lines rest) (region rest) n h in
    let some = g.some in
    let whole = front_whole c s rest n h in
    let size = length-drop (4 * s.line) w in
    subst (λ (r : List ℕ). FollowsAt c s r n) (sym (drop-append-le (4 * s.line) w more (omega arith))) (at_more c s rest more n h)

-- ---- all regions

-- the number is how many agree
pub agrees_number : (c : Commit) (w : List ℕ) (k : ℕ) (s : Reached) → Agrees c w k s → s.number ≡ k
agrees_number c w zero s h = ap (λ (z : Reached). z.number) h
agrees_number c w (suc k) s h =
    let g = goes c h.0 _ _ s h.2 in
    let up = g.number in
    let before = agrees_number c w k h.0 h.1 in
    omega arith

-- words are read in one way
pub agrees_once : (c : Commit) (w : List ℕ) (k : ℕ) (s t : Reached) → Agrees c w k s → Agrees c w k t → s ≡ t
agrees_once c w zero s t h g = h ∙ sym g
agrees_once c w (suc k) s t h g =
    let same = agrees_once c w k g.0 h.0 g.1 h.1 in
    follows_once c h.0 _ _ s t (lines_small (slice_index (drop (4 * h.0.line) w) 0)) h.2
    (subst (λ (z : Reached). Follows c w z t) same g.2)

-- what comes after changes nothing
pub agrees_more : (c : Commit) (w more : List ℕ) (k : ℕ) (s : Reached) → Agrees c w k s → Agrees c (w ++ more) k s
agrees_more c w more zero s h = h
agrees_more c w more (suc k) s h = (h.0, agrees_more c w more k h.0 h.1, follows_more c w more h.0 s h.2)

-- where more agree, the first ones do, and one after them
pub agrees_first : (c : Commit) (w : List ℕ) (k n : ℕ) (s : Reached) → k < n → Agrees c w n s
    → (t : Reached) × Agrees c w k t × ((u : Reached) × Follows c w t u)
agrees_first c w k zero s less h = absurd (omega arith)
agrees_first c w k (suc n) s less h =
    elim (cases_lt k n) [
      | inl before ↦ agrees_first c w k n h.0 before h.1
      | inr here ↦ (h.0, subst (λ (m : ℕ). Agrees c w m h.0) (let same : n ≡ k = omega arith in same) h.1, (s, h.2))
    ]

-- what was read stands within the words
pub agrees_within : (c : Commit) (w : List ℕ) (k : ℕ) (s : Reached) → Agrees c w k s → 4 * s.line ≤ length w
agrees_within c w zero s h = (let none = ap (λ (z : Reached). z.line) h in omega arith)
agrees_within c w (suc k) s h =
    let g = goes c h.0 _ _ s h.2 in
    let whole = front_whole c h.0 (drop (4 * h.0.line) w) s h.2 in
    let size = length-drop (4 * h.0.line) w in
    let some = g.some in
    let line = g.line in
    omega arith

-- words of which exactly so many entries agree stand for no log
pub no_log : (c : Commit) (w : List ℕ) (k : ℕ) (log : List Entry) → IsDamaged c w k → StandsFor c w log → ⊥
no_log c w k log d h =
    elim (cases_lt k c.count) [
      | inl less ↦
          let t = agrees_first c w k c.count h.end less h.agrees in
          let same = agrees_once c w k t.0 d.end t.1 d.agrees in
          d.last less t.2.0 (subst (λ (z : Reached). Follows c w z t.2.0) same t.2.1)
      | inr more ↦
          let few = d.few in
          let all : k ≡ c.count = omega arith in
          let same = agrees_once c w c.count d.end h.end (subst (λ (n : ℕ). Agrees c w n d.end) all d.agrees) h.agrees in
          d.lines all (ap (λ (z : Reached). z.line) same ∙ h.lines)
    ]

-- after a number of entries that agree another one agrees, where more of them do
stops_first : (c : Commit) (w : List ℕ) (k n : ℕ) → IsDamaged c w k → IsDamaged c w n → k < n → ⊥
stops_first c w k n d e less =
    let t = agrees_first c w k n e.end less e.agrees in
    let few = e.few in
    let same = agrees_once c w k t.0 d.end t.1 d.agrees in
    d.last (omega arith) t.2.0 (subst (λ (z : Reached). Follows c w z t.2.0) same t.2.1)

-- words are damaged after one number of entries
pub one_damage : (c : Commit) (w : List ℕ) (k n : ℕ) → IsDamaged c w k → IsDamaged c w n → k ≡ n
one_damage c w k n d e =
    elim (cases_lt k n) [
      | inl less ↦ absurd (stops_first c w k n d e less)
      | inr more ↦ elim (cases_lt n k) [
        | inl less ↦ absurd (stops_first c w n k e d less)
        | inr same ↦ omega arith
      ]
    ]

-- ---- steps

-- a region is not at the end of the words
pub not_empty : (c : Commit) (s : Reached) (rest : List ℕ) (n : Reached) → FollowsAt c s rest n → length rest ≡ 0 → ⊥
not_empty c s rest n h none =
    let g = goes c s (region_lines rest) (region rest) n h in
    let some = g.some in
    let whole = front_whole c s rest n h in
    omega arith

-- it has lines, and ends within those that were committed
pub within_lines : (c : Commit) (s : Reached) (lines : ℕ) (r : List ℕ) (n : Reached) → FollowsIn c s lines r n
    → (1 ≤ lines) × (s.line + lines ≤ c.lines)
within_lines c s lines r n (inl v) = (v.0.some, v.0.within)
within_lines c s lines r n (inr v) = ((goes c s lines r n (inr v)).some, v.1.kept.within)

-- the header says the same with more words after
pub same_lines : (rest more : List ℕ) → 0 < length rest → region_lines (rest ++ more) ≡ region_lines rest
same_lines rest more some = ap lines_of (get_or_append_left rest more 0 0 some)

-- a region that stands there with more words after stands there, if they are enough
pub at_less : (c : Commit) (s : Reached) (rest more : List ℕ) (n : Reached) → 0 < length rest → 4 * region_lines rest ≤ length rest
    → FollowsAt c s (rest ++ more) n → FollowsAt c s rest n
at_less c s rest more n some whole h =
    let lines = same_lines rest more some in
    let words : region (rest ++ more) ≡ region rest =
    ap (λ (k : ℕ). take (4 * k) (rest ++ more)) lines ∙ take-append-le (4 * region_lines rest) rest more whole in
    subst (λ (k : ℕ). FollowsIn c s k (region rest) n) lines
    (subst (λ (r : List ℕ). FollowsIn c s (region_lines (rest ++ more)) r n) words h)

-- the region as it was cut out
module _ (c : Commit) (s : Reached) (rest : List ℕ) (words : ℕ) (is : words ≡ 4 * region_lines rest) (some : 0 < words) (n : Reached) where
  -- its header is the first word
  cut_lines : lines_of (slice_index (take words rest) 0) ≡ region_lines rest
  cut_lines = ap lines_of (get_or-take words rest 0 0 some)

  cut_words : take words rest ≡ region rest
  cut_words = ap (λ (k : ℕ). take k rest) is

  -- one way
  pub cut_out : FollowsIn c s (lines_of (slice_index (take words rest) 0)) (take words rest) n → FollowsAt c s rest n
  cut_out h =
      subst (λ (r : List ℕ). FollowsIn c s (region_lines rest) r n) cut_words
      (subst (λ (k : ℕ). FollowsIn c s k (take words rest) n) cut_lines h)

  -- and the other
  pub cut_in : FollowsAt c s rest n → FollowsIn c s (lines_of (slice_index (take words rest) 0)) (take words rest) n
  cut_in h =
      subst (λ (k : ℕ). FollowsIn c s k (take words rest) n) (sym cut_lines)
      (subst (λ (r : List ℕ). FollowsIn c s (region_lines rest) r n) (sym cut_words) h)
