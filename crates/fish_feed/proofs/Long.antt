-- Files that are too long, and that each file has parts.
use Rattle.std.proofs.Common.{◌≡◌, ◌<◌, ◌+◌, inl, inr, ℕ, zero, suc, List, [], ◌∷◌, ◌++◌, Bool, true, false}
use Rattle.std.proofs.Common.{length, length-append, append_assoc, append-nil, take, drop, refl, sym, ap, ◌∙◌, subst, arith}
use Rattle.std.proofs.lemmas.Bool.{eqb-true}
use Rattle.std.proofs.lemmas.List.{get_or-take, length-take, take-append-drop}
use Rattle.std.specs.Prelude.{nat_eq}
use Rattle.fish_feed.proofs.Parts.{after_push, parts_rest, parts_then}
use Rattle.fish_feed.specs.OpenFiles.{IsStuck}
use Rattle.fish_feed.specs.Parts.{AreParts, EndsLine, HasNoMoreParts, HasNoEnd, IsFileRead, IsTooLong, begin_after, longest_in_parts}
use Rattle.fish_feed.specs.Parts.{longest_csv_read}
use Rattle.fish_lanes.specs.declared.work.Work.{Work}
use Rattle.fish_lanes.specs.declared.work.Work.TheVariants as work
use Rattle.fish_lines.specs.declared.resuming.Begin.{Begin}
use Rattle.fish_lines.specs.declared.resuming.Begin.TheVariants.{After}
use Rattle.fish_value.specs.Limits.{longest_file}
use Rattle.fish_value.specs.declared.field.Form.{Form}
use Rattle.fish_value.specs.declared.field.Form.TheVariants.{Csv, Json}

-- where no whole line may be given, and more is left than may be stored at once, the file is too long, and has no more
-- parts
pub too_long : (form : Form) (before rest : List ℕ) (room : ℕ) → length before + room ≡ longest_in_parts
    → IsStuck form room (take longest_csv_read rest) → longest_file < length rest
    → IsTooLong form (before ++ rest) × HasNoMoreParts form (before ++ rest) rest
too_long Csv before rest room is stuck long = (omega (length-append before rest, long, arith), tt)
too_long Json before rest room is (inl other) long = absurd (other refl)
too_long Json before rest room is (inr (inl none)) long = (
  inr (record {
    front = before;
    line = take longest_csv_read rest;
    after = drop longest_csv_read rest;
    is = ap (λ (z : List ℕ). before ++ z) (sym (take-append-drop longest_csv_read rest));
    long = omega (length-take longest_csv_read rest, long, arith);
    none = none;
  }),
  inl none,
)
too_long Json before rest room is (inr (inr over)) long = (
  inl (omega (length-append before rest, length-take longest_csv_read rest, is, over, arith)),
  inr (omega (length-append before rest, length-take longest_csv_read rest, is, over, arith)),
)

-- the first of bytes without an LF have none
none_front : (n : ℕ) (b : List ℕ) → HasNoEnd b → HasNoEnd (take n b)
none_front n b none = λ k less is.
    let len = length-take n b in
    none k (omega (len, less, arith)) (sym (get_or-take n b k 0 (omega (len, less, arith))) ∙ is)

-- ---- the whole lines of bytes

-- bytes without an LF, or some that end with a line and others that have none
data Cut (b : List ℕ) : Type 0 where
  whole : HasNoEnd b → Cut b
  after : (part rest : List ℕ) → b ≡ part ++ rest → EndsLine part → HasNoEnd rest → Cut b

cut_at : (c : ℕ) (b : List ℕ) (end : Bool) → nat_eq c 10 ≡ end → HasNoEnd b → Cut (c ∷ b)
cut_at c b true is none = after (c ∷ []) b refl ([], ap (λ (z : ℕ). z ∷ []) (eqb-true c 10 is)) none
cut_at c b false is none = whole (by c is)
  where
    by : (c : ℕ) → nat_eq c 10 ≡ false → HasNoEnd (c ∷ b)
    by c other zero less same = absurd (let bad : nat_eq 10 10 ≡ false = subst (λ (z : ℕ). nat_eq z 10 ≡ false) same other in cc)
    by c other (suc k) less same = none k (omega (less, arith)) same

cut_next : (c : ℕ) (b : List ℕ) → Cut b → Cut (c ∷ b)
cut_next c b (whole none) = cut_at c b (nat_eq c 10) refl none
cut_next c b (after part rest is line none) =
    after (c ∷ part) rest (ap (λ (z : List ℕ). c ∷ z) is) (c ∷ line.0, ap (λ (z : List ℕ). c ∷ z) line.1) none

cut : (b : List ℕ) → Cut b
cut [] = whole (λ k less is. absurd (omega (less, arith)))
cut (c ∷ b) = cut_next c b (cut b)

-- ---- each file has parts

module _ (form : Form) (begin : Begin) (name before : List ℕ) (given : List Work) (room : ℕ)
    (are : AreParts form begin name before given []) (room_is : length before + room ≡ longest_in_parts) where
  -- all that is left at once, where no whole line of it may be given
  read_stuck : (rest : List ℕ) → IsStuck form room (take longest_csv_read rest)
      → IsFileRead form begin name (before ++ rest)
      (given ++ work.Ingest form (begin_after begin given) name (take longest_csv_read rest) ∷ [])
  read_stuck rest stuck = parts_rest form begin name before given rest (take longest_csv_read rest)
      (work.Ingest form (begin_after begin given) name (take longest_csv_read rest)) are refl refl
      (too_long form before rest room room_is stuck)

-- some works read what is left of a file
pub read_all : (form : Form) (begin : Begin) (name before : List ℕ) (given : List Work) (room : ℕ)
    → AreParts form begin name before given [] → length before + room ≡ longest_in_parts → (rest : List ℕ)
    → (more : List Work) × IsFileRead form begin name (before ++ rest) (given ++ more)
read_all Csv begin name before given room are room_is rest = (
  work.Ingest Csv (begin_after begin given) name (take longest_csv_read rest) ∷ [],
  read_stuck Csv begin name before given room are room_is rest (inl (λ is. absurd cc)),
)
read_all Json begin name before given room are room_is rest = by rest (cut rest)
  where
    by : (rest : List ℕ) → Cut rest → (more : List Work) × IsFileRead Json begin name (before ++ rest) (given ++ more)
    by rest (whole none) = (
      work.Ingest Json (begin_after begin given) name (take longest_csv_read rest) ∷ [],
      read_stuck Json begin name before given room are room_is rest (inr (inl (none_front longest_csv_read rest none))),
    )
    by rest (after part then is line none) =
        let one = work.Ingest Json (begin_after begin given) name part in
        let two = work.Ingest Json After name (take longest_csv_read then) in (
          one ∷ two ∷ [],
          subst (λ (z : List ℕ × List Work). IsFileRead Json begin name z.0 z.1)
              (λ i. (
                (append_assoc before part then ∙ ap (λ (z : List ℕ). before ++ z) (sym is)) i,
                append_assoc given (one ∷ []) (two ∷ []) i,
              ))
              (parts_rest Json begin name (before ++ part) (given ++ one ∷ []) then (take longest_csv_read then) two
              (parts_then Json begin name before given part one are refl line refl) refl
              (ap (λ (z : Begin). work.Ingest Json z name (take longest_csv_read then)) (sym (after_push begin given one)))
              (λ long. (
                inr (record {
                  front = before ++ part;
                  line = then;
                  after = [];
                  is = ap (λ (z : List ℕ). (before ++ part) ++ z) (sym (append-nil then));
                  long = long;
                  none = none;
                }),
                inl (none_front longest_csv_read then none),
              ))),
        )
