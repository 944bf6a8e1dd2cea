-- What reading below the base loads, one record, key entry and piece after another.
use Rattle.std.proofs.Common.{◌≡◌, ℕ, zero, suc, ◌+◌, ◌*◌, ◌<◌, ◌≤◌, List, [], ◌∷◌, ◌++◌, length, refl, sym}
use Rattle.std.proofs.Common.{subst, arith, Some, slice_get, take}
use Rattle.std.proofs.lemmas.Option.{same_Some}
use Rattle.fish_cold.specs.Carries.{IsPrior, IsPriorRecord}
use Rattle.fish_image.specs.Reached.{Reached}
use Rattle.fish_layout.specs.Body.{body_lines}
use Rattle.fish_layout.specs.declared.parts.BodyParts.{BodyParts}
use Rattle.fish_plan.specs.declared.pieces.Piece.{Piece}
use Rattle.fish_plan.specs.declared.pieces.Piece.TheVariants.{Full, Index}
use Rattle.fish_rule.proofs.laws.Lists.{among_left}
use Rattle.fish_rule.specs.Logs.{Learns}
use Rattle.fish_rule.specs.Views.{Among}
use Rattle.fish_rule.specs.declared.view.View.{View}
use Rattle.fish_scan.proofs.Descending.{entries_later}
use Rattle.fish_scan.proofs.Walks.{bucket_still}
use Rattle.fish_scan.specs.Below.{AreOlderAllowed, IsOlderAllowed}
use Rattle.fish_scan.specs.Indices.{bucket_of_value}
use Rattle.fish_scan.specs.OlderWork.{AreOlderEntries, AreOlderRecords, IsOlderEntry, IsOlderFullAllowed, IsOlderIndexAllowed}
use Rattle.fish_scan.specs.OlderWork.{IsWalkAllowed, older_words}
use Rattle.fish_value.specs.declared.row.Row.{Row}
use Rattle.fish_value.specs.declared.value.Value.{Value}

-- the words of records, with one more after
pub older_words_more : (ps : List BodyParts) (p : BodyParts) → older_words (ps ++ p ∷ []) ≡ older_words ps + body_lines p * 4
older_words_more [] p = omega arith
older_words_more (q ∷ ps) p = (let rest = older_words_more ps p in omega arith)

module _ {image : List ℕ} {count : ℕ} {end : Reached} (prior : IsPrior image count end) where
  -- a lower bound is one
  pub records_lower : (low from to : ℕ) (ps : List BodyParts) → low ≤ from → AreOlderRecords prior from to ps
      → AreOlderRecords prior low to ps
  records_lower low from to [] less h = omega arith
  records_lower low from to (p ∷ ps) less h = (h.0, h.1, records_lower low from p.number ps less h.2)

  -- one record more, below the others
  pub records_more : (low to : ℕ) (ps : List BodyParts) (p : BodyParts) → AreOlderRecords prior low to ps → p.number < low
      → IsPriorRecord prior p.number p → AreOlderRecords prior p.number to (ps ++ p ∷ [])
  records_more low to [] p h less is = (omega arith, is, omega arith)
  records_more low to (q ∷ ps) p h less is = (h.0, h.1, records_more low q.number ps p h.2 less is)

  -- one key entry more, below the others
  pub entries_more : (b first low high place next : ℕ) (places : List ℕ) → AreOlderEntries prior b first low high places
      → place < low → next ≤ place → IsOlderEntry prior b first place → AreOlderEntries prior b first next high (places ++ place ∷ [])
  entries_more b first low high place next [] h less more is = (omega arith, is, more)
  entries_more b first low high place next (q ∷ places) h less more is =
      (h.0, h.1, entries_more b first low q place next places h.2 less more is)

  pub entries_lower : (b first low next high : ℕ) (places : List ℕ) → next ≤ low → AreOlderEntries prior b first low high places
      → AreOlderEntries prior b first next high places
  entries_lower b first low next high [] less h = omega arith
  entries_lower b first low next high (q ∷ places) less h = (h.0, h.1, entries_lower b first low next q places less h.2)

  -- ---- full pieces

  -- no number
  pub older_full_none : (n : ℕ) → IsOlderFullAllowed prior n n 0
  older_full_none n = record { records = []; are = omega arith; few = omega arith }

  -- of two ranges that touch
  records_below : (from m n : ℕ) (ps : List BodyParts) → m ≤ n → AreOlderRecords prior from m ps → AreOlderRecords prior from n ps
  records_below from m n [] less h = omega arith
  records_below from m n (p ∷ ps) less h = ((let a = h.0 in omega arith), h.1, h.2)

  records_both : (from mid to : ℕ) (ps qs : List BodyParts) → AreOlderRecords prior mid to ps → AreOlderRecords prior from mid qs
      → AreOlderRecords prior from to (ps ++ qs)
  records_both from mid to [] qs h g = records_below from mid to qs h g
  records_both from mid to (p ∷ ps) qs h g = (h.0, h.1, records_both from mid p.number ps qs h.2 g)

  words_both : (ps qs : List BodyParts) → older_words (ps ++ qs) ≡ older_words ps + older_words qs
  words_both [] qs = omega arith
  words_both (p ∷ ps) qs = (let rest = words_both ps qs in omega arith)

  pub older_full_both : (from mid to a b : ℕ) → IsOlderFullAllowed prior mid to a → IsOlderFullAllowed prior from mid b
      → IsOlderFullAllowed prior from to (a + b)
  older_full_both from mid to a b h g =
      let words = words_both h.records g.records in
      let one = h.few in
      let two = g.few in
      record {
        records = h.records ++ g.records;
        are = records_both from mid to h.records g.records h.are g.are;
        few = omega arith;
      }

  -- one record
  pub older_full_one : (n : ℕ) (p : BodyParts) → p.number ≡ n → IsPriorRecord prior n p
      → IsOlderFullAllowed prior n (n + 1) (body_lines p * 4)
  older_full_one n p number is = record {
    records = p ∷ [];
    are = (omega arith, subst (λ (z : ℕ). IsPriorRecord prior z p) (sym number) is, omega arith);
    few = omega arith;
  }

  pub older_full_other : (n : ℕ) → IsOlderFullAllowed prior n (n + 1) 0
  older_full_other n = record { records = []; are = omega arith; few = omega arith }

  -- ---- by a chain

  -- down to a place these entries were passed, and these records loaded
  pub record IsDescended (b from to place top : ℕ) (before after new : List Row) (old now : ℕ) : Type 0 where
    pub added : after ≡ before ++ new
    pub high : ℕ
    pub entries : List ℕ
    pub linked : AreOlderEntries prior b from (place + 1) high entries
    pub records : List BodyParts
    pub are : AreOlderRecords prior top to records
    pub given : (p : BodyParts) → Among p records → (row : Row) × Among row new × (row.number ≡ p.number)
    pub few : now ≤ old + 38 * length entries + older_words records

  -- ---- pieces

  -- what a piece is allowed it is allowed later, with more rows
  pub older_allowed_later : (v u : View) (value : Value) (rows more : List Row) (piece : Piece) (walked most : ℕ) → Learns v u
      → IsOlderAllowed prior v value rows piece walked most → IsOlderAllowed prior u value (rows ++ more) piece walked most
  older_allowed_later v u value rows more (Full from to) walked most learns h = h
  older_allowed_later v u value rows more (Index id from to) walked most learns h =
      let still = bucket_still v u id value learns in (
        subst (λ (z : ℕ). IsWalkAllowed u z walked) still (record {
          top = h.0.top;
          entries = h.0.entries;
          linked = entries_later v u (bucket_of_value v id value) 0 0 h.0.top h.0.entries learns h.0.linked;
          few = h.0.few;
        }),
        subst (λ (z : ℕ). IsOlderIndexAllowed prior z (rows ++ more) from to most) still (record {
          top = h.1.top;
          entries = h.1.entries;
          linked = h.1.linked;
          records = h.1.records;
          are = h.1.are;
          given = λ p m. let t = h.1.given p m in (t.0, among_left t.0 rows more t.1, t.2);
          few = h.1.few;
        }),
      )

  pub all_older_later : (v u : View) (value : Value) (rows more : List Row) (pieces : List Piece) (walked most : ℕ) → Learns v u
      → AreOlderAllowed prior v value rows pieces walked most → AreOlderAllowed prior u value (rows ++ more) pieces walked most
  all_older_later v u value rows more [] walked most learns h = h
  all_older_later v u value rows more (p ∷ pieces) walked most learns (one, first, others, rest, is, sum_is, here, behind) = (
    one,
    first,
    others,
    rest,
    is,
    sum_is,
    older_allowed_later v u value rows more p one first learns here,
    all_older_later v u value rows more pieces others rest learns behind,
  )

  -- one piece more
  pub older_allowed_more : (v : View) (value : Value) (rows : List Row) (pieces : List Piece) (n : ℕ) (x : Piece) (a b c d : ℕ)
      → slice_get pieces n ≡ Some x → AreOlderAllowed prior v value rows (take n pieces) a b → IsOlderAllowed prior v value rows x c d
      → AreOlderAllowed prior v value rows (take (suc n) pieces) (a + c) (b + d)
  older_allowed_more v value rows [] n x a b c d there h g = absurd cc
  older_allowed_more v value rows (p ∷ pieces) zero x a b c d there none g =
      let one = none.0 in
      let two = none.1 in
      let here = subst (λ (z : Piece). IsOlderAllowed prior v value rows z c d) (sym (same_Some p x there)) g in
      (c, d, 0, 0, omega arith, omega arith, here, (refl, refl))
  older_allowed_more v value rows (p ∷ pieces) (suc n) x a b c d there (one, first, others, rest, is, sum_is, here, behind) g = (
    one,
    first,
    others + c,
    rest + d,
    omega arith,
    omega arith,
    here,
    older_allowed_more v value rows pieces n x others rest c d there behind g,
  )
