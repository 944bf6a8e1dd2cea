-- Which records were parsed, one piece after the other.
use Rattle.std.proofs.Common.{◌≡◌, ◌≢◌, ℕ, ◌+◌, ◌<◌, ◌≤◌, zero, suc, List, [], ◌∷◌, ◌++◌, refl, sym, ap, ◌∙◌, subst}
use Rattle.std.proofs.Common.{⊎_elim, inl, inr, ◌⊎◌, arith, Ok, Err, Result, Some, slice_get, take, length-append}
use Rattle.std.specs.Prelude.{OnOk}
use Rattle.std.proofs.Math.Decide.{dec_lt}
use Rattle.std.proofs.lemmas.Option.{same_Some}
use Rattle.fish_catalog.specs.declared.entry.Entry.{Entry}
use Rattle.fish_catalog.specs.declared.entry.Entry.TheVariants as entry
use Rattle.fish_lang.specs.Definition.{Definition}
use Rattle.fish_plan.specs.declared.pieces.Piece.{Piece}
use Rattle.fish_plan.specs.declared.pieces.Piece.TheVariants.{Full, Index}
use Rattle.fish_rule.proofs.laws.Learning.{learns_both}
use Rattle.fish_rule.proofs.laws.Lists.{among_either, among_left, among_right}
use Rattle.fish_rule.specs.ChainFacts.{Always}
use Rattle.fish_rule.specs.Logs.{Learns, KnowsAs}
use Rattle.fish_rule.specs.Regions.{code}
use Rattle.fish_rule.specs.Table.{IsOfMoment}
use Rattle.fish_rule.specs.Views.{Among}
use Rattle.fish_rule.specs.World.{high}
use Rattle.fish_rule.specs.declared.view.Found.{Found}
use Rattle.fish_rule.specs.declared.view.Kind.TheVariants.{Stored, Void}
use Rattle.fish_rule.specs.declared.view.View.{View}
use Rattle.fish_scan.proofs.Loading.{records_both, records_later}
use Rattle.fish_scan.proofs.Reaching.{found_code, found_still}
use Rattle.fish_scan.proofs.Telling.{stored_told}
use Rattle.fish_scan.specs.Parses.{HasParsed, IsInFull}
use Rattle.fish_scan.specs.within.Parses.{HasParsedPiece}
use Rattle.fish_scan.specs.within.Pieces.{IsReadable}
use Rattle.fish_scan.specs.Reading.{parses_of}
use Rattle.fish_scan.specs.declared.reach.Reach.{Reach}
use Rattle.fish_walk.specs.Looks.{HasFound, IsLookAt}
use Rattle.fish_walk.specs.declared.outcome.Look.{Look}
use Rattle.fish_walk.specs.declared.outcome.Look.TheVariants as look

-- ---- full pieces

-- a number of one full piece lies between its ends
in_one : (from to n : ℕ) → IsInFull (Full from to ∷ []) n → (from ≤ n) × (n < to)
in_one from to n h = by h.from h.to h.among h.above h.below
  where
    by : (a b : ℕ) → Among (Full a b) (Full from to ∷ []) → a ≤ n → n < b → (from ≤ n) × (n < to)
    by a b (inl e) above below =
        let first : from ≡ a = cc in
        let last : to ≡ b = cc in
        (omega arith, omega arith)
    by a b (inr none) above below = elim none [ ]

-- and what lies between them is one
one_in : (from to n : ℕ) → from ≤ n → n < to → IsInFull (Full from to ∷ []) n
one_in from to n above below = record { from = from; to = to; among = inl refl; above = above; below = below }

-- a piece by an index has none
index_none : (id from to n : ℕ) → IsInFull (Index id from to ∷ []) n → ⊥
index_none id from to n h = by h.from h.to h.among
  where
    by : (a b : ℕ) → Among (Full a b) (Index id from to ∷ []) → ⊥
    by a b (inl e) = cc
    by a b (inr none) = elim none [ ]

-- those of more pieces are those of each
full_left : (ps qs : List Piece) (n : ℕ) → IsInFull ps n → IsInFull (ps ++ qs) n
full_left ps qs n h = record {
  from = h.from;
  to = h.to;
  among = among_left (Full h.from h.to) ps qs h.among;
  above = h.above;
  below = h.below;
}

full_right : (ps qs : List Piece) (n : ℕ) → IsInFull qs n → IsInFull (ps ++ qs) n
full_right ps qs n h = record {
  from = h.from;
  to = h.to;
  among = among_right (Full h.from h.to) ps qs h.among;
  above = h.above;
  below = h.below;
}

full_either : (ps qs : List Piece) (n : ℕ) → IsInFull (ps ++ qs) n → IsInFull ps n ⊎ IsInFull qs n
full_either ps qs n h = ⊎_elim
    (λ (a : Among (Full h.from h.to) ps).
    inl (record { from = h.from; to = h.to; among = a; above = h.above; below = h.below }))
    (λ (a : Among (Full h.from h.to) qs).
    inr (record { from = h.from; to = h.to; among = a; above = h.above; below = h.below }))
    (among_either (Full h.from h.to) ps qs h.among)

-- the pieces up to a place, and the one there
pub take_one : {A : Type 0} (xs : List A) (n : ℕ) (x : A) → slice_get xs n ≡ Some x → take (suc n) xs ≡ take n xs ++ x ∷ []
take_one [] n x there = absurd cc
take_one (y ∷ xs) zero x there = ap (λ z. z ∷ []) (same_Some y x there)
take_one (y ∷ xs) (suc n) x there = ap (λ z. y ∷ z) (take_one xs n x there)

-- ---- records that were parsed

-- none, where the pieces hold no number that has a record
pub parsed_none : (v : View) (opens : List ℕ) (pieces : List Piece) (from to old : ℕ) → from ≤ to
    → ((n : ℕ) → IsInFull pieces n → ¬ Among n opens → Always v (λ k w. high (w.dir n) ≢ code Stored))
    → HasParsed v opens pieces from to old old
parsed_none v opens pieces from to old less none = record {
  records = [];
  are = record {
    are = less;
    inside = λ f m. elim m [ ];
    closed = λ f m. elim m [ ];
    all = λ n inside closed x more w rule seat at stored. absurd (none n inside closed x more w rule seat at stored);
  };
  counted = omega arith;
}

-- no number
pub parsed_empty : (v : View) (opens : List ℕ) (n old : ℕ) → HasParsed v opens (Full n n ∷ []) n n old old
parsed_empty v opens n old = parsed_none v opens (Full n n ∷ []) n n old (omega arith)
    (λ m inside closed. let t = in_one n n m inside in let above = t.0 in let below = t.1 in absurd (omega arith))

-- no piece
pub parsed_start : (v : View) (opens : List ℕ) (n old : ℕ) → HasParsed v opens [] n n old old
parsed_start v opens n old = parsed_none v opens [] n n old (omega arith) (λ m inside closed. elim inside.among [ ])

-- a piece by an index
pub parsed_index : {A E : Type 0} (v : View) (opens : List ℕ) (id from to old : ℕ) (r : Result A E) → from ≤ to
    → OnOk r (HasParsed v opens (Index id from to ∷ []) from to old old)
parsed_index v opens id from to old (Ok x) less =
    parsed_none v opens (Index id from to ∷ []) from to old less (λ n inside closed. absurd (index_none id from to n inside))
parsed_index v opens id from to old (Err e) less = tt

-- so of a piece that can be read
pub parsed_indexed : {A E : Type 0} (v w : View) (def : Definition) (reach : Reach) (piece : Piece) (id from to old : ℕ)
    (r : Result A E) → piece ≡ Index id from to → IsReadable w def reach piece → OnOk r (HasParsedPiece v reach.opens piece old old)
parsed_indexed v w def reach piece id from to old r is h =
    subst (λ (z : Piece). OnOk r (HasParsedPiece v reach.opens z old old)) (sym is)
    (parsed_index v reach.opens id from to old r (subst (IsReadable w def reach) is h).0.some)

-- those of one list of pieces, and then those of another one below
module _ (v u : View) (opens : List ℕ) (ps qs rs : List Piece) (learns : Learns v u)
    (left : (n : ℕ) → IsInFull ps n → IsInFull rs n) (right : (n : ℕ) → IsInFull qs n → IsInFull rs n)
    (either : (n : ℕ) → IsInFull rs n → IsInFull ps n ⊎ IsInFull qs n) where
  parsed_both : (from mid to old late new : ℕ) → HasParsed v opens ps mid to old late → HasParsed u opens qs from mid late new
      → HasParsed u opens rs from to old new
  parsed_both from mid to old late new h g =
      let longer = length-append h.records g.records in
      let one = h.counted in
      let two = g.counted in
      record {
        records = h.records ++ g.records;
        are = record {
          are = records_both u from mid to h.records g.records (records_later v u mid to h.records learns h.are.are) g.are.are;
          inside = λ f m. ⊎_elim (λ (a : Among f h.records). left f.number (h.are.inside f a))
              (λ (a : Among f g.records). right f.number (g.are.inside f a)) (among_either f h.records g.records m);
          closed = λ f m. ⊎_elim (λ (a : Among f h.records). h.are.closed f a) (λ (a : Among f g.records). g.are.closed f a)
              (among_either f h.records g.records m);
          all = λ n inside closed. ⊎_elim (λ (a : IsInFull ps n). from_left n a closed)
              (λ (a : IsInFull qs n). from_right n a closed) (either n inside);
        };
        counted = omega arith;
      }
    where
      from_left : (n : ℕ) → IsInFull ps n → ¬ Among n opens → Always u (λ k w. high (w.dir n) ≡ code Stored
          → (f : Found) × Among f (h.records ++ g.records) × (f.number ≡ n))
      from_left n a closed x more w rule seat at stored =
          let t = h.are.all n a closed x (learns_both v u x learns more) w rule seat at stored in
          (t.0, among_left t.0 h.records g.records t.1, t.2)

      from_right : (n : ℕ) → IsInFull qs n → ¬ Among n opens → Always u (λ k w. high (w.dir n) ≡ code Stored
          → (f : Found) × Among f (h.records ++ g.records) × (f.number ≡ n))
      from_right n a closed x more w rule seat at stored =
          let t = g.are.all n a closed x more w rule seat at stored in
          (t.0, among_right t.0 h.records g.records t.1, t.2)

-- the numbers of a full piece from one on, and those below
pub parsed_down : (v u : View) (opens : List ℕ) (from mid to old late new : ℕ) → from ≤ mid → mid ≤ to → Learns v u
    → HasParsed v opens (Full mid to ∷ []) mid to old late → HasParsed u opens (Full from mid ∷ []) from mid late new
    → HasParsed u opens (Full from to ∷ []) from to old new
parsed_down v u opens from mid to old late new less more learns =
    parsed_both v u opens (Full mid to ∷ []) (Full from mid ∷ []) (Full from to ∷ []) learns
    (λ n h. let t = in_one mid to n h in let above = t.0 in one_in from to n (omega arith) t.1)
    (λ n h. let t = in_one from mid n h in let below = t.1 in one_in from to n t.0 (omega arith))
    (λ n h. split n (in_one from to n h) (dec_lt n mid)) from mid to old late new
  where
    split : (n : ℕ) → (from ≤ n) × (n < to) → Dec (n < mid) → IsInFull (Full mid to ∷ []) n ⊎ IsInFull (Full from mid ∷ []) n
    split n t (yes below) = inr (one_in from mid n t.0 below)
    split n t (no above) = inl (one_in mid to n (omega arith) t.1)

-- the pieces up to a place, and the one there
pub parsed_more : (v u : View) (opens : List ℕ) (pieces : List Piece) (place : ℕ) (x : Piece) (from mid to old late new : ℕ)
    → Learns v u → slice_get pieces place ≡ Some x → HasParsed v opens (take place pieces) mid to old late
    → HasParsed u opens (x ∷ []) from mid late new → HasParsed u opens (take (suc place) pieces) from to old new
parsed_more v u opens pieces place x from mid to old late new learns there h g =
    subst (λ (z : List Piece). HasParsed u opens z from to old new) (sym (take_one pieces place x there))
    (parsed_both v u opens (take place pieces) (x ∷ []) (take place pieces ++ x ∷ []) learns
    (full_left (take place pieces) (x ∷ [])) (full_right (take place pieces) (x ∷ [])) (full_either (take place pieces) (x ∷ []))
    from mid to old late new h g)

-- ---- one number

-- what a look told of a number that is no record
none_stored : (v : View) (n : ℕ) (r : Look) (opens : List ℕ) → IsLookAt v n r → r ≢ look.Stored → r ≢ look.Overflow
    → (r ≡ look.Unfinished → Among n opens) → ¬ Among n opens → Always v (λ k w. high (w.dir n) ≢ code Stored)
none_stored v n look.Stored opens seen other unmarked unfinished closed = absurd (other refl)
none_stored v n look.Overflow opens seen other unmarked unfinished closed = absurd (unmarked refl)
none_stored v n look.Unfinished opens seen other unmarked unfinished closed = absurd (closed (unfinished refl))
none_stored v n look.Void opens seen other unmarked unfinished closed =
    λ x more w rule seat at stored. let void = found_code v n Void seen x more w rule seat at in absurd (omega arith)

-- nothing is parsed there
pub parsed_other : (v : View) (n : ℕ) (r : Look) (opens : List ℕ) (old : ℕ) → IsLookAt v n r → r ≢ look.Stored
    → r ≢ look.Overflow → (r ≡ look.Unfinished → Among n opens) → HasParsed v opens (Full n (n + 1) ∷ []) n (n + 1) old old
parsed_other v n r opens old seen other unmarked unfinished =
    parsed_none v opens (Full n (n + 1) ∷ []) n (n + 1) old (omega arith) (λ m inside closed.
    let t = in_one n (n + 1) m inside in
    let above = t.0 in
    let below = t.1 in
    let same : n ≡ m = omega arith in
    subst (λ (z : ℕ). Always v (λ k w. high (w.dir z) ≢ code Stored)) same
    (none_stored v n r opens seen other unmarked unfinished (subst (λ (z : ℕ). ¬ Among z opens) (sym same) closed)))

-- the record there is
record_parsed : (u : View) (n : ℕ) (opens : List ℕ) (f : Found) (old : ℕ) → Among f u.learned.found → f.number ≡ n
    → f.kind ≡ Stored → ¬ Among n opens → HasParsed u opens (Full n (n + 1) ∷ []) n (n + 1) old (old + 1)
record_parsed u n opens f old among is kind closed = record {
  records = f ∷ [];
  are = record {
    are = (omega arith, among, kind, omega arith);
    inside = λ g m. elim m [
      | inl e ↦ (let same : f.number ≡ g.number = ap (λ (z : Found). z.number) e in
          one_in n (n + 1) g.number (omega arith) (omega arith))
      | inr none ↦ elim none [ ]
    ];
    closed = λ g m. elim m [
      | inl e ↦ subst (λ (z : ℕ). ¬ Among z opens) (sym is ∙ ap (λ (z : Found). z.number) e) closed
      | inr none ↦ elim none [ ]
    ];
    all = λ m inside open_not x more w rule seat at stored.
        let t = in_one n (n + 1) m inside in
        let above = t.0 in
        let below = t.1 in
        (f, inl refl, omega arith);
  };
  counted = omega arith;
}

-- once, as the entry was told
pub parsed_read : (v u : View) (n : ℕ) (e : Entry) (opens : List ℕ) (old new : ℕ) → HasFound v n Stored → Learns v u → IsOfMoment u
    → KnowsAs u n e → ¬ Among n opens → new ≡ old + parses_of e → HasParsed u opens (Full n (n + 1) ∷ []) n (n + 1) old new
parsed_read v u n entry.Void opens old new found learns stands tells closed is =
    absurd (stored_told u n stands tells (found_code u n Stored (found_still v u n Stored learns found)))
parsed_read v u n (entry.Stored lane form payload) opens old new (f, among, number_is, kind) learns stands tells closed is =
    subst (HasParsed u opens (Full n (n + 1) ∷ []) n (n + 1) old) (sym is)
    (record_parsed u n opens f old (learns.found f among) number_is kind closed)
