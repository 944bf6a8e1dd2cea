-- What the pieces of a plan load, one after the other.
use Rattle.std.proofs.Common.{◌≡◌, ℕ, ◌+◌, ◌*◌, ◌≤◌, zero, suc, List, [], ◌∷◌, ◌++◌, length, refl, sym, ap, ◌∙◌, subst, inl, inr}
use Rattle.std.proofs.Common.{⊎_elim, arith, Ok, Err, Result, Some, slice_get, take, length-append}
use Rattle.std.specs.Prelude.{OnOk}
use Rattle.std.proofs.lemmas.Option.{same_Some}
use Rattle.fish_plan.specs.declared.pieces.Piece.{Piece}
use Rattle.fish_plan.specs.declared.pieces.Piece.TheVariants.{Full, Index}
use Rattle.fish_rule.proofs.laws.Lists.{among_either, among_left}
use Rattle.fish_rule.specs.Logs.{Learns}
use Rattle.fish_rule.specs.Views.{Among}
use Rattle.fish_rule.specs.declared.view.Found.{Found}
use Rattle.fish_rule.specs.declared.view.Kind.TheVariants.{Stored}
use Rattle.fish_rule.specs.declared.view.View.{View}
use Rattle.fish_scan.proofs.Descending.{entries_later}
use Rattle.fish_scan.proofs.Loading.{record_later, record_loads, records_both, records_later, rises_both, rises_none, words_both}
use Rattle.fish_scan.proofs.Walks.{bucket_still}
use Rattle.fish_scan.specs.Work.{AreAllowed, AreEntries, IsAllowed}
use Rattle.fish_scan.specs.within.Work.{ArePiecesWork, IsFullWork, IsPieceWork, IsFoundAt}
use Rattle.fish_scan.specs.Work.{IsWork, RisesBy}
use Rattle.fish_value.specs.declared.row.Row.{Row}
use Rattle.fish_value.specs.declared.value.Value.{Value}
use Rattle.fish_walk.specs.Looks.{CountsLoads, HasFound}

-- ---- full pieces

-- no number
pub full_none : (v : View) (opens : List ℕ) (n old : ℕ) → IsFullWork v v opens n n old old
full_none v opens n old = (
  0,
  record { records = []; are = omega arith; closed = λ f m. elim m [ ]; few = omega arith },
  rises_none v old,
)

-- the numbers below come after
pub full_both : (v m u : View) (opens : List ℕ) (from mid to old late new : ℕ) → Learns m u
    → IsFullWork v m opens mid to old late → IsFullWork m u opens from mid late new → IsFullWork v u opens from to old new
full_both v m u opens from mid to old late new learns (a, h, r) (b, g, s) =
    let words = words_both h.records g.records in
    let longer = length-append h.records g.records in
    let x = h.few in
    let y = g.few in (
      a + b,
      record {
        records = h.records ++ g.records;
        are = records_both u from mid to h.records g.records (records_later m u mid to h.records learns h.are) g.are;
        closed = λ f m. ⊎_elim (λ (z : Among f h.records). h.closed f z) (λ (z : Among f g.records). g.closed f z)
            (among_either f h.records g.records m);
        few = omega arith;
      },
      rises_both v m u old late new a b r s,
    )

-- a number that is no record
pub full_other : (v u : View) (opens : List ℕ) (n old : ℕ) → u.clock.loads ≡ v.clock.loads
    → IsFullWork v u opens n (n + 1) old old
full_other v u opens n old same = (
  0,
  record { records = []; are = omega arith; closed = λ f m. elim m [ ]; few = omega arith },
  record { counted = omega arith; own = omega arith },
)

-- the record of a number was loaded
pub full_one : (v u : View) (opens : List ℕ) (n : ℕ) (f : Found) (old new : ℕ) → IsFoundAt u n f → ¬ Among n opens
    → RisesBy v u old new (1 + f.lines * 4) → IsFullWork v u opens n (n + 1) old new
full_one v u opens n f old new r closed h = (
  1 + f.lines * 4,
  record {
    records = f ∷ [];
    are = (let is = r.number_is in (omega arith, r.among, r.kind, (let is = r.number_is in omega arith)));
    closed = λ g m. elim m [
      | inl e ↦ subst (λ (z : ℕ). ¬ Among z opens) (sym r.number_is ∙ ap (λ (z : Found). z.number) e) closed
      | inr none ↦ elim none [ ]
    ];
    few = omega arith;
  },
  h,
)

-- so it is where a record was read
pub full_read : (v u : View) (opens : List ℕ) (n old new : ℕ) → HasFound v n Stored → Learns v u → ¬ Among n opens
    → CountsLoads v u n old new → IsFullWork v u opens n (n + 1) old new
full_read v u opens n old new (f, among, number_is, kind) learns closed counts =
    let at : IsFoundAt v n f = record { among = among; number_is = number_is; kind = kind } in
    full_one v u opens n f old new (record_later v u n f learns at) closed (record_loads v u n f old new at counts)

-- a look in front loads no word of the log
pub full_looked : {A E : Type 0} (v m u : View) (opens : List ℕ) (from to old new : ℕ) (r : Result A E)
    → m.clock.loads ≡ v.clock.loads → OnOk r (IsFullWork m u opens from to old new)
    → OnOk r (IsFullWork v u opens from to old new)
full_looked v m u opens from to old new (Ok x) same (most, allowed, h) =
    (let a = h.own in (most, allowed, record { counted = h.counted; own = omega arith }))
full_looked v m u opens from to old new (Err e) same h = h

-- ---- pieces

-- what a piece is allowed it is allowed later, with more rows
pub allowed_later : (v u : View) (value : Value) (opens : List ℕ) (rows more : List Row) (piece : Piece) (loads : ℕ) → Learns v u
    → IsAllowed v value opens rows piece loads → IsAllowed u value opens (rows ++ more) piece loads
allowed_later v u value opens rows more (Index id from to) loads learns h = record {
  top = h.top;
  entries = h.entries;
  linked = subst (λ (z : ℕ). AreEntries u z from 0 h.top h.entries) (bucket_still v u id value learns)
      (entries_later v u _ from 0 h.top h.entries learns h.linked);
  records = h.records;
  are = records_later v u from to h.records learns h.are;
  given = λ f m. let t = h.given f m in (t.0, among_left t.0 rows more t.1, t.2);
  few = h.few;
}
allowed_later v u value opens rows more (Full from to) loads learns h = record {
  records = h.records;
  are = records_later v u from to h.records learns h.are;
  closed = h.closed;
  few = h.few;
}

-- so are all
pub all_allowed_later : (v u : View) (value : Value) (opens : List ℕ) (rows more : List Row) (pieces : List Piece) (loads : ℕ)
    → Learns v u → AreAllowed v value opens rows pieces loads → AreAllowed u value opens (rows ++ more) pieces loads
all_allowed_later v u value opens rows more [] loads learns h = h
all_allowed_later v u value opens rows more (p ∷ pieces) loads learns (one, others, is, first, rest) = (
  one,
  others,
  is,
  allowed_later v u value opens rows more p one learns first,
  all_allowed_later v u value opens rows more pieces others learns rest,
)

-- one piece more
pub allowed_more : (v : View) (value : Value) (opens : List ℕ) (rows : List Row) (pieces : List Piece) (n : ℕ) (x : Piece) (a b : ℕ)
    → slice_get pieces n ≡ Some x → AreAllowed v value opens rows (take n pieces) a → IsAllowed v value opens rows x b
    → AreAllowed v value opens rows (take (suc n) pieces) (a + b)
allowed_more v value opens rows [] n x a b there h g = absurd cc
allowed_more v value opens rows (p ∷ pieces) zero x a b there none g =
    (b, 0, omega arith, subst (λ (z : Piece). IsAllowed v value opens rows z b) (sym (same_Some p x there)) g, refl)
allowed_more v value opens rows (p ∷ pieces) (suc n) x a b there (one, others, is, first, rest) g =
    (one, others + b, omega arith, first, allowed_more v value opens rows pieces n x others b there rest g)

-- up to the last place these are all of them
pub take_all : {A : Type 0} (xs : List A) (n : ℕ) → length xs ≤ n → take n xs ≡ xs
take_all [] zero past = refl
take_all [] (suc n) past = refl
take_all (x ∷ xs) zero past = absurd (omega arith)
take_all (x ∷ xs) (suc n) past = ap (λ z. x ∷ z) (take_all xs n (omega arith))

-- the rows of one piece more came after, and with them its work
pub pieces_more : (v m u : View) (value : Value) (opens : List ℕ) (rows after : List Row) (new : List Row) (pieces : List Piece)
    (n : ℕ) (x : Piece) (old mid late : ℕ) → Learns m u → slice_get pieces n ≡ Some x → after ≡ rows ++ new
    → ArePiecesWork v m value opens rows (take n pieces) old mid → IsPieceWork m u value opens after x mid late
    → ArePiecesWork v u value opens after (take (suc n) pieces) old late
pieces_more v m u value opens rows after new pieces n x old mid late learns there is (a, h, r) (b, g, s) = (
  a + b,
  allowed_more u value opens after pieces n x a b there
      (subst (λ (z : List Row). AreAllowed u value opens z (take n pieces) a) (sym is)
      (all_allowed_later m u value opens rows new (take n pieces) a learns h)) g,
  rises_both v m u old mid late a b r s,
)

-- ---- a whole scan

-- its pieces are those of its plan, and by its value
pub work_done : (v m u : View) (value other : Value) (from to : ℕ) (opens : List ℕ) (rows : List Row) (pieces plan : List Piece)
    (old new : ℕ) → m.clock.loads ≡ v.clock.loads → value ≡ other → pieces ≡ plan
    → ArePiecesWork m u value opens rows pieces old new
    → IsWork v u other (record { from = from; to = to; opens = opens; rows = rows; plan = plan }) old new
work_done v m u value other from to opens rows pieces plan old new still same is (most, allowed, h) =
    let own = h.own in record {
      most = most;
      allowed = subst (λ (z : Value × List Piece). AreAllowed u z.0 opens rows z.1 most) (λ i. (same i, is i)) allowed;
      rises = record { counted = h.counted; own = omega arith };
    }
