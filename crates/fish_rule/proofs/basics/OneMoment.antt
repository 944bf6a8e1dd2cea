-- What one moment says of an entry of the log, and of its number.
use Rattle.std.proofs.Common.{◌≡◌, ◌≢◌, ℕ, ◌<◌, ◌≤◌, zero, suc, List, [], ◌∷◌, length, refl, sym, ap, ◌∙◌, subst, arith}
use Rattle.std.proofs.Common.{Some, slice_get, ◌-◌}
use Rattle.fish_rule.proofs.basics.Context.{Key, Kind, Rule, World, get_elem?, some}
use mathlib.Core.Option.{some-injective, some-ne-none}
use Rattle.std.proofs.Math.Decide.{dec_lt}
use Rattle.fish_catalog.specs.declared.entry.Entry.{Entry}
use Rattle.fish_catalog.specs.declared.entry.Entry.TheVariants as entry
use Rattle.fish_layout.proofs.Once.{spelled_once}
use Rattle.fish_layout.specs.Cleared.{Spells}
use Rattle.fish_layout.specs.declared.parts.BodyParts.{BodyParts}
use Rattle.fish_rule.proofs.basics.Bodies.{code_once, kind-mark, mark-past, published}
use Rattle.fish_rule.proofs.basics.Regions.{starts_rise}
use Rattle.fish_rule.specs.Facts.{IsStoredBy}
use Rattle.fish_rule.specs.Logs.{IsEntry}
use Rattle.fish_rule.specs.Parts.{IsEntryWord}
use Rattle.fish_rule.specs.Regions.{HoldsRegion, IsRecord, code, kind_of, IsRecordOf}
use Rattle.fish_rule.specs.World.{body, high, low}
use Rattle.fish_rule.specs.declared.view.Kind.TheVariants.{Mark, Stored, Void}
use Rattle.fish_value.specs.declared.field.Form.{Form}

-- both ways to say what stands at a place of a list
pub get_here : (xs : List Entry) (n : ℕ) (e : Entry) → get_elem? xs n ≡ some e → slice_get xs n ≡ Some e
get_here [] n e at = absurd (some-ne-none e (sym at))
get_here (x ∷ xs) zero e at = ap Some (some-injective x e at)
get_here (x ∷ xs) (suc n) e at = get_here xs n e at

-- and back
pub here_get : (xs : List Entry) (n : ℕ) (e : Entry) → slice_get xs n ≡ Some e → get_elem? xs n ≡ some e
here_get [] n e at = absurd cc
here_get (x ∷ xs) zero e at = ap some (one x e at)
  where
    one : (a b : Entry) → Some a ≡ Some b → a ≡ b
    one a b h = cc
here_get (x ∷ xs) (suc n) e at = here_get xs n e at

-- something stands at a place of the list
pub there_is : (xs : List Entry) (n : ℕ) → n < length xs → (e : Entry) × (get_elem? xs n ≡ some e)
there_is [] n h = absurd (omega arith)
there_is (x ∷ xs) zero h = (x, refl)
there_is (x ∷ xs) (suc n) h = there_is xs n (omega arith)

-- ---- one moment

-- an entry's directory word
pub entry_word : (w : World) (n : ℕ) (e : Entry) → IsEntry w n e → IsEntryWord (w.dir n)
entry_word w n (entry.Stored lane form payload) h =
    let is = h.1.stored in
    record { published = published (w.dir n) Stored is; unmarked = λ m. omega arith }
entry_word w n entry.Void h = record { published = published (w.dir n) Void h; unmarked = λ m. omega arith }

module _ {k : Key} {w : World} (r : Rule k w) where
  -- a number with a directory word is claimed
  pub claimed : (n : ℕ) → w.dir n ≢ 0 → n < w.count
  claimed n some_ = pick (dec_lt n w.count)
    where
      pick : Dec (n < w.count) → n < w.count
      pick (yes h) = h
      pick (no h) = absurd (some_ (r.space.dir_beyond n (omega arith)))

  -- after a mark there are only marks
  pub behind_mark : (m n : ℕ) → k.number ≤ m → m ≤ n → high (w.dir m) ≡ code Mark → w.dir n ≢ 0
      → high (w.dir n) ≡ code Mark
  behind_mark m n above less mark some_ =
      let there : w.dir m ≢ 0 = published (w.dir m) Mark mark in
      let n_in = claimed n some_ in
      let m_in = claimed m there in
      let fm = r.space.finished m above m_in there in
      let fn = r.space.finished n (omega arith) n_in some_ in
      let is : kind_of k.end (r.start m) (r.start (suc m)) ≡ Mark = code_once _ Mark (sym fm.kind ∙ mark) in
      let past = mark-past k.end (r.start m) (r.start (suc m)) is in
      let up = starts_rise k w.count w.line r.start r.space.regions (suc m) (suc n) (omega arith) (omega arith)
      (omega arith) in
      fn.kind ∙ ap code (kind-mark k.end (r.start n) (r.start (suc n)) (omega arith))

  -- so a number that is published and no mark lies before each mark
  pub before_mark : (m n : ℕ) → k.number ≤ m → high (w.dir m) ≡ code Mark → IsEntryWord (w.dir n) → n < m
  before_mark m n above mark word = pick (dec_lt n m)
    where
      pick : Dec (n < m) → n < m
      pick (yes h) = h
      pick (no h) = absurd (word.unmarked (behind_mark m n above (omega arith) mark word.published))

  -- at one number stands one entry
  pub entry_once : (n : ℕ) (e f : Entry) → IsEntry w n e → IsEntry w n f → e ≡ f
  entry_once n (entry.Stored la fa pa) (entry.Stored lb fb pb) (p, a) (q, b) =
      let same : p ≡ q = spelled_once a.spells b.spells (a.number_is ∙ sym b.number_is) in
      λ i. entry.Stored ((sym a.lane_is ∙ ap (λ (z : BodyParts). z.lane) same ∙ b.lane_is) i)
      ((sym a.form_is ∙ ap (λ (z : BodyParts). z.form) same ∙ b.form_is) i)
      ((sym a.payload_is ∙ ap (λ (z : BodyParts). z.payload) same ∙ b.payload_is) i)
  entry_once n (entry.Stored la fa pa) entry.Void (p, a) void = (let s = a.stored in absurd (omega arith))
  entry_once n entry.Void (entry.Stored lb fb pb) void (q, b) = (let s = b.stored in absurd (omega arith))
  entry_once n entry.Void entry.Void void void' = refl

  -- what a record's kind asks
  holds_record : (kind : Kind) (lane n lines : ℕ) (e : ℕ → ℕ) → kind ≡ Stored → HoldsRegion kind lane n lines e
      → IsRecord lane n lines e
  holds_record Stored lane n lines e q h = h
  holds_record Void lane n lines e q h = cc
  holds_record Mark lane n lines e q h = cc

  -- the lane that an entry tells is the one that claimed it
  pub stored_by : (n lane : ℕ) (form : Form) (payload : List ℕ) → k.number ≤ n
      → IsEntry w n (entry.Stored lane form payload) → IsStoredBy k w.count w.dir r.lane_of lane n
  stored_by n lane form payload above (p, a) =
      let some_ : w.dir n ≢ 0 = published (w.dir n) Stored a.stored in
      let below = claimed n some_ in
      let f = r.space.finished n above below some_ in
      let kind : kind_of k.end (r.start n) (r.start (suc n)) ≡ Stored = code_once _ Stored (sym f.kind ∙ a.stored) in
      let q = holds_record _ (r.lane_of n) n _ (body w.log (r.start n)) kind f.holds in
      let there : Spells p (body w.log (r.start n)) = subst (λ (z : ℕ). Spells p (body w.log z)) f.line a.spells in
      let same : p ≡ q.0 = spelled_once there q.1.spells (a.number_is ∙ sym q.1.number_is) in
      record {
        above = above;
        below = below;
        stored = a.stored;
        lane = sym q.1.lane_is ∙ ap (λ (z : BodyParts). z.lane) (sym same) ∙ a.lane_is;
      }

-- what a record's kind asks
record_held : (kind : Kind) (lane n lines : ℕ) (e : ℕ → ℕ) → kind ≡ Stored → HoldsRegion kind lane n lines e
    → IsRecord lane n lines e
record_held Stored lane n lines e is h = h
record_held Void lane n lines e is h = cc
record_held Mark lane n lines e is h = cc

module _ {k : Key} {w : World} (r : Rule k w) (n : ℕ) (stored : high (w.dir n) ≡ code Stored) where
  -- it is one of the table's
  pub stored_above : k.number ≤ n
  stored_above = pick (dec_lt n k.number)
    where
      pick : Dec (n < k.number) → k.number ≤ n
      pick (no past) = omega arith
      pick (yes below) = absurd (published (w.dir n) Stored stored (r.space.dir_below n below))

  -- it is claimed
  pub stored_claimed : n < w.count
  stored_claimed = claimed r n (published (w.dir n) Stored stored)

  -- its directory word says where its region begins
  pub stored_line : low (w.dir n) ≡ r.start n
  stored_line = (r.space.finished n stored_above stored_claimed (published (w.dir n) Stored stored)).line

  -- the words there are those of a record
  pub stored_parts : (p : BodyParts)
      × IsRecordOf (r.lane_of n) n (r.start (suc n) - r.start n) (body w.log (low (w.dir n))) p
  stored_parts =
      let f = r.space.finished n stored_above stored_claimed (published (w.dir n) Stored stored) in
      let kind : kind_of k.end (r.start n) (r.start (suc n)) ≡ Stored = code_once _ Stored (sym f.kind ∙ stored) in
      let h = record_held _ (r.lane_of n) n _ (body w.log (r.start n)) kind f.holds in (
        h.0,
        subst (λ (z : ℕ). IsRecordOf (r.lane_of n) n (r.start (suc n) - r.start n) (body w.log z) h.0) (sym f.line) h.1,
      )
