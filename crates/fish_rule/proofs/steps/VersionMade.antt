-- The next version as its operation makes it: what is listed then, and which words of the registry stay.
use Rattle.std.proofs.Common.{◌≡◌, ◌≢◌, ℕ, ◌%◌, ◌<◌, ◌≤◌, suc, List, [], ◌∷◌, ◌++◌, length, sym, refl, ◌+◌, ap}
use Rattle.std.proofs.Common.{◌∙◌, subst, inl, inr, ⊎_elim, arith, true, Some, slice_get}
use Rattle.std.proofs.Math.Decide.{ℕ_discrete, dec_le, dec_lt}
use Rattle.fish_rule.proofs.basics.Context.{Key, Rule, View, World, get_elem?, some}
use Rattle.fish_catalog.proofs.Changes.{push_cases}
use Rattle.fish_catalog.proofs.Clamping.{mapped_from}
use Rattle.fish_catalog.proofs.Listings.{listing_ended, listing_registered}
use Rattle.fish_catalog.specs.Listing.{IsListing, ended, ended_at, listed_in}
use Rattle.fish_catalog.specs.declared.listed.Listed.{Listed}
use Rattle.fish_layout.proofs.Clearing.{choose_first, choose_second}
use Rattle.fish_layout.specs.Cleared.{choose}
use Rattle.fish_rule.proofs.classes.ControlStores.{its}
use Rattle.fish_rule.proofs.basics.RegistryWords.{definitions_later, definitions_next, made_same}
use Rattle.fish_rule.proofs.classes.OnRegistry.{listing_later, operation_kept, operation_later, rows_later}
use Rattle.fish_rule.proofs.basics.Worlds.{put-else, put-here}
use Rattle.fish_rule.specs.Boundaries.{IsOpenIn}
use Rattle.fish_rule.specs.RegistrySteps.{CanRaiseVersion, next_operation}
use Rattle.fish_rule.specs.Epochs.{Versions}
use Rattle.fish_rule.specs.Registry.{Endures, IsLasting, IsOperation, definitions_at, control_word, made, op_at, row_at}
use Rattle.fish_rule.specs.Registry.{row_in, version_in}
use Rattle.fish_rule.specs.World.{put}

-- an operation makes a listing of a listing
pub listing_made : (f : ℕ → ℕ) (x : ℕ) (ls : List Listed) → IsListing ls → IsOperation (row_in f (length ls)) ls x
    → IsListing (made f x ls)
listing_made f x ls listing (inl h) =
    let room = h.1.room in
    let is = h.0 in
    subst IsListing (sym (choose_first (dec_lt x 512)
    (ls ++ listed_in (row_in f (length ls)) (length ls) true ∷ []) (ended_at (x % 256) ls) (omega arith)))
    (listing_registered ls _ _ listing h.1)
listing_made f x ls listing (inr h) =
    let is = h.1 in
    subst IsListing (sym (choose_second (dec_lt x 512)
    (ls ++ listed_in (row_in f (length ls)) (length ls) true ∷ []) (ended_at (x % 256) ls) (λ less. omega arith)))
    (listing_ended ls (x % 256) listing)

-- an operation adds a definition that has not ended, or ends one: what it doesn't end stays open
pub open_made : (f : ℕ → ℕ) (x : ℕ) (ls : List Listed) (n : ℕ) → IsOperation (row_in f (length ls)) ls x → IsListing ls
    → x ≢ 512 + n → IsOpenIn ls n → IsOpenIn (made f x ls) n
open_made f x ls n (inl t) listing other h =
    let room = t.1.room in
    let is = t.0 in
    subst (λ (z : List Listed). IsOpenIn z n) (sym (choose_first (dec_lt x 512)
    (ls ++ listed_in (row_in f (length ls)) (length ls) true ∷ []) (ended_at (x % 256) ls) (omega arith)))
    (λ l there. ⊎_elim (λ (old : slice_get ls n ≡ Some l). h l old)
    (λ (new : (n ≡ length ls) × (listed_in (row_in f (length ls)) (length ls) true ≡ l)).
    ap (λ (z : Listed). z.active) (sym new.1))
    (push_cases ls (listed_in (row_in f (length ls)) (length ls) true) n l there))
open_made f x ls n (inr t) listing other h =
    let is = t.1 in
    let few = t.2 in
    subst (λ (z : List Listed). IsOpenIn z n) (sym (choose_second (dec_lt x 512)
    (ls ++ listed_in (row_in f (length ls)) (length ls) true ∷ []) (ended_at (x % 256) ls) (λ less. omega arith)))
    (λ l there. let was = mapped_from (λ (z : Listed). choose (ℕ_discrete z.id (x % 256)) (ended z) z) ls n l there in
    let place : was.0.id ≡ n = listing.ids n was.0 was.1 in
    let kept : was.0.id ≢ x % 256 = λ same. other (omega arith) in
    ap (λ (z : Listed). z.active)
    (sym was.2 ∙ choose_second (ℕ_discrete was.0.id (x % 256)) (ended was.0) was.0 kept) ∙ h was.0 was.1)

module _ {k : Key} {w : World} (r : Rule k w) (id : ℕ) {v : View} (at : get_elem? w.views id ≡ some v)
    (control : v.lane ≡ 1) (can : CanRaiseVersion v) where
  -- the words afterwards
  abbrev pub bumped : ℕ → ℕ
  bumped = put w.registry 2 (suc v.learned.version)

  -- the definitions before
  abbrev pub before : List Listed
  before = definitions_at k w.registry (version_in w.registry)

  -- the version is one more
  pub up : version_in bumped ≡ suc (version_in w.registry)
  up = put-here w.registry 2 (suc v.learned.version) ∙ ap suc (its r id at control).version

  -- no other word has changed
  pub else_ : (q : ℕ) → q ≢ 2 → bumped q ≡ w.registry q
  else_ q ne = put-else w.registry 2 (suc v.learned.version) q ne

  -- so what lasts has lasted
  pub bump_endures : Endures k w.registry bumped
  bump_endures = record { rises = (let e = up in omega arith); same = λ q h. else_ q (away q h) }
    where
      away : (q : ℕ) → IsLasting k w.registry q → q ≢ 2
      away q (inl h) e = omega arith
      away q (inr (inl h)) e = (let a = h.3 in omega arith)
      away q (inr (inr (inl h))) e = (let a = h.5 in omega arith)
      away q (inr (inr (inr h))) e = (let a = h.0.4 in omega arith)

  -- the operation stands in the words as it was stored
  pub op_is : w.registry (op_at (suc (version_in w.registry))) ≡ next_operation v
  op_is =
      let few = can.few in
      let e = (its r id at control).version in
      (its r id at control).owned (op_at (suc (version_in w.registry)))
      (inl (inl (suc (version_in w.registry), (omega arith), (omega arith), refl)))
      ∙ ap (λ (z : ℕ). control_word v.control_words (op_at (suc z))) (sym (its r id at control).version)

  -- and so does the next row
  row_is : length v.rows < 256 → (i : ℕ) → i < 39
      → w.registry (row_at (length v.rows) i) ≡ control_word v.control_words (row_at (length v.rows) i)
  row_is room i few =
      let size : length before ≡ length v.rows = ap (λ (z : List Listed). length z) (its r id at control).definitions in
      (its r id at control).owned (row_at (length v.rows) i)
      (inl (inr (length v.rows, i, (omega arith), room, few, refl)))

  -- the operation is one that may be made
  pub operation : IsOperation (row_in w.registry (length before)) before (w.registry (op_at (suc (version_in w.registry))))
  operation = subst (λ (z : List Listed × ℕ). IsOperation (row_in w.registry (length z.0)) z.0 z.1)
      (λ i. (sym (its r id at control).definitions i, sym op_is i))
      (operation_later (row_in (control_word v.control_words) (length v.rows)) (row_in w.registry (length v.rows)) v.rows
      (next_operation v) (λ room few i a b. row_is room i b) can.operation)

  -- the definitions up to the old version stay
  same_before : definitions_at k bumped (version_in w.registry) ≡ before
  same_before = definitions_later k w.registry bumped bump_endures
      (version_in w.registry) (omega arith)

  -- the new version's are made by the operation
  pub made_now : definitions_at k bumped (suc (version_in w.registry))
      ≡ made w.registry (w.registry (op_at (suc (version_in w.registry)))) before
  made_now =
      let op = else_ (op_at (suc (version_in w.registry))) (λ e. omega arith) in
      definitions_next k bumped (version_in w.registry) r.registry.versions.from
      ∙ (λ j. made bumped (op j) (same_before j))
      ∙ made_same w.registry bumped (w.registry (op_at (suc (version_in w.registry)))) before
      (λ less i a b. else_ (row_at (length before) i) (λ e. omega arith))

  -- as the control pass stored them
  pub made_known : definitions_at k bumped (version_in bumped)
      ≡ made (control_word v.control_words) (next_operation v) v.rows
  made_known = ap (definitions_at k bumped) up ∙ made_now
      ∙ (λ j. made w.registry (op_is j) ((its r id at control).definitions j))
      ∙ made_same (control_word v.control_words) w.registry (next_operation v) v.rows (λ less i a b. row_is (room less) i b)
    where
      room : next_operation v < 512 → length v.rows < 256
      room less = ⊎_elim (λ h. let q = h.1.room in omega arith) (λ h. let q = h.1 in absurd (omega arith)) can.operation

  -- what each version has is a proper listing, made by an operation that may be made
  pub bump_versions : Versions k w.count bumped r.version_of
  bump_versions =
      let h = r.registry.versions in
      let few_ = can.few in
      let e = (its r id at control).version in
      let rise = up in
      let from_ = h.from in
      record {
        from = omega arith;
        few = omega arith;
        since = h.since;
        upto = λ n above below. (let a = h.upto n above below in omega arith);
        listings = λ u reached. list u reached (dec_le u (version_in w.registry));
        operations = λ u from less. op u from less (dec_lt u (version_in w.registry));
        opened = else_ 3 (λ e. omega arith) ∙ h.opened;
        rows = rows_later k w.registry bumped bump_endures w.count r.version_of h;
      }
    where
      list : (u : ℕ) → u ≤ version_in bumped → Dec (u ≤ version_in w.registry)
          → IsListing (definitions_at k bumped u)
      list u reached (yes old) = listing_later k w.registry bumped bump_endures w.count r.version_of
          r.registry.versions u old
      list u reached (no new) =
          let rise = up in
          let e : suc (version_in w.registry) ≡ u = omega arith in
          subst (λ (z : ℕ). IsListing (definitions_at k bumped z)) e
          (subst IsListing (sym made_now) (listing_made w.registry _ before
          (r.registry.versions.listings (version_in w.registry) (omega arith)) operation))

      op : (u : ℕ) → k.version ≤ u → u < version_in bumped → Dec (u < version_in w.registry)
          → IsOperation (row_in bumped (length (definitions_at k bumped u)))
          (definitions_at k bumped u) (bumped (op_at (suc u)))
      op u from less (yes old) = operation_kept k w.registry bumped bump_endures w.count r.version_of
          r.registry.versions u from old
      op u from less (no new) =
          let rise = up in
          let e : version_in w.registry ≡ u = omega arith in
          let word = else_ (op_at (suc (version_in w.registry))) (λ e. omega arith) in
          subst (λ (z : ℕ). IsOperation (row_in bumped (length (definitions_at k bumped z)))
          (definitions_at k bumped z) (bumped (op_at (suc z)))) e
          (subst (λ (z : List Listed × ℕ). IsOperation (row_in bumped (length z.0)) z.0 z.1)
          (λ i. (sym same_before i, sym word i))
          (operation_later (row_in w.registry (length before)) (row_in bumped (length before)) before _
          (λ room few i a b. else_ (row_at (length before) i) (λ e. omega arith)) operation))
