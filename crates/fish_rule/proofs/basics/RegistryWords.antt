-- What lasts of the registry's words, and what is known by them.
use Rattle.std.proofs.Common.{◌≡◌, ℕ, ◌%◌, ◌<◌, ◌≤◌, zero, suc, List, [], ◌∷◌, ◌++◌, length, map, sym, refl, ap, ◌∙◌}
use Rattle.std.proofs.Common.{subst, inl, inr, arith, true, length-append, Some, slice_get, option_map}
use Rattle.std.proofs.lemmas.Option.{slice_get-map}
use Rattle.std.proofs.Math.Decide.{ℕ_discrete, dec_lt}
use Rattle.std.proofs.lemmas.List.{length-map}
use Rattle.fish_catalog.proofs.RowWords.{listed_same}
use Rattle.fish_catalog.specs.Listing.{active_texts, ended, ended_at, listed_in, listed_of}
use Rattle.fish_catalog.specs.declared.listed.Listed.{Listed}
use Rattle.fish_layout.proofs.Clearing.{choose_first, choose_second}
use Rattle.fish_layout.specs.Cleared.{choose}
use Rattle.fish_rule.proofs.basics.Lists.{all_map}
use Rattle.fish_rule.specs.Keys.{IsKeyed}
use Rattle.fish_rule.specs.Registry.{AreActiveAt, Endures, HasRead, IsLasting, IsRegistered, KnowsActive}
use Rattle.fish_rule.specs.Registry.{definitions_at, made, op_at, row_at, row_in, version_in}
use Rattle.fish_rule.specs.Views.{AllOf}
use Rattle.fish_rule.proofs.basics.Context.{Key, Learned}
use Rattle.fish_rule.specs.declared.view.RegistryWord.{RegistryWord}

-- ---- the definitions of a version

-- an operation leaves no fewer definitions
pub length_made : (g : ℕ → ℕ) (x : ℕ) (ls : List Listed) → length ls ≤ length (made g x ls)
length_made g x ls = by (dec_lt x 512)
  where
    by : (d : Dec (x < 512)) → length ls
        ≤ length (choose d (ls ++ listed_in (row_in g (length ls)) (length ls) true ∷ []) (ended_at (x % 256) ls))
    by (yes h) = (let e = length-append ls (listed_in (row_in g (length ls)) (length ls) true ∷ []) in omega arith)
    by (no h) = (let e = length-map ls (λ l. choose (ℕ_discrete l.id (x % 256)) (ended l) l) in omega arith)

-- a registration leaves one more
pub length_registered : (g : ℕ → ℕ) (x : ℕ) (ls : List Listed) → x < 512 → length (made g x ls) ≡ suc (length ls)
length_registered g x ls less = by (dec_lt x 512)
  where
    by : (d : Dec (x < 512)) → length
        (choose d (ls ++ listed_in (row_in g (length ls)) (length ls) true ∷ []) (ended_at (x % 256) ls)) ≡ suc (length ls)
    by (yes h) = (let e = length-append ls (listed_in (row_in g (length ls)) (length ls) true ∷ []) in omega arith)
    by (no h) = absurd (h less)

-- an operation does the same with the same words of the next row
pub made_same : (g g' : ℕ → ℕ) (x : ℕ) (ls : List Listed)
    → (x < 512 → (i : ℕ) → 2 ≤ i → i < 39 → g' (row_at (length ls) i) ≡ g (row_at (length ls) i))
    → made g' x ls ≡ made g x ls
made_same g g' x ls same = by (dec_lt x 512)
  where
    by : (d : Dec (x < 512))
        → choose d (ls ++ listed_in (row_in g' (length ls)) (length ls) true ∷ []) (ended_at (x % 256) ls)
        ≡ choose d (ls ++ listed_in (row_in g (length ls)) (length ls) true ∷ []) (ended_at (x % 256) ls)
    by (yes h) = ap (λ (l : Listed). ls ++ l ∷ [])
        (listed_same (row_in g' (length ls)) (row_in g (length ls)) (length ls) true (same h))
    by (no h) = refl

-- an element stays where it is in a longer list
get_longer : (ls : List Listed) (y l : Listed) (id : ℕ) → slice_get ls id ≡ Some l → slice_get (ls ++ y ∷ []) id ≡ Some l
get_longer [] y l id there = absurd cc
get_longer (x ∷ ls) y l zero there = there
get_longer (x ∷ ls) y l (suc id) there = get_longer ls y l id there

-- an end leaves a text as it is
ended_text : (l : Listed) (id : ℕ) (d : Dec (l.id ≡ id)) → (choose d (ended l) l).def ≡ l.def
ended_text l id (yes h) = refl
ended_text l id (no h) = refl

-- so an operation leaves each definition where it is, with its text
text_made : (g : ℕ → ℕ) (x : ℕ) (ls : List Listed) (id : ℕ) (l : Listed) → slice_get ls id ≡ Some l
    → (m : Listed) × (slice_get (made g x ls) id ≡ Some m) × (m.def ≡ l.def)
text_made g x ls id l there = by (dec_lt x 512)
  where
    end : Listed → Listed
    end z = choose (ℕ_discrete z.id (x % 256)) (ended z) z

    by : (d : Dec (x < 512)) → (m : Listed) × (slice_get
        (choose d (ls ++ listed_in (row_in g (length ls)) (length ls) true ∷ []) (ended_at (x % 256) ls)) id ≡ Some m)
        × (m.def ≡ l.def)
    by (yes h) = (l, get_longer ls _ l id there, refl)
    by (no h) = (
      end l,
      slice_get-map end ls id ∙ ap (option_map end) there,
      ended_text l (x % 256) (ℕ_discrete l.id (x % 256)),
    )

module _ (k : Key) where
  -- up to the start's version they are those of the start
  pub definitions_first : (g : ℕ → ℕ) (v : ℕ) → v ≤ k.version → definitions_at k g v ≡ map listed_of k.rows.value
  definitions_first g zero less = refl
  definitions_first g (suc v) less =
      choose_first (dec_lt v k.version) (definitions_at k g v) (made g (g (op_at (suc v))) (definitions_at k g v))
      (omega arith)
      ∙ definitions_first g v (omega arith)

  -- after it each is made by its operation
  pub definitions_next : (g : ℕ → ℕ) (v : ℕ) → k.version ≤ v
      → definitions_at k g (suc v) ≡ made g (g (op_at (suc v))) (definitions_at k g v)
  definitions_next g v more = choose_second (dec_lt v k.version) (definitions_at k g v)
      (made g (g (op_at (suc v))) (definitions_at k g v)) (λ less. omega arith)

  -- a later version has no fewer definitions
  grows_once : (g : ℕ → ℕ) (v : ℕ) (d : Dec (v < k.version)) → length (definitions_at k g v)
      ≤ length (choose d (definitions_at k g v) (made g (g (op_at (suc v))) (definitions_at k g v)))
  grows_once g v (yes h) = omega arith
  grows_once g v (no h) = length_made g (g (op_at (suc v))) (definitions_at k g v)

  -- a later version has as many definitions or more
  pub length_grows : (g : ℕ → ℕ) (u v : ℕ) → u ≤ v → length (definitions_at k g u) ≤ length (definitions_at k g v)
  length_grows g u zero less = (let e : u ≡ 0 = omega arith in
      subst (λ (z : ℕ). length (definitions_at k g z) ≤ length (definitions_at k g 0)) (sym e) (omega arith))
  length_grows g u (suc v) less = by (dec_lt v u) (λ h. length_grows g u v h)
    where
      by : Dec (v < u) → (u ≤ v → length (definitions_at k g u) ≤ length (definitions_at k g v))
          → length (definitions_at k g u) ≤ length (definitions_at k g (suc v))
      by (yes h) rest = (let e : u ≡ suc v = omega arith in
          subst (λ (z : ℕ). length (definitions_at k g z) ≤ length (definitions_at k g (suc v))) (sym e) (omega arith))
      by (no h) rest =
          let a = rest (omega arith) in
          let b = grows_once g v (dec_lt v k.version) in
          omega arith

  -- and each stays where it is, with its text
  pub text_grows : (g : ℕ → ℕ) (u v : ℕ) → u ≤ v → (id : ℕ) (l : Listed) → slice_get (definitions_at k g u) id ≡ Some l
      → (m : Listed) × (slice_get (definitions_at k g v) id ≡ Some m) × (m.def ≡ l.def)
  text_grows g u zero less id l there = (let e : u ≡ 0 = omega arith in
      (l, ap (λ (z : ℕ). slice_get (definitions_at k g z) id) (sym e) ∙ there, refl))
  text_grows g u (suc v) less id l there = by (dec_lt v u) (λ h. text_grows g u v h id l there)
    where
      once : (d : Dec (v < k.version)) (m : Listed) → slice_get (definitions_at k g v) id ≡ Some m
          → (n : Listed) × (slice_get (choose d (definitions_at k g v) (made g (g (op_at (suc v))) (definitions_at k g v))) id
          ≡ Some n) × (n.def ≡ m.def)
      once (yes h) m at = (m, at, refl)
      once (no h) m at = text_made g (g (op_at (suc v))) (definitions_at k g v) id m at

      by : Dec (v < u) → (u ≤ v → (m : Listed) × (slice_get (definitions_at k g v) id ≡ Some m) × (m.def ≡ l.def))
          → (m : Listed) × (slice_get (definitions_at k g (suc v)) id ≡ Some m) × (m.def ≡ l.def)
      by (yes h) rest = (let e : u ≡ suc v = omega arith in
          (l, ap (λ (z : ℕ). slice_get (definitions_at k g z) id) (sym e) ∙ there, refl))
      by (no h) rest =
          let a = rest (omega arith) in
          let b = once (dec_lt v k.version) a.0 a.1 in
          (b.0, b.1, b.2 ∙ a.2)

  -- the same operations and rows make the same definitions
  pub definitions_same : (g g' : ℕ → ℕ) (v : ℕ) → ((u : ℕ) → k.version < u → u ≤ v → g' (op_at u) ≡ g (op_at u))
      → ((id i : ℕ) → id < length (definitions_at k g v) → 2 ≤ i → i < 39 → g' (row_at id i) ≡ g (row_at id i))
      → definitions_at k g' v ≡ definitions_at k g v
  definitions_same g g' zero ops words = refl
  definitions_same g g' (suc v) ops words = by (dec_lt v k.version) (definitions_same g g' v) ops words
    where
      by : (d : Dec (v < k.version))
          → (((u : ℕ) → k.version < u → u ≤ v → g' (op_at u) ≡ g (op_at u))
          → ((id i : ℕ) → id < length (definitions_at k g v) → 2 ≤ i → i < 39 → g' (row_at id i) ≡ g (row_at id i))
          → definitions_at k g' v ≡ definitions_at k g v)
          → ((u : ℕ) → k.version < u → u ≤ suc v → g' (op_at u) ≡ g (op_at u))
          → ((id i : ℕ) → id < length (choose d (definitions_at k g v) (made g (g (op_at (suc v))) (definitions_at k g v)))
          → 2 ≤ i → i < 39 → g' (row_at id i) ≡ g (row_at id i))
          → choose d (definitions_at k g' v) (made g' (g' (op_at (suc v))) (definitions_at k g' v))
          ≡ choose d (definitions_at k g v) (made g (g (op_at (suc v))) (definitions_at k g v))
      by (yes h) before ops words = before (λ u a b. ops u a (omega arith)) words
      by (no h) before ops words =
          let x : ℕ = g (op_at (suc v)) in
          let ls : List Listed = definitions_at k g v in
          let grows = length_made g x ls in
          let old : definitions_at k g' v ≡ definitions_at k g v =
          before (λ u a b. ops u a (omega arith)) (λ id i less a b. words id i (omega arith) a b) in
          (λ j. made g' (ops (suc v) (omega arith) (omega arith) j) (old j))
          ∙ made_same g g' x ls (λ less i a b. words (length ls) i
          (let e = length_registered g x ls less in omega arith) a b)

  -- ---- what lasts

  module _ (g g' : ℕ → ℕ) (e : Endures k g g') where
    -- the definitions of a version that was reached stay
    pub definitions_later : (v : ℕ) → v ≤ version_in g → definitions_at k g' v ≡ definitions_at k g v
    definitions_later v reached = definitions_same g g' v
        (λ u a b. e.same (op_at u) (inr (inl (u, a, (omega arith), refl))))
        (λ id i less a b. e.same (row_at id i) (inr (inr (inl (
          id,
          i,
          (let grows = length_grows g v (version_in g) reached in omega arith),
          a,
          b,
          refl,
        )))))

    -- a word that lasts goes on lasting
    pub lasting_later : (p : ℕ) → IsLasting k g p → IsLasting k g' p
    lasting_later p (inl h) = inl h
    lasting_later p (inr (inl h)) = (let up = e.rises in let b = h.2 in inr (inl (h.0, h.1, (omega arith), h.3)))
    lasting_later p (inr (inr (inl h))) =
        let up = length_grows g' (version_in g) (version_in g') e.rises in
        let same = ap (λ (z : List Listed). length z) (definitions_later (version_in g) (omega arith)) in
        let less = h.2 in
        inr (inr (inl (h.0, h.1, (omega arith), h.3, h.4, h.5)))
    lasting_later p (inr (inr (inr h))) = inr (inr (inr (
      h.0,
      (λ none. h.1 (sym (e.same p (inr (inr (inr h)))) ∙ none)),
    )))

    -- a word that was read stays
    pub registered_later : (x : RegistryWord) → IsRegistered k g x → IsRegistered k g' x
    registered_later x h = record { lasts = lasting_later x.index h.lasts; word = e.same x.index h.lasts ∙ h.word }

    -- and so do the active definitions
    pub active_later : (v : ℕ) (ts : List (ℕ × List ℕ)) → AreActiveAt k g v ts → AreActiveAt k g' v ts
    active_later v ts h = (let up = e.rises in let a = h.0 in
        ((omega arith), ap active_texts (definitions_later v h.0) ∙ h.1))

  -- nothing changes where no word does
  pub endures_same : (g : ℕ → ℕ) → Endures k g g
  endures_same g = record { rises = omega arith; same = λ p h. refl }

  -- ---- what is known

  -- the words that were read stand there
  pub has_read : (g : ℕ → ℕ) (ws : List RegistryWord) → AllOf (IsRegistered k g) ws → HasRead g ws
  has_read g ws h = all_map (IsRegistered k g) (λ x. g x.index ≡ x.value) (λ x m. m.word) ws h

  -- the active definitions that a pass knows are those
  pub active_known : (g : ℕ → ℕ) (l : Learned) → l.version ≤ version_in g → AllOf (IsRegistered k g) l.words
      → (v : ℕ) (ts : List (ℕ × List ℕ)) → KnowsActive k l v ts → AreActiveAt k g v ts
  active_known g l reached words v ts h = (let a = h.1.reached in
      ((omega arith), ap active_texts (h.1.are g (has_read g l.words words)) ∙ h.2))

-- ---- records with their keys

-- a record has its keys by what is known, and so by what follows from it
pub keyed_map : (A B : ℕ → List (ℕ × List ℕ) → Type 0) → ((v : ℕ) (ts : List (ℕ × List ℕ)) → A v ts → B v ts)
    → (version lane number lines : ℕ) (e : ℕ → ℕ) → IsKeyed A version lane number lines e
    → IsKeyed B version lane number lines e
keyed_map A B f version lane number lines e h = (
  h.0,
  record {
    record_of = h.1.record_of;
    version_is = h.1.version_is;
    keys = record {
      defs = h.1.keys.defs;
      are = f h.0.version _ h.1.keys.are;
      written = h.1.keys.written;
      keys = h.1.keys.keys;
    };
  },
)
