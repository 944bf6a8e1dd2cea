-- A step that changes words of the registry, or what a pass knows of it, and nothing else.
use Rattle.std.proofs.Common.{◌≡◌, ℕ, ◌<◌, ◌≤◌, suc, List, length, set, sym, refl, ap, ◌∙◌, subst, inl, inr, arith}
use Rattle.std.proofs.Common.{Some, None, Option, slice_get, true}
use Rattle.fish_rule.proofs.basics.Context.{Clock, Epoch, Final, Flight, Key, Rule, View, World, get_elem?, some}
use Rattle.std.proofs.lemmas.List.{length-map}
use Rattle.std.proofs.lemmas.Option.{slice_get_within}
use Rattle.fish_catalog.proofs.RowWords.{listed_same}
use Rattle.fish_catalog.specs.Listing.{IsListing, IsNewName, listed_of}
use Rattle.fish_catalog.specs.Words.{IsWritable, row_word}
use Rattle.fish_catalog.specs.declared.listed.Listed.{Listed}
use Rattle.fish_catalog.specs.declared.row.CatRow.{CatRow}
use Rattle.fish_layout.specs.Cleared.{body_of}
use Rattle.fish_rule.proofs.basics.Lasts.{Kept}
use Rattle.fish_rule.proofs.basics.Lists.{all_map, each_set, seats_kept}
use Rattle.fish_rule.proofs.classes.OtherViews.{final_still, limit_views, space_still, may_kept}
use Rattle.fish_rule.proofs.classes.FactsStay.{chained_later, keyed_kept}
use Rattle.fish_rule.proofs.classes.PassesKnow.{each_chained}
use Rattle.fish_rule.proofs.basics.Bodies.{published}
use Rattle.fish_rule.proofs.classes.ChainsStay.{chains_set, links_set}
use Rattle.fish_rule.proofs.basics.RegistryWords.{active_later, definitions_later, definitions_next, keyed_map}
use Rattle.fish_rule.proofs.basics.RegistryWords.{length_grows, length_registered, registered_later}
use Rattle.fish_rule.specs.Epochs.{Carries, IsControl, IsOwned, IsUnmade, RegistryHolds, Versions}
use Rattle.fish_rule.specs.Registry.{AreActiveAt, Endures, IsOperation, IsRegistered, definitions_at, op_at, row_at}
use Rattle.fish_rule.specs.Registry.{row_in, row_spelled, version_in}
use Rattle.fish_rule.specs.Facts.{Facts}
use Rattle.fish_rule.specs.Views.{AllOf}
use Rattle.fish_rule.specs.declared.view.Kind.TheVariants.{Stored}
use Rattle.fish_rule.specs.declared.view.RegistryWord.{RegistryWord}
use Rattle.fish_rule.specs.declared.view.Round.{Round}

-- ---- what other words leave

-- an operation stays one where the words of the row that it registers do
pub operation_later : (f f' : ℕ → ℕ) (ls : List Listed) (x : ℕ)
    → (length ls < 256 → x < 512 → (i : ℕ) → 2 ≤ i → i < 39 → f' i ≡ f i)
    → IsOperation f ls x → IsOperation f' ls x
operation_later f f' ls x same (inr h) = inr h
operation_later f f' ls x same (inl h) =
    let room = h.1.room in
    let is = h.0 in
    let l : (i : ℕ) → 2 ≤ i → i < 39 → f i ≡ f' i = λ i a b. sym (same (omega arith) (omega arith) i a b) in
    let e = listed_same f f' 0 true l in
    let row : row_spelled f ≡ row_spelled f' =
    ap (λ (z : Listed). let q : CatRow = record { id = 0; name = z.name; def = z.def; from = None; to = None } in q) e in (
    inl (
      h.0,
      subst (λ (z : Listed). IsNewName ls z.name z.def) e h.1,
      λ i a b. sym (l i a b) ∙ h.2 i a b ∙ ap (λ (z : CatRow). row_word z i) row,
    )
    )

module _ (k : Key) (g g' : ℕ → ℕ) (e : Endures k g g') where
  -- the definitions of a version that was reached are a listing as before
  pub listing_later : (count : ℕ) (version_of : ℕ → ℕ) → Versions k count g version_of → (v : ℕ) → v ≤ version_in g
      → IsListing (definitions_at k g' v)
  listing_later count version_of h v reached =
      subst IsListing (sym (definitions_later k g g' e v reached)) (h.listings v reached)

  -- and the operation that made it is one as before
  pub operation_kept : (count : ℕ) (version_of : ℕ → ℕ) → Versions k count g version_of → (v : ℕ) → k.version ≤ v
      → v < version_in g
      → IsOperation (row_in g' (length (definitions_at k g' v))) (definitions_at k g' v)
      (g' (op_at (suc v)))
  operation_kept count version_of h v from less =
      let ls : List Listed = definitions_at k g v in
      let x : ℕ = g (op_at (suc v)) in
      let op : g' (op_at (suc v)) ≡ x = e.same (op_at (suc v)) (inr (inl (suc v, (omega arith), (omega arith), refl))) in
      let defs : definitions_at k g' v ≡ ls = definitions_later k g g' e v (omega arith) in
      subst (λ (z : List Listed × ℕ). IsOperation (row_in g' (length z.0)) z.0 z.1) (λ i. (sym defs i, sym op i))
      (operation_later (row_in g (length ls)) (row_in g' (length ls)) ls x (λ room few i a b.
      e.same (row_at (length ls) i) (inr (inr (inl (
        length ls,
        i,
        (let q = length_registered g x ls few in
            let made_ = ap (λ (z : List Listed). length z) (definitions_next k g v from) in
            let up = length_grows k g (suc v) (version_in g) less in omega arith),
        a,
        b,
        refl,
      ))))) (h.operations v from less))

  -- the rows of the start stay
  pub rows_later : (count : ℕ) (version_of : ℕ → ℕ) → Versions k count g version_of → (id : ℕ) (row : CatRow)
      → slice_get k.rows.value id ≡ Some row
      → IsWritable row × ((i : ℕ) → 2 ≤ i → i < 39 → g' (row_at id i) ≡ row_word row i)
  rows_later count version_of h id row there =
      let all = length-map k.rows.value listed_of in
      let up = length_grows k g 0 (version_in g) (omega arith) in
      let within = slice_get_within k.rows.value id row there in
      let old = h.rows id row there in
      (old.0, λ i a b. e.same (row_at id i) (inr (inr (inl (id, i, (omega arith), a, b, refl)))) ∙ old.1 i a b)

  -- versions stay as they are where the registry's does
  pub versions_later : (count : ℕ) (version_of : ℕ → ℕ) → version_in g' ≡ version_in g → Versions k count g version_of
      → Versions k count g' version_of
  versions_later count version_of same h = record {
    from = (let f = h.from in omega arith);
    few = (let f = h.few in omega arith);
    since = h.since;
    upto = λ n above below. (let u = h.upto n above below in omega arith);
    listings = λ v reached. listing_later count version_of h v (omega arith);
    operations = λ v from less. operation_kept count version_of h v from (omega arith);
    opened = e.same 3 (inl refl) ∙ h.opened;
    rows = rows_later count version_of h;
  }

  -- a record in flight keeps the keys of its version
  pub carries_later : (version_of : ℕ → ℕ) (lane : ℕ) (epoch : Epoch) (o : Option Flight)
      → Carries k g version_of lane epoch o → Carries k g' version_of lane epoch o
  carries_later version_of lane epoch None h = h
  carries_later version_of lane epoch (Some f) h = record {
    entered = h.entered;
    keyed = λ some_. keyed_map (AreActiveAt k g) (AreActiveAt k g')
        (active_later k g g' e) (version_of f.number) lane f.number f.lines (body_of f.words)
        (h.keyed some_);
  }

  -- words that were read stay
  pub read_later : (words : List RegistryWord) → AllOf (IsRegistered k g) words
      → AllOf (IsRegistered k g') words
  read_later words h = all_map (IsRegistered k g) (IsRegistered k g')
      (registered_later k g g' e) words h

  -- a word of which nothing is made was one before, where the version is the same
  pub unmade_before : version_in g' ≡ version_in g → (p : ℕ) → IsUnmade k g' p → IsUnmade k g p
  unmade_before same p (inl h) = (let a = h.1 in inl (h.0, (omega arith), h.2, h.3))
  unmade_before same p (inr h) =
      let defs : definitions_at k g' (version_in g') ≡ definitions_at k g (version_in g) =
      ap (definitions_at k g') same
      ∙ definitions_later k g g' e (version_in g) (omega arith) in
      let size : length (definitions_at k g' (version_in g')) ≡ length
      (definitions_at k g (version_in g)) = ap (λ (z : List Listed). length z) defs in
      let a = h.2 in
      inr (h.0, h.1, (omega arith), h.3, h.4, h.5)

  -- and a word that only the control pass stores was one
  pub owned_before : version_in g' ≡ version_in g → (p : ℕ) → IsOwned k g' p → IsOwned k g p
  owned_before same p (inl h) = inl (unmade_before same p h)
  owned_before same p (inr h) = inr h

  -- the control pass still knows the registry as it is
  pub control_later : (seen : ℕ) (rows : List Listed) (control_words : List RegistryWord) → version_in g' ≡ version_in g
      → ((p : ℕ) → IsOwned k g p → g' p ≡ g p) → IsControl k g seen rows control_words → IsControl k g' seen rows control_words
  control_later seen rows control_words same stay h = record {
    version = h.version ∙ sym same;
    definitions = ap (definitions_at k g') same
        ∙ definitions_later k g g' e (version_in g) (omega arith) ∙ h.definitions;
    owned = λ p u. let before = owned_before same p u in stay p before ∙ h.owned p before;
  }

-- a word that only the control pass stores is after the epochs
pub owned_far : (k : Key) (g : ℕ → ℕ) (p : ℕ) → IsOwned k g p → 20 ≤ p
owned_far k g p (inl (inl h)) = (let a = h.1 in let b = h.3 in omega arith)
owned_far k g p (inl (inr h)) = (let a = h.5 in omega arith)
owned_far k g p (inr h) = (let a = h.4 in omega arith)

-- ---- the class

module _ {k : Key} {w : World} (r : Rule k w) (id : ℕ) {v : View} (at : get_elem? w.views id ≡ some v) (g' : ℕ → ℕ)
    (epoch : Epoch) (version : ℕ) (words : List RegistryWord) (rows : List Listed) (control_words : List RegistryWord)
    (round : Option Round) (clock : Clock) where
  -- the view afterwards
  abbrev pub registrant : View
  registrant = record v {
    epoch = epoch;
    rows = rows;
    control_words = control_words;
    round = round;
    learned = record v.learned { version = version; words = words };
    clock = clock;
  }

  -- the world afterwards
  abbrev pub registered_world : World
  registered_world = record w { registry = g'; views = set w.views id registrant }

  module _ (endures : Endures k w.registry g') where
    -- nothing that lasts has changed
    pub register_final : Kept r registered_world
    register_final = final_still r w.settled g' (set w.views id registrant) (omega arith) endures
        (links_set r id registrant at (λ a c h. h))

    -- what the pass has learned but for the registry is so
    pub registrant_facts : Facts k w.count w.dir w.log r.start registrant.learned
    registrant_facts = (let h = r.facts id v at in assumption h)

    module _ (state : ℕ → Epoch) (registry : RegistryHolds k w.count g' state r.version_of (set w.views id registrant)) where
      -- the rule is kept where the registry's part is
      unfoldable pub registers : Rule k registered_world
      registers = record {
        start = r.start;
        lane_of = r.lane_of;
        version_of = r.version_of;
        quota = r.quota;
        state = state;
        key_fits = r.key_fits;
        about = each_set _ w.views id registrant (λ j u ne at_u. r.about j u at_u) (r.about id v at);
        seats = seats_kept w.views id v registrant at refl refl r.seats;
        tails = each_set _ w.views id registrant (λ j u ne at_u. r.tails j u at_u) (r.tails id v at);
        space = space_still w.views id v registrant at refl refl r.space;
        limit = limit_views r.limit
            (may_kept w.views id v registrant at k.end r.quota refl refl (λ h. h) r.limit.may);
        settling = r.settling;
        floors = each_set _ w.views id registrant (λ j u ne at_u. r.floors j u at_u) (r.floors id v at);
        chains = chains_set r id registrant at (λ a c h. h) (λ a c h. h);
        chained = each_chained r register_final id registrant
            (let h = chained_later register_final (r.chained id v at) in
            record { nodes = h.nodes; least_previous = h.least_previous; least_heads = h.least_heads });
        own = each_set _ w.views id registrant (λ j u ne at_u. r.own j u at_u) (r.own id v at);
        facts = each_set _ w.views id registrant (λ j u ne at_u. r.facts j u at_u) registrant_facts;
        registry = registry;
        keyed = keyed_kept register_final r.version_of
            r.version_of (λ n below. refl) r.keyed (λ n below stored. (below, published (w.dir n) Stored stored));
        shuts = each_set _ w.views id registrant (λ j u ne at_u. r.shuts j u at_u) (r.shuts id v at);
        opens = each_set _ w.views id registrant (λ j u ne at_u. r.opens j u at_u) (r.opens id v at);
      }

      -- and all that lasts
      pub register_lasts : Final k r.start registers.start r.lane_of registers.lane_of w registered_world
      unfolding registers
      register_lasts = register_final
