-- `open_log`: the rule holds of an empty log with one pass.
use Rattle.std.proofs.Common.{◌≡◌, ℕ, ◌+◌, ◌-◌, ◌*◌, ◌<◌, ◌≤◌, zero, suc, List, [], ◌∷◌, slice_index, sym, refl, ap}
use Rattle.std.proofs.Common.{◌∙◌, subst, inl, ⊎_elim, arith}
use Rattle.std.proofs.Math.Decide.{dec_le, dec_lt}
use Rattle.fish_rule.proofs.basics.Context.{Epoch, Key, Rule, View, World, get_elem?, some}
use mathlib.Core.Option.{some-injective, some-ne-none}
use Rattle.atomic_table.specs.Table.{opening}
use Rattle.fish_layout.specs.Cleared.{choose}
use Rattle.fish_rule.proofs.basics.Bodies.{high-pack, low-pack, published}
use Rattle.fish_rule.proofs.basics.FirstBoundaries.{began, first_boundaries, owned_first, read_first}
use Rattle.fish_rule.proofs.basics.RegistryWords.{definitions_first}
use Rattle.fish_rule.proofs.basics.Worlds.{area-behind, area-in}
use Rattle.std.proofs.lemmas.List.{get_or_past}
use Rattle.fish_rule.specs.Chains.{Chained, IsLinking, IsStoredAt, Linked, LinksAt}
use Rattle.fish_rule.specs.declared.view.Kind.TheVariants.{Stored}
use Rattle.fish_rule.specs.Parts.{FitsTable, Flies, Limit, Regions, RestsAt, Space, first_head, quotas}
use Rattle.fish_rule.specs.Facts.{AreOpens, Facts, Owns, ShutOk}
use Rattle.fish_rule.specs.Start.{IsOpening, empty_world}
use Rattle.fish_rule.specs.within.Start.{IsEmpty}
use Rattle.fish_rule.specs.Table.{Ruled, IsOfMoment, first_view}
use Rattle.fish_rule.specs.Views.{AllOf, Each}
use Rattle.fish_rule.specs.World.{area, dir_at, heads_at, high, log_at, log_size, low, registry_size, slots}
use Rattle.fish_rule.specs.World.{world}
use Rattle.fish_catalog.proofs.Listings.{listing_of_catalog}
use Rattle.fish_catalog.specs.Listing.{IsListing}
use Rattle.fish_rule.specs.Epochs.{Carries, RegistryHolds, Stays, Versions}
use Rattle.fish_rule.specs.declared.view.Epoch.TheVariants.{Out}

-- where all words from an index on are 0, so is an area of them
area-zero : (ws : List ℕ) (from at base size : ℕ) → from ≤ at → ((i : ℕ) → from ≤ i → slice_index ws i ≡ 0) → (n : ℕ)
    → area ws at base size n ≡ 0
unfolding area
area-zero ws from at base size behind zeros n = by (dec_le base n) (dec_le (suc n) (base + size))
  where
    by : (d : Dec (base ≤ n)) (e : Dec (suc n ≤ base + size))
        → choose d (choose e (slice_index ws (at + (n - base))) 0) 0 ≡ 0
    by (no x) e = refl
    by (yes a) (no x) = refl
    by (yes a) (yes b) = zeros (at + (n - base)) (omega arith)

-- a list of one view has just that at index 0
at_one : (v u : View) (j : ℕ) → get_elem? (v ∷ []) j ≡ some u → (j ≡ 0) × (v ≡ u)
at_one v u zero at = (refl, some-injective v u at)
at_one v u (suc j) at = absurd (some-ne-none u (sym at))

-- what holds of the one view holds of each
each_one : (P : View → Type 0) (v : View) → P v → Each P (v ∷ [])
each_one P v here j u at = subst P (at_one v u j at).1 here

module _ (k : Key) (ws : List ℕ) (fits : FitsTable k) (empty : IsEmpty k ws) where
  -- the tail as its two parts
  packed : slice_index ws 0 ≡ k.line + k.number * 68719476736
  packed = (let e : k.number * 68719476736 + k.line ≡ k.line + k.number * 68719476736 = omega arith in empty.tail ∙ e)

  -- its number is the key's
  count_is : high (slice_index ws 0) ≡ k.number
  count_is = (let a = fits.some_lines in let b = fits.low_end in
      ap high packed ∙ high-pack k.number k.line (omega arith))

  -- and its line
  line_is : low (slice_index ws 0) ≡ k.line
  line_is = (let a = fits.some_lines in let b = fits.low_end in ap low packed ∙ low-pack k.number k.line (omega arith))

  -- no directory word is set
  dir_zero : (n : ℕ) → area ws (dir_at k) k.number (slots k) n ≡ 0
  dir_zero n = area-zero ws (dir_at k) (dir_at k) k.number (slots k) (omega arith) empty.zeros n

  -- and no word of the log
  log_zero : (p : ℕ) → area ws (log_at k) (k.line * 4) (log_size k) p ≡ 0
  log_zero p = area-zero ws (dir_at k) (log_at k) (k.line * 4) (log_size k) (omega arith) empty.zeros p

  -- the heads are those of the start
  head_first : (b : ℕ) → area ws heads_at 0 k.buckets b ≡ first_head k b
  head_first b = by (dec_lt b k.buckets)
    where
      by : Dec (b < k.buckets) → area ws heads_at 0 k.buckets b ≡ first_head k b
      by (yes less) =
          let minus : heads_at + (b - 0) ≡ heads_at + b = omega arith in
          area-in ws heads_at 0 k.buckets b (omega arith) (omega arith) ∙ ap (slice_index ws) minus
          ∙ empty.heads b less
      by (no more) =
          let size = fits.all_heads in
          area-behind ws heads_at 0 k.buckets b (omega arith)
          ∙ sym (get_or_past k.heads.value b 0 (omega arith))

  -- the words spell the empty world
  pub empty_words : world k ws (first_view k ∷ []) ≡ empty_world k (area ws 2 2 registry_size)
  empty_words = λ j. record {
    count = count_is j;
    line = line_is j;
    settled = empty.settled j;
    registry = area ws 2 2 registry_size;
    head = λ b. head_first b j;
    dir = λ n. dir_zero n j;
    log = λ p. log_zero p j;
    views = first_view k ∷ [];
  }

module _ (k : Key) (g : ℕ → ℕ) (fits : FitsTable k) (opening_ : IsOpening k.version k.number k.rows.value g) where
  -- the world at the start
  abbrev w : World
  w = empty_world k g

  -- no number is claimed
  none : (n : ℕ) → k.number ≤ n → n < k.number → ⊥
  none n above below = absurd (omega arith)

  -- there is no region
  abbrev start : ℕ → ℕ
  start _ = k.line

  -- and none claimed one
  abbrev lane_of : ℕ → ℕ
  lane_of _ = 0

  -- each lane may still claim past the end
  abbrev quota : ℕ → ℕ
  quota _ = 1

  -- no number is claimed, so no line is
  regions : Regions k w.count w.line start
  regions = record {
    some = omega arith;
    first = refl;
    last = refl;
    grows = λ n above below. absurd (none n above below);
    small = λ n above below. absurd (none n above below);
  }

  -- nothing is published or in flight
  space : Space k w.count w.line w.dir w.log w.views start lane_of
  space = record {
    regions = regions;
    finished = λ n above below set. absurd (none n above below);
    flying = λ n above below set. absurd (none n above below);
    flights = each_one (λ v. Flies k w.count w.dir w.log start lane_of v.lane v.flight) (first_view k) tt;
    alone = λ i j v u n at_i at_j f g. (at_one (first_view k) v i at_i).0 ∙ sym (at_one (first_view k) u j at_j).0;
    dir_below = λ n _. refl;
    dir_beyond = λ n _. refl;
    log_beyond = λ p _. refl;
  }

  -- no claim ends past the log's end
  limit : Limit k w.count w.views start quota
  limit = record {
    first = k.number;
    above = omega arith;
    within = omega arith;
    fits = fits.some_lines;
    past = λ n above below. absurd (none n above below);
    few = (let q : quotas quota 16 ≡ 16 = refl in omega arith);
    may = λ j v at l has may. refl;
  }

  -- no place is linked
  none_linked : (b p : ℕ) → ¬ Linked k w.dir w.log w.views b p
  none_linked b p h = ⊎_elim
      (λ (s : IsStoredAt k w.dir h.line). absurd (published 0 Stored s.stored refl))
      (λ (l : IsLinking h.line h.entry w.views). subst (λ (z : View). LinksAt h.line h.entry z.flight)
      (sym (at_one (first_view k) l.view l.seat l.at).1) l.links) h.shows

  -- every record would be of the start's version
  abbrev version_of : ℕ → ℕ
  version_of _ = k.version

  -- every lane is out
  abbrev state : ℕ → Epoch
  state _ = Out

  -- the start's version is the only one
  versions : Versions k k.number g version_of
  versions = record {
    from = (let z = opening_.version in omega arith);
    few = (let z = opening_.version in let few = opening_.few in omega arith);
    since = λ n above below. absurd (none n above below);
    upto = λ n above below. absurd (none n above below);
    listings = λ v reached. (let z = opening_.version in
        subst IsListing (sym (definitions_first k g v (omega arith)))
        (listing_of_catalog k.rows.value opening_.catalog));
    operations = λ v from less. (let z = opening_.version in absurd (omega arith));
    opened = opening_.opened;
    rows = λ id row there. let h = opening_.words id row there in
        (h.0, λ i above below. h.1 i below);
  }

  -- the registry's part
  registry : RegistryHolds k k.number g state version_of w.views
  registry = record {
    epochs = record { words = λ l above below. opening_.out l above below; past = λ l above below. tt };
    versions = versions;
    boundaries = first_boundaries k g opening_;
    each = each_one (Stays k k.number g state version_of)
        (first_view k) (record {
          tied = λ l has. ((λ _. refl), (λ _. refl));
          from = λ _. omega arith;
          since = tt;
          reached = omega arith;
          read = read_first k g opening_;
          unended = tt;
          control = λ _. record { version = sym opening_.version; definitions = began k g opening_; owned = owned_first k g opening_ };
          waits = tt;
        });
    flights = each_one (λ v. Carries k g version_of v.lane v.epoch v.flight) (first_view k) tt;
  }

  -- the rule holds
  pub empty_rule : Rule k w
  empty_rule = record {
    start = start;
    lane_of = lane_of;
    version_of = version_of;
    quota = quota;
    state = state;
    key_fits = fits;
    about = each_one (λ v. 1 ≤ v.lane → v.about ≡ k) (first_view k) (λ _. refl);
    seats = record {
      apart = λ i j v u l at_i at_j _ _. (at_one (first_view k) v i at_i).0 ∙ sym (at_one (first_view k) u j at_j).0;
      few = each_one (λ v. v.lane ≤ 16) (first_view k) (omega arith);
    };
    tails = each_one (λ v. v.lane ≡ 1 → v.out ≡ [] → RestsAt w.count w.line v.tail) (first_view k) (λ _ _. (refl, refl));
    space = space;
    limit = limit;
    settling = record { from = omega arith; within = omega arith; below = λ n above below. absurd (omega arith) };
    chains = λ b. record {
      some = inl refl;
      highest = λ p h. absurd (none_linked b p h);
      next = λ p h. absurd (none_linked b p h);
    };
    chained = each_one (λ v. Chained k w.dir w.log w.views w.head v.learned) (first_view k)
        (record { nodes = tt; least_previous = tt; least_heads = tt });
    floors = each_one (λ v. v.learned.settled ≤ k.number) (first_view k) (omega arith);
    own = each_one (λ v. Owns k w.count w.dir lane_of v.lane v.out v.own) (first_view k)
        (record {
          sound = λ o m. elim m [ ];
          complete = λ o has stored. absurd (none o.number stored.above stored.below);
        });
    facts = each_one (λ v. Facts k w.count w.dir w.log start v.learned) (first_view k)
        (record {
          counted = omega arith;
          found = tt;
          known = tt;
          records = tt;
          gaps = tt;
          labels = tt;
        });
    registry = registry;
    keyed = record { each = λ n above below stored. absurd (none n above below) };
    shuts = each_one (λ v. ShutOk k w.count w.dir start v.shut) (first_view k) tt;
    opens = each_one (λ v. AllOf (AreOpens k w.count w.dir lane_of) v.learned.opens) (first_view k) tt;
  }

-- the table of an empty log meets the rule
pub begins : (k : Key) → FitsTable k → (ws : List ℕ) → IsEmpty k ws → Ruled k (opening ws [] (first_view k))
begins k fits ws empty = record {
  wide = empty.wide;
  rule = subst (Rule k) (sym (empty_words k ws fits empty))
      (empty_rule k (area ws 2 2 registry_size) fits empty.registry);
}

-- the first pass's view stands
pub first_stands : (k : Key) → FitsTable k → (ws : List ℕ) → IsEmpty k ws → IsOfMoment (first_view k)
first_stands k fits ws empty = record {
  moment = empty_world k (area ws 2 2 registry_size);
  rule = empty_rule k (area ws 2 2 registry_size) fits empty.registry;
  seat = 0;
  at = refl;
}
