-- Boundaries of indices, and the registration that waits, where other words of the registry change.
use Rattle.std.proofs.Common.{◌≡◌, ℕ, ◌<◌, ◌≤◌, List, length, sym, ap, ◌∙◌, subst, arith, Some, None, Option}
use Rattle.fish_catalog.specs.declared.listed.Listed.{Listed}
use Rattle.fish_rule.proofs.basics.Lists.{all_map}
use Rattle.fish_rule.proofs.basics.RegistryWords.{definitions_later}
use Rattle.fish_rule.specs.Boundaries.{Boundaries, IsOpenIn, IsUnended, Lists}
use Rattle.fish_rule.specs.Epochs.{IsAtMost, Versions}
use Rattle.fish_rule.specs.Registry.{Endures, HasBoundary, definitions_at, row_at, version_in}
use Rattle.fish_rule.specs.Rounds.{IsSince, Waits}
use Rattle.fish_rule.specs.Views.{AllOf}
use Rattle.fish_rule.proofs.basics.Context.{Epoch, Key}
use Rattle.fish_rule.specs.declared.view.Epoch.TheVariants.{Announced, Confirmed, Out}
use Rattle.fish_rule.specs.declared.view.Round.{Round}
use Rattle.fish_rule.specs.declared.view.Unended.{Unended}

module _ (k : Key) (g g' : ℕ → ℕ) (e : Endures k g g') where
  -- as many definitions as before
  pub same_length : (v : ℕ) → v ≤ version_in g → length (definitions_at k g' v) ≡ length (definitions_at k g v)
  same_length v reached = ap (λ (z : List Listed). length z) (definitions_later k g g' e v reached)

  -- a definition that is listed there is so
  pub listed_later : (id v : ℕ) → v ≤ version_in g → id < length (definitions_at k g v)
      → id < length (definitions_at k g' v)
  listed_later id v reached h = (let same = same_length v reached in omega arith)

  -- one that had not ended had not
  pub open_later : (id v : ℕ) → v ≤ version_in g → IsOpenIn (definitions_at k g v) id → IsOpenIn (definitions_at k g' v) id
  open_later id v reached h = subst (λ (z : List Listed). IsOpenIn z id) (sym (definitions_later k g g' e v reached)) h

  -- a confirmed version lists what it listed
  pub lists_later : (id : ℕ) (o : Epoch) → IsAtMost (version_in g) o → Lists k g id o → Lists k g' id o
  lists_later id Out most h = h
  lists_later id (Announced u) most h = h
  lists_later id (Confirmed u) most h = listed_later id u most h

  -- what a pass knows of ends stays so, where no record's version is past the registry's
  pub unended_later : (count : ℕ) (version_of : ℕ → ℕ) → Versions k count g version_of → (xs : List Unended)
      → AllOf (IsUnended k count g version_of) xs → AllOf (IsUnended k count g' version_of) xs
  unended_later count version_of versions xs h = all_map (IsUnended k count g version_of)
      (IsUnended k count g' version_of)
      (λ x m. record {
        within = m.within;
        running = λ n above below. (let within = m.within in
            open_later x.id (version_of n) (versions.upto n above (omega arith)) (m.running n above below));
        opened = m.opened;
      }) xs h

  -- a registration waits on, where its boundary word is the same and no lane is confirmed at a version before one at
  -- which it was
  pub waits_later : (count : ℕ) (state state' : ℕ → Epoch) (version_of : ℕ → ℕ) (lane : ℕ)
      → ((id : ℕ) → id < 256 → g' (row_at id 0) ≡ g (row_at id 0))
      → ((l s : ℕ) → 1 ≤ l → l ≤ 16 → s ≤ version_in g → IsSince s (state l) → IsSince s (state' l))
      → (o : Option Round) → Waits k count g state version_of lane o → Waits k count g' state' version_of lane o
  waits_later count state state' version_of lane same since None h = h
  waits_later count state state' version_of lane same since (Some o) h = record {
    control = h.control;
    few = h.few;
    reached = (let a = h.reached in let b = e.rises in omega arith);
    listed = listed_later o.id o.version h.reached h.listed;
    unset = same o.id h.few ∙ h.unset;
    clear = λ l above below among. since l o.version above below h.reached (h.clear l above below among);
    bound = h.bound;
  }

  -- boundaries stay where their words do, and the version
  pub boundaries_later : (count : ℕ) (state state' : ℕ → Epoch) (version_of : ℕ → ℕ)
      → version_in g' ≡ version_in g → ((id i : ℕ) → id < 256 → i < 2 → g' (row_at id i) ≡ g (row_at id i))
      → ((id n l : ℕ) → id < 256 → HasBoundary g id 0 n → 1 ≤ l → l ≤ 16 → Lists k g' id (state' l))
      → Versions k count g version_of → Boundaries k count g state version_of
      → Boundaries k count g' state' version_of
  boundaries_later count state state' version_of still same lists versions h = record {
    unmade = λ id i more few bound. (let size = same_length (version_in g) (omega arith) in
        let now : length (definitions_at k g' (version_in g')) ≡ length (definitions_at k g' (version_in g)) =
        ap (λ (z : ℕ). length (definitions_at k g' z)) still in
        same id i few bound ∙ h.unmade id i (omega arith) few bound);
    in_order = λ id few none. same id 1 few (omega arith)
        ∙ h.in_order id few (sym (same id 0 few (omega arith)) ∙ none);
    claimed = λ id i n few bound is. h.claimed id i n few bound (sym (same id i few bound) ∙ is);
    after = λ id from to few begins ends. h.after id from to few (sym (same id 0 few (omega arith)) ∙ begins)
        (sym (same id 1 few (omega arith)) ∙ ends);
    opened = λ id row few there. let o = h.opened id row few there in record {
      clamped = o.clamped;
      stays = λ i n bound e. same id i few bound ∙ o.stays i n bound e;
    };
    early = λ id i n few bound is. h.early id i n few bound (sym (same id i few bound) ∙ is);
    entered = λ id n l few is above below. lists id n l few (sym (same id 0 few (omega arith)) ∙ is) above below;
    begun = λ id from n few is above after below.
        listed_later id (version_of n) (versions.upto n above below)
        (h.begun id from n few (sym (same id 0 few (omega arith)) ∙ is) above after below);
    unended = λ id to n few is above before below.
        open_later id (version_of n) (versions.upto n above below)
        (h.unended id to n few (sym (same id 1 few (omega arith)) ∙ is) above before below);
    running = λ id v few none reached.
        open_later id v (omega arith)
        (h.running id v few (sym (same id 1 few (omega arith)) ∙ none) (omega arith));
  }
