-- What a step leaves: the facts that stand after it because nothing that they speak of has changed.
use Rattle.std.proofs.Common.{◌≡◌, ◌≢◌, ℕ, ◌+◌, ◌-◌, ◌*◌, ◌<◌, ◌≤◌, suc, List, sym, ap, ◌∙◌, subst, arith, Some, None}
use Rattle.std.proofs.Common.{Option}
use Rattle.fish_layout.specs.Header.{lines_of}
use Rattle.std.proofs.Math.Decide.{dec_lt}
use Rattle.fish_rule.proofs.basics.Lists.{all_map}
use Rattle.fish_rule.specs.Chains.{Chained, IsLeastPrevious, IsKeyEntry}
use Rattle.fish_rule.specs.Parts.{InFlight, IsPublishedRegion, IsWholeFlight}
use Rattle.fish_rule.specs.Facts.{Facts, IsFound, IsFactKnown, IsRecorded, IsStoredBy, Owns, ShutOk}
use Rattle.fish_rule.specs.Regions.{HoldsRegion, code, kind_of}
use Rattle.fish_rule.proofs.basics.Context.{Final, Flight, Found, Key, Learned, World}
use Rattle.fish_rule.specs.Views.{Has}
use Rattle.fish_rule.specs.World.{body, high, low}
use Rattle.fish_rule.specs.Gaps.{IsKeyEntryOf, IsGap, IsLabel}
use Rattle.fish_rule.specs.declared.view.Gap.{Gap}
use Rattle.fish_rule.specs.declared.view.Label.{Label}
use Rattle.fish_layout.specs.Cleared.{entry_at}
use Rattle.fish_layout.specs.Entry.{entry_number, entry_place}
use Rattle.fish_rule.specs.declared.view.Kind.TheVariants.{Stored}
use Rattle.fish_rule.specs.declared.view.Known.{Known}
use Rattle.fish_rule.specs.declared.view.Own.{Own}
use Rattle.fish_rule.specs.declared.view.Recorded.{Recorded}
use Rattle.fish_rule.specs.declared.view.Shut.{Shut}
use Rattle.fish_rule.proofs.basics.RegistryWords.{active_later, keyed_map}
use Rattle.fish_rule.specs.Epochs.{Keyed}
use Rattle.fish_rule.specs.Keys.{IsKeyed}
use Rattle.fish_rule.specs.Registry.{AreActiveAt}
use Rattle.fish_rule.proofs.basics.Bodies.{published}

module _ {k : Key} {w w' : World} {start start' lane_of lane_of' : ℕ → ℕ}
    (f : Final k start start' lane_of lane_of' w w') where
  -- a published number stays so, with its region and words
  pub finished_later : (n : ℕ) → n < w.count → w.dir n ≢ 0 → IsPublishedRegion k w.dir w.log start lane_of n
      → IsPublishedRegion k w'.dir w'.log start' lane_of' n
  finished_later n below set h =
      let a : start' n ≡ start n = f.starts n (omega arith) in
      let b : start' (suc n) ≡ start (suc n) = f.starts (suc n) below in
      let e : body w'.log (start' n) ≡ body w.log (start n) = ap (body w'.log) a ∙ f.bodies n below set in
      let d = f.dirs n below set in
      let l = f.lanes n below in
      record {
        kind = subst (λ (z : ℕ × ℕ × ℕ). high z.0 ≡ code (kind_of k.end z.1 z.2))
            (λ i. (sym d i, sym a i, sym b i)) h.kind;
        line = subst (λ (z : ℕ × ℕ). low z.0 ≡ z.1) (λ i. (sym d i, sym a i)) h.line;
        lined = subst (λ (z : ℕ × ℕ × (ℕ → ℕ)). lines_of (z.2 0) ≤ z.1 - z.0)
            (λ i. (sym a i, sym b i, sym e i)) h.lined;
        holds = subst (λ (z : ℕ × ℕ × ℕ × (ℕ → ℕ)). HoldsRegion (kind_of k.end z.0 z.1) z.2 n (z.1 - z.0) z.3)
            (λ i. (sym a i, sym b i, sym l i, sym e i)) h.holds;
      }

  -- what was found stays so
  pub found_later : (x : Found) → IsFound k w.count w.dir start x → IsFound k w'.count w'.dir start' x
  found_later x h =
      let set = published (w.dir x.number) x.kind h.kind in
      let up = f.counts in
      let below = h.below in
      record {
        above = h.above;
        below = omega arith;
        kind = ap high (f.dirs x.number below set) ∙ h.kind;
        line = f.starts x.number (omega arith) ∙ h.line;
        lines = f.starts (suc x.number) below ∙ h.lines;
      }

  -- what was read stays so
  pub known_later : (x : Known) → IsFactKnown k w.count w.dir w.log start x → IsFactKnown k w'.count w'.dir w'.log start' x
  known_later x h =
      let n : ℕ = h.number in
      let up = f.counts in
      let below : n < w.count = h.below in
      let a : start' n ≡ start n = f.starts n (omega arith) in
      let b : start' (suc n) ≡ start (suc n) = f.starts (suc n) below in
      let d : w'.dir n ≡ w.dir n = f.dirs n below h.published in
      record {
        number = n;
        offset = h.offset;
        above = h.above;
        below = omega arith;
        published = λ e. h.published (sym d ∙ e);
        inside = subst (λ (z : ℕ × ℕ). h.offset < (z.1 - z.0) * 4) (λ i. (sym a i, sym b i)) h.inside;
        place = h.place ∙ ap (λ (z : ℕ). z * 4 + h.offset) (sym a);
        word = ap (λ (z : ℕ). body w'.log z h.offset) a
            ∙ ap (λ (e : ℕ → ℕ). e h.offset) (f.bodies n below h.published) ∙ h.word;
      }

  -- what was stored stays so
  pub recorded_later : (x : Recorded) → IsRecorded k w.count w.dir w.log start x
      → IsRecorded k w'.count w'.dir w'.log start' x
  recorded_later x h =
      let set = published (w.dir x.number) Stored h.stored in
      let up = f.counts in
      let below = h.below in
      record {
        above = h.above;
        below = omega arith;
        stored = ap high (f.dirs x.number below set) ∙ h.stored;
        words = ap (body w'.log) (f.starts x.number (omega arith)) ∙ f.bodies x.number below set ∙ h.words;
      }

  -- an entry of a published number was one before
  pub entry_before : (b n c p : ℕ) → n < w.count → w.dir n ≢ 0 → IsKeyEntryOf k w'.dir w'.log (start' n) b n c p
      → IsKeyEntryOf k w.dir w.log (start n) b n c p
  entry_before b n c p below set h =
      let a : start' n ≡ start n = f.starts n (omega arith) in
      let e : body w'.log (start' n) ≡ body w.log (start n) = ap (body w'.log) a ∙ f.bodies n below set in
      record {
        above = h.above;
        stored = sym (ap high (f.dirs n below set)) ∙ h.stored;
        is = subst (λ (z : (ℕ → ℕ) × ℕ). IsKeyEntry k.buckets z.0 b p z.1 c) (λ i. (e i, a i)) h.is;
      }

  -- where no entry was, none is
  pub gap_later : (x : Gap) → IsGap k w.count w.dir w.log start x → IsGap k w'.count w'.dir w'.log start' x
  gap_later x h =
      let up = f.counts in
      let end = h.within in
      record {
        within = omega arith;
        published = λ n above less e. h.published n above less
            (sym (f.dirs n (omega arith) (h.published n above less)) ∙ e);
        empty = λ n c p less is. h.empty n c p less
            (entry_before x.bucket n c p (omega arith) (h.published n is.above less) is);
      }

  -- what a second word told stays so
  pub label_later : (x : Label) → IsLabel k w.count w.dir w.log start x
      → IsLabel k w'.count w'.dir w'.log start' x
  label_later x h =
      let up = f.counts in
      let n : ℕ = entry_number x.word in
      let below : n < w.count = h.below in
      let a : start' n ≡ start n = f.starts n (omega arith) in
      record {
        above = h.above;
        below = omega arith;
        place = h.place ∙ ap (λ (z : ℕ). z * 4 + entry_at (entry_place x.word)) (sym a);
        inside = subst (λ (z : ℕ). x.place < z * 4) (sym (f.starts (suc n) below)) h.inside;
        settled = λ less e. h.settled less (sym (f.dirs n below (h.settled less)) ∙ e);
        word = λ less. ap (λ (z : ℕ). body w'.log z (entry_at (entry_place x.word) + 1)) a
            ∙ ap (λ (e : ℕ → ℕ). e (entry_at (entry_place x.word) + 1)) (f.bodies n below (h.settled less))
            ∙ h.word less;
      }

  -- all that a pass has learned stays so
  pub facts_later : {l : Learned} → Facts k w.count w.dir w.log start l → Facts k w'.count w'.dir w'.log start' l
  facts_later {l} h =
      let up = f.counts in
      let c = h.counted in
      record {
        counted = omega arith;
        found = all_map (IsFound k w.count w.dir start) (IsFound k w'.count w'.dir start') found_later l.found h.found;
        known = all_map (IsFactKnown k w.count w.dir w.log start)
            (IsFactKnown k w'.count w'.dir w'.log start') known_later l.known h.known;
        records = all_map (IsRecorded k w.count w.dir w.log start)
            (IsRecorded k w'.count w'.dir w'.log start') recorded_later l.records h.records;
        gaps = all_map (IsGap k w.count w.dir w.log start)
            (IsGap k w'.count w'.dir w'.log start') gap_later l.gaps h.gaps;
        labels = all_map (IsLabel k w.count w.dir w.log start)
            (IsLabel k w'.count w'.dir w'.log start') label_later l.labels h.labels;
      }

  -- the claim that shut a pass stays a mark
  pub shut_later : (s : Option Shut) → ShutOk k w.count w.dir start s → ShutOk k w'.count w'.dir start' s
  shut_later None h = h
  shut_later (Some s) h = record { number = h.number; end = h.end; past = h.past; mark = found_later _ h.mark }

  -- a record in flight stays so while its directory word and its words are left, and its lane claims nothing
  pub flight_later : (lane : ℕ) (g : Flight) → InFlight k w.count w.dir w.log start lane_of lane g → w'.dir g.number ≡ 0
      → ((n : ℕ) → w.count ≤ n → n < w'.count → lane_of' n ≢ lane)
      → ((i : ℕ) → i < g.lines * 4 → w'.log (g.line * 4 + i) ≡ w.log (g.line * 4 + i))
      → (0 < g.linked → IsWholeFlight k w'.log lane g) → InFlight k w'.count w'.dir w'.log start' lane_of' lane g
  flight_later lane g h dir unclaimed same whole =
      let up = f.counts in
      let below = h.below in
      let short = h.short in
      record {
        above = h.above;
        below = omega arith;
        line = f.starts g.number (omega arith) ∙ h.line;
        lines = f.starts (suc g.number) below ∙ h.lines;
        unpublished = dir;
        owner = f.lanes g.number below ∙ h.owner;
        latest = λ n more less. last n more less (dec_lt n w.count);
        live = h.live;
        short = short;
        written = λ i less plain. same i (omega arith) ∙ h.written i less plain;
        unwritten = λ i more less. same i less ∙ h.unwritten i more less;
        whole = whole;
        header = h.header;
      }
    where
      last : (n : ℕ) → g.number < n → n < w'.count → Dec (n < w.count) → lane_of' n ≢ lane
      last n more less (yes old) = λ e. h.latest n more old (sym (f.lanes n old) ∙ e)
      last n more less (no new) = unclaimed n (omega arith) less

  -- a record of a lane stays one
  pub stored_later : (l n : ℕ) → IsStoredBy k w.count w.dir lane_of l n → IsStoredBy k w'.count w'.dir lane_of' l n
  stored_later l n h =
      let set = published (w.dir n) Stored h.stored in
      let up = f.counts in
      let below = h.below in
      record {
        above = h.above;
        below = omega arith;
        stored = ap high (f.dirs n below set) ∙ h.stored;
        lane = f.lanes n below ∙ h.lane;
      }

  -- and one that was published before was one before
  pub stored_before : (l n : ℕ) → n < w.count → w.dir n ≢ 0 → IsStoredBy k w'.count w'.dir lane_of' l n
      → IsStoredBy k w.count w.dir lane_of l n
  stored_before l n below set h = record {
    above = h.above;
    below = below;
    stored = ap high (sym (f.dirs n below set)) ∙ h.stored;
    lane = sym (f.lanes n below) ∙ h.lane;
  }

  -- own numbers stay exact where every record of the pass's lanes was published before
  pub owns_later : (lane : ℕ) (out : List ℕ) (own : List Own) → Owns k w.count w.dir lane_of lane out own
      → ((o : Own) → Has lane out o.lane → IsStoredBy k w'.count w'.dir lane_of' o.lane o.number
      → (o.number < w.count) × (w.dir o.number ≢ 0))
      → Owns k w'.count w'.dir lane_of' lane out own
  owns_later lane out own h before = record {
    sound = λ o m. let s = h.sound o m in (s.0, stored_later o.lane o.number s.1);
    complete = λ o has stored. let b = before o has stored in
        h.complete o has (stored_before o.lane o.number b.0 b.1 stored);
  }

  -- what is known of chains stays so
  pub chained_later : {l : Learned} → Chained k w.dir w.log w.views w.head l
      → Chained k w'.dir w'.log w'.views w'.head l
  chained_later {l} h = record {
    nodes = all_map _ _ (λ x m. f.links x.bucket x.place m) l.nodes h.nodes;
    least_previous = all_map (IsLeastPrevious k w.dir w.log w.views) (IsLeastPrevious k w'.dir w'.log w'.views)
        (λ x m. record {
          bucket = m.bucket;
          linked = f.links m.bucket x.place m.linked;
          low = (let a = m.low in let b = f.rises m.bucket x.place m.linked in omega arith);
        }) l.least_previous h.least_previous;
    least_heads = all_map _ _ (λ x m. let b = f.heads x.bucket in omega arith) l.least_heads h.least_heads;
  }

  -- the keys of a published record stay those of its version
  pub keyed_later : (version_of version_of' : ℕ → ℕ) → ((n : ℕ) → n < w.count → version_of' n ≡ version_of n) → (n : ℕ)
      → n < w.count → w.dir n ≢ 0
      → IsKeyed (AreActiveAt k w.registry) (version_of n) (lane_of n) n (start (suc n) - start n)
      (body w.log (start n))
      → IsKeyed (AreActiveAt k w'.registry) (version_of' n) (lane_of' n) n (start' (suc n) - start' n)
      (body w'.log (start' n))
  keyed_later version_of version_of' versions n below set h =
      let a : start' n ≡ start n = f.starts n (omega arith) in
      let b : start' (suc n) ≡ start (suc n) = f.starts (suc n) below in
      let e : body w'.log (start' n) ≡ body w.log (start n) = ap (body w'.log) a ∙ f.bodies n below set in
      let l = f.lanes n below in
      let u = versions n below in
      subst (λ (z : ℕ × ℕ × ℕ × ℕ × (ℕ → ℕ)).
      IsKeyed (AreActiveAt k w'.registry) z.0 z.1 n (z.3 - z.2) z.4)
      (λ i. (sym u i, sym l i, sym a i, sym b i, sym e i))
      (keyed_map (AreActiveAt k w.registry) (AreActiveAt k w'.registry)
      (active_later k w.registry w'.registry f.registered) (version_of n) (lane_of n) n
      (start (suc n) - start n) (body w.log (start n)) h)

  -- all records have the keys of their versions where no record is new
  pub keyed_kept : (version_of version_of' : ℕ → ℕ) → ((n : ℕ) → n < w.count → version_of' n ≡ version_of n)
      → Keyed k w.count w.registry w.dir w.log start lane_of version_of
      → ((n : ℕ) → n < w'.count → high (w'.dir n) ≡ code Stored → (n < w.count) × (w.dir n ≢ 0))
      → Keyed k w'.count w'.registry w'.dir w'.log start' lane_of' version_of'
  keyed_kept version_of version_of' versions h before = record {
    each = λ n above below stored. let b = before n below stored in
        keyed_later version_of version_of' versions n b.0 b.1
        (h.each n above b.0 (ap high (sym (f.dirs n b.0 b.1)) ∙ stored));
  }
