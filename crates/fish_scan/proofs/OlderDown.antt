-- Down a chain below the base, entry by entry.
use Rattle.std.proofs.Common.{◌≡◌, ℕ, ◌+◌, ◌*◌, ◌^◌, ◌≤◌, List, [], ◌∷◌, ◌++◌, length, inl, inr, refl, sym, ap, ◌∙◌}
use Rattle.std.proofs.Common.{subst, arith, append-nil, append_assoc}
use Rattle.fish_cold.specs.Answers.{IsNodeOf}
use Rattle.fish_cold.specs.Carries.{IsPrior, IsPriorRecord}
use Rattle.fish_cold.specs.declared.node.ColdNode.{ColdNode}
use Rattle.fish_image.specs.Newest.{IsAmong}
use Rattle.fish_image.specs.Reached.{Reached, head_of}
use Rattle.fish_lang.specs.Definition.{Definition}
use Rattle.fish_layout.specs.Hash.{bucket_in, key_hash_of}
use Rattle.fish_layout.specs.declared.parts.BodyParts.{BodyParts}
use Rattle.fish_layout.specs.declared.parts.KeyPart.{KeyPart}
use Rattle.fish_cold.specs.Chains.{IsKeyAt}
use Rattle.fish_rule.proofs.laws.Lists.{among_left, among_right}
use Rattle.fish_rule.specs.Views.{Among}
use Rattle.fish_scan.proofs.Lists.{among_last, length_more}
use Rattle.fish_scan.proofs.OlderFinding.{AreCovered, IsFinding, find_end, find_pass, find_start, find_take, row_of}
use Rattle.fish_scan.proofs.OlderLoads.{IsDescended, entries_lower, entries_more, older_words_more, records_lower, records_more}
use Rattle.fish_scan.proofs.PriorChains.{IsHere, IsOn, on_start}
use Rattle.fish_scan.proofs.PriorRecords.{prior_number}
use Rattle.fish_scan.specs.within.OlderReading.{IsPayloadAt, IsVisit, Passes, TakesNode}
use Rattle.fish_scan.specs.within.Older.{FindsOlder}
use Rattle.fish_scan.specs.OlderWork.{AreOlderRecords, IsOlderEntry, IsOlderIndexAllowed, older_words}
use Rattle.fish_value.specs.declared.row.Row.{Row}
use Rattle.fish_value.specs.declared.value.Value.{Value}

module _ {image : List ℕ} {count : ℕ} {end : Reached} (prior : IsPrior image count end) (b id : ℕ) (def : Definition) (value : Value)
    (from to : ℕ) where
  -- the bucket is the value's, and each record of the range has its key entries by the definition
  abbrev pub IsOwn : Type 0
  IsOwn = (b ≡ bucket_in (key_hash_of id value) (2 ^ prior.commit.bucket_bits)) × AreCovered prior b id def value from to

  -- what was found of the entries that were passed, and loaded for them
  pub record HasFound (rest : List (ℕ × ℕ)) (place below top : ℕ) (before after : List Row) (old now : ℕ) : Type 0 where
    pub new : List Row
    pub loaded : IsDescended prior b from to place top before after new old now
    pub finding : IsFinding prior b id def value from to rest below top new

  -- a walk stands at a place
  pub record IsDown (place below top : ℕ) (before after : List Row) (old now : ℕ) : Type 0 where
    pub on : IsOn prior b place below
    pub found : IsOwn → HasFound on.rest place below top before after old now

  -- at the head nothing is found
  pub down_start : (place : ℕ) (rows : List Row) (old : ℕ) → place ≡ head_of end.places b → IsDown place count to rows rows old old
  down_start place rows old at = record {
    on = on_start prior b place at;
    found = λ own. record {
      new = [];
      loaded = record {
        added = sym (append-nil rows);
        high = place + 1;
        entries = [];
        linked = omega arith;
        records = [];
        are = omega arith;
        given = λ p m. elim m [ ];
        few = omega arith;
      };
      finding = find_start prior b id def value from to count;
    };
  }

  module _ (place below top : ℕ) (before rows : List Row) (old now : ℕ) (down : IsDown place below top before rows old now)
      (here : IsHere prior b place below down.on) (node : ColdNode) (least : from ≤ here.parts.number)
      (is : IsNodeOf place here.parts here.place_in here.key node) (mid : ℕ) (walked : mid ≤ now + 38) where
    number_is : node.number ≡ here.number
    number_is = is.number ∙ prior_number prior here.number here.parts here.at.stored

    -- the entry is one of those that were passed
    entry : IsOlderEntry prior b from place
    entry = (let same = prior_number prior here.number here.parts here.at.stored in record {
      number = here.number;
      parts = here.parts;
      place_in = here.place_in;
      key = here.key;
      at = here.at;
      from = omega arith;
    })

    -- it gave no row
    down_pass : (after : List Row) (late last : ℕ) → Passes node id value top rows after mid late last
        → IsDown here.key.prev (here.number + 1) last before after old late
    down_pass after late last p = record {
      on = here.next;
      found = λ own.
          let f = down.found own in
          let l = f.loaded in
          let lower = here.lower in
          let longer = length_more l.entries place in
          let few = l.few in
          let none = p.none in
          let same : top ≡ last = sym p.last_is in
          subst (λ (z : ℕ). HasFound here.next.rest here.key.prev (here.number + 1) z before after old late) same (record {
            new = f.new;
            loaded = record {
              added = p.same ∙ l.added;
              high = l.high;
              entries = l.entries ++ place ∷ [];
              linked = entries_more prior b from (place + 1) l.high place (here.key.prev + 1) l.entries l.linked (omega arith)
                  (omega arith) entry;
              records = l.records;
              are = l.are;
              given = l.given;
              few = omega arith;
            };
            finding = find_pass prior b id def value from to place below top down.on here f.new f.finding
                (λ less one two. p.other (let e = number_is in omega arith) (is.id ∙ one) (is.value ∙ two));
          });
    }

    -- or its record's row
    down_take : (after : List Row) (late last : ℕ) (told : List ℕ → ℕ → ℕ → Type 0)
        → (t : TakesNode node id value top rows after mid late told last) → IsPayloadAt here.parts t.payload mid late
        → IsDown here.key.prev (here.number + 1) last before after old late
    down_take after late last told t payload = record {
      on = here.next;
      found = λ own.
          let f = down.found own in
          let l = f.loaded in
          let lower = here.lower in
          let longer = length_more l.entries place in
          let few = l.few in
          let words = payload.few in
          let more = older_words_more l.records here.parts in
          let number = number_is in
          let parts_number = prior_number prior here.number here.parts here.at.stored in
          let below_top = t.below in
          let row = row_of here.number t.payload in
          let last_is : here.number ≡ last = sym (t.last_is ∙ number_is) in
          let added : after ≡ rows ++ row ∷ [] =
          t.added ∙ ap (λ (z : ℕ). rows ++ row_of z t.payload ∷ []) number_is in
          subst (λ (z : ℕ). HasFound here.next.rest here.key.prev (here.number + 1) z before after old late) last_is (record {
            new = f.new ++ row ∷ [];
            loaded = record {
              added = added ∙ ap (λ (z : List Row). z ++ row ∷ []) l.added ∙ append_assoc before f.new (row ∷ []);
              high = l.high;
              entries = l.entries ++ place ∷ [];
              linked = entries_more prior b from (place + 1) l.high place (here.key.prev + 1) l.entries l.linked (omega arith)
                  (omega arith) entry;
              records = l.records ++ here.parts ∷ [];
              are = records_lower prior here.number here.parts.number to (l.records ++ here.parts ∷ []) (omega arith)
                  (records_more prior top to l.records here.parts l.are (omega arith)
                  (subst (λ (z : ℕ). IsPriorRecord prior z here.parts) (sym parts_number) here.at.stored));
              given = λ p m. given f.new l.records l.given row (sym parts_number) p m;
              few = omega arith;
            };
            finding = find_take prior b id def value from to place below top down.on here own.1 f.new (f.new ++ row ∷ []) t.payload
                f.finding (omega arith) (omega arith) (sym is.id ∙ t.id_is) (sym is.value ∙ t.value_is) payload.is refl;
          });
    }
      where
        given : (new : List Row) (records : List BodyParts)
            → ((p : BodyParts) → Among p records → (row : Row) × Among row new × (row.number ≡ p.number)) → (row : Row)
            → row.number ≡ here.parts.number → (p : BodyParts) → Among p (records ++ here.parts ∷ [])
            → (other : Row) × Among other (new ++ row ∷ []) × (other.number ≡ p.number)
        given new records all row same p m = elim (among_last p here.parts records m) [
          | inl one ↦ (let g = all p one in (g.0, among_left g.0 new (row ∷ []) g.1, g.2))
          | inr e ↦ (row, among_right row new (row ∷ []) (inl refl), same ∙ ap (λ (z : BodyParts). z.number) e)
        ]

    pub down_next : (after : List Row) (late last : ℕ) (told : List ℕ → ℕ → ℕ → Type 0)
        → ((payload : List ℕ) → told payload mid late → IsPayloadAt here.parts payload mid late)
        → IsVisit node id value top rows after mid late told last
        → IsDown node.prev (node.number + 1) last before after old late
    down_next after late last told tells visit =
        subst (λ (z : ℕ × ℕ). IsDown z.0 (z.1 + 1) last before after old late) (λ i. (sym is.prev i, sym number_is i)) (by visit)
      where
        by : IsVisit node id value top rows after mid late told last
            → IsDown here.key.prev (here.number + 1) last before after old late
        by (inl t) = down_take after late last told t (tells t.payload t.payload_is)
        by (inr p) = down_pass after late last p

  -- none of the records of rows is below the range
  lowest : (new : List Row) → ((row : Row) → Among row new → from ≤ row.number) → (low high : ℕ) (ps : List BodyParts)
      → AreOlderRecords prior low high ps → from ≤ high
      → ((p : BodyParts) → Among p ps → (row : Row) × Among row new × (row.number ≡ p.number))
      → AreOlderRecords prior from high ps
  lowest new least low high [] are some given = some
  lowest new least low high (p ∷ ps) are some given = (
    are.0,
    are.1,
    lowest new least low p.number ps are.2
        (let g = given p (inl refl) in let above = least g.0 g.1 in let same = g.2 in omega arith) (λ q m. given q (inr m)),
  )

  -- nothing is left of the range: the rows are all
  pub down_end : (place below top : ℕ) (before after : List Row) (old now late : ℕ) → to ≤ count → late ≤ now + 1 → from ≤ to
      → (down : IsDown place below top before after old now) → IsOwn
      → ((q n : ℕ) (p : BodyParts) (j : ℕ) (key : KeyPart) → IsKeyAt prior b q n p j key → IsAmong down.on.rest b q → from ≤ n → ⊥)
      → (new : List Row) × (after ≡ before ++ new) × FindsOlder end.entries def value from to new
      × ((most : ℕ) × IsOlderIndexAllowed prior b after from to most × (late ≤ old + most))
  down_end place below top before after old now late few one some down own none =
      let f = down.found own in
      let l = f.loaded in
      let loads = l.few in
      let finds = find_end prior b id def value from to own.1 own.0 few down.on.rest below top f.new f.finding none in (
        f.new,
        l.added,
        finds,
        (
          38 * length l.entries + older_words l.records + 1,
          record {
            top = l.high;
            entries = l.entries;
            linked = entries_lower prior b from (place + 1) 0 l.high l.entries (omega arith) l.linked;
            records = l.records;
            are = lowest f.new f.finding.least top to l.records l.are some l.given;
            given = λ p m. let g = l.given p m in
                (g.0, subst (Among g.0) (sym l.added) (among_right g.0 before f.new g.1), g.2);
            few = omega arith;
          },
          omega arith,
        ),
      )
