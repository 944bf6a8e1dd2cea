-- What a walk down a bucket's chain loads.
use Rattle.std.proofs.Common.{◌≡◌, ℕ, ◌+◌, ◌*◌, ◌≤◌, suc, List, [], ◌∷◌, ◌++◌, length, sym, ◌∙◌, subst, arith}
use Rattle.std.proofs.Common.{Option, Some, None, length-append}
use Rattle.std.proofs.lemmas.List.{append_cancel_left}
use Rattle.fish_chain.proofs.Passing.{down_later, entry_later}
use Rattle.fish_chain.specs.Walks.{IsBounded, LeadDown}
use Rattle.fish_chain.specs.declared.walk.Node.{Node}
use Rattle.fish_lang.specs.Definition.{Definition}
use Rattle.fish_rule.proofs.laws.Lists.{among_right}
use Rattle.fish_rule.proofs.laws.Learning.{learns_both, learns_self}
use Rattle.fish_rule.specs.Logs.{Learns}
use Rattle.fish_rule.specs.Views.{Among}
use Rattle.fish_rule.specs.declared.table.Walk.{Walk}
use Rattle.fish_rule.specs.declared.view.View.{View}
use Rattle.fish_scan.proofs.Loading.{loaded_both, loaded_none, loaded_within, rises_both, rises_within, rows_fall, rows_given}
use Rattle.fish_scan.proofs.Loading.{rows_later}
use Rattle.fish_scan.specs.Indices.{bucket_of_value}
use Rattle.fish_scan.specs.within.Reading.{Adds}
use Rattle.fish_scan.specs.Work.{AreEntries, RisesBy, words_of_found}
use Rattle.fish_scan.specs.within.Work.{AreRecordsOf, HasLoadedRows, IsIndexWork}
use Rattle.fish_value.specs.declared.row.Row.{Row}
use Rattle.fish_value.specs.declared.value.Value.{Value}

-- ---- entries

-- entries stay known
pub entries_later : (v u : View) (b first low high : ℕ) (places : List ℕ) → Learns v u → AreEntries v b first low high places
    → AreEntries u b first low high places
entries_later v u b first low high [] learns h = h
entries_later v u b first low high (p ∷ places) learns h =
    (h.0, entry_later v u b first p learns h.1, entries_later v u b first low p places learns h.2)

-- entries below a place are below a higher one
entries_below : (v : View) (b first low m n : ℕ) (places : List ℕ) → m ≤ n → AreEntries v b first low m places
    → AreEntries v b first low n places
entries_below v b first low m n [] less h = omega arith
entries_below v b first low m n (p ∷ places) less h = ((let a = h.0 in omega arith), h.1, h.2)

-- entries above a place are above a lower one
pub entries_above : (v : View) (b first m n high : ℕ) (places : List ℕ) → m ≤ n → AreEntries v b first n high places
    → AreEntries v b first m high places
entries_above v b first m n high [] less h = omega arith
entries_above v b first m n high (p ∷ places) less h = (h.0, h.1, entries_above v b first m n p places less h.2)

-- entries above a place, and after them those below it
pub entries_both : (v : View) (b first low mid high : ℕ) (ps qs : List ℕ) → AreEntries v b first mid high ps
    → AreEntries v b first low mid qs → AreEntries v b first low high (ps ++ qs)
entries_both v b first low mid high [] qs h g = entries_below v b first low mid high qs h g
entries_both v b first low mid high (p ∷ ps) qs h g = (h.0, h.1, entries_both v b first low mid p ps qs h.2 g)

-- those that a walk passed from one place down to another
pub entries_passed : (v : View) (b first from to : ℕ) (places : List ℕ) → LeadDown v b first from to places
    → AreEntries v b first (suc to) (suc from) places
entries_passed v b first from to [] e = omega arith
entries_passed v b first from to (p ∷ places) h =
    let is = h.0 in
    let next = h.2 in
    let less = next.1 in (
      omega arith,
      h.1,
      entries_below v b first (suc to) (suc next.0) p places less
          (entries_passed v b first next.0 to places next.2),
    )

-- ---- a walk

-- going down a bucket's chain to a place a walk passed these entries, and the rows that it found came after others
pub record IsDescent (v u : View) (bucket first place : ℕ) (before after : List Row) (old new : ℕ) : Type 0 where
  pub top : ℕ
  pub entries : List ℕ
  pub linked : AreEntries u bucket first (suc place) top entries
  pub loaded : HasLoadedRows v u before after old new (38 * length entries + 1)

-- at the head nothing is passed, and one word is loaded
pub descent_start : (v u : View) (bucket first place : ℕ) (rows : List Row) (old new : ℕ) → new ≡ old + 1
    → u.clock.loads ≡ v.clock.loads + 1 → IsDescent v u bucket first place rows rows old new
descent_start v u bucket first place rows old new loads own = record {
  top = suc place;
  entries = [];
  linked = omega arith;
  loaded = loaded_none v u rows old new 1 (record { counted = omega arith; own = omega arith });
}

-- what a walk loaded between two entries
walked : (m u : View) (old new n : ℕ) → new + m.clock.loads ≡ old + u.clock.loads → u.clock.loads ≤ m.clock.loads + n
    → RisesBy m u old new n
walked m u old new n same few = record { counted = omega arith; own = few }

-- the entries that a walk passed further down
passed_more : (v m u t : View) (walk : Walk) (bucket first place : ℕ) (given : Option Node) (top : ℕ) (entries : List ℕ)
    → Learns m u → Learns u t → walk.bucket ≡ bucket → walk.from ≡ first
    → AreEntries m bucket first (suc walk.place) top entries → (b : IsBounded m u walk place given)
    → AreEntries t bucket first (suc place) top (entries ++ b.passed)
passed_more v m u t walk bucket first place given top entries on last bucket_is first_is h b =
    let within = b.within in
    entries_both t bucket first (suc place) (suc walk.place) top entries b.passed
    (entries_later m t bucket first (suc walk.place) top entries (learns_both m u t on last) h)
    (entries_above t bucket first (suc place) (suc b.end) (suc walk.place) b.passed (omega arith)
    (entries_passed t bucket first walk.place b.end b.passed
    (down_later u t bucket first walk.place b.end b.passed last
    (subst (λ (z : ℕ × ℕ). LeadDown u z.0 z.1 walk.place b.end b.passed) (λ i. (bucket_is i, first_is i)) b.down))))

-- the walk gave an entry, which was compared
pub descent_next : (v m u t : View) (walk : Walk) (bucket first place : ℕ) (node : Node) (before rows after : List Row)
    (old mid late new : ℕ) → Learns m u → Learns u t → walk.bucket ≡ bucket → walk.from ≡ first
    → IsDescent v m bucket first walk.place before rows old mid → IsBounded m u walk place (Some node)
    → late + m.clock.loads ≡ mid + u.clock.loads → HasLoadedRows u t rows after late new 36
    → IsDescent v t bucket first place before after old new
descent_next v m u t walk bucket first place node before rows after old mid late new on last bucket_is first_is h b same one =
    let some = b.few.0 in
    let few = b.few.1 in
    let longer = length-append h.entries b.passed in
    let all = loaded_both v u t before rows after old late new _ 36 last
    (loaded_both v m u before rows rows old mid late (38 * length h.entries + 1) (2 * length b.passed) on h.loaded
    (loaded_none m u rows mid late (2 * length b.passed) (walked m u mid late (2 * length b.passed) same few))) one in
    record {
      top = h.top;
      entries = h.entries ++ b.passed;
      linked = passed_more v m u t walk bucket first place (Some node) h.top h.entries on last bucket_is first_is h.linked b;
      loaded = loaded_within v t before after old new _ (38 * length (h.entries ++ b.passed) + 1) (omega arith) all;
    }

-- or none was left: this is what an index piece is allowed
pub descent_end : (v m u : View) (walk : Walk) (def : Definition) (value : Value) (id from to place : ℕ) (opens : List ℕ)
    (before after : List Row) (old mid new : ℕ) → Learns m u → from ≤ to → walk.bucket ≡ bucket_of_value u id value
    → walk.from ≡ from → IsDescent v m (bucket_of_value u id value) from walk.place before after old mid
    → IsBounded m u walk place None → new + m.clock.loads ≡ mid + u.clock.loads
    → Adds u def value from to opens before after → IsIndexWork v u value after id from to old new
descent_end v m u walk def value id from to place opens before after old mid new on less bucket_is first_is h b same (found, is, finds) =
    let few = b.few in
    let longer = length-append h.entries b.passed in
    let mine = h.loaded.rows in
    let rows : mine ≡ found = append_cancel_left before mine found (sym h.loaded.added ∙ is) in
    let are = rows_later m u mine h.loaded.records on h.loaded.are in (
      38 * length (h.entries ++ b.passed) + words_of_found h.loaded.records + 2,
      record {
        top = h.top;
        entries = h.entries ++ b.passed;
        linked = entries_above u _ from 0 (suc place) h.top (h.entries ++ b.passed) (omega arith)
            (passed_more v m u u walk _ from place None h.top h.entries on (learns_self u) bucket_is first_is h.linked b);
        records = h.loaded.records;
        are = rows_fall u from to found h.loaded.records less finds.falls finds.above
            (subst (λ (z : List Row). AreRecordsOf u z h.loaded.records) rows are);
        given = λ f m. let t = rows_given u mine h.loaded.records f are m in (
          t.0,
          subst (Among t.0) (sym h.loaded.added) (among_right t.0 before mine t.1),
          t.2,
        );
        few = omega arith;
      },
      rises_within v u old new _ _ (omega arith) (rises_both v m u old mid new _ _ h.loaded.rises
          (walked m u mid new (2 * length b.passed + 1) same (omega arith))),
    )
