-- The entries of a closed log, kept in the words of its table.
use Rattle.std.specs.Prelude.{ℕ, ◌≡◌, ◌+◌, ◌<◌, List, []}
use Rattle.core.specs.Mem.Slots.{IsFull, slots_items, slots_len}
use Rattle.fish_catalog.specs.declared.entry.Entry.{Entry}
use Rattle.fish_rule.specs.LogWords.{entries_in}
use Rattle.fish_rule.specs.Parts.{IsEntryWord}
use Rattle.fish_rule.specs.Rule.{Rule}
use Rattle.fish_rule.specs.World.{World, total, world}
use Rattle.fish_rule.specs.declared.kept.LogEntries.TheInside.{Inside}
use Rattle.fish_rule.specs.declared.view.View.{View}

-- the words as a world, with these views
abbrev pub kept_world : Inside → List View → World
kept_world a views = world a.key (slots_items a.closed.words) views

-- the entries that the words spell
abbrev pub entries_kept : Inside → List Entry
entries_kept a = entries_in (kept_world a []).dir (kept_world a []).log a.key.number a.count

-- the words are those of a moment that meets the rule, and each of so many numbers has an entry
pub record KeepsEntries (a : Inside) : Type 0 where
  pub full : IsFull a.closed.words
  pub bare : slots_len a.closed.slots ≡ 0
  pub wide : slots_len a.closed.words ≡ total a.key
  pub views : List View
  pub rule : Rule a.key (kept_world a views)
  pub listed : (i : ℕ) → i < a.count → IsEntryWord ((kept_world a []).dir (a.key.number + i))
