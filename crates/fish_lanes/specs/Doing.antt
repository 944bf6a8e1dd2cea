-- The items of answers.
use Rattle.std.specs.Prelude.{ℕ}
use Rattle.fish_report.specs.declared.item.Item.{Item}
use Rattle.fish_report.specs.declared.item.Item.TheVariants as item
use Rattle.fish_scan.specs.declared.ask.Answer.{Answer}
use Rattle.fish_scan.specs.declared.ask.Ask.{Ask}
use Rattle.fish_scan.specs.declared.ask.Explained.{Explained}

-- the item of a scan, and of a plan
abbrev pub scanned_item : Ask → Answer → ℕ → Item
scanned_item ask answer version =
    item.Scanned ask.name ask.value answer.from answer.to answer.opens answer.rows version

abbrev pub explained_item : Ask → Explained → ℕ → Item
explained_item ask explained version =
    item.Explained ask.name ask.value explained.from explained.to explained.plan version
