-- The text of a report, by cases: one word an item.
use Rattle.std.specs.Prelude.{ℕ, List, [], ◌++◌, length, codes, Bool, true, false}
use Rattle.std.specs.List.{flat_map}
use Rattle.fish_report.specs.Parts.{counts_text, rows_text}
use Rattle.fish_report.specs.StatementText.{bound_text, count_text, deregistered_text, explain_text, found_text}
use Rattle.fish_report.specs.StatementText.{ingested_text, lanes_text, plan_text, registered_text, rolling_text}
use Rattle.fish_report.specs.StatementText.{scan_text, select_line}
use Rattle.fish_report.specs.RefusalText.{deregister_text, ingest_full_text, ingest_too_long_text, refused_text}
use Rattle.fish_report.specs.RefusalText.{register_text, scan_cause, select_too_long_text}
use Rattle.fish_value.specs.declared.row.Row.{Row}
use Rattle.fish_report.specs.declared.item.Item.{Item}
use Rattle.fish_report.specs.declared.item.Item.TheVariants as item

-- the text of an item but for its rows
abbrev pub head_text : Item → List ℕ
head_text (item.Select rows count refused) = select_line (length rows) count refused
head_text (item.SelectTooLong file) = select_too_long_text file
head_text item.Created = codes "created\n"
head_text (item.Opened count) = count_text (codes "opened") count
head_text (item.Statement from to) = []
head_text (item.Lanes from to) = lanes_text from to
head_text (item.Lane number) = count_text (codes "lane") number
head_text item.End = codes "end\n"
head_text (item.Registered name id from def) = registered_text name id from
head_text (item.Rolling name id def seat version) = rolling_text name id
head_text (item.Bound id from) = bound_text id from
head_text (item.Deregistered name id to) = deregistered_text name id to
head_text (item.Ingested file stored refused) = ingested_text file stored refused
head_text (item.Scanned name value from to opens rows version) =
    scan_text name value from to ++ found_text (length rows) opens
head_text (item.Explained name value from to plan version) =
    explain_text name value from to ++ plan_text plan
head_text (item.Checkpointed count) = count_text (codes "checkpoint") count
head_text (item.Closed count) = count_text (codes "closed") count
head_text (item.RegisterRefused name cause) = refused_text (codes "register") name (register_text cause)
head_text (item.DeregisterRefused name cause) = refused_text (codes "deregister") name (deregister_text cause)
head_text (item.IngestFull file line lines end stored refused) =
    ingest_full_text file line lines end ++ counts_text stored refused
head_text (item.IngestTooLong file stored refused) = ingest_too_long_text file stored refused
head_text (item.ScanRefused name version cause) = refused_text (codes "scan") name (scan_cause version cause)
head_text (item.ExplainRefused name version cause) = refused_text (codes "explain") name (scan_cause version cause)

-- the rows of a selection or a scan, and none of any other item
abbrev pub rows_of_item : Item → List Row
rows_of_item (item.Select rows count refused) = rows
rows_of_item (item.Scanned name value from to opens rows version) = rows
rows_of_item _ = []

-- the text of an item: its rows come after all else
abbrev pub item_text : Item → List ℕ
item_text item = head_text item ++ rows_text (rows_of_item item)

-- the text of a report is that of its items, one after the other
abbrev pub report_text : List Item → List ℕ
report_text items = flat_map item_text items

-- the item tells that something was refused
abbrev pub is_refusal : Item → Bool
is_refusal (item.SelectTooLong file) = true
is_refusal (item.RegisterRefused name cause) = true
is_refusal (item.DeregisterRefused name cause) = true
is_refusal (item.IngestFull file line lines end stored refused) = true
is_refusal (item.IngestTooLong file stored refused) = true
is_refusal (item.ScanRefused name version cause) = true
is_refusal (item.ExplainRefused name version cause) = true
is_refusal _ = false
