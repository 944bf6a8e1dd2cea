-- The texts of what was refused, by statement, and of the causes. Each line begins with `refused` and ends by LF.
use Rattle.std.specs.Prelude.{ℕ, List, ◌++◌, decimal, codes}
use Rattle.fish_catalog.specs.Limits.{most_active, most_rows}
use Rattle.fish_report.specs.Parts.{counts_text, file_text, range_text}
use Rattle.fish_report.specs.declared.item.RegisterCause.{RegisterCause}
use Rattle.fish_report.specs.declared.item.RegisterCause.TheVariants as register
use Rattle.fish_report.specs.declared.item.DeregisterCause.{DeregisterCause}
use Rattle.fish_report.specs.declared.item.DeregisterCause.TheVariants as deregister
use Rattle.fish_report.specs.declared.item.ScanCause.{ScanCause}
use Rattle.fish_report.specs.declared.item.ScanCause.TheVariants as scan

-- `refused select FILE too long`
unfoldable pub select_too_long_text : List ℕ → List ℕ
select_too_long_text file = codes "refused select " ++ (file_text file ++ codes " too long\n")

-- why a definition was not registered: `rolling id I` or the limit that was met
abbrev pub register_text : RegisterCause → List ℕ
register_text (register.Rolling id) = codes "rolling id " ++ decimal id
register_text register.TooManyVersions = codes "too many versions " ++ decimal 512
register_text register.NameActive = codes "name active"
register_text register.TooManyActive = codes "too many active " ++ decimal most_active
register_text register.TooManyDefinitions = codes "too many definitions " ++ decimal most_rows

-- why a definition was not deregistered
abbrev pub deregister_text : DeregisterCause → List ℕ
deregister_text (deregister.Rolling id) = codes "rolling id " ++ decimal id
deregister_text deregister.TooManyVersions = codes "too many versions " ++ decimal 512
deregister_text deregister.UnknownName = codes "unknown name"

-- why a range was not scanned, or its plan not told: no definition has the name at this version, or the range
abbrev pub scan_cause : ℕ → ScanCause → List ℕ
scan_cause version scan.UnknownName = codes "unknown name version " ++ decimal version
scan_cause version (scan.EmptyRange from to) = codes "empty range " ++ range_text from to
scan_cause version (scan.NotCovered from to) = codes "not covered " ++ range_text from to

-- `refused STATEMENT NAME CAUSE`
unfoldable pub refused_text : List ℕ → List ℕ → List ℕ → List ℕ
refused_text statement name cause =
    codes "refused " ++ (statement ++ (codes " " ++ (name ++ (codes " " ++ (cause ++ codes "\n")))))

-- `refused ingest FILE full line A lines L end E`, the first part of a line
unfoldable pub ingest_full_text : List ℕ → ℕ → ℕ → ℕ → List ℕ
ingest_full_text file line lines end =
    codes "refused ingest " ++
    (file_text file ++
    (codes " full line " ++ (decimal line ++ (codes " lines " ++ (decimal lines ++ (codes " end " ++ decimal end))))))

-- `refused ingest FILE too long stored S refused R`
unfoldable pub ingest_too_long_text : List ℕ → ℕ → ℕ → List ℕ
ingest_too_long_text file stored refused =
    codes "refused ingest " ++ (file_text file ++ (codes " too long" ++ counts_text stored refused))
