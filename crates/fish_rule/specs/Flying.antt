-- The region that a pass keeps of its record in flight.
use Rattle.std.specs.Prelude.{Option, option_map}
use Rattle.fish_rule.specs.declared.table.Region.{Region}
use Rattle.fish_rule.specs.declared.view.Flight.{Flight}

-- the region of a record in flight
abbrev pub region_of : Flight → Region
region_of f = record { number = f.number; line = f.line; lines = f.lines }

-- the region of the record in flight, where there is one
abbrev pub region_in : Option Flight → Option Region
region_in flight = option_map region_of flight
